-- Buckets: lists that end, are ignored or are asked again, and functions that need others.
use Rattle.std.specs.Prelude.{◌≡◌, ℕ, true, false, List, [], ◌∷◌, codes, Option, Some, None}
use Rattle.sp_value.specs.declared.cell.Cell.{Cell}
use Rattle.sp_value.specs.declared.cell.Cell as c
use Rattle.sp_model.specs.Settling.{Answers}
use Rattle.sp_model.specs.Walk.{scan_walk, walk_value, is_complete, is_steady}
use Rattle.sp_model.specs.declared.call.Call.{Call}
use Rattle.sp_model.specs.declared.call.Call.TheVariants as call
use Rattle.sp_model.specs.declared.scan.Access.TheVariants as access
use Rattle.sp_model.specs.declared.scan.Cause.{Cause}
use Rattle.sp_model.specs.declared.scan.Cause.TheVariants as cause
use Rattle.sp_model.specs.declared.scan.ScanRequest.{ScanRequest}
use Rattle.plain_program.specs.declared.script.Written.{Written}
use Rattle.worked_values.specs.Samples.{number, named, bucket, request_of, answers_by, ends, refused, Gives, FailsAt, Calls}

abbrev pub asked : List (List ℕ) → Option ℕ → ScanRequest
asked columns limit = request_of bucket access.List [] columns limit

abbrev pub name : List (List ℕ)
name = codes "name" ∷ []

abbrev pub acl : List (List ℕ)
acl = codes "acl" ∷ []

abbrev pub policy : List (List ℕ)
policy = codes "policy" ∷ []

abbrev pub row : List ℕ → List Cell
row value = c.Text value ∷ []

-- `{"acl": ..}`, `{"policy": ..}`
abbrev pub with_acl : List ℕ → Cell
with_acl value = c.Object ((codes "acl", c.Text value) ∷ [])

abbrev pub with_policy : List ℕ → Cell
with_policy value = c.Object ((codes "policy", c.Text value) ∷ [])

abbrev pub list_call : ℕ → Call × ℕ
list_call attempt = (call.List (codes "bucket") [] None, attempt)

abbrev pub acl_call : List ℕ → ℕ → Call × ℕ
acl_call name attempt = (call.Hydrate (codes "bucket") (codes "getAcl") (named name) [], attempt)

-- with the acl
abbrev pub policy_call : List ℕ → Cell → Call × ℕ
policy_call name acl = (call.Hydrate (codes "bucket") (codes "getPolicy") (named name) ((codes "getAcl", acl) ∷ []), 1)

-- ---- lists

abbrev pub three : Answers
three = answers_by (ends (codes "list") [] 1 (named (codes "b1") ∷ named (codes "b2") ∷ named (codes "b3") ∷ []) ∷ [])

abbrev pub ListGivesItsItems : Type 0
ListGivesItsItems =
    Gives bucket (asked name None) three (row (codes "b1") ∷ row (codes "b2") ∷ row (codes "b3") ∷ [])
    × (Calls bucket (asked name None) three (list_call 1 ∷ []) (list_call 1 ∷ [])
    × (is_complete (scan_walk bucket (asked name None) three) ≡ true))

abbrev pub LimitFillsTheWalk : Type 0
LimitFillsTheWalk =
    Gives bucket (asked name (Some 2)) three (row (codes "b1") ∷ row (codes "b2") ∷ [])
    × ((is_complete (scan_walk bucket (asked name (Some 2)) three) ≡ false) × (is_steady (scan_walk bucket (asked name (Some 2)) three) ≡ true))

-- a function whose answer isn't known: its call is used, and those of the rows after it are reached
abbrev pub UnknownAnswerWaits : Type 0
UnknownAnswerWaits =
    (walk_value (scan_walk bucket (asked acl None) three) ≡ None)
    × Calls bucket (asked acl None) three (list_call 1 ∷ acl_call (codes "b1") 1 ∷ []) (list_call 1 ∷ acl_call (codes "b1") 1 ∷ acl_call (codes "b2") 1 ∷ acl_call (codes "b3") 1 ∷ [])

abbrev pub not_found : Answers
not_found = answers_by (refused (codes "list") [] 1 (named (codes "b1") ∷ named (codes "b2") ∷ []) (codes "NotFound: more") ∷ [])

abbrev pub IgnoredListIsTaken : Type 0
IgnoredListIsTaken =
    Gives bucket (asked name None) not_found (row (codes "b1") ∷ row (codes "b2") ∷ [])
    × (Calls bucket (asked name None) not_found (list_call 1 ∷ []) (list_call 1 ∷ [])
    × (is_steady (scan_walk bucket (asked name None) not_found) ≡ true))

-- two buckets and `Throttled`, and then another bucket; each has an acl
abbrev pub again : Answers
again = answers_by
    (refused (codes "list") [] 1 (named (codes "b1") ∷ named (codes "b2") ∷ []) (codes "Throttled")
    ∷ ends (codes "list") [] 2 (named (codes "b4") ∷ [])
    ∷ ends (codes "getAcl") (codes "b1") 1 (with_acl (codes "x") ∷ [])
    ∷ ends (codes "getAcl") (codes "b2") 1 (with_acl (codes "y") ∷ [])
    ∷ ends (codes "getAcl") (codes "b4") 1 (with_acl (codes "z") ∷ [])
    ∷ [])

-- what the first attempt gave is dropped
abbrev pub ThrottledListIsAskedAgain : Type 0
ThrottledListIsAskedAgain =
    Gives bucket (asked name None) again (row (codes "b4") ∷ [])
    × (Calls bucket (asked name None) again (list_call 1 ∷ list_call 2 ∷ []) (list_call 1 ∷ list_call 2 ∷ [])
    × ((is_complete (scan_walk bucket (asked name None) again) ≡ true) × (is_steady (scan_walk bucket (asked name None) again) ≡ false)))

-- and what its rows called counts all the same
abbrev pub DroppedRowsAreUsed : Type 0
DroppedRowsAreUsed =
    Gives bucket (asked acl None) again (row (codes "z") ∷ [])
    × Calls bucket (asked acl None) again
    (list_call 1 ∷ acl_call (codes "b1") 1 ∷ acl_call (codes "b2") 1 ∷ list_call 2 ∷ acl_call (codes "b4") 1 ∷ [])
    (list_call 1 ∷ acl_call (codes "b1") 1 ∷ acl_call (codes "b2") 1 ∷ list_call 2 ∷ acl_call (codes "b4") 1 ∷ [])

-- a limit that is reached before the ending: no call after it is used, and all are reached
abbrev pub LimitComesBeforeTheEnding : Type 0
LimitComesBeforeTheEnding =
    Gives bucket (asked name (Some 2)) again (row (codes "b1") ∷ row (codes "b2") ∷ [])
    × (Calls bucket (asked acl (Some 1)) again (list_call 1 ∷ acl_call (codes "b1") 1 ∷ [])
    (list_call 1 ∷ acl_call (codes "b1") 1 ∷ acl_call (codes "b2") 1 ∷ list_call 2 ∷ acl_call (codes "b4") 1 ∷ []))

abbrev pub broken : Answers
broken = answers_by (refused (codes "list") [] 1 (named (codes "b1") ∷ named (codes "b2") ∷ []) (codes "Broken") ∷ [])

abbrev pub OtherErrorFailsAfterTheItems : Type 0
OtherErrorFailsAfterTheItems = FailsAt bucket (asked name None) broken 3 None (cause.Error (codes "listBuckets") 1 (codes "Broken"))

-- ---- functions

abbrev pub policies : Answers
policies = answers_by
    (ends (codes "list") [] 1 (named (codes "b1") ∷ named (codes "b2") ∷ [])
    ∷ ends (codes "getAcl") (codes "b1") 1 (with_acl (codes "x") ∷ [])
    ∷ ends (codes "getAcl") (codes "b2") 1 []
    ∷ ends (codes "getPolicy") (codes "b1") 1 (with_policy (codes "p") ∷ [])
    ∷ ends (codes "getPolicy") (codes "b2") 1 (with_policy (codes "q") ∷ [])
    ∷ [])

abbrev pub AclOfNoItemIsNull : Type 0
AclOfNoItemIsNull =
    Gives bucket (asked acl None) policies (row (codes "x") ∷ (c.Null ∷ []) ∷ [])
    × Calls bucket (asked acl None) policies (list_call 1 ∷ acl_call (codes "b1") 1 ∷ acl_call (codes "b2") 1 ∷ []) (list_call 1 ∷ acl_call (codes "b1") 1 ∷ acl_call (codes "b2") 1 ∷ [])

abbrev pub policy_calls : List (Call × ℕ)
policy_calls =
    list_call 1 ∷ acl_call (codes "b1") 1 ∷ policy_call (codes "b1") (with_acl (codes "x")) ∷ acl_call (codes "b2") 1 ∷ policy_call (codes "b2") c.Null ∷ []

abbrev pub PolicyIsCalledWithTheAcl : Type 0
PolicyIsCalledWithTheAcl =
    Gives bucket (asked policy None) policies (row (codes "p") ∷ row (codes "q") ∷ []) × Calls bucket (asked policy None) policies policy_calls policy_calls

-- the acls of b2 and b7 are denied
abbrev pub denied : Answers
denied = answers_by
    (ends (codes "list") [] 1 (named (codes "b1") ∷ named (codes "b2") ∷ named (codes "b7") ∷ [])
    ∷ ends (codes "getAcl") (codes "b1") 1 (with_acl (codes "x") ∷ [])
    ∷ ends (codes "getPolicy") (codes "b1") 1 []
    ∷ refused (codes "getAcl") (codes "b2") 1 [] (codes "Denied")
    ∷ refused (codes "getAcl") (codes "b7") 1 [] (codes "Denied")
    ∷ [])

abbrev pub acl_denied : Cause
acl_denied = cause.Error (codes "getAcl") 1 (codes "Denied")

-- b2 stands before b7; the call for b7 is reached, and not used
abbrev pub FirstFailingRowCounts : Type 0
FirstFailingRowCounts =
    FailsAt bucket (asked (codes "name" ∷ acl) None) denied 2 (Some (codes "acl")) acl_denied
    × Calls bucket (asked acl None) denied (list_call 1 ∷ acl_call (codes "b1") 1 ∷ acl_call (codes "b2") 1 ∷ [])
    (list_call 1 ∷ acl_call (codes "b1") 1 ∷ acl_call (codes "b2") 1 ∷ acl_call (codes "b7") 1 ∷ [])

-- a policy fails as its acl does, and isn't called
abbrev pub PolicyFailsWithItsAcl : Type 0
PolicyFailsWithItsAcl =
    FailsAt bucket (asked policy None) denied 2 (Some (codes "policy")) acl_denied
    × Calls bucket (asked policy None) denied
    (list_call 1 ∷ acl_call (codes "b1") 1 ∷ policy_call (codes "b1") (with_acl (codes "x")) ∷ acl_call (codes "b2") 1 ∷ [])
    (list_call 1 ∷ acl_call (codes "b1") 1 ∷ policy_call (codes "b1") (with_acl (codes "x")) ∷ acl_call (codes "b2") 1 ∷ acl_call (codes "b7") 1 ∷ [])

-- the columns stand in the order of the table
abbrev pub FirstFailingColumnCounts : Type 0
FirstFailingColumnCounts = FailsAt bucket (asked (codes "policy" ∷ acl) None) denied 2 (Some (codes "acl")) acl_denied

-- throttled below an attempt
abbrev pub throttled : List Written → Answers
throttled more = answers_by
    (ends (codes "list") [] 1 (named (codes "b1") ∷ [])
    ∷ refused (codes "getAcl") (codes "b1") 1 [] (codes "Throttled")
    ∷ refused (codes "getAcl") (codes "b1") 2 [] (codes "Throttled")
    ∷ more)

abbrev pub three_attempts : List (Call × ℕ)
three_attempts = list_call 1 ∷ acl_call (codes "b1") 1 ∷ acl_call (codes "b1") 2 ∷ acl_call (codes "b1") 3 ∷ []

abbrev pub ThirdAttemptIsTaken : Type 0
ThirdAttemptIsTaken =
    Gives bucket (asked acl None) (throttled (ends (codes "getAcl") (codes "b1") 3 (with_acl (codes "x") ∷ []) ∷ [])) (row (codes "x") ∷ [])
    × Calls bucket (asked acl None) (throttled (ends (codes "getAcl") (codes "b1") 3 (with_acl (codes "x") ∷ []) ∷ [])) three_attempts three_attempts

abbrev pub ThirdAttemptIsTheLast : Type 0
ThirdAttemptIsTheLast =
    FailsAt bucket (asked acl None) (throttled (refused (codes "getAcl") (codes "b1") 3 [] (codes "Throttled") ∷ [])) 1 (Some (codes "acl"))
    (cause.Error (codes "getAcl") 3 (codes "Throttled"))

abbrev pub two_acls : Answers
two_acls = answers_by (ends (codes "list") [] 1 (named (codes "b1") ∷ []) ∷ ends (codes "getAcl") (codes "b1") 1 (with_acl (codes "x") ∷ with_acl (codes "y") ∷ []) ∷ [])

abbrev pub TwoAclsAreTooMany : Type 0
TwoAclsAreTooMany = FailsAt bucket (asked acl None) two_acls 1 (Some (codes "acl")) (cause.TooMany (codes "getAcl") 2)

abbrev pub bad : Answers
bad = answers_by (ends (codes "list") [] 1 (named (codes "b1") ∷ c.Object ((codes "name", number 2) ∷ []) ∷ []) ∷ [])

abbrev pub NameOfOtherKindIsBad : Type 0
NameOfOtherKindIsBad = FailsAt bucket (asked name None) bad 2 (Some (codes "name")) (cause.BadValue (number 2))
