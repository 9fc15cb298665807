-- The rows that a kept scan gives are the request's own.
use Rattle.std.proofs.Common.{◌≡◌, ℕ, Bool, true, false, ◌&&◌, List, Option, Some, None, Result, Ok, Err, refl, sym, ap, subst, ◌∙◌}
use Rattle.std.specs.List.{list_all}
use Rattle.std.specs.Prelude.{is_none, IfOk}
use Rattle.std.proofs.lemmas.Slice.Eq.{bytes_eq-Decides}
use Rattle.sp_value.specs.declared.cell.Cell.{Cell}
use Rattle.sp_model.specs.Book.{Book}
use Rattle.sp_model.specs.Calls.{fit_keys}
use Rattle.sp_model.specs.Covers.{covers, is_get, same_access}
use Rattle.sp_model.specs.Keys.{is_met, list_access}
use Rattle.sp_model.specs.Requests.{IsRequestOf, keys_for, keys_of_list, subset_for, are_sent}
use Rattle.sp_model.specs.Walk.{scan_value}
use Rattle.sp_model.specs.declared.call.Condition.{Condition}
use Rattle.sp_model.specs.declared.declaration.AccessDecl.{AccessDecl}
use Rattle.sp_model.specs.declared.declaration.ListDecl.{ListDecl}
use Rattle.sp_model.specs.declared.declaration.TableDecl.{TableDecl}
use Rattle.sp_model.specs.declared.outcome.ScanValue.TheVariants.{Rows}
use Rattle.sp_model.specs.declared.scan.Access.{Access}
use Rattle.sp_model.specs.declared.scan.Access.TheVariants.{Get, List as OfList, Parents}
use Rattle.sp_model.specs.declared.scan.ScanRequest.{ScanRequest}
use Rattle.decl_words.specs.BookTables.{book_table}
use Rattle.model_laws.specs.Covered.{only_filters, is_asked_of_list, OnlyFilters}
use Rattle.model_laws.specs.LawfulScans.{is_lawful_access, is_lawful_list_scan, is_lawful_parents_scan, has_parent_attempts}
use Rattle.query_cache.specs.Serving.{AreItsOwn}
use Rattle.sp_world.specs.Kept.{IsKeptValue}
use Rattle.sp_world.specs.declared.kept_scan.KeptScan.{KeptScan}
use Rattle.scan_run.specs.Asked.{AllOnlyFilter, IsScanOf, SubsetKeysFilter, meets_list, meets_by, meets_keys}
use Rattle.scan_run.proofs.Scanning.{covered_connection}

left : (a b : Bool) → (a && b) ≡ true → a ≡ true
left true b h = refl
left false b h = absurd (cc)

right : (a b : Bool) → (a && b) ≡ true → b ≡ true
right true b h = h
right false b h = absurd (cc)

both : (a b : Bool) → a ≡ true → b ≡ true → (a && b) ≡ true
both true b h k = k
both false b h k = absurd (cc)

-- ---- what covers says

access_is : (a b : Access) → same_access a b ≡ true → a ≡ b
access_is Get Get h = refl
access_is OfList OfList h = refl
access_is Parents Parents h = refl
access_is Get OfList h = absurd (cc)
access_is Get Parents h = absurd (cc)
access_is OfList Get h = absurd (cc)
access_is OfList Parents h = absurd (cc)
access_is Parents Get h = absurd (cc)
access_is Parents OfList h = absurd (cc)

covered_table : (kept : ScanRequest) (complete : Bool) (r : ScanRequest) → covers kept complete r ≡ true → kept.table ≡ r.table
unfolding covers
covered_table kept complete r h = (bytes_eq-Decides kept.table r.table).0 (right _ _ (left _ _ (left _ _ (left _ _ h))))

covered_access : (kept : ScanRequest) (complete : Bool) (r : ScanRequest) → covers kept complete r ≡ true → kept.access ≡ r.access
unfolding covers
covered_access kept complete r h = access_is kept.access r.access (right _ _ (left _ _ (left _ _ h)))

-- ---- requests of a list

list_alone : (p : Option AccessDecl) → is_none p ≡ true → same_access OfList (list_access p) ≡ true
list_alone None h = refl
list_alone (Some p) h = absurd (cc)

list_under : (table : TableDecl) (p : Option AccessDecl) → has_parent_attempts table p ≡ true → same_access Parents (list_access p) ≡ true
list_under table None h = absurd (cc)
list_under table (Some p) h = refl

-- the access of a lawful scan of a list is the list's own, and its conditions fit the keys
list_is_lawful : (table : TableDecl) (d : ListDecl) (conditions : List Condition) (a : Access) → table.list ≡ Some d → is_get a ≡ false → is_lawful_access table conditions a ≡ true
    → (same_access a (list_access d.parent) ≡ true) × (fit_keys d.keys conditions ≡ true)
list_is_lawful table d conditions Get e other h = absurd (cc)
list_is_lawful table d conditions OfList e other h =
    let lawful : is_lawful_list_scan table conditions (Some d) ≡ true = subst (λ (l : Option ListDecl). is_lawful_list_scan table conditions l ≡ true) e h in
    (list_alone d.parent (right _ _ lawful), right _ _ (left _ _ lawful))
list_is_lawful table d conditions Parents e other h =
    let lawful : is_lawful_parents_scan table conditions (Some d) ≡ true = subst (λ (l : Option ListDecl). is_lawful_parents_scan table conditions l ≡ true) e h in
    (list_under table d.parent (right _ _ lawful), right _ _ (left _ _ lawful))

-- one without a list isn't lawful
list_is_there : (table : TableDecl) (conditions : List Condition) (a : Access) → table.list ≡ None → is_get a ≡ false → is_lawful_access table conditions a ≡ true → ⊥
list_is_there table conditions Get e other h = absurd (cc)
list_is_there table conditions OfList e other h =
    let lawful : is_lawful_list_scan table conditions None ≡ true = subst (λ (l : Option ListDecl). is_lawful_list_scan table conditions l ≡ true) e h in absurd (cc)
list_is_there table conditions Parents e other h =
    let lawful : is_lawful_parents_scan table conditions None ≡ true = subst (λ (l : Option ListDecl). is_lawful_parents_scan table conditions l ≡ true) e h in absurd (cc)

sent_and_met : (d : ListDecl) (request : ScanRequest) → are_sent (Some d.keys) request ≡ true → is_met d.keys request.conditions ≡ true → fit_keys d.keys request.conditions ≡ true
unfolding are_sent
sent_and_met d request sent met = both _ _ (left _ _ sent) met

-- a request that is made of a table, by a list whose keys its conditions meet
list_fits : (table : TableDecl) (d : ListDecl) (request : ScanRequest) (a : Access) → table.list ≡ Some d → is_get a ≡ false → are_sent (keys_for table a) request ≡ true
    → meets_by a table.list request.conditions ≡ true → fit_keys d.keys request.conditions ≡ true
unfolding keys_for
list_fits table d request Get e other sent met = absurd (cc)
list_fits table d request OfList e other sent met =
    sent_and_met d request (subst (λ (l : Option ListDecl). are_sent (keys_of_list l) request ≡ true) e sent) (subst (λ (l : Option ListDecl). meets_list l request.conditions ≡ true) e met)
list_fits table d request Parents e other sent met =
    sent_and_met d request (subst (λ (l : Option ListDecl). are_sent (keys_of_list l) request ≡ true) e sent) (subst (λ (l : Option ListDecl). meets_list l request.conditions ≡ true) e met)

-- a scan of a list that may be made
pub asked_of_list : (table : TableDecl) (d : ListDecl) (request : ScanRequest) → table.list ≡ Some d → is_get request.access ≡ false → IsScanOf table request → is_asked_of_list table d request ≡ true
asked_of_list table d request e other asked =
    let law = list_is_lawful table d request.conditions request.access e other (left _ _ (left _ _ asked.lawful)) in
    both _ _ (both _ _ law.0 law.1) (subst (λ (l : Option ListDecl). AllOnlyFilter table request.subset l) e asked.subset)

-- ---- the law of kept scans

module _ (table : TableDecl) (kept request : ScanRequest) (made : IsRequestOf table kept) (met : meets_keys table kept ≡ true) (asked : IsScanOf table request) (same : kept.access ≡ request.access)
    (other : is_get request.access ≡ false) where
  lawful : is_lawful_access table request.conditions request.access ≡ true
  lawful = left _ _ (left _ _ asked.lawful)

  kept_no : is_get kept.access ≡ false
  kept_no = ap is_get same ∙ other

  same_subset : kept.subset ≡ request.subset
  same_subset = made.subset ∙ ap (subset_for table) same ∙ sym asked.made.subset

  module _ (d : ListDecl) (e : table.list ≡ Some d) where
    only : list_all (only_filters table d) request.subset ≡ true
    only = subst (λ (l : Option ListDecl). AllOnlyFilter table request.subset l) e asked.subset

    request_asked : is_asked_of_list table d request ≡ true
    request_asked = asked_of_list table d request e other asked

    kept_asked : is_asked_of_list table d kept ≡ true
    kept_asked =
        let law = list_is_lawful table d request.conditions request.access e other lawful in
        both _ _ (both _ _ (ap (λ (a : Access). same_access a (list_access d.parent)) same ∙ law.0) (list_fits table d kept kept.access e kept_no made.sent met))
        (ap (list_all (only_filters table d)) same_subset ∙ only)

  only_filter : (book : Book) (list : Option ListDecl) → table.list ≡ list → SubsetKeysFilter book → book_table book request.connection request.table ≡ Some table → OnlyFilters book table kept request list
  only_filter book None e filters of_book = list_is_there table request.conditions request.access e other lawful
  only_filter book (Some d) e filters of_book = (filters request.connection request.table table d of_book e, both _ _ (kept_asked d e) (request_asked d e))

-- the rows that a kept scan gives are the request's own value
served_value : (book : Book) (table : TableDecl) (kept : KeptScan) (request : ScanRequest) (rows : List (List Cell))
    → covers kept.note.request kept.complete request ≡ true → meets_keys table kept.note.request ≡ true → IsScanOf table request → IsKeptValue book kept → AreItsOwn book kept request rows
    → SubsetKeysFilter book → book_table book request.connection request.table ≡ Some table → scan_value book table request kept.note.version ≡ Some (Rows rows)
served_value book table kept request rows covered met asked is_kept own filters of_book =
    let connection = covered_connection kept.note.request kept.complete request covered in
    let name = covered_table kept.note.request kept.complete request covered in
    let kept_of_book : book_table book kept.note.request.connection kept.note.request.table ≡ Some table =
    ap (λ (c : List ℕ). book_table book c kept.note.request.table) connection ∙ ap (book_table book request.connection) name ∙ of_book in
    own table of_book asked.made
    (λ other. only_filter table kept.note.request request (is_kept.walk table kept_of_book).made_of met asked (covered_access kept.note.request kept.complete request covered) other book table.list refl filters of_book)

pub served_ok : {E : Type 0} (book : Book) (table : TableDecl) (kept : KeptScan) (request : ScanRequest) (result : Result (List (List Cell)) E)
    → covers kept.note.request kept.complete request ≡ true → meets_keys table kept.note.request ≡ true → IsScanOf table request → IsKeptValue book kept → SubsetKeysFilter book
    → book_table book request.connection request.table ≡ Some table → IfOk result (λ rows. AreItsOwn book kept request rows) → IfOk result (λ rows. scan_value book table request kept.note.version ≡ Some (Rows rows))
served_ok book table kept request (Ok rows) covered met asked is_kept filters of_book own = served_value book table kept request rows covered met asked is_kept own filters of_book
served_ok book table kept request (Err e) covered met asked is_kept filters of_book own = tt
