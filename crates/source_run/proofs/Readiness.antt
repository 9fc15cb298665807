-- Planned sources of sound tables make lawful scans.
use Rattle.std.proofs.Common.{◌≡◌, ℕ, Bool, true, false, ◌&&◌, ◌||◌, nat_le, List, [], ◌∷◌, Option, Some, None, Result, Ok, Err, if◌then◌else◌, refl, sym, ap, subst, ◌∙◌}
use Rattle.std.specs.Prelude.{is_none}
use Rattle.std.specs.List.{list_all, list_any}
use Rattle.std.specs.Option.{option_map_or}
use Rattle.sp_value.specs.declared.truth.Op.{Op}
use Rattle.sp_value.specs.declared.truth.Op.TheVariants as op
use Rattle.sp_model.specs.Calls.{fit_keys}
use Rattle.sp_model.specs.Covers.{is_get}
use Rattle.sp_model.specs.Keys.{same_operator, is_on, is_sent, is_equality, list_access, is_get_met, choose_list, choose}
use Rattle.sp_model.specs.Requests.{keys_for, keys_of_get, keys_of_list}
use Rattle.sp_model.specs.Settling.{attempts_of, or_else}
use Rattle.sp_model.specs.declared.call.Condition.{Condition}
use Rattle.sp_model.specs.declared.declaration.AccessDecl.{AccessDecl}
use Rattle.sp_model.specs.declared.declaration.GetDecl.{GetDecl}
use Rattle.sp_model.specs.declared.declaration.KeyDecl.{KeyDecl}
use Rattle.sp_model.specs.declared.declaration.ListDecl.{ListDecl}
use Rattle.sp_model.specs.declared.declaration.Retry.{Retry}
use Rattle.sp_model.specs.declared.declaration.TableDecl.{TableDecl}
use Rattle.sp_model.specs.declared.scan.Access.{Access}
use Rattle.sp_model.specs.declared.scan.Access.TheVariants as access
use Rattle.sp_model.specs.declared.scan.ScanRequest.{ScanRequest}
use Rattle.decl_words.specs.Keys as decl
use Rattle.decl_words.specs.Limits.{retry_fits, rule_fits, access_fits, list_fits, get_fits, function_fits}
use Rattle.decl_words.specs.Sound.{IsSound}
use Rattle.model_laws.specs.LawfulScans.{has_attempts, is_lawful_get_scan, is_lawful_list_scan, has_parent_attempts, is_lawful_parents_scan, is_lawful_access, is_lawful_scan}
use Rattle.model_laws.proofs.Filtering.{all_weaker}

right : (a b : Bool) → (a && b) ≡ true → b ≡ true
right true b h = h
right false b h = absurd (cc)

left : (a b : Bool) → (a && b) ≡ true → a ≡ true
left true b h = refl
left false b h = absurd (cc)

both : (a b : Bool) → a ≡ true → b ≡ true → (a && b) ≡ true
both true b h k = k
both false b h k = absurd (cc)

-- ---- attempts

abbrev Fits : Option Retry → Type 0
Fits r = option_map_or retry_fits r true ≡ true

least : (r : Option Retry) → Fits r → nat_le 1 (attempts_of r) ≡ true
least None h = refl
least (Some r) h = right _ _ (left _ _ (left _ _ (left _ _ h)))

else_fits : (a b : Option Retry) → Fits a → Fits b → Fits (or_else a b)
else_fits None b h k = k
else_fits (Some r) b h k = h

attempts : (t : TableDecl) → IsSound t → (ignore : Option (List (List ℕ))) (retry : Option Retry) → rule_fits ignore retry ≡ true → has_attempts t ignore retry ≡ true
attempts t sound ignore retry fits =
    least (or_else retry (or_else t.retry t.plugin.retry))
    (else_fits retry (or_else t.retry t.plugin.retry) (right _ _ fits) (else_fits t.retry t.plugin.retry (right _ _ (right _ _ sound.limits)) (right _ _ sound.plugin)))

function_attempts : (t : TableDecl) → IsSound t → list_all (λ f. has_attempts t f.ignore f.retry) t.functions ≡ true
function_attempts t sound =
    all_weaker function_fits (λ f. has_attempts t f.ignore f.retry) (λ f h. attempts t sound f.ignore f.retry (right _ _ (right _ _ h))) t.functions
    (right _ _ (left _ _ (left _ _ (left _ _ sound.limits))))

fits_some : {X : Type 0} (p : X → Bool) (o : Option X) (x : X) → o ≡ Some x → option_map_or p o true ≡ true → p x ≡ true
fits_some {X} p o x e h = subst (λ (y : Option X). option_map_or p y true ≡ true) e h

list_attempts : (t : TableDecl) → IsSound t → (d : ListDecl) → t.list ≡ Some d → has_attempts t d.ignore d.retry ≡ true
list_attempts t sound d e =
    let fits : list_fits d ≡ true = fits_some list_fits t.list d e (right _ _ (left _ _ (left _ _ sound.limits))) in
    attempts t sound d.ignore d.retry (right _ _ (right _ _ fits))

get_attempts : (t : TableDecl) → IsSound t → (d : GetDecl) → t.get ≡ Some d → has_attempts t d.ignore d.retry ≡ true
get_attempts t sound d e =
    let fits : get_fits d ≡ true = fits_some get_fits t.get d e (right _ _ (left _ _ sound.limits)) in
    attempts t sound d.ignore d.retry (right _ _ (right _ _ fits))

parent_attempts : (t : TableDecl) → IsSound t → (d : ListDecl) → t.list ≡ Some d → (p : AccessDecl) → d.parent ≡ Some p → has_attempts t p.ignore p.retry ≡ true
parent_attempts t sound d e p at =
    let fits : list_fits d ≡ true = fits_some list_fits t.list d e (right _ _ (left _ _ (left _ _ sound.limits))) in
    let own : access_fits p ≡ true = fits_some access_fits d.parent p at (right _ _ (left _ _ fits)) in
    attempts t sound p.ignore p.retry (right _ _ (right _ _ own))

-- ---- gets

equal_operator : (o : Op) (ops : List Op) → list_all decl.is_equality ops ≡ true → list_any (same_operator o) ops ≡ true → same_operator o op.Eq ≡ true
equal_operator o [] all h = absurd (cc)
equal_operator o (op.Eq ∷ ops) all h = one (λ k. equal_operator o ops all k) (same_operator o op.Eq) refl
  where
    one : (list_any (same_operator o) ops ≡ true → same_operator o op.Eq ≡ true) → (b : Bool) → same_operator o op.Eq ≡ b → same_operator o op.Eq ≡ true
    one later true e = e
    one later false e = later (ap (λ (x : Bool). x || list_any (same_operator o) ops) (sym e) ∙ h)
equal_operator o (op.Ne ∷ ops) all h = absurd (cc)
equal_operator o (op.Lt ∷ ops) all h = absurd (cc)
equal_operator o (op.Le ∷ ops) all h = absurd (cc)
equal_operator o (op.Gt ∷ ops) all h = absurd (cc)
equal_operator o (op.Ge ∷ ops) all h = absurd (cc)

equal_condition : (keys : List KeyDecl) (c : Condition) → list_all (λ k. decl.are_equalities k.operators) keys ≡ true → is_sent keys c ≡ true → is_equality c ≡ true
equal_condition [] c all h = absurd (cc)
equal_condition (k ∷ ks) c all h = one (λ x. equal_condition ks c (right _ _ all) x) (is_on k c) refl
  where
    one : (is_sent ks c ≡ true → is_equality c ≡ true) → (b : Bool) → is_on k c ≡ b → is_equality c ≡ true
    one later true e = equal_operator c.operator k.operators (right _ _ (left _ _ all)) (right _ _ e)
    one later false e = later (ap (λ (x : Bool). x || is_sent ks c) (sym e) ∙ h)

equal_conditions : (keys : List KeyDecl) (cs : List Condition) → decl.fit_get keys ≡ true → list_all (is_sent keys) cs ≡ true → list_all is_equality cs ≡ true
equal_conditions keys cs fits h = all_weaker (is_sent keys) is_equality (λ c sent. equal_condition keys c (left _ _ fits) sent) cs h

-- ---- accesses

some_is : {X : Type 0} (x y : X) → Some x ≡ Some y → x ≡ y
some_is x y e = cc

get_access : (t : TableDecl) → IsSound t → option_map_or (λ (g : GetDecl). decl.fit_get g.keys) t.get true ≡ true → (keys : List KeyDecl) (cs : List Condition) (get : Option GetDecl) → t.get ≡ get
    → keys_of_get get ≡ Some keys → fit_keys keys cs ≡ true → is_lawful_get_scan t cs get ≡ true
get_access t sound equal keys cs None e of fits = absurd (cc)
get_access t sound equal keys cs (Some d) e of fits =
    let own : fit_keys d.keys cs ≡ true = subst (λ (ks : List KeyDecl). fit_keys ks cs ≡ true) (sym (some_is d.keys keys of)) fits in
    both _ _ (both _ _ (get_attempts t sound d e) own)
    (equal_conditions d.keys cs (fits_some (λ (g : GetDecl). decl.fit_get g.keys) t.get d e equal) (right _ _ (left _ _ own)))

list_access_is : (t : TableDecl) → IsSound t → (keys : List KeyDecl) (cs : List Condition) (d : ListDecl) → t.list ≡ Some d → keys_of_list (Some d) ≡ Some keys → fit_keys keys cs ≡ true → (parent : Option AccessDecl) → d.parent ≡ parent
    → is_lawful_access t cs (list_access parent) ≡ true
list_access_is t sound keys cs d e of fits None at =
    let own : fit_keys d.keys cs ≡ true = subst (λ (ks : List KeyDecl). fit_keys ks cs ≡ true) (sym (some_is d.keys keys of)) fits in
    subst (λ (l : Option ListDecl). is_lawful_list_scan t cs l ≡ true) (sym e)
    (both _ _ (both _ _ (list_attempts t sound d e) own) (ap is_none at))
list_access_is t sound keys cs d e of fits (Some p) at =
    let own : fit_keys d.keys cs ≡ true = subst (λ (ks : List KeyDecl). fit_keys ks cs ≡ true) (sym (some_is d.keys keys of)) fits in
    subst (λ (l : Option ListDecl). is_lawful_parents_scan t cs l ≡ true) (sym e)
    (both _ _ (both _ _ (list_attempts t sound d e) own)
    (subst (λ (o : Option AccessDecl). has_parent_attempts t o ≡ true) (sym at) (parent_attempts t sound d e p at)))

-- ---- the access that is chosen

by_get : (b : Bool) (more : Result Access (List (List ℕ))) (a : Access) → (if b then Ok access.Get else more) ≡ Ok a → is_get a ≡ false → more ≡ Ok a
by_get true more a e differs = absurd (cc)
by_get false more a e differs = e

by_list : (b : Bool) (x : Access) (missing : List (List ℕ)) (a : Access) → (if b then Ok x else Err missing) ≡ Ok a → a ≡ x
by_list true x missing a e = cc
by_list false x missing a e = absurd (cc)

-- a chosen list is the table's own
pub chosen_list : (t : TableDecl) (given : List Condition) (lists : List (List ℕ)) (a : Access) → choose t given lists ≡ Ok a → is_get a ≡ false → (d : ListDecl) → t.list ≡ Some d → a ≡ list_access d.parent
chosen_list t given lists a e other d at =
    by_list _ (list_access d.parent) _ a (subst (λ (l : Option ListDecl). choose_list l t.get given lists ≡ Ok a) at (by_get (is_get_met t.get given lists) (choose_list t.list t.get given lists) a e other))

list_lawful : (t : TableDecl) → IsSound t → (keys : List KeyDecl) (cs : List Condition) (a : Access) (list : Option ListDecl) → t.list ≡ list → keys_of_list list ≡ Some keys → fit_keys keys cs ≡ true
    → ((d : ListDecl) → t.list ≡ Some d → a ≡ list_access d.parent) → is_lawful_access t cs a ≡ true
list_lawful t sound keys cs a None e of fits chosen = absurd (cc)
list_lawful t sound keys cs a (Some d) e of fits chosen =
    subst (λ (x : Access). is_lawful_access t cs x ≡ true) (sym (chosen d e)) (list_access_is t sound keys cs d e of fits d.parent refl)

-- conditions that fit the keys of the chosen access of a sound table make a lawful scan
access_lawful : (t : TableDecl) → IsSound t → option_map_or (λ (g : GetDecl). decl.fit_get g.keys) t.get true ≡ true → (keys : List KeyDecl) (cs : List Condition) (a : Access) → keys_for t a ≡ Some keys → fit_keys keys cs ≡ true
    → (is_get a ≡ false → (d : ListDecl) → t.list ≡ Some d → a ≡ list_access d.parent) → is_lawful_access t cs a ≡ true
unfolding keys_for
access_lawful t sound equal keys cs access.Get of fits chosen = get_access t sound equal keys cs t.get refl of fits
access_lawful t sound equal keys cs access.List of fits chosen = list_lawful t sound keys cs access.List t.list refl of fits (chosen refl)
access_lawful t sound equal keys cs access.Parents of fits chosen = list_lawful t sound keys cs access.Parents t.list refl of fits (chosen refl)

pub scan_lawful : (t : TableDecl) → IsSound t → option_map_or (λ (g : GetDecl). decl.fit_get g.keys) t.get true ≡ true → (keys : List KeyDecl) (r : ScanRequest) → keys_for t r.access ≡ Some keys → fit_keys keys r.conditions ≡ true
    → (is_get r.access ≡ false → (d : ListDecl) → t.list ≡ Some d → r.access ≡ list_access d.parent) → is_lawful_scan t r ≡ true
scan_lawful t sound equal keys r of fits chosen =
    both _ _ (both _ _ (access_lawful t sound equal keys r.conditions r.access of fits chosen) sound.functions) (function_attempts t sound)
