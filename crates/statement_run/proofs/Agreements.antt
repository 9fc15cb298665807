-- Connections that one name stands for declare the same.
use Rattle.std.proofs.Common.{◌≡◌, ◌⊎◌, inl, inr, ℕ, Bool, true, false, List, [], ◌∷◌, ◌++◌, map, Option, Some, None, IsSome, refl, ap, subst, sym, ◌∙◌}
use Rattle.std.specs.Prelude.{bytes_eq, All, find, slice_get, option_and_then}
use Rattle.sp_model.specs.Names.{has_name}
use Rattle.sp_model.specs.declared.declaration.Declaration.{Declaration}
use Rattle.sql_bind.proofs.Agreeing.{Each}
use Rattle.sql_bind.proofs.Declared.{split}
use Rattle.declaration_run.specs.Declaring.{AgreesIn, Agrees, AllAgree, first_in}
use Rattle.statement_run.proofs.Eaches.{each_of_all, itself, is_it}

-- each of these connections, which come after some, agrees in one group with those up to it
abbrev AgreeIn : (List ℕ → Option Declaration) → List (List ℕ) → List (List ℕ) → List (List ℕ) → Type 0
AgreeIn ds group before [] = Unit {0}
AgreeIn ds group before (c ∷ cs) = AgreesIn ds (before ++ c ∷ []) c group × AgreeIn ds group (before ++ c ∷ []) cs

-- those of one group, of all that agree in each
heads : (ds : List ℕ → Option Declaration) (groups : List (List (List ℕ))) (before cs : List (List ℕ)) → AllAgree ds groups before cs → Each (λ g. AgreeIn ds g before cs) groups
heads ds groups before [] all = each_unit groups
  where
    each_unit : (gs : List (List (List ℕ))) → Each (λ g. Unit {0}) gs
    each_unit [] = tt
    each_unit (g ∷ gs) = (tt, each_unit gs)
heads ds groups before (c ∷ cs) all = join groups (each_of_all (AgreesIn ds (before ++ c ∷ []) c) groups all.0) (heads ds groups (before ++ c ∷ []) cs all.1)
  where
    join : (gs : List (List (List ℕ))) → Each (AgreesIn ds (before ++ c ∷ []) c) gs → Each (λ g. AgreeIn ds g (before ++ c ∷ []) cs) gs → Each (λ g. AgreeIn ds g before (c ∷ cs)) gs
    join [] own later = tt
    join (g ∷ gs) own later = ((own.0, later.0), join gs own.1 later.1)

-- the first of a group, looked for up to one that is of it
first_up_to : (group before : List (List ℕ)) (c : List ℕ) (cs : List (List ℕ)) (first : List ℕ) → has_name group c ≡ true → first_in (before ++ c ∷ cs) group ≡ Some first → first_in (before ++ c ∷ []) group ≡ Some first
first_up_to group [] c cs first is e = rw is (rw is at e)
first_up_to group (b ∷ bs) c cs first is e = elim (split (has_name group b)) [
  | inl here ↦ rw here (rw here at e)
  | inr isnt ↦ rw isnt (first_up_to group bs c cs first is (rw isnt at e))
]

grouped : (before : List (List ℕ)) (c : List ℕ) (cs : List (List ℕ)) → (before ++ c ∷ []) ++ cs ≡ before ++ c ∷ cs
grouped [] c cs = refl
grouped (b ∷ bs) c cs = ap (λ xs. b ∷ xs) (grouped bs c cs)

pub some_is : (x : Option Declaration) → IsSome x → (d : Declaration) × (x ≡ Some d)
some_is (Some d) h = (d, refl)
some_is None h = absurd (cc)

-- each of a group, of these connections that come after some, declares what the first does
as_first : (ds : List ℕ → Option Declaration) (group before cs : List (List ℕ)) (first : List ℕ) (theirs : Declaration) → ds first ≡ Some theirs
    → ((m : List ℕ) → has_name cs m ≡ true → IsSome (ds m)) → AgreeIn ds group before cs → first_in (before ++ cs) group ≡ Some first
    → (m : List ℕ) → has_name cs m ≡ true → has_name group m ≡ true → ds m ≡ Some theirs
as_first ds group before [] first theirs is declared agree found m there of = absurd (cc)
as_first ds group before (c ∷ cs) first theirs is declared agree found m there of = elim (split (bytes_eq m c)) [
  | inl it ↦ here (is_it m c it)
  | inr isnt ↦ as_first ds group (before ++ c ∷ []) cs first theirs is (λ n among. declared n (later n among)) agree.1 (ap (λ xs. first_in xs group) (grouped before c cs) ∙ found) m (rw isnt at there) of
]
  where
    later : (n : List ℕ) → has_name cs n ≡ true → has_name (c ∷ cs) n ≡ true
    later n among = elim (split (bytes_eq n c)) [
      | inl it ↦ rw it refl
      | inr isnt ↦ rw (isnt, among) refl
    ]

    here : m ≡ c → ds m ≡ Some theirs
    here same =
        let own : (d : Declaration) × (ds m ≡ Some d) = some_is (ds m) (declared m there) in
        let of_c : has_name group c ≡ true = subst (λ (x : List ℕ). has_name group x ≡ true) same of in
        let own_c : ds c ≡ Some own.0 = subst (λ (x : List ℕ). ds x ≡ Some own.0) same own.1 in
        let alike : theirs ≡ own.0 = agree.0 first theirs own.0 of_c (first_up_to group before c cs first of_c found) is own_c in
        own.1 ∙ ap Some (sym alike)

-- one of a group is found among names that have one of it
found_in : (group names : List (List ℕ)) (m : List ℕ) → has_name names m ≡ true → has_name group m ≡ true → (first : List ℕ) × (first_in names group ≡ Some first) × (has_name names first ≡ true)
found_in group [] m there of = absurd (cc)
found_in group (n ∷ ns) m there of = elim (split (has_name group n)) [
  | inl here ↦ (n, rw here refl, rw (itself n) refl)
  | inr isnt ↦ elim (split (bytes_eq m n)) [
    | inl it ↦ let same : m ≡ n = is_it m n it in let never : false ≡ true = sym isnt ∙ subst (λ (x : List ℕ). has_name group x ≡ true) same of in absurd (cc)
    | inr other ↦ let r : (first : List ℕ) × (first_in ns group ≡ Some first) × (has_name ns first ≡ true) = found_in group ns m (rw other at there) of in (
      r.0,
      rw isnt r.1,
      elim (split (bytes_eq r.0 n)) [
        | inl it ↦ rw it refl
        | inr apart ↦ rw (apart, r.2) refl
      ],
    )
  ]
]

-- two of a group declare the same
two_agree : (ds : List ℕ → Option Declaration) (group cs : List (List ℕ)) → ((m : List ℕ) → has_name cs m ≡ true → IsSome (ds m)) → AgreeIn ds group [] cs
    → (m n : List ℕ) → has_name cs m ≡ true → has_name group m ≡ true → has_name cs n ≡ true → has_name group n ≡ true → ds m ≡ ds n
two_agree ds group cs declared agree m n m_there m_of n_there n_of =
    let f : (first : List ℕ) × (first_in cs group ≡ Some first) × (has_name cs first ≡ true) = found_in group cs m m_there m_of in
    let d : (theirs : Declaration) × (ds f.0 ≡ Some theirs) = some_is (ds f.0) (declared f.0 f.2) in
    as_first ds group [] cs f.0 d.0 d.1 declared agree f.1 m m_there m_of ∙ sym (as_first ds group [] cs f.0 d.0 d.1 declared agree f.1 n n_there n_of)

-- all of a group declare what its first member does
abbrev pub AsTheirFirst : (List ℕ → Option Declaration) → List (List ℕ) → Type 0
AsTheirFirst ds group = (m : List ℕ) → has_name group m ≡ true → ds m ≡ option_and_then ds (slice_get group 0)

group_agrees : (ds : List ℕ → Option Declaration) (cs group : List (List ℕ)) → ((m : List ℕ) → has_name cs m ≡ true → IsSome (ds m)) → AgreeIn ds group [] cs
    → ((m : List ℕ) → has_name group m ≡ true → has_name cs m ≡ true) → AsTheirFirst ds group
group_agrees ds cs [] declared agree within m of = absurd (cc)
group_agrees ds cs (g ∷ gs) declared agree within m of = two_agree ds (g ∷ gs) cs declared agree m g (within m of) of (within g first) first
  where
    first : has_name (g ∷ gs) g ≡ true
    first = rw (itself g) refl

pub groups_agree : (ds : List ℕ → Option Declaration) (groups : List (List (List ℕ))) (cs : List (List ℕ)) → ((m : List ℕ) → has_name cs m ≡ true → IsSome (ds m)) → AllAgree ds groups [] cs
    → Each (λ g. (m : List ℕ) → has_name g m ≡ true → has_name cs m ≡ true) groups → Each (AsTheirFirst ds) groups
groups_agree ds groups cs declared agree within = each groups (heads ds groups [] cs agree) within
  where
    each : (gs : List (List (List ℕ))) → Each (λ g. AgreeIn ds g [] cs) gs → Each (λ g. (m : List ℕ) → has_name g m ≡ true → has_name cs m ≡ true) gs → Each (AsTheirFirst ds) gs
    each [] a w = tt
    each (g ∷ gs) a w = (group_agrees ds cs g declared a.0 w.0, each gs a.1 w.1)
