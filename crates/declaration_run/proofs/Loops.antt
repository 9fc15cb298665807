-- Connections that are declared and agree, one after another.
use Rattle.std.proofs.Common.{◌≡◌, ◌<◌, ◌+◌, ℕ, Bool, true, false, ◌||◌, List, [], ◌∷◌, ◌++◌, length, take, drop, get_or, Option, Some, None, IsSome, ◌⊎◌, inl, inr, refl, sym, ap, subst, ◌∙◌, arith}
use Rattle.std.specs.Prelude.{bytes_eq, slice_index_or}
use Rattle.std.proofs.lemmas.Slice.Eq.{bytes_eq-Decides}
use Rattle.sp_model.specs.Book.{Book}
use Rattle.sp_model.specs.Names.{has_name}
use Rattle.sp_model.specs.declared.declaration.Declaration.{Declaration}
use Rattle.std.proofs.lemmas.List.{take_more, take_all, take-append-drop}
use Rattle.sp_model.specs.declared.settings.Settings.{Settings}
use Rattle.desk.specs.States.{DeskState}
use Rattle.statement_words.specs.Runs.{plain_names}
use Rattle.sql_bind.proofs.Declared.{split}
use Rattle.sql_bind.specs.Known.{Known, declaration_of}
use Rattle.declaration_run.specs.Declaring.{AllDeclared, StayDeclared, ArePlain, first_in, AgreesIn, Agrees, Differs, AllAgree, AreDone, IsUndeclared, IsFirstUndeclared}
use Rattle.declaration_run.specs.Read.{IsDifference, IsUnasked}
use Rattle.declaration_run.specs.declared.undeclared.Undeclared.{Undeclared}
use Rattle.declaration_run.specs.declared.undeclared.Undeclared.TheVariants as undeclared

some_is : (x : Option Declaration) → IsSome x → (d : Declaration) × (x ≡ Some d)
some_is (Some d) h = (d, refl)
some_is None h = absurd (cc)

same_some : (a b : Declaration) → Some a ≡ Some b → a ≡ b
same_some a b e = cc

same_name : (a b : List ℕ) → Some a ≡ Some b → a ≡ b
same_name a b e = cc

or_right : (a : Bool) {b : Bool} → b ≡ true → (a || b) ≡ true
or_right true h = refl
or_right false h = h

itself : (name : List ℕ) → bytes_eq name name ≡ true
itself name = (bytes_eq-Decides name name).1 refl

-- what is found in names is one of them
found_among : (group names : List (List ℕ)) (first : List ℕ) → first_in names group ≡ Some first → has_name names first ≡ true
found_among group [] first e = absurd (cc)
found_among group (n ∷ ns) first e = elim (split (has_name group n)) [
  | inl is ↦ let same : n ≡ first = same_name n first (rw is at e) in subst (λ (x : List ℕ). (bytes_eq x n || has_name ns x) ≡ true) same (ap (λ b. b || has_name ns n) (itself n))
  | inr other ↦ or_right (bytes_eq first n) (found_among group ns first (rw other at e))
]

module _ (known later : Known) (stay : StayDeclared known later) where
  all_stay : (names : List (List ℕ)) → AllDeclared known names → AllDeclared later names
  all_stay names declared name among =
      let here : (d : Declaration) × (declaration_of known name ≡ Some d) = some_is (declaration_of known name) (declared name among) in
      subst (λ (x : Option Declaration). IsSome x) (sym (stay name here.0 here.1)) refl

  agrees_in_stays : (names : List (List ℕ)) (c : List ℕ) (group : List (List ℕ)) → AllDeclared known names → has_name names c ≡ true
      → AgreesIn (declaration_of known) names c group → AgreesIn (declaration_of later) names c group
  agrees_in_stays names c group declared here agree first theirs own among is_first is_theirs is_own =
      let a : (d : Declaration) × (declaration_of known first ≡ Some d) = some_is (declaration_of known first) (declared first (found_among group names first is_first)) in
      let b : (d : Declaration) × (declaration_of known c ≡ Some d) = some_is (declaration_of known c) (declared c here) in
      let same_theirs : a.0 ≡ theirs = same_some a.0 theirs (sym (stay first a.0 a.1) ∙ is_theirs) in
      let same_own : b.0 ≡ own = same_some b.0 own (sym (stay c b.0 b.1) ∙ is_own) in
      sym same_theirs ∙ (agree first a.0 b.0 among is_first a.1 b.1 ∙ same_own)

  agrees_stays : (names : List (List ℕ)) (c : List ℕ) (groups : List (List (List ℕ))) → AllDeclared known names → has_name names c ≡ true
      → Agrees (declaration_of known) names groups c → Agrees (declaration_of later) names groups c
  agrees_stays names c groups declared here agree k d within = agrees_in_stays names c (slice_index_or groups k d) declared here (agree k d within)

last_there : (names : List (List ℕ)) (c : List ℕ) → has_name (names ++ c ∷ []) c ≡ true
last_there [] c = ap (λ b. b || false) (itself c)
last_there (n ∷ ns) c = or_right (bytes_eq c n) (last_there ns c)

there_still : (names more : List (List ℕ)) (c : List ℕ) → has_name names c ≡ true → has_name (names ++ more) c ≡ true
there_still [] more c h = absurd (cc)
there_still (n ∷ ns) more c h = elim (split (bytes_eq c n)) [
  | inl is ↦ ap (λ b. b || has_name (ns ++ more) c) is
  | inr other ↦ or_right (bytes_eq c n) (there_still ns more c (rw other at h))
]

grouped : (before : List (List ℕ)) (c : List ℕ) (cs : List (List ℕ)) → (before ++ c ∷ []) ++ cs ≡ before ++ c ∷ cs
grouped [] c cs = refl
grouped (b ∷ bs) c cs = ap (λ xs. b ∷ xs) (grouped bs c cs)

-- declared ones among which these stand
part_declared : (known : Known) (names more : List (List ℕ)) → AllDeclared known (names ++ more) → AllDeclared known names
part_declared known names more declared name among = declared name (there_still names more name among)

all_agree_stay : (known later : Known) → StayDeclared known later → (groups : List (List (List ℕ))) (before names : List (List ℕ)) → AllDeclared known (before ++ names)
    → AllAgree (declaration_of known) groups before names → AllAgree (declaration_of later) groups before names
all_agree_stay known later stay groups before [] declared agree = tt
all_agree_stay known later stay groups before (c ∷ cs) declared agree =
    let all : AllDeclared known ((before ++ c ∷ []) ++ cs) = subst (AllDeclared known) (sym (grouped before c cs)) declared in (
      agrees_stays known later stay (before ++ c ∷ []) c groups (part_declared known (before ++ c ∷ []) cs all) (last_there before c) agree.0,
      all_agree_stay known later stay groups (before ++ c ∷ []) cs all agree.1,
    )

all_agree_more : (ds : List ℕ → Option Declaration) (groups : List (List (List ℕ))) (before names : List (List ℕ)) (c : List ℕ)
    → AllAgree ds groups before names → Agrees ds ((before ++ names) ++ c ∷ []) groups c → AllAgree ds groups before (names ++ c ∷ [])
all_agree_more ds groups before [] c all one = (subst (λ (xs : List (List ℕ)). Agrees ds (xs ++ c ∷ []) groups c) (no_more before) one, tt)
  where
    no_more : (xs : List (List ℕ)) → xs ++ [] ≡ xs
    no_more [] = refl
    no_more (x ∷ xs) = ap (λ ys. x ∷ ys) (no_more xs)
all_agree_more ds groups before (n ∷ ns) c all one =
    (all.0, all_agree_more ds groups (before ++ n ∷ []) ns c all.1 (subst (λ (xs : List (List ℕ)). Agrees ds (xs ++ c ∷ []) groups c) (sym (grouped before n ns)) one))

all_declared_more : (known : Known) (names : List (List ℕ)) (c : List ℕ) → AllDeclared known names → IsSome (declaration_of known c) → AllDeclared known (names ++ c ∷ [])
all_declared_more known names c declared own name among = elim (either names among) [
  | inl there ↦ declared name there
  | inr is ↦ subst (λ (x : List ℕ). IsSome (declaration_of known x)) (sym is) own
]
  where
    either : (xs : List (List ℕ)) → has_name (xs ++ c ∷ []) name ≡ true → (has_name xs name ≡ true) ⊎ (name ≡ c)
    either [] h = elim (split (bytes_eq name c)) [
      | inl is ↦ inr ((bytes_eq-Decides name c).0 is)
      | inr other ↦ let never : false ≡ true = rw other at h in absurd (cc)
    ]
    either (x ∷ xs) h = elim (split (bytes_eq name x)) [
      | inl is ↦ inl (ap (λ b. b || has_name xs name) is)
      | inr other ↦ elim (either xs (rw other at h)) [
        | inl there ↦ inl (or_right (bytes_eq name x) there)
        | inr is ↦ inr is
      ]
    ]

-- ---- the loop

pub none_yet : (known : Known) (groups : List (List (List ℕ))) → AreDone known groups []
none_yet known groups = (λ name among. absurd (cc), tt)

still_done : (known later : Known) (groups : List (List (List ℕ))) (names : List (List ℕ)) → AreDone known groups names → StayDeclared known later → AreDone later groups names
still_done known later groups names done stay = (all_stay known later stay names done.0, all_agree_stay known later stay groups [] names done.0 done.1)

more_done : (known later : Known) (groups : List (List (List ℕ))) (names : List (List ℕ)) (c : List ℕ) → AreDone known groups names → StayDeclared known later
    → IsSome (declaration_of later c) → Agrees (declaration_of later) (names ++ c ∷ []) groups c → AreDone later groups (names ++ c ∷ [])
more_done known later groups names c done stay own agree = (
  all_declared_more later names c (all_stay known later stay names done.0) own,
  all_agree_more (declaration_of later) groups [] names c (all_agree_stay known later stay groups [] names done.0 done.1) agree,
)

-- the connection at a place
module _ (connections : List (List ℕ)) (place : ℕ) (c : List ℕ) (within : place < length connections) (at : c ≡ get_or connections place c) where
  up_to : take (place + 1) connections ≡ take place connections ++ c ∷ []
  up_to = take_more connections place c within ∙ ap (λ x. take place connections ++ x ∷ []) (sym at)

  apart : connections ≡ take place connections ++ c ∷ drop (place + 1) connections
  apart = sym (take-append-drop (place + 1) connections) ∙ (ap (λ xs. xs ++ drop (place + 1) connections) up_to ∙ grouped (take place connections) c (drop (place + 1) connections))

  among : has_name connections c ≡ true
  among = subst (λ (xs : List (List ℕ)). has_name xs c ≡ true) (sym apart)
      (subst (λ (xs : List (List ℕ)). has_name xs c ≡ true) (grouped (take place connections) c (drop (place + 1) connections))
      (there_still (take place connections ++ c ∷ []) (drop (place + 1) connections) c (last_there (take place connections) c)))

  pub is_plain : (settings : Settings) → ArePlain settings connections → has_name (plain_names settings.connections) c ≡ true
  is_plain settings plain = plain c among

  module _ (known later : Known) (groups : List (List (List ℕ))) (done : AreDone known groups (take place connections)) (stay : StayDeclared known later) where
    pub one_more : IsSome (declaration_of later c) → Agrees (declaration_of later) (take (place + 1) connections) groups c
        → AreDone later groups (take (place + 1) connections)
    one_more own agree =
        subst (AreDone later groups) (sym up_to)
        (more_done known later groups (take place connections) c done stay own (subst (λ (xs : List (List ℕ)). Agrees (declaration_of later) xs groups c) up_to agree))

    module _ (tells : Bool) (book : Book) (s : DeskState) (e : Undeclared) where
      first : IsUndeclared tells book s later (take place connections ++ c ∷ []) groups c e → IsFirstUndeclared tells book s later connections groups e
      first is = record {
        before = take place connections;
        connection = c;
        after = drop (place + 1) connections;
        among = apart;
        done = still_done known later groups (take place connections) done stay;
        is = is;
      }

      pub is_unasked : IsUnasked tells book s c e → IsFirstUndeclared tells book s later connections groups e
      is_unasked h = first (by e h)
        where
          by : (u : Undeclared) → IsUnasked tells book s c u → IsUndeclared tells book s later (take place connections ++ c ∷ []) groups c u
          by undeclared.Memory u = tt
          by (undeclared.Refused name fault) u = u
          by (undeclared.Differs name) u = absurd u
          by (undeclared.RestartsSpent name losses) u = u

      pub is_different : Differs (declaration_of later) (take (place + 1) connections) groups c → IsDifference c e → IsFirstUndeclared tells book s later connections groups e
      is_different differs h = first (by e h)
        where
          by : (u : Undeclared) → IsDifference c u → IsUndeclared tells book s later (take place connections ++ c ∷ []) groups c u
          by undeclared.Memory u = tt
          by (undeclared.Differs name) u = (u, subst (λ (xs : List (List ℕ)). Differs (declaration_of later) xs groups c) up_to differs)
          by (undeclared.Refused name fault) u = absurd u
          by (undeclared.RestartsSpent name losses) u = absurd u

pub all_done : (known : Known) (groups : List (List (List ℕ))) (connections : List (List ℕ)) → AreDone known groups (take (length connections) connections) → AreDone known groups connections
all_done known groups connections done = subst (AreDone known groups) (take_all (length connections) connections (omega arith)) done
