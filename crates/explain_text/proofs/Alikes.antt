-- Declarations that are set one after another.
use Rattle.std.proofs.Common.{◌≡◌, ◌≤◌, ◌<◌, ℕ, zero, suc, ◌+◌, Bool, true, false, ◌||◌, cond, List, [], ◌∷◌, ◌++◌, map, length, take, get_or, All, Some, None, inl, inr, refl, sym, ap, ◌∙◌, subst, arith}
use Rattle.std.specs.Prelude.{bytes_eq}
use Rattle.std.specs.List.{list_any}
use Rattle.std.proofs.Math.Bool.{or-true}
use Rattle.std.proofs.lemmas.List.{take_more, take_all}
use Rattle.std.proofs.lemmas.List.Folds.{list_any-append}
use Rattle.std.proofs.lemmas.Slice.Eq.{bytes_eq-Decides}
use Rattle.sp_model.specs.declared.declaration.Declaration.{Declaration}
use Rattle.sp_model.specs.declared.settings.Connection.{Connection}
use Rattle.sp_model.specs.declared.settings.Settings.{Settings}
use Rattle.sql_bind.proofs.Declared.{split, named}
use Rattle.sql_bind.specs.Known.{Known, is_connection, nothing_declared, declared_for, declaration_of}
use Rattle.decl_words.specs.Sound.{IsSound}
use Rattle.explain_text.specs.Explained.{AreSound}

-- each of these connections declares this, and no other anything
abbrev pub AlikeIn : List Connection → Declaration → Known → Type 0
AlikeIn cs d known = (name : List ℕ) → declaration_of known name ≡ cond (list_any (named name) cs) (Some d) None

nowhere : (cs : List Connection) (name : List ℕ) → declared_for cs (map (λ _. None) cs) name ≡ None
nowhere [] name = refl
nowhere (c ∷ cs) name = elim (split (bytes_eq c.name name)) [
  | inl is ↦ rw is refl
  | inr apart ↦ rw apart (nowhere cs name)
]

pub alike_none : (settings : Settings) (d : Declaration) (known : Known) → known ≡ nothing_declared settings → AlikeIn [] d known
alike_none settings d known same name = ap (λ (k : Known). declaration_of k name) same ∙ nowhere settings.connections name

pub in_all : (cs : List Connection) (i : ℕ) (c : Connection) → i < length cs → c ≡ get_or cs i c → list_any (named c.name) cs ≡ true
in_all [] i c within is = absurd (omega arith)
in_all (x ∷ xs) zero c within is =
    let same : bytes_eq x.name c.name ≡ true = (bytes_eq-Decides x.name c.name).1 (ap (λ (y : Connection). y.name) (sym is)) in
    ap (λ b. b || list_any (named c.name) xs) same
in_all (x ∷ xs) (suc i) c within is = ap (λ b. bytes_eq x.name c.name || b) (in_all xs i c (omega arith) is) ∙ or-true (bytes_eq x.name c.name)

longer : (cs : List Connection) (i : ℕ) (c : Connection) (name : List ℕ) → i < length cs → c ≡ get_or cs i c
    → list_any (named name) (take (i + 1) cs) ≡ (list_any (named name) (take i cs) || (bytes_eq c.name name || false))
longer cs i c name within is =
    ap (list_any (named name)) (take_more cs i c within ∙ ap (λ y. take i cs ++ y ∷ []) (sym is)) ∙ list_any-append (named name) (take i cs) (c ∷ [])

step_here : (a : Bool) (d : Declaration) (b : Bool) → b ≡ true → Some d ≡ cond (a || (b || false)) (Some d) None
step_here true d b e = refl
step_here false d true e = refl
step_here false d false e = absurd (cc)

step_other : (a : Bool) (d : Declaration) (b : Bool) → b ≡ false → cond a (Some d) None ≡ cond (a || (b || false)) (Some d) None
step_other true d b e = refl
step_other false d true e = absurd (cc)
step_other false d false e = refl

pub alike_more : (cs : List Connection) (i : ℕ) (c : Connection) (d : Declaration) (before after : Known) → i < length cs → c ≡ get_or cs i c → AlikeIn (take i cs) d before
    → declaration_of after c.name ≡ Some d → ((name : List ℕ) → bytes_eq c.name name ≡ false → declaration_of after name ≡ declaration_of before name)
    → AlikeIn (take (i + 1) cs) d after
alike_more cs i c d before after within is all here others name =
    elim (split (bytes_eq c.name name)) [
      | inl same ↦
          let it : c.name ≡ name = (bytes_eq-Decides c.name name).0 same in
          subst (λ (n : List ℕ). declaration_of after n ≡ Some d) it here ∙ step_here (list_any (named name) (take i cs)) d (bytes_eq c.name name) same
          ∙ ap (λ b. cond b (Some d) None) (sym (longer cs i c name within is))
      | inr apart ↦
          others name apart ∙ all name ∙ step_other (list_any (named name) (take i cs)) d (bytes_eq c.name name) apart
          ∙ ap (λ b. cond b (Some d) None) (sym (longer cs i c name within is))
    ]

pub alike_all : (cs : List Connection) (i : ℕ) (d : Declaration) (known : Known) → length cs ≤ i → AlikeIn (take i cs) d known → AlikeIn cs d known
alike_all cs i d known past all = subst (λ (x : List Connection). AlikeIn x d known) (take_all i cs past) all

declared_by : (b : Bool) (d x : Declaration) → cond b (Some d) None ≡ Some x → d ≡ x
declared_by true d x e = cc
declared_by false d x e = absurd (cc)

pub alike_sound : (settings : Settings) (d : Declaration) (known : Known) → AlikeIn settings.connections d known → All IsSound d.tables → AreSound (declaration_of known)
alike_sound settings d known all sound name x found =
    let same : d ≡ x = declared_by (is_connection settings name) d x (sym (all name) ∙ found) in
    subst (λ (y : Declaration). All IsSound y.tables) same sound
