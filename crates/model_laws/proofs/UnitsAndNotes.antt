-- Units are scans of their connections, and notes are fresh without a cache.
use Rattle.std.proofs.Common.{◌≡◌, ℕ, Bool, true, false, ◌&&◌, List, [], ◌∷◌, ◌++◌, filter, cond, Option, Some, None, if◌then◌else◌, bytes_eq, refl, sym, ap, ◌∙◌}
use Rattle.std.proofs.lemmas.Bool.{false≢true, and_from}
use Rattle.std.proofs.lemmas.List.{append_assoc}
use Rattle.std.proofs.lemmas.List.Folds.{list_all-append}
use Rattle.std.specs.List.{list_all, filter_map, cons_option}
use Rattle.sp_value.specs.declared.cell.Cell.{Cell}
use Rattle.sp_model.proofs.PlainLists.{any_there}
use Rattle.sp_model.specs.Conditions.{is_scalar, is_canonical}
use Rattle.sp_model.specs.Keys.{is_sent, canonical}
use Rattle.sp_model.specs.RowOf.{has_name}
use Rattle.sp_model.specs.TrueNote.{IsMarked}
use Rattle.sp_model.specs.Units.{all_agree, unit_of, fanned, units}
use Rattle.sp_model.specs.declared.call.Condition.{Condition}
use Rattle.sp_model.specs.declared.declaration.KeyDecl.{KeyDecl}
use Rattle.sp_model.specs.declared.scan.Mark.{Mark}
use Rattle.sp_model.specs.declared.scan.Mark.TheVariants.{Fresh, Cached}
use Rattle.sp_model.specs.declared.settings.Options.{Options}
use Rattle.model_laws.specs.UnitsAndNotes.{is_unit_of, UnitsAreScansOfTheirConnections, NotesAreFreshWithoutCache}
use Rattle.model_laws.proofs.FewerColumns.{bytes_itself}
use Rattle.model_laws.proofs.Merging.{left, right, is_scalar_condition, all_put, put_canonical}

canonical_is : (cs : List Condition) → list_all is_scalar_condition cs ≡ true → is_canonical (canonical cs) ≡ true
canonical_is [] h = refl
canonical_is (c ∷ cs) h = put_canonical c (canonical cs) (left (is_scalar_condition c) (list_all is_scalar_condition cs) h) (canonical_is cs (right (is_scalar_condition c) (list_all is_scalar_condition cs) h))

canonical_all : (p : Condition → Bool) (cs : List Condition) → list_all p cs ≡ true → list_all p (canonical cs) ≡ true
canonical_all p [] h = refl
canonical_all p (c ∷ cs) h = all_put p c (canonical cs) (left (p c) (list_all p cs) h) (canonical_all p cs (right (p c) (list_all p cs) h))

filter_by : {X : Type 0} (p : X → Bool) (x : X) (ys : List X) (b : Bool) → p x ≡ b → list_all p ys ≡ true → list_all p (cond b (x ∷ ys) ys) ≡ true
filter_by p x ys true e h = and_from (p x) (list_all p ys) e h
filter_by p x ys false e h = h

filter_holds : {X : Type 0} (p : X → Bool) (xs : List X) → list_all p (filter p xs) ≡ true
filter_holds p [] = refl
filter_holds p (x ∷ xs) = filter_by p x (filter p xs) (p x) refl (filter_holds p xs)

abbrev all_given : {X : Type 0} → (X → Bool) → Option X → Bool
all_given p None = true
all_given p (Some x) = p x

all_filter_map_by : {X : Type 0} (p : X → Bool) (o : Option X) (ys : List X) → all_given p o ≡ true → list_all p ys ≡ true → list_all p (cons_option o ys) ≡ true
all_filter_map_by p None ys h k = k
all_filter_map_by p (Some x) ys h k = and_from (p x) (list_all p ys) h k

all_filter_map : {X Y : Type 0} (p : Y → Bool) (f : X → Option Y) → ((x : X) → all_given p (f x) ≡ true) → (xs : List X) → list_all p (filter_map f xs) ≡ true
all_filter_map p f h [] = refl
all_filter_map p f h (x ∷ xs) = all_filter_map_by p (f x) (filter_map f xs) (h x) (all_filter_map p f h xs)

sent_unit : (keys : List KeyDecl) (connections : List (List ℕ)) (connection : List ℕ) (cs : List Condition) (b : Bool) → (list_all (λ condition. is_scalar condition.value) cs && all_agree cs) ≡ b
    → has_name connections connection ≡ true → list_all (is_sent keys) cs ≡ true
    → all_given (is_unit_of keys connections) (if b then Some (record { connection = connection; conditions = canonical cs }) else None) ≡ true
sent_unit keys connections connection cs true e h k =
    and_from (has_name connections connection && is_canonical (canonical cs)) (list_all (is_sent keys) (canonical cs))
    (and_from (has_name connections connection) (is_canonical (canonical cs)) h (canonical_is cs (left (list_all is_scalar_condition cs) (all_agree cs) e)))
    (canonical_all (is_sent keys) cs k)
sent_unit keys connections connection cs false e h k = refl

one_unit : (keys : List KeyDecl) (connections : List (List ℕ)) (connection : List ℕ) → has_name connections connection ≡ true → (cs : List Condition)
    → all_given (is_unit_of keys connections) (unit_of keys connection cs) ≡ true
one_unit keys connections connection h cs =
    sent_unit keys connections connection (filter (is_sent keys) cs) (list_all (λ condition. is_scalar condition.value) (filter (is_sent keys) cs) && all_agree (filter (is_sent keys) cs)) refl h (filter_holds (is_sent keys) cs)

units_from : (keys : List KeyDecl) (fan : Option (List ℕ × List Cell)) (conditions : List Condition) (all before connections : List (List ℕ)) → all ≡ before ++ connections
    → list_all (is_unit_of keys all) (units keys connections fan conditions) ≡ true
units_from keys fan conditions all before [] e = refl
units_from keys fan conditions all before (c ∷ cs) e =
    let there : has_name all c ≡ true = ap (λ names. has_name names c) e ∙ any_there (bytes_eq c) before c cs (bytes_itself c) in
    let here : list_all (is_unit_of keys all) (filter_map (unit_of keys c) (fanned fan conditions)) ≡ true =
    all_filter_map (is_unit_of keys all) (unit_of keys c) (one_unit keys all c there) (fanned fan conditions) in
    list_all-append (is_unit_of keys all) (filter_map (unit_of keys c) (fanned fan conditions)) (units keys cs fan conditions)
    ∙ and_from (list_all (is_unit_of keys all) (filter_map (unit_of keys c) (fanned fan conditions))) (list_all (is_unit_of keys all) (units keys cs fan conditions)) here
    (units_from keys fan conditions all (before ++ c ∷ []) cs (e ∙ sym (append_assoc before (c ∷ []) cs)))

pub units_are : UnitsAreScansOfTheirConnections
units_are keys connections fan conditions = units_from keys fan conditions connections [] connections refl

marked_fresh : (options : Options) (mark : Mark) (asked at : ℕ) → IsMarked options mark asked at → options.cache ≡ false → (mark ≡ Fresh) × (at ≡ asked)
marked_fresh options Fresh asked at h e = (refl, h)
marked_fresh options Cached asked at h e = absurd (false≢true (sym e ∙ h.1))

pub notes_fresh : NotesAreFreshWithoutCache
notes_fresh book options began note h e =
    let m : (note.mark ≡ Fresh) × (note.at ≡ note.asked) = marked_fresh options note.mark note.asked note.at h.marked e in
    (m.0, h.version ∙ ap (book.version note.request.connection) (sym m.1))
