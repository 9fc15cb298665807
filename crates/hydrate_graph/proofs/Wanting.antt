-- Which functions are wanted, and their slots.
use Rattle.std.proofs.Common.{◌≡◌, ◌<◌, ◌≤◌, ◌+◌, ◌-◌, ℕ, zero, suc, Bool, true, false, ◌||◌, cond, List, [], ◌∷◌, ◌++◌, length, get_or, take, map, filter, Option, Some, None, bytes_eq, refl, sym, ap, ◌∙◌, arith}
use Rattle.std.specs.Cmp.Lexicographic.{pointwise}
use Rattle.std.proofs.Math.Bool.{beq}
use Rattle.std.specs.Prelude.{slice_get, is_some}
use Rattle.std.specs.List.{list_any}
use Rattle.std.proofs.lemmas.List.{length-map, map-append, take_more}
use Rattle.std.proofs.lemmas.Slice.Eq.{bytes_eq-Decides}
use Rattle.sp_model.proofs.Lawful.{found_name}
use Rattle.sp_model.specs.Calls.{needs_in, needs_source, is_wanted}
use Rattle.sp_model.specs.Hydration.{depends_of, find_function}
use Rattle.sp_model.specs.declared.declaration.ColumnDecl.{ColumnDecl}
use Rattle.sp_model.specs.declared.declaration.FunctionDecl.{FunctionDecl}
use Rattle.hydrate_graph.specs.Numbers.{number_of, numbers_of, source_number, sources_of}
use Rattle.hydrate_graph.specs.Planning.{some_flag, reach_step, reach_in, source_flag, wanted_flags, slots_from, room_from}
use Rattle.hydrate_graph.specs.Plans.{AreApart, AreWithin}
use Rattle.hydrate_graph.proofs.Numbering.{found_at}

-- ---- functions that need another

-- what a step leaves as it is stays
later : (fs : List FunctionDecl) (name : List ℕ) (flags : List Bool) (d n i : ℕ) → n ≡ d + i → flags ≡ reach_in i fs name → flags ≡ reach_step fs name flags → flags ≡ reach_in n fs name
later fs name flags zero n i e is step = let m : i ≡ n = omega arith in is ∙ ap (λ k. reach_in k fs name) m
later fs name flags (suc d) n i e is step =
    let m : suc (d + i) ≡ n = omega arith in
    step ∙ ap (reach_step fs name) (later fs name flags d (d + i) i refl is step) ∙ ap (λ k. reach_in k fs name) m

pub stays : (fs : List FunctionDecl) (name : List ℕ) (flags : List Bool) (n i : ℕ) → i ≤ n → flags ≡ reach_in i fs name → flags ≡ reach_step fs name flags → flags ≡ reach_in n fs name
stays fs name flags n i l is step = later fs name flags (n - i) n i (omega arith) is step

get_of_map : {X : Type 0} (h : X → Bool) (xs : List X) (k : ℕ) (x : X) → slice_get xs k ≡ Some x → get_or (map h xs) k false ≡ h x
get_of_map h [] k x e = absurd (cc)
get_of_map h (y ∷ ys) zero x e = let z : y ≡ x = cc in ap h z
get_of_map h (y ∷ ys) (suc k) x e = get_of_map h ys k x e

get_of_none : {X : Type 0} (h : X → Bool) (xs : List X) (k : ℕ) → slice_get xs k ≡ None → get_or (map h xs) k false ≡ false
get_of_none h [] k e = refl
get_of_none h (y ∷ ys) zero e = absurd (cc)
get_of_none h (y ∷ ys) (suc k) e = get_of_none h ys k e

any_same : {X Y : Type 0} (p : Y → Bool) (g : X → Y) (q : X → Bool) → ((x : X) → p (g x) ≡ q x) → (xs : List X) → list_any p (map g xs) ≡ list_any q xs
any_same p g q same [] = refl
any_same p g q same (x ∷ xs) = ap (λ b. b || list_any p (map g xs)) (same x) ∙ ap (λ b. q x || b) (any_same p g q same xs)

module _ (fs : List FunctionDecl) (name : List ℕ) (own : FunctionDecl) (declared : find_function name fs ≡ Some own) where
  other_name : (f : List ℕ) → find_function f fs ≡ None → (b : Bool) → bytes_eq f name ≡ b → b ≡ false
  other_name f none false e = refl
  other_name f none true e =
      let same : f ≡ name = (bytes_eq-Decides f name).0 e in
      let found : None ≡ Some own = sym none ∙ ap (λ n. find_function n fs) same ∙ declared in
      absurd (cc)

  flag_step : (n : ℕ) (f : List ℕ) (found : Option FunctionDecl) → ((d : List ℕ) → get_or (reach_in n fs name) (number_of fs d) false ≡ needs_in n fs name d) → find_function f fs ≡ found
      → get_or (reach_in (suc n) fs name) (number_of fs f) false ≡ (bytes_eq f name || list_any (λ d. needs_in n fs name d) (depends_of found))
  flag_step n f None below e =
      get_of_none (λ g. bytes_eq g.name name || some_flag (reach_in n fs name) (numbers_of fs g.depends)) fs (number_of fs f) (sym (found_at f fs) ∙ e)
      ∙ sym (ap (λ b. b || false) (other_name f e (bytes_eq f name) refl))
  flag_step n f (Some g) below e =
      get_of_map (λ g. bytes_eq g.name name || some_flag (reach_in n fs name) (numbers_of fs g.depends)) fs (number_of fs f) g (sym (found_at f fs) ∙ e)
      ∙ ap (λ m. bytes_eq m name || some_flag (reach_in n fs name) (numbers_of fs g.depends)) (found_name f fs g e)
      ∙ ap (λ b. bytes_eq f name || b) (any_same (λ k. get_or (reach_in n fs name) k false) (number_of fs) (needs_in n fs name) below g.depends)

  -- a flag says whether its function needs this one
  pub flag_is : (n : ℕ) (f : List ℕ) → get_or (reach_in n fs name) (number_of fs f) false ≡ needs_in n fs name f
  flag_is zero f = refl
  flag_is (suc n) f = flag_step n f (find_function f fs) (flag_is n) refl

  source_is : (source : Option (List ℕ)) → source_flag (reach_in (length fs) fs name) (source_number fs source) ≡ needs_source fs name source
  source_is None = refl
  source_is (Some f) = flag_is (length fs) f

  sources_are : (columns : List ColumnDecl) → list_any (source_flag (reach_in (length fs) fs name)) (sources_of fs columns) ≡ is_wanted fs columns name
  sources_are columns = any_same (source_flag (reach_in (length fs) fs name)) (λ column. source_number fs column.function) (λ column. needs_source fs name column.function) (λ column. source_is column.function) columns

  pub wanted_is : (columns : List ColumnDecl) → get_or (wanted_flags fs (sources_of fs columns)) (number_of fs name) false ≡ is_wanted fs columns name
  wanted_is columns =
      get_of_map (λ f. list_any (source_flag (reach_in (length fs) fs f.name)) (sources_of fs columns)) fs (number_of fs name) own (sym (found_at name fs) ∙ declared)
      ∙ ap (λ n. list_any (source_flag (reach_in (length fs) fs n)) (sources_of fs columns)) (found_name name fs own declared)
      ∙ sources_are columns

-- ---- slots

room_above : (next : ℕ) (flags : List Bool) → next ≤ room_from next flags
room_above next [] = omega arith
room_above next (true ∷ flags) = let l = room_above (suc next) flags in omega (arith, l)
room_above next (false ∷ flags) = room_above next flags

-- a function has a slot where it is flagged
wants_flag : (next : ℕ) (flags : List Bool) (k : ℕ) → is_some (get_or (slots_from next flags) k None) ≡ get_or flags k false
wants_flag next [] k = refl
wants_flag next (true ∷ flags) zero = refl
wants_flag next (true ∷ flags) (suc k) = wants_flag (suc next) flags k
wants_flag next (false ∷ flags) zero = refl
wants_flag next (false ∷ flags) (suc k) = wants_flag next flags k

pub slot_count : (next : ℕ) (flags : List Bool) → length (slots_from next flags) ≡ length flags
slot_count next [] = refl
slot_count next (true ∷ flags) = ap suc (slot_count (suc next) flags)
slot_count next (false ∷ flags) = ap suc (slot_count next flags)

slot_above : (next : ℕ) (flags : List Bool) (k slot : ℕ) → get_or (slots_from next flags) k None ≡ Some slot → next ≤ slot
slot_above next [] k slot e = absurd (cc)
slot_above next (true ∷ flags) zero slot e = let s : next ≡ slot = cc in omega (arith, s)
slot_above next (true ∷ flags) (suc k) slot e = let h = slot_above (suc next) flags k slot e in omega (arith, h)
slot_above next (false ∷ flags) zero slot e = absurd (cc)
slot_above next (false ∷ flags) (suc k) slot e = slot_above next flags k slot e

-- there is room for each slot
pub slot_within : (next : ℕ) (flags : List Bool) → AreWithin (slots_from next flags) (room_from next flags)
slot_within next [] k slot e = absurd (cc)
slot_within next (true ∷ flags) zero slot e = let s : next ≡ slot = cc in omega (arith, s, room_above (suc next) flags)
slot_within next (true ∷ flags) (suc k) slot e = slot_within (suc next) flags k slot e
slot_within next (false ∷ flags) zero slot e = absurd (cc)
slot_within next (false ∷ flags) (suc k) slot e = slot_within next flags k slot e

-- no two functions have one slot
pub slot_apart : (next : ℕ) (flags : List Bool) → AreApart (slots_from next flags)
slot_apart next [] j k slot a b = absurd (cc)
slot_apart next (true ∷ flags) zero zero slot a b = refl
slot_apart next (true ∷ flags) zero (suc k) slot a b = let s : next ≡ slot = cc in let h = slot_above (suc next) flags k slot b in absurd (omega (arith, s, h))
slot_apart next (true ∷ flags) (suc j) zero slot a b = let s : next ≡ slot = cc in let h = slot_above (suc next) flags j slot a in absurd (omega (arith, s, h))
slot_apart next (true ∷ flags) (suc j) (suc k) slot a b = ap suc (slot_apart (suc next) flags j k slot a b)
slot_apart next (false ∷ flags) zero k slot a b = absurd (cc)
slot_apart next (false ∷ flags) (suc j) zero slot a b = absurd (cc)
slot_apart next (false ∷ flags) (suc j) (suc k) slot a b = ap suc (slot_apart next flags j k slot a b)

filter_step : {X : Type 0} (x : X) (b : Bool) (xs ys : List X) → length ys ≤ length xs → length (cond b (x ∷ ys) ys) ≤ suc (length xs)
filter_step x true xs ys l = omega arith
filter_step x false xs ys l = omega arith

-- no more pass than there are
pub filter_count : {X : Type 0} (p : X → Bool) (xs : List X) → length (filter p xs) ≤ length xs
filter_count p [] = omega arith
filter_count p (x ∷ xs) = filter_step x (p x) xs (filter p xs) (filter_count p xs)

-- where a function is declared, it has a slot exactly where a column needs it
pub slot_wanted : (fs : List FunctionDecl) (columns : List ColumnDecl) (flags : List Bool) → flags ≡ wanted_flags fs (sources_of fs columns) → (name : List ℕ) (own : FunctionDecl) → find_function name fs ≡ Some own
    → is_some (get_or (slots_from 0 flags) (number_of fs name) None) ≡ is_wanted fs columns name
slot_wanted fs columns flags are name own declared =
    wants_flag 0 flags (number_of fs name) ∙ ap (λ fl. get_or fl (number_of fs name) false) are ∙ wanted_is fs name own declared columns

-- one more flag
pub flags_more : {X : Type 0} (h : X → Bool) (xs : List X) (k : ℕ) (x : X) (flags : List Bool) (b : Bool) → k < length xs → x ≡ get_or xs k x → flags ≡ map h (take k xs) → b ≡ h x → flags ++ b ∷ [] ≡ map h (take (k + 1) xs)
flags_more h xs k x flags b l is so_far e =
    ap (λ fl. fl ++ b ∷ []) so_far ∙ ap (λ y. map h (take k xs) ++ y ∷ []) (e ∙ ap h is) ∙ sym (map-append h (take k xs) (get_or xs k x ∷ [])) ∙ ap (map h) (sym (take_more xs k x l))

pub flag_count : (fs : List FunctionDecl) (sources : List (Option ℕ)) → length (wanted_flags fs sources) ≡ length fs
flag_count fs sources = length-map fs (λ f. list_any (source_flag (reach_in (length fs) fs f.name)) sources)

-- flags that pass the test of being the same are
pub same_flags : (a b : List Bool) → pointwise beq a b ≡ true → a ≡ b
same_flags [] [] e = refl
same_flags [] (y ∷ ys) e = absurd (cc)
same_flags (x ∷ xs) [] e = absurd (cc)
same_flags (true ∷ xs) (true ∷ ys) e = ap (λ l. true ∷ l) (same_flags xs ys e)
same_flags (true ∷ xs) (false ∷ ys) e = absurd (cc)
same_flags (false ∷ xs) (true ∷ ys) e = absurd (cc)
same_flags (false ∷ xs) (false ∷ ys) e = ap (λ l. false ∷ l) (same_flags xs ys e)
