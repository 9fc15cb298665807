-- Two walks side by side: that of a kept scan, and that of a request which it covers.
use Rattle.std.proofs.Common.{◌≡◌, ℕ, suc, ◌-◌, ◌<◌, ◌≤◌, nat_lt, Bool, true, false, ◌&&◌, cond, List, [], ◌∷◌, ◌++◌, map, filter, length, Option, Some, None, if◌then◌else◌, refl, sym, ap, subst, ◌∙◌, arith, length-append}
use Rattle.std.proofs.lemmas.Bool.{false≢true, leb-true, leb-false, le-leb, ltb-false, le-ltb}
use Rattle.std.proofs.lemmas.List.{append-nil, append_assoc, take_at, take_all}
use Rattle.sp_value.specs.declared.cell.Cell.{Cell}
use Rattle.sp_model.specs.Covers.{reaches, cut}
use Rattle.sp_model.specs.Settling.{Seen, attempts_of, Verdict, Accept, Again, Refuse, Open, judged}
use Rattle.sp_model.specs.Walk.{and_then, is_reached, with_row_kept, visit_all, Source, accepted, ended, unsteady, walk_in, walk}
use Rattle.sp_model.specs.declared.call.Ending.{Ending}
use Rattle.sp_model.specs.declared.outcome.Walk.{Walk}
use Rattle.sp_model.specs.declared.outcome.Walk.TheVariants.{Going, Full, Failed, Waiting}
use Rattle.sp_model.specs.declared.outcome.WalkState.{WalkState}
use Rattle.sp_model.specs.declared.scan.Cause.TheVariants.{TooMany}
use Rattle.model_laws.proofs.Growing.{From, Grows, visits_grow, accepted_grows, walk_grows, from_same, Loose, grows_loose}

-- ---- lists and limits

length_push : (rows : List (List Cell)) (x : List Cell) → length (rows ++ x ∷ []) ≡ suc (length rows)
length_push rows x = omega (arith, length-append rows (x ∷ []))

pub filter_le : {X : Type 0} (h : X → Bool) (xs : List X) → length (filter h xs) ≤ length xs
filter_le h [] = omega arith
filter_le h (x ∷ xs) =
    let later : length (filter h xs) ≤ length xs = filter_le h xs in
    elim (h x) as (λ b. length (cond b (x ∷ filter h xs) (filter h xs)) ≤ suc (length xs)) [ true ↦ omega arith | false ↦ omega arith ]

-- a limit that the last row reaches cuts right there
cut_here : (limit : Option ℕ) (rows : List (List Cell)) (x : List Cell) (more : List (List Cell)) → is_reached limit (length rows) ≡ false → is_reached limit (length (rows ++ x ∷ [])) ≡ true
    → cut limit ((rows ++ x ∷ []) ++ more) ≡ rows ++ x ∷ []
cut_here None rows x more h k = absurd (false≢true k)
cut_here (Some limit) rows x more h k =
    let below : length rows < limit = leb-false limit (length rows) h in
    let above : limit ≤ length (rows ++ x ∷ []) = leb-true limit (length (rows ++ x ∷ [])) k in
    let push : length (rows ++ x ∷ []) ≡ suc (length rows) = length_push rows x in
    take_at (rows ++ x ∷ []) more limit (omega arith)

-- a limit that isn't reached cuts nothing
pub cut_none : (limit : Option ℕ) (rows : List (List Cell)) → is_reached limit (length rows) ≡ false → cut limit rows ≡ rows
cut_none None rows h = refl
cut_none (Some limit) rows h = let below : length rows < limit = leb-false limit (length rows) h in take_all limit rows (omega arith)

reach_more : (kept limit : Option ℕ) (n : ℕ) → is_reached kept n ≡ true → reaches kept limit ≡ true → is_reached limit n ≡ true
reach_more None limit n h k = absurd (false≢true h)
reach_more (Some kept) None n h k = absurd (false≢true k)
reach_more (Some kept) (Some limit) n h k =
    let first : kept ≤ n = leb-true kept n h in
    let second : limit ≤ kept = leb-true limit kept k in
    le-leb limit n (omega arith)

-- `shown` is a row in the request's columns, `keep` whether the further conditions are true of it
module _ (shown : List Cell → List Cell) (keep : List Cell → Bool) (kept limit : Option ℕ) where
  abbrev pub part : List (List Cell) → List (List Cell)
  part rows = filter keep (map shown rows)

  part_append : (a b : List (List Cell)) → part (a ++ b) ≡ part a ++ part b
  part_append [] b = refl
  part_append (x ∷ xs) b =
      let later : part (xs ++ b) ≡ part xs ++ part b = part_append xs b in
      elim (keep (shown x)) as (λ c. cond c (shown x ∷ part (xs ++ b)) (part (xs ++ b)) ≡ cond c (shown x ∷ part xs) (part xs) ++ part b)
      [ true ↦ ap (λ l. shown x ∷ l) later | false ↦ later ]

  part_kept : (rows : List (List Cell)) (x : List Cell) → keep (shown x) ≡ true → part (rows ++ x ∷ []) ≡ part rows ++ shown x ∷ []
  part_kept rows x h = part_append rows (x ∷ []) ∙ ap (λ b. part rows ++ cond b (shown x ∷ []) []) h

  part_left : (rows : List (List Cell)) (x : List Cell) → keep (shown x) ≡ false → part (rows ++ x ∷ []) ≡ part rows
  part_left rows x h = part_append rows (x ∷ []) ∙ ap (λ b. part rows ++ cond b (shown x ∷ []) []) h ∙ append-nil (part rows)

  -- the conditions are the same, and the kept limit is at least the other
  pub record Plain : Type 0 where
    pub all : (cells : List Cell) → keep cells ≡ true
    pub reach : reaches kept limit ≡ true

  part_length : Plain → (rows : List (List Cell)) → length (part rows) ≡ length rows
  part_length p [] = refl
  part_length p (x ∷ xs) = ap (λ b. length (cond b (shown x ∷ part xs) (part xs))) (p.all (shown x)) ∙ ap suc (part_length p xs)

  -- the request's walk has the part of the kept walk's rows, and isn't at its limit
  pub record Same (rows : List (List Cell)) (t : WalkState) : Type 0 where
    pub rows_are : t.rows ≡ part rows
    pub below : is_reached limit (length t.rows) ≡ false

  -- the request's walk is at its limit, whatever rows the kept walk still comes to
  abbrev pub Ends : List (List Cell) → List (List Cell) → Type 0
  Ends rows found = (more : List (List Cell)) → cut limit (part (rows ++ more)) ≡ found

  abbrev pub GoesSo : List (List Cell) → Walk → Type 0
  GoesSo rows (Going t) = Same rows t
  GoesSo rows (Full t) = Ends rows t.rows
  GoesSo rows (Failed row column cause) = ⊥
  GoesSo rows Waiting = ⊥

  abbrev pub EndsSo : List (List Cell) → Walk → Type 0
  EndsSo rows (Going t) = ⊥
  EndsSo rows (Full t) = Ends rows t.rows
  EndsSo rows (Failed row column cause) = ⊥
  EndsSo rows Waiting = ⊥

  -- the second walk follows the first one where that is steady
  abbrev pub Follows : Walk → Walk → Type 0
  Follows (Going t) w = t.steady ≡ true → GoesSo t.rows w
  Follows (Full t) w = t.steady ≡ true → Plain → EndsSo t.rows w
  Follows (Failed row column cause) w = Unit {0}
  Follows Waiting w = Unit {0}

  follows_loose : (w v : Walk) → Loose w → Follows w v
  follows_loose (Going t) v l = λ h. absurd (l h)
  follows_loose (Full t) v l = λ h p. absurd (l h)
  follows_loose (Failed row column cause) v l = tt
  follows_loose Waiting v l = tt

  ends_grow : (t u : WalkState) (found : List (List Cell)) → From t u → Ends t.rows found → Ends u.rows found
  ends_grow t u found f e = λ more.
      ap (λ rows. cut limit (part (rows ++ more))) f.rows ∙ ap (λ l. cut limit (part l)) (append_assoc t.rows f.more more) ∙ e (f.more ++ more)

  follows_done : (t s : WalkState) (w : Walk) → Grows t w → Ends t.rows s.rows → Follows w (Full s)
  follows_done t s (Going u) g e = λ h. ends_grow t u s.rows g e
  follows_done t s (Full u) g e = λ h p. ends_grow t u s.rows g e
  follows_done t s (Failed row column cause) g e = tt
  follows_done t s Waiting g e = tt

  -- ---- one after another

  ends_then : (rows : List (List Cell)) (w : Walk) (k : WalkState → Walk) → EndsSo rows w → EndsSo rows (and_then w k)
  ends_then rows (Going t) k e = absurd e
  ends_then rows (Full t) k e = e
  ends_then rows (Failed row column cause) k e = absurd e
  ends_then rows Waiting k e = absurd e

  goes_then : (t : WalkState) (w : Walk) (j k : WalkState → Walk) → GoesSo t.rows w → ((s : WalkState) → Same t.rows s → Follows (j t) (k s)) → ((s : WalkState) → Ends t.rows s.rows → Follows (j t) (Full s))
      → Follows (j t) (and_then w k)
  goes_then t (Going s) j k g same done = same s g
  goes_then t (Full s) j k g same done = done s g
  goes_then t (Failed row column cause) j k g same done = absurd g
  goes_then t Waiting j k g same done = absurd g

  steady_then : (t : WalkState) (w : Walk) (j k : WalkState → Walk) (b : Bool) → t.steady ≡ b → (t.steady ≡ true → GoesSo t.rows w) → ((s : WalkState) → Same t.rows s → Follows (j t) (k s))
      → ((s : WalkState) → Ends t.rows s.rows → Follows (j t) (Full s)) → (t.steady ≡ false → Loose (j t)) → Follows (j t) (and_then w k)
  steady_then t w j k true e g same done loose = goes_then t w j k (g e) same done
  steady_then t w j k false e g same done loose = follows_loose (j t) (and_then w k) (loose e)

  follows_then : (v w : Walk) (j k : WalkState → Walk) → Follows v w → ((t s : WalkState) → Same t.rows s → Follows (j t) (k s)) → ((t s : WalkState) → Ends t.rows s.rows → Follows (j t) (Full s))
      → ((t : WalkState) → t.steady ≡ false → Loose (j t)) → Follows (and_then v j) (and_then w k)
  follows_then (Going t) w j k f same done loose = steady_then t w j k t.steady refl f (same t) (done t) (loose t)
  follows_then (Full t) w j k f same done loose = λ h p. ends_then t.rows w k (f h p)
  follows_then (Failed row column cause) w j k f same done loose = tt
  follows_then Waiting w j k f same done loose = tt

  -- ---- items: the request's walk has those for which `test` is true

  module _ (visit other : Cell → WalkState → Walk) (test : Cell → Bool) (grow : (item : Cell) (s : WalkState) → Grows s (visit item s))
      (here : (item : Cell) (t s : WalkState) → test item ≡ true → Same t.rows s → Follows (visit item t) (other item s))
      (past : (item : Cell) (t s : WalkState) → test item ≡ false → Same t.rows s → Follows (visit item t) (Going s)) where
    visits_by : (item : Cell) (items : List Cell) (t s : WalkState) (b : Bool) → test item ≡ b → Same t.rows s
        → ((u v : WalkState) → Same u.rows v → Follows (visit_all visit items u) (visit_all other (filter test items) v))
        → Follows (and_then (visit item t) (λ u. visit_all visit items u)) (visit_all other (cond b (item ∷ filter test items) (filter test items)) s)
    visits_by item items t s true e m later =
        follows_then (visit item t) (other item s) (λ u. visit_all visit items u) (λ v. visit_all other (filter test items) v) (here item t s e m) later
        (λ u v ends. follows_done u v (visit_all visit items u) (visits_grow visit grow items u) ends) (λ u loose. grows_loose u (visit_all visit items u) loose (visits_grow visit grow items u))
    visits_by item items t s false e m later =
        follows_then (visit item t) (Going s) (λ u. visit_all visit items u) (λ v. visit_all other (filter test items) v) (past item t s e m) later
        (λ u v ends. follows_done u v (visit_all visit items u) (visits_grow visit grow items u) ends) (λ u loose. grows_loose u (visit_all visit items u) loose (visits_grow visit grow items u))

    visits_follow : (items : List Cell) (t s : WalkState) → Same t.rows s → Follows (visit_all visit items t) (visit_all other (filter test items) s)
    visits_follow [] t s m = λ h. m
    visits_follow (item ∷ items) t s m = visits_by item items t s (test item) refl m (λ u v n. visits_follow items u v n)

    -- ---- a call

    accepted_by : (source : Source) (n m : ℕ) (t s : WalkState) (b c : Bool) → (b ≡ false → c ≡ false) → Same t.rows s
        → Follows (if b then Failed (suc t.items) None (TooMany source.function n) else Going t) (if c then Failed (suc s.items) None (TooMany source.function m) else Going s)
    accepted_by source n m t s true c i same = tt
    accepted_by source n m t s false true i same = absurd (false≢true (sym (i refl)))
    accepted_by source n m t s false false i same = λ h. same

    fewer_too_many : (single : Bool) (n m : ℕ) → m ≤ n → (single && nat_lt 1 n) ≡ false → (single && nat_lt 1 m) ≡ false
    fewer_too_many true n m le h = let most : n ≤ 1 = ltb-false 1 n h in le-ltb 1 m (omega arith)
    fewer_too_many false n m le h = refl

    ended_same : (source : Source) (v : Verdict) (n m : ℕ) (t s : WalkState) (again later : Walk) → m ≤ n → Loose again → Same t.rows s
        → Follows (ended source 1 v n t again) (ended source 1 v m s later)
    ended_same source Accept n m t s again later le loose same = accepted_by source n m t s (source.single && nat_lt 1 n) (source.single && nat_lt 1 m) (fewer_too_many source.single n m le) same
    ended_same source Again n m t s again later le loose same = follows_loose again later loose
    ended_same source (Refuse text) n m t s again later le loose same = tt
    ended_same source Open n m t s again later le loose same = tt

    ended_done : (source : Source) (v : Verdict) (n : ℕ) (t s : WalkState) (again : Walk) → Loose again → Ends t.rows s.rows → Follows (ended source 1 v n t again) (Full s)
    ended_done source Accept n t s again loose ends = follows_done t s (accepted source n t) (accepted_grows source n t t (from_same t)) ends
    ended_done source Again n t s again loose ends = follows_loose again (Full s) loose
    ended_done source (Refuse text) n t s again loose ends = tt
    ended_done source Open n t s again loose ends = tt

    ended_loose : (source : Source) (v : Verdict) (n : ℕ) (t : WalkState) (again : Walk) → Loose again → t.steady ≡ false → Loose (ended source 1 v n t again)
    ended_loose source Accept n t again loose e = grows_loose t (accepted source n t) e (accepted_grows source n t t (from_same t))
    ended_loose source Again n t again loose e = loose
    ended_loose source (Refuse text) n t again loose e = tt
    ended_loose source Open n t again loose e = tt

    attempt_follows : (source : Source) (items : List Cell) (v : Verdict) (t s : WalkState) (again later : Walk) → Loose again → Same t.rows s
        → Follows (and_then (visit_all visit items t) (λ u. ended source 1 v (length items) u again))
        (and_then (visit_all other (filter test items) s) (λ u. ended source 1 v (length (filter test items)) u later))
    attempt_follows source items v t s again later loose same =
        follows_then (visit_all visit items t) (visit_all other (filter test items) s) (λ u. ended source 1 v (length items) u again) (λ u. ended source 1 v (length (filter test items)) u later)
        (visits_follow items t s same)
        (λ u w m. ended_same source v (length items) (length (filter test items)) u w again later (filter_le test items) loose m)
        (λ u w ends. ended_done source v (length items) u w again loose ends)
        (λ u e. ended_loose source v (length items) u again loose e)

    pub walk_follows : (source : Source) (replies others : ℕ → Seen) (t s : WalkState) → (others 1).items ≡ filter test (replies 1).items → (others 1).ending ≡ (replies 1).ending → Same t.rows s
        → Follows (walk visit source replies t) (walk other source others s)
    walk_follows source replies others t s items ending same =
        let fuel : ℕ = attempts_of source.rule.retry - 1 in
        let again : Walk = walk_in fuel visit source replies 2 (unsteady t) in
        let later : Walk = walk_in fuel other source others 2 (unsteady s) in
        let loose : Loose again = grows_loose (unsteady t) again refl (walk_grows visit grow source replies fuel 2 (unsteady t)) in
        let first : Walk = walk visit source replies t in
        let so : List Cell → Option Ending → Walk = λ xs. λ e. and_then (visit_all other xs s) (λ u. ended source 1 (judged source.rule 1 e) (length xs) u later) in
        let at : Follows first (so (filter test (replies 1).items) (replies 1).ending) = attempt_follows source (replies 1).items (judged source.rule 1 (replies 1).ending) t s again later loose same in
        subst (λ e. Follows first (so (others 1).items e)) (sym ending) (subst (λ xs. Follows first (so xs (replies 1).ending)) (sym items) at)

  -- ---- a row

  row_is : (cells : List Cell) (t s : WalkState) → keep (shown cells) ≡ true → Same t.rows s → s.rows ++ shown cells ∷ [] ≡ part (t.rows ++ cells ∷ [])
  row_is cells t s h m = ap (λ r. r ++ shown cells ∷ []) m.rows_are ∙ sym (part_kept t.rows cells h)

  row_ends : (cells : List Cell) (t s : WalkState) → is_reached limit (length (s.rows ++ shown cells ∷ [])) ≡ true → keep (shown cells) ≡ true → Same t.rows s
      → Ends (t.rows ++ cells ∷ []) (s.rows ++ shown cells ∷ [])
  row_ends cells t s f h m = λ more.
      ap (cut limit) (part_append (t.rows ++ cells ∷ []) more) ∙ ap (λ r. cut limit (r ++ part more)) (sym (row_is cells t s h m)) ∙ cut_here limit s.rows (shown cells) (part more) m.below f

  row_reaches : (cells : List Cell) (t s : WalkState) → Plain → is_reached kept (length (t.rows ++ cells ∷ [])) ≡ true → keep (shown cells) ≡ true → Same t.rows s
      → is_reached limit (length (s.rows ++ shown cells ∷ [])) ≡ true
  row_reaches cells t s p e h m =
      ap (λ r. is_reached limit (length r)) (row_is cells t s h m) ∙ ap (is_reached limit) (part_length p (t.rows ++ cells ∷ [])) ∙ reach_more kept limit (length (t.rows ++ cells ∷ [])) e p.reach

  abbrev with_cells : WalkState → List Cell → WalkState
  with_cells t cells = record { rows = t.rows ++ cells ∷ []; items = suc t.items; steady = t.steady }

  row_by : (cells : List Cell) (t s : WalkState) (b c : Bool) → is_reached kept (length (t.rows ++ cells ∷ [])) ≡ b → is_reached limit (length (s.rows ++ shown cells ∷ [])) ≡ c → keep (shown cells) ≡ true
      → Same t.rows s
      → Follows (if b then Full (with_cells t cells) else Going (with_cells t cells)) (if c then Full (with_cells s (shown cells)) else Going (with_cells s (shown cells)))
  row_by cells t s false false e f h m = λ steady. record { rows_are = row_is cells t s h m; below = f }
  row_by cells t s false true e f h m = λ steady. row_ends cells t s f h m
  row_by cells t s true false e f h m = λ steady p. false≢true (sym f ∙ row_reaches cells t s p e h m)
  row_by cells t s true true e f h m = λ steady p. row_ends cells t s f h m

  pub row_follows : (cells : List Cell) (t s : WalkState) → keep (shown cells) ≡ true → Same t.rows s
      → Follows (with_row_kept kept (t.rows ++ cells ∷ []) t) (with_row_kept limit (s.rows ++ shown cells ∷ []) s)
  row_follows cells t s h m =
      row_by cells t s (is_reached kept (length (t.rows ++ cells ∷ []))) (is_reached limit (length (s.rows ++ shown cells ∷ []))) refl refl h m

  past_by : (cells : List Cell) (t s : WalkState) (b : Bool) → keep (shown cells) ≡ false → Same t.rows s → Follows (if b then Full (with_cells t cells) else Going (with_cells t cells)) (Going s)
  past_by cells t s false h m = λ steady. record { rows_are = m.rows_are ∙ sym (part_left t.rows cells h); below = m.below }
  past_by cells t s true h m = λ steady p. false≢true (sym h ∙ p.all (shown cells))

  pub row_past : (cells : List Cell) (t s : WalkState) → keep (shown cells) ≡ false → Same t.rows s → Follows (with_row_kept kept (t.rows ++ cells ∷ []) t) (Going s)
  row_past cells t s h m = past_by cells t s (is_reached kept (length (t.rows ++ cells ∷ []))) h m
