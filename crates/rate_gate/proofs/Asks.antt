-- What a gate answers, from what its limiters say.
use Rattle.std.proofs.Common.{◌≡◌, ℕ, ◌<◌, ◌≤◌, ◌↔◌, Bool, true, false, List, [], ◌∷◌, ◌++◌, length, refl, sym, subst, ap, ◌∙◌, arith}
use Rattle.std.specs.List.{AllByRecursion, list_any}
use Rattle.rate_bucket.specs.Windows.{IsFirstFrom}
use Rattle.sp_model.specs.declared.settings.Limiter.{Limiter}
use Rattle.rate_gate.specs.declared.tag_list.TagList.{TagList}
use Rattle.rate_gate.specs.declared.entry.Entry.{Entry}
use Rattle.rate_gate.specs.declared.entry.Entry.TheVariants.{Grant}
use Rattle.rate_gate.specs.declared.limited.Limited.{Limited}
use Rattle.rate_gate.specs.declared.permit.Permit.{Permit}
use Rattle.rate_gate.specs.declared.wait.Wait.{Wait}
use Rattle.rate_gate.specs.declared.wait.Wait.TheVariants.{Places, Until, Memory}
use Rattle.std.specs.Prelude.{Result, Ok, Err, IsErrAnd}
use Rattle.rate_gate.specs.Asking.{Answered, IsGranted}
use Rattle.rate_gate.specs.Journal.{last_tick, count_grants}
use Rattle.rate_gate.specs.Limits.{GateView, HasToken, HasTokens, IsUntil, is_full, noted}
use Rattle.rate_gate.specs.Instances.{Fits, Ready, Kept, Changed, Took, TokenNow, full_now, First, Looked, limiters_of, view_of}
use Rattle.rate_gate.proofs.Grants.{all_kept, limiters_kept, limiters_changed, any_full_is, tokens_are}

-- the limiters that are looked at are the gate's
pub full_of : (j : List Entry) (tags : TagList) (olds mids : List Limited) (b : Bool) → AllByRecursion (Fits j) olds → First Kept olds mids (length olds) → AllByRecursion (Ready tags) mids
    → list_any full_now mids ≡ b → list_any (is_full tags j) (limiters_of olds) ≡ b
full_of j tags olds mids b h k ready e =
    ap (λ (ls : List Limiter). list_any (is_full tags j) ls) (sym (limiters_kept olds mids k)) ∙ sym (any_full_is j tags mids (all_kept j olds mids h k) ready) ∙ e

pub tokens_of : (j : List Entry) (tags : TagList) (olds mids : List Limited) (u : ℕ) → AllByRecursion (Fits j) olds → First Kept olds mids (length olds) → AllByRecursion (Ready tags) mids → last_tick j ≤ u
    → AllByRecursion (TokenNow u) mids ↔ HasTokens (limiters_of olds) tags j u
tokens_of j tags olds mids u h k ready le =
    subst (λ (ls : List Limiter). AllByRecursion (TokenNow u) mids ↔ AllByRecursion (HasToken tags j u) ls) (limiters_kept olds mids k)
    (tokens_are j tags u mids le (all_kept j olds mids h k) ready)

pub until_of : (j : List Entry) (tags : TagList) (olds mids : List Limited) (tick u : ℕ) → AllByRecursion (Fits j) olds → First Kept olds mids (length olds) → AllByRecursion (Ready tags) mids → last_tick j ≤ tick
    → list_any full_now mids ≡ false → tick < u → IsFirstFrom tick (λ n. AllByRecursion (TokenNow n) mids) u → IsUntil (view_of olds j) tags tick u
until_of j tags olds mids tick u h k ready le free late first =
    record {
      places = full_of j tags olds mids false h k ready free;
      later = late;
      least = record {
        from = first.from;
        exact = λ n tn.
            (let same = tokens_of j tags olds mids n h k ready (omega arith) in
            let e = first.exact n tn in
            (λ l. same.0 (e.0 l), λ t. e.1 (same.1 t)));
      };
    }

-- nothing but instances that nothing was taken from was made
pub same_view : (j : List Entry) (olds mids : List Limited) → First Kept olds mids (length olds) → view_of mids j ≡ view_of olds j
same_view j olds mids k = ap (λ (ls : List Limiter). record { limiters = ls; journal = j }) (limiters_kept olds mids k)

pub noted_view : (j k : List Entry) (e : Entry) (olds mids news : List Limited) (tick : ℕ) → First Kept olds mids (length olds) → First (Changed (Took tick)) mids news (length mids) → k ≡ j ++ e ∷ []
    → view_of news k ≡ noted (view_of olds j) e
noted_view j k e olds mids news tick kept took is = rw (is, limiters_changed (Took tick) mids news took, limiters_kept olds mids kept) refl

-- a call that is refused
pub refused_of : (j : List Entry) (tags : TagList) (olds mids : List Limited) (tick : ℕ) (e : Wait) → AllByRecursion (Fits j) olds → First Kept olds mids (length olds) → AllByRecursion (Ready tags) mids → last_tick j ≤ tick
    → Looked mids tick (Err e) → Answered (view_of olds j) tags tick (view_of mids j) (Err e)
refused_of j tags olds mids tick Places h k ready le l = (full_of j tags olds mids true h k ready l, same_view j olds mids k)
refused_of j tags olds mids tick (Until u) h k ready le l = (until_of j tags olds mids tick u h k ready le l.0 l.1 l.2, same_view j olds mids k)
refused_of j tags olds mids tick Memory h k ready le l = absurd l

-- a call that is granted
pub granted_of : (j after : List Entry) (tags : TagList) (olds mids news : List Limited) (tick : ℕ) (p : Permit) → AllByRecursion (Fits j) olds → First Kept olds mids (length olds) → AllByRecursion (Ready tags) mids
    → last_tick j ≤ tick → (list_any full_now mids ≡ false) × AllByRecursion (TokenNow tick) mids → First (Changed (Took tick)) mids news (length mids) → p.number ≡ count_grants j → p.tags ≡ tags
    → after ≡ j ++ Grant p.number p.tags tick ∷ [] → IsGranted (view_of olds j) tags tick (view_of news after) p
granted_of j after tags olds mids news tick p h k ready le l took number tagged is =
    record {
      places = full_of j tags olds mids false h k ready l.0;
      tokens = (tokens_of j tags olds mids tick h k ready le).0 l.1;
      number = number;
      tagged = tagged;
      after = noted_view j after (Grant p.number p.tags tick) olds mids news tick k took is;
    }

-- the answer that `?` makes
pub answered_err : (g h : GateView) (tags : TagList) (tick : ℕ) (r : Result Permit Wait) (w : Wait) → IsErrAnd r (λ e. e ≡ w) → Answered g tags tick h (Err w) → Answered g tags tick h r
answered_err g h tags tick (Ok p) w is a = absurd is
answered_err g h tags tick (Err e) w is a = subst (λ (x : Wait). Answered g tags tick h (Err x)) (sym is) a
