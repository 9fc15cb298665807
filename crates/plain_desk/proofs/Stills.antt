-- What stays of a desk.
use Rattle.std.proofs.Common.{◌≡◌, ℕ, [], ◌∷◌, ◌++◌, sym, subst, Contains}
use Rattle.std.proofs.lemmas.List.Elements.{Contains-append_left}
use Rattle.desk.specs.States.{DeskState, IsStill}

pub still_same : (a b : DeskState) → b.settings ≡ a.settings → b.tick ≡ a.tick → b.scans ≡ a.scans → b.gone ≡ a.gone → IsStill a b
still_same a b settings tick scans gone = record {
  settings = settings;
  tick = tick;
  scans = scans;
  gone = λ connection losses h. subst (λ xs. Contains xs (connection, losses)) (sym gone) h;
}

-- one connection more is gone
pub still_more : (a b : DeskState) (g : ℕ × ℕ) → b.settings ≡ a.settings → b.tick ≡ a.tick → b.scans ≡ a.scans → b.gone ≡ a.gone ++ g ∷ [] → IsStill a b
still_more a b g settings tick scans gone = record {
  settings = settings;
  tick = tick;
  scans = scans;
  gone = λ connection losses h. subst (λ xs. Contains xs (connection, losses)) (sym gone) (Contains-append_left a.gone (g ∷ []) (connection, losses) h);
}
