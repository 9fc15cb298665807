-- What a gate answers to a call that asks.
use Rattle.std.specs.Prelude.{◌≡◌, ℕ, Result, Ok, Err}
use Rattle.rate_gate.specs.declared.tag_list.TagList.{TagList}
use Rattle.rate_gate.specs.declared.entry.Entry.TheVariants.{Grant}
use Rattle.rate_gate.specs.declared.permit.Permit.{Permit}
use Rattle.rate_gate.specs.declared.wait.Wait.{Wait}
use Rattle.rate_gate.specs.declared.wait.Wait.TheVariants.{Places, Until, Memory}
use Rattle.rate_gate.specs.Journal.{count_grants}
use Rattle.rate_gate.specs.Limits.{GateView, HasFull, HasPlaces, HasTokens, IsUntil, noted}

-- a permit where no instance of the call is full and each has a token: the next grant, of these tags
pub record IsGranted (g : GateView) (tags : TagList) (tick : ℕ) (h : GateView) (p : Permit) : Type 0 where
  pub places : HasPlaces g tags
  pub tokens : HasTokens g.limiters tags g.journal tick
  pub number : p.number ≡ count_grants g.journal
  pub tagged : p.tags ≡ tags
  pub after : h ≡ noted g (Grant p.number p.tags tick)

-- the three cases rule each other out; without a permit the gate is as it was
abbrev pub Answered : GateView → TagList → ℕ → GateView → Result Permit Wait → Type 0
Answered g tags tick h (Ok p) = IsGranted g tags tick h p
Answered g tags tick h (Err Places) = HasFull g tags × (h ≡ g)
Answered g tags tick h (Err (Until u)) = IsUntil g tags tick u × (h ≡ g)
Answered g tags tick h (Err Memory) = h ≡ g
