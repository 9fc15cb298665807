-- What is read so far, followed by what the rest reads as, is the whole.
use Rattle.std.proofs.Common.{◌≡◌, ◌++◌, drop, option_map}
use Rattle.toml.specs.View.{items_view}
use Rattle.settings_text.specs.Members.{each}
use Rattle.settings_text.proofs.from_toml.each.Given as goal

abbrev pub invariant-loop-value : goal.invariant-loop-value
invariant-loop-value g l = each g.T.FromToml.read_as (items_view l.values.items) ≡ option_map (λ rest. l.items ++ rest) (each g.T.FromToml.read_as (items_view (drop l.value-index l.value-items)))
