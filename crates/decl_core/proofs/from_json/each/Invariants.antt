-- What is read so far, followed by what the rest reads as, is the whole.
use Rattle.std.proofs.Common.{◌≡◌, ◌++◌, drop, option_map}
use Rattle.serde_json.specs.View.{items_view}
use Rattle.decl_words.specs.Members.{each}
use Rattle.decl_core.proofs.from_json.each.Given as goal

abbrev pub invariant-loop-value : goal.invariant-loop-value
invariant-loop-value g l = each g.T.FromJson.read_as (items_view l.values.items) ≡ option_map (λ rest. l.items ++ rest) (each g.T.FromJson.read_as (items_view (drop l.value-index l.value-items)))
