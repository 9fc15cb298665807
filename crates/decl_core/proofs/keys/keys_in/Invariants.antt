-- The keys so far, followed by those of the items that are left, are all.
use Rattle.std.proofs.Common.{◌≡◌, ◌++◌, drop, option_map}
use Rattle.serde_json.specs.View.{items_view}
use Rattle.decl_words.specs.Keys.{key_of}
use Rattle.decl_words.specs.Members.{each}
use Rattle.decl_core.proofs.keys.keys_in.Given as goal

abbrev pub invariant-loop-value : goal.invariant-loop-value
invariant-loop-value l = each (key_of l.columns) (items_view l.values.items) ≡ option_map (λ rest. l.keys ++ rest) (each (key_of l.columns) (items_view (drop l.value-index l.value-items)))
