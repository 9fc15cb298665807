-- The tags so far, followed by those of the members that are left, are all.
use Rattle.std.proofs.Common.{◌≡◌, ◌++◌, option_map}
use Rattle.serde_json.specs.View.{members_view}
use Rattle.decl_words.specs.Rules.{tags_in}
use Rattle.decl_core.proofs.rules.tags_in.Given as goal

abbrev pub invariant-loop-key : goal.invariant-loop-key
invariant-loop-key l = tags_in (members_view l.members.entries) ≡ option_map (λ rest. l.tags ++ rest) (tags_in (members_view l.key-iterator))
