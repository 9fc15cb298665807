use Rattle.std.proofs.Common.{ap, ◌∙◌, sym, nat_eq}
use Rattle.serde_json.specs.View.{view}
use Rattle.serde_json.proofs.Views.{view-Object}
use Rattle.sp_world.specs.ReplyLines.{has_two_members}
use Rattle.sp_world.proofs.TwoMembers.{two_entries}
use Rattle.sp_world.proofs.line_reading.has_two_members.Goals as goal

pub returns-in-Object : goal.returns-in-Object
returns-in-Object c =
    ap (λ n. nat_eq n 2) c.len.ensures.len ∙ two_entries c.in-Object.members.entries ∙ ap has_two_members (sym (view-Object c.in-Object.members)) ∙ ap (λ v. has_two_members (view v)) (sym c.in-Object.is)
