use Rattle.std.proofs.lemmas.List.Elements.{Contains-get_or}
use Rattle.plain_desk.proofs.posts.mail_at.Goals as goal

pub returns-then-place-gone : goal.returns-then-place-gone
returns-then-place-gone g c = Contains-get_or c.args.gone.now c.args.place (0, 0) c.if-place-gone.true
