use Rattle.input_lines.proofs.Marks.{trims}
use Rattle.input_lines.proofs.form.without_spaces.Goals as goal

pub returns : goal.returns
returns c = trims c.args.text.now _ c.trim_start_matches.ensures.matches
