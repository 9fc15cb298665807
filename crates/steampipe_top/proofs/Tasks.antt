-- What words ask for.
use Rattle.std.proofs.Common.{◌≡◌, ℕ, List, Some, ap, ◌∙◌}
use Rattle.command_words.specs.Words.{words_of}
use Rattle.command_words.specs.declared.words.Words.{Words}
use Rattle.steampipe_top.specs.Running.{IsTask, IsTaskOf}
use Rattle.steampipe_top.specs.declared.task.Task.{Task}
use Rattle.steampipe_top.specs.declared.task.Task.TheVariants.{Query, Explain, Load, Nothing, Memory}

pub task_of_words : (t : Task) (w : Words) (words : List (List ℕ)) → words_of words ≡ Some w → IsTaskOf t w → IsTask t words
task_of_words (Query file form) w words said is = said ∙ ap Some is
task_of_words (Explain file second) w words said is = (is.0, said ∙ ap Some is.1)
task_of_words (Load count form) w words said is = said ∙ ap Some is
task_of_words Nothing w words said never = absurd never
task_of_words Memory w words said never = absurd never
