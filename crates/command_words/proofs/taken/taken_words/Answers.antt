-- Each by computing it.
use Rattle.std.proofs.Common.{refl}
use Rattle.clap.proofs.OnLiterals.{clap_on_literals}
use Rattle.command_words.specs.Words.{simple_command}
use Rattle.command_words.proofs.taken.taken_words.Goals as goal

pub returns-clause-plain : goal.returns-clause-plain
unfolding simple_command clap_on_literals
returns-clause-plain c = refl

pub returns-clause-in_forms : goal.returns-clause-in_forms
unfolding simple_command clap_on_literals
returns-clause-in_forms c = (refl, refl, refl, refl)

pub returns-clause-other_commands : goal.returns-clause-other_commands
unfolding simple_command clap_on_literals
returns-clause-other_commands c = (refl, refl)

pub returns-clause-refused : goal.returns-clause-refused
unfolding simple_command clap_on_literals
returns-clause-refused c = (refl, refl, refl, refl, refl, refl, refl, refl)

pub returns-clause-refused_numbers : goal.returns-clause-refused_numbers
unfolding simple_command clap_on_literals
returns-clause-refused_numbers c = (refl, refl, refl, refl)
