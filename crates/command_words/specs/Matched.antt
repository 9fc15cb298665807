-- What the steps of reading words answer.
use Rattle.std.specs.Prelude.{◌≡◌, ◌≢◌, ℕ, List, [], Option, Some, None, Result, Ok, Err}
use Rattle.clap.specs.Faults.{fault_of}
use Rattle.clap.specs.Matches.{found_of}
use Rattle.clap.specs.Simple.{matches_of}
use Rattle.clap.specs.Walk.{rows_of}
use Rattle.clap.specs.declared.error.kind.ErrorKind.{ErrorKind}
use Rattle.clap.specs.declared.error.kind.ErrorKind.TheVariants.{OutOfMemory}
use Rattle.clap.specs.declared.parser.matches.ArgMatches.{ArgMatches}
use Rattle.command_words.specs.Words.{simple_command}
use Rattle.command_words.specs.declared.words.WordsFault.{WordsFault}
use Rattle.command_words.specs.declared.words.WordsFault.TheVariants.{Usage, Memory}

-- the matches that the simple command makes of the words, or a refusal of words that it refuses, or want of memory
abbrev pub IsMatched : Result ArgMatches WordsFault → List (List ℕ) → Type 0
IsMatched (Ok m) words = (fault_of simple_command words ≡ []) × (rows_of (found_of m) ≡ matches_of simple_command words)
IsMatched (Err Usage) words = fault_of simple_command words ≢ []
IsMatched (Err Memory) words = Unit {0}

-- want of memory is that of the parser
abbrev pub IsFaultOf : ErrorKind → WordsFault → Type 0
IsFaultOf kind Usage = kind ≢ OutOfMemory
IsFaultOf kind Memory = Unit {0}

-- what words say, or a refusal of words that say nothing, or want of memory
abbrev pub IsRead : {T : Type 0} → Result T WordsFault → Option T → Type 0
IsRead (Ok w) said = said ≡ Some w
IsRead (Err Usage) said = said ≡ None
IsRead (Err Memory) said = Unit {0}
