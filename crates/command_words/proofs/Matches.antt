-- What the parser and the getters of its matches give.
use Rattle.std.proofs.Common.{◌≡◌, ℕ, List, Ok, Err, true, inl, inr, refl, subst}
use Rattle.clap.specs.Faults.{fault_of, is_simple_and_free}
use Rattle.clap.specs.Kinds.{FailsBy, IsAmong}
use Rattle.clap.specs.Matches.{first_value}
use Rattle.clap.specs.Simple.{App, HasMatchesOf, is_simple}
use Rattle.clap.specs.Values.{kind_of}
use Rattle.clap.specs.Walk.{first_of, rows_of}
use Rattle.clap.specs.declared.error.Error.{Error}
use Rattle.clap.specs.declared.parser.matches.ArgMatches.{ArgMatches}
use Rattle.clap.specs.declared.parser.matches.Found.{Found}
use Rattle.clap.proofs.OnLiterals.{clap_on_literals}
use Rattle.clap.proofs.WalkLemmas.{first_value-rows}
use Rattle.command_words.specs.Matched.{IsMatched, IsFaultOf}
use Rattle.command_words.specs.Words.{simple_command}
use Rattle.command_words.specs.declared.words.WordsFault.{WordsFault}
use Rattle.command_words.specs.declared.words.WordsFault.TheVariants.{Usage, Memory}

pub first_is : (f : Found) (id : List ℕ) → first_value f id ≡ first_of id (rows_of f)
first_is f id = first_value-rows f id

free : is_simple_and_free simple_command ≡ true
unfolding simple_command clap_on_literals
free = refl

plain : is_simple simple_command ≡ true
unfolding simple_command clap_on_literals
plain = refl

pub matched : (a : App) (words : List (List ℕ)) (m : ArgMatches) → a ≡ simple_command → (is_simple_and_free a ≡ true → FailsBy (fault_of a words) (Ok m)) → HasMatchesOf a words m
    → IsMatched (Ok m) words
matched a words m same kinds matches =
    (subst (λ b. is_simple_and_free b ≡ true → FailsBy (fault_of b words) (Ok m)) same kinds free, (subst (λ b. HasMatchesOf b words m) same matches plain).0)

pub refused : (a : App) (words : List (List ℕ)) (e : Error) (f : WordsFault) → a ≡ simple_command → (is_simple_and_free a ≡ true → FailsBy {T = ArgMatches} (fault_of a words) (Err e))
    → IsFaultOf (kind_of e) f → IsMatched (Err f) words
refused a words e Memory same kinds why = tt
refused a words e Usage same kinds why = λ none.
    elim (subst (λ b. is_simple_and_free b ≡ true → FailsBy {T = ArgMatches} (fault_of b words) (Err e)) same kinds free) [
      | inl memory ↦ why memory
      | inr among ↦ absurd (subst (λ ks. IsAmong (kind_of e) ks) none among)
    ]
