use Rattle.std.proofs.Common.{◌≡◌, ◌++◌, ◌∷◌, [], drop}
use Rattle.sql_lex.specs.Quotes.{doubled, quoted}
use Rattle.sql_lex.proofs.quotes.doubled.Given as goal

abbrev pub invariant-more : goal.invariant-more
invariant-more l = l.found.items ++ (doubled l.quote (drop l.b-index l.z) ++ l.quote ∷ []) ≡ quoted l.quote l.z
