-- Tokens that have a spelling of their own.
use Rattle.std.proofs.Common.{◌≡◌, ℕ, ℤ, Bool, true, false, List, [], ◌∷◌, ◌++◌}
use Rattle.sql_lex.specs.declared.token.Kind.{Kind}
use Rattle.sql_lex.specs.declared.token.Kind.TheVariants as k
use Rattle.sql_lex.specs.declared.token.Value.{Value}
use Rattle.sql_lex.specs.declared.token.Value.TheVariants as v
use Rattle.sql_grammar.specs.Says.{in_range}
use Rattle.sql_print.specs.Said.{Bare}

abbrev pub is_fixed : Kind → Bool
is_fixed k.Name = false
is_fixed k.Number = false
is_fixed k.Text = false
is_fixed k.Bad = false
is_fixed _ = true

abbrev pub has_text : Kind → List ℕ → Bool
has_text k.Name [] = false
has_text k.Name (b ∷ bs) = true
has_text k.Text bs = true
has_text _ bs = false

abbrev pub has_number : Kind → ℤ → Bool
has_number k.Number n = in_range n
has_number _ n = false

abbrev pub sayable_by : Kind → Value → Bool
sayable_by kind v.Fixed = is_fixed kind
sayable_by kind (v.Text bs) = has_text kind bs
sayable_by kind (v.Number n) = has_number kind n

abbrev pub sayable : Bare → Bool
sayable b = sayable_by b.0 b.1

abbrev pub AllSayable : List Bare → Type 0
AllSayable [] = Unit {0}
AllSayable (b ∷ bs) = (sayable b ≡ true) × AllSayable bs

pub all_append : (p q : List Bare) → AllSayable p → AllSayable q → AllSayable (p ++ q)
all_append [] q h g = g
all_append (b ∷ p) q h g = (h.0, all_append p q h.1 g)
