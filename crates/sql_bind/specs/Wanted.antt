-- What a ref asks for.
use Rattle.std.specs.Prelude.{◌≡◌, ℕ, Bool, true, false, ◌&&◌, List, ◌++◌, bytes_eq, Option, Some, None, option_map}
use Rattle.std.specs.Cmp.{IsEquivalence, and_equiv, on_equiv}
use Rattle.std.specs.Cmp.Lexicographic.{options_equiv, nat_list_eq_equiv, bytes_decides}
use Rattle.std.specs.Hash as fed
use Rattle.std.specs.Hash.{HashWrites}
use Rattle.std.specs.Option.{option_eq}
use Rattle.std.proofs.Common.{ap, refl}
use Rattle.sql_grammar.specs.declared.ast.Name.{Name}
use Rattle.sql_grammar.specs.declared.ast.Ref.{Ref}

-- a column's name, of the sources of an alias or of all
pub record Wanted : Type 0 where
  pub alias : Option (List ℕ)
  pub column : List ℕ

abbrev pub wanted_by : Ref → Wanted
wanted_by r = record { alias = option_map (λ (n : Name). n.text) r.source; column = r.column.text }

abbrev pub same_wanted : Wanted → Wanted → Bool
same_wanted a b = option_eq bytes_eq a.alias b.alias && bytes_eq a.column b.column

pub same_wanted_equivalence : IsEquivalence same_wanted
same_wanted_equivalence = and_equiv (on_equiv (λ w. w.alias) (options_equiv nat_list_eq_equiv)) (on_equiv (λ w. w.column) nat_list_eq_equiv)

both_true : (a b : Bool) → (a && b) ≡ true → (a ≡ true) × (b ≡ true)
both_true true b h = (refl, h)
both_true false b h = absurd (cc)

same_alias_is : (a b : Option (List ℕ)) → option_eq bytes_eq a b ≡ true → a ≡ b
same_alias_is None None h = refl
same_alias_is None (Some b) h = absurd (cc)
same_alias_is (Some a) None h = absurd (cc)
same_alias_is (Some a) (Some b) h = ap Some ((bytes_decides a b).0 h)

-- what is told apart is apart
pub same_wanted_is : (a b : Wanted) → same_wanted a b ≡ true → a ≡ b
same_wanted_is a b h =
    let both = both_true (option_eq bytes_eq a.alias b.alias) (bytes_eq a.column b.column) h in
    let alias : a.alias ≡ b.alias = same_alias_is a.alias b.alias both.0 in
    let column : a.column ≡ b.column = (bytes_decides a.column b.column).0 both.1 in
    λ i. record { alias = alias i; column = column i }

abbrev pub alias_writes : Option (List ℕ) → HashWrites
alias_writes None = fed.u8 0
alias_writes (Some alias) = fed.u8 1 ++ fed.str alias

abbrev pub wanted_writes : Wanted → HashWrites
wanted_writes w = alias_writes w.alias ++ fed.str w.column

pub same_wanted_are_fed_alike : (a b : Wanted) → same_wanted a b ≡ true → wanted_writes a ≡ wanted_writes b
same_wanted_are_fed_alike a b h = ap wanted_writes (same_wanted_is a b h)
