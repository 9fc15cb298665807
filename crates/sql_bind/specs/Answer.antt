-- What binding answers.
use Rattle.std.specs.Prelude.{◌≡◌, ℕ, true, List, [], ◌∷◌, ◌++◌, map, bytes_eq, Option, Some, None, option_map, Result, Ok, Err, if◌then◌else◌}
use Rattle.std.specs.List.{list_any, flat_map}
use Rattle.std.specs.Option.{option_or}
use Rattle.sp_model.specs.declared.declaration.Declaration.{Declaration}
use Rattle.sp_model.specs.declared.settings.Settings.{Settings}
use Rattle.sql_grammar.specs.declared.ast.Statement.{Statement}
use Rattle.sql_bind.specs.Binding.{bound_by}
use Rattle.sql_bind.specs.First.{first_of}
use Rattle.sql_bind.specs.Members.{members_named, declared_under}
use Rattle.sql_bind.specs.Parts.{Part, parts_of}
use Rattle.sql_bind.specs.Refusals.{unknown_connection, unknown_table, broken, ninth_source}
use Rattle.sql_bind.specs.Sources.{Seen, opened, seen_of}
use Rattle.sql_bind.specs.declared.bound.Bound.{Bound}
use Rattle.sql_bind.specs.declared.fault.BindFault.{BindFault}
use Rattle.sql_bind.specs.declared.fault.BindFault.TheVariants as fault
use Rattle.sql_bind.specs.declared.judging.NameRule.TheVariants as rule

-- the answer is this one, unless memory is wanting
abbrev pub IsUnlessMemory : {T : Type 0} → Result T BindFault → Result T BindFault → Type 0
IsUnlessMemory (Err fault.Memory) r = Unit {0}
IsUnlessMemory answer r = answer ≡ r

abbrev pub refused_or : {T : Type 0} → Option BindFault → T → Result T BindFault
refused_or (Some f) x = Err f
refused_or None x = Ok x

-- ---- connections

abbrev pub with_name : List (List ℕ) → List ℕ → List (List ℕ)
with_name names name = if list_any (bytes_eq name) names then names else names ++ name ∷ []

-- each name once, in the order in which they come first, after those that are there
abbrev pub each_once : List (List ℕ) → List (List ℕ) → List (List ℕ)
each_once found [] = found
each_once found (name ∷ names) = each_once (with_name found name) names

-- the connections that the sources name, in order of first use
abbrev pub connections_named : Statement → List (List ℕ)
connections_named s = each_once [] (map (λ o. o.source.connection.text) (opened s))

-- with members in place of aggregators
abbrev pub plain_connections : Settings → Statement → List (List ℕ)
plain_connections settings s = each_once [] (flat_map (members_named settings) (connections_named s))

-- the plain connections that a statement needs, or the first connection that the settings don't have
abbrev pub needed : Settings → Statement → Result (List (List ℕ)) BindFault
needed settings s = refused_or (option_map fault.UnknownConnection (unknown_connection settings s)) (plain_connections settings s)

-- ---- statements

-- the first of these kinds that there is, at its first part
abbrev pub refused_part : List Part → Option BindFault
refused_part parts =
    option_or (option_map fault.UnknownColumn (first_of (broken rule.UnknownColumn) parts))
    (option_or (option_map fault.Ambiguous (first_of (broken rule.Ambiguous) parts))
    (option_map fault.TypeMismatch (first_of (broken rule.TypeMismatch) parts)))

-- the first refusal in the order of kinds
abbrev pub refusal : Settings → (List ℕ → Option Declaration) → List Seen → Statement → Option BindFault
refusal settings declarations seen s =
    option_or (option_map fault.UnknownConnection (unknown_connection settings s))
    (option_or (option_map fault.UnknownTable (unknown_table declarations s))
    (option_or (refused_part (parts_of seen s))
    (option_map fault.TooManyTables (ninth_source s))))

abbrev pub bound_with : Settings → (List ℕ → Option Declaration) → Statement → Result Bound BindFault
bound_with settings declarations s =
    refused_or (refusal settings declarations (seen_of declarations s) s) (bound_by settings (seen_of declarations s) s)

-- the statement with columns in place of names, or the first refusal, by the settings and the declarations of plain connections; an aggregator
-- declares what its first member does
abbrev pub bound : Settings → (List ℕ → Option Declaration) → Statement → Result Bound BindFault
bound settings declarations s = bound_with settings (declared_under settings declarations) s

-- what is bound depends on the declarations of the plain connections that the statement needs, and on no other
abbrev pub BindsByItsConnections : Type 0
BindsByItsConnections = (settings : Settings) (declarations others : List ℕ → Option Declaration) (s : Statement)
    → ((name : List ℕ) → list_any (bytes_eq name) (plain_connections settings s) ≡ true → declarations name ≡ others name)
    → bound settings declarations s ≡ bound settings others s
