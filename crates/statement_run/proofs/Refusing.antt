-- Refusals of a statement whose connections are known.
use Rattle.std.proofs.Common.{◌≡◌, ℕ, List, Option, Some, None, Result, Ok, Err, refl, ap, subst, sym, ◌∙◌}
use Rattle.std.specs.Prelude.{option_map}
use Rattle.std.specs.Option.{option_or}
use Rattle.sp_model.specs.declared.declaration.Declaration.{Declaration}
use Rattle.sp_model.specs.declared.settings.Settings.{Settings}
use Rattle.sql_grammar.specs.declared.ast.Statement.{Statement}
use Rattle.sql_bind.specs.Answer.{needed, bound, plain_connections, refused_or, refused_part}
use Rattle.sql_bind.specs.Binding.{bound_by}
use Rattle.sql_bind.specs.Members.{declared_under}
use Rattle.sql_bind.specs.Parts.{parts_of}
use Rattle.sql_bind.specs.Refusals.{unknown_connection, unknown_table, ninth_source}
use Rattle.sql_bind.specs.Sources.{seen_of}
use Rattle.sql_bind.specs.declared.bound.Bound.{Bound}
use Rattle.sql_bind.specs.declared.fault.BindFault.{BindFault}
use Rattle.sql_bind.specs.declared.fault.BindFault.TheVariants as bind
use Rattle.statement_run.specs.Answers.{IsPastNames}
use Rattle.statement_run.specs.declared.answer.AnswerEnd.TheVariants as end
use Rattle.statement_run.specs.declared.answer.BlockFault.TheVariants as fault

abbrev IsPast : BindFault → Type 0
IsPast f = IsPastNames (end.Refused (fault.Bind f))

none_unknown : (o : Option ℕ) (names cs : List (List ℕ)) → refused_or (option_map bind.UnknownConnection o) names ≡ Ok cs → o ≡ None
none_unknown (Some place) names cs h = absurd (cc)
none_unknown None names cs h = refl

part_past : (u a m : Option ℕ) (g : BindFault) → option_or (option_map bind.UnknownColumn u) (option_or (option_map bind.Ambiguous a) (option_map bind.TypeMismatch m)) ≡ Some g → IsPast g
part_past (Some q) a m g e = let same : bind.UnknownColumn q ≡ g = cc in subst IsPast same tt
part_past None (Some q) m g e = let same : bind.Ambiguous q ≡ g = cc in subst IsPast same tt
part_past None None (Some q) g e = let same : bind.TypeMismatch q ≡ g = cc in subst IsPast same tt
part_past None None None g e = absurd (cc)

past_by : (t m : Option ℕ) (p : Option BindFault) (b : Bound) (f : BindFault) → ((g : BindFault) → p ≡ Some g → IsPast g)
    → refused_or (option_or (option_map bind.UnknownTable t) (option_or p (option_map bind.TooManyTables m))) b ≡ Err f → IsPast f
past_by (Some q) m p b f h e = let same : bind.UnknownTable q ≡ f = cc in subst IsPast same tt
past_by None m (Some g) b f h e = let same : g ≡ f = cc in subst IsPast same (h g refl)
past_by None (Some q) None b f h e = let same : bind.TooManyTables q ≡ f = cc in subst IsPast same tt
past_by None None None b f h e = absurd (cc)

-- a statement whose connections are known is not refused for one that isn't
pub past_names : (settings : Settings) (ds : List ℕ → Option Declaration) (s : Statement) (cs : List (List ℕ)) (f : BindFault) → needed settings s ≡ Ok cs → bound settings ds s ≡ Err f → IsPast f
past_names settings ds s cs f h e =
    let under = declared_under settings ds in
    let all = seen_of under s in
    past_by (unknown_table under s) (ninth_source s) (refused_part (parts_of all s)) (bound_by settings all s) f
    (λ g is. part_past _ _ _ g is)
    (sym (ap (λ u. refused_or (option_or (option_map bind.UnknownConnection u)
    (option_or (option_map bind.UnknownTable (unknown_table under s)) (option_or (refused_part (parts_of all s)) (option_map bind.TooManyTables (ninth_source s))))) (bound_by settings all s))
    (none_unknown (unknown_connection settings s) (plain_connections settings s) cs h)) ∙ e)
