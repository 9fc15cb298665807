-- What is explained, and refused, step by step.
use Rattle.std.proofs.Common.{◌≡◌, ℕ, List, Option, Ok}
use Rattle.sp_model.specs.declared.declaration.Declaration.{Declaration}
use Rattle.sp_model.specs.declared.settings.Settings.{Settings}
use Rattle.sql_lex.specs.Lex.{tokens}
use Rattle.sql_grammar.specs.Grammar.{StatementPhrase}
use Rattle.sql_grammar.specs.Theorem.{depth}
use Rattle.sql_grammar.specs.declared.ast.Statement.{Statement}
use Rattle.sql_bind.specs.Answer.{bound}
use Rattle.sql_bind.specs.declared.bound.Bound.{Bound}
use Rattle.statement_plan.specs.Plans.{IsPlanOf}
use Rattle.statement_plan.specs.declared.plan.Plan.{Plan}
use Rattle.explain_text.specs.Lines.{plan_text}
use Rattle.explain_text.specs.Explained.{HasLines, IsExplained, IsRefused, IsUnread, IsUnbound, IsUnplanned}
use Rattle.explain_text.specs.declared.fault.ExplainFault.{ExplainFault}
use Rattle.explain_text.specs.declared.fault.ExplainFault.TheVariants as fault

pub lines_are : (b : Bound) (plan : Plan) (lines : List ℕ) → IsPlanOf b plan → lines ≡ plan_text b plan → HasLines lines b
lines_are b plan lines is same = record { plan = plan; is = is; same = same }

module _ (settings : Settings) (declarations : List ℕ → Option Declaration) (text : List ℕ) where
  pub unread : (f : ExplainFault) → IsUnread text f → IsRefused settings declarations text f
  unread (fault.Sql f) h = h
  unread (fault.Bind f) h = absurd h
  unread (fault.MissingKeys source columns) h = absurd h
  unread fault.Memory h = tt

  module _ (s : Statement) (phrase : StatementPhrase depth (tokens text) s) where
    pub unbound : (f : ExplainFault) → IsUnbound (bound settings declarations s) f → IsRefused settings declarations text f
    unbound (fault.Sql f) h = absurd h
    unbound (fault.Bind f) h = record { statement = s; phrase = phrase; fact = h }
    unbound (fault.MissingKeys source columns) h = absurd h
    unbound fault.Memory h = tt

    pub unplanned : (b : Bound) (f : ExplainFault) → bound settings declarations s ≡ Ok b → IsUnplanned b f → IsRefused settings declarations text f
    unplanned b (fault.Sql f) same h = absurd h
    unplanned b (fault.Bind f) same h = absurd h
    unplanned b (fault.MissingKeys source columns) same h = record { statement = s; phrase = phrase; fact = record { meaning = b; same = same; fact = h } }
    unplanned b fault.Memory same h = tt

    pub explained : (b : Bound) (lines : List ℕ) → bound settings declarations s ≡ Ok b → HasLines lines b → IsExplained settings declarations text lines
    explained b lines same h = record { statement = s; phrase = phrase; fact = record { meaning = b; same = same; fact = h } }
