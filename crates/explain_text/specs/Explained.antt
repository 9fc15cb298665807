-- What is explained of a text.
use Rattle.std.specs.Prelude.{◌≡◌, ℕ, List, Option, Some, Result, Ok, Err, All}
use Rattle.sp_model.specs.declared.declaration.Declaration.{Declaration}
use Rattle.sp_model.specs.declared.settings.Settings.{Settings}
use Rattle.decl_words.specs.Sound.{IsSound}
use Rattle.sql_lex.specs.Lex.{tokens}
use Rattle.sql_grammar.specs.Grammar.{StatementPhrase}
use Rattle.sql_grammar.specs.Theorem.{depth}
use Rattle.sql_grammar.specs.declared.ast.Statement.{Statement}
use Rattle.sql_parser.specs.Answer.{IsFaultOf}
use Rattle.sql_parser.specs.declared.fault.SqlFault.{SqlFault}
use Rattle.sql_parser.specs.declared.fault.SqlFault.TheVariants as sql
use Rattle.sql_bind.specs.Answer.{bound}
use Rattle.sql_bind.specs.declared.bound.Bound.{Bound}
use Rattle.sql_bind.specs.declared.fault.BindFault.{BindFault}
use Rattle.statement_plan.specs.Plans.{IsPlanOf, first_missing}
use Rattle.statement_plan.specs.declared.plan.Plan.{Plan}
use Rattle.explain_text.specs.Lines.{plan_text}
use Rattle.explain_text.specs.declared.fault.ExplainFault.{ExplainFault}
use Rattle.explain_text.specs.declared.fault.ExplainFault.TheVariants as fault

-- each table that a connection declares is sound
abbrev pub AreSound : (List ℕ → Option Declaration) → Type 0
AreSound declarations = (connection : List ℕ) (d : Declaration) → declarations connection ≡ Some d → All IsSound d.tables

-- the text is a statement of which this holds
pub record IsStatement (text : List ℕ) (P : Statement → Type 0) : Type 0 where
  pub statement : Statement
  pub phrase : StatementPhrase depth (tokens text) statement
  pub fact : P statement

-- a statement's names and kinds fit, and of what is bound this holds
pub record IsBound (settings : Settings) (declarations : List ℕ → Option Declaration) (P : Bound → Type 0) (s : Statement) : Type 0 where
  pub meaning : Bound
  pub same : bound settings declarations s ≡ Ok meaning
  pub fact : P meaning

-- the lines of the plan, which there is
pub record HasLines (lines : List ℕ) (b : Bound) : Type 0 where
  pub plan : Plan
  pub is : IsPlanOf b plan
  pub same : lines ≡ plan_text b plan

-- these are the lines of what the text says
abbrev pub IsExplained : Settings → (List ℕ → Option Declaration) → List ℕ → List ℕ → Type 0
IsExplained settings declarations text lines = IsStatement text (IsBound settings declarations (HasLines lines))

-- the first fault of a text that is no statement
abbrev pub IsNoStatement : List ℕ → SqlFault → Type 0
IsNoStatement text sql.Memory = ⊥
IsNoStatement text f = IsFaultOf text f

-- the first refusal: the text is no statement; else its names or kinds don't fit; else a source lacks keys. Want of memory is free
abbrev pub IsRefused : Settings → (List ℕ → Option Declaration) → List ℕ → ExplainFault → Type 0
IsRefused settings declarations text (fault.Sql f) = IsNoStatement text f
IsRefused settings declarations text (fault.Bind f) = IsStatement text (λ s. bound settings declarations s ≡ Err f)
IsRefused settings declarations text (fault.MissingKeys source columns) =
    IsStatement text (IsBound settings declarations (λ b. first_missing b ≡ Some (source, columns)))
IsRefused settings declarations text fault.Memory = Unit {0}

-- ---- for private clauses

abbrev pub IsUnread : List ℕ → ExplainFault → Type 0
IsUnread text (fault.Sql f) = IsNoStatement text f
IsUnread text fault.Memory = Unit {0}
IsUnread text _ = ⊥

abbrev pub IsUnbound : Result Bound BindFault → ExplainFault → Type 0
IsUnbound r (fault.Bind f) = r ≡ Err f
IsUnbound r fault.Memory = Unit {0}
IsUnbound r _ = ⊥

abbrev pub IsUnplanned : Bound → ExplainFault → Type 0
IsUnplanned b (fault.MissingKeys source columns) = first_missing b ≡ Some (source, columns)
IsUnplanned b fault.Memory = Unit {0}
IsUnplanned b _ = ⊥
