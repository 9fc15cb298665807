-- A line more, with its block; and the block of a refusal.
use Rattle.std.proofs.Common.{◌≡◌, ◌<◌, ℕ, ◌+◌, List, [], ◌∷◌, ◌++◌, length, take, get_or, Option, refl, sym, ap, ◌∙◌, subst}
use Rattle.std.proofs.lemmas.List.{take_more}
use Rattle.sp_model.specs.declared.declaration.Declaration.{Declaration}
use Rattle.sp_model.specs.declared.settings.Settings.{Settings}
use Rattle.input_lines.specs.declared.line.Line.{Line}
use Rattle.sql_bind.specs.declared.fault.BindFault.TheVariants as bind
use Rattle.sql_parser.specs.declared.fault.SqlFault.TheVariants as sql
use Rattle.explain_text.specs.Explained.{IsRefused}
use Rattle.explain_text.specs.Blocks.{refused_block, IsTextBlock, IsBlock, AreBlocks}
use Rattle.explain_text.specs.declared.fault.ExplainFault.{ExplainFault}
use Rattle.explain_text.specs.declared.fault.ExplainFault.TheVariants as fault
use Rattle.explain_text.specs.declared.blocks.Block.{Block}

at_end : (settings : Settings) (declarations : List ℕ → Option Declaration) (ls : List Line) (bs : List Block) (l : Line) (b : Block) → AreBlocks settings declarations ls bs
    → IsBlock settings declarations l b → AreBlocks settings declarations (ls ++ l ∷ []) (bs ++ b ∷ [])
at_end settings declarations [] [] l b all one = (one, tt)
at_end settings declarations [] (c ∷ cs) l b all one = absurd all
at_end settings declarations (m ∷ ms) [] l b all one = absurd all
at_end settings declarations (m ∷ ms) (c ∷ cs) l b all one = (all.0, at_end settings declarations ms cs l b all.1 one)

pub blocks_more : (settings : Settings) (declarations : List ℕ → Option Declaration) (ls : List Line) (i : ℕ) (l : Line) (bs : List Block) (b : Block) → i < length ls → l ≡ get_or ls i l
    → AreBlocks settings declarations (take i ls) bs → IsBlock settings declarations l b → AreBlocks settings declarations (take (i + 1) ls) (bs ++ b ∷ [])
blocks_more settings declarations ls i l bs b within is all one =
    subst (λ (x : List Line). AreBlocks settings declarations x (bs ++ b ∷ [])) (sym (take_more ls i l within ∙ ap (λ y. take i ls ++ y ∷ []) (sym is)))
    (at_end settings declarations (take i ls) bs l b all one)

module _ (settings : Settings) (declarations : List ℕ → Option Declaration) (text : List ℕ) where
  refusal : (f : ExplainFault) → IsRefused settings declarations text f → IsTextBlock settings declarations text (refused_block f)
  refusal (fault.Sql (sql.Syntax place)) h = (fault.Sql (sql.Syntax place), h, refl)
  refusal (fault.Sql (sql.TooDeep place)) h = (fault.Sql (sql.TooDeep place), h, refl)
  refusal (fault.Sql sql.Memory) h = tt
  refusal (fault.Bind (bind.UnknownConnection place)) h = (fault.Bind (bind.UnknownConnection place), h, refl)
  refusal (fault.Bind (bind.UnknownTable place)) h = (fault.Bind (bind.UnknownTable place), h, refl)
  refusal (fault.Bind (bind.UnknownColumn place)) h = (fault.Bind (bind.UnknownColumn place), h, refl)
  refusal (fault.Bind (bind.Ambiguous place)) h = (fault.Bind (bind.Ambiguous place), h, refl)
  refusal (fault.Bind (bind.TypeMismatch place)) h = (fault.Bind (bind.TypeMismatch place), h, refl)
  refusal (fault.Bind (bind.TooManyTables place)) h = (fault.Bind (bind.TooManyTables place), h, refl)
  refusal (fault.Bind bind.Memory) h = tt
  refusal (fault.MissingKeys source columns) h = (fault.MissingKeys source columns, h, refl)
  refusal fault.Memory h = tt

  pub refused_text : (f : ExplainFault) (b : Block) → IsRefused settings declarations text f → b ≡ refused_block f → IsTextBlock settings declarations text b
  refused_text f b h same = subst (IsTextBlock settings declarations text) (sym same) (refusal f h)
