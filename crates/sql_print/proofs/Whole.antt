-- What is printed of a statement that was read is read again.
use Rattle.std.proofs.Common.{◌≡◌, ℕ, List, None, sym, subst}
use Rattle.sql_lex.specs.declared.token.Token.{Token}
use Rattle.sql_lex.specs.Lex.{tokens}
use Rattle.sql_grammar.specs.declared.ast.Statement.{Statement}
use Rattle.sql_grammar.specs.Grammar.{StatementPhrase}
use Rattle.sql_print.specs.Said.{said_statement}
use Rattle.sql_print.specs.Spelling.{statement_text}
use Rattle.sql_print.specs.Again.{SaysAgain}
use Rattle.sql_print.proofs.Reprint.{statement_again}
use Rattle.sql_print.proofs.Relex.{relexed}

pub says_again : (n : ℕ) (ts : List Token) (s : Statement) → StatementPhrase n ts s → SaysAgain n (statement_text s) s
says_again n ts s m =
    let a = statement_again n in
    let r = a.again ts s m (tokens (statement_text s)) (relexed None (said_statement s) 0 (a.fits ts s m)) in
    record { read = r.value; is = r.is; same = r.same }

pub text_says_again : (n : ℕ) (ts : List Token) (s : Statement) (text : List ℕ) → text ≡ statement_text s → StatementPhrase n ts s → SaysAgain n text s
text_says_again n ts s text e m = subst (λ (t : List ℕ). SaysAgain n t s) (sym e) (says_again n ts s m)
