use Rattle.std.proofs.Common.{sym, ◌∙◌, ap, ◌++◌, arith}
use Rattle.std.proofs.lemmas.List.{append-nil}
use Rattle.sql_lex.proofs.Lexing.{whole_rest, tokens_blank, tokens_good, tokens_bad, tokens_end, rest_is_text}
use Rattle.sql_lex.specs.Lex.{front}
use Rattle.sql_lex.proofs.lexer.lex_bytes.Goals as goal

pub more-preserved-then-is_blank : goal.more-preserved-then-is_blank
more-preserved-then-is_blank c = record {
  tokens = sym (tokens_blank c.args.bytes.now c.more.at c.more-test.true c.more.found.items (sym c.is_blank.ensures ∙ c.if-is_blank.true)) ∙ c.more.invariant.tokens;
  within = omega arith;
}

pub returns-then-is_bad : goal.returns-then-is_bad
returns-then-is_bad c = rw c.in-Ok.ensures.items (sym (tokens_bad c.args.bytes.now c.more.at c.more-test.true c.more.found.items c.in_ok-kind.field-0 (sym c.is_blank.ensures ∙ c.if-is_blank.false) (c.in_ok-kind.ensures.value ∙ ap front (whole_rest c.args.bytes.now c.more.at)) (sym c.is_bad.ensures ∙ c.if-is_bad.true)) ∙ c.more.invariant.tokens)

pub more-preserved : goal.more-preserved
more-preserved c = record {
  tokens = rw c.in-Ok.ensures.items (sym (tokens_good c.args.bytes.now c.more.at c.more-test.true c.more.found.items c.in_ok-kind.field-0 (sym c.is_blank.ensures ∙ c.if-is_blank.false) (c.in_ok-kind.ensures.value ∙ ap front (whole_rest c.args.bytes.now c.more.at)) (sym c.is_bad.ensures ∙ c.if-is_bad.false) c.in_ok-kind.ensures.moves.0) ∙ c.more.invariant.tokens);
  within = (let h = c.in_ok-kind.ensures.moves.1 in omega arith);
}

pub returns : goal.returns
returns c = sym (append-nil c.more.found.items) ∙ ap (λ us. c.more.found.items ++ us) (sym (tokens_end c.more.at c.args.bytes.now c.more-test.false)) ∙ c.more.invariant.tokens

pub front_at-requires-clause-text : goal.front_at-requires-clause-text
front_at-requires-clause-text c = rest_is_text c.args.bytes.now c.more.at c.requires c.more-test.true
