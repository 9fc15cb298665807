use Rattle.std.proofs.Common.{Some, None, ap, ◌∙◌}
use Rattle.sql_lex.proofs.QuoteLaws.{closes_is}
use Rattle.sql_lex.proofs.QuotedText.{found_text}
use Rattle.sql_lex.proofs.quotes.quoted.Goals as goal

pub text_of-requires : goal.text_of-requires
text_of-requires c = found_text c.args.quote c.args.z.now c.in-Some.content.items c.in-Some.len c.requires.ascii c.requires.text (rw c.in-Some.is at c.in_ok-content.ensures.value)

pub returns-in-Some-clause-closes : goal.returns-in-Some-clause-closes
returns-in-Some-clause-closes c =
    let value = rw c.in-Some.is at c.in_ok-content.ensures.value in
    closes_is c.args.quote c.args.z.now (Some (c.text_of.result, c.in-Some.len)) (ap (λ t. Some (t, c.in-Some.len)) c.text_of.ensures ∙ value)

pub returns-in-None-clause-closes : goal.returns-in-None-clause-closes
returns-in-None-clause-closes c = closes_is c.args.quote c.args.z.now None (rw c.in-None.is at c.in_ok-content.ensures.value)
