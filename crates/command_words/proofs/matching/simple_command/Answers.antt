use Rattle.std.proofs.Common.{◌≡◌, rules, ap₂, codes, ◌∙◌}
use Rattle.clap.specs.Simple.{app_of, new_app, new_rule, with_rule}
use Rattle.clap.specs.Walk.{rule_of}
use Rattle.command_words.specs.Words.{output, needed, simple_command}
use Rattle.command_words.proofs.matching.simple_command.Goals as goal

pub returns : goal.returns
unfolding simple_command
returns c =
    let output_is : rule_of c.default_value-output.result ≡ output = search rules in
    let word_is : rule_of c.required-word.result ≡ needed (codes "COMMAND") = search rules in
    let name_is : rule_of c.required-name.result ≡ needed (codes "NAME") = search rules in
    let second_is : rule_of c.new-second.result ≡ new_rule (codes "SECOND") = search rules in
    let one : app_of c.in_ok-arg.field-0 ≡ with_rule (new_app (codes "steampipe")) output = c.in_ok-arg.ensures.shape (search rules) ∙ ap₂ with_rule c.new-4.ensures.app output_is in
    let two : app_of c.in_ok-arg-2.field-0 ≡ with_rule (with_rule (new_app (codes "steampipe")) output) (needed (codes "COMMAND")) = c.in_ok-arg-2.ensures.shape (search rules) ∙ ap₂ with_rule one word_is in
    let three : app_of c.in_ok-arg-3.field-0 ≡ with_rule (with_rule (with_rule (new_app (codes "steampipe")) output) (needed (codes "COMMAND"))) (needed (codes "NAME")) = c.in_ok-arg-3.ensures.shape (search rules) ∙ ap₂ with_rule two name_is in
    c.in_ok-command.ensures.shape (search rules) ∙ ap₂ with_rule three second_is
