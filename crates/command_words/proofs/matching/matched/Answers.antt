use Rattle.command_words.proofs.Matches.{matched, refused}
use Rattle.std.proofs.Common.{map, subst}
use Rattle.command_words.specs.Matched.{IsFaultOf}
use Rattle.clap.specs.Simple.{app_of}
use Rattle.command_words.proofs.matching.matched.Goals as goal

pub returns-in-Ok-try_get_matches_from : goal.returns-in-Ok-try_get_matches_from
returns-in-Ok-try_get_matches_from c =
    matched (app_of c.in-Ok.command) (map (λ w. w.now) c.args.words.now) c.in-Ok-try_get_matches_from.matches c.in-Ok.ensures
    c.in-Ok-try_get_matches_from.ensures.kinds c.in-Ok-try_get_matches_from.ensures.matches

pub returns-in-Err : goal.returns-in-Err
returns-in-Err c =
    refused (app_of c.in-Ok.command) (map (λ w. w.now) c.args.words.now) c.in-Err.error c.fault_of.result c.in-Ok.ensures
    c.in-Err.ensures.kinds (subst (λ k. IsFaultOf k c.fault_of.result) c.kind.ensures c.fault_of.ensures)
