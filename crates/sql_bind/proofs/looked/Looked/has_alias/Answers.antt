-- The first source of an alias tells whether it is among the first of them.
use Rattle.std.proofs.Common.{sym, ap, ◌∙◌, arith}
use Rattle.std.specs.List.{list_any, position_from}
use Rattle.sql_bind.specs.Index.{Indexes, is_below, is_under}
use Rattle.sql_bind.proofs.Below.{alias_of_first}
use Rattle.sql_bind.proofs.looked.Looked.has_alias.Goals as goal

pub returns-in-Some-source_at : goal.returns-in-Some-source_at
returns-in-Some-source_at c =
    let all = c.self.inside.all.now in
    let count = c.self.inside.count in
    let alias = c.args.alias.now in
    let kept : Indexes c.in-Some.index.now all = rw c.in-Some.is at c.self.invariant.1 in
    ap (is_below count) (c.in-Some-source_at.ensures ∙ kept.1 alias)
    ∙ ap (λ m. is_below m (position_from (is_under alias) 0 all)) (omega arith)
    ∙ sym (alias_of_first alias 0 count all)
    ∙ ap (list_any (is_under alias)) c.self.view_is

pub returns-in-None : goal.returns-in-None
returns-in-None c =
    let all = c.self.inside.all.now in
    let count = c.self.inside.count in
    let alias = c.args.alias.now in
    let kept : Indexes c.in-Some.index.now all = rw c.in-Some.is at c.self.invariant.1 in
    ap (is_below count) (c.in-None.ensures ∙ kept.1 alias)
    ∙ ap (λ m. is_below m (position_from (is_under alias) 0 all)) (omega arith)
    ∙ sym (alias_of_first alias 0 count all)
    ∙ ap (list_any (is_under alias)) c.self.view_is
