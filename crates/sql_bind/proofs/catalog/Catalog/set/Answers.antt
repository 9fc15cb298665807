use Rattle.std.proofs.Common.{sym, ap, ◌∙◌, arith}
use Rattle.std.specs.Prelude.{Some}
use Rattle.std.proofs.lemmas.Option.{slice_get_within}
use Rattle.sql_bind.specs.Known.{declared_for, is_connection}
use Rattle.sql_bind.proofs.Declared.{declared_at, has_place, set_here, set_other}
use Rattle.sql_bind.proofs.catalog.Catalog.set.Goals as goal

pub returns-in_default-clause-declared : goal.returns-in_default-clause-declared
returns-in_default-clause-declared c =
    absurd (has_place c.self.inside.settings.connections c.args.connection.now 0
    (ap (λ known. is_connection known.settings c.args.connection.now) c.self.view_is ∙ c.requires)
    (sym (rw c.as_slice.ensures at c.in_default.ensures)))

pub set-requires : goal.set-requires
set-requires c =
    let connections = c.self.inside.settings.connections in
    let declared = c.self.inside.declared in
    let name = c.args.connection.now in
    let place = c.in-Some.place in
    slice_get_within declared place (declared_for connections declared name)
    (declared_at connections declared name 0 place place (sym (rw c.as_slice.ensures at c.in-Some.ensures)) (omega arith) c.self.invariant)

pub returns-clause-declared : goal.returns-clause-declared
returns-clause-declared c =
    let place = c.in-Some.place in
    rw c.set.ensures
    (set_here c.self.inside.settings.connections c.self.inside.declared c.args.connection.now (Some c.args.declaration) 0 place place (sym (rw c.as_slice.ensures at c.in-Some.ensures)) (omega arith) c.self.invariant)

pub returns-clause-others : goal.returns-clause-others
returns-clause-others c = λ other apart.
    let place = c.in-Some.place in
    rw (c.set.ensures, ← c.self.view_is)
    (set_other c.self.inside.settings.connections c.self.inside.declared c.args.connection.now other (Some c.args.declaration) 0 place place (sym (rw c.as_slice.ensures at c.in-Some.ensures)) (omega arith) c.self.invariant apart)
