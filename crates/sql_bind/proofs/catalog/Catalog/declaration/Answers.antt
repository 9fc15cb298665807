use Rattle.std.proofs.Common.{◌≡◌, sym, ◌∙◌, arith}
use Rattle.std.specs.Prelude.{Some, slice_get}
use Rattle.sql_bind.specs.Known.{declared_for}
use Rattle.sql_bind.proofs.Declared.{declared_at, declared_nowhere}
use Rattle.sql_bind.proofs.catalog.Catalog.declaration.Goals as goal

pub returns-in_default : goal.returns-in_default
returns-in_default c =
    rw (← c.self.view_is) (sym (declared_nowhere c.self.inside.settings.connections c.self.inside.declared c.args.connection.now 0 (sym (rw c.as_slice.ensures at c.in_default.ensures))))

pub returns-in-Some-get : goal.returns-in-Some-get
returns-in-Some-get c =
    let connections = c.self.inside.settings.connections in
    let declared = c.self.inside.declared in
    let name = c.args.connection.now in
    let place = c.in-Some.place in
    let stands : slice_get declared place ≡ Some (declared_for connections declared name) =
    declared_at connections declared name 0 place place (sym (rw c.as_slice.ensures at c.in-Some.ensures)) (omega arith) c.self.invariant in
    let same : Some c.in-Some-get.declared.now ≡ Some (declared_for connections declared name) = c.in-Some-get.ensures.value ∙ stands in
    let is : c.in-Some-get.declared.now ≡ declared_for connections declared name = cc in
    rw (← c.self.view_is) (c.as_ref.ensures.value ∙ is)

pub returns-in-None : goal.returns-in-None
returns-in-None c =
    let connections = c.self.inside.settings.connections in
    let declared = c.self.inside.declared in
    let name = c.args.connection.now in
    let place = c.in-Some.place in
    let stands : slice_get declared place ≡ Some (declared_for connections declared name) =
    declared_at connections declared name 0 place place (sym (rw c.as_slice.ensures at c.in-Some.ensures)) (omega arith) c.self.invariant in
    absurd (cc (c.in-None.ensures.value))
