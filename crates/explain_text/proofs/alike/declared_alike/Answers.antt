use Rattle.std.proofs.Common.{◌≡◌, ◌≤◌, ◌<◌, Some, length, get_or, ap, ◌∙◌, subst}
use Rattle.sp_model.specs.declared.settings.Settings.{Settings}
use Rattle.sql_bind.specs.Known.{Known, is_connection}
use Rattle.explain_text.proofs.Alikes.{in_all, alike_none, alike_more, alike_all, alike_sound}
use Rattle.explain_text.proofs.alike.declared_alike.Goals as goal

pub set-requires : goal.set-requires
set-requires c =
    let i = c.loop-connection.connection-index in
    let x = c.connection-item.result in
    ap (λ (s : Settings). is_connection s x.name) c.loop-connection.invariant.settings
    ∙ in_all c.args.settings.now.connections i x (subst (λ cs. i < length cs) c.as_slice-connection-items.ensures c.loop-connection-test.true)
    (subst (λ cs. x ≡ get_or cs i x) c.as_slice-connection-items.ensures c.connection-item.is)

pub loop-connection-init : goal.loop-connection-init
loop-connection-init c = record {
  settings = ap (λ (k : Known). k.settings) c.in_ok-catalog.ensures;
  declared = alike_none c.args.settings.now c.args.declaration.now c.in_ok-catalog.catalog c.in_ok-catalog.ensures;
}

pub loop-connection-preserved : goal.loop-connection-preserved
loop-connection-preserved c =
    let i = c.loop-connection.connection-index in
    let x = c.connection-item.result in
    record {
      settings = c.set.ensures.settings ∙ c.loop-connection.invariant.settings;
      declared = alike_more c.args.settings.now.connections i x c.args.declaration.now c.loop-connection.catalog c.set.new.self
          (subst (λ cs. i < length cs) c.as_slice-connection-items.ensures c.loop-connection-test.true)
          (subst (λ cs. x ≡ get_or cs i x) c.as_slice-connection-items.ensures c.connection-item.is) c.loop-connection.invariant.declared
          (c.set.ensures.declared ∙ ap Some c.in_ok-declaration.ensures) c.set.ensures.others;
    }

pub returns-clause-sound : goal.returns-clause-sound
returns-clause-sound c =
    alike_sound c.args.settings.now c.args.declaration.now c.loop-connection.catalog
    (alike_all c.args.settings.now.connections c.loop-connection.connection-index c.args.declaration.now c.loop-connection.catalog
    (subst (λ cs. length cs ≤ c.loop-connection.connection-index) c.as_slice-connection-items.ensures c.loop-connection-test.false) c.loop-connection.invariant.declared)
    c.requires.sound
