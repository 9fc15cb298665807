use Rattle.std.proofs.Common.{◌≡◌, ◌≤◌, length, ap, ◌∙◌, arith}
use Rattle.sp_model.specs.RowOf.{has_name, columns_named}
use Rattle.sp_model.specs.declared.declaration.ColumnDecl.{ColumnDecl}
use Rattle.hydrate_graph.specs.Graphs.{rules_in}
use Rattle.hydrate_graph.specs.Numbers.{needs_of, sources_of}
use Rattle.hydrate_graph.specs.Ordered.{all_depends}
use Rattle.hydrate_graph.specs.Planning.{wanted_flags, slots_from, room_from}
use Rattle.hydrate_graph.proofs.Wanting.{filter_count, slot_apart, slot_within, slot_count, slot_wanted, flag_count}
use Rattle.hydrate_graph.proofs.plan.RowPlan.of.Goals as goal

pub invariant_of-result : goal.invariant_of-result
invariant_of-result c =
    let fs = c.in_ok-functions.functions in
    let functions : fs ≡ c.args.table.now.functions = c.in_ok-functions.ensures in
    let columns : c.in_ok-columns.columns ≡ columns_named c.args.columns.now c.args.table.now.columns = rw (c.as_slice.ensures, c.as_slice-2.ensures) at c.in_ok-columns.ensures in
    let few : length fs ≤ 64 = rw functions c.requires.few in
    let sources : c.in_ok-sources.sources ≡ sources_of fs c.in_ok-columns.columns = rw (c.as_slice-4.ensures, c.as_slice-5.ensures) at c.in_ok-sources.ensures in
    let flags : c.in_ok-flags.flags ≡ wanted_flags fs c.in_ok-sources.sources = rw (c.as_slice-6.ensures, c.as_slice-8.ensures) at c.in_ok-flags.ensures in
    let count : length c.in_ok-flags.flags ≡ length fs = ap length flags ∙ flag_count fs c.in_ok-sources.sources in
    let slots : c.in_ok-slots.slots ≡ slots_from 0 c.in_ok-flags.flags = c.in_ok-slots.ensures ∙ ap (slots_from 0) c.as_slice-9.ensures in
    let room : c.room_of-room.result ≡ room_from 0 c.in_ok-flags.flags = c.room_of-room.ensures ∙ ap (room_from 0) c.as_slice-10.ensures in
    record {
      needs_are = c.in_ok-needs.ensures ∙ ap needs_of c.as_slice-3.ensures;
      depends_are = c.in_ok-depends.ensures ∙ ap all_depends c.as_slice-12.ensures;
      sources_are = sources;
      rest = rw (functions, columns) c.requires.rest;
      few = few;
      few_columns = rw columns (omega (arith, filter_count (λ (column : ColumnDecl). has_name c.args.columns.now column.name) c.args.table.now.columns, c.requires.few_columns));
      count = ap length slots ∙ slot_count 0 c.in_ok-flags.flags ∙ count;
      apart = rw slots (slot_apart 0 c.in_ok-flags.flags);
      within = rw (slots, room) (slot_within 0 c.in_ok-flags.flags);
      wanted = rw slots (slot_wanted fs c.in_ok-columns.columns c.in_ok-flags.flags (flags ∙ ap (wanted_flags fs) sources));
    }

pub returns-clause-rules : goal.returns-clause-rules
returns-clause-rules c = c.in_ok-rules.ensures ∙ ap (rules_in c.args.table.now) (c.as_slice-11.ensures ∙ c.in_ok-functions.ensures)

pub returns-clause-wanted : goal.returns-clause-wanted
returns-clause-wanted c =
    let fs = c.in_ok-functions.functions in
    let sources : c.in_ok-sources.sources ≡ sources_of fs c.in_ok-columns.columns = rw (c.as_slice-4.ensures, c.as_slice-5.ensures) at c.in_ok-sources.ensures in
    let flags : c.in_ok-flags.flags ≡ wanted_flags fs c.in_ok-sources.sources = rw (c.as_slice-6.ensures, c.as_slice-8.ensures) at c.in_ok-flags.ensures in
    let slots : c.in_ok-slots.slots ≡ slots_from 0 c.in_ok-flags.flags = c.in_ok-slots.ensures ∙ ap (slots_from 0) c.as_slice-9.ensures in
    λ name own declared. rw slots (slot_wanted fs c.in_ok-columns.columns c.in_ok-flags.flags (flags ∙ ap (wanted_flags fs) sources) name own declared)
