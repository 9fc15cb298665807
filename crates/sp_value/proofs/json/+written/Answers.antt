use Rattle.std.proofs.Common.{◌≡◌, ◌<◌, ◌≤◌, ◌∷◌, ◌++◌, [], suc, length, take, drop, get_or, Some, ap, ◌∙◌, sym, arith, add-one, true, string_bytes}
use Rattle.serde_json.specs.View.{members_view}
use Rattle.serde_json.proofs.Views.{members_view-insert_entry}
use Rattle.sp_value.specs.Json.{data_of, cell_of, pairs_data}
use Rattle.sp_value.specs.Names.{names_of, rise}
use Rattle.sp_value.proofs.JsonLaws.{cells_done, pairs_done, pairs_more}
use Rattle.sp_value.proofs.Rising.{at_place, put_last}
use Rattle.sp_value.proofs.Zips.{length_parts, length_values}
use Rattle.sp_value.proofs.json.+written.Goals as goal

pub cells_written-returns-clause-reads_back : goal.cells_written-returns-clause-reads_back
cells_written-returns-clause-reads_back t c = cells_done c.loop-cell.values.items c.args.cells.now c.loop-cell.cell-index c.loop-cell-test.false c.loop-cell.invariant.0 c.loop-cell.invariant.1

pub members_written-bounds-names-index : goal.members_written-bounds-names-index
members_written-bounds-names-index t c =
    omega (arith, c.loop-index-test.true, ap length c.names-names.ensures.value, ap length c.values-values.ensures, length_parts c.args.members.now)

pub members_written-loop-index-preserved : goal.members_written-loop-index-preserved
members_written-loop-index-preserved t c =
    let l = c.loop-index in
    let ms = c.args.members.now in
    let i = l.index in
    let name = c.index-names-index.result in
    let cell = c.index-values-index.result in
    let within : i < length ms = omega (arith, c.loop-index-test.true, ap length c.values-values.ensures, length_values ms) in
    let place = at_place ms i name cell within (c.index-names-index.is ∙ ap (λ ns. get_or ns i name) c.names-names.ensures.value) (c.index-values-index.is ∙ ap (λ vs. get_or vs i cell) c.values-values.ensures) in
    let rising : rise (names_of (take i ms ++ (name, cell) ∷ drop (suc i) ms)) ≡ true = ap (λ l. rise (names_of l)) place.0 ∙ ap rise (sym c.names-names.ensures.value) ∙ c.names-names.ensures.rising in
    let named : string_bytes c.in_ok-key.key ≡ name = c.in_ok-key.ensures.ok ∙ c.as_str.ensures in
    let entries : members_view c.insert.new.self.entries ≡ pairs_data (take i ms ++ (name, cell) ∷ []) =
    ap members_view c.in_ok-before.ensures.entries ∙ members_view-insert_entry l.map.entries c.in_ok-key.key c.in_ok-json.json
    ∙ rw (named, c.in_ok-json.ensures.value, l.invariant.0) (put_last (take i ms) (name, cell) (drop (suc i) ms) rising) in
    let back : cell_of (data_of cell) ≡ Some cell = ap cell_of (sym c.in_ok-json.ensures.value) ∙ c.in_ok-json.ensures.reads_back in
    let more = pairs_more (take i ms) (name, cell) l.invariant.1 back in
    rw (add-one, place.1) (entries, more)

pub members_written-returns-clause-reads_back : goal.members_written-returns-clause-reads_back
members_written-returns-clause-reads_back t c =
    let l = c.loop-index in
    let done : length c.args.members.now ≤ l.index = omega (arith, c.loop-index-test.false, ap length c.values-values.ensures, length_values c.args.members.now) in
    pairs_done l.map.entries c.args.members.now l.index done l.invariant.0 l.invariant.1
