use Rattle.std.proofs.Common.{Option, List, map, Bor, refl, sym, subst}
use Rattle.key_pages.specs.EntryList.{EntryList}
use Rattle.key_pages.specs.Order.{IsInOrder}
use Rattle.file_model.specs.Joins.{JoinRow, rows_of}
use Rattle.file_model.specs.Positions as model
use Rattle.join_rows.specs.declared.rows.Row.{Row}
use Rattle.join_rows.specs.NextRow.{next_row}
use Rattle.join_rows.specs.Rows.{IsFound, parts_in}
use Rattle.open_position.specs.KeyValues.{values_in}
use Rattle.join_position.specs.RowReads.{first_row, where_bytes}
use Rattle.join_position.proofs.BackLemmas.{given-known}
use Rattle.join_position.proofs.ChainLemmas.{chained}
use Rattle.join_position.proofs.FindLemmas.{next-stood, where-found}
use Rattle.join_position.proofs.finding.first_equal.Goals as goal

pub returns : goal.returns
returns c =
    let spec = c.args.join.spec.now in
    let members = c.args.join.members.now.members in
    let primary : EntryList = c.args.join.primary.now in
    let secondaries : List EntryList = map (λ (path : Bor EntryList). path.now) c.args.join.secondaries.now in
    let parts = parts_in spec.primary.formats in
    let stood-on = c.found_rows_are_stood_on.ensures.found spec members c.args.join.primary.now secondaries c.requires.read c.are_members.ensures in
    let values = values_in parts c.args.key.now in
    let before : model.Position _ = model.Before (model.KeyBound values) in
    let sorted : IsInOrder primary.falling primary.entries = subst (λ (l : EntryList). IsInOrder l.falling l.entries) c.pages.ensures c.in_order.ensures.order in
    let given = given-known parts c.args.key.now c.requires.given in
    subst (λ (o : Option Row). IsFound spec members o (first_row values (rows_of spec members))) (sym c.where_equal.ensures)
    (subst (λ (j : Option JoinRow). IsFound spec members (where_bytes c.args.key.now c.in_ok-row.row) j)
    (chained spec members values primary secondaries c.requires.read c.args.key given.0 given.1 sorted)
    (where-found spec members primary secondaries c.requires.read stood-on c.args.key.now c.requires.given c.in_ok-row.row (next_row spec members before)
    (next-stood spec members primary secondaries c.requires.read stood-on before (next_row spec members before) refl)
    (c.in_ok-row.ensures before given)))
