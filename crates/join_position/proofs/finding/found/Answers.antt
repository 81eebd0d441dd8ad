use Rattle.std.proofs.Common.{Option, List, map, Bor, refl, sym, subst}
use Rattle.key_pages.specs.EntryList.{EntryList}
use Rattle.join_rows.specs.declared.rows.Row.{Row}
use Rattle.join_rows.specs.NextRow.{next_row, prior_row}
use Rattle.join_rows.specs.Rows.{IsFound, parts_in}
use Rattle.open_position.specs.declared.reads.ReadBy.{ReadBy}
use Rattle.open_position.specs.KeyValues.{values_in}
use Rattle.join_position.specs.RowReads.{IsAskedOf, asked_row, where_row}
use Rattle.join_position.proofs.FindLemmas.{next-stood, prior-stood, where-found}
use Rattle.join_position.proofs.finding.found.Goals as goal

pub returns-in_ok-row-in-NextEqual : goal.returns-in_ok-row-in-NextEqual
returns-in_ok-row-in-NextEqual c = λ position at-it.
    let spec = c.args.join.spec.now in
    let members = c.args.join.members.now.members in
    let secondaries : List EntryList = map (λ (path : Bor EntryList). path.now) c.args.join.secondaries.now in
    let parts = parts_in spec.primary.formats in
    let stood-on = c.found_rows_are_stood_on.ensures.found spec members c.args.join.primary.now secondaries c.requires.read c.are_members.ensures in
    subst (λ (by : ReadBy). IsFound spec members c.where_equal.result (asked_row by parts spec members position)) (sym c.in-NextEqual.is)
    (subst (λ (o : Option Row). IsFound spec members o (where_row (values_in parts c.in-NextEqual.key.now) (next_row spec members position))) (sym c.where_equal.ensures)
    (where-found spec members c.args.join.primary.now secondaries c.requires.read stood-on c.in-NextEqual.key.now
    (subst (λ (by : ReadBy). IsAskedOf parts by) c.in-NextEqual.is c.requires.asked) c.in_ok-row-in-NextEqual.row (next_row spec members position)
    (next-stood spec members c.args.join.primary.now secondaries c.requires.read stood-on position (next_row spec members position) refl)
    (c.in_ok-row-in-NextEqual.ensures position at-it)))

pub returns-in_ok-row-in-PriorEqual : goal.returns-in_ok-row-in-PriorEqual
returns-in_ok-row-in-PriorEqual c = λ position at-it.
    let spec = c.args.join.spec.now in
    let members = c.args.join.members.now.members in
    let secondaries : List EntryList = map (λ (path : Bor EntryList). path.now) c.args.join.secondaries.now in
    let parts = parts_in spec.primary.formats in
    let stood-on = c.found_rows_are_stood_on.ensures.found spec members c.args.join.primary.now secondaries c.requires.read c.are_members.ensures in
    subst (λ (by : ReadBy). IsFound spec members c.where_equal-in-PriorEqual.result (asked_row by parts spec members position)) (sym c.in-PriorEqual.is)
    (subst (λ (o : Option Row). IsFound spec members o (where_row (values_in parts c.in-PriorEqual.key.now) (prior_row spec members position))) (sym c.where_equal-in-PriorEqual.ensures)
    (where-found spec members c.args.join.primary.now secondaries c.requires.read stood-on c.in-PriorEqual.key.now
    (subst (λ (by : ReadBy). IsAskedOf parts by) c.in-PriorEqual.is c.requires.asked) c.in_ok-row-in-PriorEqual.row (prior_row spec members position)
    (prior-stood spec members c.args.join.primary.now secondaries c.requires.read stood-on position (prior_row spec members position) refl)
    (c.in_ok-row-in-PriorEqual.ensures position at-it)))
