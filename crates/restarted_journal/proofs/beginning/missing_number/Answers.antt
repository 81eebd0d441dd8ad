use Rattle.std.proofs.Common.{◌≡◌, ◌+◌, ◌-◌, ◌≤◌, Some, None, List, length, sym, ◌∙◌, ap, arith, eqb-true, false-eqb}
use Rattle.std.proofs.lemmas.List.{nil_from_length}
use Rattle.entry_codec.specs.declared.entries.Entry.{Entry}
use Rattle.journal_model.specs.Acts.{entry_before}
use Rattle.journal_model.specs.Rollback.{missing_behind, missing_draft}
use Rattle.restarted_journal.proofs.Beginnings.{last-before}
use Rattle.restarted_journal.proofs.beginning.missing_number.Goals as goal

pub returns-then-is_empty : goal.returns-then-is_empty
returns-then-is_empty c = λ job moment.
    ap (λ (l : List Entry). missing_behind job moment (entry_before None l)) (nil_from_length c.args.entries.now (eqb-true (length c.args.entries.now) 0 (sym c.if-is_empty.ensures)))

pub returns-else-is_empty : goal.returns-else-is_empty
returns-else-is_empty c = λ job moment.
    let some : 1 ≤ length c.args.entries.now = omega (arith, false-eqb (length c.args.entries.now) 0 c.if-is_empty.ensures) in
    let long : length c.args.entries.now ≡ length c.args.entries.now - 1 + 1 = omega (arith, some) in
    let last = last-before c.args.entries.now (length c.args.entries.now - 1) c.index-entries-entries.result long c.index-entries-entries.is in
    ap (missing_behind job moment) (last ∙ ap (λ (e : Entry). Some e) c.index-entries-entries.is) ∙ ap (missing_draft job moment) c.number_ended.ensures
