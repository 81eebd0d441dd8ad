use Rattle.std.proofs.Common.{Bool, ◌∙◌, ap, sym}
use Rattle.key_pages.specs.EntryList.{EntryList}
use Rattle.file_cursor.specs.CursorPosition.{On}
use Rattle.file_cursor.specs.Finding.{prior_from}
use Rattle.file_cursor.proofs.SideLemmas.{prior-same}
use Rattle.join_rows.specs.Rows.{found_entry}
use Rattle.join_rows.proofs.rows.next_entry.Goals as goal

pub returns-then-back : goal.returns-then-back
returns-then-back c =
    c.prior_entry.ensures
    ∙ prior-same c.pages.result.now.falling c.place_on.result (On c.args.entry.now) c.pages.result.now.entries c.place_on.ensures
    ∙ ap (λ (list : EntryList). prior_from list.falling list.entries (On c.args.entry.now)) c.pages.ensures
    ∙ ap (λ (b : Bool). found_entry b c.args.path.now (On c.args.entry.now)) (sym c.if-back.true)
