use Rattle.std.proofs.Common.{Bool, ◌∙◌, ap, sym}
use Rattle.key_pages.specs.EntryList.{EntryList}
use Rattle.file_cursor.specs.Finding.{prior_from}
use Rattle.file_cursor.proofs.SideLemmas.{prior-same}
use Rattle.join_rows.specs.Rows.{prior_place, place_by, found_entry}
use Rattle.join_rows.proofs.rows.first_entry.Goals as goal

pub returns-then-back : goal.returns-then-back
returns-then-back c =
    c.prior_entry.ensures
    ∙ prior-same c.pages.result.now.falling c.prior_place.result (prior_place c.args.falling c.args.from) c.pages.result.now.entries c.prior_place.ensures
    ∙ ap (λ (list : EntryList). prior_from list.falling list.entries (prior_place c.args.falling c.args.from)) c.pages.ensures
    ∙ ap (λ (b : Bool). found_entry b c.args.path.now (place_by b c.args.falling c.args.from)) (sym c.if-back.true)
