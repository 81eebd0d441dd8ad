use Rattle.std.proofs.Common.{◌≡◌, sym, ap, subst, Err}
use Rattle.std.proofs.lemmas.Result.{err_from_is_err_and}
use Rattle.store_model.specs.Disk.{Areas}
use Rattle.store_model.proofs.Runs.{stays_trans}
use Rattle.journal_opening.specs.Journals.{SpellJournal}
use Rattle.journal_opening.specs.declared.fault.OpenFault.{OpenFault}
use Rattle.journal_opening.specs.declared.fault.OpenFault.TheVariants.{Damaged}
use Rattle.journal_opening.proofs.Books.{seen_same}
use Rattle.journal_opening.proofs.opening.open_journal.Goals as goal

pub returns-in_err-journal-clause-damaged : goal.returns-in_err-journal-clause-damaged
returns-in_err-journal-clause-damaged g c = λ area at is tells entries spells.
    let p = err_from_is_err_and c.from_residual-in_err-journal.result c.from_residual-in_err-journal.ensures.1 in
    let same : c.in_err-journal.field-0.0 ≡ Damaged area at = cc (p.1, p.2, is) in
    c.in_err-journal.ensures.damaged area at (ap (λ (e : OpenFault). Err e) same) tells entries
    (subst (λ (areas : Areas). SpellJournal (g.D.Describe.rules c.args.by.now) entries areas)
    (seen_same (g.S.Store.disk c.args.store.now) (g.S.Store.disk c.is_written.new.store) c.is_written.ensures.stays) spells)

pub returns-in_ok-journal-clause-opened : goal.returns-in_ok-journal-clause-opened
returns-in_ok-journal-clause-opened g c = λ tells.
    let told = c.in_ok-journal.ensures.opened tells in (
      told.0,
      subst (λ (areas : Areas). SpellJournal (g.D.Describe.rules c.args.by.now) c.in_ok-journal.journal.entries.items areas)
          (sym (seen_same (g.S.Store.disk c.args.store.now) (g.S.Store.disk c.is_written.new.store) c.is_written.ensures.stays)) told.1,
    )

pub returns-in_ok-journal-clause-stays : goal.returns-in_ok-journal-clause-stays
returns-in_ok-journal-clause-stays g c =
    stays_trans (g.S.Store.disk c.args.store.now) (g.S.Store.disk c.is_written.new.store) (g.S.Store.disk c.open_written.new.store) c.is_written.ensures.stays c.open_written.ensures.stays
