use Rattle.std.proofs.Common.{◌≡◌, ◌++◌, ◌∙◌, ℕ, List, Option, ap, sym, subst, Err}
use Rattle.store_model.proofs.Runs.{stays_trans}
use Rattle.std.proofs.lemmas.Result.{err_from_is_err_and}
use Rattle.entry_codec.specs.declared.entries.Entry.{Entry}
use Rattle.gated_log.specs.declared.fault.LogFault.{LogFault}
use Rattle.gated_log.specs.declared.fault.LogFault.TheVariants.{Damaged}
use Rattle.journal_opening.specs.Journals.{IsLeftBy}
use Rattle.journal_opening.specs.Takings.{AreTaken, CannotFollow}
use Rattle.journal_opening.proofs.Books.{held_stays}
use Rattle.journal_opening.proofs.replaying.take_range.Goals as goal

pub returns-in_err-entries-clause-damaged : goal.returns-in_err-entries-clause-damaged
returns-in_err-entries-clause-damaged g c = λ area at is tells before all left holds.
    let p = err_from_is_err_and c.from_residual.result c.from_residual.ensures.1 in
    let same : c.in_err-entries.field-0.0 ≡ Damaged area at = cc (p.1, p.2, is) in
    absurd (c.in_err-entries.ensures.whole area at (ap (λ (e : LogFault). Err e) same) tells)

pub returns-in-None-clause-taken : goal.returns-in-None-clause-taken
returns-in-None-clause-taken g c = λ left.
    let before = c.args.kept.now.items in
    let put = c.in_ok-append.ensures.items in
    let here = subst (λ (o : Option ℕ). AreTaken (g.D.Describe.rules c.args.by.now) (before ++ c.deref.result.now) c.take_all.new.replay o) c.in-None.is (c.in_ok-found.ensures before left) in
    record {
      more = c.in_ok-entries.entries.items;
      put = put;
      left =
          subst (λ (l : List Entry). IsLeftBy (g.D.Describe.rules c.args.by.now) l c.take_all.new.replay) (sym put)
          (subst (λ (l : List Entry). IsLeftBy (g.D.Describe.rules c.args.by.now) (before ++ l) c.take_all.new.replay) c.deref.ensures.value here);
      same = λ tells all holds. c.in_ok-entries.ensures.entries tells all holds;
    }

pub damage_at-requires-clause-held : goal.damage_at-requires-clause-held
damage_at-requires-clause-held g c = λ tells. held_stays c.args.book.now (g.S.Store.disk c.args.store.now) (g.S.Store.disk c.read_range.new.store) c.read_range.ensures.stays (c.requires.held tells)

pub returns-clause-damaged : goal.returns-clause-damaged
returns-clause-damaged g c = λ area at is tells before all left holds.
    let here = subst (λ (o : Option ℕ). AreTaken (g.D.Describe.rules c.args.by.now) (before ++ c.deref.result.now) c.take_all.new.replay o) c.in-Some.is (c.in_ok-found.ensures before left) in
    subst (λ (l : List Entry). CannotFollow (g.D.Describe.rules c.args.by.now) (before ++ l)) (c.deref.ensures.value ∙ c.in_ok-entries.ensures.entries tells all holds) here

pub returns-clause-stays : goal.returns-clause-stays
returns-clause-stays g c =
    stays_trans (g.S.Store.disk c.args.store.now) (g.S.Store.disk c.read_range.new.store) (g.S.Store.disk c.damage_at.new.store) c.read_range.ensures.stays c.damage_at.ensures.stays
