use Rattle.std.proofs.Common.{◌≡◌, ◌∙◌, sym, ap, Err}
use Rattle.std.proofs.lemmas.Result.{err_from_is_err_and}
use Rattle.store_model.proofs.Runs.{stays_trans}
use Rattle.gated_log.specs.declared.fault.LogFault.{LogFault}
use Rattle.gated_log.specs.declared.fault.LogFault.TheVariants.{Damaged}
use Rattle.journal_opening.proofs.Books.{held_stays}
use Rattle.journal_opening.proofs.Takings.{cannot_replay, left_open, left_whole}
use Rattle.journal_opening.proofs.replaying.replay_book.Goals as goal

pub returns-in_err-taken-clause-damaged : goal.returns-in_err-taken-clause-damaged
returns-in_err-taken-clause-damaged g c = λ area at is tells all holds can are.
    let p = err_from_is_err_and c.from_residual.result c.from_residual.ensures.1 in
    let same : c.in_err-taken.field-0.0 ≡ Damaged area at = cc (p.1, p.2, is) in
    cannot_replay (g.D.Describe.rules c.args.by.now) all (c.in_err-taken.ensures.damaged area at (ap (λ (e : LogFault). Err e) same) tells all holds) can are

pub returns-then-is_whole-clause-whole : goal.returns-then-is_whole-clause-whole
returns-then-is_whole-clause-whole g c = λ entries left. left_whole (g.D.Describe.rules c.args.by.now) entries c.in_ok-taken.taken.replay left (sym c.is_whole.ensures ∙ c.if-is_whole.true)

pub damage_at-requires-clause-held : goal.damage_at-requires-clause-held
damage_at-requires-clause-held g c = λ tells.
    held_stays c.args.book.now (g.S.Store.disk c.args.store.now) (g.S.Store.disk c.replay_entries.new.store) c.replay_entries.ensures.stays (c.requires.held tells)

pub returns-else-is_whole-clause-damaged : goal.returns-else-is_whole-clause-damaged
returns-else-is_whole-clause-damaged g c = λ area at is tells all holds can are.
    left_open (g.D.Describe.rules c.args.by.now) g.S.Store.tells c.args.book.now c.in_ok-taken.taken.entries.items c.in_ok-taken.taken.replay (g.S.Store.disk c.args.store.now) c.in_ok-taken.ensures.taken
    (sym c.is_whole.ensures ∙ c.if-is_whole.false) tells all holds can

pub returns-else-is_whole-clause-stays : goal.returns-else-is_whole-clause-stays
returns-else-is_whole-clause-stays g c =
    stays_trans (g.S.Store.disk c.args.store.now) (g.S.Store.disk c.replay_entries.new.store) (g.S.Store.disk c.damage_at.new.store) c.replay_entries.ensures.stays c.damage_at.ensures.stays
