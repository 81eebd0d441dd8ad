use Rattle.std.proofs.Common.{◌≡◌, ap, subst, Err}
use Rattle.std.proofs.lemmas.Result.{err_from_is_err_and}
use Rattle.store_model.specs.Disk.{Areas}
use Rattle.store_model.proofs.Runs.{stays_trans}
use Rattle.gated_log.specs.declared.fault.LogFault.{LogFault}
use Rattle.gated_log.specs.declared.fault.LogFault.TheVariants.{Damaged}
use Rattle.receiver_chain.specs.declared.numbers.TheConstants.{FIRST_RECEIVER}
use Rattle.journal_book.specs.Kept.{SpellEntries}
use Rattle.journal_opening.proofs.Books.{seen_same}
use Rattle.journal_opening.proofs.Opened.{no_journal, opened_journal}
use Rattle.journal_opening.proofs.opening.open_parts.Goals as goal

pub returns-in_err-roots-clause-damaged : goal.returns-in_err-roots-clause-damaged
returns-in_err-roots-clause-damaged g c = λ area at is tells entries spells.
    let p = err_from_is_err_and c.from_residual.result c.from_residual.ensures.1 in
    let same : c.in_err-roots.field-0.0 ≡ Damaged area at = cc (p.1, p.2, is) in
    c.in_err-roots.ensures.damaged area at (ap (λ (e : LogFault). Err e) same) tells spells.earlier spells.roots

pub returns-in_err-book-clause-damaged : goal.returns-in_err-book-clause-damaged
returns-in_err-book-clause-damaged g c = λ area at is tells entries spells.
    let p = err_from_is_err_and c.from_residual-in_err-book.result c.from_residual-in_err-book.ensures.1 in
    let same : c.in_err-book.field-0.0 ≡ Damaged area at = cc (p.1, p.2, is) in
    let told = c.in_err-book.ensures.damaged area at (ap (λ (e : LogFault). Err e) same) tells in
    told.1 entries (subst (λ (areas : Areas). SpellEntries FIRST_RECEIVER entries areas)
    (seen_same (g.S.Store.disk c.args.store.now) (g.S.Store.disk c.first_roots.new.store) c.first_roots.ensures.stays) spells.spelled)

pub replay_book-requires-clause-held : goal.replay_book-requires-clause-held
replay_book-requires-clause-held g c = λ tells. ∣ c.in_ok-book.ensures.opened tells ∣₁

pub returns-in_err-taken-clause-damaged : goal.returns-in_err-taken-clause-damaged
returns-in_err-taken-clause-damaged g c = λ area at is tells entries spells.
    let p = err_from_is_err_and c.from_residual-in_err-taken.result c.from_residual-in_err-taken.ensures.1 in
    let same : c.in_err-taken.field-0.0 ≡ Damaged area at = cc (p.1, p.2, is) in
    let has = c.in_ok-book.ensures.opened tells in
    let before = stays_trans (g.S.Store.disk c.args.store.now) (g.S.Store.disk c.first_roots.new.store) (g.S.Store.disk c.«open».new.store) c.first_roots.ensures.stays c.«open».ensures.stays in
    no_journal (g.D.Describe.rules c.args.by.now) c.in_ok-book.book has.0 (g.S.Store.disk c.«open».new.store) has.1 c.in_ok-book.ensures.all_forced c.in_ok-book.ensures.first
    (g.S.Store.disk c.args.store.now) before
    (c.in_err-taken.ensures.damaged area at (ap (λ (e : LogFault). Err e) same) tells has.0 has.1) entries spells

pub returns-clause-opened : goal.returns-clause-opened
returns-clause-opened g c = λ tells.
    opened_journal (g.D.Describe.rules c.args.by.now) g.S.Store.tells c.in_ok-roots.roots c.in_ok-book.book c.in_ok-taken.taken.entries.items c.in_ok-taken.taken.replay (g.S.Store.disk c.args.store.now)
    (g.S.Store.disk c.first_roots.new.store) (g.S.Store.disk c.«open».new.store)
    (g.S.Store.disk c.replay_book.new.store) c.first_roots.ensures.stays c.«open».ensures.stays c.replay_book.ensures.stays (c.in_ok-roots.ensures.held tells) c.in_ok-roots.ensures.first
    (c.in_ok-book.ensures.opened tells)
    c.in_ok-book.ensures.all_forced c.in_ok-book.ensures.first tells c.in_ok-taken.ensures.taken c.in_ok-taken.ensures.whole

pub returns-clause-left : goal.returns-clause-left
returns-clause-left g c =
    let taken = c.in_ok-taken.ensures.taken in
    (taken.left, c.in_ok-taken.ensures.whole c.in_ok-taken.taken.entries.items taken.left)

pub returns-clause-stays : goal.returns-clause-stays
returns-clause-stays g c =
    let before = stays_trans (g.S.Store.disk c.args.store.now) (g.S.Store.disk c.first_roots.new.store) (g.S.Store.disk c.«open».new.store) c.first_roots.ensures.stays c.«open».ensures.stays in
    stays_trans (g.S.Store.disk c.args.store.now) (g.S.Store.disk c.«open».new.store) (g.S.Store.disk c.replay_book.new.store) before c.replay_book.ensures.stays
