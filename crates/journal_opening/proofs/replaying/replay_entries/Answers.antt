use Rattle.std.proofs.Common.{◌≡◌, ◌+◌, ◌-◌, List, refl, ap, sym, subst, arith, Err}
use Rattle.entry_codec.specs.declared.entries.Entry.{Entry}
use Rattle.std.proofs.lemmas.Result.{err_from_is_err_and}
use Rattle.store_model.proofs.Runs.{stays_trans}
use Rattle.checkpoint.proofs.Formats.{stays_here}
use Rattle.gated_log.specs.declared.fault.LogFault.{LogFault}
use Rattle.gated_log.specs.declared.fault.LogFault.TheVariants.{Damaged}
use Rattle.journal_book.proofs.Deposits.{stays_holds}
use Rattle.journal_opening.specs.Journals.{IsLeftBy}
use Rattle.journal_opening.proofs.Books.{held_stays}
use Rattle.journal_opening.proofs.Empties.{empty_stays}
use Rattle.journal_opening.proofs.Takings.{range_fault, taken_range, taken_whole}
use Rattle.journal_opening.proofs.replaying.replay_entries.Goals as goal

pub loop-read-init : goal.loop-read-init
loop-read-init g c = record {
  stays = stays_here (g.S.Store.disk c.args.store.now);
  within = omega arith;
  taken = record {
    left =
        subst (λ (l : List Entry). IsLeftBy (g.D.Describe.rules c.args.by.now) l c.new-replay.result) (sym c.new-entries.ensures.items)
        (record { left = c.new-replay.ensures.journal (g.D.Describe.rules c.args.by.now); stays = empty_stays (g.D.Describe.rules c.args.by.now); journaled = tt; placed = tt });
    same = λ tells all holds. c.new-entries.ensures.items;
  };
}

pub take_range-requires-clause-held : goal.take_range-requires-clause-held
take_range-requires-clause-held g c = λ tells. held_stays c.args.book.now (g.S.Store.disk c.args.store.now) (g.S.Store.disk c.loop-read.store) c.loop-read.invariant.stays (c.requires.held tells)

pub take_range-requires-clause-counted : goal.take_range-requires-clause-counted
take_range-requires-clause-counted g c = omega (arith, c.bounds-bounds.ensures.first, c.bounds-bounds.ensures.least)

pub take_range-requires-clause-kept : goal.take_range-requires-clause-kept
take_range-requires-clause-kept g c = omega (arith, c.bounds-bounds.ensures.first)

pub take_range-requires-clause-there : goal.take_range-requires-clause-there
take_range-requires-clause-there g c =
    omega (arith, c.bounds-bounds.ensures.first, c.bounds-bounds.ensures.last, c.bounds-bounds.ensures.least, c.min-more.ensures, c.loop-read-test.true)

pub returns-in_err-take_range-clause-damaged : goal.returns-in_err-take_range-clause-damaged
returns-in_err-take_range-clause-damaged g c = λ area at is tells all holds.
    let p = err_from_is_err_and c.from_residual.result c.from_residual.ensures.1 in
    let same : c.in_err-take_range.field-0.0 ≡ Damaged area at = cc (p.1, p.2, is) in
    let so_far = c.loop-read.invariant in
    let lo = c.bounds-bounds.result.0 + c.loop-read.read in
    let more = c.min-more.result in
    let upto : lo + (more - 1) + 1 ≡ lo + more = omega (arith, c.min-more.ensures, c.loop-read-test.true) in
    let there = stays_holds c.args.book.now all (g.S.Store.disk c.args.store.now) (g.S.Store.disk c.loop-read.store) so_far.stays holds in
    range_fault (g.D.Describe.rules c.args.by.now) g.S.Store.tells c.args.book.now (g.S.Store.disk c.args.store.now) (g.S.Store.disk c.loop-read.store) so_far.stays c.loop-read.read
    c.loop-read.entries.items c.loop-read.replay so_far.taken c.bounds-bounds.result.0 lo (lo + (more - 1)) more
    c.bounds-bounds.ensures.first refl upto all tells holds (c.in_err-take_range.ensures.damaged area at (ap (λ (e : LogFault). Err e) same) tells c.loop-read.entries.items all so_far.taken.left there)

pub loop-read-preserved : goal.loop-read-preserved
loop-read-preserved g c =
    let so_far = c.loop-read.invariant in
    let lo = c.bounds-bounds.result.0 + c.loop-read.read in
    let more = c.min-more.result in
    let upto : lo + (more - 1) + 1 ≡ lo + more = omega (arith, c.min-more.ensures, c.loop-read-test.true) in
    record {
      stays = stays_trans _ _ _ so_far.stays c.take_range.ensures.stays;
      within = omega (arith, c.min-more.ensures, c.loop-read-test.true);
      taken =
          taken_range (g.D.Describe.rules c.args.by.now) g.S.Store.tells c.args.book.now (g.S.Store.disk c.args.store.now) (g.S.Store.disk c.loop-read.store) so_far.stays c.loop-read.read
          c.loop-read.entries.items c.loop-read.replay so_far.taken c.bounds-bounds.result.0 lo (lo + (more - 1)) more
          c.bounds-bounds.ensures.first refl upto c.take_range.new.kept.items c.take_range.new.replay (c.in_ok-take_range.ensures.taken so_far.taken.left);
    }

pub returns-clause-taken : goal.returns-clause-taken
returns-clause-taken g c =
    taken_whole (g.D.Describe.rules c.args.by.now) g.S.Store.tells c.args.book.now c.loop-read.read c.loop-read.entries.items c.loop-read.replay (g.S.Store.disk c.args.store.now) c.loop-read.invariant.taken
    c.bounds-bounds.result.0 c.bounds-bounds.result.1
    (c.bounds-bounds.result.1 - (c.bounds-bounds.result.0 - 1)) c.bounds-bounds.ensures.first c.bounds-bounds.ensures.last
    (omega (arith, c.bounds-bounds.ensures.first, c.bounds-bounds.ensures.least)) refl (omega (arith, c.loop-read-test.false))
