use Rattle.std.proofs.Common.{◌≡◌, ℕ, List, subst, arith}
use Rattle.std.proofs.Math.Logic.{∥∥₁_map}
use Rattle.store_model.proofs.Runs.{stays_trans}
use Rattle.entry_codec.specs.declared.entries.Entry.{Entry}
use Rattle.receiver_chain.proofs.Switches.{stays_here}
use Rattle.journal_book.specs.Book.{Holds, last_of}
use Rattle.journal_book.proofs.Deposits.{stays_holds}
use Rattle.ibmi_batch.proofs.ShownLemmas.{handed-on, read-more, read-none, rose-behind, unread-behind}
use Rattle.ibmi_batch.specs.Seen.{HasRead}
use Rattle.ibmi_batch.proofs.showing.push_journal.Goals as goal

pub loop-done-init : goal.loop-done-init
loop-done-init g c = record {
  stays = stays_here (g.S.Store.disk c.args.store.now);
  read = rw c.bounds-first.ensures.first (read-none g.S.Store.tells (λ (all : List Entry). Holds c.args.book.now all (g.S.Store.disk c.args.store.now)) c.args.book.now.first
      c.args.text.now.items c.bounds-first.ensures.least);
  upto = omega (arith, c.bounds-first.ensures.first, c.bounds-first.ensures.least);
  cached = λ tells all holds. rw c.in_ok-cache.ensures tt;
}

pub read_piece-requires-clause-held : goal.read_piece-requires-clause-held
read_piece-requires-clause-held g c = λ tells.
    ∥∥₁_map (c.requires.held tells) (λ has. (has.0, stays_holds c.args.book.now has.0 (g.S.Store.disk c.args.store.now) (g.S.Store.disk c.loop-done.store) c.loop-done.invariant.stays has.1))

pub read_piece-requires-clause-from : goal.read_piece-requires-clause-from
read_piece-requires-clause-from g c = omega (arith, c.loop-done.invariant.read.many)

pub read_piece-requires-clause-forced : goal.read_piece-requires-clause-forced
read_piece-requires-clause-forced g c =
    omega (arith, c.end_of_piece-upto.ensures.within, c.bounds-first.ensures.last, c.bounds-first.ensures.least, c.requires.settled)

pub returns-in_err-found-clause-fault : goal.returns-in_err-found-clause-fault
returns-in_err-found-clause-fault g c =
    let old = g.S.Store.disk c.args.store.now in
    let mid = g.S.Store.disk c.loop-done.store in
    handed-on _ _ _ c.from_residual-in_err-found.ensures.1
    (unread-behind _ _ _ _ (rose-behind old mid (g.S.Store.disk c.read_piece.new.store) c.loop-done.invariant.stays) c.in_err-found.ensures.fault)

pub loop-done-preserved : goal.loop-done-preserved
loop-done-preserved g c =
    let inv = c.loop-done.invariant in
    let book = c.args.book.now in
    let old = g.S.Store.disk c.args.store.now in
    let now = g.S.Store.disk c.loop-done.store in
    record {
      stays = stays_trans _ _ _ inv.stays c.read_piece.ensures.stays;
      read = read-more g.S.Store.tells (λ (all : List Entry). Holds book all old) book.first c.loop-done.done c.end_of_piece-upto.result c.args.text.now.items c.loop-done.text.items
          c.push_entries.new.out.items c.in_ok-found.found.items c.as_slice.result.now inv.read c.end_of_piece-upto.ensures.more c.in_ok-found.ensures.many
          (λ told all holds. c.in_ok-found.ensures.own told all (stays_holds book all old now inv.stays holds)) c.as_slice.ensures.value c.in_ok-push_entries.ensures;
      upto = omega (arith, c.end_of_piece-upto.ensures.within, c.bounds-first.ensures.last);
      cached = c.read_piece.ensures.cached;
    }

pub returns-clause-read : goal.returns-clause-read
returns-clause-read g c =
    let inv = c.loop-done.invariant in
    let ended : c.loop-done.done ≡ last_of c.args.book.now = omega (arith, inv.upto, c.bounds-first.ensures.last, c.loop-done-test.false) in
    subst (λ (n : ℕ). HasRead g.S.Store.tells (λ (all : List Entry). Holds c.args.book.now all (g.S.Store.disk c.args.store.now)) c.args.book.now.first n c.args.text.now.items c.loop-done.text.items)
    ended inv.read

pub returns-clause-stays : goal.returns-clause-stays
returns-clause-stays g c = c.loop-done.invariant.stays
