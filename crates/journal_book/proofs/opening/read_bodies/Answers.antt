use Rattle.std.proofs.Common.{◌≡◌, ◌+◌, ◌≤◌, ◌<◌, ℕ, List, [], ◌∷◌, drop, take, get_or, length, sym, ◌∙◌, subst, arith}
use Rattle.store_model.proofs.Runs.{stays_trans}
use Rattle.gated_log.proofs.Walking.{damaged_is}
use Rattle.entry_codec.specs.declared.entries.Entry.{Entry}
use Rattle.receiver_chain.specs.Receivers.{receiver_at}
use Rattle.receiver_chain.proofs.Switches.{stays_here}
use Rattle.receiver_chain.proofs.Kept.{holds_stays, is_held_stays}
use Rattle.journal_book.specs.declared.grammar.Reading.{Reading}
use Rattle.journal_book.specs.Bodies.{IsBody, IsReadAs}
use Rattle.journal_book.proofs.Counts.{count_is}
use Rattle.journal_book.proofs.Openings.{IsStretch, rest_at, rest_none, stretch_begin, stretch_done, stretch_fault, stretch_further}
use Rattle.journal_book.proofs.opening.read_bodies.Goals as goal

pub loop-n-init : goal.loop-n-init
loop-n-init g c = record {
  stays = stays_here (g.S.Store.disk c.args.store.now);
  above = omega arith;
  read = λ tells kept holds. stretch_begin _ _;
}

pub block-requires-clause-held : goal.block-requires-clause-held
block-requires-clause-held g c = λ tells. is_held_stays c.args.chain.now (g.S.Store.disk c.args.store.now) (g.S.Store.disk c.loop-n.store) c.loop-n.invariant.stays (c.requires.held tells)

pub loop-n-preserved : goal.loop-n-preserved
loop-n-preserved g c =
    let n = c.loop-n.n in
    let reached = c.loop-n.reached in
    let read = subst (λ (r : Reading). IsReadAs c.deref.result.now reached r) c.in-Last.is c.in_ok-sequence.ensures in
    record {
      stays = stays_trans _ _ _ c.loop-n.invariant.stays c.block.ensures.stays;
      above = omega (arith, read.2, c.loop-n.invariant.above);
      read = λ tells kept holds.
          let blocks = (receiver_at c.args.chain.now.first kept c.args.stretch.receiver).blocks in
          let there = holds_stays c.args.chain.now kept (g.S.Store.disk c.args.store.now) (g.S.Store.disk c.loop-n.store) c.loop-n.invariant.stays holds in
          let block : c.deref.result.now ≡ get_or blocks n [] = c.deref.ensures.value ∙ c.in_ok-block.ensures.block tells kept there in
          let within : c.args.stretch.to ≤ length blocks = omega (arith, c.requires.within, count_is c.args.chain.now kept (g.S.Store.disk c.args.store.now) c.args.stretch.receiver holds c.requires.from c.requires.upto) in
          let rest = rest_at blocks c.args.stretch.to n c.loop-n-test.true within in
          stretch_further c.args.last reached c.in-Last.sequence (drop c.args.stretch.from (take c.args.stretch.to blocks)) (get_or blocks n []) (drop (n + 1) (take c.args.stretch.to blocks)) read.0
          (subst (λ (l : List (List ℕ)). IsStretch c.args.last (drop c.args.stretch.from (take c.args.stretch.to blocks)) reached l) rest (c.loop-n.invariant.read tells kept holds))
          (subst (λ (b : List ℕ). IsBody reached read.0 b) block read.1) read.2;
    }

pub returns-in-Fault-clause-damaged : goal.returns-in-Fault-clause-damaged
returns-in-Fault-clause-damaged g c = λ area at is.
    let n = c.loop-n.n in
    let reached = c.loop-n.reached in
    let none = subst (λ (r : Reading). IsReadAs c.deref.result.now reached r) c.in-Fault.is c.in_ok-sequence.ensures in (
      (damaged_is {T = ℕ} (2 + c.args.stretch.receiver) c.place_of.result area at is).0,
      λ tells kept holds.
          let blocks = (receiver_at c.args.chain.now.first kept c.args.stretch.receiver).blocks in
          let there = holds_stays c.args.chain.now kept (g.S.Store.disk c.args.store.now) (g.S.Store.disk c.loop-n.store) c.loop-n.invariant.stays holds in
          let block : c.deref.result.now ≡ get_or blocks n [] = c.deref.ensures.value ∙ c.in_ok-block.ensures.block tells kept there in
          let within : c.args.stretch.to ≤ length blocks = omega (arith, c.requires.within, count_is c.args.chain.now kept (g.S.Store.disk c.args.store.now) c.args.stretch.receiver holds c.requires.from c.requires.upto) in
          let rest = rest_at blocks c.args.stretch.to n c.loop-n-test.true within in
          stretch_fault c.args.last reached (drop c.args.stretch.from (take c.args.stretch.to blocks)) (get_or blocks n []) (drop (n + 1) (take c.args.stretch.to blocks))
          (subst (λ (l : List (List ℕ)). IsStretch c.args.last (drop c.args.stretch.from (take c.args.stretch.to blocks)) reached l) rest (c.loop-n.invariant.read tells kept holds))
          (λ group body. none group (subst (λ (b : List ℕ). IsBody reached group b) (sym block) body)),
    )

pub returns-clause-read : goal.returns-clause-read
returns-clause-read g c = λ tells kept holds.
    let blocks = (receiver_at c.args.chain.now.first kept c.args.stretch.receiver).blocks in
    let reached = c.loop-n.reached in
    let past : c.args.stretch.to ≤ c.loop-n.n = omega (arith, c.loop-n-test.false) in
    stretch_done c.args.last reached (drop c.args.stretch.from (take c.args.stretch.to blocks))
    (subst (λ (l : List (List ℕ)). IsStretch c.args.last (drop c.args.stretch.from (take c.args.stretch.to blocks)) reached l) (rest_none blocks c.args.stretch.to c.loop-n.n past) (c.loop-n.invariant.read tells kept holds))
