use Rattle.std.proofs.Common.{◌≡◌, ◌≢◌, ◌+◌, ◌-◌, ◌<◌, inl, inr, ℕ, List, [], ◌∷◌, drop, get_or, length, refl, sym, ◌∙◌, subst, rules}
use Rattle.std.proofs.lemmas.Bool.{false≢true}
use Rattle.gated_log.proofs.Walking.{damaged_is}
use Rattle.receiver_chain.specs.Links.{IsStart}
use Rattle.receiver_chain.specs.Receivers.{receiver_at}
use Rattle.receiver_chain.specs.Chain.{log_at}
use Rattle.journal_book.proofs.Chains.{first_block, no_blocks}
use Rattle.journal_book.proofs.opening.read_front.Goals as goal

pub returns-then-count-eq0-clause-front : goal.returns-then-count-eq0-clause-front
returns-then-count-eq0-clause-front g c = λ tells kept holds.
    let more : c.args.receiver ≢ 1 = search rules in
    let nought : length (log_at c.args.chain.now c.args.receiver).lengths ≡ 0 = search rules in
    inl (inr (more, no_blocks c.args.chain.now kept (g.S.Store.disk c.args.store.now) c.args.receiver holds c.requires.from c.requires.upto nought), refl, refl)

pub returns-then-branch-clause-front : goal.returns-then-branch-clause-front
returns-then-branch-clause-front g c = λ tells kept holds.
    let blocks = (receiver_at c.args.chain.now.first kept c.args.receiver).blocks in
    let more : c.args.receiver ≢ 1 = search rules in
    let some : 0 < length (log_at c.args.chain.now c.args.receiver).lengths = search rules in
    let block : c.deref.result.now ≡ get_or blocks 0 [] = c.deref.ensures.value ∙ c.in_ok-block.ensures.block tells kept holds in
    let start = subst (λ (n : ℕ). IsStart n (c.args.last + 1) c.deref.result.now) c.saturating_sub.ensures (c.in_ok-begins.ensures.start.0 c.if-branch.true) in
    inr (
      more,
      (
        get_or blocks 0 [],
        drop 1 blocks,
        first_block c.args.chain.now kept (g.S.Store.disk c.args.store.now) c.args.receiver holds c.requires.from c.requires.upto some,
        subst (λ (b : List ℕ). IsStart (c.args.receiver - 1) (c.args.last + 1) b) block start,
      ),
      refl,
      refl,
    )

pub returns-clause-damaged : goal.returns-clause-damaged
returns-clause-damaged g c = λ area at is. (
  (damaged_is {T = ℕ × ℕ} (2 + c.args.receiver) c.place_of.result area at is).0,
  λ tells kept holds.
      let blocks = (receiver_at c.args.chain.now.first kept c.args.receiver).blocks in
      let more : c.args.receiver ≢ 1 = search rules in
      let some : 0 < length (log_at c.args.chain.now c.args.receiver).lengths = search rules in
      let block : c.deref.result.now ≡ get_or blocks 0 [] = c.deref.ensures.value ∙ c.in_ok-block.ensures.block tells kept holds in (
        more,
        (
          get_or blocks 0 [],
          drop 1 blocks,
          first_block c.args.chain.now kept (g.S.Store.disk c.args.store.now) c.args.receiver holds c.requires.from c.requires.upto some,
          λ start.
              let found = subst (λ (n : ℕ). IsStart n (c.args.last + 1) c.deref.result.now) (sym c.saturating_sub.ensures) (subst (λ (b : List ℕ). IsStart (c.args.receiver - 1) (c.args.last + 1) b) (sym block) start) in
              false≢true (sym c.if-branch.false ∙ c.in_ok-begins.ensures.start.1 found),
        ),
      ),
)
