use Rattle.std.proofs.Common.{◌≡◌, ℕ, ◌+◌, ◌-◌, ◌<◌, ◌≤◌, List, [], length, drop, true, ap, sym, subst, ◌∙◌, arith, length-drop, vec_len, vec_capacity}
use Rattle.std.proofs.Math.Logic.{∥∥₁_map}
use Rattle.store_model.specs.Disk.{Leaves}
use Rattle.gated_log.specs.Blocks.{between, frame}
use Rattle.gated_log.specs.Log.{LogState}
use Rattle.receiver_chain.specs.Links.{IsNoLink}
use Rattle.receiver_chain.specs.Chain.{attached_of}
use Rattle.journal_book.specs.Book.{BookState, Holds}
use Rattle.journal_book.specs.Kept.{IsForcedOrFrom, IsKept}
use Rattle.journal_book.proofs.Deposits.{no_link}
use Rattle.journal_book.proofs.Forcing.{force_exactly, force_moment, force_holds, frame_back, emptied}
use Rattle.journal_book.proofs.book.Book.force_block.Goals as goal

pub deposit_block-deposited-requires-clause-held : goal.deposit_block-deposited-requires-clause-held
deposit_block-deposited-requires-clause-held g c = λ tells.
    ∥∥₁_map (c.requires.held tells) (λ has.
    let here = subst (λ (v : BookState). Holds v has.0 (g.S.Store.disk c.args.store.now)) (sym c.self.view_is) has.1 in
    (here.kept, here.chain))

pub deposit_block-deposited-requires-clause-no_link : goal.deposit_block-deposited-requires-clause-no_link
deposit_block-deposited-requires-clause-no_link g c = λ block is.
    let bytes = c.self.inside.framed.items in
    let framed : c.deref.result.now ≡ frame (drop 4 bytes) = c.deref.ensures.value ∙ c.close.ensures.framed in
    let same : block ≡ drop 4 bytes = sym (frame_back block) ∙ ap (λ (l : List ℕ). between l) (sym is ∙ framed) ∙ frame_back (drop 4 bytes) in
    subst (λ (l : List ℕ). IsNoLink (attached_of c.self.inside.chain + 1) l) (sym same) (no_link (drop 4 bytes) c.self.inside.waiting (attached_of c.self.inside.chain + 1) c.self.invariant.5)

pub returns-in_err-deposited-clause-moments : goal.returns-in_err-deposited-clause-moments
returns-in_err-deposited-clause-moments g c = λ tells entries holds.
    let inside = c.self.inside in
    let bytes = inside.framed.items in
    let book : BookState = record { chain = inside.chain; first = inside.first; forced = inside.forced; waiting = inside.waiting; begun = inside.begun; buffered = drop 4 bytes; bytes = vec_capacity inside.framed - (vec_len inside.framed + 1) } in
    let here : Holds book entries (g.S.Store.disk c.args.store.now) = subst (λ (v : BookState). Holds v entries (g.S.Store.disk c.args.store.now)) (sym c.self.view_is) holds in
    let framed : c.deref.result.now ≡ frame (drop 4 bytes) = c.deref.ensures.value ∙ c.close.ensures.framed in
    let some : 0 < inside.waiting = omega (arith, c.requires.waits, ap (λ (v : BookState). v.waiting) c.self.view_is) in
    subst (λ (v : BookState). Leaves (g.S.Store.disk c.args.store.now) (g.S.Store.disk c.deposit_block-deposited.new.store) (IsKept v.chain.first v.forced entries)) c.self.view_is
    (force_moment book entries (g.S.Store.disk c.args.store.now) here some (g.S.Store.disk c.deposit_block-deposited.new.store) (c.deposit_block-deposited.ensures.any_moment tells here.kept (drop 4 bytes) framed here.chain))

pub returns-in_err-deposited-clause-exactly : goal.returns-in_err-deposited-clause-exactly
returns-in_err-deposited-clause-exactly g c = λ tells entries holds.
    let inside = c.self.inside in
    let bytes = inside.framed.items in
    let book : BookState = record { chain = inside.chain; first = inside.first; forced = inside.forced; waiting = inside.waiting; begun = inside.begun; buffered = drop 4 bytes; bytes = vec_capacity inside.framed - (vec_len inside.framed + 1) } in
    let here : Holds book entries (g.S.Store.disk c.args.store.now) = subst (λ (v : BookState). Holds v entries (g.S.Store.disk c.args.store.now)) (sym c.self.view_is) holds in
    let framed : c.deref.result.now ≡ frame (drop 4 bytes) = c.deref.ensures.value ∙ c.close.ensures.framed in
    let some : 0 < inside.waiting = omega (arith, c.requires.waits, ap (λ (v : BookState). v.waiting) c.self.view_is) in
    subst (λ (v : BookState). Leaves (g.S.Store.disk c.args.store.now) (g.S.Store.disk c.deposit_block-deposited.new.store) (IsForcedOrFrom v.chain.first v.forced (length entries) entries)) c.self.view_is
    (force_exactly book entries (g.S.Store.disk c.args.store.now) here some (g.S.Store.disk c.deposit_block-deposited.new.store) (c.deposit_block-deposited.ensures.any_moment tells here.kept (drop 4 bytes) framed here.chain))

pub returns-clause-moments : goal.returns-clause-moments
returns-clause-moments g c = λ tells entries holds.
    let inside = c.self.inside in
    let bytes = inside.framed.items in
    let book : BookState = record { chain = inside.chain; first = inside.first; forced = inside.forced; waiting = inside.waiting; begun = inside.begun; buffered = drop 4 bytes; bytes = vec_capacity inside.framed - (vec_len inside.framed + 1) } in
    let here : Holds book entries (g.S.Store.disk c.args.store.now) = subst (λ (v : BookState). Holds v entries (g.S.Store.disk c.args.store.now)) (sym c.self.view_is) holds in
    let framed : c.deref.result.now ≡ frame (drop 4 bytes) = c.deref.ensures.value ∙ c.close.ensures.framed in
    let some : 0 < inside.waiting = omega (arith, c.requires.waits, ap (λ (v : BookState). v.waiting) c.self.view_is) in
    subst (λ (v : BookState). Leaves (g.S.Store.disk c.args.store.now) (g.S.Store.disk c.deposit_block-deposited.new.store) (IsKept v.chain.first v.forced entries)) c.self.view_is
    (force_moment book entries (g.S.Store.disk c.args.store.now) here some (g.S.Store.disk c.deposit_block-deposited.new.store) (c.deposit_block-deposited.ensures.any_moment tells here.kept (drop 4 bytes) framed here.chain))

pub returns-clause-exactly : goal.returns-clause-exactly
returns-clause-exactly g c = λ tells entries holds.
    let inside = c.self.inside in
    let bytes = inside.framed.items in
    let book : BookState = record { chain = inside.chain; first = inside.first; forced = inside.forced; waiting = inside.waiting; begun = inside.begun; buffered = drop 4 bytes; bytes = vec_capacity inside.framed - (vec_len inside.framed + 1) } in
    let here : Holds book entries (g.S.Store.disk c.args.store.now) = subst (λ (v : BookState). Holds v entries (g.S.Store.disk c.args.store.now)) (sym c.self.view_is) holds in
    let framed : c.deref.result.now ≡ frame (drop 4 bytes) = c.deref.ensures.value ∙ c.close.ensures.framed in
    let some : 0 < inside.waiting = omega (arith, c.requires.waits, ap (λ (v : BookState). v.waiting) c.self.view_is) in
    subst (λ (v : BookState). Leaves (g.S.Store.disk c.args.store.now) (g.S.Store.disk c.deposit_block-deposited.new.store) (IsForcedOrFrom v.chain.first v.forced (length entries) entries)) c.self.view_is
    (force_exactly book entries (g.S.Store.disk c.args.store.now) here some (g.S.Store.disk c.deposit_block-deposited.new.store) (c.deposit_block-deposited.ensures.any_moment tells here.kept (drop 4 bytes) framed here.chain))

pub returns-clause-forced : goal.returns-clause-forced
returns-clause-forced g c = λ tells entries holds.
    let inside = c.self.inside in
    let bytes = inside.framed.items in
    let book : BookState = record { chain = inside.chain; first = inside.first; forced = inside.forced; waiting = inside.waiting; begun = inside.begun; buffered = drop 4 bytes; bytes = vec_capacity inside.framed - (vec_len inside.framed + 1) } in
    let here : Holds book entries (g.S.Store.disk c.args.store.now) = subst (λ (v : BookState). Holds v entries (g.S.Store.disk c.args.store.now)) (sym c.self.view_is) holds in
    let framed : c.deref.result.now ≡ frame (drop 4 bytes) = c.deref.ensures.value ∙ c.close.ensures.framed in
    let some : 0 < inside.waiting = omega (arith, c.requires.waits, ap (λ (v : BookState). v.waiting) c.self.view_is) in
    let chain = c.deposit_block-deposited.new.self in
    let first = c.deposit_block-deposited.ensures.same_first in
    let number : attached_of chain ≡ attached_of inside.chain = omega (arith, first, ap (λ (l : List LogState). length l) c.deposit_block-deposited.ensures.same_earlier) in
    let room = vec_capacity c.truncate.new.self - (vec_len c.truncate.new.self + 1) in
    let all = force_holds book entries (g.S.Store.disk c.args.store.now) here some (g.S.Store.disk c.deposit_block-deposited.new.store) chain room first number (c.in_ok-deposited.ensures.deposited tells here.kept (drop 4 bytes) framed here.chain) in
    let none : drop 4 c.truncate.new.self.items ≡ [] = ap (λ (l : List ℕ). drop 4 l) c.truncate.ensures.items ∙ emptied _ in
    subst (λ (l : List ℕ). Holds (record { chain = chain; first = inside.first; forced = inside.forced + inside.waiting; waiting = 0; begun = true; buffered = l; bytes = room }) entries (g.S.Store.disk c.deposit_block-deposited.new.store)) (sym none) all

pub returns-in_err-deposited-clause-faults : goal.returns-in_err-deposited-clause-faults
returns-in_err-deposited-clause-faults g c = c.deposit_block-deposited.ensures.apart.later.faults

pub returns-clause-faults : goal.returns-clause-faults
returns-clause-faults g c = c.deposit_block-deposited.ensures.apart.later.faults

pub returns-in_err-deposited-clause-freed : goal.returns-in_err-deposited-clause-freed
returns-in_err-deposited-clause-freed g c =
    let inside = c.self.inside in
    let long : vec_len inside.framed ≡ length inside.framed.items = inside.framed.ok.0 in
    let left = vec_capacity c.truncate.new.self - (vec_len c.truncate.new.self + 1) + length (drop 4 c.truncate.new.self.items) in
    subst (λ (v : BookState). v.bytes + length v.buffered ≤ left) c.self.view_is
    (omega (arith, long, length-drop 4 inside.framed.items, c.self.invariant.1, c.self.invariant.2, c.close.ensures.len, c.close.ensures.capacity, c.truncate.ensures.len, c.truncate.ensures.capacity))

pub returns-in_err-deposited-clause-no_longer : goal.returns-in_err-deposited-clause-no_longer
returns-in_err-deposited-clause-no_longer g c =
    let none : drop 4 c.truncate.new.self.items ≡ [] = ap (λ (l : List ℕ). drop 4 l) c.truncate.ensures.items ∙ emptied _ in
    omega (arith, ap length none)

pub returns-clause-freed : goal.returns-clause-freed
returns-clause-freed g c =
    let inside = c.self.inside in
    let long : vec_len inside.framed ≡ length inside.framed.items = inside.framed.ok.0 in
    let left = vec_capacity c.truncate.new.self - (vec_len c.truncate.new.self + 1) + length (drop 4 c.truncate.new.self.items) in
    subst (λ (v : BookState). v.bytes + length v.buffered ≤ left) c.self.view_is
    (omega (arith, long, length-drop 4 inside.framed.items, c.self.invariant.1, c.self.invariant.2, c.close.ensures.len, c.close.ensures.capacity, c.truncate.ensures.len, c.truncate.ensures.capacity))

pub returns-clause-no_longer : goal.returns-clause-no_longer
returns-clause-no_longer g c =
    let none : drop 4 c.truncate.new.self.items ≡ [] = ap (λ (l : List ℕ). drop 4 l) c.truncate.ensures.items ∙ emptied _ in
    omega (arith, ap length none)
