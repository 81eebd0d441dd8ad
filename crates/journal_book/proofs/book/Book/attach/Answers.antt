use Rattle.std.proofs.Common.{◌≡◌, ℕ, ◌+◌, ◌-◌, ◌≤◌, ◌<◌, [], ◌∷◌, ◌++◌, drop, Err, IsErrOf, sym, subst, ap, ◌∙◌, arith, vec_len, vec_capacity}
use Rattle.std.proofs.Math.Logic.{∥∥₁_map}
use Rattle.std.proofs.lemmas.Result.{err_from_is_err_and}
use Rattle.store_model.specs.Disk.{Leaves}
use Rattle.receiver_chain.specs.declared.fault.ChainFault.{ChainFault}
use Rattle.receiver_chain.specs.declared.fault.ChainFault.TheVariants.{NoMemory}
use Rattle.receiver_chain.specs.declared.numbers.TheConstants.{MAX_RECEIVER}
use Rattle.receiver_chain.specs.Chain.{attached_of}
use Rattle.journal_book.specs.Book.{BookState, Holds}
use Rattle.journal_book.specs.Kept.{IsKept, SpellEntries}
use Rattle.journal_book.specs.Switch.{AreTieBlocks}
use Rattle.journal_book.proofs.Attaching.{attach_holds, attach_moment, attach_none, attach_unswitched, switch_of}
use Rattle.journal_book.proofs.book.Book.attach.Goals as goal

pub attach_next-requires-clause-held : goal.attach_next-requires-clause-held
attach_next-requires-clause-held g c = λ tells.
    ∥∥₁_map (c.requires.held tells) (λ has.
    let here = subst (λ (v : BookState). Holds v has.0 (g.S.Store.disk c.args.store.now)) (sym c.self.view_is) has.1 in
    (here.kept, here.chain))

pub attach_next-requires-clause-blocks : goal.attach_next-requires-clause-blocks
attach_next-requires-clause-blocks g c =
    let inside = c.self.inside in
    let book : BookState = record { chain = inside.chain; first = inside.first; forced = inside.forced; waiting = inside.waiting; begun = inside.begun; buffered = drop 4 inside.framed.items; bytes = vec_capacity inside.framed - (vec_len inside.framed + 1) } in
    let below = subst (λ (v : BookState). attached_of v.chain < MAX_RECEIVER) (sym c.self.view_is) c.requires.below in
    let blocks = subst (λ (v : BookState). AreTieBlocks v c.requires.blocks.0 c.requires.blocks.1 c.args.ending.now c.args.beginning.now) (sym c.self.view_is) c.requires.blocks.2 in
    switch_of book c.requires.blocks.0 c.requires.blocks.1 c.args.ending.now c.args.beginning.now blocks (omega (arith, below))

pub returns-in_err-receiver-clause-moments : goal.returns-in_err-receiver-clause-moments
returns-in_err-receiver-clause-moments g c = λ tells entries nr pr blocks holds.
    let inside = c.self.inside in
    let book : BookState = record { chain = inside.chain; first = inside.first; forced = inside.forced; waiting = inside.waiting; begun = inside.begun; buffered = drop 4 inside.framed.items; bytes = vec_capacity inside.framed - (vec_len inside.framed + 1) } in
    let here = subst (λ (v : BookState). Holds v entries (g.S.Store.disk c.args.store.now)) (sym c.self.view_is) holds in
    let there = subst (λ (v : BookState). AreTieBlocks v nr pr c.args.ending.now c.args.beginning.now) (sym c.self.view_is) blocks in
    let below = subst (λ (v : BookState). attached_of v.chain < MAX_RECEIVER) (sym c.self.view_is) c.requires.below in
    let least = subst (λ (n : ℕ). 1 ≤ n) c.first-first.ensures.number c.first-first.ensures.least in
    let none = ap (λ (v : BookState). v.waiting) c.self.view_is ∙ c.requires.alone in
    let begun = ap (λ (v : BookState). v.begun) c.self.view_is ∙ c.requires.begun in
    subst (λ (v : BookState). Leaves (g.S.Store.disk c.args.store.now) (g.S.Store.disk c.attach_next.new.store) (IsKept v.chain.first v.forced (entries ++ nr ∷ pr ∷ []))) c.self.view_is
    (attach_moment book entries (g.S.Store.disk c.args.store.now) here least none begun nr pr there.ties (g.S.Store.disk c.attach_next.new.store)
    (c.attach_next.ensures.any_moment tells here.kept (switch_of book nr pr c.args.ending.now c.args.beginning.now there (omega (arith, below))) here.chain))

pub returns-in_err-receiver-clause-no_memory : goal.returns-in_err-receiver-clause-no_memory
returns-in_err-receiver-clause-no_memory g c = λ is tells entries holds.
    let inside = c.self.inside in
    let book : BookState = record { chain = inside.chain; first = inside.first; forced = inside.forced; waiting = inside.waiting; begun = inside.begun; buffered = drop 4 inside.framed.items; bytes = vec_capacity inside.framed - (vec_len inside.framed + 1) } in
    let here = subst (λ (v : BookState). Holds v entries (g.S.Store.disk c.args.store.now)) (sym c.self.view_is) holds in
    let least = subst (λ (n : ℕ). 1 ≤ n) c.first-first.ensures.number c.first-first.ensures.least in
    let p = err_from_is_err_and c.from_residual.result c.from_residual.ensures.1 in
    let same : c.in_err-receiver.field-0.0 ≡ NoMemory = cc (p.1, p.2, is) in
    let named : IsErrOf {T = ℕ} (Err c.in_err-receiver.field-0.0) NoMemory = ap (λ (e : ChainFault). Err e) same in
    attach_none book entries (g.S.Store.disk c.args.store.now) here least (g.S.Store.disk c.attach_next.new.store) c.attach_next.new.self c.attach_next.ensures.same_first c.in_err-receiver.ensures.same_number
    (c.in_err-receiver.ensures.no_memory named tells here.kept here.chain)

pub returns-clause-moments : goal.returns-clause-moments
returns-clause-moments g c = λ tells entries nr pr blocks holds.
    let inside = c.self.inside in
    let book : BookState = record { chain = inside.chain; first = inside.first; forced = inside.forced; waiting = inside.waiting; begun = inside.begun; buffered = drop 4 inside.framed.items; bytes = vec_capacity inside.framed - (vec_len inside.framed + 1) } in
    let here = subst (λ (v : BookState). Holds v entries (g.S.Store.disk c.args.store.now)) (sym c.self.view_is) holds in
    let there = subst (λ (v : BookState). AreTieBlocks v nr pr c.args.ending.now c.args.beginning.now) (sym c.self.view_is) blocks in
    let below = subst (λ (v : BookState). attached_of v.chain < MAX_RECEIVER) (sym c.self.view_is) c.requires.below in
    let least = subst (λ (n : ℕ). 1 ≤ n) c.first-first.ensures.number c.first-first.ensures.least in
    let none = ap (λ (v : BookState). v.waiting) c.self.view_is ∙ c.requires.alone in
    let begun = ap (λ (v : BookState). v.begun) c.self.view_is ∙ c.requires.begun in
    subst (λ (v : BookState). Leaves (g.S.Store.disk c.args.store.now) (g.S.Store.disk c.attach_next.new.store) (IsKept v.chain.first v.forced (entries ++ nr ∷ pr ∷ []))) c.self.view_is
    (attach_moment book entries (g.S.Store.disk c.args.store.now) here least none begun nr pr there.ties (g.S.Store.disk c.attach_next.new.store)
    (c.attach_next.ensures.any_moment tells here.kept (switch_of book nr pr c.args.ending.now c.args.beginning.now there (omega (arith, below))) here.chain))

pub returns-clause-switched : goal.returns-clause-switched
returns-clause-switched g c = λ tells entries nr pr blocks holds.
    let inside = c.self.inside in
    let book : BookState = record { chain = inside.chain; first = inside.first; forced = inside.forced; waiting = inside.waiting; begun = inside.begun; buffered = drop 4 inside.framed.items; bytes = vec_capacity inside.framed - (vec_len inside.framed + 1) } in
    let here = subst (λ (v : BookState). Holds v entries (g.S.Store.disk c.args.store.now)) (sym c.self.view_is) holds in
    let there = subst (λ (v : BookState). AreTieBlocks v nr pr c.args.ending.now c.args.beginning.now) (sym c.self.view_is) blocks in
    let below = subst (λ (v : BookState). attached_of v.chain < MAX_RECEIVER) (sym c.self.view_is) c.requires.below in
    let least = subst (λ (n : ℕ). 1 ≤ n) c.first-first.ensures.number c.first-first.ensures.least in
    let none = ap (λ (v : BookState). v.waiting) c.self.view_is ∙ c.requires.alone in
    let begun = ap (λ (v : BookState). v.begun) c.self.view_is ∙ c.requires.begun in
    let chain = c.attach_next.new.self in
    let next : attached_of chain ≡ attached_of inside.chain + 1 = omega (arith, c.in_ok-receiver.ensures.number, c.in_ok-receiver.ensures.attached) in
    attach_holds book entries (g.S.Store.disk c.args.store.now) here least none begun nr pr there.ties (g.S.Store.disk c.attach_next.new.store) chain c.attach_next.ensures.same_first next
    (c.in_ok-receiver.ensures.switched tells here.kept (switch_of book nr pr c.args.ending.now c.args.beginning.now there (omega (arith, below))) here.chain)

pub returns-in_err-receiver-clause-unswitched : goal.returns-in_err-receiver-clause-unswitched
returns-in_err-receiver-clause-unswitched g c = λ is tells entries holds.
    let inside = c.self.inside in
    let book : BookState = record { chain = inside.chain; first = inside.first; forced = inside.forced; waiting = inside.waiting; begun = inside.begun; buffered = drop 4 inside.framed.items; bytes = vec_capacity inside.framed - (vec_len inside.framed + 1) } in
    let here = subst (λ (v : BookState). Holds v entries (g.S.Store.disk c.args.store.now)) (sym c.self.view_is) holds in
    let none = ap (λ (v : BookState). v.waiting) c.self.view_is ∙ c.requires.alone in
    let p = err_from_is_err_and c.from_residual.result c.from_residual.ensures.1 in
    let same : c.in_err-receiver.field-0.0 ≡ NoMemory = cc (p.1, p.2, is) in
    let named : IsErrOf {T = ℕ} (Err c.in_err-receiver.field-0.0) NoMemory = ap (λ (e : ChainFault). Err e) same in
    subst (λ (v : BookState). Leaves (g.S.Store.disk c.args.store.now) (g.S.Store.disk c.attach_next.new.store) (SpellEntries v.chain.first entries)) c.self.view_is
    (attach_unswitched book entries (g.S.Store.disk c.args.store.now) here none (g.S.Store.disk c.attach_next.new.store)
    (c.in_err-receiver.ensures.unswitched named tells here.kept here.chain))
