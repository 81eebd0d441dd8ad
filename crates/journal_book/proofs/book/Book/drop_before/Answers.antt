use Rattle.std.proofs.Common.{◌≡◌, ◌+◌, ◌-◌, ◌<◌, ◌≤◌, drop, get_or, refl, sym, subst, ◌∙◌, vec_len, vec_capacity}
use Rattle.store_model.specs.Disk.{Leaves}
use Rattle.receiver_chain.specs.Chain.{attached_of, log_at}
use Rattle.journal_book.specs.Book.{BookState, Holds}
use Rattle.journal_book.specs.Kept.{IsKept}
use Rattle.journal_book.proofs.GivenUp.{drop_first, drop_holds, drop_moment, drop_within}
use Rattle.journal_book.proofs.book.Book.drop_before.Goals as goal

pub returns-in_err-dropped-clause-holds : goal.returns-in_err-dropped-clause-holds
returns-in_err-dropped-clause-holds g c = λ tells entries holds.
    let inside = c.self.inside in
    let book : BookState = record { chain = inside.chain; first = inside.first; forced = inside.forced; waiting = inside.waiting; begun = inside.begun; buffered = drop 4 inside.framed.items; bytes = vec_capacity inside.framed - (vec_len inside.framed + 1) } in
    let here = subst (λ (v : BookState). Holds v entries (g.S.Store.disk c.args.store.now)) (sym c.self.view_is) holds in
    let chain = c.drop_before-dropped.new.self in
    let after = g.S.Store.disk c.drop_before-dropped.new.store in
    let now = c.follow_chain.new.self in
    let left = c.drop_before-dropped.ensures.holds tells here.kept here.chain in
    let number = c.drop_before-dropped.ensures.same_number in
    let within = drop_within book entries (g.S.Store.disk c.args.store.now) here chain (get_or chain.earlier 0 chain.attached).first after number left refl in
    let head = c.follow_chain.ensures.first within.0 within.1 in
    subst (λ (v : BookState). Holds now (drop (now.first - v.first) entries) after) c.self.view_is
    (subst (λ (v : BookState). Holds v (drop (now.first - book.first) entries) after) (sym c.follow_chain.ensures.same)
    (drop_holds book entries (g.S.Store.disk c.args.store.now) here chain now.first now.forced after number left head c.follow_chain.ensures.sum))

pub returns-clause-holds : goal.returns-clause-holds
returns-clause-holds g c = λ tells entries holds.
    let inside = c.self.inside in
    let book : BookState = record { chain = inside.chain; first = inside.first; forced = inside.forced; waiting = inside.waiting; begun = inside.begun; buffered = drop 4 inside.framed.items; bytes = vec_capacity inside.framed - (vec_len inside.framed + 1) } in
    let here = subst (λ (v : BookState). Holds v entries (g.S.Store.disk c.args.store.now)) (sym c.self.view_is) holds in
    let chain = c.drop_before-dropped.new.self in
    let after = g.S.Store.disk c.drop_before-dropped.new.store in
    let now = c.follow_chain.new.self in
    let left = c.drop_before-dropped.ensures.holds tells here.kept here.chain in
    let number = c.drop_before-dropped.ensures.same_number in
    let within = drop_within book entries (g.S.Store.disk c.args.store.now) here chain (get_or chain.earlier 0 chain.attached).first after number left refl in
    let head = c.follow_chain.ensures.first within.0 within.1 in
    subst (λ (v : BookState). Holds now (drop (now.first - v.first) entries) after) c.self.view_is
    (subst (λ (v : BookState). Holds v (drop (now.first - book.first) entries) after) (sym c.follow_chain.ensures.same)
    (drop_holds book entries (g.S.Store.disk c.args.store.now) here chain now.first now.forced after number left head c.follow_chain.ensures.sum))

pub returns-clause-first : goal.returns-clause-first
returns-clause-first g c = λ tells entries holds.
    let inside = c.self.inside in
    let book : BookState = record { chain = inside.chain; first = inside.first; forced = inside.forced; waiting = inside.waiting; begun = inside.begun; buffered = drop 4 inside.framed.items; bytes = vec_capacity inside.framed - (vec_len inside.framed + 1) } in
    let here = subst (λ (v : BookState). Holds v entries (g.S.Store.disk c.args.store.now)) (sym c.self.view_is) holds in
    let chain = c.drop_before-dropped.new.self in
    let after = g.S.Store.disk c.drop_before-dropped.new.store in
    let left = c.drop_before-dropped.ensures.holds tells here.kept here.chain in
    let number = c.drop_before-dropped.ensures.same_number in
    let within = drop_within book entries (g.S.Store.disk c.args.store.now) here chain (get_or chain.earlier 0 chain.attached).first after number left refl in
    let head = c.follow_chain.ensures.first within.0 within.1 in
    let from = subst (λ (v : BookState). v.chain.first ≤ c.args.receiver) (sym c.self.view_is) c.requires.from in
    let below = subst (λ (v : BookState). c.args.receiver < attached_of v.chain) (sym c.self.view_is) c.requires.below in
    subst (λ (v : BookState). c.follow_chain.new.self.first ≡ (log_at v.chain (c.args.receiver + 1)).first) c.self.view_is
    (head ∙ drop_first book entries (g.S.Store.disk c.args.store.now) here c.args.receiver chain after from below c.in_ok-dropped.ensures.first left)

pub returns-in_err-dropped-clause-moments : goal.returns-in_err-dropped-clause-moments
returns-in_err-dropped-clause-moments g c = λ tells entries holds.
    let inside = c.self.inside in
    let book : BookState = record { chain = inside.chain; first = inside.first; forced = inside.forced; waiting = inside.waiting; begun = inside.begun; buffered = drop 4 inside.framed.items; bytes = vec_capacity inside.framed - (vec_len inside.framed + 1) } in
    let here = subst (λ (v : BookState). Holds v entries (g.S.Store.disk c.args.store.now)) (sym c.self.view_is) holds in
    let from = subst (λ (v : BookState). v.chain.first ≤ c.args.receiver) (sym c.self.view_is) c.requires.from in
    let below = subst (λ (v : BookState). c.args.receiver < attached_of v.chain) (sym c.self.view_is) c.requires.below in
    subst (λ (v : BookState). Leaves (g.S.Store.disk c.args.store.now) (g.S.Store.disk c.drop_before-dropped.new.store) (IsKept (c.args.receiver + 1) (v.forced - ((log_at v.chain (c.args.receiver + 1)).first - v.first)) (drop ((log_at v.chain (c.args.receiver + 1)).first - v.first) entries))) c.self.view_is
    (drop_moment book entries (g.S.Store.disk c.args.store.now) here c.args.receiver (g.S.Store.disk c.drop_before-dropped.new.store) from below (c.drop_before-dropped.ensures.kept_stay tells here.kept here.chain))

pub returns-clause-moments : goal.returns-clause-moments
returns-clause-moments g c = λ tells entries holds.
    let inside = c.self.inside in
    let book : BookState = record { chain = inside.chain; first = inside.first; forced = inside.forced; waiting = inside.waiting; begun = inside.begun; buffered = drop 4 inside.framed.items; bytes = vec_capacity inside.framed - (vec_len inside.framed + 1) } in
    let here = subst (λ (v : BookState). Holds v entries (g.S.Store.disk c.args.store.now)) (sym c.self.view_is) holds in
    let from = subst (λ (v : BookState). v.chain.first ≤ c.args.receiver) (sym c.self.view_is) c.requires.from in
    let below = subst (λ (v : BookState). c.args.receiver < attached_of v.chain) (sym c.self.view_is) c.requires.below in
    subst (λ (v : BookState). Leaves (g.S.Store.disk c.args.store.now) (g.S.Store.disk c.drop_before-dropped.new.store) (IsKept (c.args.receiver + 1) (v.forced - ((log_at v.chain (c.args.receiver + 1)).first - v.first)) (drop ((log_at v.chain (c.args.receiver + 1)).first - v.first) entries))) c.self.view_is
    (drop_moment book entries (g.S.Store.disk c.args.store.now) here c.args.receiver (g.S.Store.disk c.drop_before-dropped.new.store) from below (c.drop_before-dropped.ensures.kept_stay tells here.kept here.chain))

pub returns-in_err-dropped-clause-others : goal.returns-in_err-dropped-clause-others
returns-in_err-dropped-clause-others g c = λ area apart. c.drop_before-dropped.ensures.others area (λ number from upto. apart number (subst (λ (v : BookState). v.chain.first ≤ number) c.self.view_is from) upto)

pub returns-clause-others : goal.returns-clause-others
returns-clause-others g c = λ area apart. c.drop_before-dropped.ensures.others area (λ number from upto. apart number (subst (λ (v : BookState). v.chain.first ≤ number) c.self.view_is from) upto)
