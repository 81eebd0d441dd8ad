use Rattle.std.proofs.Common.{◌≡◌, ◌≢◌, ◌∙◌, ℕ, ◌≤◌, List, [], ◌∷◌, ◌++◌, length, refl, ap, sym, subst, arith}
use Rattle.gated_log.specs.Blocks.{frame}
use Rattle.gated_log.proofs.Numbers.{length-frame}
use Rattle.checkpoint.specs.declared.root.Root.{Root}
use Rattle.checkpoint.specs.declared.root.TheConstants.{LAST_STATE_AREA}
use Rattle.checkpoint.specs.declared.layout.TheConstants.{ROOT_AREA}
use Rattle.checkpoint.specs.States.{spelled}
use Rattle.checkpoint.specs.Holding.{Holds, IsKept, other_area, root_of_state}
use Rattle.checkpoint.proofs.Formats.{stays_here}
use Rattle.checkpoint.proofs.Kept.{holds_apart, holds_same, is_held_apart, is_held_same, more_same, receivers_stays}
use Rattle.checkpoint.proofs.Savings.{beside_is, moment_is, new_kept, none_moment, other_apart, other_below, other_some, put_kept, putting_apart, putting_moment, saved_holds, saving_apart, saving_moment}
use Rattle.checkpoint.proofs.roots.Roots.write.Goals as goal

pub returns-in_err-framed-clause-moments : goal.returns-in_err-framed-clause-moments
returns-in_err-framed-clause-moments g c = λ tells earlier old holds kept.
    none_moment c.args.self.now earlier old (g.S.Store.disk c.args.store.now) holds kept (root_of_state c.args.self.now.last c.args.state.now c.args.sequence c.args.next_member) c.args.state.now

pub returns-in_err-framed-clause-apart : goal.returns-in_err-framed-clause-apart
returns-in_err-framed-clause-apart g c = receivers_stays _ _ (stays_here (g.S.Store.disk c.args.store.now))

pub returns-in_err-framed-clause-no_memory : goal.returns-in_err-framed-clause-no_memory
returns-in_err-framed-clause-no_memory g c = λ is. (stays_here (g.S.Store.disk c.args.store.now), more_same c.args.self.now)

pub returns-in_err-log-clause-moments : goal.returns-in_err-log-clause-moments
returns-in_err-log-clause-moments g c = λ tells earlier old holds kept.
    none_moment c.args.self.now earlier old (g.S.Store.disk c.args.store.now) holds kept (root_of_state c.args.self.now.last c.args.state.now c.args.sequence c.args.next_member) c.args.state.now

pub returns-in_err-log-clause-apart : goal.returns-in_err-log-clause-apart
returns-in_err-log-clause-apart g c = receivers_stays _ _ (stays_here (g.S.Store.disk c.args.store.now))

pub returns-in_err-log-clause-no_memory : goal.returns-in_err-log-clause-no_memory
returns-in_err-log-clause-no_memory g c = λ is. (stays_here (g.S.Store.disk c.args.store.now), more_same c.args.self.now)

pub returns-in_err-reserve-clause-moments : goal.returns-in_err-reserve-clause-moments
returns-in_err-reserve-clause-moments g c = λ tells earlier old holds kept.
    none_moment c.args.self.now earlier old (g.S.Store.disk c.args.store.now) holds kept (root_of_state c.args.self.now.last c.args.state.now c.args.sequence c.args.next_member) c.args.state.now

pub returns-in_err-reserve-clause-apart : goal.returns-in_err-reserve-clause-apart
returns-in_err-reserve-clause-apart g c = receivers_stays _ _ (stays_here (g.S.Store.disk c.args.store.now))

pub returns-in_err-reserve-clause-no_memory : goal.returns-in_err-reserve-clause-no_memory
returns-in_err-reserve-clause-no_memory g c = λ is. (stays_here (g.S.Store.disk c.args.store.now), c.reserve.ensures.same)

-- ---- what the root is

pub save-requires-clause-below : goal.save-requires-clause-below
save-requires-clause-below g c = omega (arith, ap (λ (r : Root). r.area) c.root_beside-root.ensures.root, other_below c.last-last.result.area)

pub save-requires-clause-framed : goal.save-requires-clause-framed
save-requires-clause-framed g c = (spelled c.args.state.now, c.as_slice-bytes.ensures.value ∙ c.in_ok-framed.ensures.framed)

pub block_size-requires : goal.block_size-requires
block_size-requires g c = (spelled c.args.state.now, c.as_slice-bytes.ensures.value ∙ c.in_ok-framed.ensures.framed)

pub save-requires-clause-small : goal.save-requires-clause-small
save-requires-clause-small g c = omega (arith, c.requires.small, ap (λ (l : List ℕ). length l) (c.as_slice-bytes.ensures.value ∙ c.in_ok-framed.ensures.framed), length-frame (spelled c.args.state.now))

-- ---- the state is written

pub returns-in_err-save-clause-moments : goal.returns-in_err-save-clause-moments
returns-in_err-save-clause-moments g c = λ tells earlier old holds kept.
    let more = c.reserve.ensures.same in
    let root = c.root_beside-root.result in
    let framed : c.as_slice-bytes.result.now ≡ frame (spelled c.args.state.now) = c.as_slice-bytes.ensures.value ∙ c.in_ok-framed.ensures.framed in
    let is = beside_is root c.last-last.result c.args.self.now.last c.args.state.now c.block_size.result c.args.sequence c.args.next_member c.root_beside-root.ensures.root c.last-last.ensures.last (c.block_size.ensures (spelled c.args.state.now) framed) in
    let area : root.area ≡ other_area c.reserve.new.self.last.area = ap (λ (r : Root). r.area) is ∙ ap (λ (r : Root). other_area r.area) (sym more.last) in
    moment_is c.reserve.new.self.last c.args.self.now.last root (root_of_state c.args.self.now.last c.args.state.now c.args.sequence c.args.next_member) earlier old c.args.state.now (g.S.Store.disk c.args.store.now) (g.S.Store.disk c.save.new.store) more.last is
    (saving_moment c.reserve.new.self earlier old (g.S.Store.disk c.args.store.now) (holds_same c.args.self.now c.reserve.new.self earlier (g.S.Store.disk c.args.store.now) more holds)
    (subst (λ (r : Root). IsKept r old (g.S.Store.disk c.args.store.now)) (sym more.last) kept) root c.args.state.now (λ none. other_some c.reserve.new.self.last.area (sym area ∙ none)) (λ same. other_apart c.reserve.new.self.last.area (same ∙ area)) (g.S.Store.disk c.save.new.store)
    c.save.ensures.apart)

pub returns-in_err-save-clause-apart : goal.returns-in_err-save-clause-apart
returns-in_err-save-clause-apart g c =
    let below : c.root_beside-root.result.area ≤ LAST_STATE_AREA = omega (arith, ap (λ (r : Root). r.area) c.root_beside-root.ensures.root, other_below c.last-last.result.area) in
    saving_apart c.root_beside-root.result.area _ _ below c.save.ensures.apart

-- ---- and its root is put

pub put_root-requires-clause-held : goal.put_root-requires-clause-held
put_root-requires-clause-held g c = λ tells.
    let area : c.root_beside-root.result.area ≡ other_area c.last-last.result.area = ap (λ (r : Root). r.area) c.root_beside-root.ensures.root in
    is_held_apart c.reserve.new.self c.root_beside-root.result.area _ _ _ c.save.ensures.apart (λ none. other_some c.last-last.result.area (sym area ∙ none))
    (is_held_same c.args.self.now c.reserve.new.self (g.S.Store.disk c.args.store.now) c.reserve.ensures.same (c.requires.held tells))

pub returns-in_err-put_root-clause-moments : goal.returns-in_err-put_root-clause-moments
returns-in_err-put_root-clause-moments g c = λ tells earlier old holds kept.
    let more = c.reserve.ensures.same in
    let root = c.root_beside-root.result in
    let framed : c.as_slice-bytes.result.now ≡ frame (spelled c.args.state.now) = c.as_slice-bytes.ensures.value ∙ c.in_ok-framed.ensures.framed in
    let size = c.block_size.ensures (spelled c.args.state.now) framed in
    let is = beside_is root c.last-last.result c.args.self.now.last c.args.state.now c.block_size.result c.args.sequence c.args.next_member c.root_beside-root.ensures.root c.last-last.ensures.last size in
    let area : root.area ≡ other_area c.reserve.new.self.last.area = ap (λ (r : Root). r.area) is ∙ ap (λ (r : Root). other_area r.area) (sym more.last) in
    let here = holds_same c.args.self.now c.reserve.new.self earlier (g.S.Store.disk c.args.store.now) more holds in
    let there = subst (λ (r : Root). IsKept r old (g.S.Store.disk c.args.store.now)) (sym more.last) kept in
    let some : root.area ≢ ROOT_AREA = λ none. other_some c.reserve.new.self.last.area (sym area ∙ none) in
    let apart : c.reserve.new.self.last.area ≢ root.area = λ same. other_apart c.reserve.new.self.last.area (same ∙ area) in
    let new : IsKept root c.args.state.now (g.S.Store.disk c.save.new.store) =
    new_kept root (spelled c.args.state.now) c.args.state.now (g.S.Store.disk c.save.new.store) some (c.in_ok-save.ensures.spells tells (spelled c.args.state.now) framed) (c.in_ok-save.ensures.durable tells) refl
    (ap (λ (r : Root). r.length) is) c.in_ok-framed.ensures.each in
    moment_is c.reserve.new.self.last c.args.self.now.last root (root_of_state c.args.self.now.last c.args.state.now c.args.sequence c.args.next_member) earlier old c.args.state.now (g.S.Store.disk c.args.store.now) (g.S.Store.disk c.put_root.new.store) more.last is
    (putting_moment c.reserve.new.self earlier old (g.S.Store.disk c.args.store.now) here there root c.args.state.now some apart (g.S.Store.disk c.save.new.store) c.save.ensures.apart (g.S.Store.disk c.put_root.new.store) new
    (c.put_root.ensures.any_moment tells earlier (saved_holds c.reserve.new.self earlier old (g.S.Store.disk c.args.store.now) here there root c.args.state.now some apart (g.S.Store.disk c.save.new.store) c.save.ensures.apart)))

pub returns-in_err-put_root-clause-apart : goal.returns-in_err-put_root-clause-apart
returns-in_err-put_root-clause-apart g c =
    let below : c.root_beside-root.result.area ≤ LAST_STATE_AREA = omega (arith, ap (λ (r : Root). r.area) c.root_beside-root.ensures.root, other_below c.last-last.result.area) in
    putting_apart c.root_beside-root.result.area _ _ _ below c.save.ensures.apart c.put_root.ensures.apart

pub returns-clause-moments : goal.returns-clause-moments
returns-clause-moments g c = λ tells earlier old holds kept.
    let more = c.reserve.ensures.same in
    let root = c.root_beside-root.result in
    let framed : c.as_slice-bytes.result.now ≡ frame (spelled c.args.state.now) = c.as_slice-bytes.ensures.value ∙ c.in_ok-framed.ensures.framed in
    let size = c.block_size.ensures (spelled c.args.state.now) framed in
    let is = beside_is root c.last-last.result c.args.self.now.last c.args.state.now c.block_size.result c.args.sequence c.args.next_member c.root_beside-root.ensures.root c.last-last.ensures.last size in
    let area : root.area ≡ other_area c.reserve.new.self.last.area = ap (λ (r : Root). r.area) is ∙ ap (λ (r : Root). other_area r.area) (sym more.last) in
    let here = holds_same c.args.self.now c.reserve.new.self earlier (g.S.Store.disk c.args.store.now) more holds in
    let there = subst (λ (r : Root). IsKept r old (g.S.Store.disk c.args.store.now)) (sym more.last) kept in
    let some : root.area ≢ ROOT_AREA = λ none. other_some c.reserve.new.self.last.area (sym area ∙ none) in
    let apart : c.reserve.new.self.last.area ≢ root.area = λ same. other_apart c.reserve.new.self.last.area (same ∙ area) in
    let new : IsKept root c.args.state.now (g.S.Store.disk c.save.new.store) =
    new_kept root (spelled c.args.state.now) c.args.state.now (g.S.Store.disk c.save.new.store) some (c.in_ok-save.ensures.spells tells (spelled c.args.state.now) framed) (c.in_ok-save.ensures.durable tells) refl
    (ap (λ (r : Root). r.length) is) c.in_ok-framed.ensures.each in
    moment_is c.reserve.new.self.last c.args.self.now.last root (root_of_state c.args.self.now.last c.args.state.now c.args.sequence c.args.next_member) earlier old c.args.state.now (g.S.Store.disk c.args.store.now) (g.S.Store.disk c.put_root.new.store) more.last is
    (putting_moment c.reserve.new.self earlier old (g.S.Store.disk c.args.store.now) here there root c.args.state.now some apart (g.S.Store.disk c.save.new.store) c.save.ensures.apart (g.S.Store.disk c.put_root.new.store) new
    (c.put_root.ensures.any_moment tells earlier (saved_holds c.reserve.new.self earlier old (g.S.Store.disk c.args.store.now) here there root c.args.state.now some apart (g.S.Store.disk c.save.new.store) c.save.ensures.apart)))

pub returns-clause-apart : goal.returns-clause-apart
returns-clause-apart g c =
    let below : c.root_beside-root.result.area ≤ LAST_STATE_AREA = omega (arith, ap (λ (r : Root). r.area) c.root_beside-root.ensures.root, other_below c.last-last.result.area) in
    putting_apart c.root_beside-root.result.area _ _ _ below c.save.ensures.apart c.put_root.ensures.apart

pub returns-clause-last : goal.returns-clause-last
returns-clause-last g c =
    let framed : c.as_slice-bytes.result.now ≡ frame (spelled c.args.state.now) = c.as_slice-bytes.ensures.value ∙ c.in_ok-framed.ensures.framed in
    c.in_ok-put_root.ensures.last
    ∙ beside_is c.root_beside-root.result c.last-last.result c.args.self.now.last c.args.state.now c.block_size.result c.args.sequence c.args.next_member c.root_beside-root.ensures.root c.last-last.ensures.last (c.block_size.ensures (spelled c.args.state.now) framed)

pub returns-clause-written : goal.returns-clause-written
returns-clause-written g c = λ tells earlier holds.
    let more = c.reserve.ensures.same in
    let area : c.root_beside-root.result.area ≡ other_area c.last-last.result.area = ap (λ (r : Root). r.area) c.root_beside-root.ensures.root in
    let here = holds_same c.args.self.now c.reserve.new.self earlier (g.S.Store.disk c.args.store.now) more holds in
    subst (λ (r : Root). Holds c.put_root.new.self (earlier ++ r ∷ []) (g.S.Store.disk c.put_root.new.store)) more.last
    (c.in_ok-put_root.ensures.put tells earlier (holds_apart c.reserve.new.self earlier c.root_beside-root.result.area _ _ _ c.save.ensures.apart (λ none. other_some c.last-last.result.area (sym area ∙ none)) here))

pub returns-clause-saved : goal.returns-clause-saved
returns-clause-saved g c = λ tells.
    let root = c.root_beside-root.result in
    let framed : c.as_slice-bytes.result.now ≡ frame (spelled c.args.state.now) = c.as_slice-bytes.ensures.value ∙ c.in_ok-framed.ensures.framed in
    let size = c.block_size.ensures (spelled c.args.state.now) framed in
    let area : root.area ≡ other_area c.last-last.result.area = ap (λ (r : Root). r.area) c.root_beside-root.ensures.root in
    let some : root.area ≢ ROOT_AREA = λ none. other_some c.last-last.result.area (sym area ∙ none) in
    subst (λ (r : Root). IsKept r c.args.state.now (g.S.Store.disk c.put_root.new.store)) (sym c.in_ok-put_root.ensures.last)
    (put_kept root c.args.state.now (g.S.Store.disk c.save.new.store) (g.S.Store.disk c.put_root.new.store) c.put_root.ensures.apart
    (new_kept root (spelled c.args.state.now) c.args.state.now (g.S.Store.disk c.save.new.store) some (c.in_ok-save.ensures.spells tells (spelled c.args.state.now) framed) (c.in_ok-save.ensures.durable tells) refl
    (ap (λ (r : Root). r.length) c.root_beside-root.ensures.root ∙ size) c.in_ok-framed.ensures.each))
