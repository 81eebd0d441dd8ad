use Rattle.std.proofs.Common.{List, ◌≡◌, ◌≢◌, ℕ, ◌+◌, [], ◌∷◌, ◌++◌, length, ap, sym, subst, ◌∙◌, arith, refl}
use Rattle.std.proofs.Math.Logic.{∥∥₁_map}
use Rattle.store_model.specs.Disk.{Leaves}
use Rattle.gated_log.specs.Log.{LogState, Anything}
use Rattle.gated_log.proofs.Kept.{settled_apart}
use Rattle.receiver_chain.specs.Links.{IsLink}
use Rattle.receiver_chain.specs.Receivers.{AreChained, area_of, deposited, switched}
use Rattle.receiver_chain.specs.Chain.{ChainState, Holds, IsSwitching, attached_of, firsts, lengths_in, logs_of}
use Rattle.receiver_chain.proofs.LinkLemmas.{start_no_link}
use Rattle.receiver_chain.proofs.Deposits.{deposit_holds}
use Rattle.receiver_chain.proofs.Switches.{link_length, start_length, reserved_holds, next_moment, none_chained, none_moment, made_moment, made_holds, tied_moment, tied_holds, begun_moment, switch_firsts, switch_lengths}
use Rattle.receiver_chain.proofs.Others.{roots_does, roots_here, roots_then}
use Rattle.receiver_chain.proofs.chain.Chain.attach_next.Goals as goal

pub sequence_of-requires : goal.sequence_of-requires
sequence_of-requires g c = omega (arith, ap length c.requires.blocks.framed_beginning, start_length _ _ _ c.requires.blocks.start)

pub append-requires-clause-small : goal.append-requires-clause-small
append-requires-clause-small g c = omega (arith, ap length c.requires.blocks.framed_ending, link_length _ _ _ c.requires.blocks.link)

pub append-requires-2-clause-small : goal.append-requires-2-clause-small
append-requires-2-clause-small g c = omega (arith, ap length c.requires.blocks.framed_beginning, start_length _ _ _ c.requires.blocks.start)

pub returns-in_default-clause-any_moment : goal.returns-in_default-clause-any_moment
returns-in_default-clause-any_moment g c = λ tells kept blocks holds. none_moment c.args.self.now.first c.args.self.now.room c.args.self.now.earlier c.args.self.now.attached kept (g.S.Store.disk c.args.store.now) holds blocks.before blocks.ending blocks.beginning

pub returns-in_err-reserve-clause-any_moment : goal.returns-in_err-reserve-clause-any_moment
returns-in_err-reserve-clause-any_moment g c = λ tells kept blocks holds. none_moment c.args.self.now.first c.args.self.now.room c.args.self.now.earlier c.args.self.now.attached kept (g.S.Store.disk c.args.store.now) holds blocks.before blocks.ending blocks.beginning

pub returns-in_err-reserve-2-clause-any_moment : goal.returns-in_err-reserve-2-clause-any_moment
returns-in_err-reserve-2-clause-any_moment g c = λ tells kept blocks holds. none_moment c.args.self.now.first c.args.self.now.room c.args.self.now.earlier c.args.self.now.attached kept (g.S.Store.disk c.args.store.now) holds blocks.before blocks.ending blocks.beginning

pub returns-in_err-reserve-2-clause-no_memory : goal.returns-in_err-reserve-2-clause-no_memory
returns-in_err-reserve-2-clause-no_memory g c = λ is tells kept holds.
    let reserved = reserved_holds c.self.inside.first c.self.inside.room c.self.inside.earlier.items c.reserve.new.self.items c.self.inside.attached c.reserve-2.new.self kept
    (g.S.Store.disk c.args.store.now) (subst (λ (v : ChainState). Holds v kept (g.S.Store.disk c.args.store.now)) (sym c.self.view_is) holds)
    c.reserve.ensures.items c.reserve-2.ensures.same_area c.reserve-2.ensures.same_first c.reserve-2.ensures.same_version c.reserve-2.ensures.same_lengths in
    reserved

pub returns-in_err-next-clause-any_moment : goal.returns-in_err-next-clause-any_moment
returns-in_err-next-clause-any_moment g c = λ tells kept blocks holds.
    let reserved = reserved_holds c.self.inside.first c.self.inside.room c.self.inside.earlier.items c.reserve.new.self.items c.self.inside.attached c.reserve-2.new.self kept
    (g.S.Store.disk c.args.store.now) (subst (λ (v : ChainState). Holds v kept (g.S.Store.disk c.args.store.now)) (sym c.self.view_is) holds)
    c.reserve.ensures.items c.reserve-2.ensures.same_area c.reserve-2.ensures.same_first c.reserve-2.ensures.same_version c.reserve-2.ensures.same_lengths in
    let number : attached_of c.args.self.now ≡ c.self.inside.first + length c.reserve.new.self.items = omega
    (arith, ap (λ (v : ChainState). attached_of v) c.self.view_is, ap length c.reserve.ensures.items) in
    let is : area_of (c.attached-receiver.result + 1) ≡ area_of (c.self.inside.first + length c.reserve.new.self.items + 1) = omega (arith, c.attached-receiver.ensures.number, number) in
    subst (λ (v : ChainState). Leaves (g.S.Store.disk c.args.store.now) (g.S.Store.disk c.make_next.new.store) (IsSwitching v.first kept blocks.before blocks.ending blocks.beginning)) c.self.view_is
    (made_moment c.self.inside.first c.self.inside.room c.reserve.new.self.items c.reserve-2.new.self kept (g.S.Store.disk c.args.store.now) reserved blocks.before blocks.ending
    blocks.beginning (area_of (c.attached-receiver.result + 1)) is (g.S.Store.disk c.make_next.new.store) c.make_next.ensures.any_moment)

pub returns-in_err-next-clause-no_memory : goal.returns-in_err-next-clause-no_memory
returns-in_err-next-clause-no_memory g c = λ told tells kept holds.
    let reserved = reserved_holds c.self.inside.first c.self.inside.room c.self.inside.earlier.items c.reserve.new.self.items c.self.inside.attached c.reserve-2.new.self kept
    (g.S.Store.disk c.args.store.now) (subst (λ (v : ChainState). Holds v kept (g.S.Store.disk c.args.store.now)) (sym c.self.view_is) holds)
    c.reserve.ensures.items c.reserve-2.ensures.same_area c.reserve-2.ensures.same_first c.reserve-2.ensures.same_version c.reserve-2.ensures.same_lengths in
    let number : attached_of c.args.self.now ≡ c.self.inside.first + length c.reserve.new.self.items = omega
    (arith, ap (λ (v : ChainState). attached_of v) c.self.view_is, ap length c.reserve.ensures.items) in
    let is : area_of (c.attached-receiver.result + 1) ≡ area_of (c.self.inside.first + length c.reserve.new.self.items + 1) = omega (arith, c.attached-receiver.ensures.number, number) in
    made_holds c.self.inside.first c.self.inside.room c.reserve.new.self.items c.reserve-2.new.self kept (g.S.Store.disk c.args.store.now) reserved 0 [] []
    (area_of (c.attached-receiver.result + 1)) is (g.S.Store.disk c.make_next.new.store) c.make_next.ensures.any_moment

pub append-requires-clause-settled : goal.append-requires-clause-settled
append-requires-clause-settled g c = λ tells.
    ∥∥₁_map (c.requires.held tells) (λ has.
    let kept = has.0 in
    let holds = has.1 in
    let reserved = reserved_holds c.self.inside.first c.self.inside.room c.self.inside.earlier.items c.reserve.new.self.items c.self.inside.attached c.reserve-2.new.self kept
    (g.S.Store.disk c.args.store.now) (subst (λ (v : ChainState). Holds v kept (g.S.Store.disk c.args.store.now)) (sym c.self.view_is) holds)
    c.reserve.ensures.items c.reserve-2.ensures.same_area c.reserve-2.ensures.same_first c.reserve-2.ensures.same_version c.reserve-2.ensures.same_lengths in
    let number : attached_of c.args.self.now ≡ c.self.inside.first + length c.reserve.new.self.items = omega
    (arith, ap (λ (v : ChainState). attached_of v) c.self.view_is, ap length c.reserve.ensures.items) in
    let is : area_of (c.attached-receiver.result + 1) ≡ area_of (c.self.inside.first + length c.reserve.new.self.items + 1) = omega (arith, c.attached-receiver.ensures.number, number) in (
      kept.attached.blocks,
      (made_holds c.self.inside.first c.self.inside.room c.reserve.new.self.items c.reserve-2.new.self kept (g.S.Store.disk c.args.store.now) reserved 0 [] []
          (area_of (c.attached-receiver.result + 1)) is (g.S.Store.disk c.make_next.new.store) c.make_next.ensures.any_moment).leads.log_of.settled,
    ))

pub returns-in_err-append-clause-any_moment : goal.returns-in_err-append-clause-any_moment
returns-in_err-append-clause-any_moment g c = λ tells kept blocks holds.
    let reserved = reserved_holds c.self.inside.first c.self.inside.room c.self.inside.earlier.items c.reserve.new.self.items c.self.inside.attached c.reserve-2.new.self kept
    (g.S.Store.disk c.args.store.now) (subst (λ (v : ChainState). Holds v kept (g.S.Store.disk c.args.store.now)) (sym c.self.view_is) holds)
    c.reserve.ensures.items c.reserve-2.ensures.same_area c.reserve-2.ensures.same_first c.reserve-2.ensures.same_version c.reserve-2.ensures.same_lengths in
    let number : attached_of c.args.self.now ≡ c.self.inside.first + length c.reserve.new.self.items = omega
    (arith, ap (λ (v : ChainState). attached_of v) c.self.view_is, ap length c.reserve.ensures.items) in
    let is : area_of (c.attached-receiver.result + 1) ≡ area_of (c.self.inside.first + length c.reserve.new.self.items + 1) = omega (arith, c.attached-receiver.ensures.number, number) in
    let link = subst (λ (k : ℕ). IsLink (k + 1) blocks.before blocks.ending) number blocks.link in
    let here = c.in_ok-next.ensures.area ∙ is in
    let begins = c.in_ok-next.ensures.first ∙ c.sequence_of.ensures (attached_of c.args.self.now) c.args.nr.now blocks in
    let made = made_holds c.self.inside.first c.self.inside.room c.reserve.new.self.items c.reserve-2.new.self kept (g.S.Store.disk c.args.store.now) reserved blocks.before blocks.ending
    blocks.beginning (area_of (c.attached-receiver.result + 1)) is (g.S.Store.disk c.make_next.new.store) c.make_next.ensures.any_moment in
    let second = c.append.ensures.any_moment tells kept.attached.blocks blocks.ending blocks.framed_ending made.leads.log_of.settled in
    subst (λ (v : ChainState). Leaves (g.S.Store.disk c.args.store.now) (g.S.Store.disk c.append.new.store) (IsSwitching v.first kept blocks.before blocks.ending blocks.beginning)) c.self.view_is
    (tied_moment c.self.inside.first c.self.inside.room c.reserve.new.self.items c.reserve-2.new.self kept (g.S.Store.disk c.args.store.now) reserved blocks.before blocks.ending
    blocks.beginning (area_of (c.attached-receiver.result + 1)) is (g.S.Store.disk c.make_next.new.store) c.make_next.ensures.any_moment link c.in_ok-next.next here begins
    c.in_ok-next.ensures.version (c.in_ok-next.ensures.settled tells) (g.S.Store.disk c.append.new.store) second)

pub append-requires-2-clause-settled : goal.append-requires-2-clause-settled
append-requires-2-clause-settled g c = λ tells.
    let number : attached_of c.args.self.now ≡ c.self.inside.first + length c.self.inside.earlier.items = omega (arith, ap (λ (v : ChainState). attached_of v) c.self.view_is) in
    let other : c.in_ok-next.next.area ≢ c.reserve-2.new.self.area = λ same. omega (arith, same, c.in_ok-next.ensures.area, c.reserve-2.ensures.same_area, c.self.invariant.2, number, c.attached-receiver.ensures.number) in
    ∣ (
      [],
      settled_apart c.in_ok-next.next [] c.reserve-2.new.self.area Anything (g.S.Store.disk c.make_next.new.store) (g.S.Store.disk c.append.new.store) c.append.ensures.apart other
          (c.in_ok-next.ensures.settled tells),
    ) ∣₁

pub returns-in_err-append-2-clause-any_moment : goal.returns-in_err-append-2-clause-any_moment
returns-in_err-append-2-clause-any_moment g c = λ tells kept blocks holds.
    let reserved = reserved_holds c.self.inside.first c.self.inside.room c.self.inside.earlier.items c.reserve.new.self.items c.self.inside.attached c.reserve-2.new.self kept
    (g.S.Store.disk c.args.store.now) (subst (λ (v : ChainState). Holds v kept (g.S.Store.disk c.args.store.now)) (sym c.self.view_is) holds)
    c.reserve.ensures.items c.reserve-2.ensures.same_area c.reserve-2.ensures.same_first c.reserve-2.ensures.same_version c.reserve-2.ensures.same_lengths in
    let number : attached_of c.args.self.now ≡ c.self.inside.first + length c.reserve.new.self.items = omega
    (arith, ap (λ (v : ChainState). attached_of v) c.self.view_is, ap length c.reserve.ensures.items) in
    let is : area_of (c.attached-receiver.result + 1) ≡ area_of (c.self.inside.first + length c.reserve.new.self.items + 1) = omega (arith, c.attached-receiver.ensures.number, number) in
    let link = subst (λ (k : ℕ). IsLink (k + 1) blocks.before blocks.ending) number blocks.link in
    let here = c.in_ok-next.ensures.area ∙ is in
    let begins = c.in_ok-next.ensures.first ∙ c.sequence_of.ensures (attached_of c.args.self.now) c.args.nr.now blocks in
    let made = made_holds c.self.inside.first c.self.inside.room c.reserve.new.self.items c.reserve-2.new.self kept (g.S.Store.disk c.args.store.now) reserved blocks.before blocks.ending
    blocks.beginning (area_of (c.attached-receiver.result + 1)) is (g.S.Store.disk c.make_next.new.store) c.make_next.ensures.any_moment in
    let second = c.append.ensures.any_moment tells kept.attached.blocks blocks.ending blocks.framed_ending made.leads.log_of.settled in
    let pushed = (c.reserve.new.self.items ++ c.append.new.self ∷ []) in
    let whole = c.in_ok-append.ensures.appended tells kept.attached.blocks blocks.ending blocks.framed_ending made.leads.log_of.settled in
    let ended = tied_holds c.self.inside.first c.self.inside.room c.reserve.new.self.items c.reserve-2.new.self kept (g.S.Store.disk c.args.store.now) reserved blocks.before blocks.ending
    blocks.beginning (area_of (c.attached-receiver.result + 1)) is (g.S.Store.disk c.make_next.new.store) c.make_next.ensures.any_moment link c.in_ok-next.next here begins
    c.in_ok-next.ensures.version (c.in_ok-next.ensures.settled tells) (g.S.Store.disk c.append.new.store) pushed c.append.new.self c.self.inside.room c.append.ensures.apart
    c.append.ensures.same_area c.append.ensures.same_first c.append.ensures.same_version whole refl in
    let none = start_no_link _ _ (c.self.inside.first + length pushed + 1) blocks.beginning blocks.start in
    subst (λ (v : ChainState). Leaves (g.S.Store.disk c.args.store.now) (g.S.Store.disk c.append-2.new.store) (IsSwitching v.first kept blocks.before blocks.ending blocks.beginning)) c.self.view_is
    (begun_moment c.self.inside.first c.self.inside.room c.reserve.new.self.items c.reserve-2.new.self kept (g.S.Store.disk c.args.store.now) reserved blocks.before blocks.ending
    blocks.beginning (area_of (c.attached-receiver.result + 1)) is (g.S.Store.disk c.make_next.new.store) c.make_next.ensures.any_moment link c.in_ok-next.next here begins
    c.in_ok-next.ensures.version (c.in_ok-next.ensures.settled tells) (g.S.Store.disk c.append.new.store) pushed c.self.inside.room (g.S.Store.disk c.append-2.new.store) ended second none
    (c.append-2.ensures.any_moment tells [] blocks.beginning blocks.framed_beginning ended.leads.log_of.settled))

pub returns-clause-any_moment : goal.returns-clause-any_moment
returns-clause-any_moment g c = λ tells kept blocks holds.
    let reserved = reserved_holds c.self.inside.first c.self.inside.room c.self.inside.earlier.items c.reserve.new.self.items c.self.inside.attached c.reserve-2.new.self kept
    (g.S.Store.disk c.args.store.now) (subst (λ (v : ChainState). Holds v kept (g.S.Store.disk c.args.store.now)) (sym c.self.view_is) holds)
    c.reserve.ensures.items c.reserve-2.ensures.same_area c.reserve-2.ensures.same_first c.reserve-2.ensures.same_version c.reserve-2.ensures.same_lengths in
    let number : attached_of c.args.self.now ≡ c.self.inside.first + length c.reserve.new.self.items = omega
    (arith, ap (λ (v : ChainState). attached_of v) c.self.view_is, ap length c.reserve.ensures.items) in
    let is : area_of (c.attached-receiver.result + 1) ≡ area_of (c.self.inside.first + length c.reserve.new.self.items + 1) = omega (arith, c.attached-receiver.ensures.number, number) in
    let link = subst (λ (k : ℕ). IsLink (k + 1) blocks.before blocks.ending) number blocks.link in
    let here = c.in_ok-next.ensures.area ∙ is in
    let begins = c.in_ok-next.ensures.first ∙ c.sequence_of.ensures (attached_of c.args.self.now) c.args.nr.now blocks in
    let made = made_holds c.self.inside.first c.self.inside.room c.reserve.new.self.items c.reserve-2.new.self kept (g.S.Store.disk c.args.store.now) reserved blocks.before blocks.ending
    blocks.beginning (area_of (c.attached-receiver.result + 1)) is (g.S.Store.disk c.make_next.new.store) c.make_next.ensures.any_moment in
    let second = c.append.ensures.any_moment tells kept.attached.blocks blocks.ending blocks.framed_ending made.leads.log_of.settled in
    let pushed = (c.reserve.new.self.items ++ c.append.new.self ∷ []) in
    let whole = c.in_ok-append.ensures.appended tells kept.attached.blocks blocks.ending blocks.framed_ending made.leads.log_of.settled in
    let ended = tied_holds c.self.inside.first c.self.inside.room c.reserve.new.self.items c.reserve-2.new.self kept (g.S.Store.disk c.args.store.now) reserved blocks.before blocks.ending
    blocks.beginning (area_of (c.attached-receiver.result + 1)) is (g.S.Store.disk c.make_next.new.store) c.make_next.ensures.any_moment link c.in_ok-next.next here begins
    c.in_ok-next.ensures.version (c.in_ok-next.ensures.settled tells) (g.S.Store.disk c.append.new.store) pushed c.append.new.self c.self.inside.room c.append.ensures.apart
    c.append.ensures.same_area c.append.ensures.same_first c.append.ensures.same_version whole refl in
    let none = start_no_link _ _ (c.self.inside.first + length pushed + 1) blocks.beginning blocks.start in
    subst (λ (v : ChainState). Leaves (g.S.Store.disk c.args.store.now) (g.S.Store.disk c.append-2.new.store) (IsSwitching v.first kept blocks.before blocks.ending blocks.beginning)) c.self.view_is
    (begun_moment c.self.inside.first c.self.inside.room c.reserve.new.self.items c.reserve-2.new.self kept (g.S.Store.disk c.args.store.now) reserved blocks.before blocks.ending
    blocks.beginning (area_of (c.attached-receiver.result + 1)) is (g.S.Store.disk c.make_next.new.store) c.make_next.ensures.any_moment link c.in_ok-next.next here begins
    c.in_ok-next.ensures.version (c.in_ok-next.ensures.settled tells) (g.S.Store.disk c.append.new.store) pushed c.self.inside.room (g.S.Store.disk c.append-2.new.store) ended second none
    (c.append-2.ensures.any_moment tells [] blocks.beginning blocks.framed_beginning ended.leads.log_of.settled))

pub returns-clause-switched : goal.returns-clause-switched
returns-clause-switched g c = λ tells kept blocks holds.
    let reserved = reserved_holds c.self.inside.first c.self.inside.room c.self.inside.earlier.items c.reserve.new.self.items c.self.inside.attached c.reserve-2.new.self kept
    (g.S.Store.disk c.args.store.now) (subst (λ (v : ChainState). Holds v kept (g.S.Store.disk c.args.store.now)) (sym c.self.view_is) holds)
    c.reserve.ensures.items c.reserve-2.ensures.same_area c.reserve-2.ensures.same_first c.reserve-2.ensures.same_version c.reserve-2.ensures.same_lengths in
    let number : attached_of c.args.self.now ≡ c.self.inside.first + length c.reserve.new.self.items = omega
    (arith, ap (λ (v : ChainState). attached_of v) c.self.view_is, ap length c.reserve.ensures.items) in
    let is : area_of (c.attached-receiver.result + 1) ≡ area_of (c.self.inside.first + length c.reserve.new.self.items + 1) = omega (arith, c.attached-receiver.ensures.number, number) in
    let link = subst (λ (k : ℕ). IsLink (k + 1) blocks.before blocks.ending) number blocks.link in
    let here = c.in_ok-next.ensures.area ∙ is in
    let begins = c.in_ok-next.ensures.first ∙ c.sequence_of.ensures (attached_of c.args.self.now) c.args.nr.now blocks in
    let made = made_holds c.self.inside.first c.self.inside.room c.reserve.new.self.items c.reserve-2.new.self kept (g.S.Store.disk c.args.store.now) reserved blocks.before blocks.ending
    blocks.beginning (area_of (c.attached-receiver.result + 1)) is (g.S.Store.disk c.make_next.new.store) c.make_next.ensures.any_moment in
    let second = c.append.ensures.any_moment tells kept.attached.blocks blocks.ending blocks.framed_ending made.leads.log_of.settled in
    let pushed = c.push_reserved.new.self.items in
    let whole = c.in_ok-append.ensures.appended tells kept.attached.blocks blocks.ending blocks.framed_ending made.leads.log_of.settled in
    let ended = tied_holds c.self.inside.first c.self.inside.room c.reserve.new.self.items c.reserve-2.new.self kept (g.S.Store.disk c.args.store.now) reserved blocks.before blocks.ending
    blocks.beginning (area_of (c.attached-receiver.result + 1)) is (g.S.Store.disk c.make_next.new.store) c.make_next.ensures.any_moment link c.in_ok-next.next here begins
    c.in_ok-next.ensures.version (c.in_ok-next.ensures.settled tells) (g.S.Store.disk c.append.new.store) pushed c.append.new.self c.self.inside.room c.append.ensures.apart
    c.append.ensures.same_area c.append.ensures.same_first c.append.ensures.same_version whole (c.push_reserved.ensures.items ∙ ap (λ (x : LogState). c.reserve.new.self.items ++ x ∷ [])
    c.replace.ensures.value) in
    let none = start_no_link _ _ (c.self.inside.first + length pushed + 1) blocks.beginning blocks.start in
    subst (λ (l : LogState). Holds (record { first = c.self.inside.first; earlier = pushed; attached = l; room = c.self.inside.room })
    (deposited blocks.beginning (switched blocks.ending (blocks.before + 1) kept)) (g.S.Store.disk c.append-2.new.store)) (sym c.replace.ensures.after)
    (deposit_holds c.self.inside.first c.self.inside.room pushed c.in_ok-next.next (switched blocks.ending (blocks.before + 1) kept) (g.S.Store.disk c.append.new.store) ended
    blocks.beginning none (g.S.Store.disk c.append-2.new.store)
    c.append-2.new.self c.self.inside.room c.append-2.ensures.apart c.append-2.ensures.same_area c.append-2.ensures.same_first c.append-2.ensures.same_version
    (c.in_ok-append-2.ensures.appended tells [] blocks.beginning blocks.framed_beginning ended.leads.log_of.settled))

pub returns-clause-firsts : goal.returns-clause-firsts
returns-clause-firsts g c = λ blocks.
    let pushed = c.push_reserved.ensures.items ∙ ap (λ (x : LogState). c.reserve.new.self.items ++ x ∷ []) c.replace.ensures.value ∙ ap (λ (l : List LogState). l ++ c.append.new.self ∷ [])
    c.reserve.ensures.items in
    let begins = c.in_ok-next.ensures.first ∙ c.sequence_of.ensures (attached_of c.args.self.now) c.args.nr.now blocks in
    let last = ap (λ (l : LogState). l.first) c.replace.ensures.after ∙ c.append-2.ensures.same_first ∙ begins in
    switch_firsts c.self.inside.earlier.items c.push_reserved.new.self.items c.self.inside.attached c.append.new.self c.replace.new.dest (blocks.before + 1) pushed
    (c.append.ensures.same_first ∙ c.reserve-2.ensures.same_first) last
    ∙ ap (λ (v : ChainState). firsts (logs_of v) ++ (blocks.before + 1) ∷ []) c.self.view_is

pub returns-clause-lengths : goal.returns-clause-lengths
returns-clause-lengths g c = λ blocks.
    let pushed = c.push_reserved.ensures.items ∙ ap (λ (x : LogState). c.reserve.new.self.items ++ x ∷ []) c.replace.ensures.value ∙ ap (λ (l : List LogState). l ++ c.append.new.self ∷ [])
    c.reserve.ensures.items in
    let more = c.in_ok-append.ensures.lengths blocks.ending blocks.framed_ending ∙ ap (λ (l : List ℕ). l ++ length blocks.ending ∷ []) c.reserve-2.ensures.same_lengths in
    let last = ap (λ (l : LogState). l.lengths) c.replace.ensures.after ∙ c.in_ok-append-2.ensures.lengths blocks.beginning blocks.framed_beginning ∙ ap
    (λ (l : List ℕ). l ++ length blocks.beginning ∷ []) c.in_ok-next.ensures.lengths in
    switch_lengths c.self.inside.earlier.items c.push_reserved.new.self.items c.append.new.self c.replace.new.dest (c.self.inside.attached.lengths ++ length blocks.ending ∷ [])
    (length blocks.beginning ∷ []) pushed more last
    ∙ ap (λ (v : ChainState). lengths_in v.earlier ++ (v.attached.lengths ++ length blocks.ending ∷ []) ∷ (length blocks.beginning ∷ []) ∷ []) c.self.view_is

pub returns-in_err-next-clause-faults : goal.returns-in_err-next-clause-faults
returns-in_err-next-clause-faults g c = c.make_next.ensures.any_moment.later.faults

pub returns-in_err-append-clause-faults : goal.returns-in_err-append-clause-faults
returns-in_err-append-clause-faults g c = omega (arith, c.make_next.ensures.any_moment.later.faults, c.append.ensures.apart.later.faults)

pub returns-in_err-append-2-clause-faults : goal.returns-in_err-append-2-clause-faults
returns-in_err-append-2-clause-faults g c = omega (arith, c.make_next.ensures.any_moment.later.faults, c.append.ensures.apart.later.faults, c.append-2.ensures.apart.later.faults)

pub returns-clause-faults : goal.returns-clause-faults
returns-clause-faults g c = omega (arith, c.make_next.ensures.any_moment.later.faults, c.append.ensures.apart.later.faults, c.append-2.ensures.apart.later.faults)

pub returns-in_default-clause-unswitched : goal.returns-in_default-clause-unswitched
returns-in_default-clause-unswitched g c = λ is tells kept holds. none_chained c.args.self.now.first c.args.self.now.room c.args.self.now.earlier c.args.self.now.attached kept (g.S.Store.disk c.args.store.now) holds

pub returns-in_err-reserve-clause-unswitched : goal.returns-in_err-reserve-clause-unswitched
returns-in_err-reserve-clause-unswitched g c = λ is tells kept holds. none_chained c.args.self.now.first c.args.self.now.room c.args.self.now.earlier c.args.self.now.attached kept (g.S.Store.disk c.args.store.now) holds

pub returns-in_err-reserve-2-clause-unswitched : goal.returns-in_err-reserve-2-clause-unswitched
returns-in_err-reserve-2-clause-unswitched g c = λ is tells kept holds. none_chained c.args.self.now.first c.args.self.now.room c.args.self.now.earlier c.args.self.now.attached kept (g.S.Store.disk c.args.store.now) holds

pub returns-in_err-next-clause-unswitched : goal.returns-in_err-next-clause-unswitched
returns-in_err-next-clause-unswitched g c = λ told tells kept holds.
    let reserved = reserved_holds c.self.inside.first c.self.inside.room c.self.inside.earlier.items c.reserve.new.self.items c.self.inside.attached c.reserve-2.new.self kept
    (g.S.Store.disk c.args.store.now) (subst (λ (v : ChainState). Holds v kept (g.S.Store.disk c.args.store.now)) (sym c.self.view_is) holds)
    c.reserve.ensures.items c.reserve-2.ensures.same_area c.reserve-2.ensures.same_first c.reserve-2.ensures.same_version c.reserve-2.ensures.same_lengths in
    let number : attached_of c.args.self.now ≡ c.self.inside.first + length c.reserve.new.self.items = omega
    (arith, ap (λ (v : ChainState). attached_of v) c.self.view_is, ap length c.reserve.ensures.items) in
    let is : area_of (c.attached-receiver.result + 1) ≡ area_of (c.self.inside.first + length c.reserve.new.self.items + 1) = omega (arith, c.attached-receiver.ensures.number, number) in
    subst (λ (v : ChainState). Leaves (g.S.Store.disk c.args.store.now) (g.S.Store.disk c.make_next.new.store) (AreChained v.first kept)) c.self.view_is
    (next_moment c.self.inside.first c.self.inside.room c.reserve.new.self.items c.reserve-2.new.self kept (g.S.Store.disk c.args.store.now) reserved
    (area_of (c.attached-receiver.result + 1)) is Anything (g.S.Store.disk c.make_next.new.store) c.make_next.ensures.any_moment)

pub returns-in_default-clause-roots : goal.returns-in_default-clause-roots
returns-in_default-clause-roots g c = roots_here (g.S.Store.disk c.args.store.now)

pub returns-in_err-reserve-clause-roots : goal.returns-in_err-reserve-clause-roots
returns-in_err-reserve-clause-roots g c = roots_here (g.S.Store.disk c.args.store.now)

pub returns-in_err-reserve-2-clause-roots : goal.returns-in_err-reserve-2-clause-roots
returns-in_err-reserve-2-clause-roots g c = roots_here (g.S.Store.disk c.args.store.now)

pub returns-in_err-next-clause-roots : goal.returns-in_err-next-clause-roots
returns-in_err-next-clause-roots g c =
    roots_does (area_of (c.attached-receiver.result + 1)) Anything (g.S.Store.disk c.args.store.now) (g.S.Store.disk c.make_next.new.store) (omega arith) c.make_next.ensures.any_moment

pub returns-in_err-append-clause-roots : goal.returns-in_err-append-clause-roots
returns-in_err-append-clause-roots g c =
    roots_then (g.S.Store.disk c.args.store.now) (g.S.Store.disk c.make_next.new.store) (g.S.Store.disk c.append.new.store)
    (roots_does (area_of (c.attached-receiver.result + 1)) Anything (g.S.Store.disk c.args.store.now) (g.S.Store.disk c.make_next.new.store) (omega arith) c.make_next.ensures.any_moment)
    (roots_does c.reserve-2.new.self.area Anything (g.S.Store.disk c.make_next.new.store) (g.S.Store.disk c.append.new.store)
    (omega (arith, c.reserve-2.ensures.same_area, c.self.invariant.0, c.self.invariant.2)) c.append.ensures.apart)

pub returns-in_err-append-2-clause-roots : goal.returns-in_err-append-2-clause-roots
returns-in_err-append-2-clause-roots g c =
    roots_then (g.S.Store.disk c.args.store.now) (g.S.Store.disk c.append.new.store) (g.S.Store.disk c.append-2.new.store)
    (roots_then (g.S.Store.disk c.args.store.now) (g.S.Store.disk c.make_next.new.store) (g.S.Store.disk c.append.new.store)
    (roots_does (area_of (c.attached-receiver.result + 1)) Anything (g.S.Store.disk c.args.store.now) (g.S.Store.disk c.make_next.new.store) (omega arith) c.make_next.ensures.any_moment)
    (roots_does c.reserve-2.new.self.area Anything (g.S.Store.disk c.make_next.new.store) (g.S.Store.disk c.append.new.store)
    (omega (arith, c.reserve-2.ensures.same_area, c.self.invariant.0, c.self.invariant.2)) c.append.ensures.apart))
    (roots_does c.in_ok-next.next.area Anything (g.S.Store.disk c.append.new.store) (g.S.Store.disk c.append-2.new.store) (omega (arith, c.in_ok-next.ensures.area)) c.append-2.ensures.apart)

pub returns-clause-roots : goal.returns-clause-roots
returns-clause-roots g c =
    roots_then (g.S.Store.disk c.args.store.now) (g.S.Store.disk c.append.new.store) (g.S.Store.disk c.append-2.new.store)
    (roots_then (g.S.Store.disk c.args.store.now) (g.S.Store.disk c.make_next.new.store) (g.S.Store.disk c.append.new.store)
    (roots_does (area_of (c.attached-receiver.result + 1)) Anything (g.S.Store.disk c.args.store.now) (g.S.Store.disk c.make_next.new.store) (omega arith) c.make_next.ensures.any_moment)
    (roots_does c.reserve-2.new.self.area Anything (g.S.Store.disk c.make_next.new.store) (g.S.Store.disk c.append.new.store)
    (omega (arith, c.reserve-2.ensures.same_area, c.self.invariant.0, c.self.invariant.2)) c.append.ensures.apart))
    (roots_does c.in_ok-next.next.area Anything (g.S.Store.disk c.append.new.store) (g.S.Store.disk c.append-2.new.store) (omega (arith, c.in_ok-next.ensures.area)) c.append-2.ensures.apart)
