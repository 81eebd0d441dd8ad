use Rattle.std.proofs.Common.{◌≡◌, inl, inr, ℕ, ◌+◌, ◌-◌, ◌≤◌, [], ap, sym, subst, ◌∙◌, arith}
use Rattle.std.proofs.lemmas.Bool.{cases_eq}
use Rattle.store_model.specs.Disk.{Cut, Does}
use Rattle.receiver_chain.specs.Receivers.{area_of, dropped}
use Rattle.receiver_chain.specs.Chain.{Holds}
use Rattle.receiver_chain.proofs.Drops.{cut_more, cut_upto, dropped_further, kept_leaves}
use Rattle.receiver_chain.proofs.Others.{roots_cut, roots_does, roots_then}
use Rattle.receiver_chain.proofs.chain.Chain.drop_before.Goals as goal

pub returns-in_err-drop_first-clause-others : goal.returns-in_err-drop_first-clause-others
returns-in_err-drop_first-clause-others g c = λ area other. c.drop_first.ensures.does.others area (λ is. other c.loop-first.first c.loop-first.invariant.from (c.loop-first-test.true) (is ∙ ap area_of (sym c.loop-first.invariant.first))) ∙ c.loop-first.invariant.others area (λ n low high. other n low (omega (arith, high, c.loop-first-test.true)))

pub returns-in_err-drop_first-clause-holds : goal.returns-in_err-drop_first-clause-holds
returns-in_err-drop_first-clause-holds g c = λ tells kept holds.
    subst (λ (n : ℕ). Holds c.drop_first.new.self (dropped n kept) (g.S.Store.disk c.drop_first.new.store))
    (omega (arith, c.loop-first.invariant.from, c.drop_first.ensures.first, c.loop-first.invariant.first))
    (dropped_further c.drop_first.new.self kept (g.S.Store.disk c.drop_first.new.store) (c.loop-first.first - c.args.self.now.first)
    (c.drop_first.ensures.holds tells (dropped (c.loop-first.first - c.args.self.now.first) kept) (c.loop-first.invariant.holds tells kept holds)))

pub returns-in_err-drop_first-clause-any_moment : goal.returns-in_err-drop_first-clause-any_moment
returns-in_err-drop_first-clause-any_moment g c =
    let does = subst (λ (n : ℕ). Does (area_of n) (Cut 0) (g.S.Store.disk c.loop-first.store) (g.S.Store.disk c.drop_first.new.store)) (sym c.loop-first.invariant.first) c.drop_first.ensures.does in
    let moments = cut_more (g.S.Store.disk c.args.store.now) (g.S.Store.disk c.loop-first.store) (g.S.Store.disk c.drop_first.new.store) c.args.self.now.first c.loop-first.first
    c.loop-first.invariant.from c.loop-first.invariant.moments does in
    cut_upto (g.S.Store.disk c.args.store.now) (g.S.Store.disk c.drop_first.new.store) c.args.self.now.first (c.loop-first.first + 1) (c.args.receiver + 1)
    (omega (arith, c.loop-first.invariant.from)) (omega (arith, c.loop-first-test.true)) moments

pub returns-in_err-drop_first-clause-kept_stay : goal.returns-in_err-drop_first-clause-kept_stay
returns-in_err-drop_first-clause-kept_stay g c = λ tells kept holds.
    let does = subst (λ (n : ℕ). Does (area_of n) (Cut 0) (g.S.Store.disk c.loop-first.store) (g.S.Store.disk c.drop_first.new.store)) (sym c.loop-first.invariant.first) c.drop_first.ensures.does in
    let moments = cut_more (g.S.Store.disk c.args.store.now) (g.S.Store.disk c.loop-first.store) (g.S.Store.disk c.drop_first.new.store) c.args.self.now.first c.loop-first.first
    c.loop-first.invariant.from c.loop-first.invariant.moments does in
    let least : 1 ≤ c.args.self.now.first = omega (arith, c.first-first.ensures.number, c.first-first.ensures.least) in
    kept_leaves c.args.self.now kept c.args.receiver (g.S.Store.disk c.args.store.now) (g.S.Store.disk c.drop_first.new.store) least c.requires.from c.requires.below holds
    (cut_upto (g.S.Store.disk c.args.store.now) (g.S.Store.disk c.drop_first.new.store) c.args.self.now.first (c.loop-first.first + 1) (c.args.receiver + 1)
    (omega (arith, c.loop-first.invariant.from)) (omega (arith, c.loop-first-test.true)) moments)

pub overflow_add-first : goal.overflow_add-first
overflow_add-first g c = omega (arith, c.loop-first-test.true, c.requires.below, c.first-first.ensures.most)

pub loop-first-preserved : goal.loop-first-preserved
loop-first-preserved g c =
    let does = subst (λ (n : ℕ). Does (area_of n) (Cut 0) (g.S.Store.disk c.loop-first.store) (g.S.Store.disk c.drop_first.new.store)) (sym c.loop-first.invariant.first) c.drop_first.ensures.does in
    let moments = cut_more (g.S.Store.disk c.args.store.now) (g.S.Store.disk c.loop-first.store) (g.S.Store.disk c.drop_first.new.store) c.args.self.now.first c.loop-first.first
    c.loop-first.invariant.from c.loop-first.invariant.moments does in
    record {
      first = omega (arith, c.drop_first.ensures.first, c.loop-first.invariant.first);
      from = omega (arith, c.loop-first.invariant.from);
      upto = omega (arith, c.loop-first-test.true);
      number = c.drop_first.ensures.same_number ∙ c.loop-first.invariant.number;
      attached = c.drop_first.ensures.same_attached ∙ c.loop-first.invariant.attached;
      room = c.drop_first.ensures.same_room ∙ c.loop-first.invariant.room;
      holds = λ tells kept holds. subst (λ (n : ℕ). Holds c.drop_first.new.self (dropped n kept) (g.S.Store.disk c.drop_first.new.store))
          (omega (arith, c.loop-first.invariant.from, c.drop_first.ensures.first, c.loop-first.invariant.first))
          (dropped_further c.drop_first.new.self kept (g.S.Store.disk c.drop_first.new.store) (c.loop-first.first - c.args.self.now.first)
          (c.drop_first.ensures.holds tells (dropped (c.loop-first.first - c.args.self.now.first) kept) (c.loop-first.invariant.holds tells kept holds)));
      cut = λ tells n low high. elim (cases_eq n c.loop-first.first) [
        | inl same ↦ subst (λ (k : ℕ). (g.S.Store.disk c.drop_first.new.store).seen (area_of k) ≡ []) (sym (same ∙ c.loop-first.invariant.first)) (c.in_ok-drop_first.ensures.cut tells)
        | inr before ↦ does.others (area_of n) (λ is. before (omega (arith, is))) ∙ c.loop-first.invariant.cut tells n low (omega (arith, high, before))
      ];
      others = λ area other. does.others area (other c.loop-first.first c.loop-first.invariant.from (omega arith)) ∙ c.loop-first.invariant.others area
          (λ n low high. other n low (omega (arith, high)));
      moments = moments;
    }

pub returns-clause-others : goal.returns-clause-others
returns-clause-others g c = λ area other. c.loop-first.invariant.others area (λ n low high. other n low (omega (arith, high, c.loop-first.invariant.upto)))

pub returns-clause-kept_stay : goal.returns-clause-kept_stay
returns-clause-kept_stay g c = λ tells kept holds.
    let least : 1 ≤ c.args.self.now.first = omega (arith, c.first-first.ensures.number, c.first-first.ensures.least) in
    kept_leaves c.args.self.now kept c.args.receiver (g.S.Store.disk c.args.store.now) (g.S.Store.disk c.loop-first.store) least c.requires.from c.requires.below holds
    (cut_upto (g.S.Store.disk c.args.store.now) (g.S.Store.disk c.loop-first.store) c.args.self.now.first c.loop-first.first (c.args.receiver + 1) c.loop-first.invariant.from
    c.loop-first.invariant.upto c.loop-first.invariant.moments)

pub returns-in_err-drop_first-clause-roots : goal.returns-in_err-drop_first-clause-roots
returns-in_err-drop_first-clause-roots g c =
    let least : 1 ≤ c.args.self.now.first = omega (arith, c.first-first.ensures.number, c.first-first.ensures.least) in
    roots_then (g.S.Store.disk c.args.store.now) (g.S.Store.disk c.loop-first.store) (g.S.Store.disk c.drop_first.new.store)
    (roots_cut (g.S.Store.disk c.args.store.now) (g.S.Store.disk c.loop-first.store) c.args.self.now.first c.loop-first.first least c.loop-first.invariant.moments c.loop-first.invariant.others)
    (roots_does (area_of c.loop-first.self.first) (Cut 0) (g.S.Store.disk c.loop-first.store) (g.S.Store.disk c.drop_first.new.store)
    (omega (arith, least, c.loop-first.invariant.from, c.loop-first.invariant.first)) c.drop_first.ensures.does)

pub returns-clause-roots : goal.returns-clause-roots
returns-clause-roots g c =
    let least : 1 ≤ c.args.self.now.first = omega (arith, c.first-first.ensures.number, c.first-first.ensures.least) in
    roots_cut (g.S.Store.disk c.args.store.now) (g.S.Store.disk c.loop-first.store) c.args.self.now.first c.loop-first.first least c.loop-first.invariant.moments c.loop-first.invariant.others
