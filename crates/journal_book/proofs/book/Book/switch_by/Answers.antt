use Rattle.std.proofs.Common.{◌≡◌, inl, inr, ℕ, ◌+◌, Err, IsErrOf, [], ◌∷◌, length, refl, ap, ◌∙◌, arith}
use Rattle.std.proofs.Math.Logic.{∥∥₁_map}
use Rattle.std.proofs.lemmas.Result.{err_from_is_err_and}
use Rattle.receiver_chain.specs.declared.fault.ChainFault.{ChainFault}
use Rattle.receiver_chain.specs.declared.fault.ChainFault.TheVariants.{NoMemory, StoreFault}
use Rattle.receiver_chain.specs.Chain.{attached_of}
use Rattle.receiver_chain.proofs.Others.{roots_here, roots_then}
use Rattle.journal_book.specs.Switch.{AreTieBlocks}
use Rattle.journal_book.proofs.Attaching.{leaves_exactly_more, leaves_more, rose_after, switch_exactly, switch_moments, switch_unswitched, ties_forced}
use Rattle.journal_book.proofs.Forcing.{all_counted, none_exactly, none_moment}
use Rattle.journal_book.proofs.book.Book.switch_by.Goals as goal

pub framed_entry-requires-clause-tie : goal.framed_entry-requires-clause-tie
framed_entry-requires-clause-tie g c = (attached_of c.args.self.now.chain + 1, inl c.requires.ends)

pub framed_entry-requires-2-clause-tie : goal.framed_entry-requires-2-clause-tie
framed_entry-requires-2-clause-tie g c = (attached_of c.args.self.now.chain, inr c.requires.begins)

pub returns-in_err-ending-clause-moments : goal.returns-in_err-ending-clause-moments
returns-in_err-ending-clause-moments g c = λ tells entries holds.
    let disk = g.S.Store.disk c.args.store.now in
    leaves_more c.args.self.now.chain.first c.args.self.now.forced c.args.self.now.forced entries (c.args.nr.now ∷ c.args.pr.now ∷ []) disk disk (omega arith) (none_moment c.args.self.now entries disk holds)

pub returns-in_err-beginning-clause-moments : goal.returns-in_err-beginning-clause-moments
returns-in_err-beginning-clause-moments g c = λ tells entries holds.
    let disk = g.S.Store.disk c.args.store.now in
    leaves_more c.args.self.now.chain.first c.args.self.now.forced c.args.self.now.forced entries (c.args.nr.now ∷ c.args.pr.now ∷ []) disk disk (omega arith) (none_moment c.args.self.now entries disk holds)

pub returns-in_err-force-clause-moments : goal.returns-in_err-force-clause-moments
returns-in_err-force-clause-moments g c = λ tells entries holds.
    leaves_more c.args.self.now.chain.first c.args.self.now.forced c.args.self.now.forced entries (c.args.nr.now ∷ c.args.pr.now ∷ []) (g.S.Store.disk c.args.store.now) (g.S.Store.disk c.force.new.store) (omega arith)
    (c.force.ensures.moments tells entries holds)

pub attach-requires-clause-held : goal.attach-requires-clause-held
attach-requires-clause-held g c = λ tells. ∥∥₁_map (c.requires.held tells) (λ has. (has.0, c.in_ok-force.ensures.forced tells has.0 has.1))

pub attach-requires-clause-blocks : goal.attach-requires-clause-blocks
attach-requires-clause-blocks g c = (
  c.args.nr.now,
  c.args.pr.now,
  record {
    ties = ties_forced c.args.self.now c.force.new.self c.args.nr.now c.args.pr.now c.in_ok-force.ensures.all c.in_ok-force.ensures.nothing_waits c.force.ensures.first c.force.ensures.number c.in_ok-ending.ensures.spelled c.in_ok-beginning.ensures.spelled
        c.requires.ends c.requires.begins c.requires.nr_sequence c.requires.pr_sequence;
    framed_ending = c.deref.ensures.value ∙ c.in_ok-ending.ensures.framed;
    framed_beginning = c.deref-2.ensures.value ∙ c.in_ok-beginning.ensures.framed;
  },
)

pub returns-in_err-receiver-clause-moments : goal.returns-in_err-receiver-clause-moments
returns-in_err-receiver-clause-moments g c = λ tells entries holds.
    let nr = c.args.nr.now in
    let pr = c.args.pr.now in
    let blocks : AreTieBlocks c.force.new.self nr pr c.deref.result.now c.deref-2.result.now = record {
      ties = ties_forced c.args.self.now c.force.new.self nr pr c.in_ok-force.ensures.all c.in_ok-force.ensures.nothing_waits c.force.ensures.first c.force.ensures.number c.in_ok-ending.ensures.spelled c.in_ok-beginning.ensures.spelled
          c.requires.ends c.requires.begins c.requires.nr_sequence c.requires.pr_sequence;
      framed_ending = c.deref.ensures.value ∙ c.in_ok-ending.ensures.framed;
      framed_beginning = c.deref-2.ensures.value ∙ c.in_ok-beginning.ensures.framed;
    } in
    switch_moments c.args.self.now c.force.new.self entries (nr ∷ pr ∷ []) (g.S.Store.disk c.args.store.now) (g.S.Store.disk c.force.new.store) (g.S.Store.disk c.attach.new.store) c.force.ensures.receiver c.in_ok-force.ensures.all
    (c.force.ensures.moments tells entries holds) (c.attach.ensures.moments tells entries nr pr blocks (c.in_ok-force.ensures.forced tells entries holds))

pub returns-in_err-receiver-clause-no_memory : goal.returns-in_err-receiver-clause-no_memory
returns-in_err-receiver-clause-no_memory g c = λ is tells entries holds.
    let p = err_from_is_err_and c.from_residual-in_err-receiver.result c.from_residual-in_err-receiver.ensures.1 in
    let same : c.in_err-receiver.field-0.0 ≡ NoMemory = cc (p.1, p.2, is) in
    let named : IsErrOf {T = ℕ} (Err c.in_err-receiver.field-0.0) NoMemory = ap (λ (e : ChainFault). Err e) same in
    c.in_err-receiver.ensures.no_memory named tells entries (c.in_ok-force.ensures.forced tells entries holds)

pub returns-clause-moments : goal.returns-clause-moments
returns-clause-moments g c = λ tells entries holds.
    let nr = c.args.nr.now in
    let pr = c.args.pr.now in
    let blocks : AreTieBlocks c.force.new.self nr pr c.deref.result.now c.deref-2.result.now = record {
      ties = ties_forced c.args.self.now c.force.new.self nr pr c.in_ok-force.ensures.all c.in_ok-force.ensures.nothing_waits c.force.ensures.first c.force.ensures.number c.in_ok-ending.ensures.spelled c.in_ok-beginning.ensures.spelled
          c.requires.ends c.requires.begins c.requires.nr_sequence c.requires.pr_sequence;
      framed_ending = c.deref.ensures.value ∙ c.in_ok-ending.ensures.framed;
      framed_beginning = c.deref-2.ensures.value ∙ c.in_ok-beginning.ensures.framed;
    } in
    switch_moments c.args.self.now c.force.new.self entries (nr ∷ pr ∷ []) (g.S.Store.disk c.args.store.now) (g.S.Store.disk c.force.new.store) (g.S.Store.disk c.attach.new.store) c.force.ensures.receiver c.in_ok-force.ensures.all
    (c.force.ensures.moments tells entries holds) (c.attach.ensures.moments tells entries nr pr blocks (c.in_ok-force.ensures.forced tells entries holds))

pub returns-clause-switched : goal.returns-clause-switched
returns-clause-switched g c = λ tells entries holds.
    let nr = c.args.nr.now in
    let pr = c.args.pr.now in
    let blocks : AreTieBlocks c.force.new.self nr pr c.deref.result.now c.deref-2.result.now = record {
      ties = ties_forced c.args.self.now c.force.new.self nr pr c.in_ok-force.ensures.all c.in_ok-force.ensures.nothing_waits c.force.ensures.first c.force.ensures.number c.in_ok-ending.ensures.spelled c.in_ok-beginning.ensures.spelled
          c.requires.ends c.requires.begins c.requires.nr_sequence c.requires.pr_sequence;
      framed_ending = c.deref.ensures.value ∙ c.in_ok-ending.ensures.framed;
      framed_beginning = c.deref-2.ensures.value ∙ c.in_ok-beginning.ensures.framed;
    } in
    c.in_ok-receiver.ensures.switched tells entries nr pr blocks (c.in_ok-force.ensures.forced tells entries holds)

pub returns-in_err-receiver-clause-cause : goal.returns-in_err-receiver-clause-cause
returns-in_err-receiver-clause-cause g c = λ is.
    let p = err_from_is_err_and c.from_residual-in_err-receiver.result c.from_residual-in_err-receiver.ensures.1 in
    let same : c.in_err-receiver.field-0.0 ≡ StoreFault = cc (p.1, p.2, is) in
    rose_after _ _ _ c.force.ensures.faults (c.in_err-receiver.ensures.cause (ap (λ (e : ChainFault). Err e) same))

pub returns-in_err-ending-clause-exactly : goal.returns-in_err-ending-clause-exactly
returns-in_err-ending-clause-exactly g c = λ tells entries holds.
    let disk = g.S.Store.disk c.args.store.now in
    leaves_exactly_more c.args.self.now.chain.first c.args.self.now.forced (length entries) entries (c.args.nr.now ∷ c.args.pr.now ∷ []) disk disk (none_exactly c.args.self.now entries disk holds)

pub returns-in_err-beginning-clause-exactly : goal.returns-in_err-beginning-clause-exactly
returns-in_err-beginning-clause-exactly g c = λ tells entries holds.
    let disk = g.S.Store.disk c.args.store.now in
    leaves_exactly_more c.args.self.now.chain.first c.args.self.now.forced (length entries) entries (c.args.nr.now ∷ c.args.pr.now ∷ []) disk disk (none_exactly c.args.self.now entries disk holds)

pub returns-in_err-force-clause-exactly : goal.returns-in_err-force-clause-exactly
returns-in_err-force-clause-exactly g c = λ tells entries holds.
    leaves_exactly_more c.args.self.now.chain.first c.args.self.now.forced (length entries) entries (c.args.nr.now ∷ c.args.pr.now ∷ []) (g.S.Store.disk c.args.store.now) (g.S.Store.disk c.force.new.store)
    (c.force.ensures.exactly tells entries holds)

pub returns-in_err-receiver-clause-exactly : goal.returns-in_err-receiver-clause-exactly
returns-in_err-receiver-clause-exactly g c = λ tells entries holds.
    let nr = c.args.nr.now in
    let pr = c.args.pr.now in
    let blocks : AreTieBlocks c.force.new.self nr pr c.deref.result.now c.deref-2.result.now = record {
      ties = ties_forced c.args.self.now c.force.new.self nr pr c.in_ok-force.ensures.all c.in_ok-force.ensures.nothing_waits c.force.ensures.first c.force.ensures.number c.in_ok-ending.ensures.spelled c.in_ok-beginning.ensures.spelled
          c.requires.ends c.requires.begins c.requires.nr_sequence c.requires.pr_sequence;
      framed_ending = c.deref.ensures.value ∙ c.in_ok-ending.ensures.framed;
      framed_beginning = c.deref-2.ensures.value ∙ c.in_ok-beginning.ensures.framed;
    } in
    switch_exactly c.args.self.now c.force.new.self entries (nr ∷ pr ∷ []) (g.S.Store.disk c.args.store.now) (g.S.Store.disk c.force.new.store) (g.S.Store.disk c.attach.new.store) c.force.ensures.receiver (c.in_ok-force.ensures.all ∙ all_counted c.args.self.now entries (g.S.Store.disk c.args.store.now) holds)
    (c.force.ensures.exactly tells entries holds) (c.attach.ensures.moments tells entries nr pr blocks (c.in_ok-force.ensures.forced tells entries holds))

pub returns-clause-exactly : goal.returns-clause-exactly
returns-clause-exactly g c = λ tells entries holds.
    let nr = c.args.nr.now in
    let pr = c.args.pr.now in
    let blocks : AreTieBlocks c.force.new.self nr pr c.deref.result.now c.deref-2.result.now = record {
      ties = ties_forced c.args.self.now c.force.new.self nr pr c.in_ok-force.ensures.all c.in_ok-force.ensures.nothing_waits c.force.ensures.first c.force.ensures.number c.in_ok-ending.ensures.spelled c.in_ok-beginning.ensures.spelled
          c.requires.ends c.requires.begins c.requires.nr_sequence c.requires.pr_sequence;
      framed_ending = c.deref.ensures.value ∙ c.in_ok-ending.ensures.framed;
      framed_beginning = c.deref-2.ensures.value ∙ c.in_ok-beginning.ensures.framed;
    } in
    switch_exactly c.args.self.now c.force.new.self entries (nr ∷ pr ∷ []) (g.S.Store.disk c.args.store.now) (g.S.Store.disk c.force.new.store) (g.S.Store.disk c.attach.new.store) c.force.ensures.receiver (c.in_ok-force.ensures.all ∙ all_counted c.args.self.now entries (g.S.Store.disk c.args.store.now) holds)
    (c.force.ensures.exactly tells entries holds) (c.attach.ensures.moments tells entries nr pr blocks (c.in_ok-force.ensures.forced tells entries holds))

pub returns-in_err-receiver-clause-freed : goal.returns-in_err-receiver-clause-freed
returns-in_err-receiver-clause-freed g c = omega (arith, c.force.ensures.freed, c.attach.ensures.room, ap length c.attach.ensures.buffered)

pub returns-in_err-receiver-clause-no_longer : goal.returns-in_err-receiver-clause-no_longer
returns-in_err-receiver-clause-no_longer g c = omega (arith, c.force.ensures.no_longer, ap length c.attach.ensures.buffered)

pub returns-clause-freed : goal.returns-clause-freed
returns-clause-freed g c = omega (arith, c.force.ensures.freed, c.attach.ensures.room, ap length c.attach.ensures.buffered)

pub returns-clause-no_longer : goal.returns-clause-no_longer
returns-clause-no_longer g c = omega (arith, c.force.ensures.no_longer, ap length c.attach.ensures.buffered)

pub returns-in_err-receiver-clause-same_next : goal.returns-in_err-receiver-clause-same_next
returns-in_err-receiver-clause-same_next g c = λ is.
    omega (arith, c.in_ok-force.ensures.all, c.in_ok-force.ensures.nothing_waits, c.force.ensures.first, c.in_err-receiver.ensures.same_count, c.attach.ensures.nothing_waits, c.attach.ensures.first)

pub returns-in_err-ending-clause-same_forced : goal.returns-in_err-ending-clause-same_forced
returns-in_err-ending-clause-same_forced g c = λ is. inl refl

pub returns-in_err-beginning-clause-same_forced : goal.returns-in_err-beginning-clause-same_forced
returns-in_err-beginning-clause-same_forced g c = λ is. inl refl

pub returns-in_err-receiver-clause-same_forced : goal.returns-in_err-receiver-clause-same_forced
returns-in_err-receiver-clause-same_forced g c = λ is. inr (c.attach.ensures.nothing_waits ∙ c.in_ok-force.ensures.nothing_waits)

pub returns-in_err-receiver-clause-same_places : goal.returns-in_err-receiver-clause-same_places
returns-in_err-receiver-clause-same_places g c = λ is. omega (arith, c.in_ok-force.ensures.less_places, c.attach.ensures.places)

pub returns-in_err-receiver-clause-faults : goal.returns-in_err-receiver-clause-faults
returns-in_err-receiver-clause-faults g c = omega (arith, c.force.ensures.faults, c.attach.ensures.faults)

pub returns-clause-faults : goal.returns-clause-faults
returns-clause-faults g c = omega (arith, c.force.ensures.faults, c.attach.ensures.faults)

pub returns-in_err-ending-clause-wanting : goal.returns-in_err-ending-clause-wanting
returns-in_err-ending-clause-wanting g c = λ is tells entries holds. none_exactly c.args.self.now entries (g.S.Store.disk c.args.store.now) holds

pub returns-in_err-beginning-clause-wanting : goal.returns-in_err-beginning-clause-wanting
returns-in_err-beginning-clause-wanting g c = λ is tells entries holds. none_exactly c.args.self.now entries (g.S.Store.disk c.args.store.now) holds

pub returns-in_err-force-clause-wanting : goal.returns-in_err-force-clause-wanting
returns-in_err-force-clause-wanting g c = λ is tells entries holds. c.force.ensures.exactly tells entries holds

pub returns-in_err-receiver-clause-wanting : goal.returns-in_err-receiver-clause-wanting
returns-in_err-receiver-clause-wanting g c = λ is tells entries holds.
    let p = err_from_is_err_and c.from_residual-in_err-receiver.result c.from_residual-in_err-receiver.ensures.1 in
    let same : c.in_err-receiver.field-0.0 ≡ NoMemory = cc (p.1, p.2, is) in
    let named : IsErrOf {T = ℕ} (Err c.in_err-receiver.field-0.0) NoMemory = ap (λ (e : ChainFault). Err e) same in
    switch_unswitched c.args.self.now c.force.new.self entries (g.S.Store.disk c.args.store.now) (g.S.Store.disk c.force.new.store) (g.S.Store.disk c.attach.new.store) c.force.ensures.receiver
    (c.force.ensures.exactly tells entries holds) (c.in_err-receiver.ensures.unswitched named tells entries (c.in_ok-force.ensures.forced tells entries holds))

pub returns-in_err-ending-clause-roots : goal.returns-in_err-ending-clause-roots
returns-in_err-ending-clause-roots g c = roots_here (g.S.Store.disk c.args.store.now)

pub returns-in_err-beginning-clause-roots : goal.returns-in_err-beginning-clause-roots
returns-in_err-beginning-clause-roots g c = roots_here (g.S.Store.disk c.args.store.now)

pub returns-in_err-receiver-clause-roots : goal.returns-in_err-receiver-clause-roots
returns-in_err-receiver-clause-roots g c = roots_then (g.S.Store.disk c.args.store.now) (g.S.Store.disk c.force.new.store) (g.S.Store.disk c.attach.new.store) c.force.ensures.roots
    c.attach.ensures.roots

pub returns-clause-roots : goal.returns-clause-roots
returns-clause-roots g c = roots_then (g.S.Store.disk c.args.store.now) (g.S.Store.disk c.force.new.store) (g.S.Store.disk c.attach.new.store) c.force.ensures.roots c.attach.ensures.roots
