use Rattle.std.proofs.Common.{◌≡◌, ◌∙◌, ◌+◌, ◌-◌, ◌++◌, List, drop, ap, arith, length-drop, refl, subst, sym}
use Rattle.entry_codec.specs.declared.entries.Entry.{Entry}
use Rattle.journal_model.specs.Journal.{AreNumbered}
use Rattle.lawful_states.proofs.NumberLemmas.{numbered-fewer}
use Rattle.memory_journal.specs.Blanks.{blanks}
use Rattle.memory_journal.specs.Journal.{Journal}
use Rattle.memory_journal.proofs.BlankLemmas.{drop-behind, length_behind, memory-fewer}
use Rattle.memory_journal.proofs.journal.MemoryJournal.give_up.Goals as goal

pub drop_front-requires : goal.drop_front-requires
drop_front-requires c =
    omega (arith, c.saturating_sub-in_memory.ensures, length_behind (c.self.inside.gone + 1) c.self.inside.passed c.self.inside.entries.items, rw (← c.self.view_is) at c.requires.there)

pub invariant_of-self : goal.invariant_of-self
invariant_of-self c =
    let items = c.self.inside.entries.items in
    let kept = rw (← c.self.view_is) at c.requires.kept in
    let there = rw (← c.self.view_is) at c.requires.there in
    let whole = length_behind (c.self.inside.gone + 1) c.self.inside.passed items in
    let gone = c.saturating_sub-in_memory.result in
    let left = c.saturating_sub-self-inside.result in
    rw c.drop_front.ensures.items (
      omega (arith, length-drop gone items, whole, c.self.invariant.0, kept, there, c.saturating_sub-in_memory.ensures, c.saturating_sub-self-inside.ensures),
      subst (λ n. AreNumbered n (drop gone items)) (omega (arith, kept, c.saturating_sub-in_memory.ensures, c.saturating_sub-self-inside.ensures))
          (numbered-fewer gone (c.self.inside.gone + 1 + c.self.inside.passed) items c.self.invariant.1),
      memory-fewer gone items c.self.invariant.2,
    )

pub returns-clause-journal : goal.returns-clause-journal
returns-clause-journal c =
    let items = c.self.inside.entries.items in
    let kept = rw (← c.self.view_is) at c.requires.kept in
    let count = c.args.last - c.self.inside.gone in
    let gone = c.saturating_sub-in_memory.result in
    let left = c.saturating_sub-self-inside.result in
    let of : List Entry → Journal = λ es. record {
      gone = c.args.last;
      entries = es;
      receivers = record { first = c.args.receiver + 1; attached = c.self.inside.attached };
      checkpoint = c.self.inside.checkpoint;
    } in
    let begin : c.self.inside.gone + 1 + count ≡ c.args.last + 1 = omega (arith, kept) in
    let blank : c.self.inside.passed - count ≡ left = omega (arith, c.saturating_sub-self-inside.ensures) in
    let dropped : count - c.self.inside.passed ≡ gone = omega (arith, c.saturating_sub-in_memory.ensures) in
    let same : drop count (blanks (c.self.inside.gone + 1) c.self.inside.passed ++ items) ≡ blanks (c.args.last + 1) left ++ drop gone items =
    drop-behind count (c.self.inside.gone + 1) c.self.inside.passed items ∙ rw (begin, blank, dropped) refl in
    rw (← c.self.view_is) (ap (λ (es : List Entry). of (blanks (c.args.last + 1) left ++ es)) c.drop_front.ensures.items ∙ ap of (sym same))
