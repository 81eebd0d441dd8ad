use Rattle.std.proofs.Common.{◌≡◌, ◌∙◌, ◌+◌, [], ◌∷◌, ◌++◌, length, arith, length-append, ap, sym, subst}
use Rattle.entry_codec.specs.declared.entries.Entry.{Entry}
use Rattle.lawful_states.proofs.NumberLemmas.{numbered-more}
use Rattle.memory_journal.specs.Blanks.{in_memory}
use Rattle.memory_journal.proofs.BlankLemmas.{length_behind, memory-more}
use Rattle.memory_journal.proofs.journal.MemoryJournal.push.Goals as goal

pub invariant_of-self : goal.invariant_of-self
invariant_of-self c =
    let items = c.self.inside.entries.items in
    let last = rw (← c.self.view_is) at c.bounds-last.ensures.last in
    let whole = length_behind (c.self.inside.gone + 1) c.self.inside.passed items in
    let next : c.numbered.result.sequence ≡ c.self.inside.gone + 1 + c.self.inside.passed + length items =
    ap (λ (e : Entry). e.sequence) c.numbered.ensures ∙ omega (arith, last, whole) in
    rw c.push_reserved.ensures.items (
      omega (arith, length-append items (c.numbered.result ∷ []), whole, rw (← c.self.view_is) at c.requires),
      numbered-more (c.self.inside.gone + 1 + c.self.inside.passed) items c.numbered.result c.self.invariant.1 next,
      subst (λ (e : Entry). in_memory (items ++ e ∷ []) ≡ items ++ e ∷ []) (sym c.numbered.ensures) (memory-more items c.args.draft _ c.self.invariant.2),
    )
