use Rattle.std.proofs.Common.{◌∙◌, ◌+◌, ◌≤◌, inl, inr, length, ap, subst}
use Rattle.receiver_chain.specs.Chain.{ChainState}
use Rattle.journal_book.specs.Book.{BookState}
use Rattle.kept_journal.proofs.CallLemmas.{ok-map, taken-held, taken-holds, taken-moments, taken-next, taken-place}
use Rattle.kept_journal.proofs.journal.KeptJournal.put_call.Goals as goal

pub settle-requires-clause-held : goal.settle-requires-clause-held
settle-requires-clause-held g c = λ tells. taken-held c.args.self.now c.take.new.self c.args.entries.now (g.S.Store.disk c.args.store.now) c.take.ensures.taken c.take.ensures.holds (c.requires.held tells)

pub settle-requires-clause-place : goal.settle-requires-clause-place
settle-requires-clause-place g c = taken-place c.args.self.now c.take.new.self c.args.entries.now (g.S.Store.disk c.args.store.now) c.take.ensures.taken c.take.ensures.holds c.requires.place

pub returns-clause-kept : goal.returns-clause-kept
returns-clause-kept g c = ok-map c.settle.result c.settle.ensures.kept (λ kept tells all holds. kept tells _ (taken-holds c.args.self.now c.take.new.self c.args.entries.now (g.S.Store.disk c.args.store.now) c.take.ensures.taken c.take.ensures.holds all holds))

pub returns-clause-moments : goal.returns-clause-moments
returns-clause-moments g c = λ tells all holds.
    taken-moments c.args.self.now c.take.new.self c.args.entries.now (g.S.Store.disk c.args.store.now) c.take.ensures.taken c.take.ensures.holds (g.S.Store.disk c.settle.new.store) all (c.settle.ensures.moments tells _ (taken-holds c.args.self.now c.take.new.self c.args.entries.now (g.S.Store.disk c.args.store.now) c.take.ensures.taken c.take.ensures.holds all holds))

pub returns-clause-next : goal.returns-clause-next
returns-clause-next g c = ok-map c.settle.result c.settle.ensures.next (λ same. same ∙ taken-next c.args.self.now c.take.new.self c.args.entries.now (g.S.Store.disk c.args.store.now) c.take.ensures.taken c.take.ensures.holds)

pub returns-clause-first : goal.returns-clause-first
returns-clause-first g c = c.settle.ensures.first ∙ ap (λ (b : BookState). b.first) c.take.ensures.taken

pub returns-clause-receiver : goal.returns-clause-receiver
returns-clause-receiver g c = c.settle.ensures.receiver ∙ ap (λ (b : BookState). b.chain.first) c.take.ensures.taken

pub returns-clause-number : goal.returns-clause-number
returns-clause-number g c = c.settle.ensures.number ∙ ap (λ (b : BookState). b.chain.first + length b.chain.earlier) c.take.ensures.taken

pub returns-clause-less_places : goal.returns-clause-less_places
returns-clause-less_places g c =
    ok-map c.settle.result c.settle.ensures.less_places (λ less. subst (λ (chain : ChainState). chain.room ≤ c.settle.new.self.chain.room + 1) (ap (λ (b : BookState). b.chain) c.take.ensures.taken) less)

pub returns-clause-whole : goal.returns-clause-whole
returns-clause-whole g c = ok-map c.settle.result c.settle.ensures.whole (λ which. elim which [ inl same ↦ inl (same ∙ ap (λ (b : BookState). b.forced) c.take.ensures.taken) | inr none ↦ inr none ])
