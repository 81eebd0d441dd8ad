use Rattle.std.proofs.Common.{◌≡◌, ◌⊎◌, ◌+◌, ◌^◌, ◌<◌, ◌≤◌, ◌++◌, List, length, OnOk, IsErrOf, sym, subst}
use Rattle.store_model.specs.Disk.{Leaves}
use Rattle.entry_codec.specs.declared.entries.Entry.{Entry}
use Rattle.entry_codec.specs.declared.kinds.EntryKind.TheVariants.{NextReceiver, PreviousReceiver}
use Rattle.entry_codec.specs.Drafts.{numbered}
use Rattle.entry_codec.specs.Spelling.{HasSpelling}
use Rattle.receiver_chain.specs.declared.fault.ChainFault.TheVariants.{NoMemory}
use Rattle.receiver_chain.specs.declared.numbers.TheConstants.{MAX_RECEIVER}
use Rattle.receiver_chain.specs.Chain.{attached_of}
use Rattle.journal_book.specs.Book.{BookState, Holds, IsHeld, last_of, next_of}
use Rattle.journal_book.specs.Kept.{IsForcedOrFrom}
use Rattle.journal_book.specs.Switch.{tied_by}
use Rattle.kept_journal.proofs.Rooms.{same-room}
use Rattle.kept_journal.proofs.journal.KeptJournal.switch.Goals as goal

pub switch-requires-clause-held : goal.switch-requires-clause-held
switch-requires-clause-held g c = λ tells. subst (λ (v : BookState). IsHeld v (g.S.Store.disk c.args.store.now)) (sym c.self.view_is) (c.requires.held tells)

pub switch-requires-clause-begun : goal.switch-requires-clause-begun
switch-requires-clause-begun g c = c.self.invariant.begun

pub switch-requires-clause-place : goal.switch-requires-clause-place
switch-requires-clause-place g c = subst (λ (v : BookState). 0 < v.waiting → 0 < v.chain.room) (sym c.self.view_is) c.requires.place

pub switch-requires-clause-small : goal.switch-requires-clause-small
switch-requires-clause-small g c = c.self.invariant.small

pub switch-requires-clause-below : goal.switch-requires-clause-below
switch-requires-clause-below g c = subst (λ (v : BookState). attached_of v.chain < MAX_RECEIVER) (sym c.self.view_is) c.requires.below

pub switch-requires-clause-ends : goal.switch-requires-clause-ends
switch-requires-clause-ends g c = subst (λ (v : BookState). c.args.nr.kind ≡ NextReceiver (attached_of v.chain + 1)) (sym c.self.view_is) c.requires.ends

pub switch-requires-clause-begins : goal.switch-requires-clause-begins
switch-requires-clause-begins g c = subst (λ (v : BookState). c.args.pr.kind ≡ PreviousReceiver (attached_of v.chain)) (sym c.self.view_is) c.requires.begins

pub switch-requires-clause-nr_spelled : goal.switch-requires-clause-nr_spelled
switch-requires-clause-nr_spelled g c = subst (λ (v : BookState). HasSpelling (numbered c.args.nr (next_of v))) (sym c.self.view_is) c.requires.nr_spelled

pub switch-requires-clause-pr_spelled : goal.switch-requires-clause-pr_spelled
switch-requires-clause-pr_spelled g c = subst (λ (v : BookState). HasSpelling (numbered c.args.pr (next_of v + 1))) (sym c.self.view_is) c.requires.pr_spelled

pub switch-requires-clause-few : goal.switch-requires-clause-few
switch-requires-clause-few g c = subst (λ (v : BookState). last_of v ≤ 2 ^ 63) (sym c.self.view_is) c.requires.few

pub invariant_of-self : goal.invariant_of-self
invariant_of-self g c = same-room c.self.inside.book c.switch.new.self c.switch.ensures.still_begun c.switch.ensures.freed c.switch.ensures.no_longer c.self.invariant

pub returns-clause-switched : goal.returns-clause-switched
returns-clause-switched g c =
    subst (λ (v : BookState). OnOk c.switch.result (g.S.Store.tells → (entries : List Entry) → Holds v entries (g.S.Store.disk c.args.store.now) → Holds c.switch.new.self (entries ++ tied_by c.args.nr c.args.pr (next_of v)) (g.S.Store.disk c.switch.new.store))) c.self.view_is
    c.switch.ensures.switched

pub returns-clause-exactly : goal.returns-clause-exactly
returns-clause-exactly g c =
    subst (λ (v : BookState). g.S.Store.tells → (entries : List Entry) → Holds v entries (g.S.Store.disk c.args.store.now) → Leaves (g.S.Store.disk c.args.store.now) (g.S.Store.disk c.switch.new.store) (IsForcedOrFrom v.chain.first v.forced (length entries) (entries ++ tied_by c.args.nr c.args.pr (next_of v)))) c.self.view_is
    c.switch.ensures.exactly

pub returns-clause-no_memory : goal.returns-clause-no_memory
returns-clause-no_memory g c =
    subst (λ (v : BookState). IsErrOf c.switch.result NoMemory → g.S.Store.tells → (entries : List Entry) → Holds v entries (g.S.Store.disk c.args.store.now) → Holds c.switch.new.self entries (g.S.Store.disk c.switch.new.store)) c.self.view_is
    c.switch.ensures.no_memory

pub returns-clause-wanting : goal.returns-clause-wanting
returns-clause-wanting g c =
    subst (λ (v : BookState). IsErrOf c.switch.result NoMemory → g.S.Store.tells → (entries : List Entry) → Holds v entries (g.S.Store.disk c.args.store.now) → Leaves (g.S.Store.disk c.args.store.now) (g.S.Store.disk c.switch.new.store) (IsForcedOrFrom v.chain.first v.forced (length entries) entries)) c.self.view_is
    c.switch.ensures.wanting

pub returns-clause-same_next : goal.returns-clause-same_next
returns-clause-same_next g c = subst (λ (v : BookState). IsErrOf c.switch.result NoMemory → next_of c.switch.new.self ≡ next_of v) c.self.view_is c.switch.ensures.same_next

pub returns-clause-same_forced : goal.returns-clause-same_forced
returns-clause-same_forced g c =
    subst (λ (v : BookState). IsErrOf c.switch.result NoMemory → (c.switch.new.self.forced ≡ v.forced) ⊎ (c.switch.new.self.waiting ≡ 0)) c.self.view_is
    c.switch.ensures.same_forced

pub returns-clause-same_places : goal.returns-clause-same_places
returns-clause-same_places g c =
    subst (λ (v : BookState). IsErrOf c.switch.result NoMemory → v.chain.room ≤ c.switch.new.self.chain.room + 1) c.self.view_is c.switch.ensures.same_places

pub returns-clause-no_longer : goal.returns-clause-no_longer
returns-clause-no_longer g c = subst (λ (v : BookState). length c.switch.new.self.buffered ≤ length v.buffered) c.self.view_is c.switch.ensures.no_longer
