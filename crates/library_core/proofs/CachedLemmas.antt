-- The blocks of the journal that a library keeps decoded are stretches of it also behind a call, which leaves its entries or puts others behind them.
use Rattle.std.proofs.Common.{◌≡◌, ◌⊎◌, inl, inr, ℕ, Bool, false, List, [], ◌∷◌, ◌++◌, append-nil, sym, ◌∙◌, ap, subst, arith}
use Rattle.store_model.specs.Disk.{Disk, Stays}
use Rattle.entry_codec.specs.declared.entries.Entry.{Entry}
use Rattle.journal_model.specs.Journal.{AreNumbered}
use Rattle.journal_book.specs.Book.{BookState, HasMoreRoom, Holds}
use Rattle.journal_book.proofs.Deposits.{more_holds, stays_holds}
use Rattle.block_cache.specs.Cached.{AreStretches, IsStretch}
use Rattle.block_cache.proofs.OneJournal.{one_journal}
use Rattle.block_cache.proofs.Stretches.{stretches_more}
use Rattle.library_model.specs.declared.calls.Call.{Call}
use Rattle.library_model.specs.declared.replies.Reply.{Reply}
use Rattle.library_model.specs.declared.sources.NamedSource.{NamedSource}
use Rattle.library_steps.specs.State.{State}
use Rattle.record_changes.specs.Sound.{MayAnswerReading}
use Rattle.kept_library.specs.Journaled.{IsRemembered}
use Rattle.kept_library.specs.Unread.{IsUnread}
use Rattle.library_core.specs.Cached.{AreCached}
use Rattle.library_core.specs.Puts.{HasCome, entries_reading}

-- ---- a list with others behind it

-- a journal without entries has no stretch
no-stretch : (first : ℕ) (block : List Entry) → IsStretch first [] block → ⊥
no-stretch first [] is = is
no-stretch first (e ∷ more) is = absurd (omega (arith, is.0, is.1))

-- by whichever sequence the two are said to begin: their entries tell
stretches-on : (first later : ℕ) (entries more : List Entry) (blocks : List (List Entry)) → AreNumbered first entries → AreNumbered later (entries ++ more) → AreStretches first entries blocks
    → AreStretches later (entries ++ more) blocks
stretches-on first later [] more [] numbered longer are = tt
stretches-on first later [] more (block ∷ blocks) numbered longer are = absurd (no-stretch first block are.0)
stretches-on first later (e ∷ entries) more blocks numbered longer are =
    subst (λ (n : ℕ). AreStretches n ((e ∷ entries) ++ more) blocks) (sym numbered.0 ∙ longer.0) (stretches_more first (e ∷ entries) more blocks are)

-- ---- the journal

-- where the journal has gone on behind its entries
cached-on : (tells : Type 0) (old new : Disk) (before after : BookState) (entries later : List Entry) (blocks : List (List Entry)) → (tells → Holds before entries old)
    → (tells → Holds after later new) → ((more : List Entry) × (later ≡ entries ++ more)) → AreCached tells before old blocks → AreCached tells after new blocks
cached-on tells old new before after entries later blocks held goes on cached = λ told all holds.
    let here = held told in
    let there = goes told in
    let numbered = subst (λ (l : List Entry). AreNumbered after.first l) on.1 there.keeps.numbered in
    subst (λ (l : List Entry). AreStretches after.first l blocks) (sym on.1 ∙ one_journal after later all new there holds)
    (stretches-on before.first after.first entries on.0 blocks here.keeps.numbered numbered (cached told entries here))

-- where it was read
pub stays-cached : (tells : Type 0) (old mid : Disk) (book : BookState) (blocks : List (List Entry)) → Stays old mid → AreCached tells book mid blocks → AreCached tells book old blocks
stays-cached tells old mid book blocks stays cached = λ told all holds. cached told all (stays_holds book all old mid stays holds)

-- where more room was made
pub room-cached : (tells : Type 0) (disk : Disk) (before after : BookState) (m s : State) (blocks : List (List Entry)) → IsRemembered tells disk before m s → HasMoreRoom before after
    → AreCached tells before disk blocks → AreCached tells after disk blocks
room-cached tells disk before after m s blocks is more cached =
    cached-on tells disk disk before after s.entries s.entries blocks is.journaled.holds (λ told. more_holds before after s.entries disk more (is.journaled.holds told))
    ([], sym (append-nil s.entries)) cached

-- ---- a call

answered-on : (tells : Type 0) (sources : List NamedSource) (read : List Entry) (s t : State) (call : Call)
    → MayAnswerReading sources read s call.job call.timestamp call.request call.reply t ⊎ IsUnread tells s call t
    → ((more : List Entry) × (entries_reading sources read s call ≡ s.entries ++ more)) → (more : List Entry) × (t.entries ≡ s.entries ++ more)
answered-on tells sources read s t call (inl (inl done)) front = (front.0, ap (λ (p : State × Reply). p.0.entries) done ∙ front.1)
answered-on tells sources read s t call (inl (inr wanting)) front = ([], ap (λ (u : State). u.entries) wanting.0 ∙ sym (append-nil s.entries))
answered-on tells sources read s t call (inr unread) front = ([], ap (λ (u : State). u.entries) unread.same ∙ sym (append-nil s.entries))

pub come-cached : (tells : Type 0) (sources : List NamedSource) (old new : Disk) (before after : BookState) (m n s : State) (call : Call) (failed : Bool) (blocks : List (List Entry))
    → IsRemembered tells old before m s → HasCome tells sources old new before after n s call failed → failed ≡ false → AreCached tells before old blocks → AreCached tells after new blocks
come-cached tells sources old new before after m n s call failed blocks is come alive cached =
    cached-on tells old new before after s.entries come.to.entries blocks is.journaled.holds (come.put.journaled alive).holds
    (answered-on tells sources come.read s come.to call (come.answered.answered alive) come.put.front) cached
