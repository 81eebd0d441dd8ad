-- A book holds one list of entries, so that what is said of the journal before a call that changes nothing is so behind it.
use Rattle.std.proofs.Common.{◌≡◌, ℕ, ◌+◌, ◌≤◌, ◌<◌, List, [], ◌∷◌, ◌++◌, length, refl, sym, ◌∙◌, ap, subst}
use Rattle.std.proofs.Math.Logic.{∥∥₁_elim}
use Rattle.std.specs.Coded.{Coded-set, coded_list, le_prop}
use Rattle.std.specs.List.{AllByRecursion-prop}
use mathlib.Core.HLevel.{×₃_prop}
use Rattle.store_model.specs.Disk.{Disk, Stays}
use Rattle.entry_codec.specs.contracts.entries.Entry.{the_row}
use Rattle.entry_codec.specs.declared.entries.Entry.{Entry}
use Rattle.receiver_chain.proofs.Switches.{chained_same}
use Rattle.journal_book.specs.Book.{BookState, Holds, IsHeld}
use Rattle.journal_book.specs.Kept.{SpellEntries}
use Rattle.journal_book.specs.Reads.{between}
use Rattle.journal_book.proofs.Deposits.{stays_holds}
use Rattle.journal_book.proofs.Reading.{one_block, one_list}
use Rattle.block_cache.specs.Cached.{AreStretches, IsStretch}

forced_spelled : (book : BookState) (entries : List Entry) (disk : Disk) (holds : Holds book entries disk) → SpellEntries book.chain.first holds.keeps.front disk.seen
forced_spelled book entries disk holds = record {
  kept = holds.kept;
  chained = chained_same book.chain.first book.chain.room book.chain.earlier book.chain.attached holds.kept disk holds.chain disk.seen (λ m from below. refl) refl;
  holds = holds.keeps.on_disk;
}

pub one_journal : (book : BookState) (entries other : List Entry) (disk : Disk) → Holds book entries disk → Holds book other disk → entries ≡ other
one_journal book entries other disk holds also =
    let forced = one_list book.chain.first holds.keeps.front also.keeps.front disk.seen (forced_spelled book entries disk holds) (forced_spelled book other disk also) in
    let waiting = one_block holds.keeps.tail also.keeps.tail book.buffered holds.keeps.block also.keeps.block in
    holds.keeps.all ∙ ap (λ (l : List Entry). l ++ holds.keeps.tail) forced ∙ ap (λ (l : List Entry). also.keeps.front ++ l) waiting ∙ sym also.keeps.all

stretch_prop : (first : ℕ) (entries block : List Entry) → IsProp (IsStretch first entries block)
stretch_prop first entries [] = λ p q. absurd p
stretch_prop first entries (e ∷ more) =
    let whole = between first e.sequence (e.sequence + length more) entries in
    let same : IsProp (e ∷ more ≡ whole) = Coded-set (coded_list the_row.coded) (e ∷ more) whole in
    let shape : IsProp ((first ≤ e.sequence) × (e.sequence + length more < first + length entries) × (e ∷ more ≡ whole)) = ×₃_prop le_prop le_prop same in
    shape

pub stretches_again : (book : BookState) (blocks : List (List Entry)) (old new : Disk) → Stays old new → IsHeld book old
    → ((all : List Entry) → Holds book all old → AreStretches book.first all blocks) → (all : List Entry) → Holds book all new → AreStretches book.first all blocks
stretches_again book blocks old new stays held cached all holds =
    ∥∥₁_elim held (AllByRecursion-prop (IsStretch book.first all) (λ block. stretch_prop book.first all block) blocks)
    (λ has. subst (λ (l : List Entry). AreStretches book.first l blocks) (one_journal book has.0 all new (stays_holds book has.0 old new stays has.1) holds) (cached has.0 has.1))
