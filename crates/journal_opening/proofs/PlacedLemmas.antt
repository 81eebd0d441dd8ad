-- The entries that areas spell name what their kinds want.
use Rattle.std.proofs.Common.{ℕ, ◌+◌, List, [], ◌∷◌, ◌++◌, sym, subst}
use Rattle.std.specs.List.{AllByRecursion}
use Rattle.store_model.specs.Disk.{Areas}
use Rattle.entry_codec.specs.declared.entries.Entry.{Entry}
use Rattle.entry_codec.specs.Spelling.{IsSpelled}
use Rattle.receiver_chain.specs.Receivers.{Receiver}
use Rattle.journaled_entries.specs.Deposited.{ArePlaced}
use Rattle.journal_book.specs.Entries.{AreBlocks, AreReceivers, all_groups, flat}
use Rattle.journal_book.specs.Kept.{SpellEntries}
use Rattle.journal_book.proofs.Forcing.{flat-append}

placed-both : (entries more : List Entry) → ArePlaced entries → ArePlaced more → ArePlaced (entries ++ more)
placed-both [] more are rest = rest
placed-both (e ∷ entries) more are rest = (are.0, placed-both entries more are.1 rest)

placed-spelled : (entries : List Entry) → AllByRecursion IsSpelled entries → ArePlaced entries
placed-spelled [] each = tt
placed-spelled (e ∷ entries) each = (each.0.has.placed, placed-spelled entries each.1)

placed-blocks : (groups : List (List Entry)) (blocks : List (List ℕ)) → AreBlocks groups blocks → ArePlaced (flat groups)
placed-blocks [] [] are = tt
placed-blocks (entries ∷ groups) (block ∷ blocks) are = placed-both entries (flat groups) (placed-spelled entries are.0.each) (placed-blocks groups blocks are.1)
placed-blocks [] (block ∷ blocks) are = absurd are
placed-blocks (entries ∷ groups) [] are = absurd are

placed-receivers : (number : ℕ) (rs : List Receiver) (earlier : List (List (List Entry))) (attached : Receiver) (last : List (List Entry)) → AreReceivers number rs earlier attached last
    → ArePlaced (flat (all_groups earlier last))
placed-receivers number [] [] attached last are = placed-blocks last attached.blocks are.0
placed-receivers number (r ∷ rs) (groups ∷ more) attached last are =
    subst (λ (l : List Entry). ArePlaced l) (sym (flat-append groups (all_groups more last)))
    (placed-both (flat groups) (flat (all_groups more last)) (placed-blocks groups r.blocks are.0) (placed-receivers (number + 1) rs more attached last are.2))
placed-receivers number [] (groups ∷ more) attached last are = absurd are
placed-receivers number (r ∷ rs) [] attached last are = absurd are

pub spelled-placed : (receiver : ℕ) (entries : List Entry) (areas : Areas) → SpellEntries receiver entries areas → ArePlaced entries
spelled-placed receiver entries areas spells =
    subst (λ (l : List Entry). ArePlaced l) (sym spells.holds.all)
    (placed-receivers receiver spells.kept.earlier spells.holds.earlier spells.kept.attached spells.holds.last spells.holds.receivers)
