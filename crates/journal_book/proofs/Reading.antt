-- Blocks are the entries of one list alone.
use Rattle.std.proofs.Common.{◌≡◌, ℕ, ◌+◌, List, [], ◌∷◌, ◌++◌, length, refl, sym, ◌∙◌, ap, subst, arith, length-append}
use Rattle.std.specs.List.{AllByRecursion}
use Rattle.store_model.specs.Disk.{Areas}
use Rattle.entry_codec.specs.declared.entries.Entry.{Entry}
use Rattle.entry_codec.specs.Spelling.{IsSpelled, spelling}
use Rattle.entry_codec.proofs.EntryLaws.{one_spelling}
use Rattle.entry_codec.proofs.Lengths.{length-spelling}
use Rattle.receiver_chain.specs.Receivers.{Receiver, Kept}
use Rattle.receiver_chain.proofs.ReadingLaws.{one_chain}
use Rattle.journal_book.specs.Entries.{spelled, IsBlock, AreBlocks, flat, AreReceivers, all_groups, HoldsEntries}
use Rattle.journal_book.specs.Kept.{SpellEntries}

-- an entry has bytes
pub some_bytes : (e : Entry) (rest : List ℕ) → [] ≡ spelling e ++ rest → ⊥
some_bytes e rest is = omega (arith, ap length is, length-append (spelling e) rest, length-spelling e)

one_group : (xs ys : List Entry) → AllByRecursion IsSpelled xs → AllByRecursion IsSpelled ys → spelled xs ≡ spelled ys → xs ≡ ys
one_group [] [] all each same = refl
one_group [] (b ∷ ys) all each same = absurd (some_bytes b (spelled ys) same)
one_group (a ∷ xs) [] all each same = absurd (some_bytes a (spelled xs) (sym same))
one_group (a ∷ xs) (b ∷ ys) all each same =
    let parts = one_spelling a b (spelled xs) (spelled ys) all.0 each.0 same in
    ap (λ (e : Entry). e ∷ xs) parts.0 ∙ ap (λ (l : List Entry). b ∷ l) (one_group xs ys all.1 each.1 parts.1)

pub one_block : (xs ys : List Entry) (block : List ℕ) → IsBlock xs block → IsBlock ys block → xs ≡ ys
one_block xs ys block is same = one_group xs ys is.each same.each (sym is.whole ∙ same.whole)

pub one_blocks : (xs ys : List (List Entry)) (blocks : List (List ℕ)) → AreBlocks xs blocks → AreBlocks ys blocks → xs ≡ ys
one_blocks [] [] [] are same = refl
one_blocks [] (b ∷ ys) [] are same = absurd same
one_blocks (a ∷ xs) ys [] are same = absurd are
one_blocks [] ys (block ∷ blocks) are same = absurd are
one_blocks (a ∷ xs) [] (block ∷ blocks) are same = absurd same
one_blocks (a ∷ xs) (b ∷ ys) (block ∷ blocks) are same =
    ap (λ (e : List Entry). e ∷ xs) (one_block a b block are.0 same.0) ∙ ap (λ (l : List (List Entry)). b ∷ l) (one_blocks xs ys blocks are.1 same.1)

one_receivers : (n : ℕ) (rs : List Receiver) (xs ys : List (List (List Entry))) (attached : Receiver) (last final : List (List Entry)) → AreReceivers n rs xs attached last → AreReceivers n rs ys attached final → all_groups xs last ≡ all_groups ys final
one_receivers n [] [] [] attached last final are same = one_blocks last final attached.blocks are.0 same.0
one_receivers n [] [] (b ∷ ys) attached last final are same = absurd same
one_receivers n [] (a ∷ xs) ys attached last final are same = absurd are
one_receivers n (r ∷ rs) [] ys attached last final are same = absurd are
one_receivers n (r ∷ rs) (a ∷ xs) [] attached last final are same = absurd same
one_receivers n (r ∷ rs) (a ∷ xs) (b ∷ ys) attached last final are same =
    ap (λ (g : List (List Entry)). g ++ all_groups xs last) (one_blocks a b r.blocks are.0 same.0) ∙ ap (λ (l : List (List Entry)). b ++ l) (one_receivers (n + 1) rs xs ys attached last final are.2 same.2)

pub one_list : (receiver : ℕ) (entries other : List Entry) (areas : Areas) → SpellEntries receiver entries areas → SpellEntries receiver other areas → entries ≡ other
one_list receiver entries other areas spells same =
    let kept = one_chain receiver spells.kept same.kept areas spells.chained same.chained in
    let there = subst (λ (k : Kept). HoldsEntries receiver k entries) kept spells.holds in
    there.all ∙ ap (λ (g : List (List Entry)). flat g) (one_receivers receiver same.kept.earlier there.earlier same.holds.earlier same.kept.attached there.last same.holds.last there.receivers same.holds.receivers) ∙ sym same.holds.all
