-- What is true of the entries of slots: where they stand, and that no two are of one place.
use Rattle.std.proofs.Common.{◌≡◌, ℕ, ◌+◌, ◌<◌, ◌≤◌, Bool, Option, Some, None, List, [], ◌∷◌, ◌++◌, length, refl, sym, ◌∙◌, ap, arith, append_assoc}
use Rattle.std.specs.Prelude.{◌≢◌}
use Rattle.std.specs.List.{AllByRecursion}
use Rattle.std.specs.declared.cmp.Ordering.TheVariants.{Equal}
use Rattle.key_order.below.key_pages.specs.declared.entries.Entry.{Entry}
use Rattle.key_order.specs.Order.{entry_cmp, IsInOrder}
use Rattle.key_order.proofs.KeyPagesOrderLemmas.{entry_total, entry_exact}
use Rattle.member_slots.specs.declared.slot.Slot.{Slot}
use Rattle.member_slots.specs.declared.slot.Slot.TheVariants.{Deleted}
use Rattle.std.proofs.lemmas.List.{append-nil}
use Rattle.key_order.specs.Sorting.{in_order}
use Rattle.key_order.proofs.PathLemmas.{weaker, all-append}
use Rattle.access_path.specs.KeptEntries.{KeyOf, slot_key, entry_with, entries_at, entries_in, entries_from, kept}
use Rattle.access_path.proofs.OrderedLemmas.{Pairwise, pairwise-append, in_order-strict}

-- not both of one format and of one record
abbrev pub Apart : Entry → Entry → Type 0
Apart a b = a.format ≡ b.format → a.rrn ≡ b.rrn → ⊥

pub apart-differ : (falling : Bool) (a b : Entry) → Apart a b → entry_cmp falling a b ≢ Equal
apart-differ falling a b apart same =
    let one : a ≡ b = entry_exact falling a b same in
    apart (ap (λ (e : Entry). e.format) one) (ap (λ (e : Entry). e.rrn) one)

pub apart-back : (a b : Entry) → Apart a b → Apart b a
apart-back a b apart format rrn = apart (sym format) (sym rrn)

-- ---- where they stand

at-each : (P : Entry → Type 0) (format rrn : ℕ) (key : Option (List ℕ)) → ((k : List ℕ) → P (entry_with format rrn k)) → AllByRecursion P (entries_at format rrn key)
at-each P format rrn None so = tt
at-each P format rrn (Some key) so = (so key, tt)

pub in-format : (keys : KeyOf) (format rrn : ℕ) (slots : List Slot) → AllByRecursion (λ (e : Entry). e.format ≡ format) (entries_in keys format rrn slots)
in-format keys format rrn [] = tt
in-format keys format rrn (slot ∷ slots) =
    all-append (λ (e : Entry). e.format ≡ format) (entries_at format rrn (slot_key (keys format) slot)) (entries_in keys format (rrn + 1) slots)
    (at-each (λ (e : Entry). e.format ≡ format) format rrn (slot_key (keys format) slot) (λ k. refl)) (in-format keys format (rrn + 1) slots)

pub in-low : (keys : KeyOf) (format rrn : ℕ) (slots : List Slot) → AllByRecursion (λ (e : Entry). rrn ≤ e.rrn) (entries_in keys format rrn slots)
in-low keys format rrn [] = tt
in-low keys format rrn (slot ∷ slots) =
    all-append (λ (e : Entry). rrn ≤ e.rrn) (entries_at format rrn (slot_key (keys format) slot)) (entries_in keys format (rrn + 1) slots)
    (at-each (λ (e : Entry). rrn ≤ e.rrn) format rrn (slot_key (keys format) slot) (λ k. omega arith))
    (weaker (λ (e : Entry). rrn + 1 ≤ e.rrn) (λ (e : Entry). rrn ≤ e.rrn) (λ e h. omega (arith, h)) (entries_in keys format (rrn + 1) slots) (in-low keys format (rrn + 1) slots))

pub in-high : (keys : KeyOf) (format rrn : ℕ) (slots : List Slot) → AllByRecursion (λ (e : Entry). e.rrn < rrn + length slots) (entries_in keys format rrn slots)
in-high keys format rrn [] = tt
in-high keys format rrn (slot ∷ slots) =
    all-append (λ (e : Entry). e.rrn < rrn + length (slot ∷ slots)) (entries_at format rrn (slot_key (keys format) slot)) (entries_in keys format (rrn + 1) slots)
    (at-each (λ (e : Entry). e.rrn < rrn + length (slot ∷ slots)) format rrn (slot_key (keys format) slot) (λ k. omega arith))
    (weaker (λ (e : Entry). e.rrn < rrn + 1 + length slots) (λ (e : Entry). e.rrn < rrn + length (slot ∷ slots)) (λ e h. omega (arith, h))
    (entries_in keys format (rrn + 1) slots) (in-high keys format (rrn + 1) slots))

pub from-format : (keys : KeyOf) (format : ℕ) (slots : List (List Slot)) → AllByRecursion (λ (e : Entry). format ≤ e.format) (entries_from keys format slots)
from-format keys format [] = tt
from-format keys format (own ∷ others) =
    all-append (λ (e : Entry). format ≤ e.format) (entries_in keys format 1 own) (entries_from keys (format + 1) others)
    (weaker (λ (e : Entry). e.format ≡ format) (λ (e : Entry). format ≤ e.format) (λ e h. omega (arith, h)) (entries_in keys format 1 own) (in-format keys format 1 own))
    (weaker (λ (e : Entry). format + 1 ≤ e.format) (λ (e : Entry). format ≤ e.format) (λ e h. omega (arith, h)) (entries_from keys (format + 1) others) (from-format keys (format + 1) others))

pub from-high : (keys : KeyOf) (format : ℕ) (slots : List (List Slot)) → AllByRecursion (λ (e : Entry). e.format < format + length slots) (entries_from keys format slots)
from-high keys format [] = tt
from-high keys format (own ∷ others) =
    all-append (λ (e : Entry). e.format < format + length (own ∷ others)) (entries_in keys format 1 own) (entries_from keys (format + 1) others)
    (weaker (λ (e : Entry). e.format ≡ format) (λ (e : Entry). e.format < format + length (own ∷ others)) (λ e h. omega (arith, h)) (entries_in keys format 1 own) (in-format keys format 1 own))
    (weaker (λ (e : Entry). e.format < format + 1 + length others) (λ (e : Entry). e.format < format + length (own ∷ others)) (λ e h. omega (arith, h))
    (entries_from keys (format + 1) others) (from-high keys (format + 1) others))

-- ---- no two are of one place

at-apart : (format rrn : ℕ) (key : Option (List ℕ)) → Pairwise Apart (entries_at format rrn key)
at-apart format rrn None = tt
at-apart format rrn (Some key) = (tt, tt)

in-apart : (keys : KeyOf) (format rrn : ℕ) (slots : List Slot) → Pairwise Apart (entries_in keys format rrn slots)
in-apart keys format rrn [] = tt
in-apart keys format rrn (slot ∷ slots) =
    pairwise-append Apart (entries_at format rrn (slot_key (keys format) slot)) (entries_in keys format (rrn + 1) slots)
    (at-apart format rrn (slot_key (keys format) slot)) (in-apart keys format (rrn + 1) slots)
    (at-each (λ (a : Entry). AllByRecursion (Apart a) (entries_in keys format (rrn + 1) slots)) format rrn (slot_key (keys format) slot)
    (λ k. weaker (λ (e : Entry). rrn + 1 ≤ e.rrn) (Apart (entry_with format rrn k)) (λ e h _ same. omega (arith, h, same))
    (entries_in keys format (rrn + 1) slots) (in-low keys format (rrn + 1) slots)))

pub from-apart : (keys : KeyOf) (format : ℕ) (slots : List (List Slot)) → Pairwise Apart (entries_from keys format slots)
from-apart keys format [] = tt
from-apart keys format (own ∷ others) =
    pairwise-append Apart (entries_in keys format 1 own) (entries_from keys (format + 1) others)
    (in-apart keys format 1 own) (from-apart keys (format + 1) others)
    (weaker (λ (a : Entry). a.format ≡ format) (λ (a : Entry). AllByRecursion (Apart a) (entries_from keys (format + 1) others))
    (λ a here. weaker (λ (b : Entry). format + 1 ≤ b.format) (Apart a) (λ b h same _. omega (arith, here, h, same)) (entries_from keys (format + 1) others) (from-format keys (format + 1) others))
    (entries_in keys format 1 own) (in-format keys format 1 own))

pub differing : (falling : Bool) (entries : List Entry) → Pairwise Apart entries → Pairwise (λ a b. entry_cmp falling a b ≢ Equal) entries
differing falling [] apart = tt
differing falling (a ∷ entries) apart =
    (weaker (Apart a) (λ b. entry_cmp falling a b ≢ Equal) (λ b. apart-differ falling a b) entries apart.0, differing falling entries apart.1)

pub kept-strict : (keys : KeyOf) (falling : Bool) (slots : List (List Slot)) → IsInOrder falling (kept keys falling slots)
kept-strict keys falling slots =
    in_order-strict (entry_cmp falling) (entry_total falling) (entries_from keys 0 slots) (differing falling (entries_from keys 0 slots) (from-apart keys 0 slots))

-- ---- slots behind slots

pub in-append : (keys : KeyOf) (format rrn : ℕ) (front back : List Slot)
    → entries_in keys format rrn (front ++ back) ≡ entries_in keys format rrn front ++ entries_in keys format (rrn + length front) back
in-append keys format rrn [] back = ap (λ (n : ℕ). entries_in keys format n back) (let e : rrn ≡ rrn + 0 = omega arith in e)
in-append keys format rrn (slot ∷ front) back =
    ap (λ (t : List Entry). entries_at format rrn (slot_key (keys format) slot) ++ t)
    (in-append keys format (rrn + 1) front back
    ∙ ap (λ (n : ℕ). entries_in keys format (rrn + 1) front ++ entries_in keys format n back) (let e : rrn + 1 + length front ≡ rrn + length (slot ∷ front) = omega arith in e))
    ∙ sym (append_assoc (entries_at format rrn (slot_key (keys format) slot)) (entries_in keys format (rrn + 1) front) (entries_in keys format (rrn + length (slot ∷ front)) back))

pub from-append : (keys : KeyOf) (format : ℕ) (before others : List (List Slot))
    → entries_from keys format (before ++ others) ≡ entries_from keys format before ++ entries_from keys (format + length before) others
from-append keys format [] others = ap (λ (n : ℕ). entries_from keys n others) (let e : format ≡ format + 0 = omega arith in e)
from-append keys format (own ∷ before) others =
    ap (λ (t : List Entry). entries_in keys format 1 own ++ t)
    (from-append keys (format + 1) before others
    ∙ ap (λ (n : ℕ). entries_from keys (format + 1) before ++ entries_from keys n others) (let e : format + 1 + length before ≡ format + length (own ∷ before) = omega arith in e))
    ∙ sym (append_assoc (entries_in keys format 1 own) (entries_from keys (format + 1) before) (entries_from keys (format + length (own ∷ before)) others))

pub kept-deleted : (keys : KeyOf) (falling : Bool) (before after : List (List Slot)) (slots : List Slot)
    → kept keys falling (before ++ (slots ++ Deleted ∷ []) ∷ after) ≡ kept keys falling (before ++ slots ∷ after)
kept-deleted keys falling before after slots =
    let format = 0 + length before in
    let same : entries_in keys format 1 (slots ++ Deleted ∷ []) ≡ entries_in keys format 1 slots = in-append keys format 1 slots (Deleted ∷ []) ∙ append-nil (entries_in keys format 1 slots) in
    ap (in_order (entry_cmp falling))
    (from-append keys 0 before ((slots ++ Deleted ∷ []) ∷ after)
    ∙ ap (λ (t : List Entry). entries_from keys 0 before ++ (t ++ entries_from keys (format + 1) after)) same
    ∙ sym (from-append keys 0 before (slots ∷ after)))
