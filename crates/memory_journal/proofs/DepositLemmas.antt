-- Two deposits one after the other are one of both drafts.
use Rattle.std.proofs.Common.{◌≡◌, ◌∙◌, ℕ, ◌+◌, List, [], ◌∷◌, ◌++◌, ap, append_assoc, arith, length-append}
use Rattle.entry_codec.specs.declared.entries.Entry.{Entry}
use Rattle.entry_codec.specs.declared.entries.Draft.{Draft}
use Rattle.entry_codec.specs.Drafts.{numbered}
use Rattle.memory_journal.specs.Journal.{Journal, deposited, last_entry}

next_number : (j : Journal) (first : Draft) → last_entry (deposited (first ∷ []) j) + 1 ≡ last_entry j + 1 + 1
next_number j first = omega (arith, length-append j.entries (numbered first (last_entry j + 1) ∷ []))

pub deposited-two : (j : Journal) (first second : Draft) → deposited (second ∷ []) (deposited (first ∷ []) j) ≡ deposited (first ∷ second ∷ []) j
deposited-two j first second =
    ap (λ (es : List Entry). record j { entries = es })
    (ap (λ (n : ℕ). (j.entries ++ numbered first (last_entry j + 1) ∷ []) ++ numbered second n ∷ []) (next_number j first)
    ∙ append_assoc j.entries (numbered first (last_entry j + 1) ∷ []) (numbered second (last_entry j + 1 + 1) ∷ []))
