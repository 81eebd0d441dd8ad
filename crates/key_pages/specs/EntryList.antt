-- What is a sorted list of entries, and what do an insert and a removal make of it?
-- Source: IBM i, Database Programming (Access paths).
use Rattle.std.specs.Prelude.{◌≡◌, ℕ, ◌+◌, ◌<◌, Bool, List, length, slice_index, ◌∷◌, ◌++◌, filter}
use Rattle.std.specs.Ordering.{is_lt, is_gt, is_ne}
use Rattle.key_pages.specs.declared.entries.Entry.{Entry}
use Rattle.key_pages.specs.declared.entries.EntryRef.{EntryRef}
use Rattle.key_pages.specs.declared.page.TheConstants.{FILLED_PAGE_ENTRIES}
use Rattle.key_pages.specs.Order.{entry_cmp}

-- the entries in order, whether ties fall, for how many inserts there is memory, and how many entries each page holds
pub record EntryList : Type 0 where
  pub entries : List Entry
  pub falling : Bool
  pub spare : ℕ
  pub pages : List ℕ

-- pages that were filled in order: all but the last two hold so many
abbrev pub IsFilled : List ℕ → Type 0
IsFilled pages = (k : ℕ) → k + 2 < length pages → slice_index pages k ≡ FILLED_PAGE_ENTRIES

-- the entry that has these
abbrev pub entry_of : EntryRef → Entry
entry_of entry = record { key = entry.key.now; format = entry.format; rrn = entry.rrn }

-- the lesser entries, this one, the greater ones
abbrev pub with_entry : Bool → Entry → List Entry → List Entry
with_entry falling entry entries =
    filter (λ other. is_lt (entry_cmp falling other entry)) entries ++ entry ∷ filter (λ other. is_gt (entry_cmp falling other entry)) entries

-- the other entries
abbrev pub without_entry : Bool → Entry → List Entry → List Entry
without_entry falling entry entries = filter (λ other. is_ne (entry_cmp falling other entry)) entries
