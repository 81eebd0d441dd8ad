-- How do the entries of a list stand in pages?
-- Source: IBM i, Database Programming (Access paths).
use Rattle.std.specs.Prelude.{◌≡◌, ℕ, ◌+◌, ◌*◌, ◌-◌, ◌<◌, ◌≤◌, Bool, true, false, List, [], ◌∷◌, ◌++◌, length, take, drop, insert, remove, All, Contains, Some}
use Rattle.std.specs.List.{AllWithin, flat_map, slice_get, slice_index_or}
use Rattle.std.specs.declared.cmp.Ordering.TheVariants.{Less, Greater}
use Rattle.key_pages.specs.declared.entries.Entry.{Entry}
use Rattle.key_pages.specs.declared.positions.Position.{Position}
use Rattle.key_pages.specs.declared.page.TheConstants.{MOST_PAGE_ENTRIES, LEAST_PAGE_ENTRIES}
use Rattle.key_pages.specs.Order.{entry_cmp, IsInOrder}
use Rattle.key_pages.specs.Position.{side_of}
use Rattle.key_pages.specs.EntryList.{with_entry, without_entry}
use Rattle.key_pages.specs.Search.{is_passed}

-- the pages in use, in order, and how many are free
pub record PageList : Type 0 where
  pub pages : List (List Entry)
  pub free : ℕ

-- pages in order, and for how many there is memory
pub record PageRow : Type 0 where
  pub items : List (List Entry)
  pub room : ℕ

-- the pages of two rings: so many in the first and in the second, and for how many either has memory
pub record AreHalves (front back room most most_back : ℕ) : Type 0 where
  pub even : back ≤ front
  pub near : front ≤ back + 1
  pub within : front + back ≤ room
  pub front_room : room ≤ 2 * (most - 1)
  pub back_room : room ≤ 2 * (most_back - 1)

-- the entries of the pages, one page after another
abbrev pub entries_of : List (List Entry) → List Entry
entries_of pages = flat_map (λ page. page) pages

-- the entries of the page with this number, counted from 0
abbrev pub page_at : List (List Entry) → ℕ → List Entry
page_at pages number = slice_index_or pages number []

-- all entries, where a page had these in the place of its own
abbrev pub with_page : List (List Entry) → ℕ → List Entry → List Entry
with_page pages number page = entries_of (take number pages) ++ (page ++ entries_of (drop (number + 1) pages))

-- each page has an entry and none has too many; where there are two pages or more, none has too few
pub record AreSized (pages : List (List Entry)) : Type 0 where
  pub some : All (λ page. 0 < length page) pages
  pub most : All (λ page. length page ≤ MOST_PAGE_ENTRIES) pages
  pub least : 1 < length pages → All (λ page. LEAST_PAGE_ENTRIES ≤ length page) pages

-- a search for a position leaves the first entry of this page behind
abbrev pub begins_passed : Bool → Bool → Position → List Entry → Bool
begins_passed itself falling from [] = false
begins_passed itself falling from (entry ∷ rest) = is_passed itself (side_of falling from entry)

-- pages in use and free ones, so many together, and room for as many in the list of either
pub record AreKept (pages free : List (List Entry)) (count most most_free : ℕ) : Type 0 where
  pub sized : AreSized pages
  pub empty : All (λ page. page ≡ []) free
  pub room : count ≤ most
  pub free_room : count ≤ most_free

-- two pages next to each other became one, or where they have too many entries for one, two; neither is too small or too large
pub record AreLevel (left right : List Entry) (level : List (List Entry)) : Type 0 where
  pub some : 0 < length level
  pub most : All (λ page. length page ≤ MOST_PAGE_ENTRIES) level
  pub least : All (λ page. LEAST_PAGE_ENTRIES ≤ length page) level
  pub one : length left + length right ≤ MOST_PAGE_ENTRIES → length level ≡ 1
  pub same : entries_of level ≡ left ++ right

-- the pages of a list: in order, with so many entries, and with enough free pages for as many as there is room for
pub record ArePagesOf (falling : Bool) (list : PageList) (count room : ℕ) : Type 0 where
  pub ordered : IsInOrder falling (entries_of list.pages)
  pub counted : length (entries_of list.pages) ≡ count
  pub fits : count ≤ room
  pub enough : room ≤ LEAST_PAGE_ENTRIES * (length list.pages + list.free - 2)

-- the entries before a place of a page, and those from it on, are parted by the search
pub record IsPlace (itself falling : Bool) (from : Position) (pages : List (List Entry)) (number place : ℕ) : Type 0 where
  pub page : number ≤ length pages - 1
  pub within : place ≤ length (page_at pages number)
  pub front : All (λ entry. is_passed itself (side_of falling from entry) ≡ true) (entries_of (take number pages))
  pub passed : AllWithin (λ entry. is_passed itself (side_of falling from entry) ≡ true) (page_at pages number) 0 place
  pub ahead : AllWithin (λ entry. is_passed itself (side_of falling from entry) ≡ false) (page_at pages number) place (length (page_at pages number))
  pub back : All (λ entry. is_passed itself (side_of falling from entry) ≡ false) (entries_of (drop (number + 1) pages))
  pub first : place ≡ 0 → number ≡ 0
  pub next : slice_get (page_at pages (number + 1)) 0 ≡ slice_get (entries_of (drop (number + 1) pages)) 0

-- an entry stands in this page, if it is there: those of earlier pages are less, those of later ones greater
pub record IsNearest (falling : Bool) (entry : Entry) (pages : List (List Entry)) (number : ℕ) : Type 0 where
  pub within : number ≤ length pages - 1
  pub front : All (λ other. entry_cmp falling other entry ≡ Less) (entries_of (take number pages))
  pub back : All (λ other. entry_cmp falling other entry ≡ Greater) (entries_of (drop (number + 1) pages))

-- the place of an entry that is there
pub record IsIn (falling : Bool) (entry : Entry) (pages : List (List Entry)) (number place : ℕ) : Type 0 where
  pub within : number < length pages
  pub here : slice_get (page_at pages number) place ≡ Some entry
  pub there : Contains (entries_of pages) entry
  pub removed : with_page pages number (remove (page_at pages number) place) ≡ without_entry falling entry (entries_of pages)

-- the place for an entry that isn't there
pub record IsGapIn (falling : Bool) (entry : Entry) (pages : List (List Entry)) (number place : ℕ) : Type 0 where
  pub absent : ¬ Contains (entries_of pages) entry
  pub inserted : with_page pages number (insert (page_at pages number) place entry) ≡ with_entry falling entry (entries_of pages)
  pub unchanged : entries_of pages ≡ without_entry falling entry (entries_of pages)
