-- Pages that were filled in order.
use Rattle.std.proofs.Common.{◌≡◌, ℕ, ◌-◌, ◌<◌, ◌≤◌, List, [], ◌∷◌, ◌++◌, length, map, ap, ◌∙◌, arith, inl, inr}
use Rattle.std.proofs.lemmas.Bool.{cases_lt}
use Rattle.std.proofs.lemmas.List.{get_or-map, get_or_append_left, get_or_push, length-map, length_push}
use Rattle.key_pages.specs.declared.entries.Entry.{Entry}
use Rattle.key_pages.specs.declared.page.TheConstants.{FILLED_PAGE_ENTRIES}
use Rattle.key_pages.specs.EntryList.{IsFilled}
use Rattle.key_pages.specs.PageList.{page_at}

-- the pages with numbers below n
abbrev pub FilledBelow : List (List Entry) → ℕ → Type 0
FilledBelow pages n = (k : ℕ) → k < n → length (page_at pages k) ≡ FILLED_PAGE_ENTRIES

pub FilledBelow-push : (pages : List (List Entry)) (page : List Entry) (n m : ℕ) → FilledBelow pages n → n ≤ length pages → m ≤ n → FilledBelow (pages ++ page ∷ []) m
FilledBelow-push pages page n m filled within fewer k below =
    ap length (get_or_append_left pages (page ∷ []) [] k (omega arith)) ∙ filled k (omega arith)

pub FilledBelow-all : (pages : List (List Entry)) (page : List Entry) → FilledBelow pages (length pages) → length page ≡ FILLED_PAGE_ENTRIES → FilledBelow (pages ++ page ∷ []) (length (pages ++ page ∷ []))
FilledBelow-all pages page filled full k below =
    elim (cases_lt k (length pages)) [
      | inl earlier ↦ FilledBelow-push pages page (length pages) (length pages) filled (omega arith) (omega arith) k earlier
      | inr last ↦ let long = length_push pages page in ap length (get_or_push pages page [] k (omega (arith, long))) ∙ full
    ]

-- the same as numbers
pub IsFilled-lengths : (pages : List (List Entry)) → FilledBelow pages (length pages - 2) → IsFilled (map (λ page. length page) pages)
IsFilled-lengths pages filled k below =
    let same = length-map pages (λ page. length page) in
    get_or-map (λ page. length page) pages k [] 0 (omega (arith, same)) ∙ filled k (omega (arith, same))
