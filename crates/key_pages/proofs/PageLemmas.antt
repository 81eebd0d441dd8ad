-- Pages and the entries of them all: what stands around a page, and what another page in its place makes of them.
use Rattle.std.proofs.Common.{◌≡◌, ℕ, suc, zero, ◌+◌, ◌-◌, ◌*◌, ◌/◌, ◌<◌, ◌≤◌, List, [], ◌∷◌, ◌++◌, length, get_or, take, drop, set, map, Some, refl, ap, sym, ◌∙◌, subst, arith, add-one, inl, inr}
use Rattle.std.specs.Prelude.{All, insert, remove, sum}
use Rattle.std.proofs.lemmas.Bool.{cases_lt}
use Rattle.std.proofs.lemmas.List.{append-nil, append_assoc, take-append-drop, drop_more, set_split, take-set-le, take_more_set, drop-set-lt, drop_all, drop_at, length-append, length-drop, length-set, length-take-le, take-append-le, take-take, get_or_append_left, get_or-take, length_push}
use Rattle.std.proofs.lemmas.List.Concat.{flat_map-append}
use Rattle.std.proofs.lemmas.List.Elements.{All-nil, All-cons, All-head, All-tail, All-append, All-take, All-drop, All-push, All-pop, All-weaker}
use Rattle.std.proofs.lemmas.List.Sums.{sum_by-cons}
use Rattle.key_pages.specs.declared.entries.Entry.{Entry}
use Rattle.key_pages.specs.declared.page.TheConstants.{MOST_PAGE_ENTRIES, LEAST_PAGE_ENTRIES}
use Rattle.key_pages.specs.PageList.{entries_of, page_at, with_page, AreSized, AreLevel}

entries_of-append : (front back : List (List Entry)) → entries_of (front ++ back) ≡ entries_of front ++ entries_of back
entries_of-append front back = flat_map-append (λ page. page) front back

-- the entries are those before a page, its own and those after it
pub entries_of-around : (pages : List (List Entry)) (number : ℕ) → number < length pages → with_page pages number (page_at pages number) ≡ entries_of pages
entries_of-around pages number within =
    ap (λ rest. entries_of (take number pages) ++ entries_of rest) (sym (drop_more pages number [] within))
    ∙ (sym (entries_of-append (take number pages) (drop number pages)) ∙ ap entries_of (take-append-drop number pages))

-- other pages in the place of one
pub entries_of-between : (pages level : List (List Entry)) (number later : ℕ) → entries_of (take number pages ++ (level ++ drop later pages)) ≡ entries_of (take number pages) ++ (entries_of level ++ entries_of (drop later pages))
entries_of-between pages level number later =
    entries_of-append (take number pages) (level ++ drop later pages)
    ∙ ap (λ rest. entries_of (take number pages) ++ rest) (entries_of-append level (drop later pages))

set-between : (pages : List (List Entry)) (number : ℕ) (page : List Entry) → number < length pages → set pages number page ≡ take number pages ++ ((page ∷ []) ++ drop (number + 1) pages)
set-between pages number page within =
    set_split pages number page within ∙ ap (λ n. take number pages ++ page ∷ drop n pages) (sym (add-one number))

pub entries_of-set : (pages : List (List Entry)) (number : ℕ) (page : List Entry) → number < length pages → entries_of (set pages number page) ≡ with_page pages number page
entries_of-set pages number page within =
    ap entries_of (set-between pages number page within)
    ∙ (entries_of-between pages (page ∷ []) number (number + 1)
    ∙ ap (λ own. entries_of (take number pages) ++ (own ++ entries_of (drop (number + 1) pages))) (append-nil page))

-- a page that became two
pub insert-set : (pages : List (List Entry)) (number : ℕ) (page more : List Entry) → number < length pages → insert (set pages number page) (number + 1) more ≡ take number pages ++ ((page ∷ (more ∷ [])) ++ drop (number + 1) pages)
insert-set pages number page more within =
    let front = take_more_set pages number page within in
    let back = drop-set-lt (number + 1) pages number page (omega arith) in
    ap (λ xs. xs ++ more ∷ drop (number + 1) (set pages number page)) front
    ∙ (ap (λ xs. (take number pages ++ page ∷ []) ++ more ∷ xs) back
    ∙ append_assoc (take number pages) (page ∷ []) (more ∷ drop (number + 1) pages))

pub entries_of-two : (pages : List (List Entry)) (number : ℕ) (page more : List Entry) → entries_of (take number pages ++ ((page ∷ (more ∷ [])) ++ drop (number + 1) pages)) ≡ with_page pages number (page ++ more)
entries_of-two pages number page more =
    entries_of-between pages (page ∷ (more ∷ [])) number (number + 1)
    ∙ ap (λ own. entries_of (take number pages) ++ ((page ++ own) ++ entries_of (drop (number + 1) pages))) (append-nil more)

-- a page is no longer than all, and no page is empty
pub length-page : (pages : List (List Entry)) (number : ℕ) → number < length pages → length (page_at pages number) ≤ length (entries_of pages)
length-page pages number within =
    let all = ap length (entries_of-around pages number within) in
    let front = length-append (entries_of (take number pages)) (page_at pages number ++ entries_of (drop (number + 1) pages)) in
    let back = length-append (page_at pages number) (entries_of (drop (number + 1) pages)) in
    omega (arith, all, front, back)

pub length-pages : (least : ℕ) (pages : List (List Entry)) → All (λ page. least ≤ length page) pages → least * length pages ≤ length (entries_of pages)
length-pages least [] all = omega arith
length-pages least (page ∷ pages) all =
    let own = All-head (λ p. least ≤ length p) page pages all in
    let rest = length-pages least pages (All-tail (λ p. least ≤ length p) page pages all) in
    let both = length-append page (entries_of pages) in
    omega (arith, own, rest, both)

pub few : (pages : List (List Entry)) → AreSized pages → LEAST_PAGE_ENTRIES * (length pages - 1) ≤ length (entries_of pages)
few pages sized =
    elim (cases_lt 1 (length pages)) [
      | inl more ↦ let all = length-pages LEAST_PAGE_ENTRIES pages (sized.least more) in omega (arith, all)
      | inr one ↦ omega arith
    ]

pub few_pages : (pages : List (List Entry)) → AreSized pages → length pages ≤ length (entries_of pages)
few_pages pages sized = let all = length-pages 1 pages (All-weaker (λ p. 0 < length p) (λ p. 1 ≤ length p) (λ p some. omega arith) pages sized.some) in omega (arith, all)

pub sum-lengths : (pages : List (List Entry)) → sum (map (λ page. length page) pages) ≡ length (entries_of pages)
sum-lengths [] = refl
sum-lengths (page ∷ pages) =
    sum_by-cons (λ n. n) (length page) (map (λ p. length p) pages)
    ∙ (ap (λ n. length page + n) (sum-lengths pages) ∙ sym (length-append page (entries_of pages)))

module _ (P : List Entry → Type 0) where
  All-between : (front level back : List (List Entry)) → All P front → All P level → All P back → All P (front ++ (level ++ back))
  All-between front level back before here after = All-append P front (level ++ back) before (All-append P level back here after)

-- the pages before and after one are large enough, where there are any
front_least : (pages : List (List Entry)) (number : ℕ) → AreSized pages → number < length pages → All (λ p. LEAST_PAGE_ENTRIES ≤ length p) (take number pages)
front_least pages number sized within =
    elim (cases_lt 1 (length pages)) [
      | inl more ↦ All-take (λ p. LEAST_PAGE_ENTRIES ≤ length p) number pages (sized.least more)
      | inr one ↦ let first : number ≡ 0 = omega arith in subst (λ n. All (λ p. LEAST_PAGE_ENTRIES ≤ length p) (take n pages)) (sym first) (All-nil (λ p. LEAST_PAGE_ENTRIES ≤ length p))
    ]

back_least : (pages : List (List Entry)) (later : ℕ) → AreSized pages → 0 < later → All (λ p. LEAST_PAGE_ENTRIES ≤ length p) (drop later pages)
back_least pages later sized some =
    elim (cases_lt 1 (length pages)) [
      | inl more ↦ All-drop (λ p. LEAST_PAGE_ENTRIES ≤ length p) later pages (sized.least more)
      | inr one ↦ subst (λ rest. All (λ p. LEAST_PAGE_ENTRIES ≤ length p) rest) (sym (drop_all later pages (omega arith))) (All-nil (λ p. LEAST_PAGE_ENTRIES ≤ length p))
    ]

-- pages that are large enough in the place of some
pub AreSized-between : (pages level : List (List Entry)) (number later : ℕ) → AreSized pages → number < length pages → 0 < later → All (λ p. LEAST_PAGE_ENTRIES ≤ length p) level → All (λ p. length p ≤ MOST_PAGE_ENTRIES) level → AreSized (take number pages ++ (level ++ drop later pages))
AreSized-between pages level number later sized within some least most =
    let large : All (λ p. LEAST_PAGE_ENTRIES ≤ length p) (take number pages ++ (level ++ drop later pages)) =
    All-between (λ p. LEAST_PAGE_ENTRIES ≤ length p) (take number pages) level (drop later pages) (front_least pages number sized within) least (back_least pages later sized some) in
    record {
      some = All-weaker (λ p. LEAST_PAGE_ENTRIES ≤ length p) (λ p. 0 < length p) (λ p enough. omega arith) (take number pages ++ (level ++ drop later pages)) large;
      most = All-between (λ p. length p ≤ MOST_PAGE_ENTRIES) (take number pages) level (drop later pages) (All-take (λ p. length p ≤ MOST_PAGE_ENTRIES) number pages sized.most) most (All-drop (λ p. length p ≤ MOST_PAGE_ENTRIES) later pages sized.most);
      least = λ _. large;
    }

-- one page more at the end
pub AreSized-push : (pages : List (List Entry)) (page : List Entry) → AreSized pages → All (λ p. LEAST_PAGE_ENTRIES ≤ length p) pages → 0 < length page → length page ≤ MOST_PAGE_ENTRIES → (0 < length pages → LEAST_PAGE_ENTRIES ≤ length page) → AreSized (pages ++ page ∷ [])
AreSized-push pages page sized large some most least = record {
  some = All-push (λ p. 0 < length p) pages page sized.some some;
  most = All-push (λ p. length p ≤ MOST_PAGE_ENTRIES) pages page sized.most most;
  least = λ two. let longer = length_push pages page in let more : 0 < length pages = omega arith in All-push (λ p. LEAST_PAGE_ENTRIES ≤ length p) pages page large (least more);
}

-- no page, and one alone
pub AreSized-none : AreSized []
AreSized-none = record {
  some = All-nil (λ p. 0 < length p);
  most = All-nil (λ p. length p ≤ MOST_PAGE_ENTRIES);
  least = λ two. absurd (omega arith);
}

pub AreSized-one : (page : List Entry) → 0 < length page → length page ≤ MOST_PAGE_ENTRIES → AreSized (page ∷ [])
AreSized-one page some most = record {
  some = All-cons (λ p. 0 < length p) page [] some (All-nil (λ p. 0 < length p));
  most = All-cons (λ p. length p ≤ MOST_PAGE_ENTRIES) page [] most (All-nil (λ p. length p ≤ MOST_PAGE_ENTRIES));
  least = λ two. absurd (omega arith);
}

pub entries_of-push : (pages : List (List Entry)) (page before after all : List Entry) → page ++ after ≡ before → entries_of pages ++ before ≡ all → entries_of (pages ++ page ∷ []) ++ after ≡ all
entries_of-push pages page before after all moved whole =
    ap (λ xs. xs ++ after) (entries_of-append pages (page ∷ []) ∙ ap (λ own. entries_of pages ++ own) (append-nil page))
    ∙ (append_assoc (entries_of pages) page after ∙ (ap (λ xs. entries_of pages ++ xs) moved ∙ whole))

-- what the last of some lists leaves
pub last-taken : (lists rest : List (List Entry)) (last : List Entry) → lists ≡ rest ++ last ∷ [] → All (λ page. page ≡ []) lists → All (λ page. page ≡ []) rest × (last ≡ [])
last-taken lists rest last is empty =
    let both = All-pop (λ page. page ≡ []) lists rest (Some last) is empty in (both.0, both.1)

-- two pages side by side, of which the second was taken out
module _ {X : Type 0} (xs : List X) (n : ℕ) (within : n + 1 < length xs) where
  removed-take : take n (remove xs (n + 1)) ≡ take n xs
  removed-take =
      let long = length-take-le (n + 1) xs (omega arith) in
      take-append-le n (take (n + 1) xs) (drop (suc (n + 1)) xs) (omega (arith, long)) ∙ take-take n (n + 1) xs (omega arith)

  removed-drop : drop (n + 1) (remove xs (n + 1)) ≡ drop (n + 2) xs
  removed-drop =
      let long = length-take-le (n + 1) xs (omega arith) in
      let later : suc (n + 1) ≡ n + 2 = omega arith in
      drop_at (take (n + 1) xs) (drop (suc (n + 1)) xs) (n + 1) long ∙ ap (λ k. drop k xs) later

  pub removed-at : (d : X) → get_or (remove xs (n + 1)) n d ≡ get_or xs n d
  removed-at d =
      let long = length-take-le (n + 1) xs (omega arith) in
      get_or_append_left (take (n + 1) xs) (drop (suc (n + 1)) xs) d n (omega (arith, long)) ∙ get_or-take (n + 1) xs n d (omega arith)

  removed-length : length (remove xs (n + 1)) + 1 ≡ length xs
  removed-length =
      let long = length-take-le (n + 1) xs (omega arith) in
      omega (arith, long, length-append (take (n + 1) xs) (drop (suc (n + 1)) xs), length-drop (suc (n + 1)) xs)

module _ (pages : List (List Entry)) (n : ℕ) (within : n + 1 < length pages) where
  pub joined : (page : List Entry) → set (remove pages (n + 1)) n page ≡ take n pages ++ ((page ∷ []) ++ drop (n + 2) pages)
  joined page =
      let long = removed-length pages n within in
      set-between (remove pages (n + 1)) n page (omega (arith, long))
      ∙ (ap (λ xs. xs ++ ((page ∷ []) ++ drop (n + 1) (remove pages (n + 1)))) (removed-take pages n within) ∙ ap (λ xs. take n pages ++ ((page ∷ []) ++ xs)) (removed-drop pages n within))

  pub shared : (page more : List Entry) → insert (set (remove pages (n + 1)) n page) (n + 1) more ≡ take n pages ++ ((page ∷ (more ∷ [])) ++ drop (n + 2) pages)
  shared page more =
      let long = removed-length pages n within in
      insert-set (remove pages (n + 1)) n page more (omega (arith, long))
      ∙ (ap (λ xs. xs ++ ((page ∷ (more ∷ [])) ++ drop (n + 1) (remove pages (n + 1)))) (removed-take pages n within) ∙ ap (λ xs. take n pages ++ ((page ∷ (more ∷ [])) ++ xs)) (removed-drop pages n within))

  -- the entries are those before two pages, theirs and those after them
  pub entries_of-pair : entries_of (take n pages) ++ ((page_at pages n ++ page_at pages (n + 1)) ++ entries_of (drop (n + 2) pages)) ≡ entries_of pages
  entries_of-pair =
      let later : n + 1 + 1 ≡ n + 2 = omega arith in
      let next : drop (n + 1) pages ≡ page_at pages (n + 1) ∷ drop (n + 2) pages = drop_more pages (n + 1) [] within ∙ ap (λ k. page_at pages (n + 1) ∷ drop k pages) later in
      ap (λ xs. entries_of (take n pages) ++ xs) (append_assoc (page_at pages n) (page_at pages (n + 1)) (entries_of (drop (n + 2) pages)))
      ∙ (ap (λ xs. entries_of (take n pages) ++ (page_at pages n ++ entries_of xs)) (sym next) ∙ entries_of-around pages n (omega arith))

pub level-one : (left right page : List Entry) → page ≡ left ++ right → LEAST_PAGE_ENTRIES ≤ length left + length right → length left + length right ≤ MOST_PAGE_ENTRIES → AreLevel left right (page ∷ [])
level-one left right page is least most =
    let long : length page ≡ length left + length right = ap length is ∙ length-append left right in
    record {
      some = omega arith;
      most = All-cons (λ p. length p ≤ MOST_PAGE_ENTRIES) page [] (omega arith) (All-nil (λ p. length p ≤ MOST_PAGE_ENTRIES));
      least = All-cons (λ p. LEAST_PAGE_ENTRIES ≤ length p) page [] (omega arith) (All-nil (λ p. LEAST_PAGE_ENTRIES ≤ length p));
      one = λ _. refl;
      same = append-nil page ∙ is;
    }

pub level-two : (left right page more : List Entry) → page ++ more ≡ left ++ right → MOST_PAGE_ENTRIES < length left + length right → LEAST_PAGE_ENTRIES ≤ length page → length page ≤ MOST_PAGE_ENTRIES → LEAST_PAGE_ENTRIES ≤ length more → length more ≤ MOST_PAGE_ENTRIES → AreLevel left right (page ∷ (more ∷ []))
level-two left right page more is many least most more_least more_most = record {
  some = omega arith;
  most = All-cons (λ p. length p ≤ MOST_PAGE_ENTRIES) page (more ∷ []) most (All-cons (λ p. length p ≤ MOST_PAGE_ENTRIES) more [] more_most (All-nil (λ p. length p ≤ MOST_PAGE_ENTRIES)));
  least = All-cons (λ p. LEAST_PAGE_ENTRIES ≤ length p) page (more ∷ []) least (All-cons (λ p. LEAST_PAGE_ENTRIES ≤ length p) more [] more_least (All-nil (λ p. LEAST_PAGE_ENTRIES ≤ length p)));
  one = λ few. absurd (omega arith);
  same = ap (λ xs. page ++ xs) (append-nil more) ∙ is;
}

-- a page that has too few entries, beside one that has enough
module _ (pages : List (List Entry)) (number left : ℕ) (page : List Entry) (sized : AreSized pages) (more : 1 < length pages) (within : number < length pages) (beside : left ≡ number - 1) (most : length page ≤ MOST_PAGE_ENTRIES) where
  pub pair-within : left + 1 < length (set pages number page)
  pair-within = let same = length-set pages number page in omega (arith, same)

  module _ (level : List (List Entry)) (levelled : AreLevel (page_at (set pages number page) left) (page_at (set pages number page) (left + 1)) level) where
    pub AreSized-levelled : AreSized (take left (set pages number page) ++ (level ++ drop (left + 2) (set pages number page)))
    AreSized-levelled =
        let front : take left (set pages number page) ≡ take left pages = take-set-le left pages number page (omega arith) in
        let back : drop (left + 2) (set pages number page) ≡ drop (left + 2) pages = drop-set-lt (left + 2) pages number page (omega arith) in
        let all = AreSized-between pages level left (left + 2) sized (omega arith) (omega arith) levelled.least levelled.most in
        subst (λ xs. AreSized (xs ++ (level ++ drop (left + 2) (set pages number page)))) (sym front)
        (subst (λ xs. AreSized (take left pages ++ (level ++ xs))) (sym back) all)

    pub entries_of-levelled : entries_of (take left (set pages number page) ++ (level ++ drop (left + 2) (set pages number page))) ≡ with_page pages number page
    entries_of-levelled =
        entries_of-between (set pages number page) level left (left + 2)
        ∙ (ap (λ own. entries_of (take left (set pages number page)) ++ (own ++ entries_of (drop (left + 2) (set pages number page)))) levelled.same
        ∙ (entries_of-pair (set pages number page) left pair-within ∙ entries_of-set pages number page within))

-- without the next page it is the same page
pub left-page : (pages removed : List (List Entry)) (n : ℕ) → n + 1 < length pages → removed ≡ remove pages (n + 1) → page_at removed n ≡ page_at pages n
left-page pages removed n within is = ap (λ xs. page_at xs n) is ∙ removed-at pages n within []

-- two pages that became one, or share their entries
module _ (pages removed after : List (List Entry)) (n : ℕ) (left right page : List Entry) (within : n + 1 < length pages) (is : removed ≡ remove pages (n + 1)) (left-is : left ≡ page_at pages n) (right-is : right ≡ page_at pages (n + 1)) where
  pub level-joined : page ≡ left ++ right → after ≡ set removed n page → LEAST_PAGE_ENTRIES ≤ length (page_at pages n) + length (page_at pages (n + 1)) → length left + length right ≤ MOST_PAGE_ENTRIES
      → (level : List (List Entry)) × AreLevel (page_at pages n) (page_at pages (n + 1)) level × (after ≡ take n pages ++ (level ++ drop (n + 2) pages))
  level-joined same set-is least most =
      let long : length left ≡ length (page_at pages n) = ap length left-is in
      let right_long : length right ≡ length (page_at pages (n + 1)) = ap length right-is in
      let whole : page ≡ page_at pages n ++ page_at pages (n + 1) = same ∙ (ap (λ xs. xs ++ right) left-is ∙ ap (λ xs. page_at pages n ++ xs) right-is) in
      (page ∷ [], level-one (page_at pages n) (page_at pages (n + 1)) page whole least (omega arith), set-is ∙ (ap (λ xs. set xs n page) is ∙ joined pages n within page))

  pub level-shared : (more : List Entry) → page ++ more ≡ left ++ right → after ≡ insert (set removed n page) (n + 1) more → length page ≡ (length left + length right) / 2 → length more + length page ≡ length left + length right → MOST_PAGE_ENTRIES < length left + length right → length (page_at pages n) ≤ MOST_PAGE_ENTRIES → length (page_at pages (n + 1)) ≤ MOST_PAGE_ENTRIES
      → (level : List (List Entry)) × AreLevel (page_at pages n) (page_at pages (n + 1)) level × (after ≡ take n pages ++ (level ++ drop (n + 2) pages))
  level-shared more same insert-is half rest many most right_most =
      let long : length left ≡ length (page_at pages n) = ap length left-is in
      let right_long : length right ≡ length (page_at pages (n + 1)) = ap length right-is in
      let whole : page ++ more ≡ page_at pages n ++ page_at pages (n + 1) = same ∙ (ap (λ xs. xs ++ right) left-is ∙ ap (λ xs. page_at pages n ++ xs) right-is) in
      (page ∷ (more ∷ []), level-two (page_at pages n) (page_at pages (n + 1)) page more whole (omega arith) (omega arith) (omega arith) (omega arith) (omega arith), insert-is ∙ (ap (λ xs. insert (set xs n page) (n + 1) more) is ∙ shared pages n within page more))

-- without the only entry of the only page there is none
pub only-entry : (pages : List (List Entry)) (number place : ℕ) → length pages ≡ 1 → length (page_at pages number) ≡ 1 → number < length pages → place < length (page_at pages number) → with_page pages number (remove (page_at pages number) place) ≡ []
only-entry [] number place one only within there = absurd (omega arith)
only-entry (page ∷ (more ∷ pages)) number place one only within there = absurd (omega arith)
only-entry (page ∷ []) (suc number) place one only within there = absurd (omega arith)
only-entry ([] ∷ []) zero place one only within there = absurd (omega arith)
only-entry ((e ∷ (f ∷ rest)) ∷ []) zero place one only within there = absurd (omega arith)
only-entry ((e ∷ []) ∷ []) zero (suc place) one only within there = absurd (omega arith)
only-entry ((e ∷ []) ∷ []) zero zero one only within there = refl

-- a page that is filled while entries are left has enough
pub filled-least : (left count rest : ℕ) → rest + count ≡ left → (LEAST_PAGE_ENTRIES ≤ left → LEAST_PAGE_ENTRIES ≤ count) → (count < left → LEAST_PAGE_ENTRIES ≤ left - count) → 0 < rest → (LEAST_PAGE_ENTRIES ≤ count) × (LEAST_PAGE_ENTRIES ≤ rest)
filled-least left count rest all least later some =
    let enough : LEAST_PAGE_ENTRIES ≤ left - count = later (omega arith) in
    (least (omega (arith, enough)), omega (arith, enough))

-- the same as `entries_of-around`, where there is no page either
pub entries_of-page : (pages : List (List Entry)) (number : ℕ) → number ≤ length pages - 1 → with_page pages number (page_at pages number) ≡ entries_of pages
entries_of-page [] zero within = refl
entries_of-page [] (suc number) within = absurd (omega arith)
entries_of-page (page ∷ pages) number within = entries_of-around (page ∷ pages) number (omega arith)

-- how many entries there are with another page
length-with_page : (pages : List (List Entry)) (number : ℕ) (page : List Entry) → number ≤ length pages - 1 → length (with_page pages number page) + length (page_at pages number) ≡ length (entries_of pages) + length page
length-with_page pages number page within =
    let front = entries_of (take number pages) in
    let back = entries_of (drop (number + 1) pages) in
    let whole = ap length (entries_of-page pages number within) in
    omega (arith, whole, length-append front (page ++ back), length-append page back, length-append front (page_at pages number ++ back), length-append (page_at pages number) back)

pub length-inserted : (pages : List (List Entry)) (number place : ℕ) (entry : Entry) → number ≤ length pages - 1 → length (with_page pages number (insert (page_at pages number) place entry)) ≡ length (entries_of pages) + 1
length-inserted pages number place entry within =
    let page = page_at pages number in
    let whole = ap length (take-append-drop place page) in
    omega (arith, whole, length-with_page pages number (insert page place entry) within, length-append (take place page) (entry ∷ drop place page), length-append (take place page) (drop place page))

pub length-removed : (pages : List (List Entry)) (number place : ℕ) → number ≤ length pages - 1 → place < length (page_at pages number) → length (with_page pages number (remove (page_at pages number) place)) + 1 ≡ length (entries_of pages)
length-removed pages number place within there =
    let page = page_at pages number in
    omega (arith, length-with_page pages number (remove page place) within, length-append (take place page) (drop (suc place) page), length-take-le place page (omega arith), length-drop (suc place) page)
