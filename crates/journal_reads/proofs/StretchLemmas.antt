-- Parts of a stretch are parts of all that was read.
use Rattle.std.proofs.Common.{◌≡◌, ◌∙◌, ℕ, zero, suc, ◌+◌, ◌-◌, ◌≤◌, ◌<◌, List, [], ◌∷◌, ◌++◌, length, take, drop, get_or, Option, Some, None, refl, sym, ap, subst, arith}
use Rattle.std.proofs.lemmas.List.{take_more}
use Rattle.entry_codec.specs.declared.entries.Entry.{Entry}
use Rattle.journal_model.specs.Acts.{entry_before}
use Rattle.journal_model.specs.Journal.{AreNumbered}
use Rattle.journal_reads.specs.Stretches.{EntriesFrom, IsStretchOf}

-- ---- parts of parts

take-fewer : {X : Type 0} (n m : ℕ) (xs : List X) → n ≤ m → take n (take m xs) ≡ take n xs
take-fewer zero m xs h = refl
take-fewer (suc n) zero xs h = absurd (omega (arith, h))
take-fewer (suc n) (suc m) [] h = refl
take-fewer (suc n) (suc m) (x ∷ xs) h = ap (λ ys. x ∷ ys) (take-fewer n m xs (omega (arith, h)))

drop-nil : {X : Type 0} (n : ℕ) → ◌≡◌ {A = List X} (drop n []) []
drop-nil zero = refl
drop-nil (suc n) = refl

-- a part of the first so many is one of all
part-first : {X : Type 0} (from count most : ℕ) (xs : List X) → from + count ≤ most → take count (drop from (take most xs)) ≡ take count (drop from xs)
part-first zero count most xs h = take-fewer count most xs (omega (arith, h))
part-first (suc from) count zero xs h = absurd (omega (arith, h))
part-first (suc from) count (suc most) [] h = refl
part-first (suc from) count (suc most) (x ∷ xs) h = part-first from count most xs (omega (arith, h))

drop-both : {X : Type 0} (a b : ℕ) (xs : List X) → drop a (drop b xs) ≡ drop (b + a) xs
drop-both a zero xs = let same : 0 + a ≡ a = omega arith in ap (λ n. drop n xs) (sym same)
drop-both a (suc b) [] = drop-nil a ∙ sym (drop-nil (suc b + a))
drop-both a (suc b) (x ∷ xs) = let same : suc b + a ≡ suc (b + a) = omega arith in drop-both a b xs ∙ ap (λ n. drop n (x ∷ xs)) (sym same)

length-drop : {X : Type 0} (n : ℕ) (xs : List X) → length (drop n xs) ≡ length xs - n
length-drop zero xs = omega arith
length-drop (suc n) [] = omega arith
length-drop (suc n) (x ∷ xs) = let rest = length-drop n xs in omega (arith, rest)

length-take : {X : Type 0} (n : ℕ) (xs : List X) → length (take n xs) ≤ length xs
length-take zero xs = omega arith
length-take (suc n) [] = omega arith
length-take (suc n) (x ∷ xs) = let rest = length-take n xs in omega (arith, rest)

length-first : {X : Type 0} (n : ℕ) (xs : List X) → n ≤ length xs → length (take n xs) ≡ n
length-first zero xs h = refl
length-first (suc n) [] h = absurd (omega (arith, h))
length-first (suc n) (x ∷ xs) h = ap suc (length-first n xs (omega (arith, h)))

take-whole : {X : Type 0} (n : ℕ) (xs : List X) → length xs ≤ n → take n xs ≡ xs
take-whole zero [] h = refl
take-whole (suc n) [] h = refl
take-whole zero (x ∷ xs) h = absurd (omega (arith, h))
take-whole (suc n) (x ∷ xs) h = ap (λ ys. x ∷ ys) (take-whole n xs (omega (arith, h)))

-- ---- numbers

numbered-drop : (first n : ℕ) (entries : List Entry) → AreNumbered first entries → AreNumbered (first + n) (drop n entries)
numbered-drop first zero entries h = let same : first ≡ first + 0 = omega arith in subst (λ (k : ℕ). AreNumbered k entries) same h
numbered-drop first (suc n) [] h = tt
numbered-drop first (suc n) (e ∷ entries) h = let same : first + 1 + n ≡ first + suc n = omega arith in subst (λ (k : ℕ). AreNumbered k (drop n entries)) same (numbered-drop (first + 1) n entries h.1)

numbered-take : (first n : ℕ) (entries : List Entry) → AreNumbered first entries → AreNumbered first (take n entries)
numbered-take first zero entries h = tt
numbered-take first (suc n) [] h = tt
numbered-take first (suc n) (e ∷ entries) h = (h.0, numbered-take (first + 1) n entries h.1)

-- the entries of a part have the sequences from its first on
pub part-numbered : (first from begin count : ℕ) (entries : List Entry) → first + begin ≡ from → AreNumbered first entries → AreNumbered from (take count (drop begin entries))
part-numbered first from begin count entries is h =
    numbered-take from count (drop begin entries) (subst (λ (n : ℕ). AreNumbered n (drop begin entries)) is (numbered-drop first begin entries h))

pub length-part : {X : Type 0} (begin count : ℕ) (xs : List X) → begin + count ≤ length xs → length (take count (drop begin xs)) ≡ count
length-part begin count xs h = let long = length-drop begin xs in length-first count (drop begin xs) (omega (arith, h, long))

-- ---- a stretch of what was read

-- a part of the stretch is that part of what was read
pub part-read : (kept : ℕ) (read : List Entry) (stretch : EntriesFrom) (from begin count : ℕ) → IsStretchOf kept read stretch → stretch.first + begin ≡ from → begin + count ≤ length stretch.entries
    → take count (drop begin stretch.entries) ≡ take count (drop (from - kept) read)
part-read kept read stretch from begin count is place within =
    let n = length stretch.entries in
    let at : stretch.first - kept + begin ≡ from - kept = omega (arith, place, is.begins) in
    ap (λ es. take count (drop begin es)) is.same
    ∙ part-first begin count n (drop (stretch.first - kept) read) within
    ∙ ap (take count) (drop-both begin (stretch.first - kept) read)
    ∙ ap (λ k. take count (drop k read)) at

before-push : (prior : Option Entry) (entries : List Entry) (e : Entry) → entry_before prior (entries ++ e ∷ []) ≡ Some e
before-push prior [] e = refl
before-push prior (d ∷ entries) e = before-push (Some d) entries e

-- the entry before those behind the first so many is the one before the same of a part that has it
before-part : (prior : Option Entry) (skipped some : ℕ) (xs : List Entry) → 0 < some → 0 < length (drop skipped xs)
    → entry_before prior (take (skipped + some) xs) ≡ entry_before None (take some (drop skipped xs))
before-part prior zero zero xs h there = absurd (omega (arith, h))
before-part prior zero (suc some) [] h there = absurd (omega (arith, there))
before-part prior zero (suc some) (x ∷ xs) h there = let same : 0 + suc some ≡ suc some = omega arith in ap (λ n. entry_before prior (take n (x ∷ xs))) same
before-part prior (suc skipped) some [] h there = absurd (omega (arith, there))
before-part prior (suc skipped) some (x ∷ xs) h there =
    let same : suc skipped + some ≡ suc (skipped + some) = omega arith in
    ap (λ n. entry_before prior (take n (x ∷ xs))) same ∙ before-part (Some x) skipped some xs h there

-- the entry before a place of the stretch is that of what was read
pub before-read : (kept : ℕ) (read : List Entry) (stretch : EntriesFrom) (sequence m i : ℕ) (e : Entry) → IsStretchOf kept read stretch → stretch.first + m ≡ sequence → m ≡ i + 1
    → i < length stretch.entries
    → e ≡ get_or stretch.entries i e → Some e ≡ entry_before None (take (sequence - kept) read)
before-read kept read stretch sequence m i e is place next below at =
    let n = length stretch.entries in
    let skipped = stretch.first - kept in
    let fewer = length-take n (drop skipped read) in
    let counted : n ≡ length (take n (drop skipped read)) = ap length is.same in
    let where_at : skipped + m ≡ sequence - kept = omega (arith, place, is.begins) in
    let within : m ≤ n = omega (arith, next, below) in
    sym (ap (λ k. entry_before None (take k read)) (sym where_at)
    ∙ before-part None skipped m read (omega (arith, next)) (omega (arith, fewer, counted, below))
    ∙ ap (entry_before None) (sym (take-fewer m n (drop skipped read) within))
    ∙ ap (λ es. entry_before None (take m es)) (sym is.same)
    ∙ ap (λ k. entry_before None (take k stretch.entries)) next
    ∙ ap (entry_before None) (take_more stretch.entries i e below)
    ∙ ap (λ (d : Entry). entry_before None (take i stretch.entries ++ d ∷ [])) (sym at)
    ∙ before-push None (take i stretch.entries) e)

-- a stretch that reaches the end is all that was read behind some of it
pub rest-read : (kept : ℕ) (read : List Entry) (stretch : EntriesFrom) → IsStretchOf kept read stretch → stretch.first + length stretch.entries ≡ kept + length read
    → drop (stretch.first - kept) read ≡ stretch.entries
rest-read kept read stretch is reached =
    let long = length-drop (stretch.first - kept) read in
    sym (is.same ∙ take-whole (length stretch.entries) (drop (stretch.first - kept) read) (omega (arith, long, reached, is.begins)))
