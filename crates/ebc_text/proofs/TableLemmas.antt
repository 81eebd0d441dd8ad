-- The table by runs and the tables by place say the same, and one direction is the other turned round.
use Rattle.std.proofs.Common.{◌≡◌, ◌+◌, ◌-◌, ℕ, zero, suc, ◌<◌, ◌≤◌, Bool, true, false, ◌&&◌, ◌==◌, nat_lt, Option, Some, None, is_none, List, [], ◌∷◌, map, length, get_or, slice_index, Fits, w8, refl, ap, cond, inl, inr, not, arith}
use Rattle.std.specs.List.{list_all, position_or_len}
use Rattle.std.proofs.lemmas.Bool.{and_parts, eqb-true, ltb-true, ltb-false, le-ltb, cases_lt}
use Rattle.std.proofs.lemmas.Bool.Decides.{nat_tests}
use Rattle.ebc_text.specs.declared.tables.TheConstants.{CODE, CHARACTER}
use Rattle.ebc_text.specs.CodePage.{entry, Run, code_page, code_in, character_in, ebcdic_of, ascii_of, IsEncoded, first_outside}

-- whether two answers are one
abbrev pub same : Option ℕ → Option ℕ → Bool
same None None = true
same None (Some y) = false
same (Some x) None = false
same (Some x) (Some y) = x == y

pub same-true : (o p : Option ℕ) → same o p ≡ true → o ≡ p
same-true None None h = refl
same-true None (Some y) h = cc
same-true (Some x) None h = cc
same-true (Some x) (Some y) h = ap Some (eqb-true x y h)

-- whether a test holds of each number below n
abbrev pub all_below : (ℕ → Bool) → ℕ → Bool
all_below p zero = true
all_below p (suc n) = p n && all_below p n

pub all_below-at : (p : ℕ → Bool) (n k : ℕ) → all_below p n ≡ true → k < n → p k ≡ true
all_below-at p zero k h lt = absurd (omega arith)
all_below-at p (suc n) k h lt =
    let parts : (p n ≡ true) × (all_below p n ≡ true) = and_parts (p n) (all_below p n) h in
    elim (cases_lt k n) [ inl below ↦ all_below-at p n k parts.1 below | inr above ↦ (let last : k ≡ n = omega arith in rw last parts.0) ]

pub code-at : (character : ℕ) → character < 256 → entry (get_or CODE character 0) ≡ ebcdic_of character
unfolding ebcdic_of
code-at character h =
    same-true (entry (get_or CODE character 0)) (ebcdic_of character)
    (all_below-at (λ n. same (entry (get_or CODE n 0)) (ebcdic_of n)) 256 character refl h)

pub character-at : (code : ℕ) → code < 256 → entry (get_or CHARACTER code 0) ≡ ascii_of code
unfolding ascii_of
character-at code h =
    same-true (entry (get_or CHARACTER code 0)) (ascii_of code)
    (all_below-at (λ n. same (entry (get_or CHARACTER n 0)) (ascii_of n)) 256 code refl h)

-- n answers back to what it was asked
abbrev back : (ℕ → Option ℕ) → ℕ → Option ℕ → Bool
back g n None = true
back g n (Some m) = same (g m) (Some n)

back-some : (g : ℕ → Option ℕ) (n : ℕ) (o : Option ℕ) (m : ℕ) → back g n o ≡ true → o ≡ Some m → g m ≡ Some n
back-some g n None m h e = cc
back-some g n (Some k) m h e =
    let there : g k ≡ Some n = same-true (g k) (Some n) h in
    let same_place : k ≡ m = cc in
    rw (← same_place) there

-- a function that has nothing from 256 on, and is undone by g below, is undone by g
undone : (f g : ℕ → Option ℕ) → all_below (λ n. back g n (f n)) 256 ≡ true → ((n : ℕ) → 256 ≤ n → f n ≡ None) → (n m : ℕ) → f n ≡ Some m → g m ≡ Some n
undone f g h past n m e =
    elim (cases_lt n 256) [
      | inl below ↦ back-some g n (f n) m (all_below-at (λ k. back g k (f k)) 256 n h below) e
      | inr above ↦ (let none : f n ≡ None = past n above in cc)
    ]

-- no character of a run and no code of it is past a byte
abbrev in_bytes : Run → Bool
in_bytes r = nat_lt r.last 256 && nat_lt (r.code + (r.last - r.first)) 256

code_in-past : (rs : List Run) (n : ℕ) → list_all in_bytes rs ≡ true → 256 ≤ n → code_in rs n ≡ None
code_in-past [] n h le = refl
code_in-past (r ∷ rs) n h le =
    let rest : code_in rs n ≡ None = code_in-past rs n (and_parts (in_bytes r) (list_all in_bytes rs) h).1 le in
    let last : r.last < 256 = ltb-true r.last 256 (and_parts (nat_lt r.last 256) (nat_lt (r.code + (r.last - r.first)) 256) (and_parts (in_bytes r) (list_all in_bytes rs) h).0).0 in
    grind (arith, nat_tests)

character_in-past : (rs : List Run) (n : ℕ) → list_all in_bytes rs ≡ true → 256 ≤ n → character_in rs n ≡ None
character_in-past [] n h le = refl
character_in-past (r ∷ rs) n h le =
    let rest : character_in rs n ≡ None = character_in-past rs n (and_parts (in_bytes r) (list_all in_bytes rs) h).1 le in
    let last : r.code + (r.last - r.first) < 256 = ltb-true (r.code + (r.last - r.first)) 256 (and_parts (nat_lt r.last 256) (nat_lt (r.code + (r.last - r.first)) 256) (and_parts (in_bytes r) (list_all in_bytes rs) h).0).1 in
    grind (arith, nat_tests)

-- a character's code stands for that character
pub ascii_of-ebcdic_of : (character code : ℕ) → ebcdic_of character ≡ Some code → ascii_of code ≡ Some character
unfolding ebcdic_of ascii_of
ascii_of-ebcdic_of = undone ebcdic_of ascii_of refl (λ n. code_in-past code_page n refl)

-- the character of a code has that code
pub ebcdic_of-ascii_of : (code character : ℕ) → ascii_of code ≡ Some character → ebcdic_of character ≡ Some code
unfolding ebcdic_of ascii_of
ebcdic_of-ascii_of = undone ascii_of ebcdic_of refl (λ n. character_in-past code_page n refl)

-- a code is a byte, and a character too
pub IsByte-ebcdic_of : (character code : ℕ) → ebcdic_of character ≡ Some code → (character < 256) × (code < 256)
unfolding ebcdic_of ascii_of
IsByte-ebcdic_of character code h =
    let turned : ascii_of code ≡ Some character = ascii_of-ebcdic_of character code h in
    let first : (256 ≤ character) → ⊥ = λ (le : 256 ≤ character). (let none : ebcdic_of character ≡ None = code_in-past code_page character refl le in cc) in
    let second : (256 ≤ code) → ⊥ = λ (le : 256 ≤ code). (let none : ascii_of code ≡ None = character_in-past code_page code refl le in cc) in
    (omega arith, omega arith)

-- the head of a text that has no character outside the table, and its rest
entry-some : (o : Option ℕ) (n : ℕ) → entry n ≡ o → is_none o ≡ false → o ≡ Some n
entry-some None n e h = cc
entry-some (Some m) n e h = grind (arith, nat_tests)

step : (o : Option ℕ) (k n : ℕ) → nat_lt (cond (not (is_none o)) (1 + k) 0) (suc n) ≡ false → (is_none o ≡ false) × (nat_lt k n ≡ false)
step None k n h = absurd (let le : suc n ≤ 0 = ltb-false 0 (suc n) h in omega arith)
step (Some m) k n h = (refl, le-ltb k n (let le : suc n ≤ 1 + k = ltb-false (1 + k) (suc n) h in omega arith))

-- a text without a character outside the table is what the table by place gives
pub IsEncoded-CODE : (text : List ℕ) → ((i : ℕ) → Fits w8 (get_or text i 0)) → nat_lt (position_or_len (λ character. is_none (ebcdic_of character)) text) (length text) ≡ false → map ebcdic_of text ≡ map Some (map (λ c. get_or CODE c 0) text)
IsEncoded-CODE [] bytes h = refl
IsEncoded-CODE (x ∷ xs) bytes h =
    let parts : (is_none (ebcdic_of x) ≡ false) × (nat_lt (position_or_len (λ character. is_none (ebcdic_of character)) xs) (length xs) ≡ false) = step (ebcdic_of x) (position_or_len (λ character. is_none (ebcdic_of character)) xs) (length xs) h in
    let byte : x < 256 = omega (arith, bytes 0) in
    let head : ebcdic_of x ≡ Some (get_or CODE x 0) = entry-some (ebcdic_of x) (get_or CODE x 0) (code-at x byte) parts.0 in
    let tail : map ebcdic_of xs ≡ map Some (map (λ c. get_or CODE c 0) xs) = IsEncoded-CODE xs (λ i. bytes (suc i)) parts.1 in
    rw (head, tail) refl

none_from : (b : Bool) (n : ℕ) → cond b (Some n) None ≡ None → b ≡ false
none_from true n h = cc
none_from false n h = refl

-- the bytes by place are those of the text, where the table has each character
pub IsEncoded-places : (text bytes : List ℕ) → ((i : ℕ) → Fits w8 (get_or text i 0)) → first_outside text ≡ None → bytes ≡ map (λ c. slice_index CODE c) text → IsEncoded text bytes
IsEncoded-places text bytes fit none e = rw e (IsEncoded-CODE text fit (none_from _ _ none))
