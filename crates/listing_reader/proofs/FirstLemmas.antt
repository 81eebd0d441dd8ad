-- The first line in which a text differs from the listing of what was read of it is the first that no listing has there.
use Rattle.std.proofs.Common.{◌≡◌, ◌≢◌, ℕ, zero, suc, ◌+◌, ◌-◌, ◌<◌, ◌^◌, Bool, true, false, cond, ◌||◌, ◌==◌, List, [], ◌∷◌, ◌++◌, length, get_or, drop, codes, refl, ap, ◌∙◌, sym, subst, append_assoc, length-append, arith}
use Rattle.std.specs.Option.{option_map_or}
use Rattle.std.specs.Fmt.{decimal}
use Rattle.std.proofs.lemmas.Bool.{cond-true, cond-false, eq-eqb, eqb-true}
use Rattle.library_model.specs.declared.calls.Call.{Call}
use Rattle.listing.specs.HistoryListing.{call_line, call_lines, listing}
use Rattle.text_lines.specs.Lines.{lines_of}
use Rattle.listing_reader.specs.FirstBad.{first_lines, shared_lines, IsFirstBad}
use Rattle.listing_reader.specs.Lines.{calls_of}
use Rattle.listing_reader.specs.Listed.{AreCalls, AreDifferent, shown}
use Rattle.listing_reader.proofs.ScanLemmas.{has_feed, lines-first}
use Rattle.listing_reader.proofs.LineLemmas.{line-is, last_text, last-feed, last-none-of}
use Rattle.listing_reader.proofs.ShownLemmas.{same-line}

-- ---- texts that share their first lines

next-line : (c : ℕ) (text others : List ℕ) (count : ℕ) → (c == 10) ≡ false → first_lines text count ≡ first_lines others count → first_lines (c ∷ text) count ≡ first_lines (c ∷ others) count
next-line c text others zero other same = refl
next-line c text others (suc count) other same =
    ap (λ v. c ∷ cond v (first_lines text count) (first_lines text (suc count))) other
    ∙ ap (λ t. c ∷ t) same
    ∙ sym (ap (λ v. c ∷ cond v (first_lines others count) (first_lines others (suc count))) other)

shared-step : (c : ℕ) (text others : List ℕ) → first_lines text (shared_lines text others) ≡ first_lines others (shared_lines text others) → first_lines (c ∷ text)
    (cond (c == 10) (suc (shared_lines text others)) (shared_lines text others)) ≡ first_lines (c ∷ others) (cond (c == 10) (suc (shared_lines text others)) (shared_lines text others))
shared-step c text others same =
    let count = shared_lines text others in
    (elim (c == 10) as (λ v. (c == 10) ≡ v → first_lines (c ∷ text) (cond v (suc (shared_lines text others)) (shared_lines text others)) ≡ first_lines (c ∷ others)
    (cond v (suc (shared_lines text others)) (shared_lines text others))) [
      | true ↦ λ feed. ap (λ v. c ∷ cond v (first_lines text (shared_lines text others)) (first_lines text (suc (shared_lines text others)))) feed ∙ ap (λ t. c ∷ t) same ∙ sym (ap (λ v. c
          ∷ cond v (first_lines others (shared_lines text others)) (first_lines others (suc (shared_lines text others)))) feed)
      | false ↦ λ other. next-line c text others (shared_lines text others) other same
    ]) refl

-- the lines that two texts share are the same
pub shared-same : (text others : List ℕ) → first_lines text (shared_lines text others) ≡ first_lines others (shared_lines text others)
shared-same [] others = refl
shared-same (c ∷ text) [] = refl
shared-same (c ∷ text) (d ∷ others) =
    let step = shared-step c text others (shared-same text others) in
    (elim (c == d) as (λ v. (c == d) ≡ v → first_lines (c ∷ text) (cond v (cond (c == 10) (suc (shared_lines text others)) (shared_lines text others)) 0) ≡ first_lines (d ∷ others) (cond v
    (cond (c == 10) (suc (shared_lines text others)) (shared_lines text others)) 0)) [
      | true ↦ λ same. subst (λ e. first_lines (c ∷ text) (cond (c == 10) (suc (shared_lines text others)) (shared_lines text others)) ≡ first_lines (e ∷ others)
          (cond (c == 10) (suc (shared_lines text others)) (shared_lines text others))) (eqb-true c d same) step
      | false ↦ λ other. refl
    ]) refl

same-head : (c : ℕ) (text others : List ℕ) → (first_lines text (suc (shared_lines text others)) ≡ first_lines others (suc (shared_lines text others)) → text ≡ others) → first_lines (c
    ∷ text) (suc (shared_lines (c ∷ text) (c ∷ others))) ≡ first_lines (c ∷ others) (suc (shared_lines (c ∷ text) (c ∷ others))) → c ∷ text ≡ c ∷ others
same-head c text others more h =
    let count : shared_lines (c ∷ text) (c ∷ others) ≡ cond (c == 10) (suc (shared_lines text others)) (shared_lines text others) = cond-true (c == c)
    (cond (c == 10) (suc (shared_lines text others)) (shared_lines text others)) 0 (eq-eqb c c refl) in
    let there : first_lines (c ∷ text) (suc (cond (c == 10) (suc (shared_lines text others)) (shared_lines text others))) ≡ first_lines (c ∷ others) (suc
    (cond (c == 10) (suc (shared_lines text others)) (shared_lines text others))) =
    subst (λ n. first_lines (c ∷ text) (suc n) ≡ first_lines (c ∷ others) (suc n)) count h in
    let tails = ap (drop 1) there in
    ap (λ t. c ∷ t) ((elim (c == 10) as (λ v. cond v (first_lines text (cond v (suc (shared_lines text others)) (shared_lines text others))) (first_lines text (suc
    (cond v (suc (shared_lines text others)) (shared_lines text others)))) ≡ cond v (first_lines others
    (cond v (suc (shared_lines text others)) (shared_lines text others))) (first_lines others (suc (cond v (suc (shared_lines text others)) (shared_lines text others)))) → text ≡ others) [
      | true ↦ λ t. more t
      | false ↦ λ t. more t
    ]) tails)

-- with one line more they would be the same texts
pub shared-all : (text others : List ℕ) → first_lines text (suc (shared_lines text others)) ≡ first_lines others (suc (shared_lines text others)) → text ≡ others
shared-all [] [] h = refl
shared-all [] (d ∷ others) h = absurd cc
shared-all (c ∷ text) [] h = absurd cc
shared-all (c ∷ text) (d ∷ others) h =
    let at : c ≡ d = ap (λ l. get_or l 0 0) h in
    (subst (λ e. first_lines (c ∷ text) (suc (shared_lines (c ∷ text) (e ∷ others))) ≡ first_lines (e ∷ others) (suc (shared_lines (c ∷ text) (e ∷ others))) → c ∷ text ≡ e
    ∷ others) at (same-head c text others (shared-all text others))) h

-- ---- lines taken from the front

lines-taken : (count : ℕ) (line rest : List ℕ) → has_feed line ≡ false → first_lines (line ++ 10 ∷ rest) (suc count) ≡ line ++ 10 ∷ first_lines rest count
lines-taken count [] rest clear = refl
lines-taken count (c ∷ line) rest clear =
    (elim (c == 10) as (λ v. v || has_feed line ≡ false → c ∷ cond v (first_lines (line ++ 10 ∷ rest) count) (first_lines (line ++ 10 ∷ rest) (suc count)) ≡ c ∷ (line ++ 10
    ∷ first_lines rest count)) [
      | true ↦ λ is. absurd cc
      | false ↦ λ is. ap (λ t. c ∷ t) (lines-taken count line rest is)
    ]) clear

-- a text whose first lines begin with this line
abbrev pub Begins : List ℕ → List ℕ → ℕ → List ℕ → Type 0
Begins bytes line count more = (rest : List ℕ) × (bytes ≡ line ++ 10 ∷ rest) × (first_lines rest count ≡ more)

or-parts : (a b : Bool) → a || b ≡ false → (a ≡ false) × (b ≡ false)
or-parts true b clear = absurd cc
or-parts false b clear = (refl, clear)

lines-begin : (count : ℕ) (line bytes more : List ℕ) → has_feed line ≡ false → first_lines bytes (suc count) ≡ line ++ 10 ∷ more → Begins bytes line count more
lines-begin count [] [] more clear h = absurd cc
lines-begin count (c ∷ line) [] more clear h = absurd cc
lines-begin count [] (b ∷ bytes) more clear h =
    let at : b ≡ 10 = ap (λ l. get_or l 0 0) h in
    let feed : (b == 10) ≡ true = eq-eqb b 10 at in
    let tail : cond (b == 10) (first_lines bytes count) (first_lines bytes (suc count)) ≡ more = ap (drop 1) h in
    (bytes, ap (λ x. x ∷ bytes) at, sym (cond-true (b == 10) (first_lines bytes count) (first_lines bytes (suc count)) feed) ∙ tail)
lines-begin count (c ∷ line) (b ∷ bytes) more clear h =
    let at : b ≡ c = ap (λ l. get_or l 0 0) h in
    let parts = or-parts (c == 10) (has_feed line) clear in
    let other : (b == 10) ≡ false = ap (λ x. x == 10) at ∙ parts.0 in
    let tail : cond (b == 10) (first_lines bytes count) (first_lines bytes (suc count)) ≡ line ++ 10 ∷ more = ap (drop 1) h in
    let found = lines-begin count line bytes more parts.1 (sym (cond-false (b == 10) (first_lines bytes count) (first_lines bytes (suc count)) other) ∙ tail) in
    (found.0, ap (λ x. x ∷ bytes) at ∙ ap (λ t. c ∷ t) found.1, found.2)

-- ---- listings

abbrev pub end_line : ℕ → List ℕ
end_line count = codes "END " ++ (decimal count ++ 10 ∷ [])

-- the lines of calls from this number on, and the last line
abbrev pub lines_from : List (List ℕ) → ℕ → List Call → List ℕ
lines_from names before calls = call_lines names (before + 1) calls ++ end_line (before + length calls)

one-more : (names : List (List ℕ)) (before : ℕ) (call : Call) (calls : List Call) (line : List ℕ) → call_line names (before + 1) call ≡ line ++ 10 ∷ [] → lines_from names before (call
    ∷ calls) ≡ line ++ 10 ∷ lines_from names (before + 1) calls
one-more names before call calls line text =
    let count : before + suc (length calls) ≡ before + 1 + length calls = omega arith in
    append_assoc (call_line names (before + 1) call) (call_lines names (before + 1 + 1) calls) (end_line (before + suc (length calls)))
    ∙ ap (λ t. t ++ (call_lines names (before + 1 + 1) calls ++ end_line (before + suc (length calls)))) text
    ∙ append_assoc line (10 ∷ []) (call_lines names (before + 1 + 1) calls ++ end_line (before + suc (length calls)))
    ∙ ap (λ n. line ++ 10 ∷ (call_lines names (before + 1 + 1) calls ++ end_line n)) count

rest-small : (before : ℕ) (line bytes rest : List ℕ) → bytes ≡ line ++ 10 ∷ rest → before + length bytes < 10 ^ 64 → before + 1 + length rest < 10 ^ 64
rest-small before line bytes rest text small =
    let sum : length (line ++ 10 ∷ rest) ≡ length line + suc (length rest) = length-append line (10 ∷ rest) in
    omega (arith, ap length text, sum, small)

no-line : (digits rest more last : List ℕ) (count : ℕ) → first_lines (((digits ++ 32 ∷ rest) ++ more) ++ last) (suc count) ≡ [] → ⊥
no-line [] rest more last count h = absurd cc
no-line (d ∷ digits) rest more last count h = absurd cc

-- a text whose first lines are those of a listing isn't empty
some-byte : (names : List (List ℕ)) (before count : ℕ) (call : Call) (calls : List Call) (bytes : List ℕ) → first_lines (lines_from names before (call ∷ calls)) (suc count)
    ≡ first_lines bytes (suc count) → 0 < length bytes
unfolding call_line
some-byte names before count call calls [] same = absurd (no-line (decimal (before + 1)) _ _ _ count same)
some-byte names before count call calls (b ∷ bytes) same = omega arith

begins-small : (names : List (List ℕ)) (before count : ℕ) (call : Call) (calls : List Call) (bytes : List ℕ) → before + length bytes < 10 ^ 64 → first_lines (lines_from names before (call
    ∷ calls)) (suc count) ≡ first_lines bytes (suc count) → before + 1 < 10 ^ 64
begins-small names before count call calls bytes small same = omega (arith, small, some-byte names before count call calls bytes same)

-- the listing of what is read of a text begins with the lines with which any listing begins as the text does
lines-agree : (names : List (List ℕ)) (before count : ℕ) (calls : List Call) (bytes : List ℕ) → AreDifferent names → AreCalls names calls → before + length bytes < 10 ^ 64
    → first_lines (lines_from names before calls) count ≡ first_lines bytes count → first_lines (lines_from names before (calls_of names (lines_of bytes))) count ≡ first_lines bytes count
lines-agree names before zero calls bytes different are small same = refl
lines-agree names before (suc count) [] bytes different are small same =
    let none : before + 0 ≡ before = omega arith in
    let feed = last-feed before (omega (arith, small)) in
    let text : end_line before ≡ last_text before ++ 10 ∷ [] = refl in
    let taken : first_lines (last_text before ++ 10 ∷ []) (suc count) ≡ last_text before ++ 10 ∷ first_lines [] count = lines-taken count (last_text before) [] feed in
    let here : first_lines bytes (suc count) ≡ last_text before ++ 10 ∷ first_lines [] count = sym same ∙ ap (λ n. first_lines (end_line n) (suc count)) none ∙ taken in
    let found = lines-begin count (last_text before) bytes (first_lines [] count) feed here in
    let read : calls_of names (lines_of bytes) ≡ [] = ap (λ b. calls_of names (lines_of b)) found.1 ∙ last-none-of names before found.0 (omega (arith, small)) in
    ap (λ cs. first_lines (lines_from names before cs) (suc count)) read ∙ same
lines-agree names before (suc count) (call ∷ calls) bytes different are small same =
    let line = line-is names (before + 1) call different (begins-small names before count call calls bytes small same) are.0 in
    let taken : first_lines (lines_from names before (call ∷ calls)) (suc count) ≡ line.0 ++ 10 ∷ first_lines (lines_from names (before + 1) calls) count =
    ap (λ t. first_lines t (suc count)) (one-more names before call calls line.0 line.1.text) ∙ lines-taken count line.0 (lines_from names (before + 1) calls) line.1.feed in
    let found = lines-begin count line.0 bytes (first_lines (lines_from names (before + 1) calls) count) line.1.feed (sym same ∙ taken) in
    let shorter : before + 1 + length found.0 < 10 ^ 64 = rest-small before line.0 bytes found.0 found.1 small in
    let read : calls_of names (lines_of bytes) ≡ shown call ∷ calls_of names (lines_of found.0) =
    ap (λ b. calls_of names (lines_of b)) found.1 ∙ ap (calls_of names) (lines-first line.0 found.0 line.1.feed) ∙ ap (λ o. option_map_or (λ c. c
    ∷ calls_of names (lines_of found.0)) o []) line.1.reads in
    let deeper = lines-agree names (before + 1) count calls found.0 different are.1 shorter (sym found.2) in
    ap (λ cs. first_lines (lines_from names before cs) (suc count)) read
    ∙ ap (λ t. first_lines t (suc count)) (one-more names before (shown call) (calls_of names (lines_of found.0)) line.0 (same-line names (before + 1) call ∙ line.1.text))
    ∙ lines-taken count line.0 (lines_from names (before + 1) (calls_of names (lines_of found.0))) line.1.feed
    ∙ ap (λ t. line.0 ++ 10 ∷ t) deeper
    ∙ sym (lines-taken count line.0 found.0 line.1.feed)
    ∙ ap (λ b. first_lines b (suc count)) (sym found.1)

listing-lines : (names : List (List ℕ)) (calls : List Call) → listing names calls ≡ codes "HISTORY" ++ 10 ∷ lines_from names 0 calls
unfolding listing
listing-lines names calls =
    let none : 0 + length calls ≡ length calls = omega arith in
    ap (λ n. codes "HISTORY" ++ 10 ∷ (call_lines names 1 calls ++ end_line n)) (sym none)

-- the whole listing
listing-agrees : (names : List (List ℕ)) (count : ℕ) (calls : List Call) (bytes : List ℕ) → AreDifferent names → AreCalls names calls → length bytes < 2 ^ 64
    → first_lines (listing names calls) count ≡ first_lines bytes count → first_lines (listing names (calls_of names (drop 1 (lines_of bytes)))) count ≡ first_lines bytes count
listing-agrees names zero calls bytes different are small same = refl
listing-agrees names (suc count) calls bytes different are small same =
    let taken : first_lines (codes "HISTORY" ++ 10 ∷ lines_from names 0 calls) (suc count) ≡ codes "HISTORY" ++ 10
    ∷ first_lines (lines_from names 0 calls) count = lines-taken count (codes "HISTORY") (lines_from names 0 calls) refl in
    let whole : listing names calls ≡ codes "HISTORY" ++ 10 ∷ lines_from names 0 calls = listing-lines names calls in
    let found = lines-begin count (codes "HISTORY") bytes (first_lines (lines_from names 0 calls) count) refl (sym same ∙ ap (λ t. first_lines t (suc count)) whole ∙ taken) in
    let read : calls_of names (drop 1 (lines_of bytes)) ≡ calls_of names (lines_of found.0) = ap (λ b. calls_of names (drop 1 (lines_of b))) found.1 ∙ ap
    (λ ls. calls_of names (drop 1 ls)) (lines-first (codes "HISTORY") found.0 refl) in
    let shorter : 0 + length found.0 < 10 ^ 64 = omega (arith, rest-small 0 (codes "HISTORY") bytes found.0 found.1 (omega (arith, small))) in
    ap (λ cs. first_lines (listing names cs) (suc count)) read
    ∙ ap (λ t. first_lines t (suc count)) (listing-lines names (calls_of names (lines_of found.0)))
    ∙ lines-taken count (codes "HISTORY") (lines_from names 0 (calls_of names (lines_of found.0))) refl
    ∙ ap (λ t. codes "HISTORY" ++ 10 ∷ t) (lines-agree names 0 count calls found.0 different are shorter (sym found.2))
    ∙ sym (lines-taken count (codes "HISTORY") found.0 refl)
    ∙ ap (λ b. first_lines b (suc count)) (sym found.1)

-- where the bytes are not the listing of what is read of them, the first line in which they differ is the first bad one
pub first-bad : (names : List (List ℕ)) (made : List Call) (bytes : List ℕ) (line : ℕ) → AreDifferent names → length bytes < 2 ^ 64 → made ≡ calls_of names (drop 1 (lines_of bytes))
    → listing names made ≢ bytes → line ≡ suc (shared_lines (listing names made) bytes) → IsFirstBad names bytes line
first-bad names made bytes line different small read differ at =
    let shared = shared_lines (listing names made) bytes in
    let less : line - 1 ≡ shared = omega (arith, at) in
    record {
      none = λ calls are same.
          let agree : first_lines (listing names made) line ≡ first_lines bytes line = ap (λ cs. first_lines (listing names cs) line) read
          ∙ listing-agrees names line calls bytes different are small same in
          let more : first_lines (listing names made) (suc shared) ≡ first_lines bytes (suc shared) = subst (λ n. first_lines (listing names made) n ≡ first_lines bytes n) at agree in
          differ (shared-all (listing names made) bytes more);
      before = (made, subst (λ n. first_lines (listing names made) n ≡ first_lines bytes n) (sym less) (shared-same (listing names made) bytes));
    }
