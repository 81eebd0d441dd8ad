-- The acts of the entries that are kept, cut at the sequences where a range begins and ends.
use Rattle.std.proofs.Common.{◌≡◌, ℕ, suc, ◌+◌, ◌-◌, List, [], ◌∷◌, ◌++◌, length, take, drop, Option, Some, None, refl, sym, ap, ◌∙◌, arith, append_assoc}
use Rattle.std.proofs.lemmas.List.{take-append-drop, take_at, drop_at, length-append}
use Rattle.entry_codec.specs.declared.entries.Entry.{Entry}
use Rattle.journal_model.specs.Acts.{Act, acts, entry_before}
use Rattle.journal_model.specs.AtSequence.{slot_at}
use Rattle.journal_model.proofs.MemberLemmas.{acts-append}

pub length-acts : (member : ℕ) (prior : Option Entry) (entries : List Entry) → length (acts member prior entries) ≡ length entries
length-acts member prior [] = refl
length-acts member prior (e ∷ entries) = ap (λ n. suc n) (length-acts member (Some e) entries)

-- the entry before those from a place on
abbrev pub prior_at : ℕ → List Entry → Option Entry
prior_at k entries = entry_before None (take k entries)

abbrev pub rest_of : (member k n : ℕ) → List Entry → List Act
rest_of member k n entries = acts member (entry_before (prior_at k entries) (take n (drop k entries))) (drop n (drop k entries))

-- so many before a place, so many from there on, and the rest
pub acts-cut : (member k n : ℕ) (entries : List Entry)
    → acts member None entries ≡ acts member None (take k entries) ++ (acts member (prior_at k entries) (take n (drop k entries)) ++ rest_of member k n entries)
acts-cut member k n entries =
    ap (acts member None) (sym (take-append-drop k entries))
    ∙ acts-append member None (take k entries) (drop k entries)
    ∙ ap (λ (all : List Act). acts member None (take k entries) ++ all)
    (ap (acts member (prior_at k entries)) (sym (take-append-drop n (drop k entries))) ∙ acts-append member (prior_at k entries) (take n (drop k entries)) (drop n (drop k entries)))

-- of acts, the first of which has the sequence behind gone, a part has the sequences from lo to hi
pub record IsPart (all : List Act) (gone lo hi : ℕ) (front part rest : List Act) : Type 0 where
  pub is : all ≡ front ++ (part ++ rest)
  pub begins : lo ≡ gone + 1 + length front
  pub ends : hi + 1 ≡ lo + length part

module _ {all front part rest : List Act} {gone lo hi : ℕ} (p : IsPart all gone lo hi front part rest) where
  pub part-between : take (hi + 1 - lo) (drop (lo - (gone + 1)) all) ≡ part
  part-between =
      let a : lo - (gone + 1) ≡ length front = omega (arith, p.begins) in
      let b : hi + 1 - lo ≡ length part = omega (arith, p.ends) in
      (λ i. take (b i) (drop (a i) (p.is i)))
      ∙ ap (take (length part)) (drop_at front (part ++ rest) (length front) refl)
      ∙ take_at part rest (length part) refl

  pub slot-before : (place : ℕ) → slot_at place (take (lo - 1 - gone) all) (drop (lo - 1 - gone) all) ≡ slot_at place front (part ++ rest)
  slot-before place =
      let a : lo - 1 - gone ≡ length front = omega (arith, p.begins) in
      (λ i. slot_at place (take (a i) (p.is i)) (drop (a i) (p.is i)))
      ∙ (λ i. slot_at place (take_at front (part ++ rest) (length front) refl i) (drop_at front (part ++ rest) (length front) refl i))

  pub slot-behind : (place : ℕ) → slot_at place (take (hi - gone) all) (drop (hi - gone) all) ≡ slot_at place (front ++ part) rest
  slot-behind place =
      let n : length (front ++ part) ≡ length front + length part = length-append front part in
      let a : hi - gone ≡ length (front ++ part) = omega (arith, p.begins, p.ends, n) in
      let e : all ≡ (front ++ part) ++ rest = p.is ∙ sym (append_assoc front part rest) in
      (λ i. slot_at place (take (a i) (e i)) (drop (a i) (e i)))
      ∙ (λ i. slot_at place (take_at (front ++ part) rest (length (front ++ part)) refl i) (drop_at (front ++ part) rest (length (front ++ part)) refl i))

  -- the same behind which more acts stand
  pub part-more : (more : List Act) → IsPart (all ++ more) gone lo hi front part (rest ++ more)
  part-more more = record {
    is = ap (λ (xs : List Act). xs ++ more) p.is ∙ append_assoc front (part ++ rest) more ∙ ap (λ (xs : List Act). front ++ xs) (append_assoc part rest more);
    begins = p.begins;
    ends = p.ends;
  }

-- two parts that have the same sequences are the same
pub same-part : {all front part rest all2 front2 part2 rest2 : List Act} {gone lo hi gone2 lo2 hi2 : ℕ} → IsPart all gone lo hi front part rest → IsPart all2 gone2 lo2 hi2 front2 part2 rest2
    → all ≡ all2 → gone ≡ gone2 → lo ≡ lo2 → hi ≡ hi2 → part ≡ part2
same-part p q all_is gone_is lo_is hi_is = sym (part-between p) ∙ (λ i. take (hi_is i + 1 - lo_is i) (drop (lo_is i - (gone_is i + 1)) (all_is i))) ∙ part-between q
