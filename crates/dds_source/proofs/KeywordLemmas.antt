-- Where the first keyword of a text ends.
use Rattle.std.proofs.Common.{◌≡◌, ℕ, ◌+◌, ◌<◌, ◌≤◌, Bool, true, false, not, ◌&&◌, ◌==◌, List, [], ◌∷◌, ◌++◌, length, take, drop, get_or, refl, sym, ap, ◌∙◌, arith}
use Rattle.std.proofs.lemmas.Bool.{eqb-true}
use Rattle.std.proofs.Math.Bool.{and-false}
use Rattle.std.proofs.Common.{length-take}
use Rattle.std.proofs.lemmas.List.{drop_more, take_more, take_all, drop_all}
use Rattle.dds_source.specs.declared.characters.SourceCharacter.{SourceCharacter}
use Rattle.dds_source.specs.declared.characters.Place.{Place}
use Rattle.text_lines.specs.Lines.{is_blank}
use Rattle.dds_source.specs.KeywordTexts.{outside, is_outside, behind, closes, unless_empty, keyword_texts, keywords_in}

outside_parts : (q : Bool) (n : ℕ) → (not q && (n == 0)) ≡ true → (q ≡ false) × (n ≡ 0)
outside_parts false n h = (refl, eqb-true n 0 h)
outside_parts true n h = absurd (cc)

-- there is one place outside
pub outside_is : (p : Place) → is_outside p ≡ true → p ≡ outside
outside_is p h =
    let parts : (p.quoted ≡ false) × (p.depth ≡ 0) = outside_parts p.quoted p.depth h in
    ap (λ (q : Bool). let x : Place = record { quoted = q; depth = p.depth } in x) parts.0 ∙ ap (λ (n : ℕ). let x : Place = record { quoted = false; depth = n } in x) parts.1

-- a blank at the front
pub keywords_in-blank : (text : List SourceCharacter) (d : SourceCharacter) → 0 < length text → is_blank (get_or text 0 d).byte ≡ true → keywords_in text ≡ keywords_in (drop 1 text)
unfolding keywords_in
keywords_in-blank [] d lt h = absurd (omega arith)
keywords_in-blank (c ∷ cs) d lt h = rw h refl

begun_ends : (begun rest : List SourceCharacter) (c : SourceCharacter) → 0 < length begun → is_blank c.byte ≡ true → keyword_texts outside begun (c ∷ rest) ≡ begun ∷ keyword_texts outside [] (c ∷ rest)
begun_ends [] rest c lt h = absurd (omega arith)
begun_ends (b ∷ bs) rest c lt h = rw h refl

-- a blank behind a keyword
pub keywords_in-at_blank : (text : List SourceCharacter) (i : ℕ) (place : Place) (d : SourceCharacter) → i < length text → is_outside place ≡ true → is_blank (get_or text i d).byte ≡ true
    → keyword_texts place (take i text) (drop i text) ≡ keyword_texts outside [] text → 0 < i → keywords_in text ≡ take i text ∷ keywords_in (drop i text)
unfolding keywords_in
keywords_in-at_blank text i place d lt out h so_far some =
    let front : 0 < length (take i text) = simp length-take (omega arith) in
    sym so_far
    ∙ ap (λ (p : Place). keyword_texts p (take i text) (drop i text)) (outside_is place out)
    ∙ ap (λ (cs : List SourceCharacter). keyword_texts outside (take i text) cs) (drop_more text i d lt)
    ∙ begun_ends (take i text) (drop (i + 1) text) (get_or text i d) front h
    ∙ ap (λ (cs : List SourceCharacter). take i text ∷ keyword_texts outside [] cs) (sym (drop_more text i d lt))

closing_parts : (c : ℕ) (b : Bool) → ((c == 41) && b) ≡ true → (is_blank c ≡ false) × (b ≡ true)
closing_parts c b h = grind arith

closed_ends : (place : Place) (begun rest : List SourceCharacter) (c : SourceCharacter) → closes place c.byte ≡ true → keyword_texts place begun (c ∷ rest) ≡ (begun ++ c ∷ []) ∷ keyword_texts outside [] rest
closed_ends place begun rest c h =
    let parts = closing_parts c.byte (is_outside (behind place c.byte)) h in
    let goes_on : (is_outside place && is_blank c.byte) ≡ false = rw parts.0 (and-false (is_outside place)) in
    rw (goes_on, h) (ap (λ (p : Place). (begun ++ c ∷ []) ∷ keyword_texts p [] rest) (outside_is (behind place c.byte) parts.1))

-- the parenthesis that closes
pub keywords_in-at_close : (text : List SourceCharacter) (i : ℕ) (place : Place) (d : SourceCharacter) → i < length text → closes place (get_or text i d).byte ≡ true
    → keyword_texts place (take i text) (drop i text) ≡ keyword_texts outside [] text → keywords_in text ≡ take (i + 1) text ∷ keywords_in (drop (i + 1) text)
unfolding keywords_in
keywords_in-at_close text i place d lt h so_far =
    sym so_far
    ∙ ap (λ (cs : List SourceCharacter). keyword_texts place (take i text) cs) (drop_more text i d lt)
    ∙ closed_ends place (take i text) (drop (i + 1) text) (get_or text i d) h
    ∙ ap (λ (k : List SourceCharacter). k ∷ keyword_texts outside [] (drop (i + 1) text)) (sym (take_more text i d lt))

one_if_some : (text : List SourceCharacter) → 0 < length text → unless_empty text ≡ text ∷ []
one_if_some [] lt = absurd (omega arith)
one_if_some (c ∷ cs) lt = refl

-- the end of the text
pub keywords_in-at_end : (text : List SourceCharacter) (i : ℕ) (place : Place) → length text ≤ i → keyword_texts place (take i text) (drop i text) ≡ keyword_texts outside [] text
    → 0 < length text → keywords_in text ≡ take (length text) text ∷ keywords_in (drop (length text) text)
unfolding keywords_in
keywords_in-at_end text i place le so_far some =
    sym so_far
    ∙ ap (λ (cs : List SourceCharacter). keyword_texts place (take i text) cs) (drop_all i text le)
    ∙ ap (λ (k : List SourceCharacter). unless_empty k) (take_all i text le)
    ∙ one_if_some text some
    ∙ ap (λ (k : List SourceCharacter). k ∷ []) (sym (take_all (length text) text (omega arith)))
    ∙ ap (λ (cs : List SourceCharacter). take (length text) text ∷ keyword_texts outside [] cs) (sym (drop_all (length text) text (omega arith)))
