-- What is read and noted, one piece after another.
use Rattle.std.proofs.Common.{◌≡◌, ℕ, zero, suc, ◌+◌, ◌<◌, Bool, true, false, ◌&&◌, ◌||◌, ◌==◌, nat_le, IsSome, IfSome, List, [], ◌∷◌, ◌++◌, length, drop, set, get_or, map, Option, Some, None, refl, sym, ap, ◌∙◌, arith, inl, inr}
use Rattle.std.specs.List.{list_all, list_any, flat_map, filter_map, cons_option}
use Rattle.std.specs.Bool.{if◌then◌else◌}
use Rattle.std.proofs.lemmas.Bool.{cases_Bool}
use Rattle.std.proofs.Math.Bool.{or-false, or_assoc}
use Rattle.std.proofs.lemmas.List.{drop_more, append_assoc}
use Rattle.text_lines.specs.SystemName.{begins_name, continues_name, is_name}
use Rattle.dds_source.specs.declared.lines.Line.{Line}
use Rattle.dds_source.specs.declared.characters.SourceCharacter.{SourceCharacter}
use Rattle.dds_source.specs.declared.faults.DdsFault.{DdsFault}
use Rattle.dds_source.specs.declared.keywords.Keyword.{Keyword}
use Rattle.dds_source.specs.declared.specifications.Specification.{Specification}
use Rattle.dds_source.specs.declared.specifications.SpecificationKind.TheVariants as kinds
use Rattle.dds_source.specs.declared.specifications.Source.{Source}
use Rattle.dds_source.specs.Characters.{is_letter}
use Rattle.text_lines.specs.Decimal.{is_digit}
use Rattle.dds_source.specs.Faults.{first_after}
use Rattle.dds_source.specs.Entries.{when}
use Rattle.dds_source.specs.Lines.{at, has_entries}
use Rattle.dds_source.specs.Continuation.{goes_on}
use Rattle.dds_source.specs.KeywordTexts.{keywords_in, is_keyword_name, bytes}
use Rattle.dds_source.specs.ArgumentTexts.{arguments_in, argument_of, is_bad_hexadecimal}
use Rattle.dds_source.specs.Reading.{text_faults, text_keyword, keyword_of, keyword_faults, keywords_of, last_begun, unfinished_at, sign_faults, is_record, is_condition, ends_in_condition, has_record, with_keywords, specification_of, extended, added}
use Rattle.dds_source.proofs.FaultLemmas.{first_after_append}

-- Noting the faults of one thing after another.

pub noted_first : {X : Type 0} (f : X → List DdsFault) (x : X) (xs : List X) (best new total : Option DdsFault) → new ≡ first_after best (f x) → first_after best (flat_map f (x ∷ xs)) ≡ total → first_after new (flat_map f xs) ≡ total
noted_first f x xs best new total e h = ap (λ (b : Option DdsFault). first_after b (flat_map f xs)) e ∙ sym (first_after_append best (f x) (flat_map f xs)) ∙ h

pub noted_more : {X : Type 0} (f : X → List DdsFault) (xs : List X) (i : ℕ) (d : X) (best new total : Option DdsFault) → i < length xs → new ≡ first_after best (f (get_or xs i d))
    → first_after best (flat_map f (drop i xs)) ≡ total → first_after new (flat_map f (drop (i + 1) xs)) ≡ total
noted_more {X} f xs i d best new total lt e h =
    noted_first f (get_or xs i d) (drop (i + 1) xs) best new total e (sym (ap (λ (ys : List X). first_after best (flat_map f ys)) (drop_more xs i d lt)) ∙ h)

-- The last of a list.

pub sign_faults-last : (begun : Option SourceCharacter) (lines : List Line) (n : ℕ) (d : Line) → suc n ≡ length lines → sign_faults begun lines ≡ when (goes_on (get_or lines n d)) (unfinished_at begun (get_or lines n d))
sign_faults-last begun [] n d e = absurd (omega arith)
sign_faults-last begun (l ∷ []) zero d e = refl
sign_faults-last begun (l ∷ []) (suc n) d e = absurd (omega arith)
sign_faults-last begun (l ∷ m ∷ ls) zero d e = absurd (omega arith)
sign_faults-last begun (l ∷ m ∷ ls) (suc n) d e = sign_faults-last begun (m ∷ ls) n d (omega arith)

pub ends_in_condition-last : (ss : List Specification) (n : ℕ) (d : Specification) → suc n ≡ length ss → ends_in_condition ss ≡ is_condition (get_or ss n d).kind
ends_in_condition-last [] n d e = absurd (omega arith)
ends_in_condition-last (s ∷ []) zero d e = refl
ends_in_condition-last (s ∷ []) (suc n) d e = absurd (omega arith)
ends_in_condition-last (s ∷ t ∷ ss) zero d e = absurd (omega arith)
ends_in_condition-last (s ∷ t ∷ ss) (suc n) d e = ends_in_condition-last (t ∷ ss) n d (omega arith)

pub with_keywords-last : (ks : List Keyword) (ss : List Specification) (n : ℕ) (d : Specification) → suc n ≡ length ss
    → set ss n (let s : Specification = record (get_or ss n d) { keywords = (get_or ss n d).keywords ++ ks } in s) ≡ with_keywords ks ss
with_keywords-last ks [] n d e = absurd (omega arith)
with_keywords-last ks (s ∷ []) zero d e = refl
with_keywords-last ks (s ∷ []) (suc n) d e = absurd (omega arith)
with_keywords-last ks (s ∷ t ∷ ss) zero d e = absurd (omega arith)
with_keywords-last ks (s ∷ t ∷ ss) (suc n) d e = ap (λ (ys : List Specification). s ∷ ys) (with_keywords-last ks (t ∷ ss) n d (omega arith))

-- Names of keywords.

list_all_weaker : (p q : ℕ → Bool) (xs : List ℕ) → ((x : ℕ) → p x ≡ true → q x ≡ true) → list_all p xs ≡ true → list_all q xs ≡ true
list_all_weaker p q [] f h = refl
list_all_weaker p q (x ∷ xs) f h =
    let parts : (p x ≡ true) × (list_all p xs ≡ true) = grind arith in
    rw (f x parts.0) (list_all_weaker p q xs f parts.1)

continues : (x : ℕ) → (is_letter x || is_digit x) ≡ true → continues_name x ≡ true
continues x h = grind arith

-- a keyword's name is a system name
pub is_name-keyword : (text : List ℕ) → is_keyword_name text ≡ true → is_name text ≡ true
is_name-keyword [] h = absurd (cc)
is_name-keyword (c ∷ cs) h =
    let first : begins_name c ≡ true = grind arith in
    let rest : list_all (λ d. is_letter d || is_digit d) cs ≡ true = grind arith in
    let short : nat_le (length cs) 9 ≡ true = grind arith in
    rw (first, list_all_weaker (λ d. is_letter d || is_digit d) continues_name cs continues rest, short) refl

pub some_is : (r : Option (List ℕ)) (text : List ℕ) → IsSome r → IfSome r (λ n. n ≡ text) → r ≡ Some text
some_is None text s h = absurd (cc)
some_is (Some n) text s h = ap (λ (t : List ℕ). Some t) h

-- Keywords of a text.

consed : {Y : Type 0} (o : Option Y) (ys : List Y) → cons_option o ys ≡ cons_option o [] ++ ys
consed None ys = refl
consed (Some y) ys = refl

filter_map_first : {X Y : Type 0} (h : X → Option Y) (x : X) (xs : List X) → filter_map h (x ∷ xs) ≡ filter_map h (x ∷ []) ++ filter_map h xs
filter_map_first {X} {Y} h x xs = consed (h x) (filter_map h xs)

pub read_first : {X Y : Type 0} (h : X → Option Y) (x : X) (xs : List X) (old new total : List Y) → new ≡ old ++ filter_map h (x ∷ []) → old ++ filter_map h (x ∷ xs) ≡ total → new ++ filter_map h xs ≡ total
read_first {X} {Y} h x xs old new total e t =
    ap (λ (ys : List Y). ys ++ filter_map h xs) e ∙ append_assoc old (filter_map h (x ∷ [])) (filter_map h xs)
    ∙ ap (λ (ys : List Y). old ++ ys) (sym (filter_map_first h x xs)) ∙ t

pub begun_first : (k : List SourceCharacter) (ks : List (List SourceCharacter)) (d : SourceCharacter) (begun total : Option SourceCharacter) → 0 < length k → last_begun begun (k ∷ ks) ≡ total → last_begun (Some (get_or k 0 d)) ks ≡ total
begun_first [] ks d begun total lt h = absurd (omega arith)
begun_first (c ∷ cs) ks d begun total lt h = h

pub keywords_in-none : (text : List SourceCharacter) → length text ≡ 0 → keywords_in text ≡ []
unfolding keywords_in
keywords_in-none [] e = refl
keywords_in-none (c ∷ cs) e = absurd (omega arith)

pub keyword_faults_is : (cs : List SourceCharacter) (d : SourceCharacter) → 0 < length cs → text_faults (get_or cs 0 d) (bytes cs) (list_any is_bad_hexadecimal (arguments_in (bytes cs))) ≡ keyword_faults cs
unfolding keyword_faults
keyword_faults_is [] d lt = absurd (omega arith)
keyword_faults_is (c ∷ cs) d lt = refl

pub keyword_of_is : (cs : List SourceCharacter) (d : SourceCharacter) → 0 < length cs → text_keyword (get_or cs 0 d) (bytes cs) (map argument_of (arguments_in (bytes cs))) ≡ keyword_of cs
unfolding keyword_of
keyword_of_is [] d lt = absurd (omega arith)
keyword_of_is (c ∷ cs) d lt = refl

-- What joined lines add.

pub added_first : (source : Source) (lines : List Line) (d : Line) → 0 < length lines → extended source (get_or lines 0 d) (keywords_of lines) ≡ added source lines
added_first source [] d lt = absurd (omega arith)
added_first source (l ∷ ls) d lt = refl

record_first : (t u v w x b : Bool) → is_record (if t then kinds.Record else (if u then kinds.Key else (if v then kinds.Select else (if w then kinds.Omit else (if x then kinds.Join else (if b then kinds.And else kinds.Field)))))) ≡ t
record_first true u v w x b = refl
record_first false true v w x b = refl
record_first false false true w x b = refl
record_first false false false true x b = refl
record_first false false false false true b = refl
record_first false false false false false true = refl
record_first false false false false false false = refl

has_record-push : (ss : List Specification) (s : Specification) → has_record (ss ++ s ∷ []) ≡ (has_record ss || is_record s.kind)
has_record-push [] s = or-false (is_record s.kind)
has_record-push (t ∷ ss) s = ap (λ (b : Bool). is_record t.kind || b) (has_record-push ss s) ∙ sym (or_assoc (is_record t.kind) (has_record ss) (is_record s.kind))

has_record-with_keywords : (ks : List Keyword) (ss : List Specification) → has_record (with_keywords ks ss) ≡ has_record ss
has_record-with_keywords ks [] = refl
has_record-with_keywords ks (s ∷ []) = refl
has_record-with_keywords ks (s ∷ t ∷ ss) = ap (λ (b : Bool). is_record s.kind || b) (has_record-with_keywords ks (t ∷ ss))

-- a record format comes with a line that is one
pub has_record-extended : (source : Source) (line : Line) (ks : List Keyword) → has_record (extended source line ks).specifications ≡ (has_record source.specifications || (has_entries line && (at line 17 == 82)))
unfolding extended specification_of
has_record-extended source line ks = elim (cases_Bool (has_entries line)) [
  | inl e ↦ rw e (has_record-push source.specifications (specification_of (ends_in_condition source.specifications) line ks)
      ∙ ap (λ (b : Bool). has_record source.specifications || b) (record_first (at line 17 == 82) (at line 17 == 75) (at line 17 == 83) (at line 17 == 79) (at line 17 == 74) (ends_in_condition source.specifications)))
  | inr e ↦ elim (cases_Bool (has_record source.specifications)) [
    | inl r ↦ rw (e, r) (has_record-with_keywords ks source.specifications ∙ r)
    | inr r ↦ rw (e, r) r
  ]
]
