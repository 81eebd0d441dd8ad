-- A name, or no job, that is read from ten bytes is what they spell, and what is spelled is read again.
use Rattle.std.proofs.Common.{◌≡◌, ℕ, zero, suc, ◌-◌, true, false, ◌&&◌, leb, List, [], ◌∷◌, ◌++◌, length, drop, replicate, IsTrue, Option, Some, None, refl, sym, ap, subst, ◌∙◌, length-drop}
use Rattle.std.specs.Prelude.{IfSome}
use Rattle.std.specs.List.{list_all}
use Rattle.std.proofs.lemmas.Bool.{eqb-true, ne_eqb, false≢true}
use Rattle.std.proofs.lemmas.List.{take-append-drop, drop-replicate}
use Rattle.std.proofs.Math.Seq.{drop-append_seam}
use Rattle.field_types.specs.SystemName.{is_name, begins_name, continues_name}
use Rattle.field_types.proofs.NameLemmas.{length-is_name}
use Rattle.entry_codec.specs.Spelling.{name_field, job_field}
use Rattle.entry_codec.specs.Reading.{◌>>=◌, front_at, is_blank, before_blank, name_in, name_at, job_in}
use Rattle.entry_codec.proofs.FieldLemmas.{length-name_field, name_field-parts, take-before_blank}
use Rattle.entry_codec.proofs.Laws.{IsBytes, bind_takes, test_takes, and-split, Takes, front_takes, front_again}

-- ---- blanks

continues-not_blank : (b : ℕ) → continues_name b ≡ true → is_blank b ≡ false
continues-not_blank b h = ne_eqb b 32 (λ e. false≢true (subst (λ (n : ℕ). continues_name n ≡ true) e h))

begins-not_blank : (b : ℕ) → begins_name b ≡ true → is_blank b ≡ false
begins-not_blank b h = ne_eqb b 32 (λ e. false≢true (subst (λ (n : ℕ). begins_name n ≡ true) e h))

blanks-from_all : (bs : List ℕ) → list_all is_blank bs ≡ true → bs ≡ replicate (length bs) 32
blanks-from_all [] h = refl
blanks-from_all (b ∷ bs) h =
    let both = and-split (is_blank b) (list_all is_blank bs) h in
    ap (λ (c : ℕ). c ∷ bs) (eqb-true b 32 both.0) ∙ ap (λ (cs : List ℕ). 32 ∷ cs) (blanks-from_all bs both.1)

all-from_blanks : (n : ℕ) → list_all is_blank (replicate n 32) ≡ true
all-from_blanks zero = refl
all-from_blanks (suc n) = all-from_blanks n

before_blank-blanks : (n : ℕ) → before_blank (replicate n 32) ≡ []
before_blank-blanks zero = refl
before_blank-blanks (suc n) = refl

before_blank-append : (bs tail : List ℕ) → list_all continues_name bs ≡ true → before_blank tail ≡ [] → before_blank (bs ++ tail) ≡ bs
before_blank-append [] tail h e = e
before_blank-append (b ∷ bs) tail h e =
    let both = and-split (continues_name b) (list_all continues_name bs) h in
    rw (continues-not_blank b both.0) (ap (λ (cs : List ℕ). b ∷ cs) (before_blank-append bs tail both.1 e))

begins-continues : (b : ℕ) → begins_name b ≡ true → continues_name b ≡ true
begins-continues b h = rw h refl

-- ---- names

name-continues : (name : List ℕ) → is_name name ≡ true → list_all continues_name name ≡ true
name-continues [] h = refl
name-continues (b ∷ bs) h =
    let front = and-split (begins_name b && list_all continues_name bs) (leb (length bs) 9) h in
    let both = and-split (begins_name b) (list_all continues_name bs) front.0 in
    rw (begins-continues b both.0) both.1

blanks-behind : (name : List ℕ) → is_name name ≡ true → name_field name ≡ name ++ replicate (10 - length name) 32
blanks-behind name h = name_field-parts name (length-is_name name h) ∙ ap (λ (r : List ℕ). name ++ r) (drop-replicate (length name) 10 32)

pub name_in_takes : (field : List ℕ) → length field ≡ 10 → IfSome (name_in field) (λ name. (name_field name ≡ field) × IsTrue (is_name name))
unfolding name_in
name_in_takes field len =
    let name = before_blank field in
    let back = drop (length name) field in
    test_takes (λ (n : List ℕ). (name_field n ≡ field) × IsTrue (is_name n)) (list_all is_blank back && is_name name) (Some name) None
    (λ is.
    let both = and-split (list_all is_blank back) (is_name name) is in
    let blanks : back ≡ replicate (10 - length name) 32 = blanks-from_all back both.0 ∙ ap (λ (n : ℕ). replicate n 32) (length-drop (length name) field ∙ ap (λ (n : ℕ). n - length name) len) in
    (blanks-behind name both.1 ∙ ap (λ (r : List ℕ). name ++ r) (sym blanks) ∙ ap (λ (f : List ℕ). f ++ back) (sym (take-before_blank field)) ∙ take-append-drop (length name) field, both.1))
    (λ _. tt)

pub name_in_reads : (name : List ℕ) → IsTrue (is_name name) → name_in (name_field name) ≡ Some name
unfolding name_in
name_in_reads name h =
    let rest = replicate (10 - length name) 32 in
    let front : before_blank (name ++ rest) ≡ name = before_blank-append name rest (name-continues name h) (before_blank-blanks (10 - length name)) in
    rw (blanks-behind name h, front, drop-append_seam name rest, all-from_blanks (10 - length name), h) refl

pub name_takes : (bytes : List ℕ) → IsBytes bytes → IfSome (name_at bytes) (λ x. Takes bytes (name_field x.0) x.1 × IsTrue (is_name x.0))
unfolding name_at
name_takes bytes fits =
    let P = λ (x : List ℕ × List ℕ). Takes bytes (name_field x.0) x.1 × IsTrue (is_name x.0) in
    bind_takes (λ (x : List ℕ × List ℕ). Takes bytes x.0 x.1 × (length x.0 ≡ 10) × IsBytes x.0) P (front_at 10 bytes) (λ front. name_in front.0 >>= λ name. Some (name, front.1)) (front_takes 10 bytes fits)
    (λ x p. bind_takes (λ (n : List ℕ). (name_field n ≡ x.0) × IsTrue (is_name n)) P (name_in x.0) (λ name. Some (name, x.1)) (name_in_takes x.0 p.1)
    (λ n q. (rw q.0 p.0, q.1)))

pub name_reads : (name rest : List ℕ) → IsTrue (is_name name) → name_at (name_field name ++ rest) ≡ Some (name, rest)
unfolding name_at
name_reads name rest h = rw (front_again 10 (name_field name) rest (length-name_field name), name_in_reads name h) refl

-- ---- jobs

not_blank-name_field : (name : List ℕ) → is_name name ≡ true → list_all is_blank (name_field name) ≡ false
not_blank-name_field [] h = absurd (false≢true h)
not_blank-name_field (b ∷ bs) h =
    let front = and-split (begins_name b && list_all continues_name bs) (leb (length bs) 9) h in
    let both = and-split (begins_name b) (list_all continues_name bs) front.0 in
    rw (blanks-behind (b ∷ bs) h, begins-not_blank b both.0) refl

pub job_in_takes : (field : List ℕ) → length field ≡ 10 → IfSome (job_in field) (λ job. (job_field job ≡ field) × IfSome job (λ name. IsTrue (is_name name)))
unfolding job_in
job_in_takes field len =
    let P = λ (job : Option (List ℕ)). (job_field job ≡ field) × IfSome job (λ name. IsTrue (is_name name)) in
    test_takes P (list_all is_blank field) (Some None) (name_in field >>= λ name. Some (Some name))
    (λ is. (sym (blanks-from_all field is ∙ ap (λ (n : ℕ). replicate n 32) len), tt))
    (λ _. bind_takes (λ (n : List ℕ). (name_field n ≡ field) × IsTrue (is_name n)) P (name_in field) (λ name. Some (Some name)) (name_in_takes field len) (λ n q. q))

pub job_in_reads : (job : Option (List ℕ)) → IfSome job (λ name. IsTrue (is_name name)) → job_in (job_field job) ≡ Some job
unfolding job_in
job_in_reads None h = refl
job_in_reads (Some name) h = rw (not_blank-name_field name h, name_in_reads name h) refl
