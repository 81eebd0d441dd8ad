-- What the reader's fields take is what the writer's fields spell, and what is spelled is taken again.
use Rattle.std.proofs.Common.{◌≡◌, ℕ, zero, suc, ◌+◌, ◌^◌, ◌<◌, Bool, true, false, cond, ◌&&◌, ltb, leb, eqb, List, [], ◌∷◌, ◌++◌, length, get_or, take, drop, IsTrue, Option, Some, None, refl, sym, ap, subst, ◌∙◌, append_assoc, arith, inl, inr, length-append, length-take, lit<}
use Rattle.std.specs.Prelude.{IfSome, ⊤}
use Rattle.std.proofs.lemmas.Bool.{cases_lt, ltb-false, le-ltb, leb-true, le-leb, eqb-true, false≢true}
use Rattle.std.proofs.lemmas.List.{take_at, drop_at, take-append-drop, get_or-drop, get_or-take, get_or_past, append-nil}
use Rattle.std.proofs.lemmas.Nat.{be_bytes_4, be_bytes_8}
use Rattle.byteorder.specs.Endian.{big_number}
use Rattle.byteorder.specs.Numbers.{big_number-reads_back, big_from-lt}
use Rattle.std.proofs.Math.Dec.{eqb-suc-zero}
use Rattle.std.specs.Option.{unwrap_or}
use Rattle.commit_level.specs.declared.Level.{Level}
use Rattle.commit_level.specs.declared.Level.TheVariants.{Chg, Cs, All}
use Rattle.entry_codec.specs.declared.kinds.FileKind.{FileKind}
use Rattle.entry_codec.specs.declared.kinds.FileKind.TheVariants.{Physical, Logical}
use Rattle.entry_codec.specs.declared.kinds.Images.{Images}
use Rattle.entry_codec.specs.declared.kinds.Images.TheVariants.{After, Both}
use Rattle.entry_codec.specs.Placing.{is_counted}
use Rattle.entry_codec.specs.Spelling.{number4, number8, file_kind_field, images_field, level_field, before_field, image_field, optional_image_field, source_field, IsImage}
use Rattle.entry_codec.specs.Reading.{◌>>=◌, front_at, number4_of, number8_of, number4_at, number8_at, unless_zero, optional4_at, optional8_at, file_kind_at, images_at, level_at, before_at, image_at, flagged_image_at, optional_image_at, source_at}
use Rattle.entry_codec.proofs.FieldLemmas.{length-number4, length-number8}

abbrev pub IsBytes : List ℕ → Type 0
IsBytes bytes = (i : ℕ) → get_or bytes i 0 < 256

pub IsBytes-drop : (n : ℕ) (bytes : List ℕ) → IsBytes bytes → IsBytes (drop n bytes)
IsBytes-drop n bytes h i = rw get_or-drop (h (n + i))

pub IsBytes-take : (n : ℕ) (bytes : List ℕ) → IsBytes bytes → IsBytes (take n bytes)
IsBytes-take n bytes h i =
    elim (cases_lt i n) [
      | inl lt ↦ rw (get_or-take n bytes i 0 lt) (h i)
      | inr le ↦ rw (get_or_past (take n bytes) i 0 (omega (arith, length-take n bytes))) (omega arith)
    ]

pub IsBytes-rest : (b : ℕ) (bytes : List ℕ) → IsBytes (b ∷ bytes) → IsBytes bytes
IsBytes-rest b bytes h i = h (suc i)

-- what holds of each step's value holds of the last
pub bind_takes : {A B : Type 0} (P : A → Type 0) (Q : B → Type 0) (r : Option A) (f : A → Option B) → IfSome r P → ((x : A) → P x → IfSome (f x) Q) → IfSome (r >>= f) Q
bind_takes P Q (Some x) f p q = q x p
bind_takes P Q None f p q = tt

-- a test, and what holds where it does
pub test_takes : {A : Type 0} (P : A → Type 0) (b : Bool) (x y : Option A) → (b ≡ true → IfSome x P) → (b ≡ false → IfSome y P) → IfSome (cond b x y) P
test_takes P true x y p q = p refl
test_takes P false x y p q = q refl

pub IfSome-weaker : {A : Type 0} (P Q : A → Type 0) (o : Option A) → IfSome o P → ((x : A) → P x → Q x) → IfSome o Q
IfSome-weaker P Q (Some x) p q = q x p
IfSome-weaker P Q None p q = tt

pub and-split : (a b : Bool) → (a && b) ≡ true → (a ≡ true) × (b ≡ true)
and-split true true h = (refl, refl)
and-split true false h = (refl, h)
and-split false b h = (h, absurd (false≢true h))

-- what a reader took from the front: text, and what is left
pub record Takes (bytes text rest : List ℕ) : Type 0 where
  pub parts : bytes ≡ text ++ rest
  pub rest_fits : IsBytes rest

pub Takes-then : (a x b y c : List ℕ) → Takes a x b → Takes b y c → Takes a (x ++ y) c
Takes-then a x b y c p q = record { parts = p.parts ∙ ap (λ (t : List ℕ). x ++ t) q.parts ∙ sym (append_assoc x y c); rest_fits = q.rest_fits }

-- ---- so many bytes

pub front_takes : (n : ℕ) (bytes : List ℕ) → IsBytes bytes → IfSome (front_at n bytes) (λ x. Takes bytes x.0 x.1 × (length x.0 ≡ n) × IsBytes x.0)
unfolding front_at
front_takes n bytes fits =
    test_takes (λ (x : List ℕ × List ℕ). Takes bytes x.0 x.1 × (length x.0 ≡ n) × IsBytes x.0) (ltb (length bytes) n) None (Some (take n bytes, drop n bytes)) (λ short. tt)
    (λ long. (record { parts = sym (take-append-drop n bytes); rest_fits = IsBytes-drop n bytes fits }, omega (arith, length-take n bytes, ltb-false (length bytes) n long), IsBytes-take n bytes fits))

pub front_again : (n : ℕ) (text rest : List ℕ) → length text ≡ n → front_at n (text ++ rest) ≡ Some (text, rest)
unfolding front_at
front_again n text rest len =
    let long : ltb (length (text ++ rest)) n ≡ false = le-ltb _ _ (omega (arith, length-append text rest)) in
    rw (long, take_at text rest n len, drop_at text rest n len) refl

-- ---- numbers

pub number4_back : (bytes : List ℕ) → length bytes ≡ 4 → IsBytes bytes → number4 (number4_of bytes) ≡ bytes
unfolding number4 number4_of
number4_back bytes len fits = be_bytes_4 bytes (big_number 4 bytes) len fits (omega arith)

pub number8_back : (bytes : List ℕ) → length bytes ≡ 8 → IsBytes bytes → number8 (number8_of bytes) ≡ bytes
unfolding number8 number8_of
number8_back bytes len fits = be_bytes_8 bytes (big_number 8 bytes) len fits (omega arith)

pub number4_again : (n : ℕ) → n < 2 ^ 32 → number4_of (number4 n) ≡ n
unfolding number4 number4_of
number4_again n lt = big_number-reads_back 4 n [] lt

pub number8_again : (n : ℕ) → n < 2 ^ 64 → number8_of (number8 n) ≡ n
unfolding number8 number8_of
number8_again n lt = big_number-reads_back 8 n [] lt

pub number4_below : (bytes : List ℕ) → IsBytes bytes → number4_of bytes < 2 ^ 32
unfolding number4_of
number4_below bytes fits = big_from-lt 0 4 bytes fits

pub number8_below : (bytes : List ℕ) → IsBytes bytes → number8_of bytes < 2 ^ 64
unfolding number8_of
number8_below bytes fits = big_from-lt 0 8 bytes fits

pub number4_takes : (bytes : List ℕ) → IsBytes bytes → IfSome (number4_at bytes) (λ x. Takes bytes (number4 x.0) x.1 × (x.0 < 2 ^ 32))
unfolding number4_at
number4_takes bytes fits =
    bind_takes (λ (x : List ℕ × List ℕ). Takes bytes x.0 x.1 × (length x.0 ≡ 4) × IsBytes x.0) (λ (x : ℕ × List ℕ). Takes bytes (number4 x.0) x.1 × (x.0 < 2 ^ 32)) (front_at 4 bytes) (λ front. Some (number4_of front.0, front.1)) (front_takes 4 bytes fits)
    (λ x p. (rw (number4_back x.0 p.1 p.2) p.0, number4_below x.0 p.2))

pub number8_takes : (bytes : List ℕ) → IsBytes bytes → IfSome (number8_at bytes) (λ x. Takes bytes (number8 x.0) x.1 × (x.0 < 2 ^ 64))
unfolding number8_at
number8_takes bytes fits =
    bind_takes (λ (x : List ℕ × List ℕ). Takes bytes x.0 x.1 × (length x.0 ≡ 8) × IsBytes x.0) (λ (x : ℕ × List ℕ). Takes bytes (number8 x.0) x.1 × (x.0 < 2 ^ 64)) (front_at 8 bytes) (λ front. Some (number8_of front.0, front.1)) (front_takes 8 bytes fits)
    (λ x p. (rw (number8_back x.0 p.1 p.2) p.0, number8_below x.0 p.2))

pub number4_reads : (n : ℕ) (rest : List ℕ) → n < 2 ^ 32 → number4_at (number4 n ++ rest) ≡ Some (n, rest)
unfolding number4_at
number4_reads n rest lt = rw (front_again 4 (number4 n) rest (length-number4 n), number4_again n lt) refl

pub number8_reads : (n : ℕ) (rest : List ℕ) → n < 2 ^ 64 → number8_at (number8 n ++ rest) ≡ Some (n, rest)
unfolding number8_at
number8_reads n rest lt = rw (front_again 8 (number8 n) rest (length-number8 n), number8_again n lt) refl

-- ---- numbers that may be missing

-- a number that is there isn't 0
abbrev pub IsCounted : Option ℕ → Type 0
IsCounted n = IsTrue (is_counted n)

unless_zero-back : (n : ℕ) → unwrap_or (unless_zero n) 0 ≡ n
unless_zero-back zero = refl
unless_zero-back (suc n) = rw (eqb-suc-zero n) refl

unless_zero-again : (n : Option ℕ) → IsCounted n → unless_zero (unwrap_or n 0) ≡ n
unless_zero-again None h = refl
unless_zero-again (Some zero) h = absurd (false≢true h)
unless_zero-again (Some (suc n)) h = rw (eqb-suc-zero n) refl

unless_zero-below : (limit n : ℕ) → n < limit → IfSome (unless_zero n) (λ k. k < limit)
unless_zero-below limit zero h = tt
unless_zero-below limit (suc n) h = rw (eqb-suc-zero n) h

pub optional4_takes : (bytes : List ℕ) → IsBytes bytes → IfSome (optional4_at bytes) (λ x. Takes bytes (number4 (unwrap_or x.0 0)) x.1 × IfSome x.0 (λ n. n < 2 ^ 32))
unfolding optional4_at
optional4_takes bytes fits =
    bind_takes (λ (x : ℕ × List ℕ). Takes bytes (number4 x.0) x.1 × (x.0 < 2 ^ 32)) (λ (x : Option ℕ × List ℕ). Takes bytes (number4 (unwrap_or x.0 0)) x.1 × IfSome x.0 (λ n. n < 2 ^ 32)) (number4_at bytes) (λ n. Some (unless_zero n.0, n.1)) (number4_takes bytes fits)
    (λ x p. (rw (unless_zero-back x.0) p.0, unless_zero-below (2 ^ 32) x.0 p.1))

pub optional8_takes : (bytes : List ℕ) → IsBytes bytes → IfSome (optional8_at bytes) (λ x. Takes bytes (number8 (unwrap_or x.0 0)) x.1 × IfSome x.0 (λ n. n < 2 ^ 64))
unfolding optional8_at
optional8_takes bytes fits =
    bind_takes (λ (x : ℕ × List ℕ). Takes bytes (number8 x.0) x.1 × (x.0 < 2 ^ 64)) (λ (x : Option ℕ × List ℕ). Takes bytes (number8 (unwrap_or x.0 0)) x.1 × IfSome x.0 (λ n. n < 2 ^ 64)) (number8_at bytes) (λ n. Some (unless_zero n.0, n.1)) (number8_takes bytes fits)
    (λ x p. (rw (unless_zero-back x.0) p.0, unless_zero-below (2 ^ 64) x.0 p.1))

unwrap_or-below : (limit : ℕ) (n : Option ℕ) → 0 < limit → IfSome n (λ k. k < limit) → unwrap_or n 0 < limit
unwrap_or-below limit None pos h = pos
unwrap_or-below limit (Some n) pos h = h

pub optional4_reads : (n : Option ℕ) (rest : List ℕ) → IsCounted n → IfSome n (λ k. k < 2 ^ 32) → optional4_at (number4 (unwrap_or n 0) ++ rest) ≡ Some (n, rest)
unfolding optional4_at
optional4_reads n rest counted lt = rw (number4_reads (unwrap_or n 0) rest (unwrap_or-below (2 ^ 32) n (lit< tt) lt), unless_zero-again n counted) refl

pub optional8_reads : (n : Option ℕ) (rest : List ℕ) → IsCounted n → IfSome n (λ k. k < 2 ^ 64) → optional8_at (number8 (unwrap_or n 0) ++ rest) ≡ Some (n, rest)
unfolding optional8_at
optional8_reads n rest counted lt = rw (number8_reads (unwrap_or n 0) rest (unwrap_or-below (2 ^ 64) n (lit< tt) lt), unless_zero-again n counted) refl

-- ---- flags

flag_takes : (flag k : ℕ) (rest : List ℕ) → IsBytes (flag ∷ rest) → eqb flag k ≡ true → Takes (flag ∷ rest) (k ∷ []) rest
flag_takes flag k rest fits is = record { parts = ap (λ (b : ℕ). b ∷ rest) (eqb-true flag k is); rest_fits = IsBytes-rest flag rest fits }

pub file_kind_takes : (bytes : List ℕ) → IsBytes bytes → IfSome (file_kind_at bytes) (λ x. Takes bytes (file_kind_field x.0) x.1 × ⊤)
unfolding file_kind_at
file_kind_takes [] fits = tt
file_kind_takes (flag ∷ rest) fits =
    let P = λ (x : FileKind × List ℕ). Takes (flag ∷ rest) (file_kind_field x.0) x.1 × ⊤ in
    test_takes P (eqb flag 1) (Some (Physical, rest)) (cond (eqb flag 2) (Some (Logical, rest)) None) (λ is. (flag_takes flag 1 rest fits is, tt))
    (λ _. test_takes P (eqb flag 2) (Some (Logical, rest)) None (λ is. (flag_takes flag 2 rest fits is, tt)) (λ _. tt))

pub file_kind_reads : (k : FileKind) (rest : List ℕ) → file_kind_at (file_kind_field k ++ rest) ≡ Some (k, rest)
unfolding file_kind_at
file_kind_reads Physical rest = refl
file_kind_reads Logical rest = refl

pub images_takes : (bytes : List ℕ) → IsBytes bytes → IfSome (images_at bytes) (λ x. Takes bytes (images_field x.0) x.1 × ⊤)
unfolding images_at
images_takes [] fits = tt
images_takes (flag ∷ rest) fits =
    let P = λ (x : Images × List ℕ). Takes (flag ∷ rest) (images_field x.0) x.1 × ⊤ in
    test_takes P (eqb flag 1) (Some (After, rest)) (cond (eqb flag 2) (Some (Both, rest)) None) (λ is. (flag_takes flag 1 rest fits is, tt))
    (λ _. test_takes P (eqb flag 2) (Some (Both, rest)) None (λ is. (flag_takes flag 2 rest fits is, tt)) (λ _. tt))

pub images_reads : (i : Images) (rest : List ℕ) → images_at (images_field i ++ rest) ≡ Some (i, rest)
unfolding images_at
images_reads After rest = refl
images_reads Both rest = refl

pub before_takes : (bytes : List ℕ) → IsBytes bytes → IfSome (before_at bytes) (λ x. Takes bytes (before_field x.0) x.1 × ⊤)
unfolding before_at
before_takes [] fits = tt
before_takes (flag ∷ rest) fits =
    let P = λ (x : Bool × List ℕ). Takes (flag ∷ rest) (before_field x.0) x.1 × ⊤ in
    test_takes P (eqb flag 1) (Some (false, rest)) (cond (eqb flag 2) (Some (true, rest)) None) (λ is. (flag_takes flag 1 rest fits is, tt))
    (λ _. test_takes P (eqb flag 2) (Some (true, rest)) None (λ is. (flag_takes flag 2 rest fits is, tt)) (λ _. tt))

pub before_reads : (b : Bool) (rest : List ℕ) → before_at (before_field b ++ rest) ≡ Some (b, rest)
unfolding before_at
before_reads false rest = refl
before_reads true rest = refl

pub level_takes : (bytes : List ℕ) → IsBytes bytes → IfSome (level_at bytes) (λ x. Takes bytes (level_field x.0) x.1 × ⊤)
unfolding level_at
level_takes [] fits = tt
level_takes (flag ∷ rest) fits =
    let P = λ (x : Level × List ℕ). Takes (flag ∷ rest) (level_field x.0) x.1 × ⊤ in
    test_takes P (eqb flag 1) (Some (Chg, rest)) (cond (eqb flag 2) (Some (Cs, rest)) (cond (eqb flag 3) (Some (All, rest)) None)) (λ is. (flag_takes flag 1 rest fits is, tt))
    (λ _. test_takes P (eqb flag 2) (Some (Cs, rest)) (cond (eqb flag 3) (Some (All, rest)) None) (λ is. (flag_takes flag 2 rest fits is, tt))
    (λ _. test_takes P (eqb flag 3) (Some (All, rest)) None (λ is. (flag_takes flag 3 rest fits is, tt)) (λ _. tt)))

pub level_reads : (l : Level) (rest : List ℕ) → level_at (level_field l ++ rest) ≡ Some (l, rest)
unfolding level_at
level_reads Chg rest = refl
level_reads Cs rest = refl
level_reads All rest = refl

-- ---- images

pub image_takes : (bytes : List ℕ) → IsBytes bytes → IfSome (image_at bytes) (λ x. Takes bytes x.0 x.1 × IsImage x.0)
unfolding image_at
image_takes bytes fits =
    test_takes (λ (x : List ℕ × List ℕ). Takes bytes x.0 x.1 × IsImage x.0) (leb 1 (length bytes) && leb (length bytes) 32766) (Some (bytes, [])) None
    (λ is. let both = and-split (leb 1 (length bytes)) (leb (length bytes) 32766) is in (record { parts = sym (append-nil bytes); rest_fits = λ i. lit< tt }, (leb-true _ _ both.0, leb-true _ _ both.1)))
    (λ _. tt)

pub image_reads : (image : List ℕ) → IsImage image → image_at image ≡ Some (image, [])
unfolding image_at
image_reads image is = rw (le-leb 1 (length image) is.0, le-leb (length image) 32766 is.1) refl

pub flagged_image_takes : (bytes : List ℕ) → IsBytes bytes → IfSome (flagged_image_at bytes) (λ x. Takes bytes (image_field x.0) x.1 × IsImage x.0)
unfolding flagged_image_at
flagged_image_takes [] fits = tt
flagged_image_takes (flag ∷ rest) fits =
    test_takes (λ (x : List ℕ × List ℕ). Takes (flag ∷ rest) (image_field x.0) x.1 × IsImage x.0) (eqb flag 1) (image_at rest) None
    (λ is. IfSome-weaker (λ (x : List ℕ × List ℕ). Takes rest x.0 x.1 × IsImage x.0) (λ (x : List ℕ × List ℕ). Takes (flag ∷ rest) (image_field x.0) x.1 × IsImage x.0) (image_at rest) (image_takes rest (IsBytes-rest flag rest fits))
    (λ x p. (Takes-then (flag ∷ rest) (1 ∷ []) rest x.0 x.1 (flag_takes flag 1 rest fits is) p.0, p.1)))
    (λ _. tt)

pub flagged_image_reads : (image : List ℕ) → IsImage image → flagged_image_at (image_field image) ≡ Some (image, [])
unfolding flagged_image_at
flagged_image_reads image is = image_reads image is

pub optional_image_takes : (bytes : List ℕ) → IsBytes bytes → IfSome (optional_image_at bytes) (λ x. Takes bytes (optional_image_field x.0) x.1 × IfSome x.0 IsImage)
unfolding optional_image_at
optional_image_takes [] fits = tt
optional_image_takes (flag ∷ rest) fits =
    let P = λ (x : Option (List ℕ) × List ℕ). Takes (flag ∷ rest) (optional_image_field x.0) x.1 × IfSome x.0 IsImage in
    test_takes P (eqb flag 0) (Some (None, rest)) (cond (eqb flag 1) (image_at rest >>= λ image. Some (Some image.0, image.1)) None) (λ is. (flag_takes flag 0 rest fits is, tt))
    (λ _. test_takes P (eqb flag 1) (image_at rest >>= λ image. Some (Some image.0, image.1)) None
    (λ is. bind_takes (λ (x : List ℕ × List ℕ). Takes rest x.0 x.1 × IsImage x.0) P (image_at rest) (λ image. Some (Some image.0, image.1)) (image_takes rest (IsBytes-rest flag rest fits))
    (λ x p. (Takes-then (flag ∷ rest) (1 ∷ []) rest x.0 x.1 (flag_takes flag 1 rest fits is) p.0, p.1)))
    (λ _. tt))

pub optional_image_reads : (kept : Option (List ℕ)) → IfSome kept IsImage → optional_image_at (optional_image_field kept) ≡ Some (kept, [])
unfolding optional_image_at
optional_image_reads None is = refl
optional_image_reads (Some image) is = rw (image_reads image is) refl

-- ---- sources

pub source_takes : (bytes : List ℕ) → IsBytes bytes → IfSome (source_at bytes) (λ x. Takes bytes (source_field x.0) x.1 × ⊤)
unfolding source_at
source_takes bytes fits =
    let P = λ (x : List ℕ × List ℕ). Takes bytes (source_field x.0) x.1 × ⊤ in
    bind_takes (λ (x : ℕ × List ℕ). Takes bytes (number4 x.0) x.1 × (x.0 < 2 ^ 32)) P (number4_at bytes) (λ n. front_at n.0 n.1) (number4_takes bytes fits)
    (λ n p. IfSome-weaker (λ (x : List ℕ × List ℕ). Takes n.1 x.0 x.1 × (length x.0 ≡ n.0) × IsBytes x.0) P (front_at n.0 n.1) (front_takes n.0 n.1 p.0.rest_fits)
    (λ x q. (subst (λ (k : ℕ). Takes bytes (number4 k ++ x.0) x.1) (sym q.1) (Takes-then bytes (number4 n.0) n.1 x.0 x.1 p.0 q.0), tt)))

pub source_reads : (source rest : List ℕ) → length source < 2 ^ 32 → source_at (source_field source ++ rest) ≡ Some (source, rest)
unfolding source_at
source_reads source rest lt =
    ap source_at (append_assoc (number4 (length source)) source rest) ∙ rw (number4_reads (length source) (source ++ rest) lt) (front_again (length source) source rest refl)
