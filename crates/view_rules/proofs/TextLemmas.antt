-- The bytes of a text, and the order of two texts byte by byte.
use Rattle.std.proofs.Common.{◌≡◌, ◌≢◌, ℕ, zero, suc, ◌+◌, ◌-◌, ◌<◌, ◌≤◌, true, false, not, ◌==◌, max, List, [], ◌∷◌, ◌++◌, length, drop, get_or, replicate, refl, sym, ◌∙◌, ap, add-one, arith}
use Rattle.std.proofs.lemmas.List.{length-append, length-replicate, drop_all}
use Rattle.std.proofs.Math.Seq.{drop-cons, get_or-append_right}
use Rattle.std.proofs.Math.ListN.{get_or-append}
use Rattle.std.specs.List.{flat_map, AllByRecursion}
use Rattle.std.specs.declared.cmp.Ordering.{Ordering}
use Rattle.std.specs.declared.cmp.Ordering.TheVariants.{Less, Equal, Greater}
use Rattle.std.specs.Ordering.{nat_cmp, ordering_then, ordering_index}
use Rattle.std.specs.Cmp.Lexicographic.{slice_cmp}
use Rattle.field_values.specs.FieldBytes.{filled}
use Rattle.field_values.proofs.MomentLemmas.{part-length}
use Rattle.file_model.specs.declared.views.Piece.{Piece}
use Rattle.file_model.specs.Views.{piece_of, pieces_length}
use Rattle.view_rules.specs.Shown.{IsWithin}
use Rattle.view_rules.specs.Operands.{bytes_of, text_of, IsText}
use Rattle.view_rules.specs.declared.texts.ShownText.{ShownText}

-- ---- blanks behind a text

blank-at : (n i d : ℕ) → get_or (replicate n d) i d ≡ d
blank-at zero i d = refl
blank-at (suc n) zero d = refl
blank-at (suc n) (suc i) d = blank-at n i d

behind-blanks : (xs : List ℕ) (n i d : ℕ) → get_or (xs ++ replicate n d) i d ≡ get_or xs i d
behind-blanks [] n i d = blank-at n i d
behind-blanks (x ∷ xs) n zero d = refl
behind-blanks (x ∷ xs) n (suc i) d = behind-blanks xs n i d

-- blanks behind a text are what stands behind it
pub filled-byte : (w : ℕ) (xs : List ℕ) (i : ℕ) → get_or (filled w xs) i 0x40 ≡ get_or xs i 0x40
filled-byte w xs i = behind-blanks xs (w - length xs) i 0x40

pub filled-length : (w : ℕ) (xs : List ℕ) → length (filled w xs) ≡ max w (length xs)
filled-length w xs =
    let all : length (filled w xs) ≡ length xs + length {A = ℕ} (replicate (w - length xs) 0x40) = length-append xs (replicate (w - length xs) 0x40) in
    let blanks : length {A = ℕ} (replicate (w - length xs) 0x40) ≡ w - length xs = length-replicate (w - length xs) 0x40 in
    omega (arith, all, blanks)

-- ---- two texts

-- what is left to compare from a place on
abbrev pub compared_from : ℕ → List ℕ → List ℕ → Ordering
compared_from i a b = slice_cmp nat_cmp (drop i (filled (length b) a)) (drop i (filled (length a) b))

text-length : (t : ShownText) → IsText t → length (text_of t) ≡ t.width
text-length t is =
    let long : length (text_of t) ≡ max t.width (length (bytes_of t.bytes)) = filled-length t.width (bytes_of t.bytes) in
    omega (arith, long, is.room)

place-byte : (n : ℕ) (t : ShownText) (i : ℕ) → get_or (filled n (text_of t)) i 0x40 ≡ get_or (bytes_of t.bytes) i 0x40
place-byte n t i = filled-byte n (text_of t) i ∙ filled-byte t.width (bytes_of t.bytes) i

cmp-step : (a b : List ℕ) (i : ℕ) → i < length a → i < length b →
    slice_cmp nat_cmp (drop i a) (drop i b) ≡ ordering_then (nat_cmp (get_or a i 0x40) (get_or b i 0x40)) (slice_cmp nat_cmp (drop (i + 1) a) (drop (i + 1) b))
cmp-step a b i inside also =
    let first : drop i a ≡ get_or a i 0x40 ∷ drop (i + 1) a = drop-cons a i 0x40 inside ∙ ap (λ (n : ℕ). get_or a i 0x40 ∷ drop n a) (sym (add-one i)) in
    let second : drop i b ≡ get_or b i 0x40 ∷ drop (i + 1) b = drop-cons b i 0x40 also ∙ ap (λ (n : ℕ). get_or b i 0x40 ∷ drop n b) (sym (add-one i)) in
    ap (λ (xs : List ℕ). slice_cmp nat_cmp xs (drop i b)) first ∙ ap (λ (ys : List ℕ). slice_cmp nat_cmp (get_or a i 0x40 ∷ drop (i + 1) a) ys) second

-- one place is compared, and then the others
pub compared-step : (a b : ShownText) (i : ℕ) → IsText a → IsText b → i < max a.width b.width →
    compared_from i (text_of a) (text_of b) ≡ ordering_then (nat_cmp (get_or (bytes_of a.bytes) i 0x40) (get_or (bytes_of b.bytes) i 0x40)) (compared_from (i + 1) (text_of a) (text_of b))
compared-step a b i first second inside =
    let wa : length (text_of a) ≡ a.width = text-length a first in
    let wb : length (text_of b) ≡ b.width = text-length b second in
    let la : length (filled (length (text_of b)) (text_of a)) ≡ max (length (text_of b)) (length (text_of a)) = filled-length (length (text_of b)) (text_of a) in
    let lb : length (filled (length (text_of a)) (text_of b)) ≡ max (length (text_of a)) (length (text_of b)) = filled-length (length (text_of a)) (text_of b) in
    let rest : Ordering = compared_from (i + 1) (text_of a) (text_of b) in
    cmp-step (filled (length (text_of b)) (text_of a)) (filled (length (text_of a)) (text_of b)) i (omega (arith, la, wa, wb, inside)) (omega (arith, lb, wa, wb, inside))
    ∙ ap (λ (n : ℕ). ordering_then (nat_cmp n (get_or (filled (length (text_of a)) (text_of b)) i 0x40)) rest) (place-byte (length (text_of b)) a i)
    ∙ ap (λ (n : ℕ). ordering_then (nat_cmp (get_or (bytes_of a.bytes) i 0x40) n) rest) (place-byte (length (text_of a)) b i)

then-other : (o rest : Ordering) → o ≢ Equal → ordering_then o rest ≡ o
then-other Less rest other = refl
then-other Equal rest other = absurd (other refl)
then-other Greater rest other = refl

pub differs : (o : Ordering) → not (ordering_index o == 1) ≡ true → o ≢ Equal
differs Less h e = cc
differs Equal h e = cc
differs Greater h e = cc

pub agrees : (o : Ordering) → not (ordering_index o == 1) ≡ false → o ≡ Equal
agrees Less h = cc
agrees Equal h = refl
agrees Greater h = cc

-- the first place that differs decides
pub other-byte : (a b : ShownText) (i : ℕ) (o : Ordering) → IsText a → IsText b → i < max a.width b.width →
    o ≡ nat_cmp (get_or (bytes_of a.bytes) i 0x40) (get_or (bytes_of b.bytes) i 0x40) → o ≢ Equal → compared_from i (text_of a) (text_of b) ≡ o
other-byte a b i o first second inside is other =
    compared-step a b i first second inside
    ∙ ap (λ (r : Ordering). ordering_then r (compared_from (i + 1) (text_of a) (text_of b))) (sym is)
    ∙ then-other o (compared_from (i + 1) (text_of a) (text_of b)) other

-- a place that doesn't is passed over
pub same-byte : (a b : ShownText) (i : ℕ) (o : Ordering) → IsText a → IsText b → i < max a.width b.width →
    o ≡ nat_cmp (get_or (bytes_of a.bytes) i 0x40) (get_or (bytes_of b.bytes) i 0x40) → o ≡ Equal → compared_from i (text_of a) (text_of b) ≡ compared_from (i + 1) (text_of a) (text_of b)
same-byte a b i o first second inside is equal =
    compared-step a b i first second inside
    ∙ ap (λ (r : Ordering). ordering_then r (compared_from (i + 1) (text_of a) (text_of b))) (sym is ∙ equal)

pub compared-end : (a b : ShownText) (i : ℕ) → IsText a → IsText b → max a.width b.width ≤ i → compared_from i (text_of a) (text_of b) ≡ Equal
compared-end a b i first second past =
    let wa : length (text_of a) ≡ a.width = text-length a first in
    let wb : length (text_of b) ≡ b.width = text-length b second in
    let la : length (filled (length (text_of b)) (text_of a)) ≡ max (length (text_of b)) (length (text_of a)) = filled-length (length (text_of b)) (text_of a) in
    let lb : length (filled (length (text_of a)) (text_of b)) ≡ max (length (text_of a)) (length (text_of b)) = filled-length (length (text_of a)) (text_of b) in
    ap (λ (xs : List ℕ). slice_cmp nat_cmp xs (drop i (filled (length (text_of a)) (text_of b)))) (drop_all i (filled (length (text_of b)) (text_of a)) (omega (arith, la, wa, wb, past)))
    ∙ ap (λ (ys : List ℕ). slice_cmp nat_cmp [] ys) (drop_all i (filled (length (text_of a)) (text_of b)) (omega (arith, lb, wa, wb, past)))

-- ---- pieces

pub piece-length : (image : List ℕ) (p : Piece) → IsWithin image p → length (piece_of image p) ≡ p.length
piece-length image p within = part-length p.offset p.length image within

pub pieces-length : (image : List ℕ) (pieces : List Piece) → AllByRecursion (IsWithin image) pieces → length (flat_map (piece_of image) pieces) ≡ pieces_length pieces
pieces-length image [] all = refl
pieces-length image (p ∷ pieces) all =
    let whole : length (flat_map (piece_of image) (p ∷ pieces)) ≡ length (piece_of image p) + length (flat_map (piece_of image) pieces) =
    length-append (piece_of image p) (flat_map (piece_of image) pieces) in
    let first : length (piece_of image p) ≡ p.length = piece-length image p all.0 in
    let rest : length (flat_map (piece_of image) pieces) ≡ pieces_length pieces = pieces-length image pieces all.1 in
    omega (arith, whole, first, rest)

-- a place within the first piece
pub in-piece : (image : List ℕ) (p : Piece) (pieces : List Piece) (i : ℕ) → IsWithin image p → i < p.length →
    get_or (flat_map (piece_of image) (p ∷ pieces)) i 0x40 ≡ get_or (piece_of image p) i 0x40
in-piece image p pieces i within inside =
    let long : length (piece_of image p) ≡ p.length = piece-length image p within in
    get_or-append (piece_of image p) (flat_map (piece_of image) pieces) 0x40 i (omega (arith, long, inside))

-- a place behind it
pub past-piece : (image : List ℕ) (p : Piece) (pieces : List Piece) (i : ℕ) → IsWithin image p → p.length ≤ i →
    get_or (flat_map (piece_of image) (p ∷ pieces)) i 0x40 ≡ get_or (flat_map (piece_of image) pieces) (i - p.length) 0x40
past-piece image p pieces i within past =
    let long : length (piece_of image p) ≡ p.length = piece-length image p within in
    get_or-append_right (piece_of image p) (flat_map (piece_of image) pieces) i 0x40 (omega (arith, long, past))
    ∙ ap (λ (n : ℕ). get_or (flat_map (piece_of image) pieces) (i - n) 0x40) long
