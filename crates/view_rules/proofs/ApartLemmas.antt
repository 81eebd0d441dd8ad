-- Bytes put into pieces of a record: what stands in them, and in pieces apart from them.
use Rattle.std.proofs.Common.{◌≡◌, ℕ, ◌+◌, ◌-◌, ◌≤◌, inl, inr, min, List, [], ◌∷◌, ◌++◌, length, take, drop, refl, sym, ◌∙◌, ap, subst, append_assoc, arith}
use Rattle.std.specs.List.{flat_map, AllByRecursion}
use Rattle.std.proofs.lemmas.List.{take-append-drop, take-append-le, drop-append-le, drop-drop, length-append, length-take, length-drop}
use Rattle.std.proofs.Math.Seq.{take-append_seam, drop-append-add}
use Rattle.field_values.specs.FirstBad.{part}
use Rattle.file_model.specs.declared.views.Piece.{Piece}
use Rattle.file_model.specs.Views.{piece_of, put_at, put_pieces, pieces_length}
use Rattle.view_rules.specs.Stored.{EndsWithin}
use Rattle.view_rules.specs.Apart.{AreApart, AreAllApart, EachApart}

pub put_at-length : (o : ℕ) (bytes image : List ℕ) → o + length bytes ≤ length image → length (put_at o bytes image) ≡ length image
put_at-length o bytes image room =
    let whole : length (put_at o bytes image) ≡ length (take o image ++ bytes) + length (drop (o + length bytes) image) = length-append (take o image ++ bytes) (drop (o + length bytes) image) in
    let front : length (take o image ++ bytes) ≡ length (take o image) + length bytes = length-append (take o image) bytes in
    let taken : length (take o image) ≡ min o (length image) = length-take o image in
    let left : length (drop (o + length bytes) image) ≡ length image - (o + length bytes) = length-drop (o + length bytes) image in
    omega (arith, whole, front, taken, left, room)

part-left : (i n : ℕ) (xs ys : List ℕ) → i + n ≤ length xs → part i n (xs ++ ys) ≡ part i n xs
part-left i n xs ys room =
    let left : length (drop i xs) ≡ length xs - i = length-drop i xs in
    ap (take n) (drop-append-le i xs ys (omega (arith, room))) ∙ take-append-le n (drop i xs) ys (omega (arith, left, room))

part-right : (i n k : ℕ) (xs ys : List ℕ) → i ≡ length xs + k → part i n (xs ++ ys) ≡ part k n ys
part-right i n k xs ys at = ap (take n) (ap (λ (m : ℕ). drop m (xs ++ ys)) at ∙ drop-append-add xs ys k)

-- bytes before those that are put
before-put : (i n o : ℕ) (bytes image : List ℕ) → o + length bytes ≤ length image → i + n ≤ o → part i n (put_at o bytes image) ≡ part i n image
before-put i n o bytes image room apart =
    let taken : length (take o image) ≡ min o (length image) = length-take o image in
    let inside : i + n ≤ length (take o image) = omega (arith, taken, room, apart) in
    ap (part i n) (append_assoc (take o image) bytes (drop (o + length bytes) image))
    ∙ part-left i n (take o image) (bytes ++ drop (o + length bytes) image) inside
    ∙ sym (part-left i n (take o image) (drop o image) inside)
    ∙ ap (part i n) (take-append-drop o image)

-- bytes behind them
behind-put : (i n o : ℕ) (bytes image : List ℕ) → o + length bytes ≤ length image → o + length bytes ≤ i → part i n (put_at o bytes image) ≡ part i n image
behind-put i n o bytes image room apart =
    let end : ℕ = o + length bytes in
    let taken : length (take o image) ≡ min o (length image) = length-take o image in
    let front : length (take o image ++ bytes) ≡ length (take o image) + length bytes = length-append (take o image) bytes in
    let at : i ≡ length (take o image ++ bytes) + (i - end) = omega (arith, taken, front, room, apart) in
    let back : end + (i - end) ≡ i = omega (arith, apart) in
    part-right i n (i - end) (take o image ++ bytes) (drop end image) at
    ∙ ap (take n) (drop-drop (i - end) end image ∙ ap (λ (m : ℕ). drop m image) back)

-- those that are put
own-put : (o : ℕ) (bytes image : List ℕ) → o ≤ length image → part o (length bytes) (put_at o bytes image) ≡ bytes
own-put o bytes image room =
    let taken : length (take o image) ≡ min o (length image) = length-take o image in
    let at : o ≡ length (take o image) + 0 = omega (arith, taken, room) in
    ap (part o (length bytes)) (append_assoc (take o image) bytes (drop (o + length bytes) image))
    ∙ part-right o (length bytes) 0 (take o image) (bytes ++ drop (o + length bytes) image) at
    ∙ take-append_seam bytes (drop (o + length bytes) image)

-- a piece apart from another keeps its bytes, whatever of the other is put
apart-put : (p q : Piece) (bytes image : List ℕ) → AreApart p q → q.offset + q.length ≤ length image → length bytes ≤ q.length →
    piece_of (put_at q.offset bytes image) p ≡ piece_of image p
apart-put p q bytes image (inl before) room short = before-put p.offset p.length q.offset bytes image (omega (arith, room, short)) before
apart-put p q bytes image (inr behind) room short = behind-put p.offset p.length q.offset bytes image (omega (arith, room, short)) (omega (arith, behind, short))

short-part : (n : ℕ) (text : List ℕ) → length (take n text) ≤ n
short-part n text = let taken : length (take n text) ≡ min n (length text) = length-take n text in omega (arith, taken)

pub put_pieces-length : (ps : List Piece) (text image : List ℕ) → AllByRecursion (EndsWithin (length image)) ps → length (put_pieces ps text image) ≡ length image
put_pieces-length [] text image all = refl
put_pieces-length (p ∷ ps) text image all =
    let short : length (take p.length text) ≤ p.length = short-part p.length text in
    let long : length (put_at p.offset (take p.length text) image) ≡ length image = put_at-length p.offset (take p.length text) image (omega (arith, short, all.0)) in
    put_pieces-length ps (drop p.length text) (put_at p.offset (take p.length text) image)
    (subst (λ (n : ℕ). AllByRecursion (EndsWithin n) ps) (sym long) all.1) ∙ long

apart-pieces : (p : Piece) (qs : List Piece) (text image : List ℕ) → AllByRecursion (AreApart p) qs → AllByRecursion (EndsWithin (length image)) qs →
    piece_of (put_pieces qs text image) p ≡ piece_of image p
apart-pieces p [] text image apart all = refl
apart-pieces p (q ∷ qs) text image apart all =
    let short : length (take q.length text) ≤ q.length = short-part q.length text in
    let long : length (put_at q.offset (take q.length text) image) ≡ length image = put_at-length q.offset (take q.length text) image (omega (arith, short, all.0)) in
    apart-pieces p qs (drop q.length text) (put_at q.offset (take q.length text) image) apart.1 (subst (λ (n : ℕ). AllByRecursion (EndsWithin n) qs) (sym long) all.1)
    ∙ apart-put p q (take q.length text) image apart.0 all.0 short

-- pieces apart from those that are put over keep their bytes
pub pieces-kept : (ps qs : List Piece) (text image : List ℕ) → AreAllApart ps qs → AllByRecursion (EndsWithin (length image)) qs →
    flat_map (piece_of (put_pieces qs text image)) ps ≡ flat_map (piece_of image) ps
pieces-kept [] qs text image apart all = refl
pieces-kept (p ∷ ps) qs text image apart all =
    ap (λ (w : List ℕ). w ++ flat_map (piece_of (put_pieces qs text image)) ps) (apart-pieces p qs text image apart.0 all)
    ∙ ap (λ (w : List ℕ). piece_of image p ++ w) (pieces-kept ps qs text image apart.1 all)

-- a text that is put over pieces apart stands in them
pub pieces-own : (ps : List Piece) (text image : List ℕ) → EachApart ps → AllByRecursion (EndsWithin (length image)) ps → length text ≡ pieces_length ps →
    flat_map (piece_of (put_pieces ps text image)) ps ≡ text
pieces-own [] [] image apart all long = refl
pieces-own [] (b ∷ text) image apart all long = absurd (omega (arith, long))
pieces-own (p ∷ ps) text image apart all long =
    let first : List ℕ = take p.length text in
    let next : List ℕ = put_at p.offset first image in
    let taken : length first ≡ p.length = (let cut : length first ≡ min p.length (length text) = length-take p.length text in omega (arith, cut, long)) in
    let same : length next ≡ length image = put_at-length p.offset first image (omega (arith, taken, all.0)) in
    let others : AllByRecursion (EndsWithin (length next)) ps = subst (λ (n : ℕ). AllByRecursion (EndsWithin n) ps) (sym same) all.1 in
    let rest : length (drop p.length text) ≡ pieces_length ps = (let left : length (drop p.length text) ≡ length text - p.length = length-drop p.length text in omega (arith, left, long)) in
    let stands : piece_of next p ≡ first = ap (λ (n : ℕ). part p.offset n next) (sym taken) ∙ own-put p.offset first image (omega (arith, all.0)) in
    ap (λ (w : List ℕ). w ++ flat_map (piece_of (put_pieces ps (drop p.length text) next)) ps) (apart-pieces p ps (drop p.length text) next apart.0 others ∙ stands)
    ∙ ap (λ (w : List ℕ). first ++ w) (pieces-own ps (drop p.length text) next apart.1 others rest)
    ∙ take-append-drop p.length text
