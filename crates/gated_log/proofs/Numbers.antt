-- Numbers and headers as bytes.
use Rattle.std.proofs.Common.{◌≡◌, ◌≢◌, ℕ, suc, ◌+◌, ◌-◌, ◌^◌, ◌<◌, ◌≤◌, List, [], ◌∷◌, ◌++◌, length, get_or, set, take, drop, refl, sym, ◌∙◌, ap, subst, arith, append_assoc, length-append, length-take, length-drop}
use Rattle.std.proofs.lemmas.List.{nil_from_length, append-nil, take_at, drop_at, drop_all, set_split, set-append_right}
use Rattle.std.proofs.lemmas.Nat.{be_bytes_4}
use Rattle.std.specs.Int.{w32, from_be_bytes}
use Rattle.byteorder.specs.Endian.{big_bytes, big_number}
use Rattle.byteorder.specs.Numbers.{big_number-reads_back}
use Rattle.gated_log.specs.Blocks.{header, block_bytes, between, frame, MayBegin, HasNoHeader}

same_number : (bs : List ℕ) → big_number 4 bs ≡ from_be_bytes w32 bs
same_number bs = omega arith

-- four bytes are those of the number that they read as
pub bytes_back : (bs : List ℕ) (n : ℕ) → length bs ≡ 4 → ((i : ℕ) → get_or bs i 0 < 256) → n ≡ big_number 4 bs → bs ≡ big_bytes 4 n
bytes_back bs n size bytes is = sym (be_bytes_4 bs n size bytes (is ∙ same_number bs))

pub length-header : (area first version : ℕ) → length (header area first version) ≡ 32
unfolding header
length-header area first version = refl

pub length-block_bytes : (block : List ℕ) → length (block_bytes block) ≡ 4 + length block
unfolding block_bytes
length-block_bytes block = length-append (big_bytes 4 (length block)) block

-- the first sequence and the version read back
pub first_back : (area first version : ℕ) (body : List ℕ) → first < 2 ^ 64 → big_number 8 (take 8 (drop 16 (header area first version ++ body))) ≡ first
unfolding header
first_back area first version body fits = big_number-reads_back 8 first [] fits

pub version_back : (area first version : ℕ) (body : List ℕ) → version < 2 ^ 32 → big_number 4 (take 4 (drop 8 (header area first version ++ body))) ≡ version
unfolding header
version_back area first version body fits = big_number-reads_back 4 version [] fits

pub version_fits : (area first version : ℕ) → MayBegin area first version → version < 2 ^ 32
version_fits area first version may = omega (arith, may.one_version)

-- bytes that aren't the header of the sequence and the version that they read as are no header
pub no_header : (area first version : ℕ) (bytes : List ℕ) → length bytes ≡ 32 → first ≡ big_number 8 (take 8 (drop 16 bytes)) → version ≡ big_number 4 (take 4 (drop 8 bytes)) → (MayBegin area first version → bytes ≢ header area first version) → HasNoHeader area bytes
no_header area first version bytes size is kind other = λ sequence another body may whole.
    let same : sequence ≡ first = sym (first_back area sequence another body may.fits) ∙ ap (λ (l : List ℕ). big_number 8 (take 8 (drop 16 l))) (sym whole) ∙ sym is in
    let alike : another ≡ version = sym (version_back area sequence another body (version_fits area sequence another may)) ∙ ap (λ (l : List ℕ). big_number 4 (take 4 (drop 8 l))) (sym whole) ∙ sym kind in
    let none : body ≡ [] = nil_from_length body (omega (arith, ap length whole, length-append (header area sequence another) body, length-header area sequence another)) in
    other (subst (λ (n : ℕ). MayBegin area first n) alike (subst (λ (n : ℕ). MayBegin area n another) same may))
    (whole ∙ ap (λ (l : List ℕ). header area sequence another ++ l) none ∙ append-nil (header area sequence another) ∙ ap (λ (n : ℕ). header area n another) same ∙ ap (λ (n : ℕ). header area first n) alike)

-- fewer bytes than a header has are none
pub short_header : (area : ℕ) (bytes : List ℕ) → length bytes < 32 → HasNoHeader area bytes
short_header area bytes short = λ first version body has whole. omega (arith, ap length whole, length-append (header area first version) body, length-header area first version)

-- nor do bytes that don't begin with one
pub front_header : (area : ℕ) (bytes : List ℕ) → 32 ≤ length bytes → HasNoHeader area (take 32 bytes) → HasNoHeader area bytes
front_header area bytes long none = λ first version body has whole.
    none first version [] has (ap (λ (l : List ℕ). take 32 l) whole ∙ take_at (header area first version) body 32 (length-header area first version) ∙ sym (append-nil (header area first version)))

-- a frame has five bytes more than its block
pub length-frame : (block : List ℕ) → length (frame block) ≡ 5 + length block
length-frame block = omega (arith, length-append (block_bytes block) (0 ∷ []), length-block_bytes block)

-- what stands between four bytes and one
pub between_is : (front block : List ℕ) (last : ℕ) → length front ≡ 4 → between (front ++ block ++ last ∷ []) ≡ block
between_is front block last four =
    let whole = front ++ block ++ last ∷ [] in
    let size : length whole - 5 ≡ length block = omega (arith, length-append (front ++ block) (last ∷ []), length-append front block) in
    ap (λ (n : ℕ). take n (drop 4 whole)) size
    ∙ ap (λ (l : List ℕ). take (length block) l) (ap (λ (l : List ℕ). drop 4 l) (append_assoc front block (last ∷ [])) ∙ drop_at front (block ++ last ∷ []) 4 four)
    ∙ take_at block (last ∷ []) (length block) refl

-- a length in front of what stands in the middle, and a closed gate behind it
pub framed_is : (old front : List ℕ) (n : ℕ) → 5 ≤ length old → n ≡ length old - 5 → front ≡ big_bytes 4 n → set (front ++ drop 4 old) (4 + n) 0 ≡ frame (between old)
unfolding block_bytes
framed_is old front n long size is =
    let length_is : n ≡ length (between old) = omega (arith, size, length-take (length old - 5) (drop 4 old), length-drop 4 old) in
    let four : length front ≡ 4 = ap length is in
    let none : drop (suc n) (drop 4 old) ≡ [] = drop_all (suc n) (drop 4 old) (omega (arith, size, length-drop 4 old)) in
    let behind : (4 + n) - 4 ≡ n = omega arith in
    let last : set (drop 4 old) n 0 ≡ between old ++ 0 ∷ [] =
    set_split (drop 4 old) n 0 (omega (arith, size, length-drop 4 old)) ∙ ap (λ (l : List ℕ). take n (drop 4 old) ++ 0 ∷ l) none ∙ ap (λ (k : ℕ). take k (drop 4 old) ++ 0 ∷ []) size in
    set-append_right front (drop 4 old) 4 (4 + n) 0 four (omega arith) ∙ ap (λ (k : ℕ). front ++ set (drop 4 old) k 0) behind ∙ ap (λ (l : List ℕ). front ++ l) last
    ∙ ap (λ (l : List ℕ). l ++ (between old ++ 0 ∷ [])) (is ∙ ap (λ (k : ℕ). big_bytes 4 k) length_is) ∙ sym (append_assoc (big_bytes 4 (length (between old))) (between old) (0 ∷ []))
