-- A root's bytes: how many there are, and that they read back.
use Rattle.std.proofs.Common.{◌≡◌, ◌≢◌, ℕ, ◌^◌, ◌<◌, List, [], length, take, drop, refl, sym, ◌∙◌, ap, subst, arith}
use Rattle.byteorder.specs.Endian.{big_number}
use Rattle.byteorder.specs.Numbers.{big_number-reads_back}
use Rattle.checkpoint.specs.declared.root.Root.{Root}
use Rattle.checkpoint.specs.Roots.{IsNoRoot, IsRoot, root_bytes}

pub length-root_bytes : (r : Root) → length (root_bytes r) ≡ 28
unfolding root_bytes
length-root_bytes r = refl

area_back : (r : Root) → r.area < 2 ^ 32 → big_number 4 (take 4 (root_bytes r)) ≡ r.area
unfolding root_bytes
area_back r fits = big_number-reads_back 4 r.area [] fits

sequence_back : (r : Root) → r.sequence < 2 ^ 64 → big_number 8 (take 8 (drop 4 (root_bytes r))) ≡ r.sequence
unfolding root_bytes
sequence_back r fits = big_number-reads_back 8 r.sequence [] fits

length_back : (r : Root) → r.length < 2 ^ 64 → big_number 8 (take 8 (drop 12 (root_bytes r))) ≡ r.length
unfolding root_bytes
length_back r fits = big_number-reads_back 8 r.length [] fits

receiver_back : (r : Root) → r.first_receiver < 2 ^ 32 → big_number 4 (take 4 (drop 20 (root_bytes r))) ≡ r.first_receiver
unfolding root_bytes
receiver_back r fits = big_number-reads_back 4 r.first_receiver [] fits

member_back : (r : Root) → r.next_member < 2 ^ 32 → big_number 4 (take 4 (drop 24 (root_bytes r))) ≡ r.next_member
unfolding root_bytes
member_back r fits = big_number-reads_back 4 r.next_member [] fits

-- the root of these numbers
abbrev pub made : ℕ → ℕ → ℕ → ℕ → ℕ → Root
made area sequence bytes receiver member = record { area = area; sequence = sequence; length = bytes; first_receiver = receiver; next_member = member }

made_same : (a s b f n a' s' b' f' n' : ℕ) → a ≡ a' → s ≡ s' → b ≡ b' → f ≡ f' → n ≡ n' → made a s b f n ≡ made a' s' b' f' n'
made_same a s b f n a' s' b' f' n' area sequence bytes receiver member = cc

-- the numbers that bytes read as
abbrev pub read : List ℕ → Root
read block = made (big_number 4 (take 4 block)) (big_number 8 (take 8 (drop 4 block))) (big_number 8 (take 8 (drop 12 block))) (big_number 4 (take 4 (drop 20 block))) (big_number 4 (take 4 (drop 24 block)))

read_back : (r : Root) → IsRoot r → read (root_bytes r) ≡ r
read_back r is =
    made_same _ _ _ _ _ r.area r.sequence r.length r.first_receiver r.next_member (area_back r (omega (arith, is.area))) (sequence_back r is.sequence) (length_back r is.bytes)
    (receiver_back r (omega (arith, is.receiver_to))) (member_back r (omega (arith, is.member_to)))

-- the same bytes are one root's alone
pub one_root : (a b : Root) → IsRoot a → IsRoot b → root_bytes a ≡ root_bytes b → a ≡ b
one_root a b is other same = sym (read_back a is) ∙ ap (λ (l : List ℕ). read l) same ∙ read_back b other

-- a block of another length is no root
pub other_length : (block : List ℕ) → length block ≢ 28 → IsNoRoot block
other_length block other = λ r is same. other (ap (λ (l : List ℕ). length l) same ∙ length-root_bytes r)

-- nor is one that isn't that of the numbers that it reads as
pub no_root : (block : List ℕ) (root : Root) → root.area ≡ big_number 4 (take 4 block) → root.sequence ≡ big_number 8 (take 8 (drop 4 block)) → root.length ≡ big_number 8 (take 8 (drop 12 block))
    → root.first_receiver ≡ big_number 4 (take 4 (drop 20 block)) → root.next_member ≡ big_number 4 (take 4 (drop 24 block)) → (IsRoot root → block ≢ root_bytes root) → IsNoRoot block
no_root block root area sequence bytes receiver member other = λ r is same.
    let here : root ≡ read block = made_same root.area root.sequence root.length root.first_receiver root.next_member _ _ _ _ _ area sequence bytes receiver member in
    let one : root ≡ r = here ∙ ap (λ (l : List ℕ). read l) same ∙ read_back r is in
    other (subst (λ (x : Root). IsRoot x) (sym one) is) (same ∙ ap (λ (x : Root). root_bytes x) (sym one))
