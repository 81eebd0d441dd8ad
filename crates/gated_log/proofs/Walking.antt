-- What was read at a gate says of the bytes from it on.
use Rattle.std.proofs.Common.{◌≡◌, ◌≢◌, inr, ℕ, suc, ◌+◌, ◌^◌, ◌<◌, ◌≤◌, List, [], ◌∷◌, ◌++◌, length, get_or, take, drop, Err, IsErrOf, refl, sym, ◌∙◌, ap, subst, arith, append_assoc, length-append, length-take, length-drop, take-append-drop}
use Rattle.std.proofs.lemmas.List.{drop_more, drop-drop, get_or-take, take_all}
use Rattle.byteorder.specs.Endian.{big_bytes, big_number}
use Rattle.byteorder.specs.Numbers.{big_from-take}
use Rattle.gated_log.specs.Blocks.{header, block_bytes, IsLog, MayBegin, Opens, Spells, sizes, HasNoBlock, IsFaultAt, HasNoHeader, IsDamagedAt, extent}
use Rattle.gated_log.specs.Places.{lengths_of}
use Rattle.gated_log.specs.Walk.{HasBlock, IsClosed, IsWalked, IsWalkedTo}
use Rattle.gated_log.specs.declared.log.Place.{Place}
use Rattle.gated_log.specs.declared.fault.LogFault.TheVariants.{Damaged}
use Rattle.gated_log.proofs.Numbers.{length-block_bytes, front_header}
use Rattle.gated_log.proofs.Blocks.{block_number, opens-push, placed_end, placed-push, sizes-push, lengths_of-push}

-- the area and the place of a damage
pub damaged_is : {T : Type 0} (area place a at : ℕ) → IsErrOf {T = T} (Err (Damaged area place)) (Damaged a at) → (a ≡ area) × (at ≡ place)
damaged_is area place a at is = (cc, cc)

-- the gate that was read, and what stands behind it
pub gate_is : (seen field : List ℕ) (gate n : ℕ) → take n field ≡ take n (drop gate seen) → 0 < n → gate < length seen → drop gate seen ≡ get_or field 0 0 ∷ drop (gate + 1) seen
gate_is seen field gate n is some inside =
    let cons = drop_more seen gate 0 inside in
    let first : get_or field 0 0 ≡ get_or seen gate 0 =
    sym (get_or-take n field 0 0 some) ∙ ap (λ (l : List ℕ). get_or l 0 0) is ∙ get_or-take n (drop gate seen) 0 0 some ∙ ap (λ (l : List ℕ). get_or l 0 0) cons in
    cons ∙ ap (λ (x : ℕ). x ∷ drop (gate + 1) seen) (sym first)

-- the length that was read behind it
pub four_is : (seen field : List ℕ) (gate n : ℕ) → take n field ≡ take n (drop gate seen) → n ≡ 5 → length field ≡ 5 → gate < length seen → drop 1 field ≡ take 4 (drop (gate + 1) seen)
four_is seen field gate n is five size inside =
    let whole : field ≡ take 5 (drop gate seen) = sym (take_all 5 field (omega arith)) ∙ subst (λ (k : ℕ). take k field ≡ take k (drop gate seen)) five is in
    ap (λ (l : List ℕ). drop 1 l) (whole ∙ ap (λ (l : List ℕ). take 5 l) (drop_more seen gate 0 inside))

-- a fault behind an open gate
pub fault_behind : (bytes after : List ℕ) (place value : ℕ) → bytes ≡ value ∷ after → value ≢ 0 → HasNoBlock after → IsFaultAt place bytes (place + 1)
fault_behind bytes after place value is opened none = subst (λ (l : List ℕ). IsFaultAt place l (place + 1)) (sym is) (opened, none, refl)

-- there is no room for a length
pub no_length : (after : List ℕ) → length after < 4 → HasNoBlock after
no_length after short = λ block rest small is. omega (arith, ap length is, length-append (block_bytes block) rest, length-block_bytes block)

-- or none for the block
pub no_block : (after four : List ℕ) (n : ℕ) → length four ≡ 4 → four ≡ take (length four) after → n ≡ big_number 4 four → length after < 4 + n → HasNoBlock after
no_block after four n size is number short = λ block rest small whole.
    let reads : n ≡ length block =
    number ∙ ap (λ (l : List ℕ). big_number 4 l) (is ∙ ap (λ (k : ℕ). take k after) size) ∙ big_from-take 0 4 4 after (omega arith)
    ∙ ap (λ (l : List ℕ). big_number 4 l) whole ∙ block_number block rest small in
    omega (arith, reads, ap length whole, length-append (block_bytes block) rest, length-block_bytes block)

-- the block behind a gate
pub block_found : (bytes after four : List ℕ) (value : ℕ) (place : Place) → bytes ≡ value ∷ after → value ≢ 0 → length four ≡ 4 → four ≡ take (length four) after → four ≡ big_bytes 4 place.length → place.length < 2 ^ 32 → 4 + place.length ≤ length after → HasBlock bytes place
unfolding block_bytes
block_found bytes after four value place is opened size read number fits room =
    let n = place.length in
    let block = take n (drop 4 after) in
    let length_is : length block ≡ n = omega (arith, length-take n (drop 4 after), length-drop 4 after) in
    let front : take 4 after ≡ big_bytes 4 (length block) = ap (λ (k : ℕ). take k after) (sym size) ∙ sym read ∙ number ∙ ap (λ (k : ℕ). big_bytes 4 k) (sym length_is) in
    let behind : drop (5 + n) bytes ≡ drop n (drop 4 after) = ap (λ (l : List ℕ). drop (5 + n) l) is ∙ past value after n in
    let split : after ≡ (big_bytes 4 (length block) ++ block) ++ drop (5 + n) bytes =
    sym (take-append-drop 4 after) ∙ ap (λ (l : List ℕ). l ++ drop 4 after) front
    ∙ ap (λ (l : List ℕ). big_bytes 4 (length block) ++ l) (sym (take-append-drop n (drop 4 after)) ∙ ap (λ (l : List ℕ). block ++ l) (sym behind))
    ∙ sym (append_assoc (big_bytes 4 (length block)) block (drop (5 + n) bytes)) in
    record { gate = value; block = block; opened = opened; length = length_is; fits = fits; whole = is ∙ ap (λ (l : List ℕ). value ∷ l) split }
  where
    past : (x : ℕ) (xs : List ℕ) (n : ℕ) → drop (5 + n) (x ∷ xs) ≡ drop n (drop 4 xs)
    past x xs n = (let e : 5 + n ≡ suc (4 + n) = omega arith in ap (λ (k : ℕ). drop k (x ∷ xs)) e) ∙ sym (drop-drop n 4 xs)

-- a header that was read
pub walked_none : (area first version : ℕ) (seen read : List ℕ) → MayBegin area first version → read ≡ header area first version → length read ≡ 32 → read ≡ take (length read) (drop 0 seen) → IsWalked area first version seen [] 32
walked_none area first version seen read has is size front = record {
  may_begin = has;
  body = drop 32 seen;
  blocks = [];
  header = sym (take-append-drop 32 seen) ∙ ap (λ (l : List ℕ). l ++ drop 32 seen) (ap (λ (k : ℕ). take k seen) (sym size) ∙ sym front ∙ is);
  opens = refl;
  lengths = refl;
}

-- or that was none
pub walked_not : (area : ℕ) (seen read : List ℕ) → HasNoHeader area read → length read ≡ 32 → read ≡ take (length read) (drop 0 seen) → 32 ≤ length seen → HasNoHeader area seen
walked_not area seen read none size front long = front_header area seen long (subst (λ (l : List ℕ). HasNoHeader area l) (front ∙ ap (λ (k : ℕ). take k seen) size) none)

-- one block further
pub walked_further : (area first version : ℕ) (seen : List ℕ) (places pushed : List Place) (place : Place) (gate : ℕ) → IsWalked area first version seen places gate → HasBlock (drop gate seen) place → pushed ≡ places ++ place ∷ [] → IsWalked area first version seen pushed (gate + 5 + place.length)
walked_further area first version seen places pushed place gate walked found push =
    let behind : drop (5 + place.length) (drop gate seen) ≡ drop (gate + 5 + place.length) seen =
    drop-drop (5 + place.length) gate seen ∙ (let e : gate + (5 + place.length) ≡ gate + 5 + place.length = omega arith in ap (λ (k : ℕ). drop k seen) e) in
    record {
      may_begin = walked.may_begin;
      body = walked.body;
      blocks = walked.blocks ++ found.block ∷ [];
      header = walked.header;
      opens = opens-push walked.blocks found.block walked.body (drop gate seen) (drop (gate + 5 + place.length) seen) found.gate walked.opens found.opened (omega (arith, found.length, found.fits))
          (found.whole ∙ ap (λ (l : List ℕ). found.gate ∷ block_bytes found.block ++ l) behind);
      lengths = ap (λ (l : List Place). lengths_of l) push ∙ lengths_of-push places place ∙ ap (λ (l : List ℕ). l ++ place.length ∷ []) walked.lengths
          ∙ ap (λ (n : ℕ). sizes walked.blocks ++ n ∷ []) (sym found.length) ∙ sym (sizes-push walked.blocks found.block);
    }

-- the list that was walked, up to a closed gate
pub walked_spells : (area first version : ℕ) (seen rest : List ℕ) (places : List Place) (gate : ℕ) (walked : IsWalked area first version seen places gate) → drop gate seen ≡ 0 ∷ rest → Spells area first version walked.blocks seen
walked_spells area first version seen rest places gate walked shut = record {
  may_begin = walked.may_begin;
  body = walked.body;
  rest = rest;
  header = walked.header;
  opens = subst (λ (l : List ℕ). Opens walked.blocks walked.body l) shut walked.opens;
}

-- or up to a fault
pub walked_breaks : (area first version : ℕ) (seen : List ℕ) (places : List Place) (gate at : ℕ) → IsWalked area first version seen places gate → gate ≡ 32 + extent (lengths_of places) → IsFaultAt gate (drop gate seen) at → IsDamagedAt area seen at
walked_breaks area first version seen places gate at walked is fault = inr (record {
  first = first;
  version = version;
  may_begin = walked.may_begin;
  blocks = walked.blocks;
  body = walked.body;
  rest = drop gate seen;
  header = walked.header;
  opens = walked.opens;
  fault = subst (λ (n : ℕ). IsFaultAt n (drop gate seen) at) (is ∙ ap (λ (l : List ℕ). 32 + extent l) walked.lengths) fault;
})

-- ---- without the places
pub walked_to-further : (area first version : ℕ) (seen : List ℕ) (place : Place) (gate : ℕ) → IsWalkedTo area first version seen gate → HasBlock (drop gate seen) place → place.at ≡ gate + 5 → IsWalkedTo area first version seen (gate + 5 + place.length)
walked_to-further area first version seen place gate walked found at =
    (walked.0 ++ place ∷ [], walked_further area first version seen walked.0 (walked.0 ++ place ∷ []) place gate walked.1 found refl, placed-push 32 walked.0 gate place walked.2 at)

pub walked_to-log : (area first version : ℕ) (seen : List ℕ) (gate : ℕ) → IsWalkedTo area first version seen gate → IsClosed (drop gate seen) → IsLog area seen
walked_to-log area first version seen gate walked shut = (first, version, walked.1.blocks, walked_spells area first version seen shut.0 walked.0 gate walked.1 shut.1)

pub walked_to-breaks : (area first version : ℕ) (seen : List ℕ) (gate at : ℕ) → IsWalkedTo area first version seen gate → IsFaultAt gate (drop gate seen) at → IsDamagedAt area seen at
walked_to-breaks area first version seen gate at walked fault = walked_breaks area first version seen walked.0 gate at walked.1 (placed_end 32 walked.0 gate walked.2) fault
