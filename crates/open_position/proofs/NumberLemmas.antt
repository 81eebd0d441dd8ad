-- In arrival order a read finds by bytes, which are none, what the definition finds by values.
use Rattle.std.proofs.Common.{◌≡◌, ℕ, zero, suc, ◌<◌, false, Option, Some, None, List, [], ◌∷◌, map, refl, sym, ◌∙◌, ap, subst, arith}
use Rattle.std.specs.Prelude.{IfSome}
use Rattle.std.specs.List.{AllByRecursion}
use Rattle.std.specs.Option.{option_map}
use Rattle.key_spec.specs.declared.KeyPart.{KeyPart}
use Rattle.key_spec.specs.declared.Ties.TheVariants.{Rising}
use Rattle.key_pages.specs.declared.entries.Entry.{Entry}
use Rattle.member_slots.specs.Member.{MemberState, records}
use Rattle.file_model.specs.KeyOrder.{merged_parts}
use Rattle.file_model.specs.Paths.{PathEntry}
use Rattle.file_model.specs.Positions as model
use Rattle.access_path.specs.KeyBytes.{encoded}
use Rattle.file_cursor.specs.declared.places.Hit.{Hit}
use Rattle.file_cursor.specs.CursorPosition as cursor
use Rattle.file_cursor.specs.CursorPosition.{CursorPosition, Start, End, On, Before, Past, ByKey, ByNumber}
use Rattle.file_cursor.specs.Finding.{next_from, prior_from, where_equal}
use Rattle.file_cursor.specs.Reading.{numbered, arrival_entries}
use Rattle.file_cursor.specs.PositionBytes.{in_arrival, IsArrivalPosition, position_by_number, by_number}
use Rattle.file_cursor.proofs.ArrivalLaws.{next-by-number, prior-by-number, chain-by-number}
use Rattle.open_position.specs.declared.reads.ReadBy.{ReadBy}
use Rattle.open_position.specs.declared.reads.ReadBy.TheVariants as asked
use Rattle.open_position.specs.OpenStand.{IsEntryIn, AreGivenBytes, IsStandIn, entry_by, position_by, parts_at}
use Rattle.open_position.specs.Reads.{asked_of, IsAskedOf, found_of, entry_hit}
use Rattle.open_position.proofs.HeldLemmas.{asked-holds}

abbrev none : List (List KeyPart)
none = [] ∷ []

-- ---- keys without bytes

no-key : (key : List ℕ) → AreGivenBytes [] key → key ≡ []
no-key key is = is.given.3

first-format : (number : ℕ) → number < 1 → number ≡ 0
first-format number low = omega (arith, low)

abbrev entry-by : (format rrn : ℕ) → PathEntry
entry-by format rrn = record { key = []; format = format; rrn = rrn }

abbrev entry-of : (key : List ℕ) (format rrn : ℕ) → Entry
entry-of key format rrn = record { key = key; format = format; rrn = rrn }

-- its bytes are those of its number
bytes-by-number : (entry : Entry) → IsEntryIn none entry → entry ≡ numbered entry.rrn
bytes-by-number entry is =
    let first : entry.format ≡ 0 = first-format entry.format is.format in
    ap (λ (k : List ℕ). entry-of k entry.format entry.rrn) (empty entry.format is.key.0 first is.key.3)
    ∙ ap (λ (n : ℕ). entry-of [] n entry.rrn) first
  where
    empty : (number : ℕ) (image : List ℕ) → number ≡ 0 → entry.key ≡ encoded (parts_at none number) image → entry.key ≡ []
    empty zero image first same = same
    empty (suc n) image first same = absurd (omega (arith, first))

value-by-number : (entry : Entry) → IsEntryIn none entry → entry_by [] entry ≡ in_arrival (entry_by [] entry)
value-by-number entry is = ap (λ (n : ℕ). entry-by n entry.rrn) (first-format entry.format is.format)

-- a key is looked up along a path alone
abbrev pub NotFirst : ReadBy → Type 0
NotFirst asked.Next = Unit {0}
NotFirst asked.Prior = Unit {0}
NotFirst (asked.NextEqual key) = Unit {0}
NotFirst (asked.PriorEqual key) = Unit {0}
NotFirst (asked.FirstEqual key) = ⊥
NotFirst (asked.Number rrn) = Unit {0}

-- ---- positions

-- from these positions in bytes and in values the same is found
record FindsSame (member : MemberState) (position : CursorPosition) (place : model.Position PathEntry) : Type 0 where
  next : next_from false (arrival_entries member) position ≡ option_map by_number (model.next_from (model.arrival_reading member) place)
  prior : prior_from false (arrival_entries member) position ≡ option_map by_number (model.prior_from (model.arrival_reading member) place)

module _ (member : MemberState) where
  law : (place : model.Position PathEntry) → IsArrivalPosition place → FindsSame member (position_by_number place) place
  law place is = record { next = next-by-number member place is; prior = prior-by-number member place is }

  finds-same : (position : CursorPosition) → IsStandIn none position → FindsSame member position (position_by [] position)
  finds-same Start is = law model.Start tt
  finds-same End is = law model.End tt
  finds-same (On entry) is =
      subst (λ (e : Entry). FindsSame member (On e) (model.On (entry_by [] entry))) (sym (bytes-by-number entry is)) (law (model.On (entry_by [] entry)) (value-by-number entry is))
  finds-same (Before (ByKey key)) is =
      let start = law model.Start tt in
      subst (λ (k : List ℕ). FindsSame member (Before (ByKey k)) (model.Before (model.KeyBound []))) (sym (no-key key is)) (record { next = start.next; prior = start.prior })
  finds-same (Before (ByNumber n)) is = law (model.Before (model.NumberBound n)) tt
  finds-same (Past (ByKey key)) is =
      let ends = law model.End tt in
      subst (λ (k : List ℕ). FindsSame member (Past (ByKey k)) (model.Past (model.KeyBound []))) (sym (no-key key is)) (record { next = ends.next; prior = ends.prior })
  finds-same (Past (ByNumber n)) is = law (model.Past (model.NumberBound n)) tt

  -- each entry begins with no bytes, and each key with no values
  all-equal : (found : Option Entry) → where_equal [] found ≡ found
  all-equal None = refl
  all-equal (Some e) = refl

  all-values : (found : Option PathEntry) → model.where_equal (model.arrival_reading member) [] found ≡ found
  all-values None = refl
  all-values (Some e) = refl

  module _ (position : CursorPosition) (stands : IsStandIn none position) where
    same : FindsSame member position (position_by [] position)
    same = finds-same position stands

    found-by-number : (by : ReadBy) → IsAskedOf none by → NotFirst by
        → found_of by false (arrival_entries member) position ≡ option_map by_number (asked_of by [] (model.arrival_reading member) (position_by [] position))
    found-by-number asked.Next can looked = same.next
    found-by-number asked.Prior can looked = same.prior
    found-by-number (asked.NextEqual key) can looked =
        ap (λ (k : List ℕ). where_equal k (next_from false (arrival_entries member) position)) (no-key key.now can)
        ∙ all-equal (next_from false (arrival_entries member) position)
        ∙ same.next
        ∙ ap (option_map by_number) (sym (all-values (model.next_from (model.arrival_reading member) (position_by [] position))))
    found-by-number (asked.PriorEqual key) can looked =
        ap (λ (k : List ℕ). where_equal k (prior_from false (arrival_entries member) position)) (no-key key.now can)
        ∙ all-equal (prior_from false (arrival_entries member) position)
        ∙ same.prior
        ∙ ap (option_map by_number) (sym (all-values (model.prior_from (model.arrival_reading member) (position_by [] position))))
    found-by-number (asked.FirstEqual key) can looked = absurd looked
    found-by-number (asked.Number rrn) can looked = chain-by-number member rrn

-- ---- what is found

abbrev IsArrival : PathEntry → Type 0
IsArrival e = e ≡ in_arrival e

all-arrival : (xs : List (ℕ × List ℕ)) → AllByRecursion IsArrival (map model.arrival_entry xs)
all-arrival [] = tt
all-arrival (x ∷ xs) = (refl, all-arrival xs)

entry-in : (rrn : ℕ) → IsEntryIn none (numbered rrn)
entry-in rrn = record {
  format = omega arith;
  key = ([], (λ i d low. absurd (omega (arith, low))), (λ i d low. absurd (omega (arith, low))), refl);
}

abbrev Shows : Option Hit → Option PathEntry → Type 0
Shows result found = (option_map (entry_hit (merged_parts none)) result ≡ found) × IfSome result (λ hit. IsEntryIn none (cursor.entry_of hit))

shown : (result : Option Hit) (found : Option PathEntry) → IfSome found IsArrival → option_map cursor.entry_of result ≡ option_map by_number found → Shows result found
shown None None is same = (refl, tt)
shown None (Some e) is same = absurd cc
shown (Some hit) None is same = absurd cc
shown (Some hit) (Some e) is same =
    let one : cursor.entry_of hit ≡ numbered e.rrn = cc in (
      ap Some (ap (entry_by []) one ∙ sym is),
      subst (IsEntryIn none) (sym one) (entry-in e.rrn),
    )

pub finds-in-arrival : (member : MemberState) (by : ReadBy) (position : CursorPosition) (result : Option Hit) → option_map cursor.entry_of result ≡ found_of by false (arrival_entries member) position
    → IsStandIn none position → IsAskedOf none by → NotFirst by → Shows result (asked_of by (merged_parts none) (model.arrival_reading member) (position_by (merged_parts none) position))
finds-in-arrival member by position result found stands can looked =
    shown result (asked_of by [] (model.arrival_reading member) (position_by [] position))
    (asked-holds IsArrival [] Rising (map model.arrival_entry (records member)) (all-arrival (records member)) by (position_by [] position))
    (found ∙ found-by-number member position stands by can looked)
