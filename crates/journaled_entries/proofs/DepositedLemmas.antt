-- One entry more among those that a library deposits.
use Rattle.std.proofs.Common.{◌≡◌, Bool, true, false, Option, Some, None, List, [], ◌∷◌, ◌++◌, IsSome, refl, ◌∙◌, ap}
use Rattle.std.specs.Prelude.{◌||◌, ◌&&◌, not}
use Rattle.std.specs.List.{find}
use Rattle.std.proofs.lemmas.Bool.{false≢true}
use Rattle.entry_codec.specs.declared.entries.Entry.{Entry}
use Rattle.entry_codec.specs.Placing.{is_placed, place}
use Rattle.journal_model.specs.Catalogue.{Catalogue, CatalogMember, catalogue_after, catalogue_by, empty_catalogue, has_number, member_numbered}
use Rattle.journal_model.specs.Journal.{OfMember}
use Rattle.journaled_entries.specs.Deposited.{AreDeposited, AreJournaled, ArePlaced, IsJournaledThen, is_journaled, is_journaled_then, is_of_record, may_be_deposited}

-- ---- one entry more at the end

pub journaled-append : (c : Catalogue) (entries : List Entry) (e : Entry) → AreJournaled c entries → IsJournaledThen (catalogue_after c entries) e → AreJournaled c (entries ++ e ∷ [])
journaled-append c [] e are is = (is, tt)
journaled-append c (x ∷ entries) e are is = (are.0, journaled-append (catalogue_by x.kind x c) entries e are.1 is)

pub journaled-last : (c : Catalogue) (entries : List Entry) (e : Entry) → AreJournaled c (entries ++ e ∷ []) → IsJournaledThen (catalogue_after c entries) e
journaled-last c [] e are = are.0
journaled-last c (x ∷ entries) e are = journaled-last (catalogue_by x.kind x c) entries e are.1

pub journaled-front : (c : Catalogue) (entries more : List Entry) → AreJournaled c (entries ++ more) → AreJournaled c entries
journaled-front c [] more are = tt
journaled-front c (x ∷ entries) more are = (are.0, journaled-front (catalogue_by x.kind x c) entries more are.1)

pub placed-append : (entries : List Entry) (e : Entry) → ArePlaced entries → is_placed e ≡ true → ArePlaced (entries ++ e ∷ [])
placed-append [] e are is = (is, tt)
placed-append (x ∷ entries) e are is = (are.0, placed-append entries e are.1 is)

pub placed-last : (entries : List Entry) (e : Entry) → ArePlaced (entries ++ e ∷ []) → is_placed e ≡ true
placed-last [] e are = are.0
placed-last (x ∷ entries) e are = placed-last entries e are.1

pub placed-front : (entries more : List Entry) → ArePlaced (entries ++ more) → ArePlaced entries
placed-front [] more are = tt
placed-front (x ∷ entries) more are = (are.0, placed-front entries more are.1)

-- ---- the test

member-journaled : (o : Option CatalogMember) → is_journaled o ≡ true → OfMember o (λ member. IsSome member.images)
member-journaled None is = tt
member-journaled (Some member) is = is

journaled-member : (o : Option CatalogMember) → OfMember o (λ member. IsSome member.images) → is_journaled o ≡ true
journaled-member None is = refl
journaled-member (Some member) is = is

if-record : (b : Bool) (o : Option CatalogMember) → (not b || is_journaled o) ≡ true → b ≡ true → OfMember o (λ member. IsSome member.images)
if-record true o is of = member-journaled o is
if-record false o is of = absurd (false≢true of)

record-if : (b : Bool) (o : Option CatalogMember) → (b ≡ true → OfMember o (λ member. IsSome member.images)) → (not b || is_journaled o) ≡ true
record-if true o is = journaled-member o (is refl)
record-if false o is = refl

both : (a b : Bool) → (a && b) ≡ true → (a ≡ true) × (b ≡ true)
both true b is = (refl, is)
both false b is = absurd (false≢true is)

one : (a b : Bool) → a ≡ true → b ≡ true → (a && b) ≡ true
one a b left right = ap (λ (x : Bool). x && b) left ∙ right

-- an entry that names no member
pub none-journaled : (members : List CatalogMember) → is_journaled (find (has_number None) members) ≡ true
none-journaled [] = refl
none-journaled (m ∷ members) = none-journaled members

pub test-placed : (c : Catalogue) (e : Entry) → may_be_deposited c e ≡ true → is_placed e ≡ true
test-placed c e may = (both (is_placed e) (is_journaled_then c e) may).0

pub test-journaled : (c : Catalogue) (e : Entry) → may_be_deposited c e ≡ true → IsJournaledThen c e
test-journaled c e may = if-record (is_of_record (place e.kind)) (member_numbered e.member c) (both (is_placed e) (is_journaled_then c e) may).1

pub deposited-test : (c : Catalogue) (e : Entry) → is_placed e ≡ true → IsJournaledThen c e → may_be_deposited c e ≡ true
deposited-test c e placed journaled = one (is_placed e) (is_journaled_then c e) placed (record-if (is_of_record (place e.kind)) (member_numbered e.member c) journaled)

-- ---- both

pub deposited-front : (entries more : List Entry) → AreDeposited (entries ++ more) → AreDeposited entries
deposited-front entries more are = record {
  placed = placed-front entries more are.placed;
  journaled = journaled-front empty_catalogue entries more are.journaled;
}

pub deposited-append : (entries : List Entry) (e : Entry) → AreDeposited entries → may_be_deposited (catalogue_after empty_catalogue entries) e ≡ true → AreDeposited (entries ++ e ∷ [])
deposited-append entries e are may = record {
  placed = placed-append entries e are.placed (test-placed (catalogue_after empty_catalogue entries) e may);
  journaled = journaled-append empty_catalogue entries e are.journaled (test-journaled (catalogue_after empty_catalogue entries) e may);
}

pub deposited-last : (entries : List Entry) (e : Entry) → AreDeposited (entries ++ e ∷ []) → may_be_deposited (catalogue_after empty_catalogue entries) e ≡ true
deposited-last entries e are =
    deposited-test (catalogue_after empty_catalogue entries) e (placed-last entries e are.placed) (journaled-last empty_catalogue entries e are.journaled)
