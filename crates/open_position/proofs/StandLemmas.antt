-- Where an open can stand, and that there is room for the key.
use Rattle.std.proofs.Common.{◌≡◌, ℕ, zero, suc, ◌<◌, ◌≤◌, List, [], ◌∷◌, length, sym, ap, subst, arith}
use Rattle.std.specs.List.{AllByRecursion}
use Rattle.key_spec.specs.declared.KeyPart.{KeyPart}
use Rattle.key_pages.specs.declared.entries.Entry.{Entry}
use Rattle.file_model.specs.KeyOrder.{merged_parts}
use Rattle.access_path.specs.KeyBytes.{encoded, encoded_values}
use Rattle.access_path.specs.KeyFields.{key_width}
use Rattle.access_path.proofs.WidthLemmas.{length-encoded, length-encoded_values}
use Rattle.key_values.specs.KeyValues.{AreAmong}
use Rattle.key_values.proofs.AmongLemmas.{among-merged, among-width}
use Rattle.file_cursor.specs.declared.places.Order.{Order}
use Rattle.file_cursor.specs.declared.places.Order.TheVariants as orders
use Rattle.file_cursor.specs.CursorPosition.{CursorPosition, Start, End, On, Before, Past, ByKey, ByNumber}
use Rattle.file_cursor.specs.Reading.{Suits}
use Rattle.open_position.specs.declared.reads.ReadBy.{ReadBy}
use Rattle.open_position.specs.declared.reads.ReadBy.TheVariants as asked
use Rattle.open_position.specs.OpenStand.{OpenStand, AreFormatKeys, IsEntryIn, IsStandIn, AreGivenBytes, parts_at}
use Rattle.open_position.specs.Reads.{IsOrderOf, IsAskedOf, IsLookedUp, CanFind}

-- ---- each of some formats

pub at-place : (P : List KeyPart → Type 0) (formats : List (List KeyPart)) → AllByRecursion P formats → (number : ℕ) → number < length formats → P (parts_at formats number)
at-place P [] all number low = absurd (omega (arith, low))
at-place P (parts ∷ formats) all zero low = all.0
at-place P (parts ∷ formats) all (suc number) low = at-place P formats all.1 number (omega (arith, low))

-- its positions are among those of all together
pub among-at : (formats : List (List KeyPart)) → AreFormatKeys formats → (number : ℕ) → number < length formats → AreAmong (parts_at formats number) (merged_parts formats)
among-at formats keys number low = at-place (λ own. AreAmong own (merged_parts formats)) formats (among-merged formats keys.matching) number low

-- what holds of the formats that contracts see holds of those that are kept
pub in-one : (stand now : OpenStand) → stand ≡ now → (P : List (List KeyPart) → Type 0) → P now.formats → P stand.formats
in-one stand now is P holds = subst P (sym (ap (λ (s : OpenStand). s.formats) is)) holds

-- ---- room

module _ (formats : List (List KeyPart)) (room : ℕ) (wide : key_width (merged_parts formats) ≤ room) where
  pub given-fit : (key : List ℕ) → AreGivenBytes (merged_parts formats) key → length key ≤ room
  given-fit key is =
      let long : length (encoded_values (merged_parts formats) is.given.0) ≤ key_width (merged_parts formats) = length-encoded_values (merged_parts formats) is.given.0 is.given.1 in
      let same : length key ≡ length (encoded_values (merged_parts formats) is.given.0) = ap length is.given.3 in
      omega (arith, long, same, wide)

  pub entry-fits : AreFormatKeys formats → (entry : Entry) → IsEntryIn formats entry → length entry.key ≤ room
  entry-fits keys entry is =
      let own : List KeyPart = parts_at formats entry.format in
      let long : length (encoded own is.key.0) ≡ key_width own = length-encoded own is.key.0 is.key.2 in
      let few : key_width own ≤ key_width (merged_parts formats) = among-width own (merged_parts formats) (among-at formats keys entry.format is.format) in
      let same : length entry.key ≡ length (encoded own is.key.0) = ap length is.key.3 in
      omega (arith, long, few, same, wide)

-- ---- what it can be asked

pub suits : (formats : List (List KeyPart)) (over : Order) → IsOrderOf formats over → (position : CursorPosition) → IsStandIn formats position → Suits over position
suits formats (orders.Arrival member) is position stands = tt
suits formats (orders.Path kept) is Start stands = tt
suits formats (orders.Path kept) is End stands = tt
suits formats (orders.Path kept) is (On entry) stands = tt
suits formats (orders.Path kept) is (Before (ByKey key)) stands = tt
suits formats (orders.Path kept) is (Before (ByNumber n)) stands = is stands
suits formats (orders.Path kept) is (Past (ByKey key)) stands = tt
suits formats (orders.Path kept) is (Past (ByNumber n)) stands = is stands

pub can-find : (formats : List (List KeyPart)) (by : ReadBy) (over : Order) → IsOrderOf formats over → IsAskedOf formats by → IsLookedUp by over → CanFind by over
can-find formats asked.Next over is can looked = tt
can-find formats asked.Prior over is can looked = tt
can-find formats (asked.NextEqual key) over is can looked = tt
can-find formats (asked.PriorEqual key) over is can looked = tt
can-find formats (asked.FirstEqual key) over is can looked = looked
can-find formats (asked.Number rrn) (orders.Arrival member) is can looked = tt
can-find formats (asked.Number rrn) (orders.Path kept) is can looked = is can
