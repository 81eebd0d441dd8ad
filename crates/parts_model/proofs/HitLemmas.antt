-- What an open finds along its path or in its member, by what its position finds.
use Rattle.std.proofs.Common.{◌≡◌, ◌↔◌, ℕ, true, false, List, Option, Some, None, is_some, Result, Ok, Err, refl, sym, subst, ap, ◌∙◌}
use Rattle.std.specs.Prelude.{All, IsErrOf, MatchOption}
use Rattle.std.specs.Borrow.{Bor}
use Rattle.std.specs.Option.{option_copied, option_map}
use Rattle.field_types.specs.declared.faults.RecordFault.{RecordFault}
use Rattle.field_types.specs.declared.values.Value.{Value}
use Rattle.key_spec.specs.declared.KeyPart.{KeyPart}
use Rattle.lawful_states.proofs.NameLemmas.{some-equal}
use Rattle.job_table.below.file_cursor.specs.declared.places.Hit.{Hit}
use Rattle.job_table.below.file_cursor.specs.declared.places.Order.{Order}
use Rattle.file_model.specs.KeyOrder.{given_key, merged_parts}
use Rattle.file_model.specs.Paths.{PathEntry}
use Rattle.file_model.specs.Positions.{Position, Reading}
use Rattle.access_path.specs.GivenValues.{IsOfBytes, key_fault}
use Rattle.access_path.specs.KeyBytes.{encoded_values}
use Rattle.open_position.specs.KeyValues.{values_in}
use Rattle.open_position.specs.declared.reads.ReadBy.{ReadBy}
use Rattle.open_position.specs.declared.reads.ReadBy.TheVariants as asked
use Rattle.open_position.specs.Reads.{IsByPath, IsLookedUp, asked_of, entry_hit}
use Rattle.parts_model.specs.Reads.{IsKeyOf, IsLookedIn}

-- ---- what is shown in its place

pub copied-some : {A : Type 0} (o : Option (Bor A)) (a : A) → option_copied o ≡ Some a → is_some o ≡ true
copied-some None a h = absurd cc
copied-some (Some b) a h = refl

pub copied-is : {A : Type 0} (o : Option (Bor A)) (b : Bor A) (a : A) → o ≡ Some b → option_copied o ≡ Some a → b.now ≡ a
copied-is {A = A} o b a is copied = some-equal (sym (ap (λ (p : Option (Bor A)). option_copied p) is) ∙ copied)

pub match-some : {A B : Type 0} (f : A → B) (o : Option A) (wanted : Option B) (b : B) → MatchOption o (wanted ≡ None) (λ a. wanted ≡ Some (f a)) → wanted ≡ Some b → is_some o ≡ true
match-some f None wanted b h is = absurd cc
match-some f (Some a) wanted b h is = refl

pub match-is : {A B : Type 0} (f : A → B) (o : Option A) (a : A) (wanted : Option B) (b : B) → o ≡ Some a → MatchOption o (wanted ≡ None) (λ x. wanted ≡ Some (f x)) → wanted ≡ Some b → f a ≡ b
match-is {A = A} f o a wanted b some h is =
    let found : wanted ≡ Some (f a) = subst (λ (p : Option A). MatchOption p (wanted ≡ None) (λ x. wanted ≡ Some (f x))) some h in some-equal (sym found ∙ is)

-- ---- what is looked up

pub looked-along : (by : ReadBy) (over : Order) → IsByPath over → IsLookedUp by over
looked-along asked.Next over along = tt
looked-along asked.Prior over along = tt
looked-along (asked.NextEqual key) over along = tt
looked-along (asked.PriorEqual key) over along = tt
looked-along (asked.FirstEqual key) over along = along
looked-along (asked.Number rrn) over along = tt

pub looked-in : (by : ReadBy) (over : Order) → IsLookedIn false by → IsLookedUp by over
looked-in asked.Next over looked = tt
looked-in asked.Prior over looked = tt
looked-in (asked.NextEqual key) over looked = tt
looked-in (asked.PriorEqual key) over looked = tt
looked-in (asked.FirstEqual key) over looked = absurd (let no : false ≡ true = looked in cc)
looked-in (asked.Number rrn) over looked = tt

-- ---- what is found

pub found-elsewhere : (by : ReadBy) (result : Option Hit) (formats other : List (List KeyPart)) (reading also : Reading PathEntry) (position there : Position PathEntry) → formats ≡ other → also ≡ reading
    → position ≡ there → option_map (entry_hit (merged_parts formats)) result ≡ asked_of by (merged_parts formats) reading position
    → option_map (entry_hit (merged_parts other)) result ≡ asked_of by (merged_parts other) also there
found-elsewhere by result formats other reading also position there same reads stands found =
    subst (λ (fs : List (List KeyPart)). option_map (entry_hit (merged_parts fs)) result ≡ asked_of by (merged_parts fs) also there) same
    (subst (λ (r : Reading PathEntry). option_map (entry_hit (merged_parts formats)) result ≡ asked_of by (merged_parts formats) r there) (sym reads)
    (subst (λ (p : Position PathEntry). option_map (entry_hit (merged_parts formats)) result ≡ asked_of by (merged_parts formats) reading p) stands found))

-- ---- the key that is given

-- where there is a key, nothing is wrong with its values
pub no-fault : {K F : Type 0} (refused : RecordFault → F) (fault : Option RecordFault) (result : Result K F) (key : K) → result ≡ Ok key
    → ((f : RecordFault) → IsErrOf result (refused f) ↔ (fault ≡ Some f)) → fault ≡ None
no-fault refused None result key is told = refl
no-fault refused (Some f) result key is told = (let wrong : result ≡ Err (refused f) = (told f).1 refl in absurd cc)

pub key-stands : (parts : List KeyPart) (values : List Value) (key : List ℕ) → key_fault parts values ≡ None → All IsOfBytes values → key ≡ encoded_values parts values
    → values_in parts (encoded_values parts values) ≡ given_key parts values → IsKeyOf parts values key
key-stands parts values key fits bytes is back = record {
  fits = fits;
  stands = record { bytes = record { given = (values, fits, bytes, is) }; values = ap (values_in parts) is ∙ back };
}
