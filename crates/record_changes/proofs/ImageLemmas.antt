-- What is known of the image that values make.
use Rattle.std.proofs.Common.{Bor, ◌≡◌, ℕ, true, is_some, Option, Some, None, Result, Ok, Err, List, refl, ap}
use Rattle.std.specs.Prelude.{IfOk}
use Rattle.std.specs.Option.{option_copied, option_map, ForSome}
use Rattle.field_types.specs.declared.values.Value.{Value}
use Rattle.record_fmt.specs.declared.formats.Field.{Field}
use Rattle.record_fmt.specs.declared.formats.Format.{Format}
use Rattle.record_fmt.specs.Layout.{IsLaidOut}
use Rattle.record_fmt.specs.Records.{record_given, record_held}
use Rattle.record_laws.specs.HeldValues.{new_values, changed_values}
use Rattle.logical_model.specs.Bases.{FileSpec, PhysicalFile, LogicalFile}
use Rattle.logical_laws.specs.Found.{HoldsRecord}
use Rattle.lawful_states.specs.Physical.{IsPhysical}
use Rattle.library_model.specs.declared.replies.Reply.{Reply}
use Rattle.library_steps.specs.Refusals.{found}
use Rattle.library_steps.specs.State.{format_in, physical_in}
use Rattle.library_parts.specs.Answers.{Shows}
use Rattle.library_parts.below.parts_model.specs.declared.stop.Stop.{Stop}
use Rattle.library_parts.below.parts_model.specs.declared.stop.Stop.TheVariants.{NoMemory, Refused}
use Rattle.record_changes.proofs.FindLemmas.{some-of}

-- what follows of each result of a kind follows of what came out
pub each-ok : {A E : Type 0} (P Q : A → Type 0) (result : Result A E) → ((a : A) → P a → Q a) → IfOk result P → IfOk result Q
each-ok P Q (Ok a) each is = each a is
each-ok P Q (Err e) each is = tt

-- ---- a record with the fields of a format

-- the laws of a new record and of one that is changed
abbrev pub NewHolds : Type 0
NewHolds = (fields : List Field) (given : List (Option Value)) (image : List ℕ) → IsLaidOut fields → record_given fields given None ≡ Ok image
    → record_held fields image ≡ Some (new_values fields given)

abbrev pub ChangedHolds : Type 0
ChangedHolds = (fields : List Field) (given : List (Option Value)) (old image : List ℕ) (values : List Value) → IsLaidOut fields → record_held fields old ≡ Some values
    → record_given fields given (Some old) ≡ Ok image → record_held fields image ≡ Some (changed_values fields given values)

pub packed-held : NewHolds → ChangedHolds → (fields : List Field) (given : List (Option Value)) (old : Option (Bor (List ℕ))) (image : List ℕ) → IsLaidOut fields
    → ForSome old (λ before. HoldsRecord fields before.now) → record_given fields given (option_copied old) ≡ Ok image → is_some (record_held fields image) ≡ true
packed-held new changed fields given None image laid before is = ap is_some (new fields given image laid is)
packed-held new changed fields given (Some old) image laid before is =
    let values = some-of (record_held fields old.now) (before old refl).values in
    ap is_some (changed fields given old.now image values.0 laid values.1 is)

-- ---- the physical file that a logical file is over

-- what is there is shown
pub shows-none : {A : Type 0} (thing : Option A) (reply : Reply) (stop : Stop) → is_some thing ≡ true → Shows {A = A} (Err stop) (found thing reply) → ⊥
shows-none None reply stop there shows = absurd cc
shows-none (Some thing) reply NoMemory there shows = shows
shows-none (Some thing) reply (Refused other) there shows = absurd cc

-- a physical file has its format
pub format-none : (spec : FileSpec) → IsPhysical spec → None ≡ option_map (λ its. its.format) (physical_in spec) → ⊥
format-none (PhysicalFile spec) physical is = absurd cc
format-none (LogicalFile spec) physical is = absurd physical

pub format-some : (spec : FileSpec) (format : Format) → IsPhysical spec → Some format ≡ option_map (λ its. its.format) (physical_in spec) → format ≡ format_in spec
format-some (PhysicalFile spec) format physical is = cc
format-some (LogicalFile spec) format physical is = absurd physical
