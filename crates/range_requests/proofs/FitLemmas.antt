-- What fits the fields of one file that has a member fits those of each.
use Rattle.std.proofs.Common.{◌≡◌, ℕ, List, Option, Some, OnOk, Result, Ok, Err, unwrap_or, sym, ap, ◌∙◌, subst}
use Rattle.std.specs.List.{AllByRecursion}
use Rattle.std.specs.Option.{option_map}
use Rattle.record_fmt.specs.declared.formats.Format.{Format}
use Rattle.dds_physical.specs.declared.physical_files.PhysicalSpec.{PhysicalSpec}
use Rattle.logical_model.specs.Bases.{FileSpec, PhysicalFile, LogicalFile}
use Rattle.library_model.specs.Named.{Named, named}
use Rattle.lawful_states.specs.Owners.{AreApart, Owns}
use Rattle.library_steps.specs.State.{State, FileState, fields_of, format_in, physical_in}
use Rattle.range_images.specs.declared.slot_given.SlotGiven.{SlotGiven}
use Rattle.range_requests.specs.declared.found.Found.{Found}
use Rattle.range_requests.specs.declared.walks.Walk.{Walk}
use Rattle.range_requests.specs.Fits.{IsFit}
use Rattle.library_parts.specs.Given.{AddRecords}
use Rattle.range_requests.specs.Plans.{IsKept}
use Rattle.range_requests.specs.Steps.{IsFitWalk, slots_of}

-- a file that holds records of a format has this one
pub format-of : (spec : FileSpec) (format : Format) → Some format ≡ option_map (λ (p : PhysicalSpec). p.format) (physical_in spec) → format ≡ format_in spec
format-of (PhysicalFile spec) format is = cc
format-of (LogicalFile view) format is = absurd cc

same-file : (files : Named FileState) (name other : List ℕ) (file another : FileState) (number : ℕ) → AreApart files → Owns files name file number → Owns files other another number → file ≡ another
same-file files name other file another number apart one two =
    let same : name ≡ other = apart.apart name other file another number one two in
    ap (λ (o : Option FileState). unwrap_or o file) (sym one.there ∙ ap (λ (n : List ℕ). named n files) same ∙ two.there)

pub fit-walk : {T E : Type 0} (s : State) (found : Found) (walk : Walk) (r : Result T E) → AreApart s.files → IsKept s found → AddRecords walk.given.items (slots_of s found.member) → (format : Format) (given : List SlotGiven)
    → format ≡ format_in found.file.now.spec → given ≡ walk.given.items → OnOk r (AllByRecursion (IsFit format.fields) given) → OnOk r (IsFitWalk s found walk)
fit-walk s found walk (Err e) apart kept records format given is_format is_given fit = tt
fit-walk s found walk (Ok x) apart kept records format given is_format is_given fit =
    let here : AllByRecursion (IsFit (fields_of found.file.now)) walk.given.items = subst (λ (gs : List SlotGiven). AllByRecursion (IsFit (fields_of found.file.now)) gs) is_given
    (subst (λ (f : Format). AllByRecursion (IsFit f.fields) given) is_format fit) in
    record {
      fit = λ name file owns. subst (λ (f : FileState). AllByRecursion (IsFit (fields_of f)) walk.given.items) (same-file s.files kept.name name found.file.now file found.member apart kept.owns owns) here;
      records = records;
    }
