-- Slots that are records of one file that has a member may stand in the member.
use Rattle.std.proofs.Common.{ℕ, ◌+◌, ◌*◌, ◌<◌, ◌≤◌, ◌≡◌, ◌&&◌, Bool, true, false, List, [], ◌∷◌, length, Option, Some, None, IsSome, refl, sym, ap, ◌∙◌, subst}
use Rattle.std.specs.Prelude.{IfSome, is_none, unwrap_or}
use Rattle.std.specs.List.{AllByRecursion}
use Rattle.std.specs.Option.{is_some, option_map}
use Rattle.field_values.specs.FirstBad.{TellsFirstBad}
use Rattle.record_fmt.specs.declared.formats.Format.{Format}
use Rattle.member_slots.specs.declared.slot.Slot.{Slot}
use Rattle.entry_codec.specs.declared.kinds.Images.{Images}
use Rattle.member_slots.specs.Member.{MemberState, records}
use Rattle.member_slots.specs.Members.{member_at, member_of}
use Rattle.dds_source.specs.declared.faults.DdsFault.{DdsFault}
use Rattle.dds_physical.specs.declared.physical_files.PhysicalSpec.{PhysicalSpec}
use Rattle.dds_logical.specs.Complete.{Fails}
use Rattle.dds_logical.specs.declared.logical_files.LogicalFault.{LogicalFault}
use Rattle.dds_logical.specs.declared.logical_files.LogicalFault.TheVariants.{Fault}
use Rattle.logical_model.specs.Bases.{FileSpec, LogicalFile, PhysicalFile}
use Rattle.lawful_states.specs.Lawful.{HoldsValues}
use Rattle.lawful_states.specs.Members.{HasMember}
use Rattle.lawful_states.specs.Owners.{AreApart, Owns}
use Rattle.lawful_states.specs.Slots.{MayStand}
use Rattle.lawful_states.proofs.MemberLemmas.{IsThere-is_some}
use Rattle.library_model.specs.Named.{Named, named}
use Rattle.library_model.specs.declared.limits.TheConstants.{LAST_MEMBER}
use Rattle.library_model.specs.declared.requests.FileMember.{FileMember}
use Rattle.library_parts.specs.Files.{IsNewMember}
use Rattle.library_parts.specs.Filled.{MayFill}
use Rattle.library_parts.specs.Indexed.{HasBytes}
use Rattle.library_steps.specs.declared.limits.TheConstants.{MOST_LIBRARY_BYTES, MOST_MEMBERS}
use Rattle.library_steps.specs.CreateLogicalFile.{logical_described}
use Rattle.library_steps.specs.Journaling.{journaled_from, no_longer_journaled}
use Rattle.library_steps.specs.Ranges.{library_bytes}
use Rattle.library_steps.specs.State.{Memory, State, FileState, fields_of, format_in, memory_of, physical_among, physical_in}
use Rattle.library_steps.specs.Uses.{user_of}
use Rattle.replay_members.specs.Bodies.{Body}
use Rattle.restarted_library.specs.Steps.{IsViewOf, filled_by, status_by, status_set}

pub and-both : (a b : Bool) → (a && b) ≡ true → (a ≡ true) × (b ≡ true)
and-both true b is = (refl, is)
and-both false b is = absurd cc

-- where no byte is the first bad one, the bytes pass
pub none-bad : (test : List ℕ → Bool) (bytes : List ℕ) (place : Option ℕ) (none : Bool) → none ≡ is_none place → TellsFirstBad test bytes place → none ≡ true → test bytes ≡ true
none-bad test bytes None none is tells all = tells
none-bad test bytes (Some at) none is tells all = absurd cc

-- what isn't there
pub none-there : (o : Option FileState) → is_some o ≡ false → o ≡ None
none-there None absent = refl
none-there (Some file) absent = absurd cc

-- a source with something wrong describes no logical file
pub fails-is : (m : Memory) (text : List ℕ) (error : LogicalFault) (fault : DdsFault) → error ≡ Fault fault → Fails error (logical_described m text) → IsViewOf m text None
fails-is m text error fault is fails = (fault, subst (λ (e : LogicalFault). Fails e (logical_described m text)) is fails)

-- a file that holds records of a format has this one
pub format-of : (spec : FileSpec) (format : Format) → Some format ≡ option_map (λ (p : PhysicalSpec). p.format) (physical_in spec) → format ≡ format_in spec
format-of (PhysicalFile spec) format is = cc
format-of (LogicalFile view) format is = absurd cc

same-file : (files : Named FileState) (name other : List ℕ) (file another : FileState) (number : ℕ) → AreApart files → Owns files name file number → Owns files other another number → file ≡ another
same-file files name other file another number apart one two =
    let same : name ≡ other = apart.apart name other file another number one two in
    ap (λ (o : Option FileState). unwrap_or o file) (sym one.there ∙ ap (λ (n : List ℕ). named n files) same ∙ two.there)

each-stands : (s : State) (name : List ℕ) (file : FileState) (number : ℕ) → AreApart s.files → Owns s.files name file number → (slots : List Slot) → AllByRecursion (HoldsValues (fields_of file)) slots
    → AllByRecursion (λ (slot : Slot). MayStand s number slot) slots
each-stands s name file number apart owns [] all = tt
each-stands s name file number apart owns (slot ∷ slots) all = (
  λ other another its. subst (λ (f : FileState). HoldsValues (fields_of f) slot) (same-file s.files name other file another number apart owns its) all.0,
  each-stands s name file number apart owns slots all.1,
)

pub stands-all : (s : State) (name : List ℕ) (file : FileState) (number : ℕ) (slots given : List Slot) → given ≡ slots → AreApart s.files → HasMember s name file number
    → AllByRecursion (HoldsValues (fields_of file)) given → AllByRecursion (λ (slot : Slot). MayStand s number slot) slots
stands-all s name file number slots given same apart has all =
    subst (λ (w : List Slot). AllByRecursion (λ (slot : Slot). MayStand s number slot) w) same (each-stands s name file number apart has.owns given all)

-- ---- a file that gets a member

pub extends : (s : State) (args : FileMember) (file : FileState) → physical_among args.file s.files ≡ Some file → length file.members < MOST_MEMBERS → s.next_member ≤ LAST_MEMBER → IsNewMember s args
extends s args file is few number = record {
  there = ap (λ (o : Option FileState). is_some o) is;
  few = subst (λ (o : Option FileState). IfSome o (λ f. length f.members < MOST_MEMBERS)) (sym is) few;
  number = number;
}

-- ---- slots

pub has-there : (s : State) (name : List ℕ) (file : FileState) (number : ℕ) → HasMember s name file number → IsSome (member_at number s.members)
has-there s name file number has = IsThere-is_some (fields_of file) (member_at number s.members) has.there

-- the member under its own name and number
pub has-same : (s : State) (name other : List ℕ) (file : FileState) (its number : ℕ) → name ≡ other → its ≡ number → HasMember s name file its → HasMember s other file number
has-same s name other file its number same_name same_number has =
    subst (λ (n : List ℕ). HasMember s n file number) same_name (subst (λ (n : ℕ). HasMember s name file n) same_number has)

-- all of it
pub may-fill : (s : State) (number : ℕ) (slots first last : List Slot) → first ≡ slots → last ≡ slots → IsSome (member_at number s.members)
    → AllByRecursion (λ (slot : Slot). MayStand s number slot) slots
    → AllByRecursion HasBytes first → user_of number (memory_of s) ≡ None → library_bytes s.members + length last * (member_of number s.members).record_length ≤ MOST_LIBRARY_BYTES
    → MayFill s number (filled_by s number slots)
may-fill s number slots first last first_is last_is there values bytes unused few = record {
  there = there;
  unused = unused;
  long = refl;
  values = values;
  bytes = subst (λ (w : List Slot). AllByRecursion HasBytes w) first_is bytes;
  few = subst (λ (w : List Slot). library_bytes s.members + length w * (member_of number s.members).record_length ≤ MOST_LIBRARY_BYTES) last_is few;
}

-- ---- what is put

abbrev with_long : ℕ → List Slot → MemberState
with_long long slots = record { record_length = long; slots = slots }

pub filled-is : (s : State) (number long : ℕ) (slots given : List Slot) (new : MemberState) → new ≡ record { record_length = long; slots = given } → long ≡ (member_of number s.members).record_length
    → given ≡ slots → new ≡ filled_by s number slots
filled-is s number long slots given new made is same = made ∙ (λ i. with_long (is i) (same i))

pub status-some : (body : Body) (images : Option Images) (its : Images) (sequence : ℕ) → images ≡ body.images → images ≡ Some its → sequence ≡ body.last_break
    → journaled_from sequence its ≡ status_by body
status-some body images its sequence is some last =
    ap (λ (n : ℕ). journaled_from n its) last
    ∙ ap (λ (o : Option Images). status_set o body.last_break (length (records (record { record_length = 0; slots = body.slots })))) (sym some ∙ is)

pub status-none : (body : Body) (images : Option Images) (sequence count : ℕ) → images ≡ body.images → images ≡ None → sequence ≡ body.last_break
    → count ≡ length (records (record { record_length = 0; slots = body.slots })) → no_longer_journaled sequence count ≡ status_by body
status-none body images sequence count is none last counted =
    (λ i. no_longer_journaled (last i) (counted i))
    ∙ ap (λ (o : Option Images). status_set o body.last_break (length (records (record { record_length = 0; slots = body.slots })))) (sym none ∙ is)
