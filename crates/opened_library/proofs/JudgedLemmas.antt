-- What the calls of a library rest on, where no job has begun and no checkpoint was saved.
use Rattle.std.proofs.Common.{◌≡◌, ◌≤◌, ◌∙◌, ◌==◌, ℕ, zero, suc, false, if◌then◌else◌, Option, Some, None, List, [], ◌∷◌, length, refl, sym, ap, subst, arith}
use Rattle.std.proofs.lemmas.Bool.{ne_eqb}
use Rattle.std.specs.Prelude.{IfSome}
use Rattle.std.specs.List.{AllByRecursion, sum_by}
use Rattle.std.specs.Option.{option_map}
use Rattle.member_slots.specs.Member.{MemberState}
use Rattle.member_slots.specs.Members.{NumberedMembers, member_at}
use Rattle.record_fmt.specs.Layout.{record_length}
use Rattle.record_fmt.specs.declared.formats.Format.{Format}
use Rattle.logical_model.specs.Bases.{FileSpec, PhysicalFile, LogicalFile}
use Rattle.library_steps.specs.declared.limits.TheConstants.{LAST_SEQUENCE}
use Rattle.library_steps.specs.State.{State, JobState, memory_of, physical_in}
use Rattle.library_steps.specs.SlotChange.{change_bytes}
use Rattle.library_steps.specs.Uses.{changes_in}
use Rattle.kept_library.specs.Counted.{HasBytes}
use Rattle.kept_library.specs.Sequences.{sequences_due}
use Rattle.kept_library.specs.Journaled.{MayDeposit}

-- members are counted from 1 where none has the number 0
counted-first : (number : ℕ) (member : MemberState) (others : Option MemberState) → (if number == 0 then Some member else others) ≡ None → (1 ≤ number) × (others ≡ None)
counted-first zero member others none = absurd (let here : Some member ≡ None = none in cc)
counted-first (suc number) member others none =
    let other : (suc number == 0) ≡ false = ne_eqb (suc number) 0 (λ e. absurd (omega (arith, e))) in
    let same : (if suc number == 0 then Some member else others) ≡ others = rw other refl in
    (omega arith, sym same ∙ none)

pub counted-members : (members : NumberedMembers) → member_at 0 members ≡ None → AllByRecursion (λ entry. 1 ≤ entry.number) members
counted-members [] none = tt
counted-members (entry ∷ members) none =
    let first = counted-first entry.number entry.item (member_at 0 members) none in
    (first.0, counted-members members first.1)

-- a format that has bytes is that of a physical file whose records have them
pub wide-format : (spec : FileSpec) (format : Format) → Some format ≡ option_map (λ its. its.format) (physical_in spec) → 1 ≤ record_length format.fields → HasBytes spec
wide-format (PhysicalFile its) format is wide = subst (λ (o : Option Format). IfSome o (λ f. 1 ≤ record_length f.fields)) is wide
wide-format (LogicalFile its) format is wide = tt

pub wide-none : (spec : FileSpec) → None ≡ option_map (λ its. its.format) (physical_in spec) → HasBytes spec
wide-none (PhysicalFile its) is = absurd cc
wide-none (LogicalFile its) is = tt

pub may-deposit : (s : State) → s.jobs ≡ [] → s.checkpoint ≡ 0 → 1 ≤ s.next_member → AllByRecursion (λ entry. 1 ≤ entry.number) s.members
    → AllByRecursion (λ entry. HasBytes entry.1.spec) s.files → (memory_of s).last_entry ≤ LAST_SEQUENCE → MayDeposit s
may-deposit s none unsaved next members files last = record {
  counted = record {
    next = next;
    members = members;
    cycles = subst (λ (jobs : List JobState). AllByRecursion (λ job. IfSome job.cycle (λ cycle. 1 ≤ cycle.sequence)) jobs) (sym none) tt;
    records = files;
  };
  groups = record {
    changes = subst (λ (jobs : List JobState). sum_by (λ job. length (changes_in job.cycle)) jobs ≤ 100000) (sym none) (omega arith);
    bytes = subst (λ (jobs : List JobState). sum_by (λ job. sum_by change_bytes (changes_in job.cycle)) jobs ≤ 268435456) (sym none) (omega arith);
  };
  sequences = record { due = let nothing : sum_by sequences_due s.jobs ≡ 0 = ap (λ (jobs : List JobState). sum_by sequences_due jobs) none in omega (arith, last, nothing) };
  few = let nothing : length s.jobs ≡ 0 = ap (λ (jobs : List JobState). length jobs) none in omega (arith, nothing);
  unsaved = unsaved;
}
