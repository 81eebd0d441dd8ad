-- What APYJRNCHG and RMVJRNCHG leave of the keys: they ask that no unique path of the member has equal keys, and that no job uses it.
use Rattle.std.proofs.Common.{◌≡◌, ℕ, nat_lt, List, [], ◌∷◌, length, None, refl, subst, ap}
use Rattle.std.specs.List.{AllByRecursion}
use Rattle.entry_codec.specs.declared.entries.Entry.{Entry}
use Rattle.entry_codec.specs.declared.kinds.EntryKind.TheVariants.{ChangesApplied, ChangesRemoved}
use Rattle.member_slots.specs.Members.{member_of}
use Rattle.file_model.specs.Paths.{repeated_in}
use Rattle.journal_model.specs.Places.{slot_of}
use Rattle.journal_model.specs.Ranges.{apply_range, remove_range}
use Rattle.library_model.specs.declared.replies.Reply.TheVariants as replies
use Rattle.library_model.specs.declared.replies.LimitKind.TheVariants.{LibraryBytes, BlockBytes}
use Rattle.library_model.specs.declared.requests.JournaledChanges.{JournaledChanges}
use Rattle.library_steps.specs.declared.limits.TheConstants.{MOST_LIBRARY_BYTES, MOST_BLOCK_BYTES}
use Rattle.library_steps.specs.State.{State, Memory, memory_of}
use Rattle.library_steps.specs.Change.{deposited}
use Rattle.library_steps.specs.Drafts.{author_of}
use Rattle.library_steps.specs.EntrySizes.{entry_bytes}
use Rattle.library_steps.specs.Ranges.{Range, RangeWork, allowed, apply_changes, apply_plan, done_or_refused, given_back, given_forward, library_bytes, range_change, range_named, remove_changes, remove_plan, with_range, work_of}
use Rattle.library_steps.specs.Refusals.{refuse_if, refuse_with}
use Rattle.library_steps.specs.UniqueKeys.{UniquePath, all_apart, unique_paths}
use Rattle.library_steps.specs.Uses.{user_of}
use Rattle.key_state.proofs.TestedLemmas.{apart-own}
use Rattle.key_state.proofs.UniqueLemmas.{IsUnique, unique-same}
use Rattle.cycles_kept.proofs.FileSteps.{named-unused}
use Rattle.cycles_kept.proofs.HoldLemmas.{Holds, bind-holds, does-holds, then-holds, wider-holds, with-none}
use Rattle.keys_kept.proofs.EffectLemmas.{slots_for}
use Rattle.keys_kept.proofs.QuietLemmas.{KeysStay, slots-stay}
use Rattle.keys_kept.proofs.StateLemmas.{slot_in}

-- ---- no equal keys

apart-all : (paths : List UniquePath) (m : Memory) → Holds (all_apart paths m) (λ ok. AllByRecursion (λ unique. repeated_in unique.path m.members ≡ None) paths)
apart-all [] m = record { holds = tt }
apart-all (unique ∷ paths) m =
    bind-holds (refuse_with (λ (rrn : ℕ). replies.DuplicateKey unique.file rrn) (repeated_in unique.path m.members)) (λ ok. repeated_in unique.path m.members ≡ None) _ _
    (with-none (λ (rrn : ℕ). replies.DuplicateKey unique.file rrn) (repeated_in unique.path m.members)) (λ ok this.
    wider-holds (all_apart paths m) (λ done. AllByRecursion (λ (u : UniquePath). repeated_in u.path m.members ≡ None) paths) _ (λ done rest. (this, rest)) (apart-all paths m))

-- ---- the plans

-- what a range that may be gone through tells
pub record IsAllowed (m : Memory) (work : RangeWork) : Type 0 where
  pub unused : user_of work.range.status.number m ≡ None
  pub apart : AllByRecursion (λ unique. repeated_in unique.path (with_range work.range work.done m).members ≡ None) (unique_paths work.range.status.number m)

allowed-is : (work : RangeWork) (m : Memory) → user_of work.range.status.number m ≡ None → Holds (allowed work m) (IsAllowed m)
allowed-is work m none =
    then-holds (refuse_if (nat_lt MOST_LIBRARY_BYTES (library_bytes (with_range work.range work.done m).members)) (replies.LimitReached LibraryBytes MOST_LIBRARY_BYTES)) _ _ (λ bytes.
    then-holds (refuse_if (nat_lt MOST_BLOCK_BYTES (entry_bytes (deposited m work.drafts))) (replies.LimitReached BlockBytes MOST_BLOCK_BYTES)) _ _ (λ block.
    bind-holds (all_apart (unique_paths work.range.status.number m) (with_range work.range work.done m))
    (λ ok. AllByRecursion (λ unique. repeated_in unique.path (with_range work.range work.done m).members ≡ None) (unique_paths work.range.status.number m)) _ _
    (apart-all (unique_paths work.range.status.number m) (with_range work.range work.done m)) (λ ok keys. record { holds = record { unused = none; apart = keys } })))

apply-allowed : (entries : List Entry) (m : Memory) (job timestamp : ℕ) (args : JournaledChanges) → Holds (apply_plan entries m job timestamp args) (IsAllowed m)
unfolding apply_plan
apply-allowed entries m job timestamp args =
    bind-holds (range_named args args.from args.to entries m) (λ (range : Range). user_of range.status.number m ≡ None) _ _ (named-unused args args.from args.to entries m) (λ range none.
    then-holds (done_or_refused (apply_range range.first range.acts (member_of range.status.number m.members).slots)) _ _ (λ done.
    allowed-is (work_of (author_of m job timestamp) (λ d. ChangesApplied d.first d.last (length d.changes)) (λ d. given_forward d.changes) range m done) m none))

remove-allowed : (entries : List Entry) (m : Memory) (job timestamp : ℕ) (args : JournaledChanges) → Holds (remove_plan entries m job timestamp args) (IsAllowed m)
unfolding remove_plan
remove-allowed entries m job timestamp args =
    bind-holds (range_named args args.to args.from entries m) (λ (range : Range). user_of range.status.number m ≡ None) _ _ (named-unused args args.to args.from entries m) (λ range none.
    then-holds (done_or_refused (remove_range range.first range.acts (member_of range.status.number m.members).slots)) _ _ (λ done.
    allowed-is (work_of (author_of m job timestamp) (λ d. ChangesRemoved d.first d.last (length d.changes)) (λ d. given_back d.changes) range m done) m none))

range-keys : (s : State) (work : RangeWork) → IsAllowed (memory_of s) work → KeysStay s (range_change (memory_of s) work)
range-keys s work allows =
    slots-stay s (range_change (memory_of s) work).memory work.range.status.number (record (member_of work.range.status.number s.members) { slots = work.done.slots }) allows.unused refl
    (λ format over. over) refl
    (λ has stand format over is.
    unique-same format (λ place. slot_of (member_of work.range.status.number (with_range work.range work.done (memory_of s)).members).slots place)
    (slots_for (range_change (memory_of s) work).memory format) (λ place. ap (λ (n : ℕ). slot_in (with_range work.range work.done (memory_of s)).members n place) is)
    (subst (λ (n : ℕ). IsUnique format (λ place. slot_of (member_of n (with_range work.range work.done (memory_of s)).members).slots place)) is
    (apart-own (memory_of s) (with_range work.range work.done (memory_of s)) work.range.status.number allows.apart format over is)))

module _ (s : State) (read : List Entry) (job timestamp : ℕ) (args : JournaledChanges) where
  pub apply-keys : Holds (apply_changes read (memory_of s) job timestamp args) (KeysStay s)
  apply-keys =
      does-holds (range_change (memory_of s)) (apply_plan read (memory_of s) job timestamp args) (KeysStay s)
      (wider-holds (apply_plan read (memory_of s) job timestamp args) (IsAllowed (memory_of s)) _ (λ work allows. range-keys s work allows)
      (apply-allowed read (memory_of s) job timestamp args))

  pub remove-keys : Holds (remove_changes read (memory_of s) job timestamp args) (KeysStay s)
  remove-keys =
      does-holds (range_change (memory_of s)) (remove_plan read (memory_of s) job timestamp args) (KeysStay s)
      (wider-holds (remove_plan read (memory_of s) job timestamp args) (IsAllowed (memory_of s)) _ (λ work allows. range-keys s work allows)
      (remove-allowed read (memory_of s) job timestamp args))
