-- What APYJRNCHG and RMVJRNCHG did where they weren't refused: the part of the range that was gone through, its sequences and the slots after it.
use Rattle.std.proofs.Common.{◌≡◌, ℕ, ◌-◌, ◌≤◌, nat_lt, true, List, ◌++◌, length, take, Result, Ok, Err, refl, sym, ap, ◌∙◌, arith, append_assoc}
use Rattle.std.proofs.lemmas.List.{take-append-drop, take_all, length-take-le, length-drop, length-append}
use Rattle.entry_codec.specs.declared.entries.Entry.{Entry}
use Rattle.entry_codec.specs.declared.kinds.EntryKind.TheVariants.{ChangesApplied, ChangesRemoved}
use Rattle.member_slots.specs.declared.slot.Slot.{Slot}
use Rattle.journal_model.specs.Acts.{Act}
use Rattle.journal_model.specs.Closed.{is_closed, closed_prefix, closed_suffix, last}
use Rattle.journal_model.specs.Parts.{applied_part, not_applied, removed_part, not_removed}
use Rattle.journal_model.specs.Walks.{RangeFault}
use Rattle.journal_model.specs.Ranges.{RangeDone, apply_range, remove_range}
use Rattle.journal_model.proofs.PartLemmas.{greatest-within, greatest-whole, closed_suffix-closed}
use Rattle.journal_model.proofs.RangeLemmas.{remove_range-went, apply_range-went}
use Rattle.library_model.specs.declared.requests.JournaledChanges.{JournaledChanges}
use Rattle.library_model.specs.declared.requests.Request.TheVariants.{ApplyChanges, RemoveChanges}
use Rattle.library_model.specs.declared.replies.Reply.{Reply}
use Rattle.library_model.specs.declared.replies.Reply.TheVariants as replies
use Rattle.library_model.specs.declared.replies.LimitKind.TheVariants.{LibraryBytes, BlockBytes}
use Rattle.library_model.specs.declared.sources.NamedSource.{NamedSource}
use Rattle.library_steps.specs.declared.limits.TheConstants.{MOST_LIBRARY_BYTES, MOST_BLOCK_BYTES}
use Rattle.library_steps.specs.State.{State, Memory, memory_of}
use Rattle.library_steps.specs.Change.{Change, deposited}
use Rattle.library_steps.specs.EntrySizes.{entry_bytes}
use Rattle.library_steps.specs.UniqueKeys.{all_apart, unique_paths}
use Rattle.library_steps.specs.Step.{change}
use Rattle.library_steps.specs.Drafts.{author_of}
use Rattle.library_steps.specs.Refusals.{◌>>=◌, refuse_if}
use Rattle.library_steps.specs.Ranges.{Range, RangeWork, allowed, apply_plan, done_or_refused, given_back, given_forward, library_bytes, range_change, range_named, remove_plan, slots_now, with_range, work_of}
use Rattle.range_histories.specs.Ranges.{IsDone}
use Rattle.range_histories.proofs.ResultLemmas.{bind-ok, does-ok, ok-same}
use Rattle.range_histories.proofs.CutLemmas.{IsPart}
use Rattle.range_histories.proofs.NamedLemmas.{IsNamed, range_named-ok}

-- ---- plans

-- what a plan has of the range that is named, of its walk, and of the work that is made of both
pub record IsPlanned (named : Result Range Reply) (walk : Range → Result RangeDone RangeFault) (make : Range → RangeDone → RangeWork) (work : RangeWork) : Type 0 where
  pub range : Range
  pub is_named : named ≡ Ok range
  pub done : RangeDone
  pub walked : walk range ≡ Ok done
  pub is : make range done ≡ work

done_or_refused-ok : (r : Result RangeDone RangeFault) (done : RangeDone) → done_or_refused r ≡ Ok done → r ≡ Ok done
done_or_refused-ok (Ok d) done h = let e : d ≡ done = cc in ap Ok e
done_or_refused-ok (Err fault) done h = absurd cc

allowed-ok : (work given : RangeWork) (m : Memory) → allowed work m ≡ Ok given → work ≡ given
allowed-ok work given m h =
    let after = with_range work.range work.done m in
    let a = bind-ok (refuse_if (nat_lt MOST_LIBRARY_BYTES (library_bytes after.members)) (replies.LimitReached LibraryBytes MOST_LIBRARY_BYTES)) _ given h in
    let b = bind-ok (refuse_if (nat_lt MOST_BLOCK_BYTES (entry_bytes (deposited m work.drafts))) (replies.LimitReached BlockBytes MOST_BLOCK_BYTES)) _ given a.2 in
    let c = bind-ok (all_apart (unique_paths work.range.status.number m) after) _ given b.2 in
    ok-same (Ok work) work given refl c.2

plan-ok : (named : Result Range Reply) (walk : Range → Result RangeDone RangeFault) (make : Range → RangeDone → RangeWork) (m : Memory) (work : RangeWork)
    → (named >>= λ range. done_or_refused (walk range) >>= λ done. allowed (make range done) m) ≡ Ok work → IsPlanned named walk make work
plan-ok named walk make m work h =
    let a = bind-ok named _ work h in
    let b = bind-ok (done_or_refused (walk a.0)) _ work a.2 in
    record { range = a.0; is_named = a.1; done = b.0; walked = done_or_refused-ok (walk a.0) b.0 b.1; is = allowed-ok (make a.0 b.0) work m b.2 }

abbrev pub applied_range : State → Range → Result RangeDone RangeFault
applied_range s range = apply_range range.first range.acts (slots_now range (memory_of s))

abbrev pub removed_range : State → Range → Result RangeDone RangeFault
removed_range s range = remove_range range.first range.acts (slots_now range (memory_of s))

abbrev pub apply_work : State → (job timestamp : ℕ) → Range → RangeDone → RangeWork
apply_work s job timestamp range done =
    work_of (author_of (memory_of s) job timestamp) (λ d. ChangesApplied d.first d.last (length d.changes)) (λ d. given_forward d.changes) range (memory_of s) done

abbrev pub remove_work : State → (job timestamp : ℕ) → Range → RangeDone → RangeWork
remove_work s job timestamp range done =
    work_of (author_of (memory_of s) job timestamp) (λ d. ChangesRemoved d.first d.last (length d.changes)) (λ d. given_back d.changes) range (memory_of s) done

pub apply_plan-ok : (s : State) (read : List Entry) (job timestamp : ℕ) (args : JournaledChanges) (work : RangeWork) → apply_plan read (memory_of s) job timestamp args ≡ Ok work
    → IsPlanned (range_named args args.from args.to read (memory_of s)) (applied_range s) (apply_work s job timestamp) work
unfolding apply_plan
apply_plan-ok s read job timestamp args work h =
    plan-ok (range_named args args.from args.to read (memory_of s)) (applied_range s) (apply_work s job timestamp) (memory_of s) work h

pub remove_plan-ok : (s : State) (read : List Entry) (job timestamp : ℕ) (args : JournaledChanges) (work : RangeWork) → remove_plan read (memory_of s) job timestamp args ≡ Ok work
    → IsPlanned (range_named args args.to args.from read (memory_of s)) (removed_range s) (remove_work s job timestamp) work
unfolding remove_plan
remove_plan-ok s read job timestamp args work h =
    plan-ok (range_named args args.to args.from read (memory_of s)) (removed_range s) (remove_work s job timestamp) (memory_of s) work h

-- ---- requests that were done, whatever was read as the entries

pub record IsApplied (s : State) (read : List Entry) (args : JournaledChanges) (done : Change) : Type 0 where
  pub work : RangeWork
  pub range : Range
  pub named : IsNamed args s read args.from args.to range
  pub walk : RangeDone
  pub walked : applied_range s range ≡ Ok walk
  pub job : ℕ
  pub timestamp : ℕ
  pub makes : apply_work s job timestamp range walk ≡ work
  pub is : range_change (memory_of s) work ≡ done

pub record IsRemoved (s : State) (read : List Entry) (args : JournaledChanges) (done : Change) : Type 0 where
  pub work : RangeWork
  pub range : Range
  pub named : IsNamed args s read args.to args.from range
  pub walk : RangeDone
  pub walked : removed_range s range ≡ Ok walk
  pub job : ℕ
  pub timestamp : ℕ
  pub makes : remove_work s job timestamp range walk ≡ work
  pub is : range_change (memory_of s) work ≡ done

pub read-applied : (s : State) (read : List Entry) (args : JournaledChanges) (done : Change) → length read ≡ length s.entries → (sources : List NamedSource) (job timestamp : ℕ)
    → change sources read (memory_of s) job timestamp (ApplyChanges args) ≡ Ok done → IsApplied s read args done
unfolding change
read-applied s read args done count sources job timestamp h =
    let a = does-ok (range_change (memory_of s)) (apply_plan read (memory_of s) job timestamp args) done h in
    let p = apply_plan-ok s read job timestamp args a.0 a.1 in
    record {
      work = a.0;
      range = p.range;
      named = range_named-ok args s read args.from args.to p.range count p.is_named;
      walk = p.done;
      walked = p.walked;
      job = job;
      timestamp = timestamp;
      makes = p.is;
      is = a.2;
    }

pub read-removed : (s : State) (read : List Entry) (args : JournaledChanges) (done : Change) → length read ≡ length s.entries → (sources : List NamedSource) (job timestamp : ℕ)
    → change sources read (memory_of s) job timestamp (RemoveChanges args) ≡ Ok done → IsRemoved s read args done
unfolding change
read-removed s read args done count sources job timestamp h =
    let a = does-ok (range_change (memory_of s)) (remove_plan read (memory_of s) job timestamp args) done h in
    let p = remove_plan-ok s read job timestamp args a.0 a.1 in
    record {
      work = a.0;
      range = p.range;
      named = range_named-ok args s read args.to args.from p.range count p.is_named;
      walk = p.done;
      walked = p.walked;
      job = job;
      timestamp = timestamp;
      makes = p.is;
      is = a.2;
    }

-- its own entries
pub is_applied : (s : State) (args : JournaledChanges) (done : Change) → IsDone s (ApplyChanges args) done → IsApplied s s.entries args done
is_applied s args done d = read-applied s s.entries args done refl d.sources d.job d.timestamp d.does

pub is_removed : (s : State) (args : JournaledChanges) (done : Change) → IsDone s (RemoveChanges args) done → IsRemoved s s.entries args done
is_removed s args done d = read-removed s s.entries args done refl d.sources d.job d.timestamp d.does

-- ---- the part that was gone through

module _ {all front range rest : List Act} {gone first high : ℕ} (p : IsPart all gone first high front range rest) where
  -- what is removed of a range, from its end back
  pub removed-is_part : (slots : List Slot) (d : RangeDone) → remove_range first range slots ≡ Ok d → 1 ≤ length range
      → IsPart all gone d.first d.last (front ++ not_removed range) (removed_part range) rest
  removed-is_part slots d h some =
      let w = remove_range-went first range slots d h in
      let n = closed_suffix range in
      let within : n ≤ length range = greatest-within (λ n. is_closed (last n range)) (length range) in
      let left : length (not_removed range) ≡ length range - n = length-take-le (length range - n) range (omega arith) in
      let gone_on : length (removed_part range) ≡ length range - (length range - n) = length-drop (length range - n) range in
      let both = length-append front (not_removed range) in
      record {
        is =
            p.is
            ∙ ap (λ (r : List Act). front ++ (r ++ rest)) (sym (take-append-drop (length range - n) range))
            ∙ ap (λ (r : List Act). front ++ r) (append_assoc (not_removed range) (removed_part range) rest)
            ∙ sym (append_assoc front (not_removed range) (removed_part range ++ rest));
        begins = omega (arith, w.begins, p.begins, left, both, within);
        ends = omega (arith, w.ends, w.begins, gone_on, within, some);
      }

  -- what is applied of it, from its beginning on
  pub applied-is_part : (slots : List Slot) (d : RangeDone) → apply_range first range slots ≡ Ok d → 1 ≤ first
      → IsPart all gone d.first d.last front (applied_part range) (not_applied range ++ rest)
  applied-is_part slots d h counted =
      let w = apply_range-went first range slots d h in
      record {
        is =
            p.is
            ∙ ap (λ (r : List Act). front ++ (r ++ rest)) (sym (take-append-drop (closed_prefix range) range))
            ∙ ap (λ (r : List Act). front ++ r) (append_assoc (applied_part range) (not_applied range) rest);
        begins = w.begins ∙ p.begins;
        ends = omega (arith, w.ends, w.begins, counted);
      }

-- a closed range is applied whole
pub applied_part-closed : (range : List Act) → is_closed range ≡ true → applied_part range ≡ range
applied_part-closed range closed =
    let whole : take (length range) range ≡ range = take_all (length range) range (omega arith) in
    ap (λ (n : ℕ). take n range) (greatest-whole (λ n. is_closed (take n range)) (length range) (ap is_closed whole ∙ closed)) ∙ whole

pub removed_part-closed : (range : List Act) → is_closed (removed_part range) ≡ true
removed_part-closed range = closed_suffix-closed range
