-- COMMIT: the job's open commit cycle ends, and what it changed stays.
use Rattle.std.proofs.Common.{◌≡◌, ℕ, ◌+◌, ◌-◌, ◌≤◌, ◌&&◌, nat_lt, slice_get, Bool, true, [], ◌∷◌, Option, Some, None, Ok, refl, sym, ap, ◌∙◌, subst, arith}
use Rattle.std.specs.List.{AllByRecursion, filter}
use Rattle.std.specs.Option.{is_some}
use Rattle.std.proofs.lemmas.List.{append-nil}
use Rattle.std.proofs.lemmas.Bool.Decides.{nat_tests}
use Rattle.entry_codec.specs.declared.entries.Entry.{Entry}
use Rattle.entry_codec.specs.declared.kinds.EntryKind.TheVariants.{CommitCycleCommitted}
use Rattle.entry_codec.specs.Drafts.{numbered}
use Rattle.journal_model.specs.Catalogue.{member_numbered}
use Rattle.journal_model.specs.Pairs.{EndsPair}
use Rattle.journal_model.specs.Replay.{is_other}
use Rattle.journal_model.specs.Replayable.{is_one_of}
use Rattle.journal_replay.specs.Standing.{Standing, catalogue_in, members_by, standing_after}
use Rattle.library_model.specs.declared.replies.Reply.TheVariants.{Done, NoDefinition}
use Rattle.library_steps.specs.State.{State, CycleState, JobState, job_of, memory_of, with_opens}
use Rattle.library_steps.specs.Change.{Change, journaled}
use Rattle.library_steps.specs.Refusals.{found}
use Rattle.library_steps.specs.Drafts.{Author, author_of, cycle_draft}
use Rattle.library_steps.specs.Commitment.{commit, commit_change, committed, committed_open, end_drafts, without_cycle}
use Rattle.joint_state.specs.Sound.{after}
use Rattle.restart_laws.proofs.ResultLemmas.{does-each}
use Rattle.replayed_histories.specs.Replayed.{BeganBefore, IsHeldWithin, IsReplayed}
use Rattle.replayed_histories.specs.Deposits.{MayBeDeposited}
use Rattle.replayed_histories.proofs.CycleLemmas.{holds-one, is-one, none-ends, one-ends, without}
use Rattle.replayed_histories.proofs.DepositLemmas.{replays-kept}
use Rattle.replayed_histories.proofs.QuietLemmas.{members-stay, no-records, standing-same}
use Rattle.replayed_histories.proofs.StandsLemmas.{cycles-later, stands-with}

-- what the journal leaves without this commit cycle
abbrev pub cycle_gone : ℕ → Standing → Standing
cycle_gone n left = record left { next = left.next + 1; begun = None; cycles = filter (is_other n) left.cycles; undos = without n left.undos }

module _ (author : Author) (n : ℕ) (left : Standing) where
  abbrev e : Entry
  e = numbered (cycle_draft author n CommitCycleCommitted) left.next

  pub end-after : standing_after e left ≡ cycle_gone n left
  end-after =
      standing-same (left.next + 1) None None left.files left.files _ left.members left.next_member left.next_member
      (filter (is_other n) left.cycles) (filter (is_other n) left.cycles) (without n left.undos) (without n left.undos) refl refl
      (append-nil (members_by left.begun e left.members) ∙ members-stay left.begun e left.members (λ m. refl)) refl refl refl

  pub end-may : left.begun ≡ None → AllByRecursion (IsHeldWithin left) left.members → is_one_of left.cycles n ≡ true → 1 ≤ n → MayBeDeposited left e
  end-may none within one first = record {
    next = record {
      sequence = refl;
      enters = tt;
      replays = λ member. one;
      names = λ no. one;
      deletes = λ name is. absurd cc;
      pairs = subst (λ (o : Option Entry). EndsPair o e) (sym none) refl;
      records = no-records (catalogue_in left) (member_numbered None (catalogue_in left));
    };
    within = subst (λ (l : Standing). AllByRecursion (IsHeldWithin l) l.members) (sym end-after) within;
    placed = let some : nat_lt 0 n ≡ true = grind (arith, nat_tests, first) in ap (λ (b : Bool). b && true && true) some;
    journaled = λ on. absurd cc;
  }

module _ (s : State) (r : IsReplayed s) (job timestamp : ℕ) (there : slice_get s.jobs (job - 1) ≡ Some (job_of job (memory_of s))) where
  abbrev ends : JobState → JobState
  ends j = with_opens committed_open (without_cycle j)

  by_cycle : (forced : Bool) (o : Option CycleState) → (job_of job (memory_of s)).cycle ≡ o
      → IsReplayed (after s (journaled (end_drafts (author_of (memory_of s) job timestamp) o) forced Done (committed job (memory_of s))))
  by_cycle forced None has =
      replays-kept s r [] forced Done (committed job (memory_of s)) r.left refl r.checkpoint refl refl r.whole
      (stands-with r.left r.left.next r.left.begun r.left.cycles r.left.undos s.files s.members s.next_member s.jobs (committed job (memory_of s)).jobs r.stands
      (none-ends ends (job_of job (memory_of s)) refl r.left.next (job - 1) r.left.cycles r.left.undos s.jobs there r.stands.cycles_are has))
  by_cycle forced (Some cycle) has =
      let is : is_one_of r.left.cycles cycle.sequence ≡ true =
      is-one ends (job_of job (memory_of s)) refl r.left.next (job - 1) r.left.cycles r.left.undos s.jobs there r.stands.cycles_are cycle has
      in
      let began : BeganBefore r.left.next cycle.sequence = holds-one (BeganBefore r.left.next) cycle.sequence r.left.cycles is r.stands.cycles_are.begun in
      replays-kept s r (cycle_draft (author_of (memory_of s) job timestamp) cycle.sequence CommitCycleCommitted ∷ []) forced Done (committed job (memory_of s))
      (cycle_gone cycle.sequence r.left) refl r.checkpoint refl (
        end-may (author_of (memory_of s) job timestamp) cycle.sequence r.left r.whole r.journal.within is began.0,
        sym (end-after (author_of (memory_of s) job timestamp) cycle.sequence r.left),
      )
      refl
      (stands-with r.left (r.left.next + 1) None (filter (is_other cycle.sequence) r.left.cycles) (without cycle.sequence r.left.undos) s.files s.members s.next_member s.jobs
      (committed job (memory_of s)).jobs r.stands
      (cycles-later r.left.next (filter (is_other cycle.sequence) r.left.cycles) (without cycle.sequence r.left.undos) (committed job (memory_of s)).jobs
      (one-ends ends (job_of job (memory_of s)) refl r.left.next (job - 1) r.left.cycles r.left.undos s.jobs there r.stands.cycles_are cycle has)))

  pub commit-replayed : (done : Change) → commit (memory_of s) job timestamp ≡ Ok done → IsReplayed (after s done)
  commit-replayed done h =
      does-each (λ level. commit_change (memory_of s) job timestamp) (found (job_of job (memory_of s)).level NoDefinition) done (λ c. IsReplayed (after s c)) h
      (λ level is. by_cycle (is_some (job_of job (memory_of s)).cycle) (job_of job (memory_of s)).cycle refl)
