-- A library with nothing in it, and with jobs that have begun and done nothing.
use Rattle.std.proofs.Common.{◌≡◌, ℕ, zero, suc, ◌+◌, List, [], ◌∷◌, map, Some, slice_get, refl, subst, arith}
use Rattle.std.specs.List.{AllByRecursion, IsDistinct}
use Rattle.library_model.specs.Named.{Named, same_name}
use Rattle.member_slots.specs.Members.{NumberedMembers}
use Rattle.library_steps.specs.State.{State, FileState, JobState, begun, empty_library, new_job}
use Rattle.lawful_states.specs.Lawful.{OpensHold, AllGoBack}
use Rattle.joint_state.specs.Joint.{JobStands}
use Rattle.joint_state.specs.Agreed.{StaysJournaled}
use Rattle.joint_state.specs.Sound.{IsSound}

opens-new : (files : Named FileState) (names : List (List ℕ)) → AllByRecursion (OpensHold files) (map new_job names)
opens-new files [] = tt
opens-new files (name ∷ names) = (tt, opens-new files names)

back-new : (files : Named FileState) (members : NumberedMembers) (names : List (List ℕ)) → AllGoBack files members (map new_job names)
back-new files members [] = tt
back-new files members (name ∷ names) = (tt, back-new files members names)

job-new : (names : List (List ℕ)) (place : ℕ) (job : JobState) → slice_get (map new_job names) place ≡ Some job → (name : List ℕ) × (new_job name ≡ job)
job-new [] place job there = absurd cc
job-new (name ∷ names) zero job there = (name, let e : new_job name ≡ job = cc in e)
job-new (name ∷ names) (suc place) job there = job-new names place job there

stands-new : (s : State) (number : ℕ) (name : List ℕ) → JobStands s number (new_job name)
stands-new s number name = record {
  idle = record { opens = λ ended. refl; level = λ ended. refl };
  control = record { cycle = λ none. refl; opens = λ none. tt };
  opens = record { apart = tt; counted = tt };
  journaled = tt;
  begun = tt;
  current = tt;
  locked = tt;
  made = tt;
}

journaled-new : (files : Named FileState) (names : List (List ℕ)) → AllByRecursion (StaysJournaled files) (map new_job names)
journaled-new files [] = tt
journaled-new files (name ∷ names) = (record { opens = tt; changes = tt }, journaled-new files names)

distinct-none : IsDistinct same_name []
unfolding IsDistinct
distinct-none = tt

pub begun-sound : (names : List (List ℕ)) → IsSound (begun empty_library names)
begun-sound names = record {
  library = record {
    members = λ name file number owns. absurd (let there = owns.there in cc);
    bases = λ name file there. absurd cc;
    opens = opens-new [] names;
    changes = back-new [] [] names;
    numbers = tt;
    keepers = λ k d lt. absurd (omega arith);
    few = omega arith;
  };
  apart = record {
    apart = λ name other file another number one two. absurd (let there = one.there in cc);
    within = λ name file there. absurd cc;
  };
  names = distinct-none;
  numbered = tt;
  formats = λ name file there. absurd cc;
  views = λ name file there. absurd cc;
  defaults = λ name file there. absurd cc;
  within = tt;
  joint = record {
    compatible = λ k d lt. absurd (omega arith);
    locks = tt;
    jobs = λ place job there. let new = job-new names place job there in
        subst (λ (j : JobState). JobStands (begun empty_library names) (place + 1) j) new.1 (stands-new (begun empty_library names) (place + 1) new.0);
    told = record { records = tt; members = tt };
  };
  agreed = record {
    chained = λ member place. tt;
    told = λ member place there. absurd cc;
    committed = journaled-new [] names;
  };
}
