-- While the changes of a commit cycle are taken back one after another, the paths stay those of whatever library it is.
use Rattle.std.proofs.Common.{ℕ, ◌+◌, ◌-◌, ◌≤◌, ◌≡◌, ◌∙◌, IsTrue, List, [], ◌∷◌, get_or, sym, subst}
use Rattle.std.specs.List.{AllByRecursion}
use Rattle.member_slots.specs.Members.{NumberedMembers}
use Rattle.journal_model.specs.Replay.{before_of}
use Rattle.journal_model.specs.Rollback.{MemberChange}
use Rattle.path_set.specs.declared.moves.PathMove.{PathMove}
use Rattle.path_set.specs.KeptPaths.{KeptPaths, AreShared, spare_of}
use Rattle.path_set.specs.RecordChanges.{paths_after, CanBeMade, count_in}
use Rattle.job_table.specs.Opens.{OpenOrder}
use Rattle.job_table.specs.Table.{changed_at, job_of_number}
use Rattle.library_model.specs.Named.{Named}
use Rattle.library_steps.specs.Commitment.{rolled_back_open, without_cycle}
use Rattle.library_steps.specs.EndJob.{ended_job}
use Rattle.library_steps.specs.History.{is_running}
use Rattle.library_steps.specs.State.{FileState, JobState, job_at, job_changed, with_opens}
use Rattle.library_steps.specs.Uses.{changes_in}
use Rattle.lawful_states.specs.Back.{member_back}
use Rattle.parts_model.specs.Indexed.{HasBytes, IsIndexed}
use Rattle.lawful_states.specs.Lawful.{FitsPlace}
use Rattle.parts_model.specs.Standing.{StandAsMade}
use Rattle.parts_model.specs.TakingBack.{IsTakingBack, CanTakeBack, LeadsToIndexed}
use Rattle.parts_model.proofs.IndexBack.{moves-at, taking-rolled_back, taking-ended, taking-next, back-can, back-next}

-- these changes are left, with the members and the paths as they are now
pub record IsUndoing (first : NumberedMembers) (begun : KeptPaths) (all : List MemberChange) (steps : List (List PathMove))
    (left : List MemberChange) (more : List (List PathMove)) (now : NumberedMembers) (kept : KeptPaths) : Type 0 where
  pub can : CanTakeBack now kept left more
  pub on : (files : Named FileState) (jobs : List JobState) (orders : List (Named OpenOrder)) (moves : List (List (List PathMove)))
      → IsTakingBack files jobs orders moves first begun all steps → IsTakingBack files jobs orders moves now kept left more

module _ (first : NumberedMembers) (begun : KeptPaths) (all : List MemberChange) (steps : List (List PathMove)) where
  pub undoing-first : CanTakeBack first begun all steps → IsUndoing first begun all steps all steps first begun
  undoing-first can = record { can = can; on = λ files jobs orders moves is. is }

  pub undoing-can : (left rest : List MemberChange) (most more : List (List PathMove)) (undo : MemberChange) (back : List PathMove) (now : NumberedMembers) (kept : KeptPaths)
      → left ≡ undo ∷ rest → most ≡ back ∷ more → AreShared kept.paths → IsUndoing first begun all steps left most now kept → CanBeMade back kept
  undoing-can left rest most more undo back now kept next given shared is = back-can left rest most more undo back next given now kept is.can shared

  pub undoing-next : (left rest : List MemberChange) (most more : List (List PathMove)) (undo : MemberChange) (back : List PathMove) (now after : NumberedMembers) (kept later : KeptPaths)
      → left ≡ undo ∷ rest → most ≡ back ∷ more → AreShared kept.paths → HasBytes (before_of undo.change) → after ≡ member_back undo now → later.paths ≡ paths_after back kept.paths
      → ((id : ℕ) → spare_of id kept ≤ spare_of id later + count_in id back) → IsUndoing first begun all steps left most now kept → IsUndoing first begun all steps rest more after later
  undoing-next left rest most more undo back now after kept later next given shared bytes members paths spare is =
      subst (λ (m : NumberedMembers). IsUndoing first begun all steps rest more m later) (sym members) (record {
        can = back-next left rest most more undo back next given now kept later is.can shared bytes paths spare;
        on = λ files jobs orders moves begin. taking-next files jobs orders moves left rest most more undo back next given now kept later (is.on files jobs orders moves begin) shared bytes paths spare;
      })

  pub undoing-end : (left : List MemberChange) (more : List (List PathMove)) (now : NumberedMembers) (kept : KeptPaths) → IsUndoing first begun all steps left more now kept
      → LeadsToIndexed first begun all steps now kept
  undoing-end left more now kept is files jobs orders moves begin = (is.on files jobs orders moves begin).indexed

-- the same library, with its parts said otherwise
pub indexed-as : (files : Named FileState) (members others : NumberedMembers) (jobs laters : List JobState) (orders reads : List (Named OpenOrder)) (moves backs : List (List (List PathMove)))
    (kept : KeptPaths) → others ≡ members → laters ≡ jobs → reads ≡ orders → backs ≡ moves → IsIndexed files members jobs orders moves kept → IsIndexed files others laters reads backs kept
indexed-as files members others jobs laters orders reads moves backs kept m j o b =
    subst (λ (w : NumberedMembers). IsIndexed files members jobs orders moves kept → IsIndexed files w laters reads backs kept) (sym m)
    (subst (λ (w : List JobState). IsIndexed files members jobs orders moves kept → IsIndexed files members w reads backs kept) (sym j)
    (subst (λ (w : List (Named OpenOrder)). IsIndexed files members jobs orders moves kept → IsIndexed files members jobs w backs kept) (sym o)
    (subst (λ (w : List (List (List PathMove))). IsIndexed files members jobs orders moves kept → IsIndexed files members jobs orders w kept) (sym b) (λ is. is))))

-- ---- the changes that a job hands out

module _ (files : Named FileState) (members : NumberedMembers) (jobs : List JobState) (orders : List (Named OpenOrder)) (moves : List (List (List PathMove))) (kept : KeptPaths)
    (number : ℕ) (running : IsTrue (is_running (job_at number jobs))) (changes : List MemberChange) (steps : List (List PathMove))
    (own : changes ≡ changes_in (job_of_number number jobs).cycle) (given : steps ≡ get_or moves (number - 1) []) (indexed : IsIndexed files members jobs orders moves kept)
    (fit : AllByRecursion (FitsPlace members) (changes_in (job_of_number number jobs).cycle)) (stand : StandAsMade (changes_in (job_of_number number jobs).cycle) members) where
  abbrev rolled : List JobState
  rolled = job_changed (number - 1) (λ j. with_opens rolled_back_open (without_cycle j)) jobs

  abbrev without_moves : List (List (List PathMove))
  without_moves = changed_at (number - 1) (λ (ms : List (List PathMove)). []) moves

  abbrev without_opens : List (Named OpenOrder)
  without_opens = changed_at (number - 1) (λ (its : Named OpenOrder). []) orders

  pub undos-rolled_back : IsTakingBack files (job_changed (number - 1) (λ j. with_opens rolled_back_open (without_cycle j)) jobs) orders (changed_at (number - 1) (λ ms. []) moves) members kept changes steps
  undos-rolled_back =
      subst (λ (us : List MemberChange). IsTakingBack files rolled orders without_moves members kept us steps) (sym own)
      (taking-rolled_back files members jobs orders moves kept number running steps indexed (given ∙ moves-at kept.paths jobs moves number running indexed.moves) fit stand)

  pub undos-ended : IsTakingBack files (job_changed (number - 1) ended_job jobs) (changed_at (number - 1) (λ its. []) orders) (changed_at (number - 1) (λ ms. []) moves) members kept changes steps
  undos-ended =
      subst (λ (us : List MemberChange). IsTakingBack files (job_changed (number - 1) ended_job jobs) without_opens without_moves members kept us steps) (sym own)
      (taking-ended files members jobs orders moves kept number running steps indexed (given ∙ moves-at kept.paths jobs moves number running indexed.moves) fit stand)

pub can-take_back : (files : Named FileState) (jobs : List JobState) (orders : List (Named OpenOrder)) (moves : List (List (List PathMove))) (members : NumberedMembers) (kept : KeptPaths)
    (left : List MemberChange) (steps : List (List PathMove)) → IsTakingBack files jobs orders moves members kept left steps → CanTakeBack members kept left steps
can-take_back files jobs orders moves members kept left steps is = record { files = files; jobs = jobs; orders = orders; moves = moves; is = is }
