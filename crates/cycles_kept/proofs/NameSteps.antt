-- No two files of a library have one name after whatever is done to it.
use Rattle.std.proofs.Common.{◌≡◌, ◌∙◌, ℕ, nat_le, nat_lt, length, true, false, cond, ◌||◌, List, [], ◌∷◌, ◌++◌, map, not, Some, is_some, refl, sym, ap, subst}
use Rattle.std.specs.List.{IsDistinct, list_any}
use Rattle.std.specs.Map.{keys_of}
use Rattle.std.proofs.lemmas.Cmp.{nat_list_eq_equiv}
use Rattle.std.proofs.lemmas.Map.Keys.{IsDistinct-push}
use Rattle.std.proofs.lemmas.Map.Made.{IsDistinct-keys_filter}
use Rattle.entry_codec.specs.declared.entries.Entry.{Entry}
use Rattle.library_model.specs.Named.{Named, named, same_name}
use Rattle.library_model.specs.SourceList.{text_of}
use Rattle.library_model.specs.declared.limits.TheConstants.{MOST_FILES, LAST_MEMBER}
use Rattle.library_model.specs.declared.replies.LimitKind.TheVariants.{Files, MemberNumbers}
use Rattle.library_model.specs.declared.replies.Reply.TheVariants.{LimitReached, NameExists}
use Rattle.library_model.specs.declared.requests.CreateLogicalFile.{CreateLogicalFile}
use Rattle.library_model.specs.declared.requests.CreatePhysicalFile.{CreatePhysicalFile}
use Rattle.library_model.specs.declared.requests.Request.{Request}
use Rattle.library_model.specs.declared.requests.Request.TheVariants as request
use Rattle.library_model.specs.declared.sources.NamedSource.{NamedSource}
use Rattle.library_steps.specs.State.{State, FileState, memory_of, file_named, job_of}
use Rattle.library_steps.specs.Change.{Change}
use Rattle.library_steps.specs.ChangeRecord.{delete_change, delete_plan, unlock_change, unlock_plan, update_change, update_plan}
use Rattle.library_steps.specs.Commitment.{changes_of}
use Rattle.library_steps.specs.CreateLogicalFile.{create_logical_change, create_logical_file, create_logical_plan, logical_file}
use Rattle.library_steps.specs.CreatePhysicalFile.{create_change, create_physical_file, create_plan, described, formats_of, new_file, spec_or_refused}
use Rattle.library_steps.specs.Reads.{position_change, read_change}
use Rattle.library_steps.specs.Refusals.{named_or_refused, refuse_if, sequences_left}
use Rattle.library_steps.specs.Step.{change}
use Rattle.library_steps.specs.WriteRecord.{write_call, write_change, write_plan}
use Rattle.cycles_kept.proofs.BoundarySteps.{taken_back-files}
use Rattle.cycles_kept.proofs.HoldLemmas.{Holds, bind-holds, does-holds, each-holds, effect-holds, if-not, then-holds, wider-holds}
use Rattle.cycles_kept.proofs.RecordSteps.{files-put}

-- the names stay apart where they were
pub record NamesStay (s : State) (c : Change) : Type 0 where
  pub names : IsDistinct same_name (keys_of s.files) → IsDistinct same_name (keys_of c.memory.files)

-- each file changed, under its name
keys-map : (change : List ℕ × FileState → FileState) (files : Named FileState) → keys_of (map (λ e. (e.0, change e)) files) ≡ keys_of files
keys-map change [] = refl
keys-map change (entry ∷ files) = ap (λ (names : List (List ℕ)). entry.0 ∷ names) (keys-map change files)

pub mapped-names : (s : State) (c : Change) (change : List ℕ × FileState → FileState) → c.memory.files ≡ map (λ e. (e.0, change e)) s.files → NamesStay s c
mapped-names s c change files = record { names = λ distinct. subst (IsDistinct same_name) (sym (ap keys_of files ∙ keys-map change s.files)) distinct }

same-names : (s : State) (c : Change) → c.memory.files ≡ s.files → NamesStay s c
same-names s c files = record { names = λ distinct. subst (λ (fs : Named FileState). IsDistinct same_name (keys_of fs)) (sym files) distinct }

-- ---- one file more

keys-append : (files : Named FileState) (name : List ℕ) (file : FileState) → keys_of (files ++ (name, file) ∷ []) ≡ keys_of files ++ name ∷ []
keys-append [] name file = refl
keys-append (entry ∷ files) name file = ap (λ (names : List (List ℕ)). entry.0 ∷ names) (keys-append files name file)

absent-key : (name : List ℕ) (files : Named FileState) → is_some (named name files) ≡ false → list_any (same_name name) (keys_of files) ≡ false
absent-key name [] absent = refl
absent-key name (entry ∷ files) absent =
    elim (same_name name entry.0) as (λ b. is_some (cond b (Some entry.1) (named name files)) ≡ false → (b || list_any (same_name name) (keys_of files)) ≡ false) [
      | true ↦ λ e. absurd cc
      | false ↦ λ e. absent-key name files e
    ] absent

new-name : (s : State) (sources : List NamedSource) (args : CreatePhysicalFile) → Holds (create_plan sources (memory_of s) args) (λ new. is_some (file_named args.file (memory_of s)) ≡ false)
unfolding create_plan
new-name s sources args =
    then-holds (sequences_left (memory_of s)) _ _ (λ few.
    bind-holds (refuse_if (is_some (file_named args.file (memory_of s))) (NameExists args.file)) (λ absent. is_some (file_named args.file (memory_of s)) ≡ false) _ _
    (if-not (is_some (file_named args.file (memory_of s))) (NameExists args.file)) (λ ok absent.
    then-holds (refuse_if (nat_le MOST_FILES (length s.files)) (LimitReached Files MOST_FILES)) _ _ (λ files.
    then-holds (refuse_if (nat_lt LAST_MEMBER s.next_member) (LimitReached MemberNumbers LAST_MEMBER)) _ _ (λ numbers.
    then-holds (named_or_refused args.source (text_of sources args.source)) _ _ (λ text.
    then-holds (spec_or_refused (described (formats_of (memory_of s)) text)) _ _ (λ spec. record { holds = absent }))))))

create-names : (s : State) (sources : List NamedSource) (job timestamp : ℕ) (args : CreatePhysicalFile) → Holds (create_physical_file sources (memory_of s) job timestamp args) (NamesStay s)
create-names s sources job timestamp args =
    does-holds (create_change (memory_of s) job timestamp args) (create_plan sources (memory_of s) args) (NamesStay s)
    (wider-holds (create_plan sources (memory_of s) args) (λ new. is_some (file_named args.file (memory_of s)) ≡ false) _
    (λ new absent. record {
      names = λ distinct. subst (IsDistinct same_name) (sym (keys-append s.files args.file (new_file args.file s.next_member new)))
          (IsDistinct-push nat_list_eq_equiv (keys_of s.files) args.file distinct (absent-key args.file s.files absent));
    })
    (new-name s sources args))

-- CRTLF
new-logical : (s : State) (sources : List NamedSource) (args : CreateLogicalFile) → Holds (create_logical_plan sources (memory_of s) args) (λ new. is_some (file_named args.file (memory_of s)) ≡ false)
unfolding create_logical_plan
new-logical s sources args =
    then-holds (sequences_left (memory_of s)) _ _ (λ few.
    bind-holds (refuse_if (is_some (file_named args.file (memory_of s))) (NameExists args.file)) (λ absent. is_some (file_named args.file (memory_of s)) ≡ false) _ _
    (if-not (is_some (file_named args.file (memory_of s))) (NameExists args.file)) (λ ok absent.
    each-holds _ _ (λ new. absent)))

create_logical-names : (s : State) (sources : List NamedSource) (job timestamp : ℕ) (args : CreateLogicalFile) → Holds (create_logical_file sources (memory_of s) job timestamp args) (NamesStay s)
create_logical-names s sources job timestamp args =
    does-holds (create_logical_change (memory_of s) job timestamp args) (create_logical_plan sources (memory_of s) args) (NamesStay s)
    (wider-holds (create_logical_plan sources (memory_of s) args) (λ new. is_some (file_named args.file (memory_of s)) ≡ false) _
    (λ new absent. record {
      names = λ distinct. subst (IsDistinct same_name) (sym (keys-append s.files args.file (logical_file new)))
          (IsDistinct-push nat_list_eq_equiv (keys_of s.files) args.file distinct (absent-key args.file s.files absent));
    })
    (new-logical s sources args))

-- ---- each request

module _ (s : State) (sources : List NamedSource) (job timestamp : ℕ) (read : List Entry) where
  pub change-names : (r : Request) → Holds (change sources read (memory_of s) job timestamp r) (NamesStay s)
  unfolding change
  change-names (request.CreatePhysicalFile args) = create-names s sources job timestamp args
  change-names (request.CreateLogicalFile args) = create_logical-names s sources job timestamp args
  change-names (request.DeleteFile args) =
      effect-holds _ _ (NamesStay s) (λ file. record { names = λ distinct. IsDistinct-keys_filter same_name (λ entry. not (same_name args.file entry.0)) s.files distinct })
  change-names (request.AddMember args) = effect-holds _ _ (NamesStay s) (λ file. mapped-names s _ _ refl)
  change-names (request.ClearMember args) = effect-holds _ _ (NamesStay s) (λ status. mapped-names s _ _ refl)
  change-names (request.ReorganizeMember args) = effect-holds _ _ (NamesStay s) (λ status. mapped-names s _ _ refl)
  change-names (request.StartJournaling args) = effect-holds _ _ (NamesStay s) (λ status. mapped-names s _ _ refl)
  change-names (request.EndJournaling args) = effect-holds _ _ (NamesStay s) (λ status. mapped-names s _ _ refl)
  change-names request.ChangeJournal = effect-holds _ _ (NamesStay s) (λ number. same-names s _ refl)
  change-names (request.DeleteReceiver args) = effect-holds _ _ (NamesStay s) (λ last. same-names s _ refl)
  change-names request.Checkpoint = effect-holds _ _ (NamesStay s) (λ sequence. same-names s _ refl)
  change-names (request.DisplayJournal args) = effect-holds _ _ (NamesStay s) (λ shown. same-names s _ refl)
  change-names (request.ApplyChanges args) = effect-holds _ _ (NamesStay s) (λ work. same-names s _ refl)
  change-names (request.RemoveChanges args) = effect-holds _ _ (NamesStay s) (λ work. same-names s _ refl)
  change-names (request.StartCommitment args) = effect-holds _ _ (NamesStay s) (λ started. same-names s _ refl)
  change-names request.EndCommitment = effect-holds _ _ (NamesStay s) (λ ended. same-names s _ refl)
  change-names request.Commit = effect-holds _ _ (NamesStay s) (λ level. same-names s _ refl)
  change-names request.Rollback = effect-holds _ _ (NamesStay s) (λ level. same-names s _ (taken_back-files (changes_of (job_of job (memory_of s)).cycle) (memory_of s)))
  change-names (request.OpenFile args) = effect-holds _ _ (NamesStay s) (λ status. same-names s _ refl)
  change-names (request.CloseFile args) = effect-holds _ _ (NamesStay s) (λ opened. same-names s _ refl)
  change-names (request.SetLowerLimit args) = effect-holds (position_change (memory_of s) job) _ (NamesStay s) (λ new. same-names s _ refl)
  change-names (request.SetGreaterThan args) = effect-holds (position_change (memory_of s) job) _ (NamesStay s) (λ new. same-names s _ refl)
  change-names (request.Read args) = effect-holds (read_change (memory_of s) job) _ (NamesStay s) (λ it. same-names s _ refl)
  change-names (request.ReadPrior args) = effect-holds (read_change (memory_of s) job) _ (NamesStay s) (λ it. same-names s _ refl)
  change-names (request.ReadEqual args) = effect-holds (read_change (memory_of s) job) _ (NamesStay s) (λ it. same-names s _ refl)
  change-names (request.ReadPriorEqual args) = effect-holds (read_change (memory_of s) job) _ (NamesStay s) (λ it. same-names s _ refl)
  change-names (request.Chain args) = effect-holds (read_change (memory_of s) job) _ (NamesStay s) (λ it. same-names s _ refl)
  change-names (request.Write args) =
      effect-holds (write_change (memory_of s) job timestamp (write_call args.record_number)) (write_plan (memory_of s) job args) (NamesStay s)
      (λ new. mapped-names s _ _ (files-put s job timestamp new))
  change-names (request.Update args) =
      effect-holds (update_change (memory_of s) job timestamp) (update_plan (memory_of s) job args) (NamesStay s) (λ new. mapped-names s _ _ (files-put s job timestamp new))
  change-names (request.Delete args) =
      effect-holds (delete_change (memory_of s) job timestamp) (delete_plan (memory_of s) job args) (NamesStay s) (λ new. mapped-names s _ _ (files-put s job timestamp new))
  change-names (request.Unlock args) = effect-holds (unlock_change (memory_of s) job) (unlock_plan (memory_of s) job args) (NamesStay s) (λ it. same-names s _ refl)
  change-names (request.EndJob args) = record { holds = same-names s _ (taken_back-files (changes_of (job_of job (memory_of s)).cycle) (memory_of s)) }
