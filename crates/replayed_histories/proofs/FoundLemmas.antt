-- The member that a request names: its number finds its status, and no job uses it.
use Rattle.std.proofs.Common.{◌≡◌, ℕ, ◌==◌, Bool, true, false, cond, nat_eq, List, [], ◌∷◌, Option, Some, None, Ok, refl, ap, ◌∙◌, subst, arith}
use Rattle.std.specs.List.{AllByRecursion, IsDistinct, find}
use Rattle.std.specs.Map.{keys_of}
use Rattle.std.specs.Option.{is_none, is_some, option_map}
use Rattle.std.proofs.lemmas.Bool.{eq-eqb}
use Rattle.std.proofs.lemmas.Bool.Decides.{nat_tests}
use Rattle.entry_codec.specs.declared.kinds.Images.{Images}
use Rattle.member_slots.specs.Members.{member_at}
use Rattle.lawful_states.specs.Owners.{AreApart, Owns, numbers_of}
use Rattle.lawful_states.proofs.OwnerLemmas.{owner-status}
use Rattle.library_model.specs.Named.{Named, named, same_name}
use Rattle.library_model.specs.declared.requests.FileMember.{FileMember}
use Rattle.library_model.specs.declared.replies.Reply.TheVariants.{NotJournaled}
use Rattle.library_steps.specs.State.{FileState, MemberStatus, State, fields_of, memory_of}
use Rattle.library_steps.specs.Refusals.{FoundMember, member_of_file, refuse_if, sequences_left}
use Rattle.library_steps.specs.Uses.{unused, user_of}
use Rattle.library_steps.specs.SlotChange.{status_among, status_in}
use Rattle.library_steps.specs.MemberCommands.{empty_plan}
use Rattle.library_steps.specs.Journaling.{end_plan}
use Rattle.lawful_states.specs.Members.{HasMember}
use Rattle.lawful_states.proofs.MemberLemmas.{IsThere-is_some}
use Rattle.joint_state.specs.Sound.{IsSound}
use Rattle.restart_laws.proofs.PlanLemmas.{member-is, named-member}
use Rattle.restart_laws.proofs.ResultLemmas.{bind-ok, none-refused, not-refused, ok-equal}

-- ---- the status that two names find is the one that the number finds

named-among : (P : ℕ → Type 0) (name : List ℕ) (members : Named MemberStatus) (status : MemberStatus) → AllByRecursion P (numbers_of members) → named name members ≡ Some status → P status.number
named-among P name [] status all h = absurd cc
named-among P name (entry ∷ members) status all h =
    elim (same_name name entry.0) as (λ b. cond b (Some entry.1) (named name members) ≡ Some status → P status.number) [
      | true ↦ λ e. let same : entry.1 ≡ status = cc in subst (λ (s : MemberStatus). P s.number) same all.0
      | false ↦ λ e. named-among P name members status all.1 e
    ] h

status_in-cons : (number : ℕ) (entry : List ℕ × MemberStatus) (members : Named MemberStatus)
    → status_in number (entry ∷ members) ≡ cond (entry.1.number == number) (Some entry.1) (status_in number members)
status_in-cons number entry members =
    elim (entry.1.number == number) as (λ b. option_map (λ (e : List ℕ × MemberStatus). e.1) (cond b (Some entry) (find (λ (e : List ℕ × MemberStatus). e.1.number == number) members))
    ≡ cond b (Some entry.1) (status_in number members)) [ true ↦ refl | false ↦ refl ]

status_in-named : (name : List ℕ) (members : Named MemberStatus) (status : MemberStatus) → IsDistinct nat_eq (numbers_of members) → named name members ≡ Some status
    → status_in status.number members ≡ Some status
unfolding IsDistinct
status_in-named name [] status distinct h = absurd cc
status_in-named name (entry ∷ members) status distinct h =
    status_in-cons status.number entry members
    ∙ elim (same_name name entry.0) as (λ b. cond b (Some entry.1) (named name members) ≡ Some status → cond (entry.1.number == status.number) (Some entry.1)
    (status_in status.number members) ≡ Some status) [
      | true ↦ λ e.
          let same : entry.1 ≡ status = cc in
          ap (λ (b : Bool). cond b (Some entry.1) (status_in status.number members)) (eq-eqb entry.1.number status.number (ap (λ (s : MemberStatus). s.number) same)) ∙ e
      | false ↦ λ e.
          let differs : nat_eq entry.1.number status.number ≡ false = named-among (λ k. nat_eq entry.1.number k ≡ false) name members status distinct.0 e in
          let other : (entry.1.number == status.number) ≡ false = grind (arith, nat_tests) in
          ap (λ (b : Bool). cond b (Some entry.1) (status_in status.number members)) other ∙ status_in-named name members status distinct.1 e
    ] h

status-found : (files : Named FileState) (file_name member_name : List ℕ) (file : FileState) (status : MemberStatus) → IsDistinct same_name (keys_of files) → AreApart files
    → Owns files file_name file status.number → named member_name file.members ≡ Some status → status_among status.number files ≡ Some status
status-found files file_name member_name file status names apart owns has =
    (owner-status status.number file_name file files names owns (λ other another o. apart.apart file_name other file another status.number owns o)).0
    ∙ status_in-named member_name file.members status (apart.within file_name file owns.there) has

-- ---- what the plans have found

pub record IsFound (s : State) (status : MemberStatus) : Type 0 where
  pub name : List ℕ
  pub file : FileState
  pub has : HasMember s name file status.number
  pub among : status_among status.number s.files ≡ Some status
  pub there : is_some (member_at status.number s.members) ≡ true
  pub free : user_of status.number (memory_of s) ≡ None

found-named : (s : State) → IsSound s → (file member : List ℕ) (it : FoundMember) → member_of_file file member (memory_of s) ≡ Ok it → user_of it.status.number (memory_of s) ≡ None
    → IsFound s it.status
found-named s sound file member it h free =
    let names = member-is file member (memory_of s) it h in
    let has = named-member s file member it sound h in
    record {
      name = file;
      file = it.file;
      has = has;
      among = status-found s.files file member it.file it.status sound.names sound.apart has.owns names.1;
      there = IsThere-is_some (fields_of it.file) (member_at it.status.number s.members) has.there;
      free = free;
    }

module _ (s : State) (sound : IsSound s) (args : FileMember) (status : MemberStatus) where
  pub empty-found : empty_plan (memory_of s) args ≡ Ok status → IsFound s status
  unfolding empty_plan
  empty-found h =
      let m = memory_of s in
      let left = bind-ok (sequences_left m) _ status h in
      let it = bind-ok (member_of_file args.file args.member m) _ status left.2 in
      let free = bind-ok (unused (user_of it.0.status.number m)) _ status it.2 in
      subst (IsFound s) (ok-equal it.0.status status free.2)
      (found-named s sound args.file args.member it.0 it.1 (none-refused _ (user_of it.0.status.number m) free.0 free.1))

  some-of : (o : Option Images) → is_none o ≡ false → is_some o ≡ true
  some-of None h = absurd cc
  some-of (Some images) h = refl

  pub end-found : end_plan (memory_of s) args ≡ Ok status → IsFound s status × (is_some status.images ≡ true)
  unfolding end_plan
  end-found h =
      let m = memory_of s in
      let left = bind-ok (sequences_left m) _ status h in
      let it = bind-ok (member_of_file args.file args.member m) _ status left.2 in
      let free = bind-ok (unused (user_of it.0.status.number m)) _ status it.2 in
      let on = bind-ok (refuse_if (is_none it.0.status.images) (NotJournaled it.0.status.number)) _ status free.2 in
      subst (λ (st : MemberStatus). IsFound s st × (is_some st.images ≡ true)) (ok-equal it.0.status status on.2) (
        found-named s sound args.file args.member it.0 it.1 (none-refused _ (user_of it.0.status.number m) free.0 free.1),
        some-of it.0.status.images (not-refused (is_none it.0.status.images) _ on.0 on.1),
      )
