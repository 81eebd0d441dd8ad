-- The members of an open: each is a member of a physical file that is there, and that of the record read last is one of them.
use Rattle.std.proofs.Common.{◌≡◌, ℕ, zero, suc, ◌+◌, ◌<◌, true, false, List, [], ◌∷◌, slice_get, Option, Some, None, is_some, unwrap_or, subst, refl, sym, ap}
use Rattle.std.specs.List.{AllByRecursion}
use Rattle.logical_laws.specs.Bases.{FileSpec, PhysicalFile, LogicalFile}
use Rattle.member_slots.specs.Members.{member_at}
use Rattle.library_model.specs.Named.{Named, named}
use Rattle.lawful_states.specs.State.{State, FileState, MemberStatus, OpenState, JobState, memory_of, fields_of, open_named}
use Rattle.lawful_states.specs.DeleteFile.{user_by}
use Rattle.lawful_states.specs.Reads.{at_format}
use Rattle.lawful_states.specs.Uses.{first_job, user_of_any}
use Rattle.lawful_states.specs.Lawful.{IsBased, IsLibrary, OpenHolds, OpensBy, OpensFile, OpensHold}
use Rattle.lawful_states.proofs.FileLemmas.{Owns-below}
use Rattle.lawful_states.proofs.FindLemmas.{IsMember, members-of-open, open-holds}
use Rattle.lawful_states.proofs.MemberLemmas.{IsThere-is_some}

-- ---- members that files have

pub member-there : (s : State) (number : ℕ) → IsMember s number → is_some (member_at number s.members) ≡ true
member-there s number its = IsThere-is_some (fields_of its.file) (member_at number s.members) its.has.there

-- the next one is none of them
pub member-below : (s : State) (number : ℕ) → IsLibrary s → IsMember s number → number < s.next_member
member-below s number lawful its = Owns-below s its.name its.file number lawful its.has.owns

-- ---- opens

-- the member is one of these
pub record IsAmong (members : List ℕ) (member : ℕ) : Type 0 where
  pub place : ℕ
  pub is : slice_get members place ≡ Some member

pub each-among : (P : ℕ → Type 0) (members : List ℕ) (member : ℕ) → AllByRecursion P members → IsAmong members member → P member
each-among P members member all among = by members among.place all among.is
  where
    by : (ms : List ℕ) (place : ℕ) → AllByRecursion P ms → slice_get ms place ≡ Some member → P member
    by [] place rest here = absurd cc
    by (first ∷ ms) zero rest here = let same : first ≡ member = cc in subst P same rest.0
    by (first ∷ ms) (suc place) rest here = by ms place rest.1 here

-- so it is at each format
pub among-format : (number : ℕ) (opened : OpenState) → IsAmong opened.members opened.member → IsAmong opened.members (at_format number opened).member
among-format number opened among = by (slice_get opened.members number) refl
  where
    by : (o : Option ℕ) → slice_get opened.members number ≡ o → IsAmong opened.members (unwrap_or o opened.member)
    by None is = among
    by (Some member) is = record { place = number; is = is }

among-open : (files : Named FileState) (opened : OpenState) → OpenHolds files opened → IsAmong opened.members opened.member
among-open files opened holds = by (named opened.file files) holds
  where
    kind : (members : Named MemberStatus) (spec : FileSpec) → OpensBy files opened members spec → IsAmong opened.members opened.member
    kind members (PhysicalFile spec) own = record { place = 0; is = ap (λ (ms : List ℕ). slice_get ms 0) own.only }
    kind members (LogicalFile spec) over = record { place = opened.format; is = over.read }

    by : (o : Option FileState) → OpensFile files opened o → IsAmong opened.members opened.member
    by None h = absurd h
    by (Some file) h = kind file.members file.spec h

pub record OpenStands (s : State) (opened : OpenState) : Type 0 where
  pub members : AllByRecursion (IsMember s) opened.members
  pub among : IsAmong opened.members opened.member

pub open-stands : (s : State) (opened : OpenState) → IsLibrary s → OpenHolds s.files opened → OpenStands s opened
open-stands s opened lawful holds = record { members = members-of-open s opened lawful holds; among = among-open s.files opened holds }

-- that of a name
pub opened-stands : (s : State) (job : ℕ) (name : List ℕ) (opened : OpenState) → IsLibrary s → open_named name job (memory_of s) ≡ Some opened → OpenStands s opened
opened-stands s job name opened lawful found = open-stands s opened lawful (open-holds s job name opened lawful found)

-- those of the job at a place
pub opens-at : (files : Named FileState) (jobs : List JobState) (place : ℕ) (job : JobState) → AllByRecursion (OpensHold files) jobs → slice_get jobs place ≡ Some job → OpensHold files job
opens-at files [] place job all here = absurd cc
opens-at files (first ∷ jobs) zero job all here = let same : first ≡ job = cc in subst (OpensHold files) same all.0
opens-at files (first ∷ jobs) (suc place) job all here = opens-at files jobs place job all.1 here

-- ---- a file that goes

-- nobody uses the members of a logical file, which has none
pub unused-members : (s : State) (name : List ℕ) (file : FileState) → IsLibrary s → named name s.files ≡ Some file → user_by file.spec name file (memory_of s) ≡ None
    → user_of_any file.members (memory_of s) ≡ None
unused-members s name file lawful there none = by file.spec refl none
  where
    none-used : (number : ℕ) (jobs : List JobState) → first_job (λ n job. false) number jobs ≡ None
    none-used number [] = refl
    none-used number (job ∷ jobs) = none-used (number + 1) jobs

    by : (spec : FileSpec) → file.spec ≡ spec → user_by spec name file (memory_of s) ≡ None → user_of_any file.members (memory_of s) ≡ None
    by (PhysicalFile spec) is h = h
    by (LogicalFile spec) is h =
        let based : IsBased s.files name file.members (LogicalFile spec) = subst (IsBased s.files name file.members) is (lawful.bases name file there) in
        subst (λ (members : Named MemberStatus). user_of_any members (memory_of s) ≡ None) (sym based.none) (none-used 1 s.jobs)
