-- Whatever request is done, no two members have one number, each file has a record format, and a member keeps its fields.
use Rattle.std.proofs.Common.{◌≡◌, ◌⊎◌, inl, inr, ℕ, length, nat_le, nat_lt, ◌<◌, ◌==◌, ◌||◌, nat_eq, cond, map, Bool, true, false, if◌then◌else◌, Option, Some, None, is_some, IsSome, Result, Ok, Err, List, [], ◌∷◌, ◌++◌, refl, sym, ◌∙◌, ap, subst, arith}
use Rattle.std.proofs.lemmas.Bool.{eqb-true, cases_lt}
use Rattle.std.proofs.lemmas.Bool.Decides.{nat_tests}
use Rattle.std.specs.List.{IsDistinct, list_any}
use Rattle.std.specs.Option.{option_map, option_and_then}
use Rattle.dds_source.specs.declared.faults.DdsFault.{DdsFault}
use Rattle.dds_source.specs.declared.specifications.Source.{Source}
use Rattle.dds_source.specs.Reading.{source_of}
use Rattle.library_steps.below.dds_physical.specs.declared.physical_files.PhysicalSpec.{PhysicalSpec}
use Rattle.library_steps.below.dds_logical.specs.declared.views.LogicalSpec.{LogicalSpec}
use Rattle.library_steps.specs.Bases.{FileSpec, PhysicalFile, LogicalFile, base_members, base_names}
use Rattle.library_steps.specs.FilePaths.{logical_paths}
use Rattle.joint_state.specs.Mapped.{HoldDefaults}
use Rattle.joint_state.proofs.MappedLemmas.{described-mapped, described-there}
use Rattle.lawful_states.specs.Owners.{Owns, AreApart, has_number, numbers_of}
use Rattle.lawful_states.specs.Statuses.{after as status_after}
use Rattle.lawful_states.specs.declared.changes.StatusChange.{StatusChange}
use Rattle.lawful_states.proofs.ChangeLemmas.{changed-from, named-each_changed, named-file_changed}
use Rattle.lawful_states.proofs.NameLemmas.{named-append, named-without, same_name-equal}
use Rattle.lawful_states.proofs.StatusLemmas.{after-number, changed_in-numbers, distinct-push, has_number-changed_in, has_number-push}
use Rattle.record_fmt.specs.Layout.{IsLaidOut}
use Rattle.record_fmt.specs.declared.formats.Format.{Format}
use Rattle.library_model.specs.declared.replies.Reply.TheVariants.{NameExists, LimitReached, NotJournaled, DuplicateKey}
use Rattle.library_model.specs.declared.replies.LimitKind.TheVariants.{Files, MemberNumbers, Paths}
use Rattle.library_model.specs.declared.limits.TheConstants.{MOST_FILES, LAST_MEMBER}
use Rattle.library_model.specs.declared.requests.CreateLogicalFile.{CreateLogicalFile}
use Rattle.library_model.specs.declared.requests.CreatePhysicalFile.{CreatePhysicalFile}
use Rattle.library_model.specs.declared.sources.NamedSource.{NamedSource}
use Rattle.library_model.specs.SourceList.{text_of}
use Rattle.library_model.specs.Named.{Named, named, same_name}
use Rattle.library_steps.specs.declared.limits.TheConstants.{MOST_PATHS}
use Rattle.library_steps.specs.CreateLogicalFile.{NewLogical, create_logical_plan, first_repeated, first_undone, has_many, is_unique, logical_by, logical_described, logical_file, logical_or_refused}
use Rattle.library_steps.specs.CreatePhysicalFile.{NewFile, create_plan, described, described_by, formats_of, new_file, new_status, spec_or_refused}
use Rattle.library_steps.specs.DeleteFile.{first_dependent, without_file}
use Rattle.library_steps.specs.LogicalFiles.{base_in, bases_in, bases_of}
use Rattle.library_steps.specs.MemberCommands.{file_changed, with_member_name}
use Rattle.library_steps.specs.Refusals.{named_or_refused, refuse_if, refuse_with, sequences_left}
use Rattle.library_steps.specs.State.{State, Memory, FileState, file_named, physical_among, physical_in, physical_spec, if_physical, format_in, status_changed, fields_of}
use Rattle.library_steps.specs.Uses.{changer_of_any, unused}
use Rattle.lawful_states.specs.Lawful.{StandsOver}
use Rattle.lawful_states.proofs.BaseLemmas.{Keeps-status, bases-stay, kept-each, kept-more, kept-wider, physical-described, some-of}
use Rattle.lawful_states.proofs.DeleteLemmas.{free-independent}
use Rattle.lawful_states.proofs.FileLemmas.{Owns-below, distinct-one}
use Rattle.joint_state.specs.Limits.{AreFormats}
use Rattle.joint_state.specs.Sound.{IsSound}
use Rattle.joint_state.specs.Views.{AreMapped, HaveDefaults, IsMapped, IsView}
use Rattle.library_kept.proofs.DefaultLemmas.{physical-defaults}
use Rattle.library_kept.proofs.FieldLemmas.{physical-laid}
use Rattle.library_kept.proofs.ListLemmas.{each-weaker}
use Rattle.library_kept.proofs.ResultLemmas.{ok-equal, bind-ok}
use Rattle.joint_state.proofs.SomeLemmas.{logical-some}
use Rattle.library_kept.proofs.ViewLemmas.{mapped-kept, mapped-without, view-stays}

-- a member that a file had before, with records of the same fields
pub record Had (files : Named FileState) (name : List ℕ) (file : FileState) (number : ℕ) : Type 0 where
  pub before : FileState
  pub owned : Owns files name before number
  pub fields : fields_of before ≡ fields_of file

-- the files after a request, from those before it
pub record KeepsFiles (s : State) (files : Named FileState) : Type 0 where
  pub apart : AreApart files
  pub formats : AreFormats files
  pub views : AreMapped files
  pub defaults : HaveDefaults files
  -- members that were there before are those of the same files
  pub owners : (name : List ℕ) (file : FileState) (number : ℕ) → Owns files name file number → number < s.next_member → Had s.files name file number

pub keeps-same : (s : State) → IsSound s → KeepsFiles s s.files
keeps-same s sound = record {
  apart = sound.apart;
  formats = sound.formats;
  views = sound.views;
  defaults = sound.defaults;
  owners = λ name file number owns below. record { before = file; owned = owns; fields = refl };
}

-- ---- the status of a member changed

module _ (s : State) (sound : IsSound s) (number : ℕ) (change : StatusChange) where
  abbrev each : FileState → FileState
  each = status_changed number (status_after change)

  abbrev files : Named FileState
  files = map (λ entry. (entry.0, each entry.1)) s.files

  was : (name : List ℕ) (file : FileState) → named name files ≡ Some file → (before : FileState) × (named name s.files ≡ Some before) × (each before ≡ file)
  was name file there = changed-from each (named name s.files) file (sym (named-each_changed name each s.files) ∙ there)

  had : (name : List ℕ) (file : FileState) (other : ℕ) → Owns files name file other → Had s.files name file other
  had name file other owns = let it = was name file owns.there in record {
    before = it.0;
    owned = record {
      there = it.1;
      has = sym (has_number-changed_in other number (status_after change) it.0.members (after-number change)) ∙ ap (λ (f : FileState). has_number other f.members) it.2 ∙ owns.has;
    };
    fields = ap (λ (f : FileState). fields_of f) it.2;
  }

  pub keeps-status : KeepsFiles s files
  keeps-status = record {
    apart = record {
      apart = λ name other file another n one two. let a = had name file n one in let b = had other another n two in sound.apart.apart name other a.before b.before n a.owned b.owned;
      within = λ name file there. let it = was name file there in
          subst (λ (ns : List ℕ). IsDistinct nat_eq ns) (sym (changed_in-numbers number (status_after change) it.0.members (after-number change)) ∙ ap (λ (f : FileState). numbers_of f.members) it.2)
          (sound.apart.within name it.0 it.1);
    };
    formats = λ name file there. let it = was name file there in subst (λ (f : FileState). IsLaidOut (fields_of f)) it.2 (sound.formats name it.0 it.1);
    views = λ name file there. let it = was name file there in
        subst (λ (f : FileState). IsMapped files f.spec) it.2
        (mapped-kept s.files files sound.library.bases (kept-each each (Keeps-status number (status_after change) (after-number change)) s.files) name it.0 it.1 (sound.views name it.0 it.1));
    defaults = λ name file there. let it = was name file there in subst (λ (f : FileState). HoldDefaults (fields_of f)) it.2 (sound.defaults name it.0 it.1);
    owners = λ name file n owns below. had name file n owns;
  }

-- ---- a file less

module _ (s : State) (sound : IsSound s) (gone : List ℕ) (alone : first_dependent gone s.files ≡ None) where
  still : (name : List ℕ) (file : FileState) (number : ℕ) → Owns (without_file gone s.files) name file number → Owns s.files name file number
  still name file number owns = record { there = (named-without gone name s.files file owns.there).0; has = owns.has }

  pub keeps-fewer : KeepsFiles s (without_file gone s.files)
  keeps-fewer = record {
    apart = record {
      apart = λ name other file another n one two. sound.apart.apart name other file another n (still name file n one) (still other another n two);
      within = λ name file there. sound.apart.within name file (named-without gone name s.files file there).0;
    };
    formats = λ name file there. sound.formats name file (named-without gone name s.files file there).0;
    views = λ name file there. let here = (named-without gone name s.files file there).0 in
        mapped-without s.files gone sound.library.bases (free-independent gone s.files alone) name file here (sound.views name file here);
    defaults = λ name file there. sound.defaults name file (named-without gone name s.files file there).0;
    owners = λ name file n owns below. record { before = file; owned = still name file n owns; fields = refl };
  }

-- ---- a file more

-- a new member has no other number than the next
new-number : (number next : ℕ) (name : List ℕ) → has_number number ((name, new_status next) ∷ []) ≡ true → next ≡ number
new-number number next name has = grind (arith, nat_tests, has)

module _ (s : State) (sound : IsSound s) (new : List ℕ) (plan : NewFile) (laid : IsLaidOut plan.spec.format.fields) (defaults : HoldDefaults plan.spec.format.fields) where
  abbrev made : FileState
  made = new_file new s.next_member plan

  abbrev more : Named FileState
  more = s.files ++ (new, made) ∷ []

  -- it is a file that was there, or the new one
  abbrev Either : List ℕ → FileState → Type 0
  Either name file = (named name s.files ≡ Some file) ⊎ ((name ≡ new) × (made ≡ file))

  one-of : (name : List ℕ) (file : FileState) → named name more ≡ Some file → Either name file
  one-of name file there = named-append name new s.files made file there

  its-number : (file : FileState) (number : ℕ) → made ≡ file → has_number number file.members ≡ true → s.next_member ≡ number
  its-number file number same has = new-number number s.next_member new (ap (λ (f : FileState). has_number number f.members) same ∙ has)

  below : (name : List ℕ) (file : FileState) (number : ℕ) → named name s.files ≡ Some file → has_number number file.members ≡ true → number < s.next_member
  below name file number there has = Owns-below s name file number sound.library (record { there = there; has = has })

  apart-by : (name other : List ℕ) (file another : FileState) (number : ℕ) → Either name file → Either other another
      → has_number number file.members ≡ true → has_number number another.members ≡ true → name ≡ other
  apart-by name other file another number (inl a) (inl b) has also = sound.apart.apart name other file another number (record { there = a; has = has }) (record { there = b; has = also })
  apart-by name other file another number (inl a) (inr b) has also = let low = below name file number a has in let next = its-number another number b.1 also in absurd (omega (arith, low, next))
  apart-by name other file another number (inr a) (inl b) has also = let low = below other another number b also in let next = its-number file number a.1 has in absurd (omega (arith, low, next))
  apart-by name other file another number (inr a) (inr b) has also = a.0 ∙ sym b.0

  within-by : (name : List ℕ) (file : FileState) → Either name file → IsDistinct nat_eq (numbers_of file.members)
  within-by name file (inl a) = sound.apart.within name file a
  within-by name file (inr a) = subst (λ (f : FileState). IsDistinct nat_eq (numbers_of f.members)) a.1 (distinct-one s.next_member)

  formats-by : (name : List ℕ) (file : FileState) → Either name file → IsLaidOut (fields_of file)
  formats-by name file (inl a) = sound.formats name file a
  formats-by name file (inr a) = subst (λ (f : FileState). IsLaidOut (fields_of f)) a.1 laid

  views-by : (name : List ℕ) (file : FileState) → Either name file → IsMapped more file.spec
  views-by name file (inl a) = mapped-kept s.files more sound.library.bases (kept-more s.files (new, made)) name file a (sound.views name file a)
  views-by name file (inr a) = subst (λ (f : FileState). IsMapped more f.spec) a.1 tt

  defaults-by : (name : List ℕ) (file : FileState) → Either name file → HoldDefaults (fields_of file)
  defaults-by name file (inl a) = sound.defaults name file a
  defaults-by name file (inr a) = subst (λ (f : FileState). HoldDefaults (fields_of f)) a.1 defaults

  owner-by : (name : List ℕ) (file : FileState) (number : ℕ) → Either name file → has_number number file.members ≡ true → number < s.next_member → Had s.files name file number
  owner-by name file number (inl a) has low = record { before = file; owned = record { there = a; has = has }; fields = refl }
  owner-by name file number (inr a) has low = let next = its-number file number a.1 has in absurd (omega (arith, low, next))

  pub keeps-more : KeepsFiles s more
  keeps-more = record {
    apart = record {
      apart = λ name other file another n one two. apart-by name other file another n (one-of name file one.there) (one-of other another two.there) one.has two.has;
      within = λ name file there. within-by name file (one-of name file there);
    };
    formats = λ name file there. formats-by name file (one-of name file there);
    views = λ name file there. views-by name file (one-of name file there);
    defaults = λ name file there. defaults-by name file (one-of name file there);
    owners = λ name file n owns low. owner-by name file n (one-of name file owns.there) owns.has low;
  }

-- ---- a logical file more

distinct-none : IsDistinct nat_eq []
unfolding IsDistinct
distinct-none = tt

module _ (s : State) (sound : IsSound s) (new : List ℕ) (plan : NewLogical) (over : StandsOver s.files [] plan.spec) (view : IsView (bases_in s.files) plan.spec) where
  abbrev with_view : Named FileState
  with_view = s.files ++ (new, logical_file plan) ∷ []

  -- it is a file that was there, or the new one
  abbrev One : List ℕ → FileState → Type 0
  One name file = (named name s.files ≡ Some file) ⊎ ((name ≡ new) × (logical_file plan ≡ file))

  which : (name : List ℕ) (file : FileState) → named name with_view ≡ Some file → One name file
  which name file there = named-append name new s.files (logical_file plan) file there

  -- the new one has no member
  no-member : (file : FileState) (number : ℕ) → logical_file plan ≡ file → has_number number file.members ≡ true → ⊥
  no-member file number same has = let none : has_number number [] ≡ true = ap (λ (f : FileState). has_number number f.members) same ∙ has in absurd cc

  was-there : (name : List ℕ) (file : FileState) (number : ℕ) → One name file → has_number number file.members ≡ true → Owns s.files name file number
  was-there name file number (inl a) has = record { there = a; has = has }
  was-there name file number (inr a) has = absurd (no-member file number a.1 has)

  within-one : (name : List ℕ) (file : FileState) → One name file → IsDistinct nat_eq (numbers_of file.members)
  within-one name file (inl a) = sound.apart.within name file a
  within-one name file (inr a) = subst (λ (f : FileState). IsDistinct nat_eq (numbers_of f.members)) a.1 distinct-none

  formats-one : (name : List ℕ) (file : FileState) → One name file → IsLaidOut (fields_of file)
  formats-one name file (inl a) = sound.formats name file a
  formats-one name file (inr a) = subst (λ (f : FileState). IsLaidOut (fields_of f)) a.1 (record { few = omega arith; narrow = omega arith; lies = refl })

  views-one : (name : List ℕ) (file : FileState) → One name file → IsMapped with_view file.spec
  views-one name file (inl a) = mapped-kept s.files with_view sound.library.bases (kept-more s.files (new, logical_file plan)) name file a (sound.views name file a)
  views-one name file (inr a) =
      subst (λ (f : FileState). IsMapped with_view f.spec) a.1
      (view-stays s.files with_view plan.spec (bases-stay s.files with_view sound.library.bases (kept-more s.files (new, logical_file plan)) (base_names plan.spec) over.bases) view)

  defaults-one : (name : List ℕ) (file : FileState) → One name file → HoldDefaults (fields_of file)
  defaults-one name file (inl a) = sound.defaults name file a
  defaults-one name file (inr a) = subst (λ (f : FileState). HoldDefaults (fields_of f)) a.1 tt

  pub keeps-view : KeepsFiles s with_view
  keeps-view = record {
    apart = record {
      apart = λ name other file another n one two.
          sound.apart.apart name other file another n (was-there name file n (which name file one.there) one.has) (was-there other another n (which other another two.there) two.has);
      within = λ name file there. within-one name file (which name file there);
    };
    formats = λ name file there. formats-one name file (which name file there);
    views = λ name file there. views-one name file (which name file there);
    defaults = λ name file there. defaults-one name file (which name file there);
    owners = λ name file n owns low. record { before = file; owned = was-there name file n (which name file owns.there) owns.has; fields = refl };
  }

-- ---- a member more

module _ (s : State) (sound : IsSound s) (its : List ℕ) (member : List ℕ) (grown : FileState) (physical : physical_among its s.files ≡ Some grown) where
  abbrev wider : FileState → FileState
  wider = with_member_name member s.next_member

  abbrev widened : Named FileState
  widened = file_changed its wider s.files

  -- it is a file that was there, or the one with the new member
  abbrev Other : List ℕ → FileState → Type 0
  Other name file = (named name s.files ≡ Some file) ⊎ ((name ≡ its) × (before : FileState) × (named name s.files ≡ Some before) × (wider before ≡ file))

  other-of : (name : List ℕ) (file : FileState) → named name widened ≡ Some file → Other name file
  other-of name file there =
      elim (same_name its name) as (λ b. same_name its name ≡ b → cond b (option_map wider (named name s.files)) (named name s.files) ≡ Some file → Other name file) [
        | true ↦ λ same e. (let it = changed-from wider (named name s.files) file e in inr (sym (same_name-equal its name same), it.0, it.1, it.2))
        | false ↦ λ differ e. inl e
      ] refl (sym (named-file_changed its name wider s.files) ∙ there)

  low : (name : List ℕ) (file : FileState) (number : ℕ) → named name s.files ≡ Some file → has_number number file.members ≡ true → number < s.next_member
  low name file number there has = Owns-below s name file number sound.library (record { there = there; has = has })

  -- a number of the widened file is one that it had, or the next
  number-of : (file before : FileState) (number : ℕ) → wider before ≡ file → has_number number file.members ≡ true → (has_number number before.members ≡ true) ⊎ (s.next_member ≡ number)
  number-of file before number same has =
      by (has_number number before.members) refl (sym (has_number-push number before.members member s.next_member) ∙ ap (λ (f : FileState). has_number number f.members) same ∙ has)
    where
      by : (b : Bool) → has_number number before.members ≡ b → (b || (s.next_member == number)) ≡ true → (has_number number before.members ≡ true) ⊎ (s.next_member ≡ number)
      by true is e = inl is
      by false is e = inr (eqb-true s.next_member number e)

  -- a member below the next is one that was there, of the same name and the same fields
  owner-of : (name : List ℕ) (file : FileState) (number : ℕ) → Other name file → has_number number file.members ≡ true → number < s.next_member → Had s.files name file number
  owner-of name file number (inl a) has less = record { before = file; owned = record { there = a; has = has }; fields = refl }
  owner-of name file number (inr a) has less =
      elim (number-of file a.1 number a.3 has) [
        | inl had ↦ record { before = a.1; owned = record { there = a.2; has = had }; fields = ap (λ (f : FileState). fields_of f) a.3 }
        | inr next ↦ absurd (omega (arith, next, less))
      ]

  -- the next member is of the widened file
  next-of : (name : List ℕ) (file : FileState) (number : ℕ) → Other name file → has_number number file.members ≡ true → (number < s.next_member → ⊥) → name ≡ its
  next-of name file number (inl a) has none = absurd (none (low name file number a has))
  next-of name file number (inr a) has none = a.0

  apart-of : (name other : List ℕ) (file another : FileState) (number : ℕ) → Other name file → Other other another
      → has_number number file.members ≡ true → has_number number another.members ≡ true → name ≡ other
  apart-of name other file another number one two has also =
      elim (cases_lt number s.next_member) [
        | inl less ↦ (
            let a = owner-of name file number one has less in
            let b = owner-of other another number two also less in
            sound.apart.apart name other a.before b.before number a.owned b.owned)
        | inr more ↦ next-of name file number one has (λ less. absurd (omega (arith, less, more))) ∙ sym (next-of other another number two also (λ less. absurd (omega (arith, less, more))))
      ]

  lacks : (name : List ℕ) (file : FileState) → named name s.files ≡ Some file → has_number s.next_member file.members ≡ false
  lacks name file there = by (has_number s.next_member file.members) refl
    where
      by : (b : Bool) → has_number s.next_member file.members ≡ b → has_number s.next_member file.members ≡ false
      by true has = let less = low name file s.next_member there has in absurd (omega (arith, less))
      by false has = has

  within-of : (name : List ℕ) (file : FileState) → Other name file → IsDistinct nat_eq (numbers_of file.members)
  within-of name file (inl a) = sound.apart.within name file a
  within-of name file (inr a) =
      subst (λ (f : FileState). IsDistinct nat_eq (numbers_of f.members)) a.3 (distinct-push a.1.members member s.next_member (lacks name a.1 a.2) (sound.apart.within name a.1 a.2))

  formats-of : (name : List ℕ) (file : FileState) → Other name file → IsLaidOut (fields_of file)
  formats-of name file (inl a) = sound.formats name file a
  formats-of name file (inr a) = subst (λ (f : FileState). IsLaidOut (fields_of f)) a.3 (sound.formats name a.1 a.2)

  views-of : (name : List ℕ) (file : FileState) → Other name file → IsMapped widened file.spec
  views-of name file (inl a) = mapped-kept s.files widened sound.library.bases (kept-wider s.files its member s.next_member grown physical) name file a (sound.views name file a)
  views-of name file (inr a) =
      subst (λ (f : FileState). IsMapped widened f.spec) a.3
      (mapped-kept s.files widened sound.library.bases (kept-wider s.files its member s.next_member grown physical) name a.1 a.2 (sound.views name a.1 a.2))

  defaults-of : (name : List ℕ) (file : FileState) → Other name file → HoldDefaults (fields_of file)
  defaults-of name file (inl a) = sound.defaults name file a
  defaults-of name file (inr a) = subst (λ (f : FileState). HoldDefaults (fields_of f)) a.3 (sound.defaults name a.1 a.2)

  pub keeps-wider : KeepsFiles s widened
  keeps-wider = record {
    apart = record {
      apart = λ name other file another n one two. apart-of name other file another n (other-of name file one.there) (other-of other another two.there) one.has two.has;
      within = λ name file there. within-of name file (other-of name file there);
    };
    formats = λ name file there. formats-of name file (other-of name file there);
    views = λ name file there. views-of name file (other-of name file there);
    defaults = λ name file there. defaults-of name file (other-of name file there);
    owners = λ name file n owns less. owner-of name file n (other-of name file owns.there) owns.has less;
  }

-- ---- what a source describes

spec-is : (r : Result PhysicalSpec DdsFault) (spec : PhysicalSpec) → spec_or_refused r ≡ Ok spec → r ≡ Ok spec
spec-is (Ok other) spec h = let same : other ≡ spec = ok-equal other spec h in ap (λ (p : PhysicalSpec). Ok p) same
spec-is (Err fault) spec h = absurd cc

described-laid : (formats : List ℕ → Option Format) (r : Result Source DdsFault) (spec : PhysicalSpec) → described_by formats r ≡ Ok spec → IsLaidOut spec.format.fields
described-laid formats (Ok source) spec h = physical-laid formats source spec h
described-laid formats (Err fault) spec h = absurd cc

described-holds : (formats : List ℕ → Option Format) (r : Result Source DdsFault) (spec : PhysicalSpec) → described_by formats r ≡ Ok spec → HoldDefaults spec.format.fields
described-holds formats (Ok source) spec h = physical-defaults formats source spec h
described-holds formats (Err fault) spec h = absurd cc

-- the fields of a new file lie one behind the other, and their default values may stand in them
pub record IsGood (plan : NewFile) : Type 0 where
  pub laid : IsLaidOut plan.spec.format.fields
  pub defaults : HoldDefaults plan.spec.format.fields

pub plan-good : (sources : List NamedSource) (m : Memory) (args : CreatePhysicalFile) (plan : NewFile) → create_plan sources m args ≡ Ok plan → IsGood plan
unfolding create_plan
plan-good sources m args plan h =
    let left = bind-ok (sequences_left m) _ plan h in
    let new = bind-ok (refuse_if (is_some (file_named args.file m)) (NameExists args.file)) _ plan left.2 in
    let few = bind-ok (refuse_if (nat_le MOST_FILES (length m.files)) (LimitReached Files MOST_FILES)) _ plan new.2 in
    let numbers = bind-ok (refuse_if (nat_lt LAST_MEMBER m.next_member) (LimitReached MemberNumbers LAST_MEMBER)) _ plan few.2 in
    let text = bind-ok (named_or_refused args.source (text_of sources args.source)) _ plan numbers.2 in
    let spec = bind-ok (spec_or_refused (described (formats_of m) text.0)) _ plan text.2 in
    let made : NewFile = record { source = text.0; spec = spec.0 } in
    let is = spec-is (described (formats_of m) text.0) spec.0 spec.1 in
    subst IsGood (ok-equal made plan spec.2)
    (record { laid = described-laid (formats_of m) (source_of text.0) spec.0 is; defaults = described-holds (formats_of m) (source_of text.0) spec.0 is })

-- ---- what a source describes over the files that are there

logical-is : (r : Result LogicalSpec DdsFault) (spec : LogicalSpec) → logical_or_refused r ≡ Ok spec → r ≡ Ok spec
logical-is (Ok other) spec h = let same : other ≡ spec = ok-equal other spec h in ap (λ (p : LogicalSpec). Ok p) same
logical-is (Err fault) spec h = absurd cc

-- its base files are there, and what it stores lies in whole fields of them
pub record IsOver (m : Memory) (spec : LogicalSpec) : Type 0 where
  pub over : StandsOver m.files [] spec
  pub view : IsView (bases_of m) spec

fields-there : (name : List ℕ) (o : Option FileState) (spec : PhysicalSpec) → option_and_then (λ file. physical_in file.spec) o ≡ Some spec
    → (base_in name (option_and_then (λ file. if_physical file.spec file) o)).fields ≡ spec.format.fields
fields-there name None spec h = absurd cc
fields-there name (Some file) spec h = by file.spec refl h
  where
    by : (its : FileSpec) → file.spec ≡ its → physical_in its ≡ Some spec → (base_in name (if_physical its file)).fields ≡ spec.format.fields
    by (PhysicalFile other) is e = let same : other ≡ spec = cc in ap (λ (sp : FileSpec). (format_in sp).fields) is ∙ ap (λ (p : PhysicalSpec). p.format.fields) same
    by (LogicalFile other) is e = absurd cc

physical-there : (m : Memory) (name : List ℕ) → IsSome (physical_spec name m) → IsSome (physical_among name m.files)
physical-there m name some = let it = some-of (physical_spec name m) some in physical-described name m it.0 it.1

described-over : (m : Memory) (r : Result Source DdsFault) (spec : LogicalSpec) → logical_by (λ name. physical_spec name m) r ≡ Ok spec → IsOver m spec
described-over m (Err fault) spec h = absurd cc
described-over m (Ok source) spec h =
    let described : List ℕ → Option PhysicalSpec = λ name. physical_spec name m in record {
      over = record {
        none = refl;
        bases = each-weaker (λ (name : List ℕ). IsSome (described name)) (λ (name : List ℕ). IsSome (physical_among name m.files)) (base_names spec) (physical-there m)
            (described-there described source spec h);
      };
      view = record {
        some = logical-some described source spec h;
        mapped = described-mapped described (bases_of m) source spec (λ name its e. fields-there name (named name m.files) its e) h;
      };
    }

pub plan-over : (sources : List NamedSource) (m : Memory) (args : CreateLogicalFile) (plan : NewLogical) → create_logical_plan sources m args ≡ Ok plan → IsOver m plan.spec
unfolding create_logical_plan
plan-over sources m args plan h =
    let left = bind-ok (sequences_left m) _ plan h in
    let new = bind-ok (refuse_if (is_some (file_named args.file m)) (NameExists args.file)) _ plan left.2 in
    let few = bind-ok (refuse_if (nat_le MOST_FILES (length m.files)) (LimitReached Files MOST_FILES)) _ plan new.2 in
    let text = bind-ok (named_or_refused args.source (text_of sources args.source)) _ plan few.2 in
    let spec = bind-ok (logical_or_refused (logical_described m text.0)) _ plan text.2 in
    let its = spec.0 in
    let paths = logical_paths (bases_of m) its in
    let members = base_members (bases_of m) its in
    let many = bind-ok (refuse_if (list_any (has_many paths m) members) (LimitReached Paths MOST_PATHS)) _ plan spec.2 in
    let free = bind-ok (unused (changer_of_any members m)) _ plan many.2 in
    let journaled = bind-ok (refuse_with NotJournaled (if is_unique paths then first_undone m members else None)) _ plan free.2 in
    let apart = bind-ok (refuse_with (DuplicateKey args.file) (first_repeated paths m)) _ plan journaled.2 in
    let made : NewLogical = record { source = text.0; spec = its } in
    subst (λ (p : NewLogical). IsOver m p.spec) (ok-equal made plan apart.2)
    (described-over m (source_of text.0) its (logical-is (logical_described m text.0) its spec.1))
