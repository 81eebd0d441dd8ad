-- The format of the records of a member, by the file that owns it: only a physical file has members.
use Rattle.std.proofs.Common.{◌≡◌, ℕ, ◌+◌, Bool, true, false, cond, List, [], ◌∷◌, drop, Option, Some, None, refl, sym, ◌∙◌, ap, subst}
use Rattle.std.specs.List.{IsDistinct}
use Rattle.std.specs.Map.{keys_of}
use Rattle.std.specs.Borrow.{Bor}
use Rattle.std.specs.Option.{is_some, option_and_then, option_copied, option_map}
use Rattle.std.proofs.lemmas.List.{take-append-drop}
use Rattle.field_values.specs.FirstBad.{TellsFirstBad}
use Rattle.std.specs.Prelude.{IfSome}
use Rattle.std.proofs.lemmas.Bool.{false≢true}
use Rattle.lawful_states.specs.Lawful.{AreBased, IsBased}
use Rattle.lawful_states.specs.Owners.{AreApart, Owns, has_number, owner}
use Rattle.lawful_states.proofs.NameLemmas.{some-equal}
use Rattle.lawful_states.proofs.OwnerLemmas.{owner-owns}
use Rattle.library_model.specs.Named.{Named, named, same_name}
use Rattle.library_steps.specs.State.{FileState, MemberStatus, format_in, physical_in}
use Rattle.logical_model.specs.Bases.{FileSpec, PhysicalFile, LogicalFile}
use Rattle.record_fmt.specs.declared.formats.Format.{Format}

-- nobody owns what has no owner
none-owns : (number : ℕ) (name : List ℕ) (file : FileState) (files : Named FileState) → owner number files ≡ None → named name files ≡ Some file → has_number number file.members ≡ true → ⊥
none-owns number name file [] none there has = absurd cc
none-owns number name file (entry ∷ files) none there has =
    elim (has_number number entry.1.members) as (λ b. has_number number entry.1.members ≡ b → cond b (Some entry.0) (owner number files) ≡ None → ⊥) [
      | true ↦ λ its e. absurd cc
      | false ↦ λ lacks e. elim (same_name name entry.0) as (λ b. cond b (Some entry.1) (named name files) ≡ Some file → ⊥) [
        | true ↦ λ found. false≢true (sym lacks ∙ ap (λ (f : FileState). has_number number f.members) (some-equal found) ∙ has)
        | false ↦ λ found. none-owns number name file files e found has
      ] there
    ] refl none

-- the file that owns it is a physical one
physical-owns : (files : Named FileState) (name : List ℕ) (file : FileState) (number : ℕ) → AreBased files → Owns files name file number
    → option_map (λ spec. spec.format) (physical_in file.spec) ≡ Some (format_in file.spec)
physical-owns files name file number bases owns = by file.spec (bases name file owns.there) owns.has
  where
    by : (spec : FileSpec) → IsBased files name file.members spec → has_number number file.members ≡ true → option_map (λ s. s.format) (physical_in spec) ≡ Some (format_in spec)
    by (PhysicalFile spec) based has = refl
    by (LogicalFile spec) based has = absurd (false≢true (ap (λ (l : Named MemberStatus). has_number number l) (sym based.none) ∙ has))

abbrev format_found : Option FileState → Option Format
format_found file = option_and_then (λ f. option_map (λ spec. spec.format) (physical_in f.spec)) file

-- where nobody owns it
pub format-none : (fs files : Named FileState) (number : ℕ) (found : Option (List ℕ)) → fs ≡ files → found ≡ None → found ≡ owner number fs → (result : Option Format)
    → (name : List ℕ) (file : FileState) → Owns files name file number → result ≡ Some (format_in file.spec)
format-none fs files number found same none is result name file owns =
    absurd (none-owns number name file files (sym (ap (λ (l : Named FileState). owner number l) same) ∙ sym is ∙ none) owns.there owns.has)

module _ (fs files : Named FileState) (number : ℕ) (found : Option (List ℕ)) (other : List ℕ) (same : fs ≡ files) (some : found ≡ Some other) (is : found ≡ owner number fs)
    (distinct : IsDistinct same_name (keys_of fs)) (apart : AreApart fs) (bases : AreBased files) (result : Option Format) (result_is : result ≡ format_found (named other fs)) where
  first : (file : FileState) × Owns files other file number
  first =
      subst (λ (l : Named FileState). (file : FileState) × Owns l other file number) same (owner-owns number other fs distinct (sym is ∙ some))

  found-format : (file : FileState) → Owns files other file number → result ≡ Some (format_in file.spec)
  found-format file owns =
      result_is ∙ ap (λ (l : Named FileState). format_found (named other l)) same ∙ ap (λ (o : Option FileState). format_found o) owns.there ∙ physical-owns files other file number bases owns

  pub format-has : (name : List ℕ) (file : FileState) → Owns files name file number → result ≡ Some (format_in file.spec)
  format-has name file owns =
      let its = subst (λ (l : Named FileState). AreApart l) same apart in
      let one : other ≡ name = its.apart other name first.0 file number first.1 owns in
      found-format file (subst (λ (n : List ℕ). Owns files n file number) (sym one) owns)

  pub format-owned : IfSome result (λ format. (name : List ℕ) × (file : FileState) × Owns files name file number × (format ≡ format_in file.spec))
  format-owned =
      subst (λ (r : Option Format). IfSome r (λ format. (name : List ℕ) × (file : FileState) × Owns files name file number × (format ≡ format_in file.spec))) (sym (found-format first.0 first.1))
      (other, first.0, first.1, refl)

-- the same of what is lent
pub some-owned : (files : Named FileState) (number : ℕ) (r : Option (Bor Format))
    → IfSome (option_copied r) (λ format. (name : List ℕ) × (file : FileState) × Owns files name file number × (format ≡ format_in file.spec))
    → IfSome r (λ format. (name : List ℕ) × (file : FileState) × Owns files name file number × (format.now ≡ format_in file.spec))
some-owned files number None is = tt
some-owned files number (Some x) is = is

-- bytes that aren't a record's have a first bad one, with which no record begins
pub bad-record : (test : List ℕ → Bool) (bytes : List ℕ) (at : Option ℕ) → TellsFirstBad test bytes at → is_some at ≡ true → test bytes ≡ true → ⊥
bad-record test bytes None tells some good = absurd cc
bad-record test bytes (Some at) tells some good = tells.bad (drop (at + 1) bytes) (subst (λ (l : List ℕ). test l ≡ true) (sym (take-append-drop (at + 1) bytes)) good)
