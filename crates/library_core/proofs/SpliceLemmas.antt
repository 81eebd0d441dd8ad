-- A stretch that was read, put into a journal in place of what stands there: that is what may be read of the journal.
use Rattle.std.proofs.Common.{◌≡◌, ◌≤◌, ℕ, zero, suc, ◌+◌, ◌-◌, List, [], ◌∷◌, ◌++◌, length, take, drop, length-append, refl, sym, ◌∙◌, ap, subst, arith}
use Rattle.std.specs.List.{AllByRecursion}
use Rattle.std.proofs.lemmas.List.{drop_at, length-drop, length-take-le, take-append-drop, take_at}
use Rattle.entry_codec.specs.declared.entries.Entry.{Entry}
use Rattle.journal_book.proofs.Numbering.{numbered-append, numbered_back, numbered_front}
use Rattle.journal_model.specs.Journal.{AreNumbered}
use Rattle.journal_reads.specs.Stretches.{entries_from}
use Rattle.lawful_states.proofs.LawfulLemmas.{AllByRecursion-append}
use Rattle.library_steps.specs.State.{State}
use Rattle.record_changes.specs.Sound.{IsSound}
use Rattle.record_changes.specs.Told.{IsTold}
use Rattle.library_core.specs.Reads.{IsReadOf}

pub each-take : {X : Type 0} (P : X → Type 0) (n : ℕ) (xs : List X) → AllByRecursion P xs → AllByRecursion P (take n xs)
each-take P zero xs all = tt
each-take P (suc n) [] all = tt
each-take P (suc n) (x ∷ xs) all = (all.0, each-take P n xs all.1)

pub each-drop : {X : Type 0} (P : X → Type 0) (n : ℕ) (xs : List X) → AllByRecursion P xs → AllByRecursion P (drop n xs)
each-drop P zero xs all = all
each-drop P (suc n) [] all = tt
each-drop P (suc n) (x ∷ xs) all = each-drop P n xs all.1

drop-nil : (n : ℕ) → ◌≡◌ {A = List Entry} (drop n []) []
drop-nil zero = refl
drop-nil (suc n) = refl

drop-both : (k n : ℕ) (xs : List Entry) → drop n (drop k xs) ≡ drop (k + n) xs
drop-both zero n xs = let same : n ≡ 0 + n = omega arith in ap (λ (j : ℕ). drop j xs) same
drop-both (suc k) n [] = drop-nil n ∙ sym (drop-nil (suc k + n))
drop-both (suc k) n (x ∷ xs) = let same : suc (k + n) ≡ suc k + n = omega arith in drop-both k n xs ∙ ap (λ (j : ℕ). drop j (x ∷ xs)) same

module _ (s : State) (from : ℕ) (entries : List Entry) (sound : IsSound s) (kept : s.gone + 1 ≤ from) (fits : from + length entries ≤ s.gone + length s.entries + 1)
    (numbered : AreNumbered from entries) (told : AllByRecursion (IsTold s.files) entries) where
  abbrev place : ℕ
  place = from - (s.gone + 1)

  abbrev front : List Entry
  front = take place s.entries

  abbrev back : List Entry
  back = drop (place + length entries) s.entries

  abbrev read : List Entry
  read = front ++ (entries ++ back)

  front-long : length front ≡ place
  front-long = length-take-le place s.entries (omega (arith, kept, fits))

  back-long : length back ≡ length s.entries - (place + length entries)
  back-long = length-drop (place + length entries) s.entries

  as-many : length read ≡ length s.entries
  as-many = omega (arith, kept, fits, front-long, back-long, length-append front (entries ++ back), length-append entries back)

  front-numbered : AreNumbered (s.gone + 1) front
  front-numbered =
      numbered_front (s.gone + 1) front (drop place s.entries) (subst (λ (l : List Entry). AreNumbered (s.gone + 1) l) (sym (take-append-drop place s.entries)) sound.numbered)

  before-back : length (take (place + length entries) s.entries) ≡ place + length entries
  before-back = length-take-le (place + length entries) s.entries (omega (arith, kept, fits))

  back-numbered : AreNumbered (from + length entries) back
  back-numbered =
      numbered_back (s.gone + 1) (from + length entries) (take (place + length entries) s.entries) back (omega (arith, kept, before-back))
      (subst (λ (l : List Entry). AreNumbered (s.gone + 1) l) (sym (take-append-drop (place + length entries) s.entries)) sound.numbered)

  all-numbered : AreNumbered (s.gone + 1) read
  all-numbered =
      numbered-append (s.gone + 1) from front (entries ++ back) (omega (arith, kept, front-long)) front-numbered
      (numbered-append from (from + length entries) entries back refl numbered back-numbered)

  all-told : AllByRecursion (IsTold s.files) read
  all-told =
      AllByRecursion-append (IsTold s.files) front (entries ++ back) (each-take (IsTold s.files) place s.entries sound.joint.told.records)
      (AllByRecursion-append (IsTold s.files) entries back told (each-drop (IsTold s.files) (place + length entries) s.entries sound.joint.told.records))

  part : entries ≡ take (length entries) (drop place read)
  part = sym (ap (λ (l : List Entry). take (length entries) l) (drop_at front (entries ++ back) place front-long) ∙ take_at entries back (length entries) refl)

  own-spliced : entries ≡ take (length entries) (drop place s.entries) → read ≡ s.entries
  own-spliced same =
      ap (λ (l : List Entry). front ++ l)
      (ap (λ (l : List Entry). l ++ back) same
      ∙ ap (λ (l : List Entry). take (length entries) (drop place s.entries) ++ l) (sym (drop-both place (length entries) s.entries))
      ∙ take-append-drop (length entries) (drop place s.entries))
      ∙ take-append-drop place s.entries

  pub read-spliced : (tells : Type 0) → (tells → entries ≡ take (length entries) (drop place s.entries)) → (all : List Entry) × IsReadOf tells s (entries_from from entries) all
  read-spliced tells own = (
    read,
    record {
      may = record { count = as-many; numbered = all-numbered; told = all-told };
      own = λ tell. own-spliced (own tell);
      part = record { begins = kept; same = part };
    },
  )
