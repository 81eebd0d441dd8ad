-- Entries that are taken one after another.
use Rattle.std.proofs.Common.{◌≡◌, ◌<◌, ◌≤◌, ℕ, ◌+◌, ◌-◌, true, false, List, [], ◌∷◌, ◌++◌, length, take, drop, get_or, refl, sym, ◌∙◌, ap, subst, arith, append_assoc}
use Rattle.std.specs.Prelude.{is_none}
use Rattle.std.proofs.lemmas.Bool.{false≢true}
use Rattle.std.proofs.lemmas.List.{append-nil, take-append-drop, take_more}
use Rattle.store_model.specs.Disk.{Disk, Stays}
use Rattle.entry_codec.specs.declared.entries.Entry.{Entry}
use Rattle.journal_model.specs.Catalogue.{Catalogue, Descriptions}
use Rattle.journal_model.specs.Journal.{CanReplayJournal, StaysMembers}
use Rattle.journal_replay.specs.SoFar.{CanReplaySoFar, EndsWhole}
use Rattle.journal_replay.specs.Left.{IsLeft}
use Rattle.journal_replay.specs.Standing.{Standing, catalogue_in, standing_after}
use Rattle.journal_replay.specs.Tests.{may_stand_next}
use Rattle.journal_replay.proofs.LimitLemmas.{limits-front}
use Rattle.journal_replay.proofs.SoFarLemmas.{so_far-front, so_far-last, whole-journal, whole-journal-ends}
use Rattle.journal_replay.proofs.LeftLemmas.{come-stand, left-after}
use Rattle.journal_replay.proofs.TestLemmas.{stands-test, test-stands}
use Rattle.journal_replay.proofs.WholeLemmas.{none-whole, whole-none}
use Rattle.journal_limits.specs.Fits.{fits_named}
use Rattle.journal_limits.specs.Lengths.{KeepsLengths}
use Rattle.journal_limits.proofs.LimitSteps.{fits-stays, stays-fits}
use Rattle.journal_book.specs.Book.{BookState, Holds, last_of}
use Rattle.journal_book.specs.Reads.{between}
use Rattle.journal_book.proofs.Deposits.{stays_holds}
use Rattle.journaled_entries.specs.Deposited.{AreDeposited, may_be_deposited}
use Rattle.journaled_entries.proofs.DepositedLemmas.{deposited-append, deposited-front, deposited-last}
use Rattle.journal_opening.specs.Journals.{IsLeftBy, journal_with}
use Rattle.journal_opening.specs.Takings.{CannotFollow, HasTakenAll, HasTakenRange}
use Rattle.journal_opening.proofs.Books.{range_all, range_next}

-- ---- journals

-- a journal can be replayed so far only where its front can
pub front_so_far : (d : Descriptions) (entries more : List Entry) → CanReplaySoFar d (journal_with (entries ++ more)) → CanReplaySoFar d (journal_with entries)
front_so_far d entries [] can = subst (λ (l : List Entry). CanReplaySoFar d (journal_with l)) (append-nil entries) can
front_so_far d entries (e ∷ more) can =
    so_far-front d (journal_with entries) e (front_so_far d (entries ++ e ∷ []) more (subst (λ (l : List Entry). CanReplaySoFar d (journal_with l)) (sym (append_assoc entries (e ∷ []) more)) can))

-- and stays within limits only where its front does
pub front_stays : (d : Descriptions) (entries more : List Entry) → StaysMembers d (journal_with (entries ++ more)) → StaysMembers d (journal_with entries)
front_stays d entries [] stays = subst (λ (l : List Entry). StaysMembers d (journal_with l)) (append-nil entries) stays
front_stays d entries (e ∷ more) stays =
    limits-front d (journal_with entries) e (front_stays d (entries ++ e ∷ []) more (subst (λ (l : List Entry). StaysMembers d (journal_with l)) (sym (append_assoc entries (e ∷ []) more)) stays))

pub front_cannot : (d : Descriptions) (entries more : List Entry) → CannotFollow d entries → CannotFollow d (entries ++ more)
front_cannot d entries more cannot can stays are = cannot (front_so_far d entries more can) (front_stays d entries more stays) (deposited-front entries more are)

-- ---- one entry

module _ (d : Descriptions) (before : List Entry) (s : Standing) (e : Entry) (by : IsLeftBy d before s) where
  step_left : may_stand_next d s e ≡ true → IsLeft d (λ member. 0) (journal_with (before ++ e ∷ [])) (standing_after e s)
  step_left may = left-after d (λ member. 0) (journal_with before) s by.left e (test-stands d s e may)

  -- the entries before, as those that libraries deposit
  deposited : AreDeposited before
  deposited = record { placed = by.placed; journaled = by.journaled }

  -- no library deposits it there
  pub one_foreign : may_be_deposited (catalogue_in s) e ≡ false → CannotFollow d (before ++ e ∷ [])
  one_foreign foreign can stays are =
      false≢true (sym (subst (λ (c : Catalogue). may_be_deposited c e ≡ false) by.left.catalogue foreign) ∙ deposited-last before e are)

  -- it is taken
  pub one_taken : KeepsLengths d → may_be_deposited (catalogue_in s) e ≡ true → may_stand_next d s e ≡ true
      → (next : Standing) → next ≡ standing_after e s → fits_named d next e.member ≡ true → IsLeftBy d (before ++ e ∷ []) next
  one_taken keeps may_deposit may next is fits =
      let all = deposited-append before e deposited (subst (λ (c : Catalogue). may_be_deposited c e ≡ true) by.left.catalogue may_deposit) in
      let after = subst (λ (t : Standing). IsLeft d (λ member. 0) (journal_with (before ++ e ∷ [])) t) (sym is) (step_left may) in
      record { left = after; stays = fits-stays d keeps before s by.left e next after by.stays fits; journaled = all.journaled; placed = all.placed }

  -- it can't follow
  pub one_refused : may_stand_next d s e ≡ false → CannotFollow d (before ++ e ∷ [])
  one_refused refused can stays are =
      let may = stands-test d s e (come-stand d (λ member. 0) (journal_with before) s by.left e (so_far-last d (journal_with before) e can)) in
      false≢true (sym refused ∙ may)

  -- or the member that it names passes its limits
  pub one_passes : may_stand_next d s e ≡ true → (next : Standing) → next ≡ standing_after e s → fits_named d next e.member ≡ false → CannotFollow d (before ++ e ∷ [])
  one_passes may next is passes can stays are =
      let after = subst (λ (t : Standing). IsLeft d (λ member. 0) (journal_with (before ++ e ∷ [])) t) (sym is) (step_left may) in
      false≢true (sym passes ∙ stays-fits d before e next after stays)

module _ (d : Descriptions) (before entries : List Entry) (i : ℕ) (e : Entry) (below : i < length entries) (is : e ≡ get_or entries i e) where
  -- the entries up to this one
  further : before ++ take (i + 1) entries ≡ (before ++ take i entries) ++ e ∷ []
  further = ap (λ (l : List Entry). before ++ l) (take_more entries i e below ∙ ap (λ (x : Entry). take i entries ++ x ∷ []) (sym is)) ∙ sym (append_assoc before (take i entries) (e ∷ []))

  pub taken_next : (next : Standing) → IsLeftBy d ((before ++ take i entries) ++ e ∷ []) next → IsLeftBy d (before ++ take (i + 1) entries) next
  taken_next next left = subst (λ (l : List Entry). IsLeftBy d l next) (sym further) left

  pub taken_none : CannotFollow d ((before ++ take i entries) ++ e ∷ []) → CannotFollow d (before ++ entries)
  taken_none cannot =
      let split : (before ++ take (i + 1) entries) ++ drop (i + 1) entries ≡ before ++ entries =
      append_assoc before (take (i + 1) entries) (drop (i + 1) entries) ∙ ap (λ (l : List Entry). before ++ l) (take-append-drop (i + 1) entries) in
      subst (λ (l : List Entry). CannotFollow d l) split
      (front_cannot d (before ++ take (i + 1) entries) (drop (i + 1) entries) (subst (λ (l : List Entry). CannotFollow d l) (sym further) cannot))

-- ---- ranges of a book

-- so many of the book's entries were taken, and leave this
pub record IsTakenTo (d : Descriptions) (tells : Type 0) (book : BookState) (read : ℕ) (entries : List Entry) (s : Standing) (disk : Disk) : Type 0 where
  pub left : IsLeftBy d entries s
  pub same : tells → (all : List Entry) → Holds book all disk → entries ≡ take read all

module _ (d : Descriptions) (tells : Type 0) (book : BookState) (old now : Disk) (stays : Stays old now) (read : ℕ) (entries : List Entry) (s : Standing) (taken : IsTakenTo d tells book read entries s old) (first lo hi more : ℕ)
    (head : first ≡ book.first) (from : lo ≡ first + read) (upto : hi + 1 ≡ lo + more) where
  range_is : (all : List Entry) → tells → Holds book all old → (range : List Entry) → range ≡ between book.first lo hi all → entries ++ range ≡ take (read + more) all
  range_is all told holds range is =
      ap (λ (l : List Entry). l ++ range) (taken.same told all holds) ∙ ap (λ (l : List Entry). take read all ++ l) is ∙ range_next all book.first lo hi read more (omega (arith, head, from)) upto

  pub taken_range : (after : List Entry) (next : Standing) → HasTakenRange d tells book lo hi entries after next now → IsTakenTo d tells book (read + more) after next old
  taken_range after next has = record {
    left = has.left;
    same = λ told all holds. has.put ∙ range_is all told holds has.more (has.same told all (stays_holds book all old now stays holds));
  }

  pub range_fault : (all : List Entry) → tells → Holds book all old → CannotFollow d (entries ++ between book.first lo hi all) → CannotFollow d all
  range_fault all told holds cannot =
      subst (λ (l : List Entry). CannotFollow d l) (take-append-drop (read + more) all)
      (front_cannot d (take (read + more) all) (drop (read + more) all)
      (subst (λ (l : List Entry). CannotFollow d l) (range_is all told holds (between book.first lo hi all) refl) cannot))

pub taken_whole : (d : Descriptions) (tells : Type 0) (book : BookState) (read : ℕ) (entries : List Entry) (s : Standing) (disk : Disk) → IsTakenTo d tells book read entries s disk → (first last count : ℕ) → first ≡ book.first
    → last ≡ last_of book → 1 ≤ first → count ≡ last - (first - 1) → count ≤ read → HasTakenAll d tells book entries s disk
taken_whole d tells book read entries s disk taken first last count head upto least is past = record {
  left = taken.left;
  same = λ told all holds. taken.same told all holds ∙ range_all book all disk holds first last count read head upto least is past;
}

-- ---- pairs of images at the end

pub left_whole : (d : Descriptions) (entries : List Entry) (s : Standing) → IsLeftBy d entries s → is_none s.begun ≡ true → EndsWhole (journal_with entries)
left_whole d entries s by none = none-whole d (λ member. 0) (journal_with entries) s by.left none

-- one waits for its second entry
pub left_open : (d : Descriptions) (tells : Type 0) (book : BookState) (entries : List Entry) (s : Standing) (disk : Disk) → HasTakenAll d tells book entries s disk → is_none s.begun ≡ false → tells → (all : List Entry)
    → Holds book all disk → CanReplayJournal d (journal_with all) → ⊥
left_open d tells book entries s disk taken waits told all holds can =
    let by = subst (λ (l : List Entry). IsLeftBy d l s) (taken.same told all holds) taken.left in
    false≢true (sym waits ∙ whole-none d (λ member. 0) (journal_with all) s by.left (whole-journal-ends d (journal_with all) can))

-- where its entries can't follow, the journal can't be replayed
pub cannot_replay : (d : Descriptions) (entries : List Entry) → CannotFollow d entries → CanReplayJournal d (journal_with entries) → AreDeposited entries → ⊥
cannot_replay d entries cannot can = cannot (whole-journal d (journal_with entries) can) can.limits
