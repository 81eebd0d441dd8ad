-- How entries are put behind those that wait, one after another.
use Rattle.std.proofs.Common.{◌≡◌, ℕ, ◌+◌, ◌≤◌, ◌<◌, true, List, [], ◌∷◌, ◌++◌, length, get_or, drop, refl, sym, ◌∙◌, ap, subst, arith, append_assoc, length-append}
use Rattle.std.proofs.lemmas.List.{append-nil, drop_all, drop_more}
use Rattle.entry_codec.specs.declared.entries.Entry.{Entry}
use Rattle.entry_codec.specs.Spelling.{spelling}
use Rattle.receiver_chain.specs.Receivers.{Kept}
use Rattle.journal_model.specs.Journal.{AreNumbered}
use Rattle.journal_book.specs.Entries.{spelled}
use Rattle.journal_book.specs.Book.{BookState, Keeps, next_of, with_entry}
use Rattle.kept_journal.specs.Journals.{MayWait, with_entries}

-- of the entries these are still to be put
pub record IsPutting (old now : BookState) (entries rest : List Entry) : Type 0 where
  pub begun : now.begun ≡ true
  pub may : MayWait now rest
  pub room : length (spelled rest) ≤ now.bytes
  pub whole : with_entries rest 0 now ≡ with_entries entries 0 old
  pub less : old.bytes + length (spelled rest) ≤ now.bytes + length (spelled entries)
  pub holds : (kept : Kept) (all : List Entry) → Keeps old kept all → (mid : List Entry) × Keeps now kept mid × (mid ++ rest ≡ all ++ entries)

pub none-put : (old : BookState) (entries : List Entry) → old.begun ≡ true → MayWait old entries → length (spelled entries) ≤ old.bytes → IsPutting old old entries entries
none-put old entries begun may room = record {
  begun = begun;
  may = may;
  room = room;
  whole = refl;
  less = omega arith;
  holds = λ kept all keeps. (all, keeps, refl);
}

-- ---- one more

pub spelled-length : (e : Entry) (rest : List Entry) → length (spelled (e ∷ rest)) ≡ length (spelling e) + length (spelled rest)
spelled-length e rest = length-append (spelling e) (spelled rest)

module _ (now new : BookState) (e : Entry) (rest : List Entry) (put : new ≡ with_entry e new.bytes now) where
  next_is : next_of new ≡ next_of now + 1
  next_is = omega (arith, ap (λ (b : BookState). b.first) put, ap (λ (b : BookState). b.forced) put, ap (λ (b : BookState). b.waiting) put)

  longer : length new.buffered ≡ length now.buffered + length (spelling e)
  longer = ap (λ (b : BookState). length b.buffered) put ∙ length-append now.buffered (spelling e)

  still_may : MayWait now (e ∷ rest) → MayWait new rest
  still_may may = record {
    numbered = subst (λ (n : ℕ). AreNumbered n rest) (sym next_is) may.numbered.1;
    each = may.each.1;
    inside = may.inside.1;
    few = omega (arith, next_is, may.few);
    small = omega (arith, longer, may.small, spelled-length e rest);
  }

  same_whole : with_entries rest 0 new ≡ with_entries (e ∷ rest) 0 now
  same_whole =
      let count : now.waiting + 1 + length rest ≡ now.waiting + length (e ∷ rest) = omega arith in
      ap (λ (b : BookState). with_entries rest 0 b) put
      ∙ (ap (λ (n : ℕ). record now { waiting = n; buffered = (now.buffered ++ spelling e) ++ spelled rest; bytes = 0 }) count
      ∙ ap (λ (l : List ℕ). record now { waiting = now.waiting + length (e ∷ rest); buffered = l; bytes = 0 }) (append_assoc now.buffered (spelling e) (spelled rest)))

pub one-put : (old now new : BookState) (entries rest : List Entry) (e : Entry) → IsPutting old now entries (e ∷ rest) → new ≡ with_entry e new.bytes now → now.bytes ≤ new.bytes + length (spelling e)
    → ((kept : Kept) (all : List Entry) → Keeps now kept all → Keeps new kept (all ++ e ∷ [])) → IsPutting old new entries rest
one-put old now new entries rest e is put room keeps = record {
  begun = ap (λ (b : BookState). b.begun) put ∙ is.begun;
  may = still_may now new e rest put is.may;
  room = omega (arith, is.room, room, spelled-length e rest);
  whole = same_whole now new e rest put ∙ is.whole;
  less = omega (arith, is.less, room, spelled-length e rest);
  holds = λ kept all held. let was = is.holds kept all held in (was.0 ++ e ∷ [], keeps kept was.0 was.1, append_assoc was.0 (e ∷ []) rest ∙ was.2);
}

pub one-room : (old now : BookState) (entries : List Entry) (e : Entry) (rest : List Entry) → IsPutting old now entries (e ∷ rest) → length (spelling e) ≤ now.bytes
one-room old now entries e rest is = omega (arith, is.room, spelled-length e rest)

-- ---- by the place in the list

pub at-place : (old now : BookState) (entries : List Entry) (i : ℕ) (e : Entry) → i < length entries → e ≡ get_or entries i e → IsPutting old now entries (drop i entries) → IsPutting old now entries (e ∷ drop (i + 1) entries)
at-place old now entries i e below is putting =
    subst (λ (rest : List Entry). IsPutting old now entries rest) (drop_more entries i e below ∙ ap (λ (x : Entry). x ∷ drop (i + 1) entries) (sym is)) putting

-- ---- all of them

pub all-put : (old now : BookState) (entries : List Entry) (i : ℕ) → length entries ≤ i → IsPutting old now entries (drop i entries) → IsPutting old now entries []
all-put old now entries i past putting = subst (λ (rest : List Entry). IsPutting old now entries rest) (drop_all i entries past) putting

pub put-whole : (old now : BookState) (entries : List Entry) → IsPutting old now entries [] → now ≡ with_entries entries now.bytes old
put-whole old now entries is =
    let none : now.waiting + 0 ≡ now.waiting = omega arith in
    sym (ap (λ (n : ℕ). record now { waiting = n; buffered = now.buffered ++ [] }) none ∙ ap (λ (l : List ℕ). record now { buffered = l }) (append-nil now.buffered))
    ∙ ap (λ (b : BookState). record b { bytes = now.bytes }) is.whole

pub put-holds : (old now : BookState) (entries : List Entry) → IsPutting old now entries [] → (kept : Kept) (all : List Entry) → Keeps old kept all → Keeps now kept (all ++ entries)
put-holds old now entries is kept all keeps =
    let was = is.holds kept all keeps in
    subst (λ (l : List Entry). Keeps now kept l) (sym (append-nil was.0) ∙ was.2) was.1
