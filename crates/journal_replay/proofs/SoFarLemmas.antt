-- A journal with one entry more can be replayed exactly where it can be and the entry may come next.
use Rattle.std.proofs.Common.{◌≡◌, ℕ, ◌+◌, List, [], ◌∷◌, ◌++◌, length, Option, Some, None, refl, sym, ap, ◌∙◌, subst, arith}
use Rattle.std.specs.Prelude.{⊤}
use Rattle.std.specs.List.{AllByRecursion}
use Rattle.std.proofs.lemmas.List.{append_assoc}
use Rattle.entry_codec.specs.declared.entries.Entry.{Entry}
use Rattle.entry_codec.specs.declared.kinds.EntryKind.TheVariants.{FileDeleted, CommitCycleStarted}
use Rattle.journal_model.specs.Acts.{Act, act, acts, entry_before}
use Rattle.journal_model.specs.Replay.{State, replay}
use Rattle.journal_model.specs.Replayable.{CanReplay, MayFollow, IsFree, IsOpen}
use Rattle.journal_model.specs.Pairs.{EndsPair, BeginsNoPair, AreInPairs}
use Rattle.journal_model.specs.Catalogue.{Catalogue, CatalogMember, Descriptions, MayEnterAll, MayEnterBy, members_of, catalogue_by, catalogue_after}
use Rattle.journal_model.specs.Images.{HasRecords, AllHaveRecords}
use Rattle.journal_model.specs.Journal.{Journal, entries, last_sequence, start_of, acts_after, state_of, open_cycles, catalogue_of, AreNumbered, NamesOpen, DeletesFree, StaysMembers, CanReplayJournal}
use Rattle.journal_model.proofs.MemberLemmas.{acts-append}
use Rattle.journal_model.proofs.ReplayLemmas.{replay-append, CanReplay-front, CanReplay-back, CanReplay-append}
use Rattle.journal_replay.specs.SoFar.{ArePairsSoFar, CanReplaySoFar, EndsWhole, with_entry, MayComeNext}
use Rattle.journal_replay.proofs.SplitLemmas.{AtEach, at_each-push, at_each-front, at_each-last}

-- ---- one entry more, list by list

pub entry_before-append : (prior : Option Entry) (xs ys : List Entry) → entry_before prior (xs ++ ys) ≡ entry_before (entry_before prior xs) ys
entry_before-append prior [] ys = refl
entry_before-append prior (x ∷ xs) ys = entry_before-append (Some x) xs ys

numbered-front : (first : ℕ) (xs : List Entry) (e : Entry) → AreNumbered first (xs ++ e ∷ []) → AreNumbered first xs
numbered-front first [] e h = tt
numbered-front first (x ∷ xs) e h = (h.0, numbered-front (first + 1) xs e h.1)

numbered-last : (first : ℕ) (xs : List Entry) (e : Entry) → AreNumbered first (xs ++ e ∷ []) → e.sequence ≡ first + length xs
numbered-last first [] e h = let own = h.0 in omega (arith, own)
numbered-last first (x ∷ xs) e h = let own = numbered-last (first + 1) xs e h.1 in omega (arith, own)

numbered-push : (first : ℕ) (xs : List Entry) (e : Entry) → AreNumbered first xs → e.sequence ≡ first + length xs → AreNumbered first (xs ++ e ∷ [])
numbered-push first [] e h n = (omega (arith, n), tt)
numbered-push first (x ∷ xs) e h n = (h.0, numbered-push (first + 1) xs e h.1 (omega (arith, n)))

pub catalogue_after-append : (c : Catalogue) (xs ys : List Entry) → catalogue_after c (xs ++ ys) ≡ catalogue_after (catalogue_after c xs) ys
catalogue_after-append c [] ys = refl
catalogue_after-append c (x ∷ xs) ys = catalogue_after-append (catalogue_by x.kind x c) xs ys

enters-front : (d : Descriptions) (c : Catalogue) (xs : List Entry) (e : Entry) → MayEnterAll d c (xs ++ e ∷ []) → MayEnterAll d c xs
enters-front d c [] e h = tt
enters-front d c (x ∷ xs) e h = (h.0, enters-front d (catalogue_by x.kind x c) xs e h.1)

enters-last : (d : Descriptions) (c : Catalogue) (xs : List Entry) (e : Entry) → MayEnterAll d c (xs ++ e ∷ []) → MayEnterBy d e.kind e (catalogue_after c xs)
enters-last d c [] e h = h.0
enters-last d c (x ∷ xs) e h = enters-last d (catalogue_by x.kind x c) xs e h.1

enters-push : (d : Descriptions) (c : Catalogue) (xs : List Entry) (e : Entry) → MayEnterAll d c xs → MayEnterBy d e.kind e (catalogue_after c xs) → MayEnterAll d c (xs ++ e ∷ [])
enters-push d c [] e h l = (l, tt)
enters-push d c (x ∷ xs) e h l = (h.0, enters-push d (catalogue_by x.kind x c) xs e h.1 l)

records-front : (d : Descriptions) (c : Catalogue) (xs : List Entry) (e : Entry) → AllHaveRecords d c (xs ++ e ∷ []) → AllHaveRecords d c xs
records-front d c [] e h = tt
records-front d c (x ∷ xs) e h = (h.0, records-front d (catalogue_by x.kind x c) xs e h.1)

records-last : (d : Descriptions) (c : Catalogue) (xs : List Entry) (e : Entry) → AllHaveRecords d c (xs ++ e ∷ []) → HasRecords d (catalogue_after c xs) e
records-last d c [] e h = h.0
records-last d c (x ∷ xs) e h = records-last d (catalogue_by x.kind x c) xs e h.1

records-push : (d : Descriptions) (c : Catalogue) (xs : List Entry) (e : Entry) → AllHaveRecords d c xs → HasRecords d (catalogue_after c xs) e → AllHaveRecords d c (xs ++ e ∷ [])
records-push d c [] e h l = (l, tt)
records-push d c (x ∷ xs) e h l = (h.0, records-push d (catalogue_by x.kind x c) xs e h.1 l)

pairs-front : (prior : Option Entry) (xs : List Entry) (e : Entry) → ArePairsSoFar prior (xs ++ e ∷ []) → ArePairsSoFar prior xs
pairs-front prior [] e h = tt
pairs-front prior (x ∷ xs) e h = (h.0, pairs-front (Some x) xs e h.1)

pairs-last : (prior : Option Entry) (xs : List Entry) (e : Entry) → ArePairsSoFar prior (xs ++ e ∷ []) → EndsPair (entry_before prior xs) e
pairs-last prior [] e h = h.0
pairs-last prior (x ∷ xs) e h = pairs-last (Some x) xs e h.1

pairs-push : (prior : Option Entry) (xs : List Entry) (e : Entry) → ArePairsSoFar prior xs → EndsPair (entry_before prior xs) e → ArePairsSoFar prior (xs ++ e ∷ [])
pairs-push prior [] e h l = (l, tt)
pairs-push prior (x ∷ xs) e h l = (h.0, pairs-push (Some x) xs e h.1 l)

-- ---- whole pairs

pairs-whole : (prior : Option Entry) (xs : List Entry) → ArePairsSoFar prior xs → BeginsNoPair (entry_before prior xs) → AreInPairs prior xs
pairs-whole prior [] h w = w
pairs-whole prior (x ∷ xs) h w = (h.0, pairs-whole (Some x) xs h.1 w)

whole-pairs : (prior : Option Entry) (xs : List Entry) → AreInPairs prior xs → ArePairsSoFar prior xs
whole-pairs prior [] h = tt
whole-pairs prior (x ∷ xs) h = (h.0, whole-pairs (Some x) xs h.1)

whole-end : (prior : Option Entry) (xs : List Entry) → AreInPairs prior xs → BeginsNoPair (entry_before prior xs)
whole-end prior [] h = h
whole-end prior (x ∷ xs) h = whole-end (Some x) xs h.1

module _ (d : Descriptions) (j : Journal) where
  pub journal-whole : CanReplaySoFar d j → EndsWhole j → StaysMembers d j → CanReplayJournal d j
  journal-whole r whole limits = record {
    first = r.first;
    kept = r.kept;
    joined = r.joined;
    later = r.later;
    enters = r.enters;
    replays = r.replays;
    names = r.names;
    deletes = r.deletes;
    pairs = pairs-whole None (entries j) r.pairs whole;
    kept_records = r.kept_records;
    kept_places = r.kept_places;
    records = r.records;
    limits = limits;
  }

  pub whole-journal : CanReplayJournal d j → CanReplaySoFar d j
  whole-journal r = record {
    first = r.first;
    kept = r.kept;
    joined = r.joined;
    later = r.later;
    enters = r.enters;
    replays = r.replays;
    names = r.names;
    deletes = r.deletes;
    pairs = whole-pairs None (entries j) r.pairs;
    kept_records = r.kept_records;
    kept_places = r.kept_places;
    records = r.records;
  }

  pub whole-journal-ends : CanReplayJournal d j → EndsWhole j
  whole-journal-ends r = whole-end None (entries j) r.pairs

-- ---- the journal

module _ (d : Descriptions) (j : Journal) (e : Entry) where
  prior : Option Entry
  prior = entry_before None j.kept

  prior_is : entry_before prior j.later ≡ entry_before None (entries j)
  unfolding prior
  prior_is = sym (entry_before-append None j.kept j.later)

  -- the acts with one more
  pub acts_with : (member : ℕ) → acts_after (with_entry e j) member ≡ acts_after j member ++ act member (entry_before None (entries j)) e ∷ []
  unfolding prior prior_is
  acts_with member = acts-append member prior j.later (e ∷ [])
      ∙ ap (λ (p : Option Entry). acts member prior j.later ++ act member p e ∷ []) prior_is

  entries_with : entries (with_entry e j) ≡ entries j ++ e ∷ []
  entries_with = sym (append_assoc j.kept j.later (e ∷ []))

  -- what the two quantified parts say at each entry
  Names : List Entry → Entry → Type 0
  Names front x = (x.kind ≡ CommitCycleStarted → ⊥) → IsOpen (replay (start_of j 0) (acts 0 (entry_before None j.kept) front)).cycles x.group

  Deletes : List Entry → Entry → Type 0
  Deletes front x = (name : List ℕ) → x.kind ≡ FileDeleted name
      → AllByRecursion (λ (m : CatalogMember). IsFree (replay (start_of j m.number) (acts m.number (entry_before None j.kept) front))) (members_of name (catalogue_after j.catalogue front))

  pub so_far-front : CanReplaySoFar d (with_entry e j) → CanReplaySoFar d j
  unfolding prior prior_is acts_with Names Deletes entries_with
  so_far-front r = record {
    first = r.first;
    kept = r.kept;
    joined = r.joined;
    later = numbered-front (j.checkpoint + 1) j.later e r.later;
    enters = enters-front d j.catalogue j.later e r.enters;
    replays = λ member. CanReplay-front (start_of j member) (acts_after j member) (act member (entry_before None (entries j)) e ∷ [])
        (subst (λ (all : List Act). CanReplay (start_of j member) all) (acts_with member) (r.replays member));
    names = at_each-front Names j.later e r.names;
    deletes = λ front rest x name h k. at_each-front Deletes j.later e (λ f more y g n k. r.deletes f more y n g k) front rest x h name k;
    pairs = pairs-front None (entries j) e (subst (λ (all : List Entry). ArePairsSoFar None all) entries_with r.pairs);
    kept_records = r.kept_records;
    kept_places = r.kept_places;
    records = records-front d j.catalogue j.later e r.records;
  }

  pub so_far-last : CanReplaySoFar d (with_entry e j) → MayComeNext d j e
  unfolding prior prior_is acts_with Names Deletes entries_with
  so_far-last r = record {
    sequence = let own = numbered-last (j.checkpoint + 1) j.later e r.later in omega (arith, own);
    enters = enters-last d j.catalogue j.later e r.enters;
    replays = λ member. (CanReplay-back (start_of j member) (acts_after j member) (act member (entry_before None (entries j)) e ∷ [])
        (subst (λ (all : List Act). CanReplay (start_of j member) all) (acts_with member) (r.replays member))).0;
    names = at_each-last Names j.later e r.names;
    deletes = λ name k. r.deletes j.later [] e name refl k;
    pairs = pairs-last None (entries j) e (subst (λ (all : List Entry). ArePairsSoFar None all) entries_with r.pairs);
    records = records-last d j.catalogue j.later e r.records;
  }

  pub so_far-push : CanReplaySoFar d j → MayComeNext d j e → CanReplaySoFar d (with_entry e j)
  unfolding prior prior_is acts_with Names Deletes entries_with
  so_far-push r n = record {
    first = r.first;
    kept = r.kept;
    joined = r.joined;
    later = let own = n.sequence in numbered-push (j.checkpoint + 1) j.later e r.later (omega (arith, own));
    enters = enters-push d j.catalogue j.later e r.enters n.enters;
    replays = λ member. subst (λ (all : List Act). CanReplay (start_of j member) all) (sym (acts_with member))
        (CanReplay-append (start_of j member) (acts_after j member) (act member (entry_before None (entries j)) e ∷ []) (r.replays member) (n.replays member, tt));
    names = at_each-push Names j.later e r.names n.names;
    deletes = λ front rest x name h k. at_each-push Deletes j.later e (λ f more y g n k. r.deletes f more y n g k) n.deletes front rest x h name k;
    pairs = subst (λ (all : List Entry). ArePairsSoFar None all) (sym entries_with) (pairs-push None (entries j) e r.pairs n.pairs);
    kept_records = r.kept_records;
    kept_places = r.kept_places;
    records = records-push d j.catalogue j.later e r.records n.records;
  }
