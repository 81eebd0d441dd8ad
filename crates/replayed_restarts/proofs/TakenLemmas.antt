-- What a restart takes back: each change is of a journaled member that is there, at a place of it, and both its sides are records of the member's file.
use Rattle.std.proofs.Common.{◌≡◌, ℕ, ◌<◌, ◌≤◌, ◌==◌, ◌||◌, Bool, true, false, cond, if◌then◌else◌, IsTrue, IsSome, Option, Some, None, is_some, List, [], ◌∷◌, length, map, refl, sym, ap, ◌∙◌, subst}
use Rattle.std.specs.List.{AllByRecursion, find}
use Rattle.std.proofs.lemmas.Bool.{eq-eqb, eqb-true, ne_eqb}
use Rattle.entry_codec.specs.declared.entries.Entry.{Entry}
use Rattle.entry_codec.specs.declared.kinds.Images.{Images}
use Rattle.journal_model.specs.Acts.{Change}
use Rattle.journal_model.specs.Catalogue.{Catalogue, CatalogMember, empty_catalogue, has_number, member_numbered}
use Rattle.journal_model.specs.Journal.{CanReplayJournal, Journal, acts_after, catalogue_of, start_of, state_of}
use Rattle.journal_model.specs.Replay.{replay}
use Rattle.journal_model.specs.Rollback.{MemberChange, is_real, of_member, undos_of}
use Rattle.journal_model.proofs.LibraryLemmas.{IsLinked, linked}
use Rattle.journal_model.proofs.SoundLemmas.{HasOpen, IsSound, sound-replay, sound-start}
use Rattle.journal_replay.specs.Left.{is_held}
use Rattle.journal_replay.specs.Standing.{HeldMember, Standing, catalog_member, catalogue_in}
use Rattle.journal_replay.proofs.SoFarLemmas.{whole-journal}
use Rattle.lawful_states.specs.Lawful.{HoldsValues}
use Rattle.restart_model.specs.Libraries.{journal_with}
use Rattle.restart_model.specs.Sources.{descriptions}
use Rattle.journaled_entries.specs.Deposited.{AreDeposited}
use Rattle.replayed_histories.proofs.CatalogueLemmas.{empty-is}
use Rattle.replayed_histories.proofs.DescribedLemmas.{Among, each-among}
use Rattle.replayed_histories.proofs.GoesLemmas.{fields_at, found-among}
use Rattle.replayed_histories.proofs.HeldLemmas.{IsUndo}
use Rattle.replayed_histories.proofs.SilentLemmas.{silent-all}
use Rattle.replayed_histories.proofs.StandLemmas.{Stands}
use Rattle.replayed_restarts.proofs.LeavesLemmas.{Leaves, Replays, journal-leaves}
use Rattle.replayed_restarts.proofs.StandLemmas.{journal-counted, journal-stands}

-- ---- the changes of each member, and of all

module _ (P : ℕ → Change → Type 0) where
  each-undo : (undos : List MemberChange) → ((k : ℕ) → AllByRecursion (P k) (of_member k undos)) → AllByRecursion (λ (u : MemberChange). P u.member u.change) undos
  each-undo [] all = tt
  each-undo (u ∷ undos) all = (first (u.member == u.member) (eq-eqb u.member u.member refl) (all u.member), each-undo undos (λ k. rest k (u.member == k) (all k))) where
    first : (b : Bool) → b ≡ true → AllByRecursion (P u.member) (if b then u.change ∷ of_member u.member undos else of_member u.member undos) → P u.member u.change
    first true is its = its.0
    first false is its = absurd cc

    rest : (k : ℕ) (b : Bool) → AllByRecursion (P k) (if b then u.change ∷ of_member k undos else of_member k undos) → AllByRecursion (P k) (of_member k undos)
    rest k true its = its.1
    rest k false its = its

no-undos : (undos : List MemberChange) → ((k : ℕ) → of_member k undos ≡ []) → undos ≡ []
no-undos [] none = refl
no-undos (u ∷ undos) none = absurd (
    let some : u.change ∷ of_member u.member undos ≡ [] =
    sym (ap (λ (b : Bool). if b then u.change ∷ of_member u.member undos else of_member u.member undos) (eq-eqb u.member u.member refl)) ∙ none u.member in cc)

none-open : (undos : List Change) → AllByRecursion (λ (c : Change). HasOpen [] c.cycle) undos → undos ≡ []
none-open [] all = refl
none-open (c ∷ undos) all = absurd (never c.cycle all.0) where
  never : (o : Option ℕ) → HasOpen [] o → ⊥
  never None h = h
  never (Some n) h = absurd cc

-- ---- a journal

links-of : (entries : List Entry) → Replays entries → IsLinked (λ member. state_of (journal_with entries) member) (undos_of [] None entries)
links-of entries can =
    linked entries (λ member. start_of (journal_with entries) member) [] None (record { cycles = λ member. refl; undos = λ member. refl; real = tt }) can.replays

sound-of : (entries : List Entry) → Replays entries → (k : ℕ) → IsSound (state_of (journal_with entries) k)
sound-of entries can k = sound-replay (start_of (journal_with entries) k) (acts_after (journal_with entries) k) (sound-start 1 []) (can.replays k)

-- where no commit cycle is open, nothing is to be taken back
pub closed-undone : (entries : List Entry) → Replays entries → ((k : ℕ) → (state_of (journal_with entries) k).cycles ≡ []) → undos_of [] None entries ≡ []
closed-undone entries can closed =
    no-undos (undos_of [] None entries)
    (λ k. sym ((links-of entries can).undos k)
    ∙ none-open (state_of (journal_with entries) k).undos
    (subst (λ (cycles : List ℕ). AllByRecursion (λ (c : Change). HasOpen cycles c.cycle) (state_of (journal_with entries) k).undos) (closed k) (sound-of entries can k).of_open))

-- a member that the catalogue hasn't isn't held
not-held : (k : ℕ) (held : List HeldMember) → find (has_number (Some k)) (map catalog_member held) ≡ None → is_held k held ≡ false
not-held k [] none = refl
not-held k (m ∷ held) none =
    elim (k == m.number) as (λ b. k == m.number ≡ b → cond b (Some (catalog_member m)) (find (has_number (Some k)) (map catalog_member held)) ≡ None → is_held k (m ∷ held) ≡ false) [
      | true ↦ λ is e. absurd cc
      | false ↦ λ differs e.
          let other : m.number == k ≡ false = ne_eqb m.number k (λ same. absurd (let is : k == m.number ≡ true = eq-eqb k m.number (sym same) in cc)) in
          (λ i. other i || not-held k held e i)
    ] refl none

-- ---- what is to be taken back

pub record IsTaken (c : Catalogue) (long : ℕ → ℕ) (k : ℕ) (change : Change) : Type 0 where
  pub member : CatalogMember
  pub among : Among member c.members
  pub found : member_numbered (Some k) c ≡ Some member
  pub number : k ≡ member.number
  pub counted : 1 ≤ k
  pub journaled : IsSome member.images
  pub sides : IsUndo (HoldsValues (fields_at c member.file)) change
  pub place : change.place < long k

module _ (entries : List Entry) (can : CanReplayJournal descriptions (journal_with entries)) (deposited : AreDeposited entries) where
  abbrev j : Journal
  j = journal_with entries

  abbrev c : Catalogue
  c = catalogue_of (journal_with entries)

  abbrev long : ℕ → ℕ
  long k = length (state_of (journal_with entries) k).slots

  replays : Replays entries
  replays = whole-journal descriptions (journal_with entries) can

  stood : Stands c (λ member. replay (start_of j member) (acts_after j member)) entries
  stood = journal-stands entries replays

  -- open commit cycles have changed no member that isn't there
  none-there : (k : ℕ) → member_numbered (Some k) c ≡ None → (state_of j k).undos ≡ []
  none-there k none = by (journal-leaves entries replays) where
    by : (left : Standing) × Leaves entries left → (state_of j k).undos ≡ []
    by its =
        let absent : member_numbered (Some k) (catalogue_in its.0) ≡ None = ap (member_numbered (Some k)) its.1.catalogue ∙ none in
        (links-of entries replays).undos k ∙ ap (of_member k) (sym its.1.undos) ∙ its.1.owned k (not-held k its.0.members absent)

  -- nor one that isn't journaled
  none-journaled : (m : CatalogMember) → Among m c.members → m.images ≡ None → (state_of j m.number).undos ≡ []
  none-journaled m among none =
      ((silent-all entries 0 empty_catalogue (λ n. None) (λ n. start_of (journal_with entries) n) None empty-is tt
      (record { silent = λ x nowhere images. absurd nowhere; fresh = λ n above. record { known = refl; undos = refl } }) can.enters deposited.journaled can.replays).silent m among none).undos

  module _ (k : ℕ) where
    all-taken : (m : CatalogMember) (among : Among m c.members) → member_numbered (Some k) c ≡ Some m → k ≡ m.number → IsSome m.images → (undos : List Change)
        → AllByRecursion (IsUndo (HoldsValues (fields_at c m.file))) undos → AllByRecursion (λ (change : Change). change.place < long k) undos → AllByRecursion (IsTaken c long k) undos
    all-taken m among found number journaled [] sides places = tt
    all-taken m among found number journaled (change ∷ undos) sides places = (
      record {
        member = m;
        among = among;
        found = found;
        number = number;
        counted = subst (λ (n : ℕ). 1 ≤ n) (sym number) (each-among (λ (x : CatalogMember). 1 ≤ x.number) m c.members (journal-counted entries replays).members among);
        journaled = journaled;
        sides = sides.0;
        place = places.0;
      },
      all-taken m among found number journaled undos sides.1 places.1,
    )

    taken-of : AllByRecursion (IsTaken c long k) (state_of j k).undos
    taken-of = by (member_numbered (Some k) c) refl where
      nothing : (state_of j k).undos ≡ [] → AllByRecursion (IsTaken c long k) (state_of j k).undos
      nothing none = subst (AllByRecursion (IsTaken c long k)) (sym none) tt

      of-images : (m : CatalogMember) → Among m c.members → member_numbered (Some k) c ≡ Some m → k ≡ m.number → (o : Option Images) → m.images ≡ o
          → AllByRecursion (IsTaken c long k) (state_of j k).undos
      of-images m among found number None is = nothing (ap (λ (n : ℕ). (state_of j n).undos) number ∙ none-journaled m among is)
      of-images m among found number (Some images) is =
          all-taken m among found number (ap (λ (o : Option Images). is_some o) is) (state_of j k).undos
          (subst (λ (n : ℕ). AllByRecursion (IsUndo (HoldsValues (fields_at c m.file))) (state_of j n).undos) (sym number) (stood.holds m among).undos)
          (sound-of entries replays k).within

      by : (o : Option CatalogMember) → member_numbered (Some k) c ≡ o → AllByRecursion (IsTaken c long k) (state_of j k).undos
      by None none = nothing (none-there k none)
      by (Some m) found =
          let its = found-among (has_number (Some k)) c.members m found in
          of-images m its.0 found (eqb-true k m.number its.1) m.images refl

  -- each change of an open commit cycle
  pub each-taken : AllByRecursion (λ (u : MemberChange). IsTaken c long u.member u.change) (undos_of [] None entries)
  each-taken = each-undo (IsTaken c long) (undos_of [] None entries) (λ k. subst (AllByRecursion (IsTaken c long k)) ((links-of entries replays).undos k) (taken-of k))

  pub each-real : AllByRecursion (λ (u : MemberChange). IsTrue (is_real u.change)) (undos_of [] None entries)
  each-real = (links-of entries replays).real
