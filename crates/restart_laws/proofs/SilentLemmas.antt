-- Of a member that isn't journaled the entries tell nothing that still holds, and no open commit cycle has changed it.
use Rattle.std.proofs.Common.{◌≡◌, inl, inr, ℕ, ◌+◌, ◌≤◌, ◌==◌, not, map, Bool, true, false, if◌then◌else◌, Option, Some, None, is_some, IsSome, unwrap_or, List, [], ◌∷◌, refl, sym, ◌∙◌, ap, subst, arith}
use Rattle.std.specs.List.{AllByRecursion, filter}
use Rattle.entry_codec.specs.declared.entries.Draft.{Draft}
use Rattle.entry_codec.specs.declared.entries.Entry.{Entry}
use Rattle.entry_codec.specs.declared.kinds.FileKind.TheVariants.{Physical, Logical}
use Rattle.entry_codec.specs.declared.kinds.Images.{Images}
use Rattle.entry_codec.specs.declared.kinds.EntryKind.{EntryKind}
use Rattle.entry_codec.specs.declared.kinds.EntryKind.TheVariants.{FileCreated, FileDeleted, MemberAdded, JournalingStarted, InitialSlot, JournalingEnded, MemberCleared, MemberReorganized, ChangesApplied, ChangesRemoved, RecordAdded, RecordAddedAtNumber, BeforeImage, AfterImage, RecordDeleted, UndoBeforeImage, UndoAfterImage, UndoDelete, CommitmentStarted, CommitCycleStarted, CommitCycleCommitted, CommitCycleRolledBack, CommitmentEnded, AbnormalEnd, NextReceiver, PreviousReceiver}
use Rattle.entry_codec.specs.Drafts.{numbered}
use Rattle.entry_codec.specs.Placing.{place}
use Rattle.member_slots.specs.declared.slot.Slot.{Slot}
use Rattle.logical_laws.proofs.ListLemmas.{each-append, each-filter}
use Rattle.journal_model.specs.Acts.{Act, Change, act, act_elsewhere, act_there, acts, entry_before, is_number}
use Rattle.journal_model.specs.AtSequence.{known_after, known_by}
use Rattle.journal_model.specs.Catalogue.{Catalogue, CatalogMember, IsOfMember, MayEnterAll, MayEnterBy, catalogue_after, catalogue_by, has_number, is_in_file, member_numbered}
use Rattle.journal_model.specs.Journal.{Journal, OfMember, entries as entries_of, last_sequence, open_cycles, restart_entries}
use Rattle.journal_model.specs.Replay.{State, before_of, is_in, replay, step, undos_after}
use Rattle.journal_model.specs.Replayable.{CanReplay, MayFollow}
use Rattle.journal_model.specs.Rollback.{MemberChange, all_rollback_drafts, change_drafts, missing_behind, missing_draft, missing_kind, numbered_from, of_member, restart_drafts, rollback_drafts, undo_drafts, undo_kinds, undos_of}
use Rattle.restart_model.specs.Sources.{descriptions}
use Rattle.journaled_entries.specs.Deposited.{AreJournaled, IsJournaledThen, is_of_record}
use Rattle.restart_laws.proofs.CatalogueLemmas.{IsCatalogue, entry-is, set_images}
use Rattle.restart_laws.proofs.DescribedLemmas.{Among}
use Rattle.restart_laws.proofs.GoesLemmas.{IsPlainCatalogue, among-append, among-filter, among-map, entry-goes, entry-plain, numbered-among}
use Rattle.restart_laws.proofs.StandLemmas.{none-above, number-of}

-- nothing is known of a record, and nothing is to be undone
pub record IsNothing (slot : Option Slot) (changes : List Change) : Type 0 where
  pub known : slot ≡ None
  pub undos : changes ≡ []

-- ---- an entry that isn't of a record of the member

module _ (at : ℕ) (prior : Option Entry) (e : Entry) where
  elsewhere-known : (known : Option Slot) (kind : EntryKind) → known_by at known (act_elsewhere kind e) ≡ known
  elsewhere-known known (RecordAdded image) = refl
  elsewhere-known known (RecordAddedAtNumber image) = refl
  elsewhere-known known (BeforeImage image) = refl
  elsewhere-known known (AfterImage has_before image) = refl
  elsewhere-known known (RecordDeleted before) = refl
  elsewhere-known known (UndoBeforeImage image) = refl
  elsewhere-known known (UndoAfterImage has_before image) = refl
  elsewhere-known known (UndoDelete image) = refl
  elsewhere-known known (InitialSlot image) = refl
  elsewhere-known known (FileCreated kind name source) = refl
  elsewhere-known known (FileDeleted name) = refl
  elsewhere-known known (MemberAdded file name) = refl
  elsewhere-known known (JournalingStarted images many) = refl
  elsewhere-known known JournalingEnded = refl
  elsewhere-known known MemberCleared = refl
  elsewhere-known known MemberReorganized = refl
  elsewhere-known known (ChangesApplied first last changes) = refl
  elsewhere-known known (ChangesRemoved first last changes) = refl
  elsewhere-known known (CommitmentStarted level) = refl
  elsewhere-known known CommitCycleStarted = refl
  elsewhere-known known CommitCycleCommitted = refl
  elsewhere-known known CommitCycleRolledBack = refl
  elsewhere-known known CommitmentEnded = refl
  elsewhere-known known AbnormalEnd = refl
  elsewhere-known known (NextReceiver receiver) = refl
  elsewhere-known known (PreviousReceiver receiver) = refl

  elsewhere-undos : (kind : EntryKind) → undos_after [] (act_elsewhere kind e) ≡ []
  elsewhere-undos (RecordAdded image) = refl
  elsewhere-undos (RecordAddedAtNumber image) = refl
  elsewhere-undos (BeforeImage image) = refl
  elsewhere-undos (AfterImage has_before image) = refl
  elsewhere-undos (RecordDeleted before) = refl
  elsewhere-undos (UndoBeforeImage image) = refl
  elsewhere-undos (UndoAfterImage has_before image) = refl
  elsewhere-undos (UndoDelete image) = refl
  elsewhere-undos (InitialSlot image) = refl
  elsewhere-undos (FileCreated kind name source) = refl
  elsewhere-undos (FileDeleted name) = refl
  elsewhere-undos (MemberAdded file name) = refl
  elsewhere-undos (JournalingStarted images many) = refl
  elsewhere-undos JournalingEnded = refl
  elsewhere-undos MemberCleared = refl
  elsewhere-undos MemberReorganized = refl
  elsewhere-undos (ChangesApplied first last changes) = refl
  elsewhere-undos (ChangesRemoved first last changes) = refl
  elsewhere-undos (CommitmentStarted level) = refl
  elsewhere-undos CommitCycleStarted = refl
  elsewhere-undos CommitCycleCommitted = refl
  elsewhere-undos CommitCycleRolledBack = refl
  elsewhere-undos CommitmentEnded = refl
  elsewhere-undos AbnormalEnd = refl
  elsewhere-undos (NextReceiver receiver) = refl
  elsewhere-undos (PreviousReceiver receiver) = refl

  there-nothing : (kind : EntryKind) → (is_of_record (place kind) ≡ true → ⊥) → IsNothing (known_by at None (act_there kind prior e)) (undos_after [] (act_there kind prior e))
  there-nothing (RecordAdded image) other = absurd (other refl)
  there-nothing (RecordAddedAtNumber image) other = absurd (other refl)
  there-nothing (BeforeImage image) other = absurd (other refl)
  there-nothing (AfterImage has_before image) other = absurd (other refl)
  there-nothing (RecordDeleted before) other = absurd (other refl)
  there-nothing (UndoBeforeImage image) other = absurd (other refl)
  there-nothing (UndoAfterImage has_before image) other = absurd (other refl)
  there-nothing (UndoDelete image) other = absurd (other refl)
  there-nothing (InitialSlot image) other = absurd (other refl)
  there-nothing (FileCreated Physical name source) other = record { known = refl; undos = refl }
  there-nothing (FileCreated Logical name source) other = record { known = refl; undos = refl }
  there-nothing (FileDeleted name) other = record { known = refl; undos = refl }
  there-nothing (MemberAdded file name) other = record { known = refl; undos = refl }
  there-nothing (JournalingStarted images many) other = record { known = refl; undos = refl }
  there-nothing JournalingEnded other = record { known = refl; undos = refl }
  there-nothing MemberCleared other = record { known = refl; undos = refl }
  there-nothing MemberReorganized other = record { known = refl; undos = refl }
  there-nothing (ChangesApplied first last changes) other = record { known = refl; undos = refl }
  there-nothing (ChangesRemoved first last changes) other = record { known = refl; undos = refl }
  there-nothing (CommitmentStarted level) other = record { known = refl; undos = refl }
  there-nothing CommitCycleStarted other = record { known = refl; undos = refl }
  there-nothing CommitCycleCommitted other = record { known = refl; undos = refl }
  there-nothing CommitCycleRolledBack other = record { known = refl; undos = refl }
  there-nothing CommitmentEnded other = record { known = refl; undos = refl }
  there-nothing AbnormalEnd other = record { known = refl; undos = refl }
  there-nothing (NextReceiver receiver) other = record { known = refl; undos = refl }
  there-nothing (PreviousReceiver receiver) other = record { known = refl; undos = refl }

  -- what an entry of this kind does
  abbrev act_of : EntryKind → ℕ → Act
  act_of kind number = if is_number e.member number then act_there kind prior e else act_elsewhere kind e

  nothing-stays : (kind : EntryKind) (number : ℕ) (known : Option Slot) (undos : List Change) → IsNothing known undos
      → (is_number e.member number ≡ true → is_of_record (place kind) ≡ true → ⊥) → IsNothing (known_by at known (act_of kind number)) (undos_after undos (act_of kind number))
  nothing-stays kind number known undos is other =
      subst (λ (k : Option Slot). IsNothing (known_by at k (act_of kind number)) (undos_after undos (act_of kind number))) (sym is.known)
      (subst (λ (us : List Change). IsNothing (known_by at None (act_of kind number)) (undos_after us (act_of kind number))) (sym is.undos)
      (elim (is_number e.member number) as (λ b. is_number e.member number ≡ b
      → IsNothing (known_by at None (if b then act_there kind prior e else act_elsewhere kind e)) (undos_after [] (if b then act_there kind prior e else act_elsewhere kind e))) [
        | true ↦ λ names. there-nothing kind (other names)
        | false ↦ λ names. record { known = elsewhere-known None kind; undos = elsewhere-undos kind }
      ] refl))

-- an entry of a record names a member that is there
of-record : (c : Catalogue) (e : Entry) (kind : EntryKind) → MayEnterBy descriptions kind e c → is_of_record (place kind) ≡ true → IsOfMember e c
of-record c e (RecordAdded image) may of = may
of-record c e (RecordAddedAtNumber image) may of = may
of-record c e (BeforeImage image) may of = may
of-record c e (AfterImage has_before image) may of = may
of-record c e (RecordDeleted before) may of = may
of-record c e (UndoBeforeImage image) may of = may
of-record c e (UndoAfterImage has_before image) may of = may
of-record c e (UndoDelete image) may of = may
of-record c e (InitialSlot image) may of = may
of-record c e (FileCreated Physical name source) may of = absurd cc
of-record c e (FileCreated Logical name source) may of = absurd cc
of-record c e (FileDeleted name) may of = absurd cc
of-record c e (MemberAdded file name) may of = absurd cc
of-record c e (JournalingStarted images many) may of = absurd cc
of-record c e JournalingEnded may of = absurd cc
of-record c e MemberCleared may of = absurd cc
of-record c e MemberReorganized may of = absurd cc
of-record c e (ChangesApplied first last changes) may of = absurd cc
of-record c e (ChangesRemoved first last changes) may of = absurd cc
of-record c e (CommitmentStarted level) may of = absurd cc
of-record c e CommitCycleStarted may of = absurd cc
of-record c e CommitCycleCommitted may of = absurd cc
of-record c e CommitCycleRolledBack may of = absurd cc
of-record c e CommitmentEnded may of = absurd cc
of-record c e AbnormalEnd may of = absurd cc
of-record c e (NextReceiver receiver) may of = absurd cc
of-record c e (PreviousReceiver receiver) may of = absurd cc

-- ---- members that aren't journaled

pub record AreSilent (at : ℕ) (c : Catalogue) (known : ℕ → Option Slot) (s : ℕ → State) : Type 0 where
  pub silent : (m : CatalogMember) → Among m c.members → m.images ≡ None → IsNothing (known m.number) (s m.number).undos
  pub fresh : (number : ℕ) → c.next_member ≤ number → IsNothing (known number) (s number).undos

module _ (at : ℕ) (c : Catalogue) (is : IsCatalogue c) (plain : IsPlainCatalogue c) (known : ℕ → Option Slot) (s : ℕ → State) (are : AreSilent at c known s) (prior : Option Entry) (e : Entry)
    (follow : (member : ℕ) → MayFollow (s member) (act member prior e)) where
  abbrev After : EntryKind → ℕ → Type 0
  After kind number = IsNothing (known_by at (known number) (act_of at prior e kind number)) (undos_after (s number).undos (act_of at prior e kind number))

  -- a record of a journaled member
  not-journaled : (m : CatalogMember) → Among m c.members → m.images ≡ None → OfMember (member_numbered e.member c) (λ (x : CatalogMember). IsSome x.images) → is_number e.member m.number ≡ true → ⊥
  not-journaled m among none journaled names =
      let found : member_numbered e.member c ≡ Some m = ap (λ (o : Option ℕ). member_numbered o c) (number-of e.member m.number names) ∙ numbered-among c.members m is.numbers among in
      let some : IsSome m.images = subst (λ (o : Option CatalogMember). OfMember o (λ (x : CatalogMember). IsSome x.images)) found journaled in
      absurd (let missing : is_some m.images ≡ false = ap (λ (o : Option Images). is_some o) none in cc)

  same-members : (kind : EntryKind) → (is_of_record (place kind) ≡ true → OfMember (member_numbered e.member c) (λ (x : CatalogMember). IsSome x.images)) → (m : CatalogMember) → Among m c.members
      → m.images ≡ None → After kind m.number
  same-members kind journaled m among none =
      nothing-stays at prior e kind m.number (known m.number) (s m.number).undos (are.silent m among none) (λ names of. not-journaled m among none (journaled of) names)

  new-member : (kind : EntryKind) → (is_of_record (place kind) ≡ true → ⊥) → (m : CatalogMember) → m.number ≡ c.next_member → After kind m.number
  new-member kind other m next =
      nothing-stays at prior e kind m.number (known m.number) (s m.number).undos (are.fresh m.number (omega (arith, next))) (λ names of. other of)

  unset : (which : Option ℕ) (images : Option Images) (m : CatalogMember) → has_number which m ≡ false → set_images which images m ≡ m
  unset which images m differs = ap (λ (b : Bool). if b then record m { images = images } else m) differs

  set-number : (which : Option ℕ) (images : Option Images) (m : CatalogMember) → (set_images which images m).number ≡ m.number
  set-number which images m = elim (has_number which m) as (λ b. (if b then record m { images = images } else m).number ≡ m.number) [ true ↦ refl | false ↦ refl ]

  -- one that the entry doesn't name stays as it was
  unset-member : (images : Option Images) (kind : EntryKind) → (is_of_record (place kind) ≡ true → ⊥) → (m : CatalogMember) → Among m (map (set_images e.member images) c.members) → m.images ≡ None
      → is_number e.member m.number ≡ false → After kind m.number
  unset-member images kind other m among none differs =
      let its = among-map (set_images e.member images) c.members m among in
      let number : its.0.number ≡ m.number = sym (set-number e.member images its.0) ∙ ap (λ (x : CatalogMember). x.number) its.2 in
      let same : its.0 ≡ m = sym (unset e.member images its.0 (ap (is_number e.member) number ∙ differs)) ∙ its.2 in
      nothing-stays at prior e kind m.number (known m.number) (s m.number).undos
      (are.silent m (subst (λ (x : CatalogMember). Among x c.members) same its.1) none) (λ names of. other of)

  broken-member : (images : Option Images) (kind : EntryKind) → (is_of_record (place kind) ≡ true → ⊥)
      → ((number : ℕ) → is_number e.member number ≡ true → After kind number) → (m : CatalogMember)
      → Among m (map (set_images e.member images) c.members) → m.images ≡ None → After kind m.number
  broken-member images kind other broken m among none = by (is_number e.member m.number) refl
    where
      by : (b : Bool) → is_number e.member m.number ≡ b → After kind m.number
      by true names = broken m.number names
      by false differs = unset-member images kind other m among none differs

  -- journaling begins or ends: nothing is known then, and nothing is to be undone
  begins : (images : Images) (many number : ℕ) → e.kind ≡ JournalingStarted images many → is_number e.member number ≡ true → After (JournalingStarted images many) number
  begins images many number kind names =
      let free : MayFollow (s number) (act_of at prior e (JournalingStarted images many) number) = subst (λ (k : EntryKind). MayFollow (s number) (act_of at prior e k number)) kind (follow number) in
      by (is_number e.member number) names free
    where
      by : (b : Bool) → b ≡ true → MayFollow (s number) (if b then act_there (JournalingStarted images many) prior e else act_elsewhere (JournalingStarted images many) e)
          → IsNothing (known_by at (known number) (if b then act_there (JournalingStarted images many) prior e else act_elsewhere (JournalingStarted images many) e))
          (undos_after (s number).undos (if b then act_there (JournalingStarted images many) prior e else act_elsewhere (JournalingStarted images many) e))
      by true its free = record { known = refl; undos = free }
      by false its free = absurd cc

  ends : (number : ℕ) → e.kind ≡ JournalingEnded → is_number e.member number ≡ true → After JournalingEnded number
  ends number kind names =
      let free : MayFollow (s number) (act_of at prior e JournalingEnded number) = subst (λ (k : EntryKind). MayFollow (s number) (act_of at prior e k number)) kind (follow number) in
      by (is_number e.member number) names free
    where
      by : (b : Bool) → b ≡ true → MayFollow (s number) (if b then act_there JournalingEnded prior e else act_elsewhere JournalingEnded e)
          → IsNothing (known_by at (known number) (if b then act_there JournalingEnded prior e else act_elsewhere JournalingEnded e))
          (undos_after (s number).undos (if b then act_there JournalingEnded prior e else act_elsewhere JournalingEnded e))
      by true its free = record { known = refl; undos = free }
      by false its free = absurd cc

  silent-by : (kind : EntryKind) → e.kind ≡ kind → MayEnterBy descriptions kind e c
      → (is_of_record (place kind) ≡ true → OfMember (member_numbered e.member c) (λ (x : CatalogMember). IsSome x.images))
      → (m : CatalogMember) → Among m (catalogue_by kind e c).members → m.images ≡ None → After kind m.number
  silent-by (RecordAdded image) kind may journaled m among none = same-members (RecordAdded image) journaled m among none
  silent-by (RecordAddedAtNumber image) kind may journaled m among none = same-members (RecordAddedAtNumber image) journaled m among none
  silent-by (BeforeImage image) kind may journaled m among none = same-members (BeforeImage image) journaled m among none
  silent-by (AfterImage has_before image) kind may journaled m among none = same-members (AfterImage has_before image) journaled m among none
  silent-by (RecordDeleted before) kind may journaled m among none = same-members (RecordDeleted before) journaled m among none
  silent-by (UndoBeforeImage image) kind may journaled m among none = same-members (UndoBeforeImage image) journaled m among none
  silent-by (UndoAfterImage has_before image) kind may journaled m among none = same-members (UndoAfterImage has_before image) journaled m among none
  silent-by (UndoDelete image) kind may journaled m among none = same-members (UndoDelete image) journaled m among none
  silent-by (InitialSlot image) kind may journaled m among none = same-members (InitialSlot image) journaled m among none
  silent-by (FileCreated Physical name source) kind may journaled m among none =
      elim (among-append c.members (record { number = unwrap_or e.member 0; file = name; name = name; images = None }) m among) [
        | inl before ↦ same-members (FileCreated Physical name source) journaled m before none
        | inr same ↦ new-member (FileCreated Physical name source) (λ of. absurd cc) m (ap (λ (x : CatalogMember). x.number) (sym same) ∙ ap (λ (o : Option ℕ). unwrap_or o 0) may.numbered.next)
      ]
  silent-by (FileCreated Logical name source) kind may journaled m among none = same-members (FileCreated Logical name source) journaled m among none
  silent-by (FileDeleted name) kind may journaled m among none =
      same-members (FileDeleted name) journaled m (among-filter (λ (x : CatalogMember). not (is_in_file name x)) c.members m among).0 none
  silent-by (MemberAdded file name) kind may journaled m among none =
      elim (among-append c.members (record { number = unwrap_or e.member 0; file = file; name = name; images = None }) m among) [
        | inl before ↦ same-members (MemberAdded file name) journaled m before none
        | inr same ↦ new-member (MemberAdded file name) (λ of. absurd cc) m (ap (λ (x : CatalogMember). x.number) (sym same) ∙ ap (λ (o : Option ℕ). unwrap_or o 0) may.numbered.next)
      ]
  silent-by (JournalingStarted images many) kind may journaled m among none =
      broken-member (Some images) (JournalingStarted images many) (λ of. absurd cc) (λ number names. begins images many number kind names) m among none
  silent-by JournalingEnded kind may journaled m among none = broken-member None JournalingEnded (λ of. absurd cc) (λ number names. ends number kind names) m among none
  silent-by MemberCleared kind may journaled m among none = same-members MemberCleared journaled m among none
  silent-by MemberReorganized kind may journaled m among none = same-members MemberReorganized journaled m among none
  silent-by (ChangesApplied first last changes) kind may journaled m among none = same-members (ChangesApplied first last changes) journaled m among none
  silent-by (ChangesRemoved first last changes) kind may journaled m among none = same-members (ChangesRemoved first last changes) journaled m among none
  silent-by (CommitmentStarted level) kind may journaled m among none = same-members (CommitmentStarted level) journaled m among none
  silent-by CommitCycleStarted kind may journaled m among none = same-members CommitCycleStarted journaled m among none
  silent-by CommitCycleCommitted kind may journaled m among none = same-members CommitCycleCommitted journaled m among none
  silent-by CommitCycleRolledBack kind may journaled m among none = same-members CommitCycleRolledBack journaled m among none
  silent-by CommitmentEnded kind may journaled m among none = same-members CommitmentEnded journaled m among none
  silent-by AbnormalEnd kind may journaled m among none = same-members AbnormalEnd journaled m among none
  silent-by (NextReceiver receiver) kind may journaled m among none = same-members (NextReceiver receiver) journaled m among none
  silent-by (PreviousReceiver receiver) kind may journaled m among none = same-members (PreviousReceiver receiver) journaled m among none

  pub silent-next : MayEnterBy descriptions e.kind e c → IsJournaledThen c e
      → AreSilent at (catalogue_by e.kind e c) (λ number. known_by at (known number) (act number prior e)) (λ number. step (s number) (act number prior e))
  silent-next may journaled = record {
    silent = λ m among none. silent-by e.kind refl may journaled m among none;
    fresh = λ number above.
        let further = (entry-goes c is plain e.kind e may).further in
        let low : c.next_member ≤ number = omega (arith, above, further) in
        nothing-stays at prior e e.kind number (known number) (s number).undos (are.fresh number low) (λ names of. none-above c is e number low (of-record c e e.kind may of) names);
  }

pub silent-all : (entries : List Entry) (at : ℕ) (c : Catalogue) (known : ℕ → Option Slot) (s : ℕ → State) (prior : Option Entry) → IsCatalogue c → IsPlainCatalogue c → AreSilent at c known s
    → MayEnterAll descriptions c entries → AreJournaled c entries → ((member : ℕ) → CanReplay (s member) (acts member prior entries))
    → AreSilent at (catalogue_after c entries) (λ number. known_after at (known number) (acts number prior entries)) (λ number. replay (s number) (acts number prior entries))
silent-all [] at c known s prior is plain are may journaled can = are
silent-all (e ∷ entries) at c known s prior is plain are may journaled can =
    silent-all entries at (catalogue_by e.kind e c) (λ number. known_by at (known number) (act number prior e)) (λ number. step (s number) (act number prior e)) (Some e)
    (entry-is descriptions e.kind e c is may.0) (entry-plain c is plain e.kind e may.0)
    (silent-next at c is plain known s are prior e (λ member. (can member).0) may.0 journaled.0) may.1 journaled.1 (λ member. (can member).1)

-- ---- entries that don't name the member

abbrev NamesOther : ℕ → Draft → Type 0
NamesOther number d = is_number d.member number ≡ false

others-known : (at number : ℕ) (drafts : List Draft) (k : ℕ) (prior : Option Entry) (known : Option Slot) → AllByRecursion (NamesOther number) drafts
    → known_after at known (acts number prior (numbered_from k drafts)) ≡ known
others-known at number [] k prior known others = refl
others-known at number (d ∷ drafts) k prior known others =
    ap (λ (x : Option Slot). known_after at x (acts number (Some (numbered d k)) (numbered_from (k + 1) drafts)))
    (ap (λ (b : Bool). known_by at known (if b then act_there d.kind prior (numbered d k) else act_elsewhere d.kind (numbered d k))) others.0
    ∙ elsewhere-known at prior (numbered d k) known d.kind)
    ∙ others-known at number drafts (k + 1) (Some (numbered d k)) known others.1

abbrev ChangesOther : ℕ → MemberChange → Type 0
ChangesOther number undo = undo.member == number ≡ false

changes-other : (number : ℕ) (undos : List MemberChange) → of_member number undos ≡ [] → AllByRecursion (ChangesOther number) undos
changes-other number [] none = tt
changes-other number (undo ∷ undos) none =
    elim (undo.member == number) as (λ b. undo.member == number ≡ b → (if b then undo.change ∷ of_member number undos else of_member number undos) ≡ []
    → AllByRecursion (ChangesOther number) (undo ∷ undos)) [
      | true ↦ λ is e. absurd cc
      | false ↦ λ is e. (is, changes-other number undos e)
    ] refl none

module _ (number : ℕ) (job : Option (List ℕ)) (moment : ℕ) where
  kinds-other : (undo : MemberChange) → ChangesOther number undo → (kinds : List EntryKind) → AllByRecursion (NamesOther number) (change_drafts job moment undo kinds)
  kinds-other undo other [] = tt
  kinds-other undo other (kind ∷ kinds) = (other, kinds-other undo other kinds)

  undos-other : (undos : List MemberChange) → AllByRecursion (ChangesOther number) undos → AllByRecursion (NamesOther number) (undo_drafts job moment undos)
  undos-other [] others = tt
  undos-other (undo ∷ undos) others =
      each-append (NamesOther number) (change_drafts job moment undo (undo_kinds (before_of undo.change) undo.change.after)) (undo_drafts job moment undos)
      (kinds-other undo others.0 (undo_kinds (before_of undo.change) undo.change.after)) (undos-other undos others.1)

  cycles-other : (cycles : List ℕ) (undos : List MemberChange) → AllByRecursion (ChangesOther number) undos → AllByRecursion (NamesOther number) (all_rollback_drafts job moment cycles undos)
  cycles-other [] undos others = tt
  cycles-other (n ∷ cycles) undos others =
      each-append (NamesOther number) (rollback_drafts job moment n undos) (all_rollback_drafts job moment cycles undos)
      (each-append (NamesOther number) (undo_drafts job moment (filter (λ (undo : MemberChange). is_in n undo.change) undos)) _
      (undos-other (filter (λ (undo : MemberChange). is_in n undo.change) undos) (each-filter (ChangesOther number) (λ (undo : MemberChange). is_in n undo.change) undos others)) (refl, tt))
      (cycles-other cycles undos others)

  restart-other : (cycles : List ℕ) (undos : List MemberChange) → AllByRecursion (ChangesOther number) undos → AllByRecursion (NamesOther number) (restart_drafts job moment cycles undos)
  restart-other [] undos others = tt
  restart-other (n ∷ cycles) undos others = (refl, cycles-other (n ∷ cycles) undos others)

  missing-other : (last : Option Entry) → AllByRecursion (NamesOther number) (missing_behind job moment last)
  missing-other None = tt
  missing-other (Some last) = by (missing_kind last.kind)
    where
      by : (o : Option EntryKind) → AllByRecursion (NamesOther number) (missing_draft job moment o)
      by None = tt
      by (Some kind) = (refl, tt)

  -- restart tells nothing of a member that open commit cycles haven't changed
  pub restart-known : (at : ℕ) (j : Journal) (prior : Option Entry) (known : Option Slot) → of_member number (undos_of [] (entry_before None j.kept) j.later) ≡ []
      → known_after at known (acts number prior (restart_entries job moment j)) ≡ known
  restart-known at j prior known none =
      others-known at number _ (last_sequence j + 1) prior known
      (each-append (NamesOther number) (missing_behind job moment (entry_before None (entries_of j))) (restart_drafts job moment (open_cycles j) (undos_of [] (entry_before None j.kept) j.later))
      (missing-other (entry_before None (entries_of j)))
      (restart-other (open_cycles j) (undos_of [] (entry_before None j.kept) j.later) (changes-other number (undos_of [] (entry_before None j.kept) j.later) none)))
