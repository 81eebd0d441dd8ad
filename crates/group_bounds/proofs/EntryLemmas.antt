-- What an entry is to commit cycles doesn't depend on the entry before it.
use Rattle.std.proofs.Common.{◌≡◌, ℕ, Bool, true, false, cond, List, [], ◌∷◌, ◌++◌, map, reverse, Option, Some, None, refl, sym, ap, ◌∙◌}
use Rattle.std.proofs.lemmas.List.{reverse-append, map-append}
use Rattle.entry_codec.specs.declared.entries.Entry.{Entry}
use Rattle.entry_codec.specs.declared.kinds.EntryKind.{EntryKind}
use Rattle.entry_codec.specs.declared.kinds.EntryKind.TheVariants.{FileCreated, FileDeleted, MemberAdded, JournalingStarted, InitialSlot, JournalingEnded, MemberCleared, MemberReorganized, ChangesApplied, ChangesRemoved, RecordAdded, RecordAddedAtNumber, BeforeImage, AfterImage}
use Rattle.entry_codec.specs.declared.kinds.EntryKind.TheVariants.{RecordDeleted, UndoBeforeImage, UndoAfterImage, UndoDelete, CommitmentStarted, CommitCycleStarted, CommitCycleCommitted, CommitCycleRolledBack, CommitmentEnded, AbnormalEnd, NextReceiver, PreviousReceiver}
use Rattle.journal_model.specs.Acts.{act_there, act_elsewhere, is_number, act, acts}
use Rattle.group_bounds.specs.declared.roles.Role.{Role}
use Rattle.group_bounds.specs.Walk.{role_of, entry_role}

role-there : (kind : EntryKind) (prior : Option Entry) (e : Entry) → role_of (act_there kind prior e) ≡ role_of (act_there kind None e)
role-there (FileCreated kind name source) prior e = refl
role-there (FileDeleted name) prior e = refl
role-there (MemberAdded file name) prior e = refl
role-there (JournalingStarted images slots) prior e = refl
role-there (InitialSlot image) prior e = refl
role-there JournalingEnded prior e = refl
role-there MemberCleared prior e = refl
role-there MemberReorganized prior e = refl
role-there (ChangesApplied first last changes) prior e = refl
role-there (ChangesRemoved first last changes) prior e = refl
role-there (RecordAdded image) prior e = refl
role-there (RecordAddedAtNumber image) prior e = refl
role-there (BeforeImage image) prior e = refl
role-there (AfterImage true image) prior e = refl
role-there (AfterImage false image) prior e = refl
role-there (RecordDeleted before) prior e = refl
role-there (UndoBeforeImage image) prior e = refl
role-there (UndoAfterImage true image) prior e = refl
role-there (UndoAfterImage false image) prior e = refl
role-there (UndoDelete image) prior e = refl
role-there (CommitmentStarted level) prior e = refl
role-there CommitCycleStarted prior e = refl
role-there CommitCycleCommitted prior e = refl
role-there CommitCycleRolledBack prior e = refl
role-there CommitmentEnded prior e = refl
role-there AbnormalEnd prior e = refl
role-there (NextReceiver number) prior e = refl
role-there (PreviousReceiver number) prior e = refl

role-act : (member : ℕ) (prior : Option Entry) (e : Entry) → role_of (act member prior e) ≡ entry_role member e
role-act member prior e = at (is_number e.member member) where
  at : (b : Bool) → role_of (cond b (act_there e.kind prior e) (act_elsewhere e.kind e)) ≡ role_of (cond b (act_there e.kind None e) (act_elsewhere e.kind e))
  at true = role-there e.kind prior e
  at false = refl

pub roles-acts : (member : ℕ) (entries : List Entry) (prior : Option Entry) → map role_of (acts member prior entries) ≡ map (entry_role member) entries
roles-acts member [] prior = refl
roles-acts member (e ∷ entries) prior = ap (λ (r : Role). r ∷ map role_of (acts member (Some e) entries)) (role-act member prior e)
    ∙ ap (λ (rs : List Role). entry_role member e ∷ rs) (roles-acts member entries (Some e))

pub map-reverse : {X Y : Type 0} (f : X → Y) (xs : List X) → map f (reverse xs) ≡ reverse (map f xs)
map-reverse f [] = refl
map-reverse f (x ∷ xs) =
    ap (map f) (reverse-append (x ∷ []) xs) ∙ map-append f (reverse xs) (x ∷ []) ∙ ap (λ ys. ys ++ f x ∷ []) (map-reverse f xs)
    ∙ sym (reverse-append (f x ∷ []) (map f xs))

-- and gone through backwards
pub roles-back : (member : ℕ) (entries : List Entry) (prior : Option Entry) → map role_of (reverse (acts member prior entries)) ≡ map (entry_role member) (reverse entries)
roles-back member entries prior =
    map-reverse role_of (acts member prior entries) ∙ ap reverse (roles-acts member entries prior) ∙ sym (map-reverse (entry_role member) entries)
