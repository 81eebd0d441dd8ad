-- What is read from the letters and the body of an entry is its kind, and each kind is read again.
use Rattle.std.proofs.Common.{◌≡◌, ℕ, ◌^◌, ◌<◌, true, eqb, List, [], ◌∷◌, ◌++◌, length, IsTrue, Option, Some, None, refl, sym, ap, ◌∙◌, append_assoc, arith}
use Rattle.std.specs.Prelude.{IfSome, ⊤, codes}
use Rattle.std.specs.Str.{bytes_eq}
use Rattle.std.proofs.lemmas.Bool.{eqb-true}
use Rattle.std.proofs.lemmas.List.{append-nil, nil_from_length}
use Rattle.std.proofs.lemmas.Slice.Eq.{bytes_eq-Decides}
use Rattle.field_types.specs.SystemName.{is_name}
use Rattle.entry_codec.specs.declared.kinds.EntryKind.{EntryKind}
use Rattle.entry_codec.specs.declared.kinds.EntryKind.TheVariants.{FileCreated, FileDeleted, MemberAdded, JournalingStarted, InitialSlot, JournalingEnded, MemberCleared, MemberReorganized, ChangesApplied, ChangesRemoved, RecordAdded, RecordAddedAtNumber, BeforeImage, AfterImage, RecordDeleted, UndoBeforeImage, UndoAfterImage, UndoDelete, CommitmentStarted, CommitCycleStarted, CommitCycleCommitted, CommitCycleRolledBack, CommitmentEnded, AbnormalEnd, NextReceiver, PreviousReceiver}
use Rattle.entry_codec.specs.Placing.{letters}
use Rattle.entry_codec.specs.Spelling.{number4, number8, name_field, file_kind_field, images_field, level_field, before_field, image_field, optional_image_field, source_field, body, IsImage, HoldsFields, IsKind}
use Rattle.entry_codec.specs.Reading.{◌>>=◌, Reader, number4_at, number8_at, name_at, file_kind_at, images_at, level_at, before_at, image_at, flagged_image_at, optional_image_at, source_at, all_of, read1, read2, read3, file_kinds_at, member_kinds_at, record_kinds_at, commit_kinds_at, journal_kinds_at, kind_by_code, kind_at}
use Rattle.entry_codec.proofs.Laws.{IsBytes, bind_takes, test_takes, Takes, number4_takes, number8_takes, number4_reads, number8_reads, file_kind_takes, file_kind_reads, images_takes, images_reads, level_takes, level_reads, before_takes, before_reads, image_takes, image_reads, flagged_image_takes, flagged_image_reads, optional_image_takes, optional_image_reads, source_takes, source_reads}
use Rattle.entry_codec.proofs.NameLaws.{name_takes, name_reads}

-- ---- what is read is spelled

-- each image could be a record
abbrev pub HoldsImages : EntryKind → Type 0
HoldsImages (FileCreated kind name source) = ⊤
HoldsImages k = HoldsFields k

-- the kind has these letters and this body
pub record IsKindOf (text bytes : List ℕ) (k : EntryKind) : Type 0 where
  pub letters : text ≡ letters k
  pub body : bytes ≡ body k
  pub images : HoldsImages k
  pub kind : IsKind k

-- a reader takes only what spell spells
abbrev IsReader : {A : Type 0} → (A → List ℕ) → (A → Type 0) → Reader A → Type 0
IsReader {A = A} spell fits a = (bytes : List ℕ) → IsBytes bytes → IfSome (a bytes) (λ x. Takes bytes (spell x.0) x.1 × fits x.0)

all_takes : (Q : EntryKind → Type 0) (k : EntryKind) (rest : List ℕ) → (rest ≡ [] → Q k) → IfSome (all_of k rest) Q
all_takes Q k rest q = test_takes Q (eqb (length rest) 0) (Some k) None (λ is. q (nil_from_length rest (eqb-true (length rest) 0 is))) (λ _. tt)

-- the text that was taken is all of the bytes
taken : (bytes text rest : List ℕ) → Takes bytes text rest → rest ≡ [] → bytes ≡ text
taken bytes text rest t nil = t.parts ∙ ap (λ (r : List ℕ). text ++ r) nil ∙ append-nil text

read1_takes : {A : Type 0} (Q : EntryKind → Type 0) (bytes : List ℕ) → IsBytes bytes → (make : A → EntryKind) (a : Reader A) (spell : A → List ℕ) (fits : A → Type 0) → IsReader spell fits a
    → ((x : A) → fits x → bytes ≡ spell x → Q (make x)) → IfSome (read1 make a bytes) Q
read1_takes Q bytes ok make a spell fits is q =
    bind_takes (λ x. Takes bytes (spell x.0) x.1 × fits x.0) Q (a bytes) (λ x. all_of (make x.0) x.1) (is bytes ok)
    (λ x p. all_takes Q (make x.0) x.1 (λ nil. q x.0 p.1 (taken bytes (spell x.0) x.1 p.0 nil)))

read2_takes : {A B : Type 0} (Q : EntryKind → Type 0) (bytes : List ℕ) → IsBytes bytes → (make : A → B → EntryKind) (a : Reader A) (b : Reader B) (spell_a : A → List ℕ) (spell_b : B → List ℕ) (fits_a : A → Type 0) (fits_b : B → Type 0) → IsReader spell_a fits_a a → IsReader spell_b fits_b b
    → ((x : A) (y : B) → fits_a x → fits_b y → bytes ≡ spell_a x ++ spell_b y → Q (make x y)) → IfSome (read2 make a b bytes) Q
read2_takes Q bytes ok make a b spell_a spell_b fits_a fits_b is_a is_b q =
    bind_takes (λ x. Takes bytes (spell_a x.0) x.1 × fits_a x.0) Q (a bytes) (λ x. b x.1 >>= λ y. all_of (make x.0 y.0) y.1) (is_a bytes ok)
    (λ x p. bind_takes (λ y. Takes x.1 (spell_b y.0) y.1 × fits_b y.0) Q (b x.1) (λ y. all_of (make x.0 y.0) y.1) (is_b x.1 p.0.rest_fits)
    (λ y r. all_takes Q (make x.0 y.0) y.1 (λ nil. q x.0 y.0 p.1 r.1 (p.0.parts ∙ ap (λ (t : List ℕ). spell_a x.0 ++ t) (taken x.1 (spell_b y.0) y.1 r.0 nil)))))

read3_takes : {A B C : Type 0} (Q : EntryKind → Type 0) (bytes : List ℕ) → IsBytes bytes → (make : A → B → C → EntryKind) (a : Reader A) (b : Reader B) (c : Reader C) (spell_a : A → List ℕ) (spell_b : B → List ℕ) (spell_c : C → List ℕ) (fits_a : A → Type 0) (fits_b : B → Type 0) (fits_c : C → Type 0)
    → IsReader spell_a fits_a a → IsReader spell_b fits_b b → IsReader spell_c fits_c c
    → ((x : A) (y : B) (z : C) → fits_a x → fits_b y → fits_c z → bytes ≡ (spell_a x ++ spell_b y) ++ spell_c z → Q (make x y z)) → IfSome (read3 make a b c bytes) Q
read3_takes Q bytes ok make a b c spell_a spell_b spell_c fits_a fits_b fits_c is_a is_b is_c q =
    bind_takes (λ x. Takes bytes (spell_a x.0) x.1 × fits_a x.0) Q (a bytes) (λ x. b x.1 >>= λ y. c y.1 >>= λ z. all_of (make x.0 y.0 z.0) z.1) (is_a bytes ok)
    (λ x p. bind_takes (λ y. Takes x.1 (spell_b y.0) y.1 × fits_b y.0) Q (b x.1) (λ y. c y.1 >>= λ z. all_of (make x.0 y.0 z.0) z.1) (is_b x.1 p.0.rest_fits)
    (λ y r. bind_takes (λ z. Takes y.1 (spell_c z.0) z.1 × fits_c z.0) Q (c y.1) (λ z. all_of (make x.0 y.0 z.0) z.1) (is_c y.1 r.0.rest_fits)
    (λ z s. all_takes Q (make x.0 y.0 z.0) z.1
    (λ nil. q x.0 y.0 z.0 p.1 r.1 s.1 (p.0.parts ∙ ap (λ (t : List ℕ). spell_a x.0 ++ t) (r.0.parts ∙ ap (λ (t : List ℕ). spell_b y.0 ++ t) (taken y.1 (spell_c z.0) z.1 s.0 nil)) ∙ sym (append_assoc (spell_a x.0) (spell_b y.0) (spell_c z.0)))))))

text_is : (text code : List ℕ) → bytes_eq text code ≡ true → text ≡ code
text_is text code h = (bytes_eq-Decides text code).0 h

abbrev IsAny : {A : Type 0} → A → Type 0
IsAny x = ⊤

abbrev IsSystemName : List ℕ → Type 0
IsSystemName name = IsTrue (is_name name)

abbrev Is32 : ℕ → Type 0
Is32 n = n < 2 ^ 32

abbrev Is64 : ℕ → Type 0
Is64 n = n < 2 ^ 64

abbrev IsKept : Option (List ℕ) → Type 0
IsKept kept = IfSome kept IsImage

abbrev same : List ℕ → List ℕ
same bytes = bytes

file_kinds_takes : (text bytes : List ℕ) → IsBytes bytes → IfSome (file_kinds_at text bytes) (IsKindOf text bytes)
unfolding file_kinds_at
file_kinds_takes text bytes ok =
    let Q = IsKindOf text bytes in
    let is = text_is text in
    test_takes Q _ _ _ (λ h. read3_takes Q bytes ok FileCreated file_kind_at name_at source_at file_kind_field name_field source_field IsAny IsSystemName IsAny file_kind_takes name_takes source_takes (λ x y z p q r e. record { letters = is (codes "DCT") h; body = e; images = tt; kind = q }))
    (λ _. test_takes Q _ _ _ (λ h. read1_takes Q bytes ok FileDeleted name_at name_field IsSystemName name_takes (λ x p e. record { letters = is (codes "DDT") h; body = e; images = tt; kind = p }))
    (λ _. test_takes Q _ _ _ (λ h. read2_takes Q bytes ok MemberAdded name_at name_at name_field name_field IsSystemName IsSystemName name_takes name_takes (λ x y p q e. record { letters = is (codes "DAM") h; body = e; images = tt; kind = (p, q) }))
    (λ _. tt)))

member_kinds_takes : (text bytes : List ℕ) → IsBytes bytes → IfSome (member_kinds_at text bytes) (IsKindOf text bytes)
unfolding member_kinds_at
member_kinds_takes text bytes ok =
    let Q = IsKindOf text bytes in
    let is = text_is text in
    test_takes Q _ _ _ (λ h. read2_takes Q bytes ok JournalingStarted images_at number4_at images_field number4 IsAny Is32 images_takes number4_takes (λ x y p q e. record { letters = is (codes "FJM") h; body = e; images = tt; kind = q }))
    (λ _. test_takes Q _ _ _ (λ h. read1_takes Q bytes ok InitialSlot flagged_image_at image_field IsImage flagged_image_takes (λ x p e. record { letters = is (codes "FIS") h; body = e; images = p; kind = tt }))
    (λ _. test_takes Q _ _ _ (λ h. all_takes Q JournalingEnded bytes (λ e. record { letters = is (codes "FEJ") h; body = e; images = tt; kind = tt }))
    (λ _. test_takes Q _ _ _ (λ h. all_takes Q MemberCleared bytes (λ e. record { letters = is (codes "FCR") h; body = e; images = tt; kind = tt }))
    (λ _. test_takes Q _ _ _ (λ h. all_takes Q MemberReorganized bytes (λ e. record { letters = is (codes "FRG") h; body = e; images = tt; kind = tt }))
    (λ _. test_takes Q _ _ _ (λ h. read3_takes Q bytes ok ChangesApplied number8_at number8_at number4_at number8 number8 number4 Is64 Is64 Is32 number8_takes number8_takes number4_takes (λ x y z p q r e. record { letters = is (codes "FAY") h; body = e; images = tt; kind = (p, q, r) }))
    (λ _. test_takes Q _ _ _ (λ h. read3_takes Q bytes ok ChangesRemoved number8_at number8_at number4_at number8 number8 number4 Is64 Is64 Is32 number8_takes number8_takes number4_takes (λ x y z p q r e. record { letters = is (codes "FRC") h; body = e; images = tt; kind = (p, q, r) }))
    (λ _. tt)))))))

record_kinds_takes : (text bytes : List ℕ) → IsBytes bytes → IfSome (record_kinds_at text bytes) (IsKindOf text bytes)
unfolding record_kinds_at
record_kinds_takes text bytes ok =
    let Q = IsKindOf text bytes in
    let is = text_is text in
    test_takes Q _ _ _ (λ h. read1_takes Q bytes ok RecordAdded flagged_image_at image_field IsImage flagged_image_takes (λ x p e. record { letters = is (codes "RPT") h; body = e; images = p; kind = tt }))
    (λ _. test_takes Q _ _ _ (λ h. read1_takes Q bytes ok RecordAddedAtNumber flagged_image_at image_field IsImage flagged_image_takes (λ x p e. record { letters = is (codes "RPX") h; body = e; images = p; kind = tt }))
    (λ _. test_takes Q _ _ _ (λ h. read1_takes Q bytes ok BeforeImage flagged_image_at image_field IsImage flagged_image_takes (λ x p e. record { letters = is (codes "RUB") h; body = e; images = p; kind = tt }))
    (λ _. test_takes Q _ _ _ (λ h. read2_takes Q bytes ok AfterImage before_at image_at before_field same IsAny IsImage before_takes image_takes (λ x y p q e. record { letters = is (codes "RUP") h; body = e; images = q; kind = tt }))
    (λ _. test_takes Q _ _ _ (λ h. read1_takes Q bytes ok RecordDeleted optional_image_at optional_image_field IsKept optional_image_takes (λ x p e. record { letters = is (codes "RDL") h; body = e; images = p; kind = tt }))
    (λ _. test_takes Q _ _ _ (λ h. read1_takes Q bytes ok UndoBeforeImage flagged_image_at image_field IsImage flagged_image_takes (λ x p e. record { letters = is (codes "RBR") h; body = e; images = p; kind = tt }))
    (λ _. test_takes Q _ _ _ (λ h. read2_takes Q bytes ok UndoAfterImage before_at image_at before_field same IsAny IsImage before_takes image_takes (λ x y p q e. record { letters = is (codes "RUR") h; body = e; images = q; kind = tt }))
    (λ _. test_takes Q _ _ _ (λ h. read1_takes Q bytes ok UndoDelete flagged_image_at image_field IsImage flagged_image_takes (λ x p e. record { letters = is (codes "RDR") h; body = e; images = p; kind = tt }))
    (λ _. tt))))))))

commit_kinds_takes : (text bytes : List ℕ) → IsBytes bytes → IfSome (commit_kinds_at text bytes) (IsKindOf text bytes)
unfolding commit_kinds_at
commit_kinds_takes text bytes ok =
    let Q = IsKindOf text bytes in
    let is = text_is text in
    test_takes Q _ _ _ (λ h. read1_takes Q bytes ok CommitmentStarted level_at level_field IsAny level_takes (λ x p e. record { letters = is (codes "CBC") h; body = e; images = tt; kind = tt }))
    (λ _. test_takes Q _ _ _ (λ h. all_takes Q CommitCycleStarted bytes (λ e. record { letters = is (codes "CSC") h; body = e; images = tt; kind = tt }))
    (λ _. test_takes Q _ _ _ (λ h. all_takes Q CommitCycleCommitted bytes (λ e. record { letters = is (codes "CCM") h; body = e; images = tt; kind = tt }))
    (λ _. test_takes Q _ _ _ (λ h. all_takes Q CommitCycleRolledBack bytes (λ e. record { letters = is (codes "CRB") h; body = e; images = tt; kind = tt }))
    (λ _. test_takes Q _ _ _ (λ h. all_takes Q CommitmentEnded bytes (λ e. record { letters = is (codes "CEC") h; body = e; images = tt; kind = tt }))
    (λ _. tt)))))

journal_kinds_takes : (text bytes : List ℕ) → IsBytes bytes → IfSome (journal_kinds_at text bytes) (IsKindOf text bytes)
unfolding journal_kinds_at
journal_kinds_takes text bytes ok =
    let Q = IsKindOf text bytes in
    let is = text_is text in
    test_takes Q _ _ _ (λ h. all_takes Q AbnormalEnd bytes (λ e. record { letters = is (codes "JIA") h; body = e; images = tt; kind = tt }))
    (λ _. test_takes Q _ _ _ (λ h. read1_takes Q bytes ok NextReceiver number4_at number4 Is32 number4_takes (λ x p e. record { letters = is (codes "JNR") h; body = e; images = tt; kind = p }))
    (λ _. test_takes Q _ _ _ (λ h. read1_takes Q bytes ok PreviousReceiver number4_at number4 Is32 number4_takes (λ x p e. record { letters = is (codes "JPR") h; body = e; images = tt; kind = p }))
    (λ _. tt)))

kind_by_code_takes : (code : ℕ) (text bytes : List ℕ) → IsBytes bytes → IfSome (kind_by_code code text bytes) (IsKindOf text bytes)
unfolding kind_by_code
kind_by_code_takes code text bytes ok =
    let Q = IsKindOf text bytes in
    test_takes Q (eqb code 68) _ _ (λ _. file_kinds_takes text bytes ok)
    (λ _. test_takes Q (eqb code 70) _ _ (λ _. member_kinds_takes text bytes ok)
    (λ _. test_takes Q (eqb code 82) _ _ (λ _. record_kinds_takes text bytes ok)
    (λ _. test_takes Q (eqb code 67) _ _ (λ _. commit_kinds_takes text bytes ok)
    (λ _. test_takes Q (eqb code 74) _ _ (λ _. journal_kinds_takes text bytes ok) (λ _. tt)))))

pub kind_takes : (text bytes : List ℕ) → IsBytes bytes → IfSome (kind_at text bytes) (IsKindOf text bytes)
unfolding kind_at
kind_takes [] bytes ok = tt
kind_takes (code ∷ type) bytes ok = kind_by_code_takes code (code ∷ type) bytes ok

-- ---- what is spelled is read

read1_reads : {A : Type 0} (make : A → EntryKind) (a : Reader A) (x : A) (text : List ℕ) → a text ≡ Some (x, []) → read1 make a text ≡ Some (make x)
read1_reads make a x text h = rw h refl

read2_reads : {A B : Type 0} (make : A → B → EntryKind) (a : Reader A) (b : Reader B) (x : A) (y : B) (s t : List ℕ) → a (s ++ t) ≡ Some (x, t) → b t ≡ Some (y, []) → read2 make a b (s ++ t) ≡ Some (make x y)
read2_reads make a b x y s t h i = rw (h, i) refl

read3_reads : {A B C : Type 0} (make : A → B → C → EntryKind) (a : Reader A) (b : Reader B) (c : Reader C) (x : A) (y : B) (z : C) (s t u : List ℕ) → a (s ++ (t ++ u)) ≡ Some (x, t ++ u) → b (t ++ u) ≡ Some (y, u) → c u ≡ Some (z, [])
    → read3 make a b c ((s ++ t) ++ u) ≡ Some (make x y z)
read3_reads make a b c x y z s t u h i j = ap (read3 make a b c) (append_assoc s t u) ∙ rw (h, i, j) refl

-- a field that is all that is left
last : {A : Type 0} (a : Reader A) (x : A) (text : List ℕ) → a (text ++ []) ≡ Some (x, []) → a text ≡ Some (x, [])
last a x text h = ap a (sym (append-nil text)) ∙ h

pub kind_reads : (k : EntryKind) → HoldsFields k → IsKind k → kind_at (letters k) (body k) ≡ Some k
unfolding kind_at kind_by_code file_kinds_at member_kinds_at record_kinds_at commit_kinds_at journal_kinds_at
kind_reads (FileCreated kind name source) holds is =
    let fits : length source < 2 ^ 32 = omega arith in
    read3_reads FileCreated file_kind_at name_at source_at kind name source (file_kind_field kind) (name_field name) (source_field source) (file_kind_reads kind (name_field name ++ source_field source)) (name_reads name (source_field source) is) (last source_at source (source_field source) (source_reads source [] fits))
kind_reads (FileDeleted name) holds is = read1_reads FileDeleted name_at name (name_field name) (last name_at name (name_field name) (name_reads name [] is))
kind_reads (MemberAdded file name) holds is = read2_reads MemberAdded name_at name_at file name (name_field file) (name_field name) (name_reads file (name_field name) is.0) (last name_at name (name_field name) (name_reads name [] is.1))
kind_reads (JournalingStarted kept slots) holds is = read2_reads JournalingStarted images_at number4_at kept slots (images_field kept) (number4 slots) (images_reads kept (number4 slots)) (last number4_at slots (number4 slots) (number4_reads slots [] is))
kind_reads (InitialSlot image) holds is = read1_reads InitialSlot flagged_image_at image (image_field image) (flagged_image_reads image holds)
kind_reads JournalingEnded holds is = refl
kind_reads MemberCleared holds is = refl
kind_reads MemberReorganized holds is = refl
kind_reads (ChangesApplied first last_one changes) holds is = read3_reads ChangesApplied number8_at number8_at number4_at first last_one changes (number8 first) (number8 last_one) (number4 changes) (number8_reads first (number8 last_one ++ number4 changes) is.0) (number8_reads last_one (number4 changes) is.1) (last number4_at changes (number4 changes) (number4_reads changes [] is.2))
kind_reads (ChangesRemoved first last_one changes) holds is = read3_reads ChangesRemoved number8_at number8_at number4_at first last_one changes (number8 first) (number8 last_one) (number4 changes) (number8_reads first (number8 last_one ++ number4 changes) is.0) (number8_reads last_one (number4 changes) is.1) (last number4_at changes (number4 changes) (number4_reads changes [] is.2))
kind_reads (RecordAdded image) holds is = read1_reads RecordAdded flagged_image_at image (image_field image) (flagged_image_reads image holds)
kind_reads (RecordAddedAtNumber image) holds is = read1_reads RecordAddedAtNumber flagged_image_at image (image_field image) (flagged_image_reads image holds)
kind_reads (BeforeImage image) holds is = read1_reads BeforeImage flagged_image_at image (image_field image) (flagged_image_reads image holds)
kind_reads (AfterImage has_before image) holds is = read2_reads AfterImage before_at image_at has_before image (before_field has_before) image (before_reads has_before image) (image_reads image holds)
kind_reads (RecordDeleted before) holds is = read1_reads RecordDeleted optional_image_at before (optional_image_field before) (optional_image_reads before holds)
kind_reads (UndoBeforeImage image) holds is = read1_reads UndoBeforeImage flagged_image_at image (image_field image) (flagged_image_reads image holds)
kind_reads (UndoAfterImage has_before image) holds is = read2_reads UndoAfterImage before_at image_at has_before image (before_field has_before) image (before_reads has_before image) (image_reads image holds)
kind_reads (UndoDelete image) holds is = read1_reads UndoDelete flagged_image_at image (image_field image) (flagged_image_reads image holds)
kind_reads (CommitmentStarted level) holds is = read1_reads CommitmentStarted level_at level (level_field level) (last level_at level (level_field level) (level_reads level []))
kind_reads CommitCycleStarted holds is = refl
kind_reads CommitCycleCommitted holds is = refl
kind_reads CommitCycleRolledBack holds is = refl
kind_reads CommitmentEnded holds is = refl
kind_reads AbnormalEnd holds is = refl
kind_reads (NextReceiver number) holds is = read1_reads NextReceiver number4_at number (number4 number) (last number4_at number (number4 number) (number4_reads number [] is))
kind_reads (PreviousReceiver number) holds is = read1_reads PreviousReceiver number4_at number (number4 number) (last number4_at number (number4 number) (number4_reads number [] is))
