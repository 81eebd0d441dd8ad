-- That what several requests look up is refused by no fault.
use Rattle.std.proofs.Common.{refl, false, true, List, [], ◌∷◌, Bool, Option, Some, None, Ok, Err, ℕ, ◌+◌}
use Rattle.std.specs.Prelude.{nat_lt, ◌&&◌, ◌||◌, not, length}
use Rattle.library_model.specs.declared.replies.Reply.TheVariants.{NoSuchName, LimitReached, RecordInUse, HeldByGroup, DuplicateKey, WrongOpen}
use Rattle.library_model.specs.declared.replies.Missing.TheVariants.{Name}
use Rattle.library_model.specs.declared.replies.LimitKind.TheVariants.{Sequences, Locks, GroupChanges, GroupBytes}
use Rattle.library_model.specs.Named.{named}
use Rattle.library_steps.specs.declared.limits.TheConstants.{LAST_SEQUENCE, MOST_GROUP_CHANGES, MOST_GROUP_BYTES}
use Rattle.library_steps.specs.State.{Memory, FileState, OpenState, file_named, physical_named, open_named, job_of}
use Rattle.library_steps.specs.Refusals.{sequences_left, member_of_file, opened_file}
use Rattle.member_slots.specs.declared.slot.Slot.{Slot}
use Rattle.file_model.specs.Paths.{repeated_in}
use Rattle.lock_table.specs.declared.levels.Call.{Call}
use Rattle.lock_table.specs.declared.table.TheConstants.{MOST_LOCKS}
use Rattle.field_types.specs.declared.values.Value.{Value}
use Rattle.field_types.specs.declared.faults.RecordFault.{RecordFault}
use Rattle.key_spec.specs.declared.KeyPart.{KeyPart}
use Rattle.logical_model.specs.Formats.{parts_in}
use Rattle.logical_model.specs.Readings.{has_numbers}
use Rattle.library_steps.specs.Records.{is_keyed, key_fault, key_or_fault, key_asked, number_asked}
use Rattle.library_steps.specs.UniqueKeys.{UniquePath, NewKey, new_keys, reservation_of_others, own_reservation, not_reserved, none_reserved, other_record, none_repeated, keys_free, all_apart}
use Rattle.library_steps.specs.Locking.{locks_left, clashing, not_locked, few_locks}
use Rattle.library_steps.specs.SlotChange.{has_changed_record, not_held, undo_bytes, open_changes, open_bytes, few_changes}
use Rattle.library_core.proofs.RefusalLemmas.{Tells, ok-tells, then-tells, refused-last, refused-then, reason-last, reason-then, found-then, if-tells}

pub sequences_left-tells : (m : Memory) → Tells (sequences_left m)
sequences_left-tells m = refused-last (nat_lt LAST_SEQUENCE m.last_entry) (LimitReached Sequences LAST_SEQUENCE) refl

pub member_of_file-tells : (file_name member_name : List ℕ) (m : Memory) → Tells (member_of_file file_name member_name m)
member_of_file-tells file_name member_name m =
    found-then (physical_named file_name m) (NoSuchName (Name file_name)) _ refl (λ file.
    found-then (named member_name file.members) (NoSuchName (Name member_name)) _ refl (λ status.
    ok-tells _))

pub opened_file-tells : (name : List ℕ) (job : ℕ) (m : Memory) → Tells (opened_file name job m)
opened_file-tells name job m =
    found-then (open_named name job m) (NoSuchName (Name name)) _ refl (λ opened.
    found-then (file_named opened.file m) (NoSuchName (Name opened.file)) _ refl (λ file.
    ok-tells _))

-- ---- keys

not_reserved-tells : (job : ℕ) (commit : Bool) (new : NewKey) (m : Memory) → Tells (not_reserved job commit new m)
not_reserved-tells job commit new m =
    reason-then (λ r. RecordInUse r.job new.format.member r.rrn) (reservation_of_others job new m) _ (λ a. refl) (λ go.
    reason-last (λ r. HeldByGroup r.rrn) (own_reservation job commit new m) (λ a. refl))

none_reserved-tells : (job : ℕ) (commit : Bool) (it : List NewKey) (m : Memory) → Tells (none_reserved job commit it m)
none_reserved-tells job commit [] m = ok-tells _
none_reserved-tells job commit (new ∷ keys) m =
    then-tells (not_reserved job commit new m) _ (not_reserved-tells job commit new m) (λ go.
    none_reserved-tells job commit keys m)

none_repeated-tells : (rrn : ℕ) (it : List NewKey) (m : Memory) → Tells (none_repeated rrn it m)
none_repeated-tells rrn [] m = ok-tells _
none_repeated-tells rrn (new ∷ keys) m =
    reason-then (λ other. DuplicateKey new.file other) (other_record new rrn m) _ (λ a. refl) (λ go.
    none_repeated-tells rrn keys m)

pub keys_free-tells : (job : ℕ) (commit : Bool) (member rrn : ℕ) (old : Slot) (image : List ℕ) (m : Memory) → Tells (keys_free job commit member rrn old image m)
keys_free-tells job commit member rrn old image m =
    then-tells (none_reserved job commit (new_keys member old image m) m) _ (none_reserved-tells job commit (new_keys member old image m) m) (λ go.
    none_repeated-tells rrn (new_keys member old image m) m)

pub all_apart-tells : (it : List UniquePath) (m : Memory) → Tells (all_apart it m)
all_apart-tells [] m = ok-tells _
all_apart-tells (unique ∷ paths) m =
    reason-then (λ rrn. DuplicateKey unique.file rrn) (repeated_in unique.path m.members) _ (λ a. refl) (λ go.
    all_apart-tells paths m)

key_or_fault-tells : (parts : List KeyPart) (values : List Value) (fault : Option RecordFault) → Tells (key_or_fault parts values fault)
key_or_fault-tells parts values None = ok-tells _
key_or_fault-tells parts values (Some fault) = record { told = refl }

pub key_asked-tells : (file : FileState) (opened : OpenState) (values : List Value) → Tells (key_asked file opened values)
key_asked-tells file opened values =
    if-tells (is_keyed file opened) (key_or_fault (parts_in file.spec) values (key_fault (parts_in file.spec) values)) (Err WrongOpen)
    (key_or_fault-tells (parts_in file.spec) values (key_fault (parts_in file.spec) values)) (record { told = refl })

pub number_asked-tells : (file : FileState) (opened : OpenState) (rrn : ℕ) → Tells (number_asked file opened rrn)
number_asked-tells file opened rrn = if-tells (is_keyed file opened || not (has_numbers file.spec)) (Err WrongOpen) (Ok rrn) (record { told = refl }) (ok-tells rrn)

-- ---- records

pub not_locked-tells : (call : Call) (job : ℕ) (opened : OpenState) (rrn : ℕ) (m : Memory) → Tells (not_locked call job opened rrn m)
not_locked-tells call job opened rrn m = reason-last (λ other. RecordInUse other opened.member rrn) (clashing call job opened rrn m) (λ a. refl)

pub few_locks-tells : (call : Call) (job : ℕ) (opened : OpenState) (rrn : ℕ) (m : Memory) → Tells (few_locks call job opened rrn m)
few_locks-tells call job opened rrn m = refused-last (nat_lt MOST_LOCKS (length (locks_left call job opened rrn m))) (LimitReached Locks MOST_LOCKS) refl

pub not_held-tells : (job : ℕ) (opened : OpenState) (rrn : ℕ) (m : Memory) → Tells (not_held job opened rrn m)
not_held-tells job opened rrn m = refused-last (not opened.commit && has_changed_record opened.member rrn (job_of job m)) (HeldByGroup rrn) refl

pub few_changes-tells : (it : Bool) (old new : Slot) (m : Memory) → Tells (few_changes it old new m)
few_changes-tells false old new m = ok-tells _
few_changes-tells true old new m =
    refused-then (nat_lt MOST_GROUP_CHANGES (open_changes m + 1)) (LimitReached GroupChanges MOST_GROUP_CHANGES) _ refl (λ go.
    refused-last (nat_lt MOST_GROUP_BYTES (open_bytes m + undo_bytes old new)) (LimitReached GroupBytes MOST_GROUP_BYTES) refl)
