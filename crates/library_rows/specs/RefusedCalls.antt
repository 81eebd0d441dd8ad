-- Calls that are refused.
use Rattle.std.specs.Prelude.{ℕ, true, false, Bool, Some, None, List, [], ◌∷◌, ◌++◌, codes}
use Rattle.commit_level.specs.declared.Level.TheVariants.{Chg, All as AllLevel}
use Rattle.entry_codec.specs.declared.kinds.Images.TheVariants.{Both, After}
use Rattle.field_types.specs.declared.values.Value.TheVariants.{Chars}
use Rattle.library_model.specs.declared.requests.Request.{Request}
use Rattle.library_model.specs.declared.requests.Request.TheVariants as request
use Rattle.library_model.specs.declared.requests.FileMember.{FileMember}
use Rattle.library_model.specs.declared.requests.OpenOption.TheVariants.{Input, All}
use Rattle.library_model.specs.declared.requests.AccessPath.TheVariants.{File, Arrival}
use Rattle.library_model.specs.declared.requests.LockOption.TheVariants.{Default}
use Rattle.library_model.specs.declared.requests.Limit.{Limit}
use Rattle.library_model.specs.declared.requests.Limit.TheVariants as limit
use Rattle.library_model.specs.declared.requests.ChainTo.TheVariants as chain_to
use Rattle.library_model.specs.declared.requests.RangeEnd.{RangeEnd}
use Rattle.library_rows.specs.Customers.{cust}
use Rattle.library_rows.specs.Calls.{Asked, by, three_customers, journal, opens, open_as, close, write, chain, chain_key, update, delete, start_commitment}
use Rattle.library_rows.specs.Locks.{at_level}
use Rattle.library_rows.specs.Cycles.{pending}
use Rattle.library_rows.specs.MemberCalls.{its_member, after_alone}

-- names that nothing has
abbrev pub none : List ℕ
none = codes "NONE"

abbrev pub new : List ℕ
new = codes "NEW"

-- a name of seven characters, which no field takes
abbrev pub too_long : List ℕ
too_long = codes "TOOLONG"

abbrev pub nowhere : FileMember
nowhere = record { file = none; member = none }

abbrev pub create : (file source : List ℕ) → Request
create file source = request.CreatePhysicalFile (record { file = file; source = source })

abbrev pub drop_file : List ℕ → Request
drop_file file = request.DeleteFile (record { file = file })

abbrev pub journal_of : (file member : List ℕ) → Request
journal_of file member = request.StartJournaling (record { file = file; member = member; images = After })

abbrev pub give_up : ℕ → Request
give_up number = request.DeleteReceiver (record { number = number })

abbrev pub display : (first last : ℕ) → Request
display first last = request.DisplayJournal (record { from = first; to = last })

abbrev pub apply_in : (file member : List ℕ) → RangeEnd → RangeEnd → Request
apply_in file member first last = request.ApplyChanges (record { file = file; member = member; from = first; to = last })

abbrev pub remove_in : (file member : List ℕ) → RangeEnd → RangeEnd → Request
remove_in file member first last = request.RemoveChanges (record { file = file; member = member; from = first; to = last })

abbrev pub open_of : (file member name : List ℕ) → (commit : Bool) → Request
open_of file member name commit = request.OpenFile (record { file = file; option = All; member = member; open_id = name; commit = commit; access_path = File })

-- opens that read alone, and that read in arrival order
abbrev pub open_for_input : List ℕ → Request
open_for_input name = request.OpenFile (record { file = cust; option = Input; member = cust; open_id = name; commit = false; access_path = File })

abbrev pub open_by_arrival : List ℕ → Request
open_by_arrival name = request.OpenFile (record { file = cust; option = All; member = cust; open_id = name; commit = false; access_path = Arrival })

abbrev pub set_lower_to : Limit → List ℕ → Request
set_lower_to to name = request.SetLowerLimit (record { open_id = name; to = to })

abbrev pub set_greater_to : Limit → List ℕ → Request
set_greater_to to name = request.SetGreaterThan (record { open_id = name; to = to })

-- a key of more values than the file has key fields
abbrev pub two_values : Limit
two_values = limit.Key (Chars (codes "A") ∷ Chars (codes "B") ∷ [])

abbrev pub read_equal_to_two : List ℕ → Request
read_equal_to_two name = request.ReadEqual (record { open_id = name; key = Chars (codes "A") ∷ Chars (codes "B") ∷ []; lock = Default })

abbrev pub chain_to_two : List ℕ → Request
chain_to_two name = request.Chain (record { open_id = name; to = chain_to.Key (Chars (codes "A") ∷ Chars (codes "B") ∷ []); lock = Default })

abbrev pub read_prior_equal : List ℕ → (customer : List ℕ) → Request
read_prior_equal name customer = request.ReadPriorEqual (record { open_id = name; key = Chars customer ∷ []; lock = Default })

abbrev pub write_as : (format name customer : List ℕ) → Request
write_as format name customer = request.Write (record { open_id = name; format = Some format; record_number = None; values = Some (Chars customer) ∷ [] })

abbrev pub write_nothing : List ℕ → Request
write_nothing name = request.Write (record { open_id = name; format = None; record_number = None; values = [] })

abbrev pub update_nothing : List ℕ → Request
update_nothing name = request.Update (record { open_id = name; values = [] })

-- ---- calls before those that are refused

-- J1 has no open, and a commit cycle with changes of the member
abbrev pub left_pending : List Asked
left_pending = pending ++ by 1 (close cust) ∷ by 1 (close (codes "U")) ∷ []

-- J1 has no open and no commit cycle, and keeps a lock on record 1 to the boundary
abbrev pub left_locked : List Asked
left_locked = at_level AllLevel ++ by 1 (chain (codes "U") 1) ∷ by 1 (close cust) ∷ by 1 (close (codes "U")) ∷ []

abbrev pub closed_customers : List Asked
closed_customers = three_customers ++ by 1 (close cust) ∷ []

-- 2 JM; 3 BC; 4 SC, 5 PT, 6 CM; 7 EJ; 8 JM
abbrev pub journaled_twice : List Asked
journaled_twice =
    by 1 (journal Both) ∷ by 1 (start_commitment Chg) ∷ by 1 (open_as (codes "U") true) ∷ by 1 (write (codes "U") (codes "A")) ∷ by 1 request.Commit
    ∷ by 1 (close (codes "U")) ∷ by 1 (request.EndJournaling its_member) ∷ by 1 (journal Both) ∷ []

-- 2 JM; 3 CR
abbrev pub cleared_at_once : List Asked
cleared_at_once = by 1 (journal Both) ∷ by 1 (request.ClearMember its_member) ∷ []

-- 3 PT and 4 UP of record 1, without before images; 5 CR; 6 PT
abbrev pub cleared_later : List Asked
cleared_later = after_alone ++ by 1 (request.ClearMember its_member) ∷ by 1 opens ∷ by 1 (write cust (codes "C")) ∷ by 1 (close cust) ∷ []

-- 3 PT and 4 UP of record 1, without before images; 5 DL
abbrev pub deleted_later : List Asked
deleted_later = after_alone ++ by 1 opens ∷ by 1 (chain cust 1) ∷ by 1 (delete cust) ∷ by 1 (close cust) ∷ []

-- J1 deletes record 1 in a commit cycle, and has the open CUST without commitment
abbrev pub first_deleted : List Asked
first_deleted = three_customers ++ by 1 (start_commitment Chg) ∷ by 1 (open_as (codes "U") true) ∷ by 1 (chain (codes "U") 1) ∷ by 1 (delete (codes "U")) ∷ []

-- J1 changes record 1 in a commit cycle, and has it for update through the open CUST without commitment
abbrev pub first_changed : List Asked
first_changed = three_customers ++ by 1 (start_commitment Chg) ∷ by 1 (open_as (codes "U") true) ∷ by 1 (chain (codes "U") 1)
    ∷ by 1 (update (codes "U") (codes "A1")) ∷ by 1 (chain cust 1) ∷ []

-- an open U under commitment that has record 1 for update
abbrev pub first_for_update : List Asked
first_for_update = three_customers ++ by 1 (start_commitment Chg) ∷ by 1 (open_as (codes "U") true) ∷ by 1 (chain (codes "U") 1) ∷ []

-- the same by key, where the customers are A and B
abbrev pub keyed_for_update : List Asked
keyed_for_update = by 1 (journal Both) ∷ by 1 opens ∷ by 1 (write cust (codes "A")) ∷ by 1 (write cust (codes "B"))
    ∷ by 1 (start_commitment Chg) ∷ by 1 (open_as (codes "U") true) ∷ by 1 (chain_key (codes "U") (codes "A")) ∷ []
