-- What the locks leave as it was, and the memory once a position is set or a record is read.
use Rattle.std.proofs.Common.{◌≡◌, ℕ, Option, None, Some, Ok, List, sym, ◌∙◌, ap, subst}
use Rattle.lock_table.specs.declared.lock.Lock.{Lock}
use Rattle.lock_table.specs.declared.levels.Call.TheVariants.{Position as PositionCall}
use Rattle.file_model.specs.Paths.{PathEntry}
use Rattle.file_model.specs.Positions.{Position}
use Rattle.open_position.specs.declared.reads.ReadBy.{ReadBy}
use Rattle.open_position.specs.Reads.{IsAskedOf}
use Rattle.library_steps.specs.State.{Memory, FileState, OpenState, with_job}
use Rattle.library_steps.specs.LogicalFiles.{bases_of}
use Rattle.library_steps.specs.Refusals.{OpenedFile, opened_file}
use Rattle.library_steps.specs.Locking.{locks_left, with_locks}
use Rattle.library_steps.specs.Reads.{Found, entry_found, has_read, open_changed, positioned}
use Rattle.library_parts.specs.Reads.{formats_read, found_by, parts_read}
use Rattle.record_reads.specs.declared.asked.AskedBy.{AskedBy}
use Rattle.record_reads.specs.declared.plans.UsedOpen.{UsedOpen}
use Rattle.record_reads.specs.declared.plans.PlannedRead.{PlannedRead}
use Rattle.record_reads.specs.Asked.{AsksThe, CanBeAsked, found_in, found_through}
use Rattle.record_reads.specs.Plans.{used_of, locks_through}
use Rattle.std.specs.Option.{option_map}
use Rattle.dds_logical.specs.declared.join_views.JoinView.{JoinView}
use Rattle.file_model.specs.Joins.{RowPlace}
use Rattle.lawful_states.proofs.NameLemmas.{some-equal}
use Rattle.library_steps.specs.Records.{reading_of}
use Rattle.library_parts.specs.Indexed.{IsUnjoined}
use Rattle.library_parts.specs.Rows.{IsRowAt}
use Rattle.library_parts.below.parts_model.specs.declared.rows.RowFound.{RowFound}
use Rattle.record_reads.proofs.SimpleLemmas.{find_in-unjoined}
use Rattle.lock_table.specs.declared.levels.Call.{Call}

-- ---- once the locks are left

module _ (m later : Memory) (locks : List Lock) (left : later ≡ with_locks locks m) where
  -- the job has the same opens, of the same files
  pub opened-still : (name : List ℕ) (job : ℕ) (its : OpenedFile) → opened_file name job m ≡ Ok its → opened_file name job later ≡ Ok its
  opened-still name job its is = ap (λ (w : Memory). opened_file name job w) left ∙ is

  -- the open can be asked the same
  pub asked-still : (asks : AskedBy) (by : ReadBy) (file : FileState) (opened : OpenState) → AsksThe asks by → CanBeAsked asks file opened m
      → IsAskedOf (formats_read (bases_of later) file opened) by
  asked-still asks by file opened same can =
      subst (λ (w : Memory). IsAskedOf (formats_read (bases_of w) file opened) by) (sym left) (same.formats (formats_read (bases_of m) file opened) can.formats)

  -- the open of a file that is no join finds the same
  pub found-still : (asks : AskedBy) (by : ReadBy) (file : FileState) (opened : OpenState) (it : Found) → AsksThe asks by → IsUnjoined file.spec → it ≡ entry_found it.entry
      → found_through asks file opened m ≡ Some it → found_by by file opened later ≡ Some it.entry
  found-still asks by file opened it same unjoined plain is =
      ap (λ (w : Memory). found_by by file opened w) left ∙ same.found _ _ _
      ∙ entry-of (found_in asks (parts_read (bases_of m) file opened) (reading_of file opened m) opened.position)
      (sym (find_in-unjoined (record { opened = opened; file = file }) m (λ reading. found_in asks (parts_read (bases_of m) file opened) reading opened.position)
      (λ reading. found_in asks (parts_read (bases_of m) file opened) reading opened.rows) unjoined) ∙ is)
    where
      entry-of : (o : Option PathEntry) → option_map entry_found o ≡ Some it → o ≡ Some it.entry
      entry-of None e = absurd cc
      entry-of (Some entry) e = let same : entry_found entry ≡ it = some-equal e in ap (λ (f : Found). Some f.entry) same

  -- the row is the same
  pub row-still : (view : JoinView) (place : RowPlace) (row : RowFound) → IsRowAt view m place row → IsRowAt view later place row
  row-still view place row is =
      let there : IsRowAt view (with_locks locks m) place row = record { spec = is.spec; told = is.told; stood = is.stood; row = is.row; shows = is.shows } in
      subst (λ (w : Memory). IsRowAt view w place row) (sym left) there

-- ---- once it is done

pub position-after : (m locked after : Memory) (job : ℕ) (opened : OpenState) (used : UsedOpen) (join : Option JoinView) (position : Position PathEntry) → used ≡ used_of job opened m
    → locked ≡ with_locks (locks_through PositionCall job used 0 m) m → after ≡ with_job job (open_changed opened.number (positioned join position)) locked
    → after ≡ with_job job (open_changed opened.number (positioned join position)) (with_locks (locks_left PositionCall job opened 0 m) m)
position-after m locked after job opened used join position is left set =
    set
    ∙ ap (λ (w : Memory). with_job job (open_changed opened.number (positioned join position)) w)
    (left ∙ ap (λ (u : UsedOpen). with_locks (locks_through PositionCall job u 0 m) m) is)

pub read-after : (m locked after : Memory) (job : ℕ) (number : ℕ) (plan : PlannedRead) (it : Found) → plan.used.number ≡ number
    → locked ≡ with_locks (locks_through plan.call job plan.used plan.rrn m) m → after ≡ with_job job (open_changed number (has_read plan.call it)) locked
    → after ≡ with_job job (open_changed plan.used.number (has_read plan.call it)) (with_locks (locks_through plan.call job plan.used plan.rrn m) m)
read-after m locked after job number plan it is left noted =
    noted
    ∙ ap (λ (n : ℕ). with_job job (open_changed n (has_read plan.call it)) locked) (sym is)
    ∙ ap (λ (w : Memory). with_job job (open_changed plan.used.number (has_read plan.call it)) w) left

-- it is noted as what was found
pub read-noted : (job number : ℕ) (call : Call) (noted it : Found) → noted ≡ it → (locked after : Memory) → after ≡ with_job job (open_changed number (has_read call noted)) locked
    → after ≡ with_job job (open_changed number (has_read call it)) locked
read-noted job number call noted it is locked after made = made ∙ ap (λ (f : Found). with_job job (open_changed number (has_read call f)) locked) is
