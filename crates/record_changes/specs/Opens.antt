-- What the effect of a call reads of the open through which it is made: its number, its member, and whether it is under commitment control. (Our own.)
use Rattle.std.specs.Prelude.{ℕ, Bool, None, []}
use Rattle.file_model.specs.Positions.{Start}
use Rattle.library_model.specs.declared.requests.OpenOption.TheVariants.{All}
use Rattle.library_model.specs.declared.requests.AccessPath.TheVariants.{Arrival}
use Rattle.library_steps.specs.State.{OpenState}
use Rattle.library_steps.specs.SlotChange.{NewSlot}
use Rattle.library_steps.specs.ChangeRecord.{LastRead}

-- an open of which nothing else is known
abbrev pub through : (number member : ℕ) → (commit : Bool) → OpenState
through number member commit = record {
  number = number;
  file = [];
  members = [];
  format = 0;
  member = member;
  option = All;
  access_path = Arrival;
  commit = commit;
  position = Start;
  rows = Start;
  current = None;
  last_read = None;
  boundary = Start;
}

abbrev pub bare : OpenState → OpenState
bare opened = through opened.number opened.member opened.commit

-- the same slot through such an open
abbrev pub bare_slot : NewSlot → NewSlot
bare_slot new = record { opened = bare new.opened; rrn = new.rrn; slot = new.slot }

abbrev pub bare_read : LastRead → LastRead
bare_read read = record { opened = bare read.opened; rrn = read.rrn }
