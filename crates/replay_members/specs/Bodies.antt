-- What is held of a member beside its number, and what does an act make of it?
-- (Journal Management, "Recovery operations using journaling".)
use Rattle.std.specs.Prelude.{ℕ, ◌<◌, ◌==◌, if◌then◌else◌, List, [], map, Option, None}
use Rattle.std.specs.Borrow.{Bor}
use Rattle.std.specs.List.{AllByRecursion}
use Rattle.std.specs.Map.Iter.{deref_pair}
use Rattle.entry_codec.specs.declared.kinds.Images.{Images}
use Rattle.member_slots.specs.declared.slot.Slot.{Slot}
use Rattle.journal_model.specs.Acts.{Act}
use Rattle.journal_model.specs.Replay.{moved}
use Rattle.journal_replay.specs.Standing.{HeldMember, images_by, break_by, member_by}

pub record Body : Type 0 where
  pub file : List ℕ
  pub name : List ℕ
  pub images : Option Images
  pub last_break : ℕ
  pub slots : List Slot

abbrev pub new_body : (file name : List ℕ) → Body
new_body file name = record { file = file; name = name; images = None; last_break = 0; slots = [] }

abbrev pub body_by : Act → (sequence : ℕ) → Body → Body
body_by a sequence b = record b { images = images_by a b.images; last_break = break_by a sequence b.last_break; slots = moved b.slots a }

-- ---- with its number

abbrev pub held : ℕ × Body → HeldMember
held entry = record { number = entry.0; file = entry.1.file; name = entry.1.name; images = entry.1.images; last_break = entry.1.last_break; slots = entry.1.slots }

-- the same of what is lent
abbrev pub member_shown : Bor ℕ × Bor Body → HeldMember
member_shown shown = held (deref_pair shown)

-- the member of that number by the act
abbrev pub with_act : ℕ → Act → (sequence : ℕ) → List HeldMember → List HeldMember
with_act number a sequence members = map (λ (m : HeldMember). if m.number == number then member_by a sequence m else m) members

-- the numbers are below this one
abbrev pub AreBelow : ℕ → List HeldMember → Type 0
AreBelow next members = AllByRecursion (λ (m : HeldMember). m.number < next) members

-- members, and the number of the next one
pub record MemberList : Type 0 where
  pub members : List HeldMember
  pub next : ℕ
