-- What do several changes make of the paths, one after another? (Database Programming, "Describing access paths for
-- database files"; Journal Management, "Applying journaled changes".)
use Rattle.std.specs.Prelude.{◌≡◌, ℕ, List, [], ◌∷◌, flat_map, All}
use Rattle.std.specs.Option.{option_copied}
use Rattle.key_pages.specs.Order.{IsInOrder}
use Rattle.member_slots.specs.Members.{NumberedMembers}
use Rattle.access_path.specs.PathBytes.{is_falling}
use Rattle.path_set.specs.declared.moves.ImageChange.{ImageChange}
use Rattle.path_set.specs.declared.moves.PathMove.{PathMove}
use Rattle.path_set.specs.KeptPaths.{NumberedPaths}
use Rattle.path_set.specs.RecordChanges.{RecordChange, TakeImage, moves_in}
use Rattle.path_set.specs.MemberChanges.{IsRecordChange}

-- the change of a record of the member
abbrev pub change_in : (member : ℕ) → ImageChange → RecordChange
change_in member change = record { member = member; rrn = change.rrn; old = option_copied change.old; new = option_copied change.new }

-- each format over the member can be asked about both images
abbrev pub TakeImages : (member : ℕ) → NumberedPaths → ImageChange → Type 0
TakeImages member paths change = TakeImage member (option_copied change.old) paths × TakeImage member (option_copied change.new) paths

-- the moves of the changes in all paths, those of the first change first
abbrev pub moves_of_all : List RecordChange → NumberedPaths → List PathMove
moves_of_all changes paths = flat_map (λ c. moves_in c paths) changes

-- the changes lead from the members before to those after, each from what the ones before it have left
abbrev pub LeadTo : List RecordChange → (before after : NumberedMembers) → Type 0
LeadTo [] before after = before ≡ after
LeadTo (c ∷ changes) before after = (between : NumberedMembers) × IsRecordChange c before between × LeadTo changes between after

-- the entries of each path stand in order
abbrev pub AreInOrder : NumberedPaths → Type 0
AreInOrder paths = All (λ path. IsInOrder (is_falling path.item.spec.ties) path.item.entries) paths
