use Rattle.path_set.proofs.RoomLemmas.{moves-few, room-falls}
use Rattle.path_set.proofs.member_laws.room_falls_by_one_change.Goals as goal

pub returns-clause-few : goal.returns-clause-few
returns-clause-few c = moves-few

pub returns-clause-room : goal.returns-clause-room
returns-clause-room c = room-falls
