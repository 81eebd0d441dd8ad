use Rattle.path_set.proofs.KeptRoomLemmas.{HaveRooms-paths}
use Rattle.path_set.proofs.OrderLemmas.{AreShared-paths}
use Rattle.path_set.proofs.set.PathSet.kept.Goals as goal

pub returns-clause-shared : goal.returns-clause-shared
returns-clause-shared c = rw (← c.self.view_is) (AreShared-paths _ c.self.invariant.0)

pub returns-clause-rooms : goal.returns-clause-rooms
returns-clause-rooms c = rw (← c.self.view_is) (HaveRooms-paths _)
