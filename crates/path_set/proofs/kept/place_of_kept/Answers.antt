use Rattle.path_set.proofs.SearchLemmas.{found_where_there}
use Rattle.path_set.proofs.kept.place_of_kept.Goals as goal

pub unwrap-requires : goal.unwrap-requires
unwrap-requires c = found_where_there _ _ _ c.place_of.ensures.absent c.requires.there
