use Rattle.block_places.proofs.CountLemmas.{all-stay, room-left}
use Rattle.block_places.proofs.DueLemmas.{due-most}
use Rattle.block_places.proofs.SpentLemmas.{none-wants}
use Rattle.block_places.proofs.places_suffice.Goals as goal

pub returns-clause-most : goal.returns-clause-most
returns-clause-most c = due-most

pub returns-clause-jobs : goal.returns-clause-jobs
returns-clause-jobs c = all-stay

pub returns-clause-made : goal.returns-clause-made
returns-clause-made c = room-left

pub returns-clause-spent : goal.returns-clause-spent
returns-clause-spent c = none-wants
