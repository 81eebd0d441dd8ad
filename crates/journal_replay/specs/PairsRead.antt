-- Which pair of images is one that was read into memory?
-- (Journal Management, "Before-images and after-images".)
use Rattle.journal_replay.specs.declared.pairs.Pair.{Pair}
use Rattle.journal_replay.specs.declared.pairs.Pair.TheVariants.{Update, Undo}
use Rattle.journal_model.specs.Pairs.{OfUpdate, OfUndo}
use Rattle.journal_model.specs.Pairs as model

abbrev pub pair_of : Pair → model.Pair
pair_of Update = OfUpdate
pair_of Undo = OfUndo
