-- Which act of the journal is one that was read into memory?
-- (Journal Management, "Journal code finder".)
use Rattle.journal_replay.specs.declared.acts.MemberAct.{MemberAct}
use Rattle.journal_replay.specs.declared.acts.MemberAct.TheVariants.{ChangeSlot, Journal, Stand, Clear, Reorganize, EndJournaling, Pass}
use Rattle.journal_model.specs.Acts.{Act, Changed, Journaled, Stood, Cleared, Reorganized, Ended, Nothing}

abbrev pub act_of : MemberAct → Act
act_of (ChangeSlot c) = Changed c
act_of (Journal images slots) = Journaled images slots
act_of (Stand place image) = Stood place image
act_of Clear = Cleared
act_of Reorganize = Reorganized
act_of EndJournaling = Ended
act_of Pass = Nothing
