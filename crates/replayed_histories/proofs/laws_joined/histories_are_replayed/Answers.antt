use Rattle.replayed_histories.proofs.JoinedLemmas.{all-histories}
use Rattle.replayed_histories.proofs.laws_joined.histories_are_replayed.Goals as goal

pub returns : goal.returns
returns c = all-histories c.each_call_leaves_a_sound_library.ensures.reading
