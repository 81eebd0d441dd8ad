use Rattle.cycles_kept.specs.State.{begun, empty_library}
use Rattle.sound_histories.proofs.HistoryLemmas.{runs-sound}
use Rattle.sound_histories.proofs.every_history_leaves_a_sound_library.Goals as goal

pub returns : goal.returns
returns c = λ sources names calls s runs.
    runs-sound c.each_call_leaves_a_sound_library.ensures.called sources (begun empty_library names) s calls (c.each_call_leaves_a_sound_library.ensures.begun names) runs
