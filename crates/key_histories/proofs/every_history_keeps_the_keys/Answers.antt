use Rattle.key_histories.proofs.HistoryLemmas.{reached-rolled, reached-stand}
use Rattle.key_histories.proofs.every_history_keeps_the_keys.Goals as goal

pub returns : goal.returns
returns c = record {
  stand = reached-stand c.every_history_leaves_a_sound_library.ensures c.keys_of_begun_jobs_stand.ensures c.keys_are_kept.ensures;
  unique = λ sources names calls s reached.
      (reached-stand c.every_history_leaves_a_sound_library.ensures c.keys_of_begun_jobs_stand.ensures c.keys_are_kept.ensures sources names calls s reached).back 0 0;
  rolled_back = reached-rolled c.every_history_leaves_a_sound_library.ensures c.keys_of_begun_jobs_stand.ensures c.keys_are_kept.ensures c.rolled_back_keys_are_unique.ensures;
}
