use Rattle.sound_histories.proofs.ranges_go_back_and_forward.Goals as goal

pub returns : goal.returns
returns c = record {
  removed = λ sources names calls s args done reached does.
      c.removed_ranges_go_back.ensures s args done (c.every_history_leaves_a_sound_library.ensures sources names calls s reached) does;
  applied = λ sources names calls s args done reached does.
      c.applied_ranges_go_forward.ensures s args done (c.every_history_leaves_a_sound_library.ensures sources names calls s reached) does;
  again = λ sources names calls s args removal application lo hi count reached does reply follows.
      c.a_removed_range_is_applied_again.ensures s args removal application lo hi count
      (c.every_history_leaves_a_sound_library.ensures sources names calls s reached) does reply follows;
}
