use Rattle.checkpoint.proofs.RootLaws.{one_list, one_damage, never_both}
use Rattle.checkpoint.proofs.StateLaws.{one_state, one_fault, never_saved}
use Rattle.checkpoint.proofs.laws.one_reading.Goals as goal

pub returns : goal.returns
returns c = record { one_list = one_list; one_damage = one_damage; never_both = never_both; one_state = one_state; one_fault = one_fault; never_saved = never_saved }
