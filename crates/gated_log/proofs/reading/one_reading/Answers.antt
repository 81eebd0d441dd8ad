use Rattle.gated_log.proofs.Unique.{one_list, one_damage, never_both}
use Rattle.gated_log.proofs.reading.one_reading.Goals as goal

pub returns : goal.returns
returns c = record { one_list = one_list; one_damage = one_damage; never_both = never_both }
