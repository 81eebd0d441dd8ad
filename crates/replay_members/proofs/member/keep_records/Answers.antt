use Rattle.std.proofs.Common.{rules}
use Rattle.std.proofs.lemmas.Fn.{filter_same}
use Rattle.member_slots.specs.Member.{is_live}
use Rattle.replay_members.proofs.member.keep_records.Goals as goal

pub returns : goal.returns
returns c = filter_same _ is_live _ (λ x b f' k. search rules) _ _ c.retain.ensures.filtered
