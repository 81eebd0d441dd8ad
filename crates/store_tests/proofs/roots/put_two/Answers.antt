use Rattle.std.proofs.Common.{◌∙◌, arith}
use Rattle.checkpoint.proofs.Kept.{is_held_same}
use Rattle.store_tests.proofs.roots.put_two.Goals as goal

pub format_roots-requires-clause-empty : goal.format_roots-requires-clause-empty
format_roots-requires-clause-empty g c = λ tells. c.sync.ensures.stays.seen 0 ∙ c.in_ok-cut.ensures.cut tells

pub put_root-requires-clause-held : goal.put_root-requires-clause-held
put_root-requires-clause-held g c = λ tells. is_held_same c.in_ok-roots.roots c.reserve.new.self _ c.reserve.ensures.same ∣ c.in_ok-roots.ensures.opened tells ∣₁

pub put_root-requires-clause-ranges : goal.put_root-requires-clause-ranges
put_root-requires-clause-ranges g c = record {
  area = omega arith;
  sequence = omega arith;
  bytes = omega arith;
  receiver_from = omega arith;
  receiver_to = omega arith;
  member_from = omega arith;
  member_to = omega arith;
  none = λ same. absurd (omega (arith, same));
}
