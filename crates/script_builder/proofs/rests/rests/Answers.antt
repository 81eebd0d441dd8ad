use Rattle.std.proofs.Common.{◌≡◌, ◌+◌, ◌-◌, ◌∙◌, [], ap, drop, arith}
use Rattle.std.proofs.lemmas.List.{length-drop}
use Rattle.script_builder.specs.declared.rests.Ahead.{Ahead}
use Rattle.std.specs.Option.{unwrap_or}
use Rattle.script_builder.specs.Rests.{ahead_of}
use Rattle.script_builder.proofs.EndLemmas.{Noted, noted_before, count_of-le}
use Rattle.script_builder.proofs.rests.rests.Goals as goal

pub loop-left-preserved : goal.loop-left-preserved
loop-left-preserved c =
    let ws = c.args.statements.now in
    let before = c.loop-left.left - 1 in
    let less : before + 1 ≡ c.loop-left.left = omega arith in
    let noted : Noted ws c.loop-left.left c.loop-left.ahead c.loop-left.ends c.loop-left.rests.items =
    record { ahead_is = c.loop-left.invariant.ahead; ends_is = c.loop-left.invariant.ends; rests_is = c.loop-left.invariant.rests } in
    let new : Noted ws before c.ahead_before-ahead.result c.pass.new.ends c.push.new.self.items =
    noted_before ws c.loop-left.left before c.index-statements-left.result c.loop-left.ahead c.unwrap_or-behind.result c.ahead_before-ahead.result c.loop-left.ends c.pass.new.ends
    c.nesting_of.result c.loop-left.rests.items c.push.new.self.items
    less c.loop-left.invariant.within noted
    (c.unwrap_or-behind.ensures ∙ ap (λ t. unwrap_or t (ahead_of [])) c.top.ensures)
    c.nesting_of.ensures c.in_ok-pass.ensures c.ahead_before-ahead.ensures c.in_ok-push.ensures.items in
    record {
      within = omega arith;
      ahead = new.ahead_is;
      ends = new.ends_is;
      rests = new.rests_is;
      few = omega (arith, ap (λ (a : Ahead). a.here.count) new.ahead_is, count_of-le (drop before ws), length-drop before ws);
    }
