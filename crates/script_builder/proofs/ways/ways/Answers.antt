use Rattle.std.proofs.Common.{false, ap, length, arith, rules}
use Rattle.std.proofs.lemmas.List.{drop_more}
use Rattle.script_builder.specs.declared.rests.Rest.{Rest}
use Rattle.script_builder.specs.Ways.{count_of}
use Rattle.script_builder.proofs.WayLemmas.{length-rests_of, ways_step}
use Rattle.script_builder.proofs.ways.ways.Goals as goal

pub bounds-rests-i : goal.bounds-rests-i
bounds-rests-i c = omega (arith, ap length c.requires.rests, length-rests_of c.args.statements.now)

pub loop-i-preserved : goal.loop-i-preserved
loop-i-preserved c =
    let none : Rest = record { here = record { count = 0; leaves = false }; behind = record { here = record { count = 0; leaves = false }; past_else = record { count = 0; leaves = false } } } in
    let split = ap count_of (drop_more c.args.statements.now c.loop-i.i c.index-statements-i.result c.loop-i-test.true) in
    record {
      ways =
          ways_step c.args.statements.now c.args.rests.now c.loop-i.i c.index-statements-i.result none c.args.labels.now c.args.total c.loop-i.place c.loop-i.exits c.way_by.new.exits c.in_ok-way.way
          c.loop-i.ways.items c.push.new.self.items _ c.requires.rests c.loop-i-test.true c.loop-i.invariant.place c.in_ok-way.ensures.exits c.in_ok-way.ensures.way c.in_ok-push.ensures.items
          c.loop-i.invariant.ways;
      place = search rules;
      before = search rules;
    }
