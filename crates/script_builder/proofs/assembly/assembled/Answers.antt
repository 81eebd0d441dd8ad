use Rattle.std.proofs.Common.{◌≡◌, ◌+◌, ◌<◌, ◌∷◌, length, get_or, drop, ap, sym, ◌∙◌, arith}
use Rattle.std.specs.Prelude.{reverse, vec_len}
use Rattle.std.proofs.lemmas.List.{drop_more}
use Rattle.script_builder.specs.declared.ways.Way.{Way}
use Rattle.script_builder.specs.Scripts.{monitor_of}
use Rattle.script_builder.proofs.AssemblyLemmas.{Taken, taken_one, Adds, adds, literals_step, statements_step}
use Rattle.script_builder.proofs.assembly.assembled.Goals as goal

pub loop-written-preserved : goal.loop-written-preserved
loop-written-preserved c =
    let all = c.args.statements.items in
    let ways = c.args.ways.now in
    let labels = c.args.labels.now in
    let w = c.in-Some.written in
    let before = vec_len c.loop-written.statements in
    let count = vec_len c.pop.new.self in
    let none : Way = record { next = 0; otherwise = 0 } in
    let less : count + 1 ≡ before = omega (arith, c.in-Some.ensures.len) in
    let few : count < length all = omega (arith, c.loop-written.invariant.few) in
    let taken : Taken all c.pop.new.self.items count w before =
    taken_one all c.loop-written.statements.items c.pop.new.self.items count before w c.loop-written.invariant.taken c.loop-written.invariant.few less c.in-Some.ensures.items in
    let within : count < length ways = omega (arith, c.requires) in
    let here : drop count ways ≡ get_or ways c.len.result none ∷ drop before ways =
    drop_more ways count none within ∙ ap (λ n. get_or ways count none ∷ drop n ways) less ∙ ap (λ n. get_or ways n none ∷ drop before ways) (sym c.len.ensures) in
    let part : Adds (drop before all) (drop before ways) labels w (get_or ways c.len.result none) c.part_of-part.result =
    adds (drop before all) (drop before ways) labels w (get_or ways c.len.result none) c.loop-written.monitor c.part_of-part.result c.part_of-part.ensures c.loop-written.invariant.monitor in
    record {
      taken = taken.front;
      few = omega arith;
      literals =
          literals_step (drop count all) (drop before all) w c.part_of-part.result.literal (reverse c.loop-written.literals.items) (reverse c.push_value.new.values.items)
          taken.back part.literal c.in_ok-push_value.ensures c.loop-written.invariant.literals;
      made =
          statements_step (drop count all) (drop before all) (drop count ways) (drop before ways) labels w (get_or ways c.len.result none) c.part_of-part.result.statement
          (reverse c.loop-written.made.items) (reverse c.push_statement.new.statements.items)
          taken.back here part.statement c.in_ok-push_statement.ensures c.loop-written.invariant.made;
      monitor = part.monitor ∙ ap (λ ws. monitor_of ws labels) (sym taken.back);
    }
