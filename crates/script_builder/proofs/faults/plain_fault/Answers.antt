use Rattle.std.proofs.Common.{false}
use Rattle.script_builder.specs.Faults.{late_declarations, stray_monitors, stray_ends, labels_inside, open_at_end}
use Rattle.script_builder.proofs.LeastLemmas.{least-five}
use Rattle.script_builder.proofs.faults.plain_fault.Goals as goal

pub returns : goal.returns
returns c =
    let s = c.args.statements.now in
    let five = least-five (late_declarations s false) (stray_monitors s false) (stray_ends s 0) (labels_inside s 0) (open_at_end s c.args.end_line) in
    cc
