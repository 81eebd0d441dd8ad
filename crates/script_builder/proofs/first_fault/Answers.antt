use Rattle.std.proofs.Common.{false, []}
use Rattle.script_builder.specs.Ways.{count_of, labels_of}
use Rattle.script_builder.specs.Faults.{labelled_lines, missing_labels, plain_faults, repeated, stray_elses, variables_of}
use Rattle.script_builder.proofs.LeastLemmas.{least-five}
use Rattle.script_builder.proofs.first_fault.Goals as goal

pub returns : goal.returns
returns c =
    let s = c.args.statements.now in
    let five =
    least-five (plain_faults s c.args.end_line) (stray_elses s [] false) (repeated (variables_of s) []) (repeated (labelled_lines s) []) (missing_labels s (labels_of s (count_of s) 0 [])) in
    cc (c.in_ok-stray_else.ensures, c.in_ok-repeated_variable.ensures, c.in_ok-repeated_label.ensures)
