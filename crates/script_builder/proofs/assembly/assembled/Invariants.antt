use Rattle.std.proofs.Common.{◌≡◌, ◌≤◌, length, take, drop}
use Rattle.std.specs.Prelude.{reverse, vec_len}
use Rattle.script_builder.specs.Scripts.{literals_of, monitor_of, statements_of}
use Rattle.script_builder.proofs.assembly.assembled.Given as goal

abbrev pub invariant-loop-written : goal.invariant-loop-written
invariant-loop-written l =
    let rest = drop (vec_len l.statements) l.initial.statements.items in
    record {
      taken : l.statements.items ≡ take (vec_len l.statements) l.initial.statements.items;
      few : vec_len l.statements ≤ length l.initial.statements.items;
      literals : reverse l.literals.items ≡ literals_of rest;
      made : reverse l.made.items ≡ statements_of rest (drop (vec_len l.statements) l.ways) l.labels;
      monitor : l.monitor ≡ monitor_of rest l.labels;
    }

abbrev pub decreases-loop-written : goal.decreases-loop-written
decreases-loop-written l = vec_len l.statements
