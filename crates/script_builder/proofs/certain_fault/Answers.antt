use Rattle.std.proofs.Common.{◌≡◌, false, sym, ap, ◌∙◌}
use Rattle.std.specs.Prelude.{IsTrue}
use Rattle.std.specs.List.{list_any}
use Rattle.script_builder.specs.Least.{least}
use Rattle.script_builder.specs.Faults.{faults_of, plain_faults, takes_memory}
use Rattle.script_builder.proofs.LeastLemmas.{least-some, least-empty}
use Rattle.script_builder.proofs.MemoryLemmas.{faults_of-plain}
use Rattle.script_builder.proofs.certain_fault.Goals as goal

pub returns-clause-first : goal.returns-clause-first
returns-clause-first c =
    let s = c.args.statements.now in
    let none : list_any takes_memory s ≡ false = sym c.takes_memory.ensures ∙ c.if-takes_memory.false in
    least-some c.args.plain (faults_of s c.args.end_line) (c.requires ∙ ap least (sym (faults_of-plain s c.args.end_line none)))

pub returns-clause-none : goal.returns-clause-none
returns-clause-none c =
    let s = c.args.statements.now in
    least-empty c.args.plain (plain_faults s c.args.end_line) (IsTrue (list_any takes_memory s)) c.requires
