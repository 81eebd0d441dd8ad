use Rattle.std.proofs.Common.{◌∙◌, ap, length, subst, sym}
use Rattle.job_language.specs.declared.statements.Script.{Script}
use Rattle.script_builder.specs.Faults.{faults_of}
use Rattle.script_builder.specs.Laws.{LeadWithin}
use Rattle.script_builder.proofs.LawLemmas.{script_of-within}
use Rattle.script_builder.proofs.LeastLemmas.{least-none}
use Rattle.script_builder.proofs.build.Goals as goal

pub returns-clause-sound : goal.returns-clause-sound
returns-clause-sound c =
    let s = c.as_slice-written.result.now in
    ap (λ written. faults_of written c.args.end_line) (sym c.as_slice-written.ensures)
    ∙ least-none (faults_of s c.args.end_line) (sym c.in_ok-line.ensures ∙ c.in_default-2.is)

pub returns-clause-within : goal.returns-clause-within
returns-clause-within c =
    let P : Script → Type 0 = λ s. LeadWithin s.statements (length s.statements) in
    subst P (sym c.in_ok-script.ensures) (script_of-within c.args.statements)
