use Rattle.std.proofs.Common.{◌≡◌, ◌++◌, None, true, drop}
use Rattle.std.specs.List.{list_all}
use Rattle.script_builder.specs.Least.{least, lesser}
use Rattle.input_scripts.specs.Askable.{is_askable_script}
use Rattle.input_cards.specs.SectionTexts.{parts_in}
use Rattle.input_reader.specs.Input.{job_faults_in, scripts_in}
use Rattle.input_reader.proofs.jobs.read_jobs.Given as goal

abbrev pub invariant-loop-section : goal.invariant-loop-section
invariant-loop-section l = record {
  fault : lesser l.read.fault (least (job_faults_in (parts_in l.bytes (drop l.section-index l.sections)))) ≡ least (job_faults_in (parts_in l.bytes l.sections));
  scripts : l.read.fault ≡ None → l.read.scripts ++ scripts_in (parts_in l.bytes (drop l.section-index l.sections)) ≡ scripts_in (parts_in l.bytes l.sections);
  askable : list_all is_askable_script l.read.scripts ≡ true;
}
