use Rattle.std.proofs.Common.{◌≡◌, ◌+◌, ◌∷◌, ◌∙◌, drop, sym, ap}
use Rattle.std.proofs.lemmas.List.{drop_more}
use Rattle.input_cards.specs.SectionTexts.{part_in, parts_in}
use Rattle.input_reader.specs.Input.{job_faults_in, scripts_in}
use Rattle.script_builder.specs.Least.{least}
use Rattle.input_reader.proofs.JobLemmas.{faults-step, scripts-step}
use Rattle.input_reader.proofs.jobs.read_jobs.Goals as goal

pub loop-section-preserved : goal.loop-section-preserved
loop-section-preserved c =
    let bytes = c.args.bytes.now in
    let sections = c.args.sections.now in
    let i = c.loop-section.section-index in
    let section = c.section-item.result in
    let part = part_in bytes section in
    let parts = parts_in bytes (drop (i + 1) sections) in
    let split : parts_in bytes (drop i sections) ≡ part ∷ parts =
    ap (parts_in bytes) (drop_more sections i section c.loop-section-test.true ∙ ap (λ s. s ∷ drop (i + 1) sections) (sym c.section-item.is)) in
    record {
      fault =
          faults-step c.loop-section.read.fault c.read_section.new.self.fault part parts (parts_in bytes (drop i sections)) (least (job_faults_in (parts_in bytes sections)))
          split c.in_ok-read_section.ensures.fault c.loop-section.invariant.fault;
      scripts =
          scripts-step c.loop-section.read.fault c.read_section.new.self.fault c.loop-section.read.scripts c.read_section.new.self.scripts part parts (parts_in bytes (drop i sections))
          (scripts_in (parts_in bytes sections)) split c.in_ok-read_section.ensures.fault c.in_ok-read_section.ensures.script c.loop-section.invariant.scripts;
      askable = c.in_ok-read_section.ensures.askable c.loop-section.invariant.askable;
    }
