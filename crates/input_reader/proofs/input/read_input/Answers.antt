use Rattle.std.proofs.Common.{◌≡◌, ◌∙◌, Some, None, length, sym, ap, subst}
use Rattle.text_lines.specs.Lines.{lines_of}
use Rattle.script_builder.specs.Least.{least}
use Rattle.input_scripts.specs.declared.Scripts.{Scripts}
use Rattle.input_scripts.specs.Schedules.{NamesJobs}
use Rattle.input_cards.specs.SectionTexts.{parts_in}
use Rattle.input_cards.specs.CardFaults.{job_name, names_of}
use Rattle.input_reader.specs.Input.{faults_of, schedule_by, turns_among}
use Rattle.input_reader.specs.Ready.{AreReady}
use Rattle.input_reader.proofs.InputLemmas.{least-of_all, few-jobs}
use Rattle.input_reader.proofs.JobLemmas.{as_many}
use Rattle.input_reader.proofs.LeastLemmas.{least-none, lesser-none}
use Rattle.input_reader.proofs.ScheduleLemmas.{schedule-known}
use Rattle.input_reader.proofs.input.read_input.Goals as goal

pub returns-in-Some-clause-fault : goal.returns-in-Some-clause-fault
returns-in-Some-clause-fault c = λ line e.
    let lines = lines_of c.args.bytes.now in
    let same = ap (parts_in c.args.bytes.now) c.as_slice-sections.ensures ∙ c.in_ok-sections.ensures in
    let found = least-of_all lines (parts_in c.args.bytes.now c.as_slice-sections.result.now) c.in_ok-cards.cards c.in_ok-jobs.jobs.fault (Some c.in-Some.line)
    same c.in_ok-cards.ensures c.in_ok-jobs.ensures.fault c.in-Some.ensures in
    cc

pub returns-in-Some-clause-accepted : goal.returns-in-Some-clause-accepted
returns-in-Some-clause-accepted c = λ none.
    let lines = lines_of c.args.bytes.now in
    let same = ap (parts_in c.args.bytes.now) c.as_slice-sections.ensures ∙ c.in_ok-sections.ensures in
    let found = least-of_all lines (parts_in c.args.bytes.now c.as_slice-sections.result.now) c.in_ok-cards.cards c.in_ok-jobs.jobs.fault (Some c.in-Some.line)
    same c.in_ok-cards.ensures c.in_ok-jobs.ensures.fault c.in-Some.ensures in
    absurd (let both : Some c.in-Some.line ≡ None = found ∙ ap least none in cc)

pub scripts_by-requires : goal.scripts_by-requires
scripts_by-requires c =
    let lines = lines_of c.args.bytes.now in
    let parts = parts_in c.args.bytes.now c.as_slice-sections.result.now in
    let same = ap (parts_in c.args.bytes.now) c.as_slice-sections.ensures ∙ c.in_ok-sections.ensures in
    let found = least-of_all lines parts c.in_ok-cards.cards c.in_ok-jobs.jobs.fault None same
    c.in_ok-cards.ensures c.in_ok-jobs.ensures.fault c.in-None.ensures in
    few-jobs lines parts same (least-none (faults_of lines) (sym found))

pub returns-clause-sound : goal.returns-clause-sound
returns-clause-sound c =
    let lines = lines_of c.args.bytes.now in
    let parts = parts_in c.args.bytes.now c.as_slice-sections.result.now in
    let same = ap (parts_in c.args.bytes.now) c.as_slice-sections.ensures ∙ c.in_ok-sections.ensures in
    let found = least-of_all lines parts c.in_ok-cards.cards c.in_ok-jobs.jobs.fault None same
    c.in_ok-cards.ensures c.in_ok-jobs.ensures.fault c.in-None.ensures in
    least-none (faults_of lines) (sym found)

pub returns-clause-ready : goal.returns-clause-ready
returns-clause-ready c =
    let lines = lines_of c.args.bytes.now in
    let parts = parts_in c.args.bytes.now c.as_slice-sections.result.now in
    let same = ap (parts_in c.args.bytes.now) c.as_slice-sections.ensures ∙ c.in_ok-sections.ensures in
    let found = least-of_all lines parts c.in_ok-cards.cards c.in_ok-jobs.jobs.fault None same
    c.in_ok-cards.ensures c.in_ok-jobs.ensures.fault c.in-None.ensures in
    let none = lesser-none c.in_ok-cards.cards c.in_ok-jobs.jobs.fault (sym c.in-None.ensures) in
    let P : Scripts → Type 0 = λ scripts. AreReady scripts in
    subst P (sym c.in_ok-scripts_by-in-None.ensures)
    record {
      askable = c.in_ok-jobs.ensures.askable;
      as_many = as_many parts ∙ ap length (sym (c.in_ok-jobs.ensures.scripts none.1));
      few = few-jobs lines parts same (least-none (faults_of lines) (sym found));
    }

pub returns-clause-scheduled : goal.returns-clause-scheduled
returns-clause-scheduled c =
    let lines = lines_of c.args.bytes.now in
    let parts = parts_in c.args.bytes.now c.as_slice-sections.result.now in
    let same = ap (parts_in c.args.bytes.now) c.as_slice-sections.ensures ∙ c.in_ok-sections.ensures in
    let found = least-of_all lines parts c.in_ok-cards.cards c.in_ok-jobs.jobs.fault None same c.in_ok-cards.ensures
    c.in_ok-jobs.ensures.fault c.in-None.ensures in
    let none = lesser-none c.in_ok-cards.cards c.in_ok-jobs.jobs.fault (sym c.in-None.ensures) in
    let many = as_many parts ∙ ap length (sym (c.in_ok-jobs.ensures.scripts none.1)) in
    let P : Scripts → Type 0 = λ scripts. NamesJobs (length scripts.scripts) scripts.schedule in
    let known = schedule-known lines parts same (least-none (faults_of lines) (sym found)) in
    subst P (sym c.in_ok-scripts_by-in-None.ensures) (subst (λ n. NamesJobs n (schedule_by (names_of job_name parts) (turns_among parts))) many known)
