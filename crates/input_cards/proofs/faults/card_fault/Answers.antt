use Rattle.std.proofs.Common.{◌≡◌, ◌∙◌, [], ap}
use Rattle.library_model.specs.declared.limits.TheConstants.{MOST_JOBS}
use Rattle.script_builder.specs.Least.{least}
use Rattle.text_lines.specs.Lines.{lines_of}
use Rattle.input_cards.specs.declared.limits.TheConstants.{MOST_SOURCES}
use Rattle.input_cards.specs.SectionTexts.{parts_in}
use Rattle.input_cards.specs.CardFaults.{source_name, job_name, names_of, plain_faults, repeated_cards, unknown_turns, faults_among}
use Rattle.input_cards.proofs.LeastLemmas.{least-four}
use Rattle.input_cards.proofs.faults.card_fault.Goals as goal

pub returns : goal.returns
returns c =
    let bytes = c.args.bytes.now in
    let lines = lines_of bytes in
    let parts = parts_in bytes c.args.sections.now in
    let four = least-four (plain_faults lines parts) (repeated_cards source_name MOST_SOURCES parts []) (repeated_cards job_name MOST_JOBS parts []) (unknown_turns (names_of job_name parts) parts) in
    let sources = c.in_ok-repeated_source.ensures bytes in
    let jobs = c.in_ok-repeated_job.ensures bytes in
    let names = c.in_ok-jobs.ensures bytes in
    let unknown = c.unknown_turn.ensures bytes in
    let among : c.lesser.result ≡ least (faults_among lines parts) = cc in
    among ∙ ap (λ p. least (faults_among lines p)) c.requires.sections
