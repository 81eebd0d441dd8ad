use Rattle.std.proofs.Common.{◌∙◌, sym, ap}
use Rattle.std.specs.Option.{option_copied}
use Rattle.library_steps.specs.Reads.{at_format}
use Rattle.record_reads.specs.Plans.{CanShow}
use Rattle.record_reads.specs.declared.plans.FoundAt.{FoundAt}
use Rattle.record_reads.proofs.FoundLemmas.{shown-of-entry, shown-of-row}
use Rattle.record_reads.proofs.SimpleLemmas.{join_in-none, join_in-some}
use Rattle.record_reads.proofs.reads.find_asked.Goals as goal

pub find_row-requires-clause-join : goal.find_row-requires-clause-join
find_row-requires-clause-join c = join_in-some c.args.file.now.spec c.in-Some.view.now (sym c.joined.ensures ∙ ap option_copied c.in-Some.is)

pub find_entry-requires-clause-unjoined : goal.find_entry-requires-clause-unjoined
find_entry-requires-clause-unjoined c = join_in-none c.args.file.now.spec (sym c.joined.ensures ∙ ap option_copied c.in-None.is)

pub returns-in-Some-clause-shows : goal.returns-in-Some-clause-shows
returns-in-Some-clause-shows c =
    shown-of-row (λ (at : FoundAt). CanShow c.args.contents.now.state c.args.file.now (at_format at.format c.args.opened.now.state) at.rrn) c.find_row.result c.find_row.ensures.some

pub returns-in-None-clause-shows : goal.returns-in-None-clause-shows
returns-in-None-clause-shows c =
    shown-of-entry (λ (at : FoundAt). CanShow c.args.contents.now.state c.args.file.now (at_format at.format c.args.opened.now.state) at.rrn) c.find_entry.result c.find_entry.ensures.shows
