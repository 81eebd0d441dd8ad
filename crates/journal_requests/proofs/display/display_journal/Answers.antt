use Rattle.std.proofs.Common.{◌∙◌}
use Rattle.journal_requests.proofs.DisplayLemmas.{shown-answers}
use Rattle.journal_requests.proofs.display.display_journal.Goals as goal

pub returns : goal.returns
returns c = record {
  answers = λ read many numbered is.
      shown-answers c.args.contents.now.state c.args.args.now read c.in_ok-shown.shown.now c.from_vec.result (c.in_ok-shown.ensures read is) (c.from_vec.ensures ∙ c.in_ok-entries.ensures.entries);
}
