use Rattle.std.proofs.Common.{◌∙◌, sym, ap}
use Rattle.std.specs.List.{list_any}
use Rattle.job_table.specs.Opens.{is_committed_in}
use Rattle.job_table.proofs.OpenLemmas.{any-state}
use Rattle.job_table.proofs.jobs.Jobs.committed_opens.Goals as goal

pub returns : goal.returns
returns c = λ opened.
    c.committed.ensures opened
    ∙ sym (any-state (is_committed_in opened) c.opens.result.now)
    ∙ ap (list_any (is_committed_in opened)) c.opens.ensures
    ∙ ap (λ j. list_any (is_committed_in opened) j.opens) c.job.ensures.state
