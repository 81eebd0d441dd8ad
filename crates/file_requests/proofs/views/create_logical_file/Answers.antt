use Rattle.file_requests.proofs.ViewLemmas.{new-kept, view-answers}
use Rattle.file_requests.proofs.views.create_logical_file.Goals as goal

pub apply_view-added-requires-clause-new : goal.apply_view-added-requires-clause-new
apply_view-added-requires-clause-new c =
    new-kept c.args.contents.now.state c.prepare_view.new.contents.state c.args.args.now.file c.in_ok-described.described c.in_ok-new.new.described c.prepare_view.ensures.state c.in_ok-new.ensures.file
    c.in_ok-described.ensures.new

pub returns : goal.returns
returns c =
    let old = c.args.contents.now.state in
    record {
      answers = rw c.done.ensures
          (view-answers old c.prepare_view.new.contents.state c.apply_view-added.new.contents.state c.args.job c.args.timestamp c.args.sources.now c.args.args.now c.in_ok-described.described
          c.in_ok-new.new.described c.in_ok-new.new.draft c.apply_view-added.result c.prepare_view.ensures.state c.in_ok-new.ensures.file c.in_ok-new.ensures.draft c.in_ok-described.ensures.plan
          c.apply_view-added.ensures.apart c.apply_view-added.ensures.added c.apply_view-added.ensures.unchanged);
    }
