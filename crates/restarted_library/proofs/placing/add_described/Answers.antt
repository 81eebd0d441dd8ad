use Rattle.std.proofs.Common.{refl}
use Rattle.restarted_library.proofs.StepLemmas.{is-new-view, view-put}
use Rattle.restarted_library.proofs.placing.add_described.Goals as goal

pub add_view-requires-clause-new : goal.add_view-requires-clause-new
add_view-requires-clause-new c =
    is-new-view c.args.contents.now.state c.reserve_file.new.self.state c.args.name c.args.view c.spec.result.now c.spec.ensures c.reserve_file.ensures.state c.in_ok-may_stand.ensures.absent
    c.requires c.in_ok-may_stand.ensures.unchanged

pub returns : goal.returns
returns c = λ created catalog members entries attached built.
    view-put entries attached created catalog members c.args.name c.args.view.source c.args.contents.now.state c.reserve_file.new.self.state c.add_view.new.self.state c.args.view
    c.in_ok-may_stand.ensures.absent refl
    c.requires c.reserve_file.ensures.state c.in_ok-add_view.ensures.memory c.add_view.ensures.entries built
