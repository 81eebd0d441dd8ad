use Rattle.library_steps.specs.State.{memory_of}
use Rattle.file_requests.proofs.ViewLemmas.{stands-by, unchanged-by}
use Rattle.file_requests.proofs.views.may_stand.Goals as goal

pub returns-clause-allowed : goal.returns-clause-allowed
returns-clause-allowed c =
    stands-by (memory_of c.args.contents.now.state) c.args.view.now c.in_ok-many.many c.changer_under-changer.result c.in_ok-undone.undone c.allowed_by.result c.in_ok-many.ensures
    c.changer_under-changer.ensures c.in_ok-undone.ensures c.allowed_by.ensures.allowed

pub returns-clause-unchanged : goal.returns-clause-unchanged
returns-clause-unchanged c = unchanged-by c.changer_under-changer.result _ c.allowed_by.result c.changer_under-changer.ensures c.allowed_by.ensures.unchanged
