use Rattle.std.proofs.Common.{Result, subst}
use Rattle.library_model.specs.declared.replies.Reply.{Reply}
use Rattle.library_steps.specs.Change.{Change}
use Rattle.commitment_requests.specs.Answers.{Answers}
use Rattle.library_core.proofs.SameLemmas.{give_up-same}
use Rattle.library_core.proofs.dispatch.give_up.Goals as goal

pub returns : goal.returns
returns c = λ read numbered.
    subst (λ (w : Result Change Reply). Answers c.args.contents.now.state c.delete_receiver.new.contents.state c.delete_receiver.result w)
    (give_up-same c.args.contents.now.state c.args.contents.now.state.entries read c.args.args.now c.requires.numbered numbered c.requires.unsaved) c.delete_receiver.ensures.answers
