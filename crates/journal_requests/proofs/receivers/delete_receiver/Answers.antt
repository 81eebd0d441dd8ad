use Rattle.journal_requests.proofs.ReceiverLemmas.{given_up-answers}
use Rattle.journal_requests.proofs.receivers.delete_receiver.Goals as goal

pub returns : goal.returns
returns c =
    record {
      answers = given_up-answers c.args.contents.now.state c.drop_before.new.self.state c.args.args.now c.in_ok-_last._last c.in_ok-_last.ensures.plan c.in_ok-_last.ensures.last
          c.drop_before.ensures.state;
    }
