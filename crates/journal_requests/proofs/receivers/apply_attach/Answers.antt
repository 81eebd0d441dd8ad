use Rattle.journal_requests.proofs.ReceiverLemmas.{attached-answers}
use Rattle.journal_requests.proofs.receivers.apply_attach.Goals as goal

pub returns : goal.returns
returns c =
    attached-answers c.args.contents.now.state c.switch-number.new.self.state c.args.job c.args.timestamp c.args.number c.switch-number.result c.attach_drafts-next.result.0
    c.attach_drafts-next.result.1
    c.attach_drafts-next.ensures.ending c.attach_drafts-next.ensures.beginning c.requires.number c.switch-number.ensures.number c.switch-number.ensures.state
