use Rattle.std.proofs.Common.{ℕ, false, Result, IsTrue, sym, ◌∙◌, subst}
use Rattle.library_model.specs.declared.replies.Reply.{Reply}
use Rattle.library_model.specs.declared.requests.Request.TheVariants.{ChangeJournal}
use Rattle.library_steps.specs.History.{is_running}
use Rattle.library_steps.specs.Receivers.{attach_plan}
use Rattle.library_steps.specs.State.{State, job_at, memory_of}
use Rattle.commitment_requests.specs.Answers.{Gives}
use Rattle.commitment_requests.below.parts_model.specs.declared.stop.Stop.{Stop}
use Rattle.library_core.specs.Puts.{HasCome}
use Rattle.library_core.proofs.AttachLemmas.{plan-over, room-come, unready-come}
use Rattle.library_core.proofs.JournalLemmas.{more-remembered}
use Rattle.library_core.proofs.MemoryLemmas.{running-over}
use Rattle.library_core.proofs.answering.attach_receiver.Goals as goal

pub switch_receivers-requires-clause-running : goal.switch_receivers-requires-clause-running
switch_receivers-requires-clause-running g c = subst (λ (s : State). IsTrue (is_running (job_at c.args.job s.jobs))) (sym c.ready_to_attach.ensures.state) c.requires.running

pub switch_receivers-requires-clause-kept : goal.switch_receivers-requires-clause-kept
switch_receivers-requires-clause-kept g c = (
  c.requires.kept.0,
  more-remembered g.S.Store.tells (g.S.Store.disk c.args.store.now) c.args.journal.now c.ready_to_attach.new.journal c.args.contents.now.state
      c.ready_to_attach.new.contents.state c.requires.kept.0 c.ready_to_attach.ensures.same c.ready_to_attach.ensures.state c.requires.kept.1,
)

pub returns-in-Ok : goal.returns-in-Ok
returns-in-Ok g c = λ sources s is.
    room-come g.S.Store.tells sources (g.S.Store.disk c.args.store.now) (g.S.Store.disk c.switch_receivers.new.store) c.args.journal.now c.ready_to_attach.new.journal
    c.switch_receivers.new.journal c.switch_receivers.new.contents.state s _ _ c.ready_to_attach.ensures.same
    (c.switch_receivers.ensures sources s
    (more-remembered g.S.Store.tells (g.S.Store.disk c.args.store.now) c.args.journal.now c.ready_to_attach.new.journal c.args.contents.now.state c.ready_to_attach.new.contents.state s
    c.ready_to_attach.ensures.same c.ready_to_attach.ensures.state is))

pub returns-in-Err : goal.returns-in-Err
returns-in-Err g c = λ sources s is.
    let given = subst (λ (r : Result ℕ Stop). Gives r (attach_plan (memory_of c.ready_to_attach.new.contents.state))) c.in-Err.is c.ready_to_attach.ensures.plan in
    subst (λ (x : Reply). HasCome g.S.Store.tells sources (g.S.Store.disk c.args.store.now) (g.S.Store.disk c.args.store.now) c.args.journal.now c.ready_to_attach.new.journal
    c.ready_to_attach.new.contents.state s (record { job = c.args.job; timestamp = c.args.timestamp; request = ChangeJournal; reply = x }) false) (sym c.reply_of.ensures)
    (unready-come g.S.Store.tells (g.S.Store.disk c.args.store.now) c.args.journal.now c.ready_to_attach.new.journal s sources c.args.job c.args.timestamp
    (running-over c.args.contents.now.state s c.args.job is.memory c.requires.running) is.sound is.journaled c.ready_to_attach.ensures.same c.ready_to_attach.new.contents.state
    (c.ready_to_attach.ensures.state ∙ is.memory) c.in-Err.stop
    (plan-over c.args.contents.now.state c.ready_to_attach.new.contents.state s c.in-Err.stop c.ready_to_attach.ensures.state is.memory given))
