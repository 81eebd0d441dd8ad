use Rattle.std.proofs.Common.{◌≡◌, ◌≤◌, ◌+◌, ◌*◌, Bool, true, false, length, sym, ◌∙◌, ap, subst, arith}
use Rattle.store_model.specs.Disk.{Disk}
use Rattle.library_model.specs.NeedsMemory.{needs_memory}
use Rattle.library_model.specs.declared.replies.Reply.{Reply}
use Rattle.library_steps.specs.State.{State}
use Rattle.library_core.specs.Puts.{HasCome}
use Rattle.library_core.proofs.AnswerLemmas.{asked-place, asked-wait, ended-come, roomless-come, roomy-held, roomy-little}
use Rattle.library_core.proofs.MemoryLemmas.{answers-over, numbered-remembered, running-over}
use Rattle.library_core.proofs.ReadLemmas.{count-over, numbered-over, part-over}
use Rattle.library_core.proofs.StandLemmas.{defaults-over, stand-over}
use Rattle.library_core.proofs.answering.answer_read.Goals as goal

pub perform-done-requires-clause-stand : goal.perform-done-requires-clause-stand
perform-done-requires-clause-stand g c = stand-over c.args.contents.now.state c.requires.kept.0 c.args.job c.requires.kept.1.memory c.requires.kept.1.sound

pub perform-done-requires-clause-defaults : goal.perform-done-requires-clause-defaults
perform-done-requires-clause-defaults g c = defaults-over c.args.contents.now.state c.requires.kept.0 c.requires.kept.1.memory c.requires.kept.1.sound

pub perform-done-requires-clause-numbered : goal.perform-done-requires-clause-numbered
perform-done-requires-clause-numbered g c = numbered-remembered c.args.contents.now.state c.requires.kept.0 c.requires.kept.1.memory

pub perform-done-requires-clause-unsaved : goal.perform-done-requires-clause-unsaved
perform-done-requires-clause-unsaved g c = ap (λ (u : State). u.checkpoint) c.requires.kept.1.memory ∙ c.requires.kept.1.journaled.may.unsaved

pub returns-then-not-make_room : goal.returns-then-not-make_room
returns-then-not-make_room g c = λ s is read its.
    let none : c.make_room.result ≡ false = c.if-not-make_room.true in
    roomless-come g.S.Store.tells (g.S.Store.disk c.args.store.now) c.args.journal.now c.make_room.new.journal s read its.may c.args.sources.now c.args.job c.args.timestamp
    c.args.request.now (running-over c.args.contents.now.state s c.args.job is.memory c.requires.running) c.requires.built
    c.requires.other is.sound is.journaled c.make_room.ensures.same its.own c.args.contents.now.state is.memory (c.make_room.ensures.refused none)

pub put_done-put-requires-clause-held : goal.put_done-put-requires-clause-held
put_done-put-requires-clause-held g c =
    let s = c.requires.kept.0 in
    let is = c.requires.kept.1 in
    let read = c.requires.kept.2 in
    let its = c.requires.kept.3 in
    roomy-held g.S.Store.tells (g.S.Store.disk c.args.store.now) c.args.journal.now c.make_room.new.journal s read its.may c.args.sources.now c.args.job c.args.timestamp
    c.args.request.now (running-over c.args.contents.now.state s c.args.job is.memory c.requires.running) c.requires.built
    c.requires.other is.sound is.journaled c.make_room.ensures.same

pub put_done-put-requires-clause-little : goal.put_done-put-requires-clause-little
put_done-put-requires-clause-little g c =
    let s = c.requires.kept.0 in
    let is = c.requires.kept.1 in
    let read = c.requires.kept.2 in
    let its = c.requires.kept.3 in
    roomy-little g.S.Store.tells (g.S.Store.disk c.args.store.now) c.args.journal.now c.make_room.new.journal s read its.may c.args.sources.now c.args.job c.args.timestamp
    c.args.request.now (running-over c.args.contents.now.state s c.args.job is.memory c.requires.running) c.requires.built
    c.requires.other is.sound is.journaled c.make_room.ensures.same

pub put_done-put-requires-clause-may : goal.put_done-put-requires-clause-may
put_done-put-requires-clause-may g c =
    let s = c.requires.kept.0 in
    let is = c.requires.kept.1 in
    let read = c.requires.kept.2 in
    let its = c.requires.kept.3 in
    let answers = answers-over c.args.contents.now.state s c.perform-done.new.contents.state c.perform-done.result c.args.sources.now read c.args.job c.args.timestamp c.args.request.now is.memory
    (c.perform-done.ensures.step read (count-over c.args.contents.now.state s read is.memory its.may) (numbered-over c.args.contents.now.state s read is.memory its.may)
    (part-over c.args.contents.now.state s read c.args.stretch.now is.memory its.part)) in
    asked-wait g.S.Store.tells (g.S.Store.disk c.args.store.now) c.args.journal.now c.make_room.new.journal s read its.may c.args.sources.now c.args.job c.args.timestamp
    c.args.request.now (running-over c.args.contents.now.state s c.args.job is.memory c.requires.running) c.requires.built
    c.requires.other is.sound is.journaled c.make_room.ensures.same c.journal_lasts.ensures.spelled c.requires.short c.journal_lasts.ensures.wait c.perform-done.new.contents.state c.perform-done.result answers

pub put_done-put-requires-clause-place : goal.put_done-put-requires-clause-place
put_done-put-requires-clause-place g c =
    let s = c.requires.kept.0 in
    let is = c.requires.kept.1 in
    let read = c.requires.kept.2 in
    let its = c.requires.kept.3 in
    let answers = answers-over c.args.contents.now.state s c.perform-done.new.contents.state c.perform-done.result c.args.sources.now read c.args.job c.args.timestamp c.args.request.now is.memory
    (c.perform-done.ensures.step read (count-over c.args.contents.now.state s read is.memory its.may) (numbered-over c.args.contents.now.state s read is.memory its.may)
    (part-over c.args.contents.now.state s read c.args.stretch.now is.memory its.part)) in
    let jobs : length c.args.contents.now.state.jobs ≡ length s.jobs = ap (λ (u : State). length u.jobs) is.memory in
    let made : needs_memory c.args.request.now ≡ true → 2 * length s.jobs + 1 ≤ c.make_room.new.journal.chain.room = λ wants.
    let fine : c.make_room.result ≡ true = c.if-not-make_room.false in omega (arith, jobs, c.jobs_begun.ensures.count, c.make_room.ensures.room fine wants) in
    asked-place g.S.Store.tells (g.S.Store.disk c.args.store.now) c.args.journal.now c.make_room.new.journal s read its.may c.args.sources.now c.args.job c.args.timestamp
    c.args.request.now (running-over c.args.contents.now.state s c.args.job is.memory c.requires.running) c.requires.built
    c.requires.other is.sound is.journaled c.make_room.ensures.same c.journal_lasts.ensures.spelled c.requires.short c.journal_lasts.ensures.places made c.perform-done.new.contents.state c.perform-done.result answers

pub returns : goal.returns
returns g c = λ s is read its.
    let answers = answers-over c.args.contents.now.state s c.perform-done.new.contents.state c.perform-done.result c.args.sources.now read c.args.job c.args.timestamp c.args.request.now is.memory
    (c.perform-done.ensures.step read (count-over c.args.contents.now.state s read is.memory its.may) (numbered-over c.args.contents.now.state s read is.memory its.may)
    (part-over c.args.contents.now.state s read c.args.stretch.now is.memory its.part)) in
    let jobs : length c.args.contents.now.state.jobs ≡ length s.jobs = ap (λ (u : State). length u.jobs) is.memory in
    let made : needs_memory c.args.request.now ≡ true → 2 * length s.jobs + 1 ≤ c.make_room.new.journal.chain.room = λ wants.
    let fine : c.make_room.result ≡ true = c.if-not-make_room.false in omega (arith, jobs, c.jobs_begun.ensures.count, c.make_room.ensures.room fine wants) in
    let new = g.S.Store.disk c.put_done-put.new.store in
    subst (λ (x : Reply × Bool). HasCome g.S.Store.tells c.args.sources.now (g.S.Store.disk c.args.store.now) new c.args.journal.now c.put_done-put.new.journal c.forget.new.self.state s
    (record { job = c.args.job; timestamp = c.args.timestamp; request = c.args.request.now; reply = x.0 }) x.1) (sym c.given.ensures)
    (ended-come g.S.Store.tells (g.S.Store.disk c.args.store.now) c.args.journal.now c.make_room.new.journal s read its.may c.args.sources.now c.args.job c.args.timestamp
    c.args.request.now (running-over c.args.contents.now.state s c.args.job is.memory c.requires.running) c.requires.built
    c.requires.other is.sound is.journaled c.make_room.ensures.same c.journal_lasts.ensures.spelled c.requires.short c.journal_lasts.ensures.places made c.journal_lasts.ensures.stay c.each_call_leaves_a_sound_library.ensures.reading its.own
    new c.put_done-put.new.journal c.perform-done.new.contents.state c.forget.new.self.state c.perform-done.result c.put_done-put.result answers c.forget.ensures.state
    c.perform-done.ensures.memory c.put_done-put.ensures.taken c.put_done-put.ensures.nothing c.put_done-put.ensures.same_journal
    (λ bad. λ (P : Disk → Type 0). λ here. subst (λ (st : g.row.S.Denot). P (g.S.Store.disk st)) (sym (c.put_done-put.ensures.same_store bad)) here))
