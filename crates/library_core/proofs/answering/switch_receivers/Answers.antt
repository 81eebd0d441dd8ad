use Rattle.std.proofs.Common.{◌+◌, [], rules}
use Rattle.std.specs.Prelude.{IsErrOf, IsOk}
use Rattle.receiver_chain.specs.Chain.{attached_of}
use Rattle.receiver_chain.specs.declared.fault.ChainFault.TheVariants.{NoMemory, StoreFault}
use Rattle.library_core.proofs.AnswerLemmas.{ok-is}
use Rattle.library_core.proofs.AttachLemmas.{attach-over, err-is, fault-come, one-number, ready-over, short-come, tied-come, ties-begin, ties-below, ties-end, ties-few, ties-held}
use Rattle.library_core.proofs.AttachLemmas.{ties-place, ties-spelled}
use Rattle.library_core.proofs.JournalLemmas.{more-none}
use Rattle.library_core.proofs.MemoryLemmas.{running-over}
use Rattle.library_core.proofs.answering.switch_receivers.Goals as goal

pub switch-requires-clause-held : goal.switch-requires-clause-held
switch-requires-clause-held g c =
    let s = c.requires.kept.0 in
    let is = c.requires.kept.1 in
    ties-held g.S.Store.tells (g.S.Store.disk c.args.store.now) c.args.journal.now c.args.journal.now s [] c.args.job c.args.timestamp
    (running-over c.args.contents.now.state s c.args.job is.memory c.requires.running) is.sound is.journaled (more-none c.args.journal.now)

pub switch-requires-clause-place : goal.switch-requires-clause-place
switch-requires-clause-place g c =
    let s = c.requires.kept.0 in
    let is = c.requires.kept.1 in
    let ready = ready-over c.args.contents.now.state s c.args.job c.args.timestamp c.args.number c.args.journal.now.chain.room c.attach_drafts-ending.result.0 c.attach_drafts-ending.result.1
    is.memory (record {
      plan = c.requires.plan;
      next = c.requires.next;
      few = c.requires.few;
      left = c.requires.left;
      made = c.requires.places;
      ending_is = c.attach_drafts-ending.ensures.ending;
      beginning_is = c.attach_drafts-ending.ensures.beginning;
    }) in
    ties-place g.S.Store.tells (g.S.Store.disk c.args.store.now) c.args.journal.now c.args.journal.now s [] c.args.job c.args.timestamp
    (running-over c.args.contents.now.state s c.args.job is.memory c.requires.running) is.sound is.journaled (more-none c.args.journal.now) c.args.number c.attach_drafts-ending.result.0
    c.attach_drafts-ending.result.1 ready

pub switch-requires-clause-below : goal.switch-requires-clause-below
switch-requires-clause-below g c =
    let s = c.requires.kept.0 in
    let is = c.requires.kept.1 in
    let ready = ready-over c.args.contents.now.state s c.args.job c.args.timestamp c.args.number c.args.journal.now.chain.room c.attach_drafts-ending.result.0 c.attach_drafts-ending.result.1
    is.memory (record {
      plan = c.requires.plan;
      next = c.requires.next;
      few = c.requires.few;
      left = c.requires.left;
      made = c.requires.places;
      ending_is = c.attach_drafts-ending.ensures.ending;
      beginning_is = c.attach_drafts-ending.ensures.beginning;
    }) in
    ties-below g.S.Store.tells (g.S.Store.disk c.args.store.now) c.args.journal.now c.args.journal.now s [] c.args.job c.args.timestamp
    (running-over c.args.contents.now.state s c.args.job is.memory c.requires.running) is.sound is.journaled (more-none c.args.journal.now) c.args.number c.attach_drafts-ending.result.0
    c.attach_drafts-ending.result.1 ready

pub switch-requires-clause-ends : goal.switch-requires-clause-ends
switch-requires-clause-ends g c =
    let s = c.requires.kept.0 in
    let is = c.requires.kept.1 in
    let ready = ready-over c.args.contents.now.state s c.args.job c.args.timestamp c.args.number c.args.journal.now.chain.room c.attach_drafts-ending.result.0 c.attach_drafts-ending.result.1
    is.memory (record {
      plan = c.requires.plan;
      next = c.requires.next;
      few = c.requires.few;
      left = c.requires.left;
      made = c.requires.places;
      ending_is = c.attach_drafts-ending.ensures.ending;
      beginning_is = c.attach_drafts-ending.ensures.beginning;
    }) in
    ties-end g.S.Store.tells (g.S.Store.disk c.args.store.now) c.args.journal.now c.args.journal.now s [] c.args.job c.args.timestamp
    (running-over c.args.contents.now.state s c.args.job is.memory c.requires.running) is.sound is.journaled (more-none c.args.journal.now) c.args.number c.attach_drafts-ending.result.0
    c.attach_drafts-ending.result.1 ready

pub switch-requires-clause-begins : goal.switch-requires-clause-begins
switch-requires-clause-begins g c =
    let s = c.requires.kept.0 in
    let is = c.requires.kept.1 in
    let ready = ready-over c.args.contents.now.state s c.args.job c.args.timestamp c.args.number c.args.journal.now.chain.room c.attach_drafts-ending.result.0 c.attach_drafts-ending.result.1
    is.memory (record {
      plan = c.requires.plan;
      next = c.requires.next;
      few = c.requires.few;
      left = c.requires.left;
      made = c.requires.places;
      ending_is = c.attach_drafts-ending.ensures.ending;
      beginning_is = c.attach_drafts-ending.ensures.beginning;
    }) in
    ties-begin g.S.Store.tells (g.S.Store.disk c.args.store.now) c.args.journal.now c.args.journal.now s [] c.args.job c.args.timestamp
    (running-over c.args.contents.now.state s c.args.job is.memory c.requires.running) is.sound is.journaled (more-none c.args.journal.now) c.args.number c.attach_drafts-ending.result.0
    c.attach_drafts-ending.result.1 ready

pub switch-requires-clause-few : goal.switch-requires-clause-few
switch-requires-clause-few g c =
    let s = c.requires.kept.0 in
    let is = c.requires.kept.1 in
    let ready = ready-over c.args.contents.now.state s c.args.job c.args.timestamp c.args.number c.args.journal.now.chain.room c.attach_drafts-ending.result.0 c.attach_drafts-ending.result.1
    is.memory (record {
      plan = c.requires.plan;
      next = c.requires.next;
      few = c.requires.few;
      left = c.requires.left;
      made = c.requires.places;
      ending_is = c.attach_drafts-ending.ensures.ending;
      beginning_is = c.attach_drafts-ending.ensures.beginning;
    }) in
    ties-few g.S.Store.tells (g.S.Store.disk c.args.store.now) c.args.journal.now c.args.journal.now s [] c.args.job c.args.timestamp
    (running-over c.args.contents.now.state s c.args.job is.memory c.requires.running) is.sound is.journaled (more-none c.args.journal.now) c.args.number c.attach_drafts-ending.result.0
    c.attach_drafts-ending.result.1 ready

pub switch-requires-clause-nr_spelled : goal.switch-requires-clause-nr_spelled
switch-requires-clause-nr_spelled g c =
    let s = c.requires.kept.0 in
    let is = c.requires.kept.1 in
    let ready = ready-over c.args.contents.now.state s c.args.job c.args.timestamp c.args.number c.args.journal.now.chain.room c.attach_drafts-ending.result.0 c.attach_drafts-ending.result.1
    is.memory (record {
      plan = c.requires.plan;
      next = c.requires.next;
      few = c.requires.few;
      left = c.requires.left;
      made = c.requires.places;
      ending_is = c.attach_drafts-ending.ensures.ending;
      beginning_is = c.attach_drafts-ending.ensures.beginning;
    }) in
    (ties-spelled g.S.Store.tells (g.S.Store.disk c.args.store.now) c.args.journal.now c.args.journal.now s [] c.args.job c.args.timestamp
    (running-over c.args.contents.now.state s c.args.job is.memory c.requires.running) is.sound is.journaled (more-none c.args.journal.now) c.args.number c.attach_drafts-ending.result.0
    c.attach_drafts-ending.result.1 ready c.journal_lasts.ensures.spelled).0

pub switch-requires-clause-pr_spelled : goal.switch-requires-clause-pr_spelled
switch-requires-clause-pr_spelled g c =
    let s = c.requires.kept.0 in
    let is = c.requires.kept.1 in
    let ready = ready-over c.args.contents.now.state s c.args.job c.args.timestamp c.args.number c.args.journal.now.chain.room c.attach_drafts-ending.result.0 c.attach_drafts-ending.result.1
    is.memory (record {
      plan = c.requires.plan;
      next = c.requires.next;
      few = c.requires.few;
      left = c.requires.left;
      made = c.requires.places;
      ending_is = c.attach_drafts-ending.ensures.ending;
      beginning_is = c.attach_drafts-ending.ensures.beginning;
    }) in
    (ties-spelled g.S.Store.tells (g.S.Store.disk c.args.store.now) c.args.journal.now c.args.journal.now s [] c.args.job c.args.timestamp
    (running-over c.args.contents.now.state s c.args.job is.memory c.requires.running) is.sound is.journaled (more-none c.args.journal.now) c.args.number c.attach_drafts-ending.result.0
    c.attach_drafts-ending.result.1 ready c.journal_lasts.ensures.spelled).1

pub returns-in-Ok : goal.returns-in-Ok
returns-in-Ok g c = λ sources s is.
    let fine : IsOk c.switch.result = search rules in
    let ready = ready-over c.args.contents.now.state s c.args.job c.args.timestamp c.args.number c.args.journal.now.chain.room c.attach_drafts-ending.result.0 c.attach_drafts-ending.result.1
    is.memory (record {
      plan = c.requires.plan;
      next = c.requires.next;
      few = c.requires.few;
      left = c.requires.left;
      made = c.requires.places;
      ending_is = c.attach_drafts-ending.ensures.ending;
      beginning_is = c.attach_drafts-ending.ensures.beginning;
    }) in
    tied-come g.S.Store.tells (g.S.Store.disk c.args.store.now) c.args.journal.now c.args.journal.now s sources c.args.job c.args.timestamp
    (running-over c.args.contents.now.state s c.args.job is.memory c.requires.running) is.sound is.journaled (more-none c.args.journal.now) c.args.number c.attach_drafts-ending.result.0
    c.attach_drafts-ending.result.1 ready
    (g.S.Store.disk c.switch.new.store) c.switch.new.self c.switch.ensures.exactly c.switch.ensures.first c.switch.ensures.receiver c.switch.ensures.no_longer c.switch.ensures.faults c.switch.ensures.roots
    c.journal_lasts.ensures.places (ok-is c.switch.result fine c.switch.ensures.less_places) c.journal_lasts.ensures.stay
    (one-number c.switch.result (attached_of c.args.journal.now.chain + 1) (attached_of c.switch.new.self.chain) fine c.switch.ensures.number c.switch.ensures.attached)
    (ok-is c.switch.result fine c.switch.ensures.nothing_waits) (ok-is c.switch.result fine c.switch.ensures.all) (ok-is c.switch.result fine c.switch.ensures.switched)
    c.each_call_leaves_a_sound_library.ensures.reading c.attach_in_memory.ensures.0 c.attach_in_memory.new.contents.state c.attach_in_memory.result
    (attach-over c.args.contents.now.state s c.attach_in_memory.ensures.0 c.args.job c.args.timestamp c.args.number c.attach_in_memory.result is.memory c.attach_in_memory.ensures.1)
    c.attach_in_memory.ensures.2

pub returns-in-Err-NoMemory : goal.returns-in-Err-NoMemory
returns-in-Err-NoMemory g c = λ sources s is.
    let none : IsErrOf c.switch.result NoMemory = search rules in
    let ready = ready-over c.args.contents.now.state s c.args.job c.args.timestamp c.args.number c.args.journal.now.chain.room c.attach_drafts-ending.result.0 c.attach_drafts-ending.result.1
    is.memory (record {
      plan = c.requires.plan;
      next = c.requires.next;
      few = c.requires.few;
      left = c.requires.left;
      made = c.requires.places;
      ending_is = c.attach_drafts-ending.ensures.ending;
      beginning_is = c.attach_drafts-ending.ensures.beginning;
    }) in
    short-come g.S.Store.tells (g.S.Store.disk c.args.store.now) c.args.journal.now c.args.journal.now s sources c.args.job c.args.timestamp
    (running-over c.args.contents.now.state s c.args.job is.memory c.requires.running) is.sound is.journaled (more-none c.args.journal.now) c.args.number c.attach_drafts-ending.result.0
    c.attach_drafts-ending.result.1 ready
    (g.S.Store.disk c.switch.new.store) c.switch.new.self c.switch.ensures.exactly c.switch.ensures.first c.switch.ensures.receiver c.switch.ensures.no_longer c.switch.ensures.faults c.switch.ensures.roots
    c.journal_lasts.ensures.places (c.switch.ensures.same_places none) (c.switch.ensures.same_next none) (c.switch.ensures.same_forced none)
    (err-is c.switch.result NoMemory none c.switch.ensures.same_number) (c.switch.ensures.no_memory none) (c.switch.ensures.wanting none) c.args.contents.now.state is.memory

pub returns-in-Err-StoreFault : goal.returns-in-Err-StoreFault
returns-in-Err-StoreFault g c = λ sources s is.
    let bad : IsErrOf c.switch.result StoreFault = search rules in
    let ready = ready-over c.args.contents.now.state s c.args.job c.args.timestamp c.args.number c.args.journal.now.chain.room c.attach_drafts-ending.result.0 c.attach_drafts-ending.result.1
    is.memory (record {
      plan = c.requires.plan;
      next = c.requires.next;
      few = c.requires.few;
      left = c.requires.left;
      made = c.requires.places;
      ending_is = c.attach_drafts-ending.ensures.ending;
      beginning_is = c.attach_drafts-ending.ensures.beginning;
    }) in
    fault-come g.S.Store.tells (g.S.Store.disk c.args.store.now) c.args.journal.now c.args.journal.now s sources c.args.job c.args.timestamp
    (running-over c.args.contents.now.state s c.args.job is.memory c.requires.running) is.sound is.journaled (more-none c.args.journal.now) c.args.number c.attach_drafts-ending.result.0
    c.attach_drafts-ending.result.1 ready
    (g.S.Store.disk c.switch.new.store) c.switch.new.self c.switch.ensures.exactly c.switch.ensures.first c.switch.ensures.receiver c.switch.ensures.no_longer c.switch.ensures.faults c.switch.ensures.roots
    (c.switch.ensures.cause bad) c.args.contents.now.state is.memory
