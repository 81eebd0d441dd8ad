use Rattle.std.proofs.Common.{refl, rules}
use Rattle.std.specs.Prelude.{IsErr, IsErrOf}
use Rattle.record_changes.proofs.ReadLemmas.{own-read}
use Rattle.library_core.specs.declared.reading.ReadFault.TheVariants.{BlockChanged, StoreFault}
use Rattle.library_core.proofs.AnswerLemmas.{changed-come, roomless-come, unread-come}
use Rattle.library_core.proofs.JournalLemmas.{more-none}
use Rattle.library_core.proofs.MemoryLemmas.{running-over}
use Rattle.library_core.proofs.ReadLemmas.{come-behind, journaled-stays, remembered-stays, stretch-read}
use Rattle.library_core.proofs.answering.answer_other.Goals as goal

pub answer_read-requires-clause-kept : goal.answer_read-requires-clause-kept
answer_read-requires-clause-kept g c =
    let s = c.requires.kept.0 in
    let its = stretch-read g.S.Store.tells s c.read_through.result c.in-Ok.stretch c.in-Ok.is (c.read_through.ensures.read s c.requires.kept.1) in (
      s,
      remembered-stays g.S.Store.tells (g.S.Store.disk c.args.store.now) (g.S.Store.disk c.read_through.new.store) c.args.journal.now c.args.contents.now.state s c.read_through.ensures.stays
          c.requires.kept.1,
      its.0,
      its.1,
    )

pub returns-in-Ok-clause-come : goal.returns-in-Ok-clause-come
returns-in-Ok-clause-come g c = λ s is.
    let its = stretch-read g.S.Store.tells s c.read_through.result c.in-Ok.stretch c.in-Ok.is (c.read_through.ensures.read s is) in
    come-behind g.S.Store.tells c.args.sources.now (g.S.Store.disk c.args.store.now) (g.S.Store.disk c.read_through.new.store) (g.S.Store.disk c.answer_read.new.store) c.args.journal.now
    c.answer_read.new.journal c.answer_read.new.contents.state s _ _ c.read_through.ensures.stays is.journaled
    (c.answer_read.ensures s
    (remembered-stays g.S.Store.tells (g.S.Store.disk c.args.store.now) (g.S.Store.disk c.read_through.new.store) c.args.journal.now c.args.contents.now.state s c.read_through.ensures.stays is) its.0 its.1)

pub returns-in-Err-NoMemory-clause-come : goal.returns-in-Err-NoMemory-clause-come
returns-in-Err-NoMemory-clause-come g c = λ s is.
    let bad : IsErr c.read_through.result = search rules in
    let mid = g.S.Store.disk c.read_through.new.store in
    come-behind g.S.Store.tells c.args.sources.now (g.S.Store.disk c.args.store.now) mid mid c.args.journal.now c.args.journal.now c.args.contents.now.state s _ _ c.read_through.ensures.stays
    is.journaled
    (roomless-come g.S.Store.tells mid c.args.journal.now c.args.journal.now s s.entries (own-read s is.sound) c.args.sources.now c.args.job c.args.timestamp c.args.request.now
    (running-over c.args.contents.now.state s c.args.job is.memory c.requires.running) c.requires.built c.requires.other is.sound
    (journaled-stays g.S.Store.tells (g.S.Store.disk c.args.store.now) mid c.args.journal.now s c.read_through.ensures.stays is.journaled) (more-none c.args.journal.now) (λ told. refl)
    c.args.contents.now.state is.memory (c.read_through.ensures.wants bad))

pub returns-in-Err-StoreFault-clause-come : goal.returns-in-Err-StoreFault-clause-come
returns-in-Err-StoreFault-clause-come g c = λ s is.
    let bad : IsErr c.read_through.result = search rules in
    let fault : IsErrOf c.read_through.result StoreFault = search rules in
    unread-come g.S.Store.tells (g.S.Store.disk c.args.store.now) c.args.journal.now c.args.journal.now s s.entries (own-read s is.sound) c.args.sources.now c.args.job c.args.timestamp
    c.args.request.now (running-over c.args.contents.now.state s c.args.job is.memory c.requires.running) c.requires.built c.requires.other is.sound is.journaled
    (more-none c.args.journal.now) (λ told. refl) (g.S.Store.disk c.read_through.new.store) c.read_through.ensures.stays (c.read_through.ensures.cause fault) c.args.contents.now.state is.memory
    (c.read_through.ensures.wants bad)

pub returns-in-Err-BlockChanged-clause-come : goal.returns-in-Err-BlockChanged-clause-come
returns-in-Err-BlockChanged-clause-come g c = λ s is.
    let bad : IsErr c.read_through.result = search rules in
    let changed : IsErrOf c.read_through.result (BlockChanged c.in-Err-BlockChanged.sequence) = search rules in
    let mid = g.S.Store.disk c.read_through.new.store in
    come-behind g.S.Store.tells c.args.sources.now (g.S.Store.disk c.args.store.now) mid mid c.args.journal.now c.args.journal.now c.args.contents.now.state s _ _ c.read_through.ensures.stays
    is.journaled
    (changed-come g.S.Store.tells mid c.args.journal.now c.args.journal.now s s.entries (own-read s is.sound) c.args.sources.now c.args.job c.args.timestamp c.args.request.now
    (running-over c.args.contents.now.state s c.args.job is.memory c.requires.running) c.requires.built c.requires.other is.sound
    (journaled-stays g.S.Store.tells (g.S.Store.disk c.args.store.now) mid c.args.journal.now s c.read_through.ensures.stays is.journaled) (more-none c.args.journal.now) (λ told. refl)
    c.args.contents.now.state c.in-Err-BlockChanged.sequence is.memory (c.read_through.ensures.wants bad) (c.read_through.ensures.unread c.in-Err-BlockChanged.sequence changed)
    (c.read_through.ensures.untold c.in-Err-BlockChanged.sequence changed))

pub returns-in-Ok-clause-cached : goal.returns-in-Ok-clause-cached
returns-in-Ok-clause-cached g c = c.read_through.ensures.cached

pub returns-in-Err-NoMemory-clause-cached : goal.returns-in-Err-NoMemory-clause-cached
returns-in-Err-NoMemory-clause-cached g c = c.read_through.ensures.cached

pub returns-in-Err-StoreFault-clause-cached : goal.returns-in-Err-StoreFault-clause-cached
returns-in-Err-StoreFault-clause-cached g c = c.read_through.ensures.cached

pub returns-in-Err-BlockChanged-clause-cached : goal.returns-in-Err-BlockChanged-clause-cached
returns-in-Err-BlockChanged-clause-cached g c = c.read_through.ensures.cached
