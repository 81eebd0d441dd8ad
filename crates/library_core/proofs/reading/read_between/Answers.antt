use Rattle.std.proofs.Common.{◌≡◌}
use Rattle.store_model.specs.Faults.{Rose}
use Rattle.library_core.specs.declared.reading.ReadFault.TheVariants as reads
use Rattle.library_core.proofs.JudgedLemmas.{IsJudged, err-of, err-same, fault-bad, fault-cause, first-book, held-of, judged-read, judged-untold, not-changed, not-memory}
use Rattle.library_core.proofs.reading.read_between.Goals as goal

pub entries_between-requires-clause-held : goal.entries_between-requires-clause-held
entries_between-requires-clause-held g c =
    held-of g.S.Store.tells (g.S.Store.disk c.args.store.now) c.args.journal.now c.args.contents.now.state c.requires.kept.0 c.requires.kept.1

pub stretch_read-requires-clause-first : goal.stretch_read-requires-clause-first
stretch_read-requires-clause-first g c =
    first-book g.S.Store.tells (g.S.Store.disk c.args.store.now) c.args.journal.now c.args.contents.now.state c.requires.kept.0 c.args.from c.args.to c.requires.kept.1 c.requires.first
    c.requires.order c.requires.last

pub returns-in-Ok-clause-read : goal.returns-in-Ok-clause-read
returns-in-Ok-clause-read g c = λ s is.
    let judged : IsJudged c.args.contents.now.state c.args.from c.args.to c.in-Ok.entries.items c.stretch_read.result = record {
      stretch = c.stretch_read.ensures.stretch;
      long = c.stretch_read.ensures.long;
      numbered = c.stretch_read.ensures.numbered;
      told = c.stretch_read.ensures.told;
      other = c.stretch_read.ensures.other;
    } in
    judged-read g.S.Store.tells (g.S.Store.disk c.args.store.now) c.args.journal.now c.args.contents.now.state s c.args.from c.args.to is c.requires.first c.requires.order c.requires.last
    c.in-Ok.entries.items c.stretch_read.result judged c.in-Ok.ensures.entries

pub returns-in-Ok-clause-cause : goal.returns-in-Ok-clause-cause
returns-in-Ok-clause-cause g c = λ bad. absurd (c.stretch_read.ensures.changed bad)

pub returns-in-Ok-clause-untold : goal.returns-in-Ok-clause-untold
returns-in-Ok-clause-untold g c = λ sequence bad told.
    let judged : IsJudged c.args.contents.now.state c.args.from c.args.to c.in-Ok.entries.items c.stretch_read.result = record {
      stretch = c.stretch_read.ensures.stretch;
      long = c.stretch_read.ensures.long;
      numbered = c.stretch_read.ensures.numbered;
      told = c.stretch_read.ensures.told;
      other = c.stretch_read.ensures.other;
    } in
    judged-untold g.S.Store.tells (g.S.Store.disk c.args.store.now) c.args.journal.now c.args.contents.now.state c.requires.kept.0 c.args.from c.args.to c.requires.kept.1 c.requires.first
    c.requires.order c.requires.last c.in-Ok.entries.items c.stretch_read.result judged c.in-Ok.ensures.entries
    (fault-bad c.stretch_read.result (reads.BlockChanged sequence) bad) told

pub returns-in-Err-clause-cause : goal.returns-in-Err-clause-cause
returns-in-Err-clause-cause g c = λ bad.
    let store : c.fault_of.result ≡ reads.StoreFault = err-same _ _ bad in
    fault-cause g.S.Store.tells (g.S.Store.disk c.args.store.now) c.args.journal.now c.args.contents.now.state c.requires.kept.0 c.args.from c.args.to c.requires.kept.1 c.requires.first
    c.requires.order c.requires.last
    (Rose (g.S.Store.disk c.args.store.now).faults (g.S.Store.disk c.entries_between.new.store).faults) c.in-Err.fault
    (λ none. not-memory c.fault_of.result (c.fault_of.ensures.memory none) store)
    (λ sequence area at changed. not-changed c.fault_of.result sequence (c.fault_of.ensures.changed sequence area at changed) store)
    (λ some least most is. c.in-Err.ensures.there some least most (err-of _ _ is))
    (λ first sequence is. c.in-Err.ensures.kept first sequence (err-of _ _ is))
    (λ is. c.in-Err.ensures.cause (err-of _ _ is))

pub returns-in-Err-clause-untold : goal.returns-in-Err-clause-untold
returns-in-Err-clause-untold g c = λ sequence bad told.
    let its = c.fault_of.ensures.unread sequence (err-same _ _ bad) in
    c.in-Err.ensures.whole sequence its.0 its.1 (err-of _ _ its.2) told
