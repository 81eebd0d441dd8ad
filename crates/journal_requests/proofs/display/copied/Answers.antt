use Rattle.entry_codec.specs.Spelling.{HasSpelling}
use Rattle.journal_requests.proofs.DisplayLemmas.{copied-more, spelled-more}
use Rattle.journal_requests.proofs.display.copied.Goals as goal

pub loop-entry-preserved : goal.loop-entry-preserved
loop-entry-preserved c =
    let l = c.loop-entry in
    let e = c.entry-item.result in
    let x = c.in_ok-copied.field-0 in (
      copied-more c.args.shown.now l.entries.items c.push.new.self.items l.entry-index e x c.loop-entry-test.true c.entry-item.is c.in_ok-copied.ensures c.in_ok-push.ensures.items l.invariant.0,
      spelled-more HasSpelling l.entries.items c.push.new.self.items e x c.in_ok-copied.ensures c.in_ok-push.ensures.items l.invariant.1 (c.has_spelling.ensures c.if-not-has_spelling.false),
    )
