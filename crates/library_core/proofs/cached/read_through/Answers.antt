use Rattle.std.proofs.Common.{◌≡◌, true, sym, ◌∙◌}
use Rattle.std.proofs.lemmas.Bool.{false≢true}
use Rattle.kept_library.specs.Unread.{reads_journal}
use Rattle.receiver_chain.proofs.Switches.{stays_here}
use Rattle.library_core.proofs.ReadLemmas.{nothing-has}
use Rattle.library_core.proofs.SameLemmas.{reads-need}
use Rattle.library_core.proofs.cached.read_through.Goals as goal

pub returns-then-reads_journal-clause-wants : goal.returns-then-reads_journal-clause-wants
returns-then-reads_journal-clause-wants g c = λ bad.
    let asked : reads_journal c.args.request.now ≡ true = sym c.reads_journal.ensures ∙ c.if-reads_journal.true in
    reads-need c.args.request.now asked

pub returns-then-reads_journal-clause-unread : goal.returns-then-reads_journal-clause-unread
returns-then-reads_journal-clause-unread g c = λ sequence bad. sym c.reads_journal.ensures ∙ c.if-reads_journal.true

pub returns-then-reads_journal-clause-alone : goal.returns-then-reads_journal-clause-alone
returns-then-reads_journal-clause-alone g c = λ other. absurd (false≢true (sym other ∙ (sym c.reads_journal.ensures ∙ c.if-reads_journal.true)))

pub returns-else-reads_journal-clause-read : goal.returns-else-reads_journal-clause-read
returns-else-reads_journal-clause-read g c = λ s is. nothing-has g.S.Store.tells c.args.contents.now.state s c.nothing_read.result is.memory is.sound c.nothing_read.ensures

pub returns-else-reads_journal-clause-stays : goal.returns-else-reads_journal-clause-stays
returns-else-reads_journal-clause-stays g c = stays_here (g.S.Store.disk c.args.store.now)

pub returns-else-reads_journal-clause-cached : goal.returns-else-reads_journal-clause-cached
returns-else-reads_journal-clause-cached g c = c.requires.cached
