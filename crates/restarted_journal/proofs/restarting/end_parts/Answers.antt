use Rattle.std.proofs.Common.{◌∙◌}
use Rattle.store_model.proofs.Runs.{leaves_then}
use Rattle.receiver_chain.proofs.Others.{roots_then}
use Rattle.restarted_journal.specs.Restarts.{IsEnding}
use Rattle.restarted_journal.proofs.Ends.{begin-ending, roll-ended, roll-ending, roll-held, roll-reopens}
use Rattle.restarted_journal.proofs.restarting.end_parts.Goals as goal

pub returns-in_err-begin_receiver-clause-moments : goal.returns-in_err-begin_receiver-clause-moments
returns-in_err-begin_receiver-clause-moments g c = λ tells.
    begin-ending (g.D.Describe.rules c.args.by.now) c.args.who.now.job c.args.who.now.moment c.args.entries.items c.args.replay c.requires.left c.requires.whole c.args.book
    (g.S.Store.disk c.args.store.now) (g.S.Store.disk c.begin_receiver.new.store) (c.requires.held tells) c.requires.alone c.requires.first (c.begin_receiver.ensures.replays tells)

pub returns-in_err-journal-clause-moments : goal.returns-in_err-journal-clause-moments
returns-in_err-journal-clause-moments g c = λ tells.
    begin-ending (g.D.Describe.rules c.args.by.now) c.args.who.now.job c.args.who.now.moment c.args.entries.items c.args.replay c.requires.left c.requires.whole c.args.book
    (g.S.Store.disk c.args.store.now) (g.S.Store.disk c.begin_receiver.new.store) (c.requires.held tells) c.requires.alone c.requires.first (c.begin_receiver.ensures.replays tells)

pub roll_back-requires-clause-held : goal.roll_back-requires-clause-held
roll_back-requires-clause-held g c = λ tells.
    roll-held (g.D.Describe.rules c.args.by.now) c.args.who.now.job c.args.who.now.moment c.args.entries.items c.begin_receiver.new.book c.in_ok-journal.journal c.in_ok-journal.ensures.same
    c.begin_receiver.new.entries.items c.in_ok-begin_receiver.ensures.ended c.requires.whole (g.S.Store.disk c.begin_receiver.new.store) (c.in_ok-begin_receiver.ensures.held tells)

pub returns-in_err-roll_back-clause-moments : goal.returns-in_err-roll_back-clause-moments
returns-in_err-roll_back-clause-moments g c = λ tells.
    leaves_then (g.S.Store.disk c.args.store.now) (g.S.Store.disk c.begin_receiver.new.store) (g.S.Store.disk c.roll_back.new.store)
    (IsEnding (g.D.Describe.rules c.args.by.now) c.args.who.now.job c.args.who.now.moment c.args.entries.items)
    (begin-ending (g.D.Describe.rules c.args.by.now) c.args.who.now.job c.args.who.now.moment c.args.entries.items c.args.replay c.requires.left c.requires.whole c.args.book
    (g.S.Store.disk c.args.store.now) (g.S.Store.disk c.begin_receiver.new.store) (c.requires.held tells) c.requires.alone c.requires.first (c.begin_receiver.ensures.replays tells))
    (roll-ending (g.D.Describe.rules c.args.by.now) c.args.who.now.job c.args.who.now.moment c.args.entries.items c.begin_receiver.new.book c.in_ok-journal.journal c.in_ok-journal.ensures.same
    c.begin_receiver.new.entries.items c.in_ok-begin_receiver.ensures.ended c.requires.whole
    c.begin_receiver.new.replay c.in_ok-begin_receiver.ensures.left (g.S.Store.disk c.begin_receiver.new.store) (g.S.Store.disk c.roll_back.new.store) (c.in_ok-begin_receiver.ensures.held tells)
    c.in_ok-begin_receiver.ensures.nothing_waits
    (c.begin_receiver.ensures.receiver ∙ c.requires.first) (c.roll_back.ensures.replays tells))

pub returns-in_err-roll_back-clause-roots : goal.returns-in_err-roll_back-clause-roots
returns-in_err-roll_back-clause-roots g c = roots_then (g.S.Store.disk c.args.store.now) (g.S.Store.disk c.begin_receiver.new.store) (g.S.Store.disk c.roll_back.new.store)
    c.begin_receiver.ensures.roots c.roll_back.ensures.roots

pub returns-clause-moments : goal.returns-clause-moments
returns-clause-moments g c = λ tells.
    leaves_then (g.S.Store.disk c.args.store.now) (g.S.Store.disk c.begin_receiver.new.store) (g.S.Store.disk c.roll_back.new.store)
    (IsEnding (g.D.Describe.rules c.args.by.now) c.args.who.now.job c.args.who.now.moment c.args.entries.items)
    (begin-ending (g.D.Describe.rules c.args.by.now) c.args.who.now.job c.args.who.now.moment c.args.entries.items c.args.replay c.requires.left c.requires.whole c.args.book
    (g.S.Store.disk c.args.store.now) (g.S.Store.disk c.begin_receiver.new.store) (c.requires.held tells) c.requires.alone c.requires.first (c.begin_receiver.ensures.replays tells))
    (roll-ending (g.D.Describe.rules c.args.by.now) c.args.who.now.job c.args.who.now.moment c.args.entries.items c.begin_receiver.new.book c.in_ok-journal.journal c.in_ok-journal.ensures.same
    c.begin_receiver.new.entries.items c.in_ok-begin_receiver.ensures.ended c.requires.whole
    c.begin_receiver.new.replay c.in_ok-begin_receiver.ensures.left (g.S.Store.disk c.begin_receiver.new.store) (g.S.Store.disk c.roll_back.new.store) (c.in_ok-begin_receiver.ensures.held tells)
    c.in_ok-begin_receiver.ensures.nothing_waits
    (c.begin_receiver.ensures.receiver ∙ c.requires.first) (c.roll_back.ensures.replays tells))

pub returns-clause-roots : goal.returns-clause-roots
returns-clause-roots g c = roots_then (g.S.Store.disk c.args.store.now) (g.S.Store.disk c.begin_receiver.new.store) (g.S.Store.disk c.roll_back.new.store) c.begin_receiver.ensures.roots
    c.roll_back.ensures.roots

pub returns-clause-ended : goal.returns-clause-ended
returns-clause-ended g c = record {
  ended = roll-ended (g.D.Describe.rules c.args.by.now) c.args.who.now.job c.args.who.now.moment c.args.entries.items c.begin_receiver.new.book c.in_ok-journal.journal
      c.in_ok-journal.ensures.same c.begin_receiver.new.entries.items c.in_ok-begin_receiver.ensures.ended c.requires.whole c.roll_back.new.entries.items c.in_ok-roll_back.ensures.ended;
  held = c.in_ok-roll_back.ensures.held;
  nothing_waits = c.in_ok-roll_back.ensures.nothing_waits;
  receiver = c.roll_back.ensures.receiver ∙ c.in_ok-journal.ensures.same.receiver ∙ c.begin_receiver.ensures.receiver ∙ c.requires.first;
  reopens = roll-reopens (g.D.Describe.rules c.args.by.now) c.args.who.now.job c.args.who.now.moment c.args.entries.items c.begin_receiver.new.book c.in_ok-journal.journal
      c.in_ok-journal.ensures.same c.begin_receiver.new.entries.items c.in_ok-begin_receiver.ensures.ended c.requires.whole c.roll_back.new.entries.items c.in_ok-roll_back.ensures.ended
      c.roll_back.new.replay c.in_ok-roll_back.ensures.left;
  left = c.in_ok-roll_back.ensures.left;
  closed = c.in_ok-roll_back.ensures.closed;
}
