use Rattle.std.proofs.Common.{◌≡◌, ◌∙◌, true, sym, ap, rules}
use Rattle.journal_model.specs.Acts.{Act}
use Rattle.journal_replay.specs.Tests.{may_stand_next}
use Rattle.replay_step.specs.Moves.{may_note, standing_by}
use Rattle.replay_step.proofs.MoveLemmas.{stands-sequence, stands-new, stands-next, stands-apart, standing-by}
use Rattle.replay_step.proofs.replay.Replay.step.Goals as goal

pub move_on-requires-clause-sequence : goal.move_on-requires-clause-sequence
move_on-requires-clause-sequence g c =
    let h : may_stand_next (g.D.Describe.rules c.args.by.now) c.args.self.now c.args.entry.now ≡ true = search rules in
    stands-sequence (g.D.Describe.rules c.args.by.now) c.args.self.now c.args.entry.now h

pub move_on-requires-clause-named : goal.move_on-requires-clause-named
move_on-requires-clause-named g c =
    let h : may_stand_next (g.D.Describe.rules c.args.by.now) c.args.self.now c.args.entry.now ≡ true = search rules in
    stands-new (g.D.Describe.rules c.args.by.now) c.args.self.now c.args.entry.now h

pub move_on-requires-clause-numbered : goal.move_on-requires-clause-numbered
move_on-requires-clause-numbered g c =
    let h : may_stand_next (g.D.Describe.rules c.args.by.now) c.args.self.now c.args.entry.now ≡ true = search rules in
    stands-next (g.D.Describe.rules c.args.by.now) c.args.self.now c.args.entry.now h

pub move_on-requires-clause-apart : goal.move_on-requires-clause-apart
move_on-requires-clause-apart g c =
    let h : may_stand_next (g.D.Describe.rules c.args.by.now) c.args.self.now c.args.entry.now ≡ true = search rules in
    ap (λ (a : Act). may_note c.args.entry.now.member a c.args.self.now.undos) c.in_ok-act.ensures ∙ stands-apart (g.D.Describe.rules c.args.by.now) c.args.self.now c.args.entry.now h

pub returns-clause-moved : goal.returns-clause-moved
returns-clause-moved g c is_true =
    let h : may_stand_next (g.D.Describe.rules c.args.by.now) c.args.self.now c.args.entry.now ≡ true = search rules in
    let by = standing-by c.args.entry.now c.args.self.now (stands-next (g.D.Describe.rules c.args.by.now) c.args.self.now c.args.entry.now h) in
    c.in_ok-move_on.ensures ∙ ap (λ (a : Act). standing_by c.args.entry.now a c.args.self.now) c.in_ok-act.ensures ∙ sym by
