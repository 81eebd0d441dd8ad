use Rattle.std.proofs.Common.{◌≡◌, Err, ap, ◌∙◌, arith}
use Rattle.std.proofs.lemmas.Result.{IfOk-weaker}
use Rattle.journal_book.proofs.Attaching.{rose_after}
use Rattle.restart_rollback.below.journal_opening.specs.declared.fault.OpenFault.{OpenFault}
use Rattle.restart_rollback.below.journal_opening.specs.declared.fault.OpenFault.TheVariants.{Damaged}
use Rattle.restarted_journal.proofs.Rooted.{ended-left, ended-may, ended-restarted, ended-spelled, stays-may}
use Rattle.restarted_journal.proofs.restarting.restart_journal.Goals as goal

pub returns-in-Err-clause-moments : goal.returns-in-Err-clause-moments
returns-in-Err-clause-moments g c = λ tells entries spells. stays-may (g.D.Describe.rules c.args.by.now) (g.S.Store.disk c.args.store.now) (g.S.Store.disk c.open_journal.new.store)
    c.args.who.now.job c.args.who.now.moment entries c.open_journal.ensures.stays

pub returns-in-Err-clause-damaged : goal.returns-in-Err-clause-damaged
returns-in-Err-clause-damaged g c = λ area at is tells entries spells.
    let same : c.in-Err.fault ≡ Damaged area at = cc is in
    c.open_journal.ensures.damaged area at (c.in-Err.is ∙ ap (λ (e : OpenFault). Err e) same) tells entries spells

pub end_opened-requires-clause-left : goal.end_opened-requires-clause-left
end_opened-requires-clause-left g c = c.in-Ok.ensures.left.0

pub end_opened-requires-clause-whole : goal.end_opened-requires-clause-whole
end_opened-requires-clause-whole g c = c.in-Ok.ensures.left.1

pub end_opened-requires-clause-held : goal.end_opened-requires-clause-held
end_opened-requires-clause-held g c = λ tells. (c.in-Ok.ensures.opened tells).0.held

pub returns-in-Ok-clause-restarted : goal.returns-in-Ok-clause-restarted
returns-in-Ok-clause-restarted g c =
    IfOk-weaker c.end_opened.result _ _
    (λ r ended. ended-restarted (g.D.Describe.rules c.args.by.now) g.S.Store.tells (g.S.Store.disk c.args.store.now) (g.S.Store.disk c.end_opened.new.store) c.args.who.now.job
    c.args.who.now.moment c.in-Ok.opened.entries.items
    c.in-Ok.opened.replay c.in-Ok.ensures.left.0 c.in-Ok.ensures.left.1 (λ tells. (c.in-Ok.ensures.opened tells).1) _ _ _ ended) c.end_opened.ensures.ended

pub returns-in-Ok-clause-spelled : goal.returns-in-Ok-clause-spelled
returns-in-Ok-clause-spelled g c =
    IfOk-weaker c.end_opened.result _ _
    (λ r ended tells. ended-spelled c.in-Ok.opened.roots (g.S.Store.disk c.open_journal.new.store) (g.S.Store.disk c.end_opened.new.store) (c.in-Ok.ensures.opened tells).0.roots_held
    (c.in-Ok.ensures.opened tells).0.first c.end_opened.ensures.roots (g.D.Describe.rules c.args.by.now) c.args.who.now.job c.args.who.now.moment g.S.Store.tells tells
    c.in-Ok.opened.entries.items _ _ _ ended) c.end_opened.ensures.ended

pub returns-in-Ok-clause-durable : goal.returns-in-Ok-clause-durable
returns-in-Ok-clause-durable g c =
    IfOk-weaker c.end_opened.result _ _
    (λ r ended tells. ended-left c.in-Ok.opened.roots (g.S.Store.disk c.open_journal.new.store) (g.S.Store.disk c.end_opened.new.store) (c.in-Ok.ensures.opened tells).0.roots_held
    (c.in-Ok.ensures.opened tells).0.first c.end_opened.ensures.roots (g.D.Describe.rules c.args.by.now) c.args.who.now.job c.args.who.now.moment g.S.Store.tells tells
    c.in-Ok.opened.entries.items _ _ _ ended) c.end_opened.ensures.ended

pub returns-in-Ok-clause-moments : goal.returns-in-Ok-clause-moments
returns-in-Ok-clause-moments g c = λ tells entries spells.
    ended-may c.in-Ok.opened.roots (g.S.Store.disk c.open_journal.new.store) (g.S.Store.disk c.end_opened.new.store) (c.in-Ok.ensures.opened tells).0.roots_held
    (c.in-Ok.ensures.opened tells).0.first c.end_opened.ensures.roots (g.D.Describe.rules c.args.by.now) c.args.who.now.job c.args.who.now.moment
    (g.S.Store.disk c.args.store.now) c.open_journal.ensures.stays entries c.in-Ok.opened.entries.items spells (c.in-Ok.ensures.opened tells).1 (c.end_opened.ensures.moments tells)

pub returns-in-Ok-clause-not_a_library : goal.returns-in-Ok-clause-not_a_library
returns-in-Ok-clause-not_a_library g c = λ is tells. absurd (c.end_opened.ensures.never_empty is)

pub returns-in-Ok-clause-damaged : goal.returns-in-Ok-clause-damaged
returns-in-Ok-clause-damaged g c = λ area at is tells entries spells. c.end_opened.ensures.never_damaged area at is

pub returns-in-Ok-clause-something : goal.returns-in-Ok-clause-something
returns-in-Ok-clause-something g c = λ area at is tells same. c.end_opened.ensures.never_damaged area at is

pub returns-in-Err-clause-empty_stays : goal.returns-in-Err-clause-empty_stays
returns-in-Err-clause-empty_stays g c = λ is. c.open_journal.ensures.stays

pub returns-in-Err-clause-damaged_stays : goal.returns-in-Err-clause-damaged_stays
returns-in-Err-clause-damaged_stays g c = λ area at is. c.open_journal.ensures.stays

pub returns-in-Err-clause-faults : goal.returns-in-Err-clause-faults
returns-in-Err-clause-faults g c = c.open_journal.ensures.stays.later.faults

pub returns-in-Ok-clause-empty_stays : goal.returns-in-Ok-clause-empty_stays
returns-in-Ok-clause-empty_stays g c = λ is. absurd (c.end_opened.ensures.never_empty is)

pub returns-in-Ok-clause-damaged_stays : goal.returns-in-Ok-clause-damaged_stays
returns-in-Ok-clause-damaged_stays g c = λ area at is. absurd (c.end_opened.ensures.never_damaged area at is)

pub returns-in-Ok-clause-faults : goal.returns-in-Ok-clause-faults
returns-in-Ok-clause-faults g c = omega (arith, c.open_journal.ensures.stays.later.faults, c.end_opened.ensures.roots.later.faults)

pub returns-in-Ok-clause-cause : goal.returns-in-Ok-clause-cause
returns-in-Ok-clause-cause g c = λ is. rose_after _ _ _ c.open_journal.ensures.stays.later.faults (c.end_opened.ensures.cause is)
