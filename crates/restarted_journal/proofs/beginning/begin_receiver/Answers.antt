use Rattle.std.proofs.Common.{◌≡◌, ◌+◌, Some, None, List, length, OnOk, sym, subst}
use Rattle.store_model.specs.Disk.{Leaves}
use Rattle.entry_codec.specs.declared.entries.Entry.{Entry}
use Rattle.receiver_chain.proofs.Others.{roots_here}
use Rattle.journal_model.specs.Acts.{entry_before}
use Rattle.journal_model.specs.Rollback.{missing_behind, numbered_from}
use Rattle.journal_book.specs.Kept.{IsForcedOrFrom}
use Rattle.kept_journal.proofs.CallLemmas.{ok-map}
use Rattle.restart_rollback.specs.Rollbacks.{IsForcedOrReplayed}
use Rattle.restart_rollback.proofs.PutLemmas.{still}
use Rattle.restart_rollback.proofs.Wholes.{replayed-still}
use Rattle.restarted_journal.proofs.Beginnings.{begun-none, begun-one, missing-at}
use Rattle.restarted_journal.proofs.beginning.begin_receiver.Goals as goal

pub returns-in-None-clause-ended : goal.returns-in-None-clause-ended
returns-in-None-clause-ended g c =
    ok-map c.begun_already.result c.begun_already.ensures.begun (λ begun. sym (begun-none c.args.who.now.job c.args.who.now.moment c.args.entries.now.items
    (missing-at c.args.who.now.job c.args.who.now.moment c.deref.result.now c.args.entries.now.items c.missing_number.result None c.deref.ensures.value c.in-None.is
    (c.missing_number.ensures c.args.who.now.job c.args.who.now.moment))))

pub returns-in-None-clause-moments : goal.returns-in-None-clause-moments
returns-in-None-clause-moments g c = λ tells.
    still c.args.book.now c.args.entries.now.items (numbered_from (length c.args.entries.now.items + 1)
    (missing_behind c.args.who.now.job c.args.who.now.moment (entry_before None c.args.entries.now.items))) (g.S.Store.disk c.args.store.now) (c.requires.held tells)

pub returns-in-None-clause-replays : goal.returns-in-None-clause-replays
returns-in-None-clause-replays g c = λ tells whole.
    replayed-still (g.D.Describe.rules c.args.by.now) c.args.book.now c.args.entries.now.items (numbered_from (length c.args.entries.now.items + 1)
    (missing_behind c.args.who.now.job c.args.who.now.moment (entry_before None c.args.entries.now.items))) (g.S.Store.disk c.args.store.now) (c.requires.held tells)

pub returns-in-None-clause-roots : goal.returns-in-None-clause-roots
returns-in-None-clause-roots g c = roots_here (g.S.Store.disk c.args.store.now)

pub returns-in-Some-clause-ended : goal.returns-in-Some-clause-ended
returns-in-Some-clause-ended g c =
    subst (λ (l : List Entry). OnOk c.begin_behind.result (c.begin_behind.new.entries.items ≡ l))
    (sym (begun-one c.args.who.now.job c.args.who.now.moment c.args.entries.now.items c.in-Some.number
    (missing-at c.args.who.now.job c.args.who.now.moment c.deref.result.now c.args.entries.now.items c.missing_number.result (Some c.in-Some.number) c.deref.ensures.value c.in-Some.is
    (c.missing_number.ensures c.args.who.now.job c.args.who.now.moment)))) c.begin_behind.ensures.ended

pub returns-in-Some-clause-moments : goal.returns-in-Some-clause-moments
returns-in-Some-clause-moments g c = λ tells.
    subst (λ (l : List Entry). Leaves (g.S.Store.disk c.args.store.now) (g.S.Store.disk c.begin_behind.new.store) (IsForcedOrFrom c.args.book.now.chain.first c.args.book.now.forced (length l) l))
    (sym (begun-one c.args.who.now.job c.args.who.now.moment c.args.entries.now.items c.in-Some.number
    (missing-at c.args.who.now.job c.args.who.now.moment c.deref.result.now c.args.entries.now.items c.missing_number.result (Some c.in-Some.number) c.deref.ensures.value c.in-Some.is
    (c.missing_number.ensures c.args.who.now.job c.args.who.now.moment)))) (c.begin_behind.ensures.moments tells)

pub returns-in-Some-clause-replays : goal.returns-in-Some-clause-replays
returns-in-Some-clause-replays g c = λ tells whole.
    subst (λ (l : List Entry). Leaves (g.S.Store.disk c.args.store.now) (g.S.Store.disk c.begin_behind.new.store)
    (IsForcedOrReplayed (g.D.Describe.rules c.args.by.now) c.args.book.now.chain.first c.args.book.now.forced l))
    (sym (begun-one c.args.who.now.job c.args.who.now.moment c.args.entries.now.items c.in-Some.number
    (missing-at c.args.who.now.job c.args.who.now.moment c.deref.result.now c.args.entries.now.items c.missing_number.result (Some c.in-Some.number) c.deref.ensures.value c.in-Some.is
    (c.missing_number.ensures c.args.who.now.job c.args.who.now.moment)))) (c.begin_behind.ensures.replays tells)
