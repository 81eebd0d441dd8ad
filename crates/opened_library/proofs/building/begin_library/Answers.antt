use Rattle.std.proofs.Common.{◌≤◌, refl, arith}
use Rattle.receiver_chain.specs.Chain.{attached_of}
use Rattle.restart_model.specs.Libraries.{journal_with, library_left}
use Rattle.library_steps.specs.declared.limits.TheConstants.{MOST_LIBRARY_BYTES}
use Rattle.library_steps.specs.Ranges.{library_bytes}
use Rattle.library_steps.specs.State.{State}
use Rattle.kept_library.specs.Journaled.{IsRemembered}
use Rattle.opened_library.proofs.BuiltLemmas.{is-built, is-remembered, none-begun, none-saved}
use Rattle.opened_library.proofs.building.begin_library.Goals as goal

pub may_deposit-requires-clause-none : goal.may_deposit-requires-clause-none
may_deposit-requires-clause-none g c = none-begun c.args.contents.state (attached_of c.args.journal.chain) c.args.entries.now c.requires.left

pub may_deposit-requires-clause-unsaved : goal.may_deposit-requires-clause-unsaved
may_deposit-requires-clause-unsaved g c = none-saved c.args.contents.state (attached_of c.args.journal.chain) c.args.entries.now c.requires.left

pub over-requires : goal.over-requires
over-requires g c =
    let few : library_bytes c.args.contents.state.members ≤ MOST_LIBRARY_BYTES = omega (arith, c.member_bytes-bytes.ensures.value, c.member_bytes-bytes.ensures.few) in
    let s : State = library_left (λ _. 0) (attached_of c.args.journal.chain) (journal_with c.args.entries.now) in (
      s,
      is-remembered c.args.contents.state s (attached_of c.args.journal.chain) c.args.entries.now refl c.requires.left few c.requires.sound g.S.Store.tells (g.S.Store.disk c.args.store)
          c.args.journal refl c.requires.held (c.if-not-stands_behind.ensures.first refl) (c.if-not-stands_behind.ensures.last refl) (c.if-not-stands_behind.ensures.little refl) c.requires.receiver
          (c.if-not-may_deposit.ensures refl),
    )

pub returns-clause-built : goal.returns-clause-built
returns-clause-built g c =
    let few : library_bytes c.args.contents.state.members ≤ MOST_LIBRARY_BYTES = omega (arith, c.member_bytes-bytes.ensures.value, c.member_bytes-bytes.ensures.few) in
    let s : State = library_left (λ _. 0) (attached_of c.args.journal.chain) (journal_with c.args.entries.now) in
    let is : IsRemembered g.S.Store.tells (g.S.Store.disk c.args.store) c.args.journal c.args.contents.state s =
    is-remembered c.args.contents.state s (attached_of c.args.journal.chain) c.args.entries.now refl c.requires.left few c.requires.sound g.S.Store.tells (g.S.Store.disk c.args.store)
    c.args.journal refl c.requires.held (c.if-not-stands_behind.ensures.first refl) (c.if-not-stands_behind.ensures.last refl) (c.if-not-stands_behind.ensures.little refl) c.requires.receiver
    (c.if-not-may_deposit.ensures refl) in
    is-built g.S.Store.tells g.S.Store.disk c.over.result c.args.journal c.args.contents.state s (attached_of c.args.journal.chain) c.args.entries.now refl c.requires.left few
    c.over.ensures.book c.requires.nothing_waits c.requires.receiver (c.over.ensures.stands s is) (c.over.ensures.all s is) (c.over.ensures.left s is)
