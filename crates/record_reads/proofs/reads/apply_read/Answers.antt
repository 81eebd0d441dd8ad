use Rattle.std.proofs.Common.{◌∙◌, Option, refl, sym, subst}
use Rattle.library_model.specs.declared.replies.Reply.TheVariants.{Record}
use Rattle.library_steps.specs.State.{memory_of}
use Rattle.library_parts.below.parts_model.specs.declared.rows.RowFound.{RowFound}
use Rattle.record_reads.specs.Plans.{IsOfRow}
use Rattle.record_reads.proofs.LockLemmas.{IsRead-IsOfOpen}
use Rattle.record_reads.proofs.EffectLemmas.{opened-still, asked-still, found-still, read-after, read-noted, row-still}
use Rattle.record_reads.proofs.reads.apply_read.Goals as goal

pub lock_for-requires-clause-room : goal.lock_for-requires-clause-room
lock_for-requires-clause-room c =
    rw (c.holder.ensures, c.record_id.ensures)
    (c.locks_fit.ensures _ _ _ _ _ c.args.contents.now.state c.args.contents.now.room (IsRead-IsOfOpen _ c.requires.plan.lock.call) c.requires.room c.requires.plan.lock.few)

pub note_row-requires-clause-found : goal.note_row-requires-clause-found
note_row-requires-clause-found c =
    let old = memory_of c.args.contents.now.state in
    let left = memory_of c.lock_for.new.self.state in
    let can = c.requires.plan in
    let its = subst (λ (row : Option RowFound). IsOfRow old can.its.file.spec row can.it) c.in-Some.is can.row in
    record {
      its = can.its;
      opened = opened-still old left _ c.lock_for.ensures.memory c.args.name.now c.args.job can.its can.opened;
      view = its.view;
      join = its.join;
      place = its.place;
      row = row-still old left _ c.lock_for.ensures.memory its.view its.place c.in-Some.row its.row;
    }

pub note_read-requires-clause-found : goal.note_read-requires-clause-found
note_read-requires-clause-found c =
    let old = memory_of c.args.contents.now.state in
    let left = memory_of c.lock_for.new.self.state in
    let can = c.requires.plan in
    let its = subst (λ (row : Option RowFound). IsOfRow old can.its.file.spec row can.it) c.in-None.is can.row in
    record {
      its = can.its;
      opened = opened-still old left _ c.lock_for.ensures.memory c.args.name.now c.args.job can.its can.opened;
      unjoined = its.unjoined;
      asked = asked-still old left _ c.lock_for.ensures.memory c.args.by.now c.as_read.result can.its.file can.its.opened c.as_read.ensures can.asked;
      looked = c.as_read.ensures.looked _ can.asked.looked;
      found = (
        can.it.entry,
        found-still old left _ c.lock_for.ensures.memory c.args.by.now c.as_read.result can.its.file can.its.opened can.it c.as_read.ensures its.unjoined its.is can.finds,
      );
    }

pub returns-in-Some : goal.returns-in-Some
returns-in-Some c = λ wanted leads.
    let old = memory_of c.args.contents.now.state in
    let left = memory_of c.lock_for.new.self.state in
    let can = c.requires.plan in
    let its = subst (λ (row : Option RowFound). IsOfRow old can.its.file.spec row can.it) c.in-Some.is can.row in
    let still = opened-still old left _ c.lock_for.ensures.memory c.args.name.now c.args.job can.its can.opened in
    c.effects_answer.ensures.unjournaled c.args.contents.now.state c.note_row.new.self.state (Record c.args.plan.shown) _ wanted
    (leads can.its can.it can.opened can.finds)
    (read-after old left (memory_of c.note_row.new.self.state) c.args.job can.its.opened.number c.args.plan can.it can.number
    (rw (c.holder.ensures, c.record_id.ensures) at c.lock_for.ensures.memory)
    (read-noted c.args.job can.its.opened.number c.args.plan.call _ can.it (sym its.is) left (memory_of c.note_row.new.self.state)
    (c.note_row.ensures.memory can.its its.view its.place still its.join (row-still old left _ c.lock_for.ensures.memory its.view its.place c.in-Some.row its.row))))
    refl (c.note_row.ensures.entries ∙ c.lock_for.ensures.entries)

pub returns-in-None : goal.returns-in-None
returns-in-None c = λ wanted leads.
    let old = memory_of c.args.contents.now.state in
    let left = memory_of c.lock_for.new.self.state in
    let can = c.requires.plan in
    let its = subst (λ (row : Option RowFound). IsOfRow old can.its.file.spec row can.it) c.in-None.is can.row in
    let still = opened-still old left _ c.lock_for.ensures.memory c.args.name.now c.args.job can.its can.opened in
    let here = found-still old left _ c.lock_for.ensures.memory c.args.by.now c.as_read.result can.its.file can.its.opened can.it c.as_read.ensures its.unjoined its.is can.finds in
    c.effects_answer.ensures.unjournaled c.args.contents.now.state c.note_read.new.self.state (Record c.args.plan.shown) _ wanted
    (leads can.its can.it can.opened can.finds)
    (read-after old left (memory_of c.note_read.new.self.state) c.args.job can.its.opened.number c.args.plan can.it can.number
    (rw (c.holder.ensures, c.record_id.ensures) at c.lock_for.ensures.memory)
    (read-noted c.args.job can.its.opened.number c.args.plan.call _ can.it (sym its.is) left (memory_of c.note_read.new.self.state) (c.note_read.ensures.memory can.its can.it.entry still here)))
    refl (c.note_read.ensures.entries ∙ c.lock_for.ensures.entries)
