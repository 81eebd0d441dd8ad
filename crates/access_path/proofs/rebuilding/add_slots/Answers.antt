use Rattle.std.proofs.Common.{◌≡◌, ◌∙◌, ◌+◌, ap, sym, drop, List}
use Rattle.key_order.below.key_pages.specs.declared.entries.Entry.{Entry}
use Rattle.access_path.specs.KeptEntries.{slot_key, entries_at, entries_in}
use Rattle.access_path.specs.Rebuilding.{added}
use Rattle.access_path.proofs.RebuildLemmas.{slots-step}
use Rattle.access_path.proofs.rebuilding.add_slots.Goals as goal

pub loop-i-preserved : goal.loop-i-preserved
loop-i-preserved g c =
    let keys = g.E.Entrant.keys c.args.by.now in
    let slots = c.args.member.now.state.slots in
    let falls = c.args.pages.now.falling in
    let new : c.add_slot.new.pages.entries ≡ added falls (entries_at c.args.format (c.loop-i.i + 1) (slot_key (keys c.args.format) c.slot.result.now)) c.loop-i.pages.entries =
    c.in_ok-add_slot.ensures.entries
    ∙ ap (λ f. added f (entries_at c.args.format (c.loop-i.i + 1) (slot_key (keys c.args.format) c.slot.result.now)) c.loop-i.pages.entries) c.loop-i.invariant.falling in
    record {
      rest = ap (λ (w : List Entry). added falls (entries_in keys c.args.format (c.loop-i.i + 1 + 1) (drop (c.loop-i.i + 1) slots)) w) new
          ∙ sym (slots-step falls keys c.args.format c.loop-i.i c.args.member.now.state c.slot.result.now c.loop-i.pages.entries c.slot.ensures.value)
          ∙ c.loop-i.invariant.rest;
      before = c.in_ok-add_slot.ensures.before;
      falling = c.add_slot.ensures.falling ∙ c.loop-i.invariant.falling;
    }
