use Rattle.std.proofs.Common.{◌≡◌, ◌∙◌, ◌+◌, ◌<◌, ap, sym, drop, length, get_or, List, arith}
use Rattle.key_order.below.key_pages.specs.declared.entries.Entry.{Entry}
use Rattle.member_slots.specs.Members.{member_of}
use Rattle.access_path.specs.KeptEntries.{entries_in, entries_from}
use Rattle.access_path.specs.Rebuilding.{member_slots, added}
use Rattle.access_path.proofs.RebuildLemmas.{formats-step, formats-taken}
use Rattle.access_path.proofs.rebuilding.add_formats.Goals as goal

pub add_format-requires-clause-taken : goal.add_format-requires-clause-taken
add_format-requires-clause-taken g c =
    let within : c.loop-format.format < length (g.E.Entrant.members c.args.by.now) = omega arith in
    (formats-taken (g.E.Entrant.takes c.args.by.now) c.args.members.now.members (g.E.Entrant.members c.args.by.now) c.loop-format.format within c.loop-format.invariant.taken).0

pub loop-format-preserved : goal.loop-format-preserved
loop-format-preserved g c =
    let within : c.loop-format.format < length (g.E.Entrant.members c.args.by.now) = omega arith in
    let keys = g.E.Entrant.keys c.args.by.now in
    let numbers = g.E.Entrant.members c.args.by.now in
    let members = c.args.members.now.members in
    let falls = c.args.pages.now.falling in
    let own = entries_in keys c.loop-format.format 1 (member_of (get_or numbers c.loop-format.format 0) members).slots in
    let new : c.add_format.new.pages.entries ≡ added falls own c.loop-format.pages.entries =
    c.in_ok-add_format.ensures.entries ∙ ap (λ f. added f own c.loop-format.pages.entries) c.loop-format.invariant.falling in
    record {
      rest = ap (λ (w : List Entry). added falls (entries_from keys (c.loop-format.format + 1) (drop (c.loop-format.format + 1) (member_slots numbers members))) w) new
          ∙ sym (formats-step falls keys members numbers c.loop-format.format c.loop-format.pages.entries within)
          ∙ c.loop-format.invariant.rest;
      before = c.in_ok-add_format.ensures.before;
      taken = (formats-taken (g.E.Entrant.takes c.args.by.now) members numbers c.loop-format.format within c.loop-format.invariant.taken).1;
      falling = c.add_format.ensures.falling ∙ c.loop-format.invariant.falling;
    }
