use Rattle.std.proofs.Common.{◌∙◌, List, ℕ, Option, sym, ap}
use Rattle.std.specs.Borrow.{Bor}
use Rattle.std.specs.Option.{option_map}
use Rattle.member_slots.specs.Member.{slot_at}
use Rattle.member_slots.specs.Members.{member_of}
use Rattle.library_steps.specs.Records.{slot_there}
use Rattle.library_steps.specs.State.{memory_of}
use Rattle.parts_model.proofs.KeyLemmas.{asked-stood, key-known, key-new, key-shown, slot-shown}
use Rattle.library_parts.proofs.contents.Contents.new_key.Goals as goal

pub has_key-requires : goal.has_key-requires
has_key-requires c =
    let s = c.args.self.now.state in
    let paths = c.args.self.now.room.paths.paths in
    let number = c.args.new.member in
    let path = c.requires.path in
    let old = c.in-Some-live_image.old.now in
    let stood =
    slot-shown (slot_at (member_of number s.members) c.args.new.rrn) old
    (sym c.live_image.ensures.image ∙ ap (λ (o : Option (Bor (List ℕ))). option_map (λ (image : Bor (List ℕ)). image.now) o) c.in-Some-live_image.is) in
    (number, path.0, path.1, λ bytes. asked-stood c.args.id number old path.0 paths (slot_there number c.args.new.rrn (memory_of s)) stood c.requires.asked.old path.1)

pub returns-then-branch : goal.returns-then-branch
returns-then-branch c = λ format at.
    let s = c.args.self.now.state in
    let paths = c.args.self.now.room.paths.paths in
    let number = c.args.new.member in
    let image = c.args.new.image.now in
    let old = c.in-Some-live_image.old.now in
    let stood =
    slot-shown (slot_at (member_of number s.members) c.args.new.rrn) old
    (sym c.live_image.ensures.image ∙ ap (λ (o : Option (Bor (List ℕ))). option_map (λ (image : Bor (List ℕ)). image.now) o) c.in-Some-live_image.is) in
    let shows = key-shown c.args.id number format c.self.inside.paths.paths image c.in_ok-key.field-0 c.in-Some.key (rw (← c.self.view_is) at at) c.in_ok-key.ensures c.in-Some.is in
    key-known c.args.id number format paths image c.in-Some.key old (slot_there number c.args.new.rrn (memory_of s)) c.in_ok-has_key.field-0 at c.requires.asked.bytes shows stood
    (rw c.as_bytes.ensures at c.in_ok-has_key.ensures) c.if-branch.true

pub returns-else-branch : goal.returns-else-branch
returns-else-branch c = λ format at.
    let s = c.args.self.now.state in
    let paths = c.args.self.now.room.paths.paths in
    let number = c.args.new.member in
    let image = c.args.new.image.now in
    let old = c.in-Some-live_image.old.now in
    let stood =
    slot-shown (slot_at (member_of number s.members) c.args.new.rrn) old
    (sym c.live_image.ensures.image ∙ ap (λ (o : Option (Bor (List ℕ))). option_map (λ (image : Bor (List ℕ)). image.now) o) c.in-Some-live_image.is) in
    let shows = key-shown c.args.id number format c.self.inside.paths.paths image c.in_ok-key.field-0 c.in-Some.key (rw (← c.self.view_is) at at) c.in_ok-key.ensures c.in-Some.is in
    key-new c.args.id number format paths image c.in-Some.key old (slot_there number c.args.new.rrn (memory_of s)) c.in_ok-has_key.field-0 at c.requires.asked.bytes shows stood
    (rw c.as_bytes.ensures at c.in_ok-has_key.ensures) c.if-branch.false
