use Rattle.std.proofs.Common.{List, Some, None, sym, subst, Option, IfSome, refl, arith}
use Rattle.key_spec.specs.declared.KeyPart.{KeyPart}
use Rattle.lawful_states.specs.Lawful.{OpensFile}
use Rattle.parts_model.specs.OpenStand.{IsEntryIn}
use Rattle.parts_model.specs.CursorPosition.{entry_of}
use Rattle.parts_model.below.file_cursor.specs.declared.places.Hit.{Hit}
use Rattle.file_model.specs.KeyOrder.{merged_parts}
use Rattle.parts_model.specs.OpenPositionReads.{asked_of, IsAskedOf}
use Rattle.library_steps.specs.Records.{reading_of}
use Rattle.library_steps.specs.State.{memory_of}
use Rattle.parts_model.specs.Parts.{state_of}
use Rattle.parts_model.specs.Reads.{FindsEntry}
use Rattle.parts_model.proofs.FindLemmas.{reads-at, some-below}
use Rattle.parts_model.proofs.ReadLemmas.{asked-live, found-live, none-found, some-found}
use Rattle.library_parts.proofs.contents.Contents.find.Goals as goal

pub hit_of-requires-clause-read : goal.hit_of-requires-clause-read
hit_of-requires-clause-read c =
    let inside = c.self.inside in
    let s = state_of inside.catalogue inside.members inside.next_member inside.journal inside.locks inside.jobs in
    (reading_of c.args.file.now c.args.opened.now.state (memory_of s), rw (← c.self.view_is) at c.reads_there.ensures.among)

pub hit_of-requires-clause-asked : goal.hit_of-requires-clause-asked
hit_of-requires-clause-asked c = subst (λ (formats : List (List KeyPart)). IsAskedOf formats c.args.by) c.reads_there.ensures.formats c.requires.asked

pub hit_of-requires-clause-looked : goal.hit_of-requires-clause-looked
hit_of-requires-clause-looked c = rw c.reads_there.ensures.keyed c.requires.looked

pub returns-in-None-clause-found : goal.returns-in-None-clause-found
returns-in-None-clause-found c =
    let opened = c.args.opened.now in
    let inside = c.self.inside in
    let m = memory_of (state_of inside.catalogue inside.members inside.next_member inside.journal inside.locks inside.jobs) in
    let reading = reading_of c.args.file.now opened.state m in
    let found = c.hit_of.ensures.found reading (rw (← c.self.view_is) at c.reads_there.ensures.among) in
    rw (← c.self.view_is)
    (subst (λ (formats : List (List KeyPart)). FindsEntry None (asked_of c.args.by (merged_parts formats) reading opened.state.position)) (sym (rw (← c.self.view_is) at c.reads_there.ensures.formats))
    (none-found (merged_parts opened.order.formats) c.hit_of.result _ c.in-None.is found))

pub returns-in-Some-clause-found : goal.returns-in-Some-clause-found
returns-in-Some-clause-found c =
    let opened = c.args.opened.now in
    let inside = c.self.inside in
    let m = memory_of (state_of inside.catalogue inside.members inside.next_member inside.journal inside.locks inside.jobs) in
    let reading = reading_of c.args.file.now opened.state m in
    let among = rw (← c.self.view_is) at c.reads_there.ensures.among in
    let found = c.hit_of.ensures.found reading among in
    let its = some-found (merged_parts opened.order.formats) c.hit_of.result c.in-Some.hit _ c.in-Some.is found in
    rw (← c.self.view_is)
    (subst (λ (formats : List (List KeyPart)). FindsEntry (Some (record { format = c.in-Some.hit.format; rrn = c.in-Some.hit.rrn })) (asked_of c.args.by (merged_parts formats) reading opened.state.position))
    (sym (rw (← c.self.view_is) at c.reads_there.ensures.formats)) (its.entry, its.is, its.rrn, its.format))

pub returns-in-Some-clause-live : goal.returns-in-Some-clause-live
returns-in-Some-clause-live c =
    let opened = c.args.opened.now in
    let inside = c.self.inside in
    let s = state_of inside.catalogue inside.members inside.next_member inside.journal inside.locks inside.jobs in
    let m = memory_of s in
    let reading = reading_of c.args.file.now opened.state m in
    let among = rw (← c.self.view_is) at c.reads_there.ensures.among in
    let found = c.hit_of.ensures.found reading among in
    let its = some-found (merged_parts opened.order.formats) c.hit_of.result c.in-Some.hit _ c.in-Some.is found in
    rw (← c.self.view_is)
    (found-live opened.state m c.in-Some.hit _ its
    (asked-live s.files c.args.file.now opened.state m c.args.by (merged_parts opened.order.formats) opened.state.position refl c.requires.unjoined
    (subst (OpensFile s.files opened.state) (rw (← c.self.view_is) at c.requires.member).there (rw (← c.self.view_is) at c.requires.member).holds)))

pub returns-in-Some-clause-there : goal.returns-in-Some-clause-there
returns-in-Some-clause-there c =
    let opened = c.args.opened.now in
    let inside = c.self.inside in
    let s = state_of inside.catalogue inside.members inside.next_member inside.journal inside.locks inside.jobs in
    let hit = c.in-Some.hit in
    let bytes = subst (λ (o : Option Hit). IfSome o (λ h. IsEntryIn opened.order.formats (entry_of h))) c.in-Some.is c.hit_of.ensures.bytes in
    let low = bytes.format in
    let many = c.reads_there.ensures.few in
    rw (← c.self.view_is)
    (reads-at s c.args.file.now opened.state hit.format c.self.invariant.0.lawful c.len-files.ensures.keyed
    (some-below opened.state.members hit.format (omega (arith, low, many))) (rw (← c.self.view_is) at c.requires.member))
