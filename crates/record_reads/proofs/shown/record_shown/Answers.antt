use Rattle.std.proofs.Common.{◌≡◌, Some, sym, subst, ℕ}
use Rattle.logical_model.specs.Bases.{FileSpec}
use Rattle.library_steps.specs.LogicalFiles.{bases_of}
use Rattle.library_steps.specs.Records.{live_record}
use Rattle.library_steps.specs.State.{fields_of, memory_of}
use Rattle.library_parts.specs.Bodies.{spec_in}
use Rattle.record_reads.specs.Shown.{ShowsImage}
use Rattle.record_reads.proofs.ShownLemmas.{record-there, shows-image, shown-as}
use Rattle.record_reads.proofs.shown.record_shown.Goals as goal

pub image_there-image-requires : goal.image_there-image-requires
image_there-image-requires c = rw c.member.ensures c.requires.live

pub shown_by-requires : goal.shown_by-requires
shown_by-requires c =
    let s = c.args.contents.now.state in
    let file = c.args.file.now in
    let opened = c.args.opened.now.state in
    let image = c.image_there-image.result.now in
    let live = rw c.member.ensures at c.image_there-image.ensures.live in
    let long = rw c.member.ensures at c.image_there-image.ensures.long in
    let reads = c.requires.member in
    subst (λ (n : ℕ). ShowsImage (spec_in c.described.result.now) n image) (sym c.format.ensures)
    (subst (λ (spec : FileSpec). ShowsImage spec opened.format image) (sym c.described.ensures.spec)
    (shows-image s file opened image reads c.jobs_begun-jobs.ensures.lawful c.requires.unjoined c.requires.view
    (record-there s (fields_of reads.owner) opened.member c.args.rrn image reads.has.there live long c.image_there-image.ensures.bytes)))

pub returns : goal.returns
returns c =
    let m = memory_of c.args.contents.now.state in
    let opened = c.args.opened.now.state in
    let live : live_record opened.member c.args.rrn m ≡ Some c.image_there-image.result.now = rw c.member.ensures at c.image_there-image.ensures.live in
    shown-as c.shown_by.result m c.args.file.now opened c.args.rrn (spec_in c.described.result.now) c.image_there-image.result.now c.described.ensures.spec live
    (let shown = c.shown_by.ensures (bases_of m) m.members in rw c.format.ensures at shown)
