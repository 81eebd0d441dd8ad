use Rattle.std.proofs.Common.{◌∙◌, ap, length, refl, sym}
use Rattle.library_steps.below.dds_logical.specs.declared.join_views.JoinedFile.{JoinedFile}
use Rattle.std.proofs.lemmas.Option.{slice_get_read}
use Rattle.library_steps.specs.LogicalFiles.{bases_of}
use Rattle.library_steps.specs.State.{memory_of}
use Rattle.parts_model.proofs.UnderLemmas.{each-joined}
use Rattle.library_parts.proofs.contents.Contents.base_secondary.Goals as goal

pub returns : goal.returns
returns c =
    let files = c.args.files.now in
    let joined = c.index-files-place.result in
    let at = slice_get_read files (length files) c.args.place joined refl c.requires c.index-files-place.is in
    each-joined (bases_of (memory_of c.args.self.now.state)) files c.args.place c.base_named.result joined at
    (c.base_named.ensures ∙ ap (λ (j : JoinedFile). (bases_of (memory_of c.args.self.now.state) j.file).member) (sym c.index-files-place.is))
