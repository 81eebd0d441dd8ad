use Rattle.std.proofs.Common.{Option, ◌∙◌, sym, ap}
use Rattle.record_fmt.specs.declared.formats.Format.{Format}
use Rattle.library_steps.specs.LogicalFiles.{base_in}
use Rattle.library_steps.specs.State.{FileState}
use Rattle.record_changes.proofs.images.base_format.Goals as goal

pub own_format-requires : goal.own_format-requires
own_format-requires c = c.base_file.ensures.physical

pub returns : goal.returns
returns c =
    ap (λ (format : Format). format.fields) c.own_format.ensures
    ∙ sym (ap (λ (file : Option FileState). (base_in c.args.name.now file).fields) c.base_file.ensures.file)
