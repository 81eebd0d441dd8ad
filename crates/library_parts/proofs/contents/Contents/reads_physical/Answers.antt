use Rattle.std.proofs.Common.{List, map, sym, subst}
use Rattle.file_model.specs.declared.paths.PathSpec.{PathSpec}
use Rattle.file_model.specs.FilePaths.{physical_path}
use Rattle.key_spec.specs.declared.KeySpec.{KeySpec}
use Rattle.parts_model.specs.OpenStand.{AreFormatKeys}
use Rattle.parts_model.proofs.FormatKeys.{physical-keys}
use Rattle.library_parts.proofs.contents.Contents.reads_physical.Goals as goal

pub reads_by_path-requires : goal.reads_by_path-requires
reads_by_path-requires c =
    subst (λ (path : PathSpec). AreFormatKeys (map (λ format. format.key) path.formats)) (sym c.in_ok-path.ensures)
    (subst (λ (keys : KeySpec). AreFormatKeys (map (λ format. format.key) (physical_path c.args.member c.format.result.now.fields keys).formats)) (sym c.keys-keys.ensures)
    (physical-keys c.args.member c.args.described.now.spec c.spec-spec.ensures.keyed))
