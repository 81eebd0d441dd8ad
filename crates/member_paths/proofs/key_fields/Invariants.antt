use Rattle.std.proofs.Common.{◌≡◌, ◌++◌, drop}
use Rattle.std.specs.List.{filter_map}
use Rattle.file_model.specs.FilePaths.{field_of_part, own_fields}
use Rattle.member_paths.proofs.key_fields.Given as goal

abbrev pub invariant-loop-part : goal.invariant-loop-part
invariant-loop-part l = l.shown ++ filter_map (field_of_part (own_fields l.fields)) (drop l.part-index l.parts) ≡ filter_map (field_of_part (own_fields l.fields)) l.parts
