use Rattle.std.proofs.Common.{◌∙◌}
use Rattle.library_parts.proofs.contents.Contents.has_many_paths.Goals as goal

pub have_many_with-requires : goal.have_many_with-requires
have_many_with-requires c = c.as_slice.ensures.value ∙ c.in_ok-paths.ensures
