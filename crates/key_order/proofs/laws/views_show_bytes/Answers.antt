use Rattle.std.proofs.Common.{◌<◌}
use Rattle.std.proofs.lemmas.List.Elements.{All-from_recursion, recursion_from_All}
use Rattle.file_model.specs.Views.{view_of}
use Rattle.key_order.proofs.ViewLemmas.{view-bytes}
use Rattle.key_order.proofs.laws.views_show_bytes.Goals as goal

pub returns : goal.returns
returns c fields image bytes = All-from_recursion (λ b. b < 256) (view_of fields image) (view-bytes fields image (recursion_from_All (λ b. b < 256) image bytes))
