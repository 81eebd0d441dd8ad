use Rattle.std.proofs.Common.{refl}
use Rattle.std.specs.Fmt.{digits}
use Rattle.listing.specs.Texts.{parameter}
use Rattle.display.specs.Display.{library_line, display_of}
use Rattle.display_rows.proofs.libraries.empty_library_is_shown.Goals as goal

pub returns : goal.returns
unfolding digits parameter library_line display_of
returns c = refl
