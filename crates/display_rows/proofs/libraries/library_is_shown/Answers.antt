use Rattle.std.proofs.Common.{refl}
use Rattle.std.specs.Fmt.{digits}
use Rattle.ebc_text.specs.CodePage.{ascii_of}
use Rattle.listing.specs.Texts.{parameter, text_literal}
use Rattle.listing.specs.EntryText.{place_text, origin_text}
use Rattle.display.specs.Display.{member_line, record_line, shown_member, file_line, source_line, file_text, library_line, entry_line, display_of}
use Rattle.display_rows.proofs.libraries.library_is_shown.Goals as goal

pub returns : goal.returns
unfolding digits ascii_of parameter text_literal place_text origin_text member_line record_line shown_member file_line source_line file_text library_line entry_line display_of
returns c = λ spec. refl
