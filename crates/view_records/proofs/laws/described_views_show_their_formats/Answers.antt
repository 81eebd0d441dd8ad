use Rattle.view_records.proofs.FormatLemmas.{described-formatted, described-bytes}
use Rattle.view_records.proofs.laws.described_views_show_their_formats.Goals as goal

pub returns-clause-formats : goal.returns-clause-formats
returns-clause-formats c = described-formatted

pub returns-clause-bytes : goal.returns-clause-bytes
returns-clause-bytes c = described-bytes
