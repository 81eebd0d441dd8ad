use Rattle.std.proofs.Common.{sym, ◌∙◌}
use Rattle.std.proofs.lemmas.Bool.{eqb-true}
use Rattle.std.proofs.lemmas.List.{nil_from_length}
use Rattle.restarted_journal.proofs.beginning.is_alone.Goals as goal

pub returns : goal.returns
returns c = λ is. nil_from_length c.args.book.now.buffered (sym c.waiting_bytes.ensures ∙ eqb-true c.waiting_bytes.result 0 is)
