use Rattle.std.proofs.Common.{sym, ◌∙◌}
use Rattle.std.proofs.lemmas.Bool.{false≢true}
use Rattle.std.proofs.lemmas.Slice.Eq.{bytes_eq-Decides}
use Rattle.gated_log.proofs.Numbers.{no_header}
use Rattle.gated_log.proofs.layout.head_of.Goals as goal
use Rattle.gated_log.proofs.layout.head_of.Goals.{else-may_begin-via-then-may_begin+else-eq, else-may_begin-via-else-may_begin}

pub returns-else-may_begin : goal.returns-else-may_begin
returns-else-may_begin c =
    no_header c.args.area c.read_u64-first.result c.read_u32-version.result c.args.bytes.now c.told-bytes c.read_u64-first.ensures c.read_u32-version.ensures
    (elim c.else-may_begin.branch [
      | else-may_begin-via-then-may_begin+else-eq w ↦ λ may same. false≢true (sym w.if-eq.false ∙ w.eq.ensures ∙ (bytes_eq-Decides c.args.bytes.now w.header_of.result).1 (same ∙ sym w.header_of.ensures))
      | else-may_begin-via-else-may_begin w ↦ λ may same. false≢true (sym w.if-may_begin.false ∙ c.may_begin.ensures.1 may)
    ])
