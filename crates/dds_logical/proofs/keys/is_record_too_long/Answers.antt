use Rattle.std.proofs.Common.{◌∙◌, ap, sym, nat_lt}
use Rattle.record_fmt.specs.declared.formats.TheConstants.{MOST_BYTES}
use Rattle.dds_logical.proofs.KeyLemmas.{record_length_by_name}
use Rattle.dds_logical.proofs.keys.is_record_too_long.Goals as goal

pub returns : goal.returns
returns c = c.has_too_many_bytes.ensures ∙ ap (nat_lt MOST_BYTES) (sym (record_length_by_name 0 c.args.named.now))
