use Rattle.std.proofs.Common.{subst}
use Rattle.open_position.specs.declared.reads.ReadBy.{ReadBy}
use Rattle.open_position.specs.Reads.{CanFind}
use Rattle.open_position.proofs.position.found.Goals as goal

pub chain_number-requires : goal.chain_number-requires
chain_number-requires c = subst (λ (by : ReadBy). CanFind by c.args.over) c.in-Number.is c.requires.can
