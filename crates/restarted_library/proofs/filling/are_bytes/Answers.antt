use Rattle.std.proofs.Common.{◌<◌, arith}
use Rattle.std.proofs.lemmas.List.Elements.{All-from_get_or}
use Rattle.restarted_library.proofs.filling.are_bytes.Goals as goal

pub returns : goal.returns
returns c = All-from_get_or (λ b. b < 256) c.args.image.now 0 (λ i low. omega (arith, c.type_inv.image i))
