use Rattle.std.proofs.Common.{◌≡◌, drop}
use Rattle.library_model.specs.Named.{named}
use Rattle.file_catalogue.proofs.members.Members.named.Given as goal

abbrev pub invariant-loop-member : goal.invariant-loop-member
invariant-loop-member l = named l.name (drop l.member-index l.member-items) ≡ named l.name l.self
