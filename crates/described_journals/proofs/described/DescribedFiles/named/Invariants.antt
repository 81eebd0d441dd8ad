use Rattle.std.proofs.Common.{◌≡◌, drop}
use Rattle.library_model.specs.Named.{named}
use Rattle.described_journals.proofs.described.DescribedFiles.named.Given as goal

abbrev pub invariant-loop-file : goal.invariant-loop-file
invariant-loop-file l = named l.name (drop l.file-index l.self) ≡ named l.name l.self
