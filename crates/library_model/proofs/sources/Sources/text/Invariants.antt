use Rattle.std.proofs.Common.{◌≡◌, drop}
use Rattle.library_model.specs.SourceList.{text_of}
use Rattle.library_model.proofs.sources.Sources.text.Given as goal

abbrev pub invariant-loop-source : goal.invariant-loop-source
invariant-loop-source l = text_of (drop l.source-index l.self) l.name ≡ text_of l.self l.name
