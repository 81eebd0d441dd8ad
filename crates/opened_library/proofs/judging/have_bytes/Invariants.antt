use Rattle.std.specs.List.{AllByRecursion}
use Rattle.kept_library.specs.Counted.{HasBytes}
use Rattle.opened_library.proofs.judging.have_bytes.Given as goal

abbrev pub invariant-loop-file : goal.invariant-loop-file
invariant-loop-file l = AllByRecursion (λ entry. HasBytes entry.1.spec) l.file-iterator → AllByRecursion (λ entry. HasBytes entry.1.spec) l.catalogue.files
