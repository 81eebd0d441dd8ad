use Rattle.std.proofs.Common.{◌≡◌, ◌++◌}
use Rattle.std.specs.List.{flat_map}
use Rattle.display.specs.Display.{file_text}
use Rattle.display.proofs.files.push_files.Given as goal

abbrev pub invariant-loop-name : goal.invariant-loop-name
invariant-loop-name l =
    l.out.items ++ flat_map (file_text l.members.members) l.name-iterator ≡ l.fn.out.items ++ flat_map (file_text l.members.members) l.catalogue.files
