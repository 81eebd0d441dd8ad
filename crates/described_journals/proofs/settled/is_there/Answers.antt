use Rattle.std.proofs.Common.{rules, ◌≡◌, Some}
use Rattle.std.specs.List.{find}
use Rattle.journal_model.specs.Catalogue.{is_named}
use Rattle.replay_files.specs.Files.{catalog_file}
use Rattle.described_journals.proofs.settled.is_there.Goals as goal

pub returns-in-Some : goal.returns-in-Some
returns-in-Some c = λ yes.
    let first : find (is_named c.args.other.now.name) c.args.files.now ≡ Some (catalog_file (c.args.other.now.name, c.in-Some.file.now)) = search rules in
    record { file = catalog_file (c.args.other.now.name, c.in-Some.file.now); first = first; physical = (c.has_source.ensures yes).0; same = (c.has_source.ensures yes).1 }
