use Rattle.std.proofs.Common.{List, map, refl, subst, sym}
use Rattle.file_model.specs.declared.paths.PathFormat.{PathFormat}
use Rattle.parts_model.specs.OpenStand.{AreFormatKeys}
use Rattle.parts_model.proofs.OpenLemmas.{new-by-path, number-told}
use Rattle.library_parts.proofs.contents.Contents.reads_by_path.Goals as goal

pub by_path-requires : goal.by_path-requires
by_path-requires c = subst (λ (formats : List PathFormat). AreFormatKeys (map (λ format. format.key) formats)) (sym c.as_slice.ensures) c.requires

pub returns-clause-new : goal.returns-clause-new
returns-clause-new c =
    rw (← c.self.view_is)
    (new-by-path c.args.commit c.self.inside.paths.paths c.args.path.now _ (number-told c.args.path.now c.self.inside.paths.paths c.number_of-path.result c.number_of-path.ensures)
    (rw c.as_slice.ensures at c.in_ok-position.ensures) refl)
