use Rattle.std.proofs.Common.{rules, ◌≡◌, [], ◌∷◌, Some, sym, subst}
use Rattle.std.specs.Prelude.{reverse}
use Rattle.std.proofs.lemmas.Result.{IfOk-weaker}
use Rattle.dds_physical.specs.Physical.{physical_of}
use Rattle.library_model.specs.Named.{Named}
use Rattle.library_steps.specs.State.{FileState}
use Rattle.named_bases.specs.Sources.{described_files, format_named, if_physical}
use Rattle.described_journals.specs.Files.{described_upon}
use Rattle.described_journals.specs.Needed.{found, needed}
use Rattle.described_journals.proofs.AgreeLemmas.{beside-needed}
use Rattle.described_journals.proofs.needed.named_files.Goals as goal

pub returns-in-Some : goal.returns-in-Some
returns-in-Some c =
    let files = c.args.files.now in
    let source = c.args.source.now in
    let places : Some (found c.args.files.now c.in-Some.places.items) ≡ needed (reverse c.args.files.now) (c.args.source.now ∷ []) = search rules in
    IfOk-weaker c.described_at.result (λ (those : Named FileState). those ≡ described_upon [] (found files c.in-Some.places.items))
    (λ (those : Named FileState). if_physical (physical_of (format_named those) source) ≡ if_physical (physical_of (format_named (described_files files)) source))
    (λ those is. subst (λ (all : Named FileState). if_physical (physical_of (format_named all) source) ≡ if_physical (physical_of (format_named (described_files files)) source)) (sym is)
    (beside-needed files source (found files c.in-Some.places.items) places))
    c.described_at.ensures
