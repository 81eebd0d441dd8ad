use Rattle.std.proofs.Common.{rules, ◌≡◌, ◌∙◌, ℕ, true, false, Some, List, [], ◌∷◌, ◌++◌, take, sym, ap}
use Rattle.std.specs.Prelude.{reverse, slice_get}
use Rattle.dds_source.specs.declared.specifications.Source.{Source}
use Rattle.journal_replay.specs.Tests.{is_physical}
use Rattle.replay_files.specs.Files.{catalog_file}
use Rattle.described_journals.specs.Needed.{found_before, is_wanted, needed, with_source}
use Rattle.described_journals.proofs.PlaceLemmas.{place-passed, place-stops, place-taken}
use Rattle.described_journals.proofs.needed.take_place.Goals as goal

pub returns-then-not-is_wanted-clause-goes : goal.returns-then-not-is_wanted-clause-goes
returns-then-not-is_wanted-clause-goes c = λ is.
    let there : slice_get c.args.files.now c.args.place ≡ Some (catalog_file (c.in-Some.name.now, c.in-Some.file.now)) = search rules in
    let passes : is_wanted c.in-Some.name.now (c.args.source.now ∷ c.args.wanted.now.items) ≡ false = search rules in
    place-passed c.args.files.now c.args.place (catalog_file (c.in-Some.name.now, c.in-Some.file.now)) there c.args.places.now.items (c.args.source.now ∷ c.args.wanted.now.items) passes

pub returns-then-not-is_physical-clause-stops : goal.returns-then-not-is_physical-clause-stops
returns-then-not-is_physical-clause-stops c = λ is.
    let there : slice_get c.args.files.now c.args.place ≡ Some (catalog_file (c.in-Some.name.now, c.in-Some.file.now)) = search rules in
    let wants : is_wanted c.in-Some.name.now (c.args.source.now ∷ c.args.wanted.now.items) ≡ true = search rules in
    let logical : is_physical c.in-Some.file.now.kind ≡ false = search rules in
    place-stops c.args.files.now c.args.place (catalog_file (c.in-Some.name.now, c.in-Some.file.now)) there (c.args.source.now ∷ c.args.wanted.now.items) wants logical

pub returns-clause-goes : goal.returns-clause-goes
returns-clause-goes c = λ is.
    let there : slice_get c.args.files.now c.args.place ≡ Some (catalog_file (c.in-Some.name.now, c.in-Some.file.now)) = search rules in
    let wants : is_wanted c.in-Some.name.now (c.args.source.now ∷ c.args.wanted.now.items) ≡ true = search rules in
    let physical : is_physical c.in-Some.file.now.kind ≡ true = search rules in
    let sources : c.want.new.wanted.items ≡ with_source c.in-Some.file.now.source c.args.wanted.now.items = search rules in
    let places : c.push.new.self.items ≡ c.args.places.now.items ++ c.args.place ∷ [] = search rules in
    place-taken c.args.files.now c.args.place (catalog_file (c.in-Some.name.now, c.in-Some.file.now)) there c.args.places.now.items (c.args.source.now ∷ c.args.wanted.now.items) wants physical
    ∙ ap (λ (ws : List Source). found_before c.args.files.now (c.args.places.now.items ++ c.args.place ∷ [])
    (needed (reverse (take c.args.place c.args.files.now)) (c.args.source.now ∷ ws))) (sym sources)
    ∙ ap (λ (ps : List ℕ). found_before c.args.files.now ps (needed (reverse (take c.args.place c.args.files.now)) (c.args.source.now ∷ c.want.new.wanted.items))) (sym places)
