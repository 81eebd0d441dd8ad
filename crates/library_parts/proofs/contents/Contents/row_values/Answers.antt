use Rattle.std.proofs.Common.{◌≡◌, ◌∙◌, Bor, List, ℕ, map, ap, sym, subst}
use Rattle.parts_model.specs.Shown.{IsShownBy}
use Rattle.library_steps.specs.LogicalFiles.{bases_in}
use Rattle.library_steps.specs.State.{memory_of}
use Rattle.library_steps.specs.FilePaths.{join_of}
use Rattle.library_steps.specs.Formats.{row_at}
use Rattle.parts_model.specs.Parts.{state_of}
use Rattle.parts_model.specs.Rows.{images_found}
use Rattle.parts_model.proofs.ShownRows.{row-images}
use Rattle.library_parts.proofs.contents.Contents.row_values.Goals as goal

pub values_shown-requires : goal.values_shown-requires
values_shown-requires c =
    let inside = c.self.inside in
    let its = rw (← c.self.view_is) at c.requires in
    let images : map (λ (image : Bor (List ℕ)). image.now) c.as_slice.result.now ≡ images_found inside.members.members (bases_in inside.catalogue.files c.args.view.now.primary).member c.args.found.now =
    ap (map (λ (image : Bor (List ℕ)). image.now)) c.as_slice.ensures.value ∙ c.in_ok-images.ensures
    ∙ ap (λ (n : ℕ). images_found inside.members.members n c.args.found.now) c.base_of-member.ensures.member in
    subst (IsShownBy c.args.view.now) (sym images) its.1.shows

pub returns : goal.returns
returns c = λ place row.
    let inside = c.self.inside in
    let s = state_of inside.catalogue inside.members inside.next_member inside.journal inside.locks inside.jobs in
    let its = rw (← c.self.view_is) at row in
    let images : map (λ (image : Bor (List ℕ)). image.now) c.as_slice.result.now ≡ images_found inside.members.members (bases_in inside.catalogue.files c.args.view.now.primary).member c.args.found.now =
    ap (map (λ (image : Bor (List ℕ)). image.now)) c.as_slice.ensures.value ∙ c.in_ok-images.ensures
    ∙ ap (λ (n : ℕ). images_found inside.members.members n c.args.found.now) c.base_of-member.ensures.member in
    rw (← c.self.view_is)
    (c.in_ok-values.ensures (bases_in s.files) (row_at (join_of (bases_in s.files) c.args.view.now) s.members place)
    (row-images c.args.view.now (memory_of s) place c.args.found.now its ∙ sym images))
