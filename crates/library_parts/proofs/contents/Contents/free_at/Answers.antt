use Rattle.std.proofs.Common.{◌≡◌, ◌∙◌, ℕ, List, Option, Some, None, slice_get, sym, ap, subst}
use Rattle.std.specs.Borrow.{Bor}
use Rattle.std.specs.Option.{option_map}
use Rattle.std.specs.Map.Iter.{deref_pair}
use Rattle.lawful_states.proofs.NameLemmas.{some-equal}
use Rattle.library_steps.specs.State.{FileState, memory_of}
use Rattle.library_steps.specs.UniqueKeys.{uniques_by}
use Rattle.parts_model.specs.Answers.{MayAllow}
use Rattle.parts_model.specs.NewKeys.{IsKeptOver, new_in_paths, refused_by}
use Rattle.parts_model.specs.Parts.{state_of}
use Rattle.parts_model.proofs.FlatLemmas.{flat-at}
use Rattle.library_parts.proofs.contents.Contents.free_at.Goals as goal

pub free_of_file-requires-clause-kept : goal.free_of_file-requires-clause-kept
free_of_file-requires-clause-kept c =
    let inside = c.self.inside in
    let s = state_of inside.catalogue inside.members inside.next_member inside.journal inside.locks inside.jobs in
    let files = inside.catalogue.files in
    let entry : List ℕ × FileState = (c.in-Some.name.now, c.in-Some.file.now) in
    let at : slice_get files c.args.place ≡ Some entry = sym c.at.ensures ∙ ap (λ (o : Option (Bor (List ℕ) × Bor FileState)). option_map deref_pair o) c.in-Some.is in
    let asked = rw (← c.self.view_is) at c.requires.asked in
    rw (← c.self.view_is)
    (flat-at (IsKeptOver c.args.new.member inside.paths.paths) (λ (e : List ℕ × FileState). uniques_by e.1.spec (memory_of s) c.args.new.member e) files c.args.place entry asked.kept at)

pub returns-in-Some : goal.returns-in-Some
returns-in-Some c =
    let new = c.args.new in
    let inside = c.self.inside in
    let s = state_of inside.catalogue inside.members inside.next_member inside.journal inside.locks inside.jobs in
    let files = inside.catalogue.files in
    let own : List ℕ × FileState = (c.in-Some.name.now, c.in-Some.file.now) in
    let at : slice_get files c.args.place ≡ Some own = sym c.at.ensures ∙ ap (λ (o : Option (Bor (List ℕ) × Bor FileState)). option_map deref_pair o) c.in-Some.is in
    let told = rw (← c.self.view_is) at c.free_of_file.ensures in
    rw (← c.self.view_is)
    (λ entry also. subst (λ (e : List ℕ × FileState). MayAllow c.free_of_file.result
    (refused_by c.args.test new.job new.commit new.rrn (new_in_paths (uniques_by e.1.spec (memory_of s) new.member e) (memory_of s) new.member new.rrn new.image.now) (memory_of s)))
    (some-equal (sym at ∙ also)) told)

pub returns-in-None : goal.returns-in-None
returns-in-None c =
    let inside = c.self.inside in
    rw (← c.self.view_is)
    (λ entry also. absurd (let e : ◌≡◌ {A = Option (List ℕ × FileState)} None (Some entry) =
    ap (λ (o : Option (Bor (List ℕ) × Bor FileState)). option_map deref_pair o) (sym c.in-None.is) ∙ c.at.ensures ∙ also in cc))
