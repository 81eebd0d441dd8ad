use Rattle.std.proofs.Common.{◌∙◌, List, ℕ, [], Option, ap}
use Rattle.std.specs.Prelude.{unwrap_or}
use Rattle.std.specs.List.{list_all}
use Rattle.journal_model.specs.Rollback.{MemberChange}
use Rattle.open_cycles.specs.Kept.{is_of, is_back_in, is_restored_by, passes_at, live}
use Rattle.open_cycles.proofs.KeptLemmas.{Kept}
use Rattle.open_cycles.proofs.ReadLemmas.{all-passed}
use Rattle.open_cycles.proofs.kept.Changes.are_restored.Goals as goal

pub returns-in-None : goal.returns-in-None
returns-in-None g c =
    let items = c.self.inside.kept.items in
    let t = is_back_in c.args.cycle (live items) (g.M.HasSlots.slots c.args.members.now) in
    rw (← c.self.view_is)
    (ap (λ (o : Option (List ℕ)). list_all (passes_at t items) (unwrap_or o [])) c.in-None.ensures.value ∙ ap (list_all (passes_at t items)) (c.self.invariant.0 c.args.cycle) ∙ all-passed (is_of c.args.cycle) t items)

pub returns-in-Some : goal.returns-in-Some
returns-in-Some g c =
    let items = c.self.inside.kept.items in
    let t = is_back_in c.args.cycle c.args.self.now (g.M.HasSlots.slots c.args.members.now) in
    c.are_back.ensures ∙ ap (λ (k : Kept). list_all (passes_at t k) c.as_slice-in-Some.result.now) c.as_slice.ensures.value ∙ ap (list_all (passes_at t items)) c.as_slice-in-Some.ensures
    ∙ ap (λ (o : Option (List ℕ)). list_all (passes_at t items) (unwrap_or o [])) c.in-Some.ensures.value ∙ ap (list_all (passes_at t items)) (c.self.invariant.0 c.args.cycle) ∙ all-passed (is_of c.args.cycle) t items
    ∙ ap (list_all (λ (d : MemberChange). is_restored_by c.args.cycle c.args.self.now (g.M.HasSlots.slots c.args.members.now) d)) c.self.view_is
