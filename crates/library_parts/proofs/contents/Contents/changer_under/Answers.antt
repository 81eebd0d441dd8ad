use Rattle.std.proofs.Common.{◌≡◌, ◌∙◌, ◌≤◌, ◌+◌, ◌-◌, ℕ, suc, List, ◌∷◌, length, ap, sym, arith}
use Rattle.library_steps.specs.Bases.{base_members, base_names}
use Rattle.parts_model.specs.Users.{first_changer}
use Rattle.library_steps.specs.Checkpoint.{lesser}
use Rattle.library_steps.specs.LogicalFiles.{bases_of}
use Rattle.library_steps.specs.State.{memory_of}
use Rattle.library_steps.specs.Uses.{changer_of_any}
use Rattle.parts_model.proofs.UnderLemmas.{all-dropped, least-more}
use Rattle.library_parts.proofs.contents.Contents.changer_under.Goals as goal

pub loop-left-init : goal.loop-left-init
loop-left-init c =
    let m = memory_of c.args.self.now.state in
    let past : length (base_names c.args.view.now) ≤ c.base_count-left.result = omega (arith, c.base_count-left.ensures) in
    record {
      within = omega (arith, c.base_count-left.ensures);
      least = sym (ap (λ (members : List ℕ). changer_of_any members m) (all-dropped (bases_of m) c.args.view.now c.base_count-left.result past) ∙ c.view_users_are_joined.ensures.none m);
    }

pub loop-left-preserved : goal.loop-left-preserved
loop-left-preserved c =
    let m = memory_of c.args.self.now.state in
    let all = base_members (bases_of m) c.args.view.now in
    let next : c.loop-left.left ≡ suc (c.loop-left.left - 1) = omega arith in
    record {
      within = omega (arith, c.loop-left.invariant.within);
      least = least-more (λ (members : List ℕ). changer_of_any members m) lesser (λ (number : ℕ). first_changer number m.jobs) all (c.loop-left.left - 1) c.loop-left.left c.base_at-member.result
          c.changer_of.result c.loop-left.least _ (λ (first : ℕ) (more : List ℕ). c.view_users_are_joined.ensures.changer first more m) next c.base_at-member.ensures c.changer_of.ensures c.loop-left.invariant.least
          c.lesser-least.ensures;
    }
