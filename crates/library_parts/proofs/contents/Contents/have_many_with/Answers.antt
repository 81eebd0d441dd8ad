use Rattle.std.proofs.Common.{◌≡◌, ◌∙◌, ◌≤◌, ◌-◌, ℕ, suc, List, length, ap, sym, arith}
use Rattle.std.specs.List.{list_any}
use Rattle.file_model.specs.declared.paths.PathSpec.{PathSpec}
use Rattle.library_steps.specs.Bases.{base_members, base_names}
use Rattle.library_steps.specs.FilePaths.{logical_paths}
use Rattle.library_steps.specs.CreateLogicalFile.{has_many}
use Rattle.library_steps.specs.LogicalFiles.{bases_of}
use Rattle.library_steps.specs.State.{memory_of}
use Rattle.parts_model.proofs.UnderLemmas.{all-dropped, any-more}
use Rattle.library_parts.proofs.contents.Contents.have_many_with.Goals as goal

pub loop-left-init : goal.loop-left-init
loop-left-init c =
    let m = memory_of c.args.self.now.state in
    let p = has_many (logical_paths (bases_of m) c.args.view.now) m in
    let past : length (base_names c.args.view.now) ≤ c.base_count-left.result = omega (arith, c.base_count-left.ensures) in
    record {
      within = omega (arith, c.base_count-left.ensures);
      many = sym (ap (λ (members : List ℕ). list_any p members) (all-dropped (bases_of m) c.args.view.now c.base_count-left.result past));
    }

pub loop-left-preserved : goal.loop-left-preserved
loop-left-preserved c =
    let m = memory_of c.args.self.now.state in
    let all = base_members (bases_of m) c.args.view.now in
    let p = has_many (logical_paths (bases_of m) c.args.view.now) m in
    let next : c.loop-left.left ≡ suc (c.loop-left.left - 1) = omega arith in
    let its : c.has_many_with.result ≡ p c.base_at-member.result = c.has_many_with.ensures ∙ ap (λ (paths : List PathSpec). has_many paths m c.base_at-member.result) c.requires in
    record {
      within = omega (arith, c.loop-left.invariant.within);
      many = c.either-many.ensures ∙ any-more p all (c.loop-left.left - 1) c.loop-left.left c.base_at-member.result c.has_many_with.result c.loop-left.many next c.base_at-member.ensures its
          c.loop-left.invariant.many;
    }
