use Rattle.std.proofs.Common.{◌≡◌, ◌-◌, set, refl, sym, ap, ◌∙◌, arith}
use Rattle.path_set.specs.declared.kept.Kept.{Kept}
use Rattle.path_set.specs.Entries.{paths_of, path_of, with_files}
use Rattle.path_set.proofs.FoundLemmas.{found, missing}
use Rattle.path_set.proofs.IndexLemmas.{indexed-set, indexed-removed, kept-removed}
use Rattle.path_set.proofs.ShareLemmas.{detached-none, detached-fewer, detached-last, detached-rooms, spare-same}
use Rattle.path_set.proofs.set.PathSet.detach.Goals as goal

pub invariant_of-self : goal.invariant_of-self
invariant_of-self c =
    let entry = found _ _ _ _ _ _ c.self.view_is c.self.invariant.0 c.deref.ensures.value c.in-Ok.ensures.found c.index_mut.ensures.value in
    let same : c.index_mut.result.now.files ≡ c.index.result.now.files = ap (λ (k : Kept). k.files) (entry.reads c.index.result.now ∙ sym c.index.ensures) in (
      entry.ordered _ refl refl (record { falling = entry.is.falling; attached = omega (arith, same) }),
      indexed-set _ _ _ _ _ c.self.invariant.1 entry.reads refl refl,
    )

pub invariant_of-self-in-Ok-2 : goal.invariant_of-self-in-Ok-2
invariant_of-self-in-Ok-2 c =
    let entry = found _ _ _ _ _ _ c.self.view_is c.self.invariant.0 c.deref.ensures.value c.in-Ok.ensures.found c.remove.ensures.value in (
      rw c.remove.ensures.items (kept-removed _ _ _ c.self.invariant.0 entry.at),
      rw c.remove.ensures.items (indexed-removed _ _ _ _ _ c.self.invariant.1 entry.at c.remove_path.ensures.ordered c.remove_path.ensures.removed),
    )

pub returns-in-Ok-clause-paths : goal.returns-in-Ok-clause-paths
returns-in-Ok-clause-paths c =
    let entry = found _ _ _ _ _ _ c.self.view_is c.self.invariant.0 c.deref.ensures.value c.in-Ok.ensures.found c.index_mut.ensures.value in
    let kept = c.index_mut.result.now in
    let same : c.index_mut.result.now.files ≡ c.index.result.now.files = ap (λ (k : Kept). k.files) (entry.reads c.index.result.now ∙ sym c.index.ensures) in
    entry.paths_after (with_files kept (kept.files - 1)) entry.named ∙ detached-fewer c.args.id (path_of kept) c.args.self.now.paths entry.present (omega (arith, same))

pub returns-in-Ok-clause-rooms : goal.returns-in-Ok-clause-rooms
returns-in-Ok-clause-rooms c other there =
    let entry = found _ _ _ _ _ _ c.self.view_is c.self.invariant.0 c.deref.ensures.value c.in-Ok.ensures.found c.index_mut.ensures.value in
    let kept = c.index_mut.result.now in
    spare-same other (paths_of (set c.self.inside.paths.items c.in-Ok.place (with_files kept (kept.files - 1)))) c.args.self.now
    (entry.rooms_after (with_files kept (kept.files - 1)) entry.named ∙ entry.same_rooms)

pub returns-in-Ok-2-clause-paths : goal.returns-in-Ok-2-clause-paths
returns-in-Ok-2-clause-paths c =
    let entry = found _ _ _ _ _ _ c.self.view_is c.self.invariant.0 c.deref.ensures.value c.in-Ok.ensures.found c.remove.ensures.value in
    let same : c.remove.result.files ≡ c.index.result.now.files = ap (λ (k : Kept). k.files) (entry.reads c.index.result.now ∙ sym c.index.ensures) in
    rw c.remove.ensures.items (entry.gone_paths ∙ detached-last c.args.id (path_of c.remove.result) c.args.self.now.paths entry.present (omega (arith, same)))

pub returns-in-Ok-2-clause-rooms : goal.returns-in-Ok-2-clause-rooms
returns-in-Ok-2-clause-rooms c =
    let entry = found _ _ _ _ _ _ c.self.view_is c.self.invariant.0 c.deref.ensures.value c.in-Ok.ensures.found c.remove.ensures.value in
    detached-rooms c.args.id c.remove.new.self.items c.args.self.now (rw c.remove.ensures.items entry.gone_paths) (rw c.remove.ensures.items entry.gone_rooms)

pub returns-in-Err-clause-paths : goal.returns-in-Err-clause-paths
returns-in-Err-clause-paths c = detached-none c.args.id c.args.self.now.paths (missing _ _ _ _ _ c.self.view_is c.deref.ensures.value c.in-Err.ensures.absent).paths
