use Rattle.std.proofs.Common.{ℕ, ◌≡◌, List, take, subst, arith}
use Rattle.journal_model.specs.Catalogue.{CatalogFile}
use Rattle.restarted_library.specs.Steps.{Leads}
use Rattle.restarted_library.proofs.library.put_members.Goals as goal

pub loop-place-init : goal.loop-place-init
loop-place-init c = (c.requires, λ catalog entries attached built. built)

pub loop-place-preserved : goal.loop-place-preserved
loop-place-preserved c =
    (omega (arith, c.loop-place-test.true), λ catalog entries attached built. c.in_ok-put_at.ensures catalog entries attached (c.loop-place.invariant.1 catalog entries attached built))

pub returns : goal.returns
returns c =
    let most = c.loop-place.invariant.0 in
    let same : c.loop-place.place ≡ c.args.to = omega (arith, most, c.loop-place-test.false) in
    subst (λ (n : ℕ). (catalog : List CatalogFile)
    → Leads c.args.contents.now.state catalog (take c.args.from c.args.members.now.members) c.loop-place.contents.state catalog (take n c.args.members.now.members)) same
    c.loop-place.invariant.1
