use Rattle.std.proofs.Common.{◌∙◌, sym, ap}
use Rattle.library_model.specs.Named.{Named}
use Rattle.library_steps.specs.State.{FileState}
use Rattle.described_journals.specs.Files.{described_upon}
use Rattle.described_journals.specs.Needed.{found}
use Rattle.described_journals.proofs.PlaceLemmas.{upon-popped}
use Rattle.described_journals.proofs.needed.described_at.Goals as goal

pub loop-place-preserved : goal.loop-place-preserved
loop-place-preserved c =
    ap (λ (before : Named FileState). described_upon before (found c.args.files.now c.pop.new.self.items)) c.in_ok-add_at.ensures
    ∙ sym (upon-popped c.args.files.now c.loop-place.described c.loop-place.places.items c.pop.new.self.items c.in-Some.place c.in-Some.ensures.items)
    ∙ c.loop-place.invariant
