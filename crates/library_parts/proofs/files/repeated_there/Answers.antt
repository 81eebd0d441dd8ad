use Rattle.std.proofs.Common.{◌∙◌, inr, ap}
use Rattle.std.specs.Option.{option_map}
use Rattle.parts_model.below.path_set.specs.declared.repeated.Repeated.{Repeated}
use Rattle.parts_model.proofs.AttachLemmas.{there-repeated}
use Rattle.library_parts.proofs.files.repeated_there.Goals as goal

pub returns-in-Some-repeated_among : goal.returns-in-Some-repeated_among
returns-in-Some-repeated_among c = λ members over tells.
    there-repeated c.args.path.now members c.in-Some.id c.args.paths.now.paths c.repeated_among.result c.in-Some.ensures c.repeated_among.ensures over tells
    ∙ ap (option_map (λ (r : Repeated). r.rrn)) c.in-Some-repeated_among.is

pub returns-in-None : goal.returns-in-None
returns-in-None c = λ members over tells.
    inr (there-repeated c.args.path.now members c.in-Some.id c.args.paths.now.paths c.repeated_among.result c.in-Some.ensures c.repeated_among.ensures over tells
    ∙ ap (option_map (λ (r : Repeated). r.rrn)) c.in-None.is)
