use Rattle.std.proofs.Common.{◌∙◌, sym, ap, refl}
use Rattle.std.specs.Option.{option_map, option_copied}
use Rattle.file_catalogue.proofs.BaseLemmas.{physical-base, logical-base}
use Rattle.file_catalogue.proofs.files.File.base.Goals as goal

pub returns-in-Some-clause-member : goal.returns-in-Some-clause-member
returns-in-Some-clause-member c =
    let is = sym (ap (λ o. option_map (λ described. described.spec) (option_copied o)) c.in-Some.is) ∙ c.physical.ensures in
    rw (physical-base c.args.self.now.spec c.args.self.now c.in-Some.described.now.spec is).0 c.number_of.ensures

pub returns-in-Some-clause-fields : goal.returns-in-Some-clause-fields
returns-in-Some-clause-fields c =
    let is = sym (ap (λ o. option_map (λ described. described.spec) (option_copied o)) c.in-Some.is) ∙ c.physical.ensures in
    let base = physical-base c.args.self.now.spec c.args.self.now c.in-Some.described.now.spec is in
    rw base.0 (c.as_slice.ensures.fields ∙ ap (λ format. format.fields) (c.format.ensures.format ∙ base.1))

pub returns-in-None-clause-member : goal.returns-in-None-clause-member
returns-in-None-clause-member c =
    let is = sym (ap (λ o. option_map (λ described. described.spec) (option_copied o)) c.in-None.is) ∙ c.physical.ensures in
    rw (logical-base c.args.self.now.spec c.args.self.now is) refl

pub returns-in-None-clause-fields : goal.returns-in-None-clause-fields
returns-in-None-clause-fields c =
    let is = sym (ap (λ o. option_map (λ described. described.spec) (option_copied o)) c.in-None.is) ∙ c.physical.ensures in
    rw (logical-base c.args.self.now.spec c.args.self.now is) c.no_fields.ensures.fields
