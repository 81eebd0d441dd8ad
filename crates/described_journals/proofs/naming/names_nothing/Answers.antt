use Rattle.std.proofs.Common.{rules, ◌≡◌, None, sym, ◌∙◌, ap}
use Rattle.std.specs.List.{filter_map}
use Rattle.dds_physical.specs.References.{reference_file}
use Rattle.named_bases.specs.Sources.{file_of_line}
use Rattle.described_journals.proofs.NamedLemmas.{none-named}
use Rattle.described_journals.proofs.naming.names_nothing.Goals as goal

pub returns-in-None : goal.returns-in-None
returns-in-None c = λ yes.
    let file : reference_file c.args.source.now.file ≡ None = search rules in
    let same : c.as_slice-in-None.result.now ≡ c.args.source.now.specifications = search rules in
    none-named c.args.source.now file (ap (filter_map file_of_line) (sym same) ∙ c.lines_name_nothing.ensures yes)
