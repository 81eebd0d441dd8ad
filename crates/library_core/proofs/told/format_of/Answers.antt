use Rattle.std.specs.Option.{option_copied}
use Rattle.library_core.proofs.OwnedLemmas.{format-has, format-none, format-owned, some-owned}
use Rattle.library_core.proofs.told.format_of.Goals as goal

pub returns-in-None-clause-has : goal.returns-in-None-clause-has
returns-in-None-clause-has c = λ name file owns.
    format-none c.catalogue-catalogue.result.now.files c.args.contents.now.state.files c.args.number c.owner.result c.catalogue-catalogue.ensures c.in-None.is c.owner.ensures.value _ name file owns

pub returns-in-Some-clause-has : goal.returns-in-Some-clause-has
returns-in-Some-clause-has c =
    format-has c.catalogue-catalogue.result.now.files c.args.contents.now.state.files c.args.number c.owner.result c.in-Some.name c.catalogue-catalogue.ensures c.in-Some.is
    c.owner.ensures.value c.len-files.ensures.unique c.len-files.ensures.apart c.jobs_begun-jobs.ensures.lawful.bases (option_copied c.format_named.result) c.format_named.ensures

pub returns-in-Some-clause-owned : goal.returns-in-Some-clause-owned
returns-in-Some-clause-owned c =
    some-owned c.args.contents.now.state.files c.args.number c.format_named.result
    (format-owned c.catalogue-catalogue.result.now.files c.args.contents.now.state.files c.args.number c.owner.result c.in-Some.name c.catalogue-catalogue.ensures c.in-Some.is
    c.owner.ensures.value c.len-files.ensures.unique c.len-files.ensures.apart c.jobs_begun-jobs.ensures.lawful.bases (option_copied c.format_named.result) c.format_named.ensures)
