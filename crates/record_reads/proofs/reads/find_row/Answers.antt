use Rattle.std.proofs.Common.{Some, None, refl, sym, ap}
use Rattle.file_model.specs.Joins.{RowPlace}
use Rattle.library_steps.specs.Reads.{row_found}
use Rattle.library_steps.specs.State.{memory_of}
use Rattle.record_reads.proofs.FoundLemmas.{join-defaults, row-asked, row-found}
use Rattle.record_reads.proofs.reads.find_row.Goals as goal

pub find_row-requires-clause-there : goal.find_row-requires-clause-there
find_row-requires-clause-there c = c.requires.member.there

pub find_row-requires-clause-defaults : goal.find_row-requires-clause-defaults
find_row-requires-clause-defaults c = join-defaults c.args.contents.now.state.files c.args.view.now c.requires.defaults

pub find_row-requires-clause-asked : goal.find_row-requires-clause-asked
find_row-requires-clause-asked c =
    c.as_read.ensures.parts _
    (row-asked (memory_of c.args.contents.now.state) c.args.file.now c.args.opened.now.state c.args.by.now c.as_read.result c.as_read.ensures c.args.view.now c.requires.join c.requires.asked.formats
    c.requires.asked.numbered)

pub returns-in-Ok-Some-clause-finds : goal.returns-in-Ok-Some-clause-finds
returns-in-Ok-Some-clause-finds c =
    let its = rw (c.in-Ok-Some.is, c.in-Ok-Some.field-0-is) at c.find_row.ensures in
    record {
      it = row_found its.0;
      finds = row-found (memory_of c.args.contents.now.state) c.args.file.now c.args.opened.now.state c.args.by.now c.as_read.result c.as_read.ensures c.args.view.now
          c.requires.join (Some its.0) its.1;
      rrn = ap (λ (place : RowPlace). place.primary.rrn) (sym its.2.told);
      format = ap (λ (place : RowPlace). place.primary.format) (sym its.2.told);
      row = record { view = c.args.view.now; join = c.requires.join; place = its.0; is = refl; row = its.2 };
    }

pub returns-in-Ok-None-clause-finds : goal.returns-in-Ok-None-clause-finds
returns-in-Ok-None-clause-finds c = (
  row-found (memory_of c.args.contents.now.state) c.args.file.now c.args.opened.now.state c.args.by.now c.as_read.result c.as_read.ensures c.args.view.now c.requires.join None
      (rw (c.in-Ok-None.is, c.in-Ok-None.field-0-is) at c.find_row.ensures),
  sym c.nothing_found.ensures,
)
