use Rattle.std.proofs.Common.{Some, None, refl, sym}
use Rattle.library_steps.specs.Reads.{entry_found}
use Rattle.library_steps.specs.State.{memory_of}
use Rattle.record_reads.proofs.FoundLemmas.{entry-found}
use Rattle.record_reads.proofs.reads.find_entry.Goals as goal

pub find-requires-clause-asked : goal.find-requires-clause-asked
find-requires-clause-asked c = c.as_read.ensures.formats _ c.requires.asked.formats

pub find-requires-clause-looked : goal.find-requires-clause-looked
find-requires-clause-looked c = c.as_read.ensures.looked _ c.requires.asked.looked

pub returns-in-Some-clause-finds : goal.returns-in-Some-clause-finds
returns-in-Some-clause-finds c =
    let its = rw c.in-Some.is at c.find.ensures.found in
    record {
      it = entry_found its.0;
      finds = entry-found (memory_of c.args.contents.now.state) c.args.file.now c.args.opened.now.state c.args.by.now c.as_read.result c.as_read.ensures (Some its.0) c.requires.unjoined its.1;
      rrn = its.2;
      format = its.3;
      row = record { unjoined = c.requires.unjoined; is = refl };
    }

pub returns-in-Some-clause-shows : goal.returns-in-Some-clause-shows
returns-in-Some-clause-shows c =
    record { member = rw c.in-Some.is at c.find.ensures.there; unjoined = c.requires.unjoined; view = c.requires.view; live = rw c.in-Some.is at c.find.ensures.live }

pub returns-in-None-clause-finds : goal.returns-in-None-clause-finds
returns-in-None-clause-finds c = (
  entry-found (memory_of c.args.contents.now.state) c.args.file.now c.args.opened.now.state c.args.by.now c.as_read.result c.as_read.ensures None c.requires.unjoined
      (rw c.in-None.is at c.find.ensures.found),
  sym c.nothing_found.ensures,
)
