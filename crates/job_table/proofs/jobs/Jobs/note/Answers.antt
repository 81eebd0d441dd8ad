use Rattle.std.proofs.Common.{◌-◌, ap}
use Rattle.std.proofs.lemmas.List.Elements.{All-set}
use Rattle.job_table.specs.Table.{IsWhole}
use Rattle.job_table.proofs.TableLemmas.{noted_table, counted_note, few_bytes}
use Rattle.job_table.proofs.jobs.Jobs.note.Goals as goal

pub note-requires-clause-few : goal.note-requires-clause-few
note-requires-clause-few c =
    few_bytes c.self.inside.jobs.items c.args.self.now c.args.number c.index_mut-job.result.now c.self.view_is c.requires.running c.index_mut-job.ensures.value _ _ c.self.invariant.0
    c.args.undo.change c.requires.few_bytes

pub invariant_of-self : goal.invariant_of-self
invariant_of-self c = (
  rw c.bytes.ensures
      (counted_note c.self.inside.jobs.items c.args.self.now c.args.number c.index_mut-job.result.now c.note.new.self c.self.view_is c.requires.running c.index_mut-job.ensures.value
      c.args.sequence c.args.undo.change _ _ (ap (λ j. j.state) c.note.ensures.kept) c.self.invariant.0),
  All-set IsWhole c.self.inside.jobs.items (c.args.number - 1) c.note.new.self c.note.ensures.whole c.self.invariant.1,
)

pub returns : goal.returns
returns c =
    noted_table c.self.inside.jobs.items c.args.self.now c.args.number c.index_mut-job.result.now c.note.new.self c.self.view_is c.requires.running c.index_mut-job.ensures.value
    c.args.sequence c.args.undo.change c.args.undo.moves c.note.ensures.kept
