-- What one statement adds to a script. (Our own.)
use Rattle.std.specs.Prelude.{ℕ, Option, Some, None}
use Rattle.library_model.specs.Named.{Named}
use Rattle.job_language.specs.declared.refusals.Monitor.{Monitor}
use Rattle.job_language.specs.declared.statements.Action.{Action}
use Rattle.statement_syntax.specs.declared.Written.{Written}
use Rattle.script_builder.specs.declared.ways.Way.{Way}
use Rattle.script_builder.specs.declared.assembly.Part.{Part}
use Rattle.script_builder.specs.Phrases.{literal_of}
use Rattle.script_builder.specs.Scripts.{action_of, monitor_by, statement_of}

abbrev pub part_of : Written → Way → Option Monitor → Named ℕ → Part
part_of w way monitor labels = record {
  literal = literal_of w.phrase;
  statement = statement_of (action_of w.phrase way.otherwise monitor) w.line way.next;
  monitor = monitor_by w.phrase labels;
}

-- what a statement that counts adds
abbrev pub part_with : ℕ → ℕ → Action → Part
part_with line next action = record { literal = None; statement = Some (record { line = line; action = action; next = next }); monitor = None }

abbrev pub no_part : Part
no_part = record { literal = None; statement = None; monitor = None }
