use Rattle.std.proofs.Common.{◌≡◌, ◌++◌, length, true}
use Rattle.std.specs.List.{list_all}
use Rattle.field_types.specs.SystemName.{is_name}
use Rattle.statement_reader.specs.Words.{words}
use Rattle.input_cards.proofs.reading.names.Given as goal

abbrev pub invariant-loop-word : goal.invariant-loop-word
invariant-loop-word l = record {
  taken : l.names ++ words l.rest ≡ words l.text;
  named : list_all is_name l.names ≡ true;
}

abbrev pub decreases-loop-word : goal.decreases-loop-word
decreases-loop-word l = length l.rest
