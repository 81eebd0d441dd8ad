use Rattle.std.proofs.Common.{◌≡◌, ◌++◌, ◌||◌, [], false, length, map}
use Rattle.std.specs.List.{list_any}
use Rattle.dds_source.specs.ArgumentTexts.{argument_texts, arguments_in, argument_of, is_bad_hexadecimal}
use Rattle.dds_source.proofs.argument_texts.arguments.Given as goal

abbrev pub invariant-loop-rest : goal.invariant-loop-rest
invariant-loop-rest l = record {
  read : l.arguments ++ map argument_of (argument_texts false [] l.rest) ≡ map argument_of (arguments_in l.fn.keyword);
  bad : (l.is_bad || list_any is_bad_hexadecimal (argument_texts false [] l.rest)) ≡ list_any is_bad_hexadecimal (arguments_in l.fn.keyword);
}

abbrev pub decreases-loop-rest : goal.decreases-loop-rest
decreases-loop-rest l = length l.rest
