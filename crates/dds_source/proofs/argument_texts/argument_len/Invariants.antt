use Rattle.std.proofs.Common.{◌≡◌, take, drop, [], false}
use Rattle.dds_source.specs.ArgumentTexts.{argument_texts}
use Rattle.dds_source.proofs.argument_texts.argument_len.Given as goal

abbrev pub invariant-loop-i : goal.invariant-loop-i
invariant-loop-i l = argument_texts l.quoted (take l.i l.text) (drop l.i l.text) ≡ argument_texts false [] l.text
