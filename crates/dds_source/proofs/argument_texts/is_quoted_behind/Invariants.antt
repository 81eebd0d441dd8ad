use Rattle.std.proofs.Common.{◌≡◌, drop, false}
use Rattle.dds_source.specs.ArgumentTexts.{is_quoted_behind}
use Rattle.dds_source.proofs.argument_texts.is_quoted_behind.Given as goal

abbrev pub invariant-loop-c : goal.invariant-loop-c
invariant-loop-c l = is_quoted_behind l.quoted (drop l.c-index l.text) ≡ is_quoted_behind false l.text
