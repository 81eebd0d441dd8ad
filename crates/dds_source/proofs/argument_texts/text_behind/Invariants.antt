use Rattle.std.proofs.Common.{◌≡◌, ◌++◌, drop, false}
use Rattle.std.specs.Option.{option_map}
use Rattle.dds_source.specs.ArgumentTexts.{text_behind}
use Rattle.dds_source.proofs.argument_texts.text_behind.Given as goal

abbrev pub invariant-loop-c : goal.invariant-loop-c
invariant-loop-c l = option_map (λ t. l.text.items ++ t) (text_behind l.behind_apostrophe (drop l.c-index l.rest)) ≡ text_behind false l.rest
