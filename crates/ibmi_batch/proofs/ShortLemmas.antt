-- An input that isn't too long and has no line at fault has scripts that a session may begin.
use Rattle.std.proofs.Common.{◌≡◌, ℕ, ◌+◌, ◌≤◌, List, [], ◌∷◌, length, sym, subst, arith}
use Rattle.std.specs.List.{AllByRecursion}
use Rattle.text_lines.specs.Lines.{lines_of}
use Rattle.front_laws.specs.Deposits.{AreShort}
use Rattle.library_model.specs.declared.sources.NamedSource.{NamedSource}
use Rattle.input_scripts.specs.declared.Scripts.{Scripts}
use Rattle.input_scripts.specs.Schedules.{NamesJobs}
use Rattle.input_reader.specs.Input.{input_of}
use Rattle.input_reader.specs.Ready.{AreReady}
use Rattle.ibmi_batch.specs.declared.limits.TheConstants.{MOST_INPUT}
use Rattle.ibmi_batch.specs.Parts.{AreRunnable}

-- the journal has room for sources that are so short
within-short : (most : ℕ) → most + 64 ≤ 534773760 → (sources : List NamedSource) → AllByRecursion (λ source. length source.text ≤ most) sources → AreShort sources
within-short most few [] all = tt
within-short most few (source ∷ sources) all = (let its = all.0 in omega (arith, its, few), within-short most few sources all.1)

-- no source is longer than the input that has it, and a line feed
abbrev AreWithin : List ℕ → List NamedSource → Type 0
AreWithin bytes sources = AllByRecursion (λ source. length source.text ≤ length bytes + 1) sources

pub runnable : (bytes : List ℕ) (scripts : Scripts) → length bytes ≤ MOST_INPUT → scripts ≡ input_of (lines_of bytes) → AreReady scripts → NamesJobs (length scripts.scripts) scripts.schedule
    → AreWithin bytes (input_of (lines_of bytes)).sources → AreRunnable scripts
runnable bytes scripts within says ready scheduled short = record {
  short = within-short (length bytes + 1) (omega (arith, within)) scripts.sources (subst (λ (read : Scripts). AreWithin bytes read.sources) (sym says) short);
  askable = ready.askable;
  named = ready.as_many;
  few = let same = ready.as_many in let few = ready.few in omega (arith, same, few);
  scheduled = scheduled;
}
