-- The last of some statements is taken.
use Rattle.std.proofs.Common.{◌≡◌, ℕ, ◌+◌, ◌<◌, ◌≤◌, Option, List, [], ◌∷◌, ◌++◌, length, get_or, take, drop, sym, ap, ◌∙◌, arith}
use Rattle.std.specs.Prelude.{reverse}
use Rattle.std.proofs.lemmas.List.{drop_more, take_more, reverse-reverse}
use Rattle.field_types.specs.declared.values.Value.{Value}
use Rattle.library_model.specs.Named.{Named}
use Rattle.job_language.specs.declared.refusals.Monitor.{Monitor}
use Rattle.job_language.specs.declared.statements.Statement.{Statement}
use Rattle.statement_syntax.specs.declared.Written.{Written}
use Rattle.script_builder.specs.declared.assembly.Part.{Part}
use Rattle.script_builder.specs.declared.ways.Way.{Way}
use Rattle.script_builder.specs.Phrases.{literal_of}
use Rattle.script_builder.specs.Scripts.{added, action_of, literals_of, monitor_by, monitor_of, statement_of, statements_of}
use Rattle.script_builder.specs.Parts.{part_of}
use Rattle.script_builder.proofs.StackLemmas.{reverse-push}

record SameEnds {A : Type 0} (xs ys : List A) (x y : A) : Type 0 where
  front : xs ≡ ys
  last : x ≡ y

same_ends : {A : Type 0} (xs ys : List A) (x y : A) → xs ++ x ∷ [] ≡ ys ++ y ∷ [] → SameEnds xs ys x y
same_ends xs ys x y same =
    let turned = sym (reverse-push xs x) ∙ ap reverse same ∙ reverse-push ys y in
    let fronts : reverse xs ≡ reverse ys = cc in
    record { front = sym (reverse-reverse xs) ∙ ap reverse fronts ∙ reverse-reverse ys; last = cc }

-- what is left, and what has been taken
pub record Taken {A : Type 0} (all left : List A) (count : ℕ) (x : A) (before : ℕ) : Type 0 where
  pub front : left ≡ take count all
  pub back : drop count all ≡ x ∷ drop before all

pub taken_one : {A : Type 0} (all items left : List A) (count before : ℕ) (x : A) → items ≡ take before all → before ≤ length all → count + 1 ≡ before → items ≡ left ++ x ∷ [] → Taken all left count x before
taken_one all items left count before x is few less taken =
    let within : count < length all = omega arith in
    let whole : left ++ x ∷ [] ≡ take count all ++ get_or all count x ∷ [] = sym taken ∙ is ∙ ap (λ n. take n all) (sym less) ∙ take_more all count x within in
    let ends = same_ends left (take count all) x (get_or all count x) whole in
    record {
      front = ends.front;
      back = drop_more all count x within ∙ ap (λ n. get_or all count x ∷ drop n all) less ∙ ap (λ y. y ∷ drop before all) (sym ends.last);
    }

-- what one statement adds
pub record Adds (later : List Written) (ways : List Way) (labels : Named ℕ) (w : Written) (way : Way) (part : Part) : Type 0 where
  pub literal : part.literal ≡ literal_of w.phrase
  pub statement : part.statement ≡ statement_of (action_of w.phrase way.otherwise (monitor_of later labels)) w.line way.next
  pub monitor : part.monitor ≡ monitor_by w.phrase labels

pub adds : (later : List Written) (ways : List Way) (labels : Named ℕ) (w : Written) (way : Way) (monitor : Option Monitor) (part : Part) → part ≡ part_of w way monitor labels → monitor ≡ monitor_of later labels → Adds later ways labels w way part
adds later ways labels w way monitor part is monitor_is = record {
  literal = ap (λ (p : Part). p.literal) is;
  statement =
      ap (λ (p : Part). p.statement) is ∙ ap (λ m. statement_of (action_of w.phrase way.otherwise m) w.line way.next) monitor_is;
  monitor = ap (λ (p : Part). p.monitor) is;
}

pub literals_step : (all later : List Written) (w : Written) (literal : Option Value) (old new : List Value) → all ≡ w ∷ later → literal ≡ literal_of w.phrase → new ≡ added literal old → old ≡ literals_of later → new ≡ literals_of all
literals_step all later w literal old new all_is is new_is old_is =
    new_is ∙ ap (λ l. added l old) is ∙ ap (added (literal_of w.phrase)) old_is ∙ ap literals_of (sym all_is)

pub statements_step : (all later : List Written) (ways later_ways : List Way) (labels : Named ℕ) (w : Written) (way : Way) (statement : Option Statement) (old new : List Statement) → all ≡ w ∷ later →
    ways ≡ way ∷ later_ways → statement ≡ statement_of (action_of w.phrase way.otherwise (monitor_of later labels)) w.line way.next → new ≡ added statement old →
    old ≡ statements_of later later_ways labels → new ≡ statements_of all ways labels
statements_step all later ways later_ways labels w way statement old new all_is ways_is is new_is old_is =
    new_is
    ∙ ap (λ s. added s old) is
    ∙ ap (added (statement_of (action_of w.phrase way.otherwise (monitor_of later labels)) w.line way.next)) old_is
    ∙ ap (λ ys. statements_of (w ∷ later) ys labels) (sym ways_is)
    ∙ ap (λ xs. statements_of xs ways labels) (sym all_is)
