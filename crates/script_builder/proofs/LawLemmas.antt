-- A script has the statements that count, and leads to none past its end.
use Rattle.std.proofs.Common.{◌≡◌, ℕ, zero, suc, ◌≤◌, Bool, true, false, Option, Some, None, List, [], ◌∷◌, ◌++◌, length, refl, sym, ap, ◌∙◌, subst, arith}
use Rattle.std.specs.Prelude.{IfSome, option_map, if◌then◌else◌}
use Rattle.std.specs.Option.{is_some, unwrap_or}
use Rattle.std.specs.Map.{lookup}
use Rattle.library_model.specs.Named.{Named, named, same_name}
use Rattle.job_language.specs.declared.refusals.Monitor.{Monitor}
use Rattle.job_language.specs.declared.statements.Statement.{Statement}
use Rattle.statement_syntax.specs.declared.Phrase.{Phrase}
use Rattle.statement_syntax.specs.declared.Phrase.TheVariants.{Declare, ChangeVariable, IfGoto, IfDo, Else, DoWhile, EndDo, Goto, Monitor as Monitoring, Return, Request}
use Rattle.statement_syntax.specs.declared.Written.{Written}
use Rattle.script_builder.specs.declared.phrases.Block.TheVariants.{ThenBlock, ElseBlock, LoopBlock}
use Rattle.script_builder.specs.declared.phrases.Nesting.{Nesting}
use Rattle.script_builder.specs.declared.phrases.Nesting.TheVariants.{Opens, Closes, Stays}
use Rattle.script_builder.specs.Phrases.{counts, nesting_of, target_of}
use Rattle.script_builder.specs.Nestings.{top, under, depth_after, behind_block}
use Rattle.script_builder.specs.Ways.{counted, count_of, place_of, with_label, labels_of, label_place, leaves, leading, goes_on, past_else, exits_after, next_of, otherwise_of, ways_of}
use Rattle.script_builder.specs.Scripts.{added, action_of, statement_of, monitor_by, monitor_of, statements_of, script_of}
use Rattle.script_builder.specs.Laws.{MonitorsWithin, LeadWithin}

length-added : (phrase : Phrase) (otherwise : ℕ) (monitor : Option Monitor) (line next : ℕ) (rest : List Statement) →
    length (added (statement_of (action_of phrase otherwise monitor) line next) rest) ≡ counted (counts phrase) (length rest)
length-added (Declare variable value) otherwise monitor line next rest = refl
length-added (ChangeVariable variable value) otherwise monitor line next rest = refl
length-added (IfGoto condition label) otherwise monitor line next rest = refl
length-added (IfDo condition) otherwise monitor line next rest = refl
length-added Else otherwise monitor line next rest = refl
length-added (DoWhile condition) otherwise monitor line next rest = refl
length-added EndDo otherwise monitor line next rest = refl
length-added (Goto label) otherwise monitor line next rest = refl
length-added (Monitoring takes label) otherwise monitor line next rest = refl
length-added Return otherwise monitor line next rest = refl
length-added (Request form into) otherwise monitor line next rest = refl

length-statements_of : (ws : List Written) (labels : Named ℕ) (total : ℕ) (exits : List ℕ) → length (statements_of ws (ways_of ws labels total exits) labels) ≡ count_of ws
length-statements_of [] labels total exits = refl
length-statements_of (w ∷ ws) labels total exits =
    let inside = exits_after (nesting_of w.phrase) (place_of (w ∷ ws) total) ws total exits in
    let rest = statements_of ws (ways_of ws labels total inside) labels in
    length-added w.phrase (otherwise_of (nesting_of w.phrase) ws total exits) (monitor_of ws labels) w.line (next_of (target_of w.phrase) labels (goes_on ws total inside)) rest
    ∙ ap (counted (counts w.phrase)) (length-statements_of ws labels total inside)

-- a script has the statements that count
pub length-script_of : (ws : List Written) → length (script_of ws).statements ≡ count_of ws
length-script_of ws = length-statements_of ws (labels_of ws (count_of ws) 0 []) (count_of ws) []

-- places that are at most the last
Bounded : List ℕ → ℕ → Type 0
Bounded [] end = Unit {0}
Bounded (x ∷ xs) end = (x ≤ end) × Bounded xs end

Bounded-under : (xs : List ℕ) (end : ℕ) → Bounded xs end → Bounded (under xs) end
unfolding Bounded
Bounded-under [] end all = tt
Bounded-under (x ∷ xs) end all = all.1

Bounded-top : (xs : List ℕ) (end : ℕ) → Bounded xs end → IfSome (top xs) (λ x. x ≤ end)
unfolding Bounded
Bounded-top [] end all = tt
Bounded-top (x ∷ xs) end all = all.0

leading-le : (b : Bool) (exit : Option ℕ) (place end : ℕ) → IfSome exit (λ x. x ≤ end) → place ≤ end → leading b exit place ≤ end
leading-le true None place end there le = le
leading-le true (Some exit) place end there le = there
leading-le false exit place end there le = le

goes_on-le : (ws : List Written) (total : ℕ) (exits : List ℕ) → Bounded exits total → goes_on ws total exits ≤ total
goes_on-le ws total exits all = leading-le (leaves ws) (top exits) (place_of ws total) total (Bounded-top exits total all) (omega arith)

exits_after-Bounded : (nesting : Nesting) (place : ℕ) (ws : List Written) (total : ℕ) (exits : List ℕ) → place ≤ total → Bounded exits total → Bounded (exits_after nesting place ws total exits) total
unfolding Bounded
exits_after-Bounded (Opens ThenBlock) place ws total exits le all = (goes_on-le (past_else (behind_block ws 0)) total exits all, all)
exits_after-Bounded (Opens ElseBlock) place ws total exits le all = (goes_on-le (behind_block ws 0) total exits all, all)
exits_after-Bounded (Opens LoopBlock) place ws total exits le all = (le, all)
exits_after-Bounded Closes place ws total exits le all = Bounded-under exits total all
exits_after-Bounded Stays place ws total exits le all = all

otherwise_of-le : (nesting : Nesting) (ws : List Written) (total : ℕ) (exits : List ℕ) → Bounded exits total → otherwise_of nesting ws total exits ≤ total
otherwise_of-le (Opens block) ws total exits all = goes_on-le (behind_block ws 0) total exits all
otherwise_of-le Closes ws total exits all = goes_on-le ws total exits all
otherwise_of-le Stays ws total exits all = goes_on-le ws total exits all

-- labels with such places
Placed : Named ℕ → ℕ → Type 0
Placed [] end = Unit {0}
Placed (n ∷ names) end = (n.1 ≤ end) × Placed names end

Placed-append : (names : Named ℕ) (name : List ℕ) (place end : ℕ) → Placed names end → place ≤ end → Placed (names ++ (name, place) ∷ []) end
unfolding Placed
Placed-append [] name place end all le = (le, tt)
Placed-append (n ∷ names) name place end all le = (all.0, Placed-append names name place end all.1 le)

Placed-if : (b : Bool) (names more : Named ℕ) (end : ℕ) → Placed names end → Placed more end → Placed (if b then names else more) end
Placed-if true names more end all also = all
Placed-if false names more end all also = also

Placed-with_label : (depth : ℕ) (label : Option (List ℕ)) (place : ℕ) (names : Named ℕ) (end : ℕ) → Placed names end → place ≤ end → Placed (with_label depth label place names) end
Placed-with_label zero None place names end all le = all
Placed-with_label zero (Some label) place names end all le =
    Placed-if (is_some (named label names)) names (names ++ (label, place) ∷ []) end all (Placed-append names label place end all le)
Placed-with_label (suc depth) label place names end all le = all

Placed-labels_of : (ws : List Written) (total depth : ℕ) (before : Named ℕ) → Placed before total → Placed (labels_of ws total depth before) total
Placed-labels_of [] total depth before all = all
Placed-labels_of (w ∷ ws) total depth before all =
    Placed-labels_of ws total (depth_after depth (nesting_of w.phrase)) (with_label depth w.label (place_of (w ∷ ws) total) before)
    (Placed-with_label depth w.label (place_of (w ∷ ws) total) before total all (omega arith))

found-le : (b : Bool) (place : ℕ) (other : Option ℕ) (end : ℕ) → place ≤ end → unwrap_or other 0 ≤ end → unwrap_or (if b then Some place else other) 0 ≤ end
found-le true place other end le also = le
found-le false place other end le also = also

label_place-le : (names : Named ℕ) (label : List ℕ) (end : ℕ) → Placed names end → label_place names label ≤ end
unfolding Placed
label_place-le [] label end all = omega arith
label_place-le (n ∷ names) label end all =
    found-le (same_name label n.0) n.1 (lookup (same_name label) names) end all.0 (label_place-le names label end all.1)

next_of-le : (target : Option (List ℕ)) (labels : Named ℕ) (on end : ℕ) → Placed labels end → on ≤ end → next_of target labels on ≤ end
next_of-le None labels on end all le = le
next_of-le (Some label) labels on end all le = label_place-le labels label end all

target-within : (label : Option (List ℕ)) (labels : Named ℕ) (end : ℕ) → Placed labels end → IfSome (option_map (label_place labels) label) (λ place. place ≤ end)
target-within None labels end all = tt
target-within (Some label) labels end all = label_place-le labels label end all

monitor_by-within : (phrase : Phrase) (labels : Named ℕ) (end : ℕ) → Placed labels end → MonitorsWithin (monitor_by phrase labels) end
monitor_by-within (Declare variable value) labels end all = tt
monitor_by-within (ChangeVariable variable value) labels end all = tt
monitor_by-within (IfGoto condition label) labels end all = tt
monitor_by-within (IfDo condition) labels end all = tt
monitor_by-within Else labels end all = tt
monitor_by-within (DoWhile condition) labels end all = tt
monitor_by-within EndDo labels end all = tt
monitor_by-within (Goto label) labels end all = tt
monitor_by-within (Monitoring takes label) labels end all = target-within label labels end all
monitor_by-within Return labels end all = tt
monitor_by-within (Request form into) labels end all = tt

monitor_of-within : (ws : List Written) (labels : Named ℕ) (end : ℕ) → Placed labels end → MonitorsWithin (monitor_of ws labels) end
monitor_of-within [] labels end all = tt
monitor_of-within (w ∷ ws) labels end all = monitor_by-within w.phrase labels end all

added-within : (phrase : Phrase) (otherwise : ℕ) (monitor : Option Monitor) (line next : ℕ) (rest : List Statement) (end : ℕ) → otherwise ≤ end → next ≤ end → MonitorsWithin monitor end →
    LeadWithin rest end → LeadWithin (added (statement_of (action_of phrase otherwise monitor) line next) rest) end
added-within (Declare variable value) otherwise monitor line next rest end low le watch all = all
added-within (ChangeVariable variable value) otherwise monitor line next rest end low le watch all = (le, tt, all)
added-within (IfGoto condition label) otherwise monitor line next rest end low le watch all = (le, low, all)
added-within (IfDo condition) otherwise monitor line next rest end low le watch all = (le, low, all)
added-within Else otherwise monitor line next rest end low le watch all = (le, tt, all)
added-within (DoWhile condition) otherwise monitor line next rest end low le watch all = (le, low, all)
added-within EndDo otherwise monitor line next rest end low le watch all = all
added-within (Goto label) otherwise monitor line next rest end low le watch all = (le, tt, all)
added-within (Monitoring takes label) otherwise monitor line next rest end low le watch all = all
added-within Return otherwise monitor line next rest end low le watch all = (le, tt, all)
added-within (Request form into) otherwise monitor line next rest end low le watch all = (le, watch, all)

statements_of-within : (ws : List Written) (labels : Named ℕ) (total : ℕ) (exits : List ℕ) → Placed labels total → Bounded exits total →
    LeadWithin (statements_of ws (ways_of ws labels total exits) labels) total
statements_of-within [] labels total exits placed all = tt
statements_of-within (w ∷ ws) labels total exits placed all =
    let inside = exits_after (nesting_of w.phrase) (place_of (w ∷ ws) total) ws total exits in
    let le : place_of (w ∷ ws) total ≤ total = omega arith in
    let also : Bounded inside total = exits_after-Bounded (nesting_of w.phrase) (place_of (w ∷ ws) total) ws total exits le all in
    added-within w.phrase (otherwise_of (nesting_of w.phrase) ws total exits) (monitor_of ws labels) w.line (next_of (target_of w.phrase) labels (goes_on ws total inside))
    (statements_of ws (ways_of ws labels total inside) labels) total
    (otherwise_of-le (nesting_of w.phrase) ws total exits all)
    (next_of-le (target_of w.phrase) labels (goes_on ws total inside) total placed (goes_on-le ws total inside also))
    (monitor_of-within ws labels total placed)
    (statements_of-within ws labels total inside placed also)

-- each place that a script leads to is at most its length
pub script_of-within : (ws : List Written) → LeadWithin (script_of ws).statements (length (script_of ws).statements)
unfolding Bounded Placed
script_of-within ws =
    let total = count_of ws in
    let Q : ℕ → Type 0 = λ end. LeadWithin (script_of ws).statements end in
    subst Q (sym (length-script_of ws)) (statements_of-within ws (labels_of ws total 0 []) total [] (Placed-labels_of ws total 0 [] tt) tt)
