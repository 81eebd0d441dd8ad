-- The script of statements of which each is read, and the faults of what isn't.
use Rattle.std.proofs.Common.{◌≡◌, ℕ, Bool, true, false, not, Option, Some, None, List, [], ◌∷◌, ◌++◌, refl, sym, ap, ◌∙◌, Err}
use Rattle.std.specs.Prelude.{min, IsErrOf}
use Rattle.std.specs.List.{list_all}
use Rattle.std.proofs.lemmas.Bool.{and_parts, and_from}
use Rattle.library_model.specs.Named.{Named}
use Rattle.job_language.specs.declared.refusals.Monitor.{Monitor}
use Rattle.job_language.specs.declared.statements.Script.{Script}
use Rattle.job_language.specs.declared.statements.Statement.{Statement}
use Rattle.statement_syntax.specs.declared.Phrase.{Phrase}
use Rattle.statement_syntax.specs.declared.Phrase.TheVariants.{Declare, ChangeVariable, IfGoto, IfDo, Else, DoWhile, EndDo, Goto, Monitor as Monitoring, Return, Request}
use Rattle.statement_syntax.specs.declared.Written.{Written}
use Rattle.statement_reader.specs.declared.reading.Said.{Said}
use Rattle.script_builder.specs.declared.BuildError.{BuildError}
use Rattle.script_builder.specs.declared.BuildError.TheVariants.{NoMemory, Fault}
use Rattle.script_builder.specs.declared.ways.Way.{Way}
use Rattle.script_builder.specs.Least.{least, lesser}
use Rattle.script_builder.specs.Faults.{noted, faults_of}
use Rattle.script_builder.specs.Scripts.{added, action_of, statement_of, monitor_of, statements_of, script_of}
use Rattle.script_builder.specs.Ways.{count_of, labels_of, ways_of}
use Rattle.input_scripts.specs.Askable.{is_askable, is_askable_form, is_askable_script}
use Rattle.job_statements.specs.Texts.{StatementText}
use Rattle.job_statements.specs.Reading.{said_in, declared_after, written_as, is_read, is_runnable, statements_from, unread_from, earlier}
use Rattle.job_statements.proofs.ReadLemmas.{least-empty, least-append}

cons-nil : (x : ℕ) (xs : List ℕ) → x ∷ xs ≡ [] → ⊥
cons-nil x xs is = cc

noted-none : (read : Bool) (line : ℕ) (lines : List ℕ) → noted (not read) line lines ≡ [] → (read ≡ true) × (lines ≡ [])
noted-none true line lines none = (refl, none)
noted-none false line lines none = absurd (cons-nil line lines none)

read-runnable : (line : ℕ) (text : List ℕ) (said : Option Said) → is_read said ≡ true → is_runnable (written_as line text said).phrase ≡ true
read-runnable line text None read = refl
read-runnable line text (Some said) read = read

statements-runnable : (texts : List StatementText) (variables : List (List ℕ)) → unread_from variables texts ≡ [] → list_all (λ w. is_runnable w.phrase) (statements_from variables texts) ≡ true
unfolding statements_from unread_from
statements-runnable [] variables none = refl
statements-runnable (text ∷ texts) variables none =
    let said : Option Said = said_in variables text.whole text.text in
    let parts = noted-none (is_read said) text.line (unread_from (declared_after variables said) texts) none in
    and_from (is_runnable (written_as text.line text.text said).phrase) (list_all (λ w. is_runnable w.phrase) (statements_from (declared_after variables said) texts))
    (read-runnable text.line text.text said parts.0) (statements-runnable texts (declared_after variables said) parts.1)

added-askable : (phrase : Phrase) (otherwise : ℕ) (monitor : Option Monitor) (line next : ℕ) (more : List Statement) → is_runnable phrase ≡ true → list_all (λ s. is_askable s.action) more ≡ true
    → list_all (λ s. is_askable s.action) (added (statement_of (action_of phrase otherwise monitor) line next) more) ≡ true
added-askable (Declare variable value) otherwise monitor line next more h rest = rest
added-askable (ChangeVariable variable value) otherwise monitor line next more h rest = rest
added-askable (IfGoto condition label) otherwise monitor line next more h rest = rest
added-askable (IfDo condition) otherwise monitor line next more h rest = rest
added-askable Else otherwise monitor line next more h rest = rest
added-askable (DoWhile condition) otherwise monitor line next more h rest = rest
added-askable EndDo otherwise monitor line next more h rest = rest
added-askable (Goto label) otherwise monitor line next more h rest = rest
added-askable (Monitoring takes label) otherwise monitor line next more h rest = rest
added-askable Return otherwise monitor line next more h rest = rest
added-askable (Request form into) otherwise monitor line next more h rest = and_from (is_askable_form form) (list_all (λ s. is_askable s.action) more) h rest

statements-askable : (written : List Written) (ways : List Way) (labels : Named ℕ) → list_all (λ w. is_runnable w.phrase) written ≡ true
    → list_all (λ s. is_askable s.action) (statements_of written ways labels) ≡ true
statements-askable [] ways labels all = refl
statements-askable (w ∷ ws) [] labels all = refl
statements-askable (w ∷ ws) (way ∷ ways) labels all =
    let parts = and_parts (is_runnable w.phrase) (list_all (λ w. is_runnable w.phrase) ws) all in
    added-askable w.phrase way.otherwise (monitor_of ws labels) w.line way.next (statements_of ws ways labels) parts.0 (statements-askable ws ways labels parts.1)

script-askable : (written : List Written) → list_all (λ w. is_runnable w.phrase) written ≡ true → is_askable_script (script_of written) ≡ true
script-askable written all =
    let total = count_of written in
    let labels = labels_of written total 0 [] in
    statements-askable written (ways_of written labels total []) labels all

-- the script that was built may be run
pub built-askable : (script : Script) (built read : List Written) (texts : List StatementText) (first : Option ℕ) → script ≡ script_of built → built ≡ read → read ≡ statements_from [] texts
    → first ≡ None → first ≡ least (unread_from [] texts) → is_askable_script script ≡ true
built-askable script built read texts first script_is built_is read_is none here =
    let whole : script ≡ script_of (statements_from [] texts) = script_is ∙ ap script_of (built_is ∙ read_is) in
    ap is_askable_script whole ∙ script-askable (statements_from [] texts) (statements-runnable texts [] (least-empty (unread_from [] texts) (sym here ∙ none)))

-- nothing is at fault where each text is read and the builder finds nothing
pub built-sound : (first : Option ℕ) (unread : List ℕ) (built read written : List Written) (line end : ℕ) → first ≡ None → first ≡ least unread → built ≡ read → read ≡ written → line ≡ end
    → faults_of built line ≡ [] → unread ++ faults_of written end ≡ []
built-sound first unread built read written line end none here built_is read_is line_is fine =
    let nothing : unread ≡ [] = least-empty unread (sym here ∙ none) in
    let same : written ≡ built = sym (built_is ∙ read_is) in
    let at : end ≡ line = sym line_is in
    let found : faults_of written end ≡ [] = (λ i. faults_of (same i) (at i)) ∙ fine in
    λ i. nothing i ++ found i

fault-line : (a b : ℕ) → Fault a ≡ Fault b → a ≡ b
fault-line a b is = cc

memory-fault : (line : ℕ) → NoMemory ≡ Fault line → ⊥
memory-fault line is = cc

earlier-line : (first : Option ℕ) (faults : List ℕ) (error : BuildError) → ((line : ℕ) → error ≡ Fault line → least faults ≡ Some line)
    → (line : ℕ) → earlier first error ≡ Fault line → lesser first (least faults) ≡ Some line
earlier-line None faults NoMemory told line is = absurd (memory-fault line is)
earlier-line (Some other) faults NoMemory told line is = absurd (memory-fault line is)
earlier-line None faults (Fault found) told line is = told line is
earlier-line (Some other) faults (Fault found) told line is = ap (lesser (Some other)) (told found refl) ∙ ap Some (fault-line (min other found) line is)

-- the least line at fault
pub built-fault : (first : Option ℕ) (unread : List ℕ) (built read written : List Written) (at end : ℕ) (error : BuildError) → first ≡ least unread → built ≡ read → read ≡ written → at ≡ end
    → ((line : ℕ) → error ≡ Fault line → least (faults_of built at) ≡ Some line) → (line : ℕ) → earlier first error ≡ Fault line → least (unread ++ faults_of written end) ≡ Some line
built-fault first unread built read written at end error here built_is read_is at_is told line is =
    let same : written ≡ built = sym (built_is ∙ read_is) in
    let place : end ≡ at = sym at_is in
    least-append unread (faults_of written end) ∙ (λ i. lesser (sym here i) (least (faults_of (same i) (place i)))) ∙ earlier-line first (faults_of built at) error told line is

pub err-is : (error : BuildError) (line : ℕ) → IsErrOf {T = Script} {E = BuildError} (Err error) (Fault line) → error ≡ Fault line
err-is error line is = cc
