-- Which lines of a job's statements are at fault: rules, of which each stands by itself. (CL programs: DCL, labels, MONMSG, DO groups.)
use Rattle.std.specs.Prelude.{◌≡◌, ◌⊎◌, IsTrue, ℕ, Bool, true, false, ◌&&◌, ◌||◌, not, nat_lt, Option, Some, None, List, [], ◌∷◌, ◌++◌}
use Rattle.std.specs.List.{list_any}
use Rattle.std.specs.Option.{is_some, is_none}
use Rattle.library_model.specs.Named.{Named, named}
use Rattle.statement_syntax.specs.declared.Written.{Written}
use Rattle.script_builder.specs.declared.phrases.Block.{Block}
use Rattle.script_builder.specs.Phrases.{nesting_of, target_of, variable_of, is_declaration, is_else, is_monitor, is_request}
use Rattle.script_builder.specs.Nestings.{depth_after, closes_none, blocks_after, closes_then, depth_behind}
use Rattle.script_builder.specs.Ways.{count_of, with_new, labels_of}

-- a line where it is at fault, before others
abbrev pub noted : Bool → ℕ → List ℕ → List ℕ
noted true line lines = line ∷ lines
noted false line lines = lines

-- a DCL after a statement of another kind
abbrev pub late_declarations : List Written → Bool → List ℕ
late_declarations [] begun = []
late_declarations (w ∷ ws) begun =
    let declares = is_declaration w.phrase in
    noted (begun && declares) w.line (late_declarations ws (begun || not declares))

-- a MONMSG that doesn't stand directly after a request
abbrev pub stray_monitors : List Written → Bool → List ℕ
stray_monitors [] after_request = []
stray_monitors (w ∷ ws) after_request =
    noted (is_monitor w.phrase && not after_request) w.line (stray_monitors ws (is_request w.phrase))

-- an ENDDO without an open block
abbrev pub stray_ends : List Written → ℕ → List ℕ
stray_ends [] depth = []
stray_ends (w ∷ ws) depth =
    let nesting = nesting_of w.phrase in
    noted (closes_none depth nesting) w.line (stray_ends ws (depth_after depth nesting))

-- a label inside a block
abbrev pub labels_inside : List Written → ℕ → List ℕ
labels_inside [] depth = []
labels_inside (w ∷ ws) depth =
    noted (is_some w.label && nat_lt 0 depth) w.line (labels_inside ws (depth_after depth (nesting_of w.phrase)))

-- a block that is still open at the end
abbrev pub open_at_end : List Written → ℕ → List ℕ
open_at_end written end = noted (nat_lt 0 (depth_behind written 0)) end []

-- an ELSE that doesn't stand directly after the ENDDO of an IF
abbrev pub stray_elses : List Written → List Block → Bool → List ℕ
stray_elses [] blocks after_then = []
stray_elses (w ∷ ws) blocks after_then =
    let nesting = nesting_of w.phrase in
    noted (is_else w.phrase && not after_then) w.line (stray_elses ws (blocks_after blocks nesting) (closes_then blocks nesting))

abbrev pub with_name : Option (List ℕ) → ℕ → Named ℕ → Named ℕ
with_name None line names = names
with_name (Some name) line names = (name, line) ∷ names

-- the variables that are declared, and the labels, each with its line
abbrev pub variables_of : List Written → Named ℕ
variables_of [] = []
variables_of (w ∷ ws) = with_name (variable_of w.phrase) w.line (variables_of ws)

abbrev pub labelled_lines : List Written → Named ℕ
labelled_lines [] = []
labelled_lines (w ∷ ws) = with_name w.label w.line (labelled_lines ws)

-- a name that an earlier line has
abbrev pub repeated : Named ℕ → Named ℕ → List ℕ
repeated [] earlier = []
repeated (n ∷ names) earlier = noted (is_some (named n.0 earlier)) n.1 (repeated names (with_new n.0 n.1 earlier))

abbrev pub is_missing : Option (List ℕ) → Named ℕ → Bool
is_missing None labels = false
is_missing (Some label) labels = is_none (named label labels)

-- a statement that goes to a label which stands nowhere outside blocks
abbrev pub missing_labels : List Written → Named ℕ → List ℕ
missing_labels [] labels = []
missing_labels (w ∷ ws) labels = noted (is_missing (target_of w.phrase) labels) w.line (missing_labels ws labels)

-- a statement with a name, or an ELSE: whether its line is at fault takes memory to notice
abbrev pub takes_memory : Written → Bool
takes_memory w = is_some w.label || is_some (target_of w.phrase) || is_some (variable_of w.phrase) || is_else w.phrase

-- the faults that are noticed without memory
abbrev pub plain_faults : List Written → ℕ → List ℕ
plain_faults written end =
    late_declarations written false ++ stray_monitors written false ++ stray_ends written 0 ++ labels_inside written 0 ++ open_at_end written end

-- the lines at fault, where the job's statements end at the line `end`
abbrev pub faults_of : List Written → ℕ → List ℕ
faults_of written end =
    plain_faults written end ++ stray_elses written [] false ++ repeated (variables_of written) [] ++ repeated (labelled_lines written) []
    ++ missing_labels written (labels_of written (count_of written) 0 [])

-- there is no fault that is noticed without memory, or it takes memory to notice whether one comes before it
abbrev pub TakesMemory : List Written → ℕ → Type 0
TakesMemory written end = (plain_faults written end ≡ []) ⊎ IsTrue (list_any takes_memory written)
