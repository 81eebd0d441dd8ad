-- Without names and ELSEs, only the plain rules find faults.
use Rattle.std.proofs.Common.{◌≡◌, ℕ, Bool, false, Option, Some, None, List, [], ◌∷◌, ◌++◌, refl, ap, ◌∙◌}
use Rattle.std.specs.Prelude.{◌&&◌, ◌||◌, not}
use Rattle.std.specs.Option.{is_some}
use Rattle.std.specs.List.{list_any}
use Rattle.std.proofs.lemmas.Bool.{or_parts}
use Rattle.std.proofs.lemmas.List.{append-nil}
use Rattle.library_model.specs.Named.{Named}
use Rattle.statement_syntax.specs.declared.Written.{Written}
use Rattle.script_builder.specs.declared.phrases.Block.{Block}
use Rattle.script_builder.specs.Phrases.{nesting_of, target_of, variable_of, is_else}
use Rattle.script_builder.specs.Nestings.{blocks_after, closes_then}
use Rattle.script_builder.specs.Ways.{count_of, labels_of}
use Rattle.script_builder.specs.Faults.{noted, with_name, stray_elses, variables_of, labelled_lines, repeated, is_missing, missing_labels, takes_memory, plain_faults, faults_of}

nothing : {A : Type 0} (o : Option A) → is_some o ≡ false → o ≡ None
nothing None none = refl
nothing (Some x) none = absurd cc

-- what such a statement lacks
record Plain (w : Written) : Type 0 where
  label : w.label ≡ None
  target : target_of w.phrase ≡ None
  variable : variable_of w.phrase ≡ None
  no_else : is_else w.phrase ≡ false

plain_from : (w : Written) → takes_memory w ≡ false → Plain w
plain_from w none =
    let named = is_some w.label || is_some (target_of w.phrase) in
    let parts = or_parts (named || is_some (variable_of w.phrase)) (is_else w.phrase) none in
    let names = or_parts named (is_some (variable_of w.phrase)) parts.0 in
    let labels = or_parts (is_some w.label) (is_some (target_of w.phrase)) names.0 in
    record {
      label = nothing w.label labels.0;
      target = nothing (target_of w.phrase) labels.1;
      variable = nothing (variable_of w.phrase) names.1;
      no_else = parts.1;
    }

stray_elses-none : (ws : List Written) (blocks : List Block) (after_then : Bool) → list_any takes_memory ws ≡ false → stray_elses ws blocks after_then ≡ []
stray_elses-none [] blocks after_then none = refl
stray_elses-none (w ∷ ws) blocks after_then none =
    let parts = or_parts (takes_memory w) (list_any takes_memory ws) none in
    let plain = plain_from w parts.0 in
    let nesting = nesting_of w.phrase in
    ap (λ b. noted (b && not after_then) w.line (stray_elses ws (blocks_after blocks nesting) (closes_then blocks nesting))) plain.no_else
    ∙ stray_elses-none ws (blocks_after blocks nesting) (closes_then blocks nesting) parts.1

variables_of-none : (ws : List Written) → list_any takes_memory ws ≡ false → variables_of ws ≡ []
variables_of-none [] none = refl
variables_of-none (w ∷ ws) none =
    let parts = or_parts (takes_memory w) (list_any takes_memory ws) none in
    let plain = plain_from w parts.0 in
    ap (λ name. with_name name w.line (variables_of ws)) plain.variable ∙ variables_of-none ws parts.1

labelled_lines-none : (ws : List Written) → list_any takes_memory ws ≡ false → labelled_lines ws ≡ []
labelled_lines-none [] none = refl
labelled_lines-none (w ∷ ws) none =
    let parts = or_parts (takes_memory w) (list_any takes_memory ws) none in
    let plain = plain_from w parts.0 in
    ap (λ name. with_name name w.line (labelled_lines ws)) plain.label ∙ labelled_lines-none ws parts.1

missing_labels-none : (ws : List Written) (labels : Named ℕ) → list_any takes_memory ws ≡ false → missing_labels ws labels ≡ []
missing_labels-none [] labels none = refl
missing_labels-none (w ∷ ws) labels none =
    let parts = or_parts (takes_memory w) (list_any takes_memory ws) none in
    let plain = plain_from w parts.0 in
    ap (λ target. noted (is_missing target labels) w.line (missing_labels ws labels)) plain.target ∙ missing_labels-none ws labels parts.1

pub faults_of-plain : (ws : List Written) (end : ℕ) → list_any takes_memory ws ≡ false → faults_of ws end ≡ plain_faults ws end
faults_of-plain ws end none =
    let plain = plain_faults ws end in
    ap (λ e. plain ++ e ++ repeated (variables_of ws) [] ++ repeated (labelled_lines ws) [] ++ missing_labels ws (labels_of ws (count_of ws) 0 [])) (stray_elses-none ws [] false none)
    ∙ ap (λ v. plain ++ [] ++ repeated v [] ++ repeated (labelled_lines ws) [] ++ missing_labels ws (labels_of ws (count_of ws) 0 [])) (variables_of-none ws none)
    ∙ ap (λ l. plain ++ [] ++ [] ++ repeated l [] ++ missing_labels ws (labels_of ws (count_of ws) 0 [])) (labelled_lines-none ws none)
    ∙ ap (λ m. plain ++ [] ++ [] ++ [] ++ m) (missing_labels-none ws (labels_of ws (count_of ws) 0 []) none)
    ∙ append-nil (plain ++ [] ++ [] ++ [])
    ∙ append-nil (plain ++ [] ++ [])
    ∙ append-nil (plain ++ [])
    ∙ append-nil plain
