-- What was read with what is still to be read stays the same when one statement more is read.
use Rattle.std.proofs.Common.{◌≡◌, ℕ, Bool, true, false, not, Option, Some, None, List, [], ◌∷◌, ◌++◌, refl, sym, ap, ◌∙◌, arith, append_assoc, Ok, Err}
use Rattle.std.specs.Prelude.{min, Result, OnOk}
use Rattle.std.proofs.lemmas.List.{append-nil}
use Rattle.statement_syntax.specs.declared.Written.{Written}
use Rattle.statement_reader.specs.declared.reading.Said.{Said}
use Rattle.script_builder.specs.Least.{least, lesser}
use Rattle.script_builder.specs.Faults.{noted}
use Rattle.text_lines.specs.Lines.{lines_of}
use Rattle.job_statements.specs.Texts.{Begun, StatementText, text_at, texts_from, unfinished}
use Rattle.job_statements.specs.Reading.{said_in, declared_after, written_as, is_read, statements_from, unread_from, statements_ahead, unread_ahead}

pub lesser_assoc : (a b c : Option ℕ) → lesser (lesser a b) c ≡ lesser a (lesser b c)
lesser_assoc None b c = refl
lesser_assoc (Some a) None c = refl
lesser_assoc (Some a) (Some b) None = refl
lesser_assoc (Some a) (Some b) (Some c) = let same : min (min a b) c ≡ min a (min b c) = omega arith in ap (λ n. Some n) same

pub lesser-none : (a : Option ℕ) → lesser a None ≡ a
lesser-none None = refl
lesser-none (Some a) = refl

pub least-append : (xs ys : List ℕ) → least (xs ++ ys) ≡ lesser (least xs) (least ys)
least-append [] ys = refl
least-append (x ∷ xs) ys = ap (lesser (Some x)) (least-append xs ys) ∙ sym (lesser_assoc (Some x) (least xs) (least ys))

lesser-some : (x : ℕ) (b : Option ℕ) → lesser (Some x) b ≡ None → ⊥
lesser-some x None is = cc
lesser-some x (Some y) is = cc

-- what has no least is empty
pub least-empty : (xs : List ℕ) → least xs ≡ None → xs ≡ []
least-empty [] is = refl
least-empty (x ∷ xs) is = absurd (lesser-some x (least xs) is)

noted-more : (first : Option ℕ) (fault : Bool) (line : ℕ) (lines : List ℕ) → lesser (lesser first (least (noted fault line []))) (least lines) ≡ lesser first (least (noted fault line lines))
noted-more first true line lines = lesser_assoc first (Some line) (least lines)
noted-more first false line lines = ap (λ a. lesser a (least lines)) (lesser-none first)

statements-more : (written : List Written) (variables : List (List ℕ)) (line : ℕ) (text : List ℕ) (whole : Bool) (texts : List StatementText)
    → (written ++ written_as line text (said_in variables whole text) ∷ []) ++ statements_from (declared_after variables (said_in variables whole text)) texts
    ≡ written ++ statements_from variables (text_at line text whole ∷ texts)
unfolding statements_from
statements-more written variables line text whole texts =
    append_assoc written (written_as line text (said_in variables whole text) ∷ []) (statements_from (declared_after variables (said_in variables whole text)) texts)

pub statements-read : (written after : List Written) (variables declared : List (List ℕ)) (line : ℕ) (text : List ℕ) (whole : Bool) (said : Option Said) (statement : Written)
    → said ≡ said_in variables whole text → declared ≡ declared_after variables said → statement ≡ written_as line text said → after ≡ written ++ statement ∷ []
    → (texts : List StatementText) → statements_ahead after declared texts ≡ statements_ahead written variables (text_at line text whole ∷ texts)
statements-read written after variables declared line text whole said statement said_is declared_is statement_is after_is texts =
    let now : declared ≡ declared_after variables (said_in variables whole text) = declared_is ∙ ap (declared_after variables) said_is in
    let one : statement ≡ written_as line text (said_in variables whole text) = statement_is ∙ ap (written_as line text) said_is in
    let more : after ≡ written ++ written_as line text (said_in variables whole text) ∷ [] = after_is ∙ ap (λ w. written ++ w ∷ []) one in
    (λ i. more i ++ statements_from (now i) texts) ∙ statements-more written variables line text whole texts

unread-more : (first : Option ℕ) (variables : List (List ℕ)) (line : ℕ) (text : List ℕ) (whole : Bool) (texts : List StatementText)
    → lesser (lesser first (least (noted (not (is_read (said_in variables whole text))) line []))) (least (unread_from (declared_after variables (said_in variables whole text)) texts))
    ≡ lesser first (least (unread_from variables (text_at line text whole ∷ texts)))
unfolding unread_from
unread-more first variables line text whole texts =
    noted-more first (not (is_read (said_in variables whole text))) line (unread_from (declared_after variables (said_in variables whole text)) texts)

pub unread-read : (first after : Option ℕ) (variables declared : List (List ℕ)) (line : ℕ) (text : List ℕ) (whole : Bool) (said : Option Said) (read : Bool)
    → said ≡ said_in variables whole text → declared ≡ declared_after variables said → read ≡ is_read said → after ≡ lesser first (least (noted (not read) line []))
    → (texts : List StatementText) → unread_ahead after declared texts ≡ unread_ahead first variables (text_at line text whole ∷ texts)
unread-read first after variables declared line text whole said read said_is declared_is read_is after_is texts =
    let now : declared ≡ declared_after variables (said_in variables whole text) = declared_is ∙ ap (declared_after variables) said_is in
    let one : read ≡ is_read (said_in variables whole text) = read_is ∙ ap is_read said_is in
    let more : after ≡ lesser first (least (noted (not (is_read (said_in variables whole text))) line [])) = after_is ∙ ap (λ r. lesser first (least (noted (not r) line []))) one in
    (λ i. lesser (more i) (least (unread_from (now i) texts))) ∙ unread-more first variables line text whole texts

-- what was read at the end is all
pub statements-all : (written last : List Written) (variables declared : List (List ℕ)) (begun : Option Begun) (number : ℕ) (rest : List ℕ) (all : List Written) → rest ≡ []
    → statements_ahead last declared [] ≡ statements_ahead written variables (unfinished begun) → statements_ahead written variables (texts_from begun number (lines_of rest)) ≡ all
    → last ≡ all
unfolding statements_from texts_from
statements-all written last variables declared begun number rest all none here before =
    sym (append-nil last) ∙ here ∙ ap (λ r. written ++ statements_from variables (texts_from begun number (lines_of r))) (sym none) ∙ before

pub unread-all : (first last : Option ℕ) (variables declared : List (List ℕ)) (begun : Option Begun) (number : ℕ) (rest : List ℕ) (all : Option ℕ) → rest ≡ []
    → unread_ahead last declared [] ≡ unread_ahead first variables (unfinished begun) → unread_ahead first variables (texts_from begun number (lines_of rest)) ≡ all
    → last ≡ all
unfolding unread_from texts_from
unread-all first last variables declared begun number rest all none here before =
    sym (lesser-none last) ∙ here ∙ ap (λ r. lesser first (least (unread_from variables (texts_from begun number (lines_of r))))) (sym none) ∙ before

pub on_ok-map : {T E P Q : Type 0} (r : Result T E) → OnOk r P → (P → Q) → OnOk r Q
on_ok-map (Ok x) p f = f p
on_ok-map (Err e) p f = tt

pub on_ok-both : {T E P Q R : Type 0} (r : Result T E) → OnOk r P → OnOk r Q → (P → Q → R) → OnOk r R
on_ok-both (Ok x) p q f = f p q
on_ok-both (Err e) p q f = tt
