-- Writing the entries of a state one after another, into a frame.
use Rattle.std.proofs.Common.{◌≡◌, ℕ, ◌+◌, ◌≤◌, ◌<◌, List, [], ◌∷◌, ◌++◌, length, get_or, drop, refl, sym, ◌∙◌, ap, subst, arith, append_assoc, length-append}
use Rattle.std.specs.List.{AllByRecursion}
use Rattle.std.proofs.lemmas.List.{append-nil, drop_all, drop_more}
use Rattle.entry_codec.specs.declared.entries.Entry.{Entry}
use Rattle.entry_codec.specs.Spelling.{IsSpelled, spelling}
use Rattle.gated_log.specs.Blocks.{between, frame}
use Rattle.gated_log.proofs.Numbers.{between_is}
use Rattle.checkpoint.specs.States.{spelled}

-- room for the length of a block
abbrev pub four : List ℕ
four = 0 ∷ 0 ∷ 0 ∷ 0 ∷ []

split_at : (state : List Entry) (i : ℕ) (e : Entry) → i < length state → e ≡ get_or state i e → drop i state ≡ e ∷ drop (i + 1) state
split_at state i e below is = drop_more state i e below ∙ ap (λ (x : Entry). x ∷ drop (i + 1) state) (sym is)

pub spelled_next : (state : List Entry) (i : ℕ) (e : Entry) (old new whole : List ℕ) → i < length state → e ≡ get_or state i e → new ≡ old ++ spelling e → old ++ spelled (drop i state) ≡ whole → new ++ spelled (drop (i + 1) state) ≡ whole
spelled_next state i e old new whole below is wrote h =
    ap (λ (l : List ℕ). l ++ spelled (drop (i + 1) state)) wrote ∙ append_assoc old (spelling e) (spelled (drop (i + 1) state)) ∙ ap (λ (l : List Entry). old ++ spelled l) (sym (split_at state i e below is)) ∙ h

pub each_next : (state : List Entry) (i : ℕ) (e : Entry) → i < length state → e ≡ get_or state i e → IsSpelled e → (AllByRecursion IsSpelled (drop i state) → AllByRecursion IsSpelled state) → AllByRecursion IsSpelled (drop (i + 1) state) → AllByRecursion IsSpelled state
each_next state i e below is has h rest = h (subst (λ (l : List Entry). AllByRecursion IsSpelled l) (sym (split_at state i e below is)) (has, rest))

pub each_all : (state : List Entry) (i : ℕ) → length state ≤ i → (AllByRecursion IsSpelled (drop i state) → AllByRecursion IsSpelled state) → AllByRecursion IsSpelled state
each_all state i past h = h (subst (λ (l : List Entry). AllByRecursion IsSpelled l) (sym (drop_all i state past)) tt)

-- all of them, with room for a closed gate behind them
pub spelled_all : (state : List Entry) (i : ℕ) (framed pushed : List ℕ) → length state ≤ i → framed ++ spelled (drop i state) ≡ four ++ spelled state → pushed ≡ framed ++ 0 ∷ [] → pushed ≡ four ++ spelled state ++ 0 ∷ []
spelled_all state i framed pushed past h push =
    push ∙ ap (λ (l : List ℕ). l ++ 0 ∷ []) (sym (append-nil framed) ∙ ap (λ (l : List Entry). framed ++ spelled l) (sym (drop_all i state past)) ∙ h)

pub spelled_size : (state : List Entry) (pushed : List ℕ) → pushed ≡ four ++ spelled state ++ 0 ∷ [] → length pushed ≡ 5 + length (spelled state)
spelled_size state pushed is = omega (arith, ap (λ (l : List ℕ). length l) is, length-append (four ++ spelled state) (0 ∷ []), length-append four (spelled state))

pub spelled_frame : (state : List Entry) (pushed : List ℕ) → pushed ≡ four ++ spelled state ++ 0 ∷ [] → frame (between pushed) ≡ frame (spelled state)
spelled_frame state pushed is = ap (λ (l : List ℕ). frame (between l)) is ∙ ap (λ (l : List ℕ). frame l) (between_is four (spelled state) 0 refl)
