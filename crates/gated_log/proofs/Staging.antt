-- Writes that follow one another on the log's area.
use Rattle.std.proofs.Common.{◌≡◌, ℕ, ◌+◌, ◌≤◌, min, max, List, [], ◌∷◌, ◌++◌, length, take, drop, sym, ◌∙◌, ap, arith, append_assoc, length-take}
use Rattle.std.proofs.lemmas.List.{take-take}
use Rattle.store_model.specs.Disk.{Cut, Disk, Does, Torn, written}
use Rattle.store_model.proofs.Runs.{weaken, then_does}
use Rattle.gated_log.specs.Log.{Anything}
use Rattle.gated_log.specs.Blocks.{block_bytes, frame}
use Rattle.gated_log.specs.Steps.{IsNoLonger, IsStaged, KeepsFront}

torn_keeps : (at place n : ℕ) (old new : List ℕ) → at ≤ place → Torn place n old new → KeepsFront at old new
torn_keeps at place n old new le torn = λ within.
    let j = min place (length old) in
    let inside : at ≤ j = omega arith in (
      omega (arith, torn.no_shorter),
      sym (take-take at j new inside) ∙ ap (λ (l : List ℕ). take at l) torn.before ∙ take-take at j old inside,
    )

keeps_trans : (at : ℕ) (a b c : List ℕ) → KeepsFront at a b → KeepsFront at b c → KeepsFront at a c
keeps_trans at a b c first second = λ within. let one = first within in let two = second one.0 in (two.0, two.1 ∙ one.1)

pub keep_first : (area at place n : ℕ) (a b : Disk) → Does area (Torn place n) a b → at ≤ place → Does area (KeepsFront at) a b
keep_first area at place n a b does le =
    weaken area (Torn place n) a b does (λ _. Unit {0}) (KeepsFront at) (λ d may. tt) (λ old new w torn. torn_keeps at place n old new le torn)

pub keep_more : (area at place n : ℕ) (a b c : Disk) → Does area (KeepsFront at) a b → Does area (Torn place n) b c → at ≤ place → Does area (KeepsFront at) a c
keep_more area at place n a b c first next le =
    then_does area (KeepsFront at) a b first (Torn place n) c (λ _. Unit {0}) (KeepsFront at) next (λ d may. tt) (λ old new keeps. keeps)
    (λ old mid new keeps w torn. keeps_trans at old mid new keeps (torn_keeps at place n mid new le torn))

pub any_first : (area : ℕ) (P : List ℕ → List ℕ → Type 0) (a b : Disk) → Does area P a b → Does area Anything a b
any_first area P a b does = weaken area P a b does (λ _. Unit {0}) Anything (λ d may. tt) (λ old new w p. tt)

pub any_more : (area : ℕ) (P : List ℕ → List ℕ → Type 0) (a b c : Disk) → Does area Anything a b → Does area P b c → Does area Anything a c
any_more area P a b c first next =
    then_does area Anything a b first P c (λ _. Unit {0}) Anything next (λ d may. tt) (λ old new p. tt) (λ old mid new p w q. tt)

-- a cut makes nothing longer, nor does a write of so many bytes at the front
pub cut_no_longer : (area n : ℕ) (a b : Disk) → Does area (Cut n) a b → Does area IsNoLonger a b
cut_no_longer area n a b does =
    weaken area (Cut n) a b does (λ _. Unit {0}) IsNoLonger (λ d may. tt) (λ old new w cut. omega (arith, ap length cut.front, length-take (length new) old))

pub write_no_longer : (area n : ℕ) (a b c : Disk) → n ≤ 33 → Does area IsNoLonger a b → Does area (Torn 0 n) b c → Does area IsNoLonger a c
write_no_longer area n a b c small first next =
    then_does area IsNoLonger a b first (Torn 0 n) c (λ _. Unit {0}) IsNoLonger next (λ d may. tt) (λ old new short. short)
    (λ old mid new short w torn. omega (arith, short, torn.no_longer, small))

-- a block in its frame
pub staged : (at : ℕ) (block framed old new : List ℕ) → framed ≡ frame block → new ≡ written at framed old → IsStaged at block old new
staged at block framed old new is wrote =
    let rest = drop (at + length framed) old in (
      rest,
      wrote ∙ ap (λ (l : List ℕ). (take at old ++ l) ++ rest) is ∙ ap (λ (l : List ℕ). l ++ rest) (sym (append_assoc (take at old) (block_bytes block) (0 ∷ [])))
          ∙ append_assoc (take at old ++ block_bytes block) (0 ∷ []) rest,
    )
