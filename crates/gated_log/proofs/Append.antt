-- What the two steps of an append leave, on bytes.
use Rattle.std.proofs.Common.{◌≡◌, ◌≢◌, inl, inr, ℕ, ◌+◌, ◌^◌, ◌<◌, ◌≤◌, min, List, [], ◌∷◌, ◌++◌, length, get_or, take, drop, refl, sym, ◌∙◌, ap, subst, arith, append_assoc, length-append, take-append-drop}
use Rattle.std.proofs.lemmas.List.{take_at, drop_at, drop_more}
use Rattle.std.proofs.lemmas.Bool.{cases_eq}
use Rattle.store_model.specs.Disk.{Torn, written}
use Rattle.gated_log.specs.Blocks.{header, block_bytes, Spells, extent, sizes}
use Rattle.gated_log.specs.Log.{IsWithOrWithout}
use Rattle.gated_log.specs.Steps.{KeepsFront}
use Rattle.gated_log.proofs.Blocks.{front_of, opens-push}
use Rattle.gated_log.proofs.Numbers.{length-header}

-- a gate, a block behind it and a closed gate
abbrev pub after_gate : ℕ → List ℕ → List ℕ → List ℕ
after_gate gate block other = gate ∷ (block_bytes block ++ 0 ∷ other)

-- an area's bytes up to the closed gate, behind which anything may stand
pub record Upto (area first version : ℕ) (blocks : List (List ℕ)) (bytes : List ℕ) (gate : ℕ) : Type 0 where
  pub front : List ℕ
  pub rest : List ℕ
  pub whole : bytes ≡ front ++ 0 ∷ rest
  pub size : length front ≡ gate
  pub without : (other : List ℕ) → Spells area first version blocks (front ++ 0 ∷ other)
  pub with_one : (block other : List ℕ) (open_gate : ℕ) → open_gate ≢ 0 → length block < 2 ^ 32 → Spells area first version (blocks ++ block ∷ []) (front ++ after_gate open_gate block other)

pub upto : (area first version : ℕ) (blocks : List (List ℕ)) (bytes : List ℕ) (gate : ℕ) → Spells area first version blocks bytes → gate ≡ 32 + extent (sizes blocks) → Upto area first version blocks bytes gate
upto area first version blocks bytes gate spells is =
    let part = front_of blocks spells.body (0 ∷ spells.rest) spells.opens in
    record {
      front = header area first version ++ part.front;
      rest = spells.rest;
      whole = spells.header ∙ ap (λ (l : List ℕ). header area first version ++ l) part.whole ∙ sym (append_assoc (header area first version) part.front (0 ∷ spells.rest));
      size = omega (arith, length-append (header area first version) part.front, length-header area first version, part.size);
      without = λ other. record {
        may_begin = spells.may_begin;
        body = part.front ++ 0 ∷ other;
        rest = other;
        header = append_assoc (header area first version) part.front (0 ∷ other);
        opens = part.opens (0 ∷ other);
      };
      with_one = λ block other open_gate opened small. record {
        may_begin = spells.may_begin;
        body = part.front ++ after_gate open_gate block other;
        rest = other;
        header = append_assoc (header area first version) part.front (after_gate open_gate block other);
        opens = opens-push blocks block (part.front ++ after_gate open_gate block other) (after_gate open_gate block other) (0 ∷ other) open_gate (part.opens (after_gate open_gate block other)) opened small refl;
      };
    }

module _ (area first version gate : ℕ) (blocks : List (List ℕ)) (block bytes : List ℕ) (at : Upto area first version blocks bytes gate) (small : length block < 2 ^ 32) where
  pub gate_within : gate + 1 ≤ length bytes
  gate_within = omega (arith, ap length at.whole, length-append at.front (0 ∷ at.rest), at.size)

  -- the bytes up to the gate's end
  closed : take (gate + 1) bytes ≡ at.front ++ 0 ∷ []
  closed =
      ap (λ (l : List ℕ). take (gate + 1) l) (at.whole ∙ sym (append_assoc at.front (0 ∷ []) at.rest))
      ∙ take_at (at.front ++ 0 ∷ []) at.rest (gate + 1) (omega (arith, length-append at.front (0 ∷ []), at.size))

  -- as long as those stay, the list does
  pub front_keeps : (new : List ℕ) → KeepsFront (gate + 1) bytes new → Spells area first version blocks new
  front_keeps new keeps =
      let whole : new ≡ at.front ++ 0 ∷ drop (gate + 1) new =
      sym (take-append-drop (gate + 1) new) ∙ ap (λ (l : List ℕ). l ++ drop (gate + 1) new) ((keeps gate_within).1 ∙ closed) ∙ append_assoc at.front (0 ∷ []) (drop (gate + 1) new) in
      subst (λ (l : List ℕ). Spells area first version blocks l) (sym whole) (at.without (drop (gate + 1) new))

  module _ (new rest : List ℕ) (staged : new ≡ take (gate + 1) bytes ++ block_bytes block ++ 0 ∷ rest) where
    staged_is : new ≡ at.front ++ after_gate 0 block rest
    staged_is =
        staged ∙ ap (λ (l : List ℕ). (l ++ block_bytes block) ++ 0 ∷ rest) closed
        ∙ append_assoc (at.front ++ 0 ∷ []) (block_bytes block) (0 ∷ rest) ∙ append_assoc at.front (0 ∷ []) (block_bytes block ++ 0 ∷ rest)

    pub staged_size : gate + 1 ≤ length new
    staged_size = omega (arith, ap length staged_is, length-append at.front (after_gate 0 block rest), at.size)

    -- behind any gate the list is that with the block or without it
    any_gate : (g : ℕ) → IsWithOrWithout area first version blocks block (at.front ++ after_gate g block rest)
    any_gate g = elim (cases_eq g 0) [
      | inl shut ↦ inl (subst (λ (n : ℕ). Spells area first version blocks (at.front ++ after_gate n block rest)) (sym shut) (at.without (block_bytes block ++ 0 ∷ rest)))
      | inr opened ↦ inr (at.with_one block rest g opened small)
    ]

    behind : drop (gate + 1) new ≡ block_bytes block ++ 0 ∷ rest
    behind =
        ap (λ (l : List ℕ). drop (gate + 1) l) (staged_is ∙ sym (append_assoc at.front (0 ∷ []) (block_bytes block ++ 0 ∷ rest)))
        ∙ drop_at (at.front ++ 0 ∷ []) (block_bytes block ++ 0 ∷ rest) (gate + 1) (omega (arith, length-append at.front (0 ∷ []), at.size))

    before : take gate new ≡ at.front
    before = ap (λ (l : List ℕ). take gate l) staged_is ∙ take_at at.front (after_gate 0 block rest) gate at.size

    pub torn_gate : (c : List ℕ) → Torn gate 1 new c → IsWithOrWithout area first version blocks block c
    torn_gate c torn =
        let least : min gate (length new) ≡ gate = omega (arith, staged_size) in
        let kept : take gate c ≡ at.front = subst (λ (n : ℕ). take n c ≡ take n new) least torn.before ∙ before in
        let gate_is : drop gate c ≡ after_gate (get_or c gate 0) block rest = drop_more c gate 0 (omega (arith, torn.no_shorter, staged_size)) ∙ ap (λ (l : List ℕ). get_or c gate 0 ∷ l) (torn.after ∙ behind) in
        let parts : c ≡ at.front ++ after_gate (get_or c gate 0) block rest =
        sym (take-append-drop gate c) ∙ ap (λ (l : List ℕ). l ++ drop gate c) kept ∙ ap (λ (l : List ℕ). at.front ++ l) gate_is in
        subst (λ (l : List ℕ). IsWithOrWithout area first version blocks block l) (sym parts) (any_gate (get_or c gate 0))

    pub opened_gate : (c : List ℕ) → c ≡ written gate (1 ∷ []) new → Spells area first version (blocks ++ block ∷ []) c
    opened_gate c is =
        let whole : c ≡ at.front ++ after_gate 1 block rest =
        is ∙ ap (λ (l : List ℕ). (l ++ 1 ∷ []) ++ drop (gate + 1) new) before ∙ ap (λ (l : List ℕ). (at.front ++ 1 ∷ []) ++ l) behind ∙ append_assoc at.front (1 ∷ []) (block_bytes block ++ 0 ∷ rest) in
        subst (λ (l : List ℕ). Spells area first version (blocks ++ block ∷ []) l) (sym whole) (at.with_one block rest 1 (omega arith) small)
