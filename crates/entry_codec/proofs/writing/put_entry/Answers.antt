use Rattle.std.proofs.Common.{◌≡◌, ℕ, ◌+◌, List, ◌++◌, length, ap, ◌∙◌, arith, append_assoc, length-append}
use Rattle.entry_codec.specs.Spelling.{number4, head, body, content}
use Rattle.entry_codec.proofs.FieldLemmas.{length-number4}
use Rattle.entry_codec.proofs.Lengths.{length-head, length-content, length-spelling}
use Rattle.entry_codec.proofs.writing.put_entry.Goals as goal

pub put_bytes-requires : goal.put_bytes-requires
put_bytes-requires c =
    let e = c.args.e.now in
    let front : length c.as_slice.result.now ≡ length (number4 (45 + c.body_length.result) ++ head e) = ap length (c.as_slice.ensures ∙ c.of-front.ensures.written) in
    omega (arith, front, length-append (number4 (45 + c.body_length.result)) (head e), length-number4 (45 + c.body_length.result), length-head e, length-spelling e, length-content e, c.requires.room)

pub put_body-requires-clause-room : goal.put_body-requires-clause-room
put_body-requires-clause-room c =
    let e = c.args.e.now in
    let front : length c.as_slice.result.now ≡ length (number4 (45 + c.body_length.result) ++ head e) = ap length (c.as_slice.ensures ∙ c.of-front.ensures.written) in
    omega (arith, front, length-append (number4 (45 + c.body_length.result)) (head e), length-number4 (45 + c.body_length.result), length-head e, length-spelling e, length-content e, c.requires.room, c.put_bytes.ensures.len, c.put_bytes.ensures.capacity)

regroup : (out a b c : List ℕ) → (out ++ (a ++ b)) ++ c ≡ out ++ (a ++ (b ++ c))
regroup out a b c = simp append_assoc

pub returns-clause-written : goal.returns-clause-written
returns-clause-written c =
    let e = c.args.e.now in
    let out = c.args.out.now.items in
    let long : 45 + c.body_length.result ≡ length (content e) = omega (arith, length-content e, c.body_length.ensures) in
    let front = c.as_slice.ensures ∙ c.of-front.ensures.written in
    let count : length c.as_slice.result.now ≡ length (number4 (45 + c.body_length.result) ++ head e) = ap length front in
    record {
      items =
          c.put_body.ensures.written.items
          ∙ ap (λ (x : List ℕ). x ++ body e.kind) (c.put_bytes.ensures.items ∙ ap (λ (x : List ℕ). out ++ x) front)
          ∙ ap (λ (n : ℕ). (out ++ (number4 n ++ head e)) ++ body e.kind) long
          ∙ regroup out (number4 (length (content e))) (head e) (body e.kind);
      len = omega (arith, count, length-append (number4 (45 + c.body_length.result)) (head e), length-number4 (45 + c.body_length.result), length-spelling e, length-content e, length-head e, c.put_bytes.ensures.len, c.put_body.ensures.written.len);
      capacity = omega (arith, c.put_bytes.ensures.capacity, c.put_body.ensures.written.capacity);
    }
