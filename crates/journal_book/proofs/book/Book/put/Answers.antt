use Rattle.std.proofs.Common.{◌≡◌, ◌+◌, ◌-◌, ◌^◌, ◌≤◌, ◌++◌, ℕ, List, length, drop, ap, subst, sym, ◌∙◌, arith, length-append, vec_len, vec_capacity}
use Rattle.entry_codec.specs.Spelling.{spelling}
use Rattle.journal_book.specs.Book.{BookState, IsBuffer}
use Rattle.journal_book.proofs.Deposits.{buffer-push, on_ok, put_behind}
use Rattle.journal_book.proofs.book.Book.put.Goals as goal

pub invariant_of-self : goal.invariant_of-self
invariant_of-self c =
    let e = c.args.entry.now in
    let inside = c.self.inside in
    let kept = c.self.invariant in
    let written = on_ok c.write_entry.result c.unwrap.result c.unwrap.ensures c.write_entry.ensures.written in
    let len = on_ok c.write_entry.result c.unwrap.result c.unwrap.ensures c.write_entry.ensures.len in
    let has = on_ok c.write_entry.result c.unwrap.result c.unwrap.ensures c.write_entry.ensures.spelled in
    let room : length (spelling e) ≤ vec_capacity inside.framed - (vec_len inside.framed + 1) = subst (λ (n : ℕ). length (spelling e) ≤ n) (sym (ap (λ (b : BookState). b.bytes) c.self.view_is)) c.requires.room in
    let few = subst (λ (b : BookState). b.first + (b.forced + b.waiting) - 1 ≤ 2 ^ 63) (sym c.self.view_is) c.requires.few in
    let whole : drop 4 c.write_entry.new.out.items ≡ drop 4 inside.framed.items ++ spelling e = ap (λ (l : List ℕ). drop 4 l) written ∙ put_behind inside.framed.items (spelling e) kept.0 in (
      omega (arith, kept.0, ap length written, length-append inside.framed.items (spelling e)),
      omega (arith, kept.1, len),
      omega (arith, kept.2, len, room, c.write_entry.ensures.capacity),
      kept.3,
      omega (arith, few),
      subst (λ (l : List ℕ). IsBuffer l (inside.waiting + 1)) (sym whole) (buffer-push (drop 4 inside.framed.items) inside.waiting e kept.5 has c.requires.no_end),
    )
