use Rattle.std.proofs.Common.{sym, ◌∙◌, ℕ, ◌+◌, ◌-◌, List, drop, ap, take, arith}
use Rattle.store_model.proofs.Pieces.{read_front}
use Rattle.store_model.proofs.memory_source.MemorySourceSource.read.Goals as goal

pub returns-clause-taken : goal.returns-clause-taken
returns-clause-taken c =
    let ok = c.self.inside.bytes.ok.0 in
    let piece = c.copy_from_slice.ensures.after ∙ ap (λ (l : List ℕ). take (c.self.inside.place + c.min-count.result - c.self.inside.place) (drop c.self.inside.place l)) c.deref.ensures.value in
    sym (ap (λ i. i.left) c.self.view_is) ∙ read_front c.self.inside.bytes.items c.copy_from_slice.new.self _ c.self.inside.place c.min-count.result _ (omega arith) (omega arith) piece
