use Rattle.std.proofs.Common.{sym, ◌∙◌}
use Rattle.std.proofs.lemmas.Bool.{false≢true}
use Rattle.std.proofs.lemmas.Slice.Eq.{bytes_eq-Decides}
use Rattle.checkpoint.proofs.RootBytes.{no_root, other_length}
use Rattle.checkpoint.proofs.root.root_of.Goals as goal
use Rattle.checkpoint.proofs.root.root_of.Goals.{else-is_root-via-then-is_root+else-eq, else-is_root-via-else-is_root}

pub returns-then-block-ne-ROOT_BYTES : goal.returns-then-block-ne-ROOT_BYTES
returns-then-block-ne-ROOT_BYTES c = other_length c.args.block.now c.if-block-ne-ROOT_BYTES.true

pub returns-else-is_root : goal.returns-else-is_root
returns-else-is_root c =
    no_root c.args.block.now (record { area = c.read_u32.result; sequence = c.read_u64.result; length = c.read_u64-2.result; first_receiver = c.read_u32-2.result; next_member = c.read_u32-3.result })
    c.read_u32.ensures c.read_u64.ensures c.read_u64-2.ensures c.read_u32-2.ensures c.read_u32-3.ensures
    (elim c.else-is_root.branch [
      | else-is_root-via-then-is_root+else-eq w ↦ λ is same. false≢true (sym w.if-eq.false ∙ w.eq.ensures ∙ (bytes_eq-Decides c.args.block.now w.as_slice.result.now).1 (same ∙ sym w.bytes_of.ensures ∙ sym w.as_slice.ensures))
      | else-is_root-via-else-is_root w ↦ λ is same. false≢true (sym w.if-is_root.false ∙ c.is_root.ensures.1 is)
    ])
