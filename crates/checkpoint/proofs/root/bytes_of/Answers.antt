use Rattle.std.proofs.Common.{◌≡◌, refl}
use Rattle.byteorder.specs.Endian.{big_bytes}
use Rattle.checkpoint.specs.Roots.{root_bytes}
use Rattle.checkpoint.proofs.root.bytes_of.Goals as goal

pub returns : goal.returns
unfolding root_bytes
returns c =
    let a : c.write_u32.new.buf ≡ big_bytes 4 c.args.root.now.area = c.write_u32.ensures in
    let s : c.write_u64.new.buf ≡ big_bytes 8 c.args.root.now.sequence = rw a at c.write_u64.ensures in
    let l : c.write_u64-2.new.buf ≡ big_bytes 8 c.args.root.now.length = rw (a, s) at c.write_u64-2.ensures in
    let f : c.write_u32-2.new.buf ≡ big_bytes 4 c.args.root.now.first_receiver = rw (a, s, l) at c.write_u32-2.ensures in
    let n : c.write_u32-3.new.buf ≡ big_bytes 4 c.args.root.now.next_member = rw (a, s, l, f) at c.write_u32-3.ensures in
    rw (a, s, l, f, n) refl
