use Rattle.std.proofs.Common.{◌≡◌, refl}
use Rattle.byteorder.specs.Endian.{big_bytes}
use Rattle.gated_log.specs.Blocks.{header}
use Rattle.gated_log.proofs.layout.header_of.Goals as goal

pub returns : goal.returns
unfolding header
returns c =
    let m = c.copy_from_slice.ensures.after in
    let v : c.write_u32.new.buf ≡ big_bytes 4 c.args.version = rw m at c.write_u32.ensures in
    let a : c.write_u32-2.new.buf ≡ big_bytes 4 c.args.area = rw (m, v) at c.write_u32-2.ensures in
    let f : c.write_u64.new.buf ≡ big_bytes 8 c.args.first = rw (m, v, a) at c.write_u64.ensures in
    rw (m, v, a, f) refl
