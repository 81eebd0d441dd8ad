use Rattle.std.proofs.Common.{◌-◌, List, ℕ, ◌++◌, length, take, refl, ap, ◌∙◌, arith, length-take}
use Rattle.std.proofs.lemmas.List.{drop_all}
use Rattle.byteorder.specs.Endian.{big_bytes}
use Rattle.gated_log.proofs.Numbers.{framed_is}
use Rattle.gated_log.proofs.layout.put_frame.Goals as goal

pub returns : goal.returns
returns c =
    let old = c.args.framed.now in
    let n = length old - 5 in
    let none = drop_all 4 (take 4 old) (omega (arith, length-take 4 old)) in
    framed_is old c.write_u32.new.buf n c.requires.room refl (c.write_u32.ensures ∙ ap (λ (l : List ℕ). big_bytes 4 n ++ l) none)
