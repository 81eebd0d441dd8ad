use Rattle.record_changes.proofs.ImageLemmas.{packed-held}
use Rattle.record_changes.proofs.images.packed_image.Goals as goal

pub pack_given-requires : goal.pack_given-requires
pack_given-requires c = λ image is. (c.requires.old image is).long

pub returns-in-Ok-clause-holds : goal.returns-in-Ok-clause-holds
returns-in-Ok-clause-holds c =
    rw c.from_vec.ensures (record {
      long = c.in-Ok.ensures.length;
      values = packed-held c.new_record_holds.ensures c.changed_record_holds.ensures c.args.format.now.fields c.args.given.now c.args.old c.in-Ok.image.items
          c.as_slice-fields.ensures.laid_out c.requires.old c.in-Ok.ensures.packed;
    })
