use Rattle.store_model.proofs.Images.{replaced}
use Rattle.store_model.proofs.stop_images.replace.Goals as goal

pub returns : goal.returns
returns c =
    replaced c.args.past.now.changes.items c.add.new.self.changes.items c.add-2.new.self.changes.items c.add-3.new.self.changes.items c.args.area c.in_ok-copy.copy c.args.bytes.now
    c.in_ok-copy.ensures.items c.in_ok-add.ensures.pushed c.in_ok-add-2.ensures.pushed c.in_ok-add-3.ensures.pushed
