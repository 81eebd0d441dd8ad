use Rattle.std.proofs.Common.{◌++◌, ◌∷◌, []}
use Rattle.parts_model.proofs.ManyAttached.{attaches-last, undone-last, undone-none}
use Rattle.library_parts.proofs.files.attach_view.Goals as goal

pub returns-in-Err-clause-refused : goal.returns-in-Err-clause-refused
returns-in-Err-clause-refused c =
    undone-none (c.args.others.now.items ++ c.args.path ∷ []) c.args.members.now.members c.args.paths.now c.attach_own_path.new.paths c.in-Err.ensures.refused

pub returns-in-Ok-attach_each-clause-attached : goal.returns-in-Ok-attach_each-clause-attached
returns-in-Ok-attach_each-clause-attached c =
    attaches-last c.args.members.now.members c.args.others.now.items c.args.path c.in-Ok.id c.args.paths.now c.attach_own_path.new.paths c.in-Ok.ensures.attached c.attach_own_path.ensures.rooms
    c.attach_each.new.paths c.in-Ok-attach_each.ensures.attached

pub returns-in-Err-attach_each-clause-refused : goal.returns-in-Err-attach_each-clause-refused
returns-in-Err-attach_each-clause-refused c =
    undone-last c.args.members.now.members c.args.others.now.items c.args.path c.in-Ok.id c.args.paths.now c.attach_own_path.new.paths c.in-Ok.ensures.attached c.attach_own_path.ensures.rooms
    c.attach_each.new.paths c.detach.new.self c.in-Err-attach_each.ensures.refused c.detach.ensures.paths c.detach.ensures.rooms
