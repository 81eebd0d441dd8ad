use Rattle.library_steps.specs.State.{memory_of}
use Rattle.parts_model.proofs.FreePaths.{IsFreeAt, free-over}
use Rattle.parts_model.proofs.KeyLemmas.{asked-there}
use Rattle.parts_model.proofs.UniqueOver.{done-end, done-first, done-next, left-fewer, next-there}
use Rattle.library_parts.proofs.contents.Contents.has_free_keys.Goals as goal

pub loop-path-init : goal.loop-path-init
loop-path-init c =
    let s = c.args.self.now.state in
    let new = c.args.new in
    done-first new.member c.args.self.now.room.paths.paths (IsFreeAt (memory_of s) c.args.self.now.room.paths.paths new.job new.commit new.member new.rrn new.image.now) c.unique_over-path.result
    (rw (← c.self.view_is) c.unique_over-path.ensures)

pub is_refused_in-requires-clause-path : goal.is_refused_in-requires-clause-path
is_refused_in-requires-clause-path c =
    let s = c.args.self.now.state in
    let paths = c.args.self.now.room.paths.paths in
    let new = c.args.new in
    let next = next-there new.member paths (IsFreeAt (memory_of s) paths new.job new.commit new.member new.rrn new.image.now) c.loop-path.path c.in-Some.id c.requires.asked.shared
    c.loop-path.invariant c.in-Some.is in
    let one = c.requires.asked.one c.in-Some.id next.path next.at next.unique next.over in
    (one.0, one.1, asked-there c.in-Some.id new.member new.image.now one.0 paths c.requires.asked.new one.1)

pub loop-path-preserved : goal.loop-path-preserved
loop-path-preserved c =
    let s = c.args.self.now.state in
    let paths = c.args.self.now.room.paths.paths in
    let new = c.args.new in
    done-next new.member paths (IsFreeAt (memory_of s) paths new.job new.commit new.member new.rrn new.image.now) c.loop-path.path c.unique_over-path-in-Some.result c.in-Some.id
    c.requires.asked.shared c.loop-path.invariant c.in-Some.is (λ path at format over. c.in_ok-refused.ensures c.if-refused.false format over)
    (rw (← c.self.view_is) c.unique_over-path-in-Some.ensures)

pub loop-path-smaller : goal.loop-path-smaller
loop-path-smaller c =
    rw c.in-Some.is
    (left-fewer c.args.new.member c.in-Some.id c.unique_over-path-in-Some.result c.args.self.now.room.paths.paths (rw (← c.self.view_is) c.unique_over-path-in-Some.ensures))

pub returns : goal.returns
returns c =
    let s = c.args.self.now.state in
    let paths = c.args.self.now.room.paths.paths in
    let new = c.args.new in
    λ free id format over once.
    done-end new.member paths (IsFreeAt (memory_of s) paths new.job new.commit new.member new.rrn new.image.now) c.loop-path.path c.loop-path.invariant c.in_default.is id over.path over.at
    (free-over new.member id format paths over) once format over
