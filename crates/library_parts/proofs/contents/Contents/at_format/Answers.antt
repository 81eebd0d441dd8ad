use Rattle.std.proofs.Common.{ap, arith, subst}
use Rattle.parts_model.specs.Finds.{ReadsMember}
use Rattle.parts_model.specs.Parts.{state_of}
use Rattle.parts_model.proofs.FindLemmas.{members-many, reads-at, some-below}
use Rattle.library_parts.proofs.contents.Contents.at_format.Goals as goal

pub returns-clause-there : goal.returns-clause-there
returns-clause-there c =
    let inside = c.self.inside in
    let s = state_of inside.catalogue inside.members inside.next_member inside.journal inside.locks inside.jobs in
    let opened = c.args.opened.now.state in
    let file = c.args.file.now in
    let has = rw (← c.self.view_is) at c.requires.there in
    let many = members-many s.files file opened has.there has.holds in
    let low = c.requires.format in
    rw (← c.self.view_is, c.at.ensures.state)
    (reads-at s file opened c.args.format c.self.invariant.0.lawful c.len-files.ensures.keyed (some-below opened.members c.args.format (omega (arith, low, many))) has)
