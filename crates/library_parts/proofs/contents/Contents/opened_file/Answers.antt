use Rattle.std.proofs.Common.{◌≡◌, Some, subst}
use Rattle.library_model.specs.Named.{named}
use Rattle.library_steps.specs.LogicalFiles.{bases_in}
use Rattle.library_steps.specs.State.{memory_of, open_named}
use Rattle.parts_model.specs.Parts.{state_of}
use Rattle.lawful_states.proofs.FindLemmas.{found-is, open-holds}
use Rattle.parts_model.proofs.FindLemmas.{reads-member, view-of}
use Rattle.parts_model.proofs.OpenLooks.{reads-named}
use Rattle.parts_model.specs.Indexed.{ReadsFile}
use Rattle.library_parts.proofs.contents.Contents.opened_file.Goals as goal

pub returns-clause-shows : goal.returns-clause-shows
returns-clause-shows c = found-is _ _ _ c.in_ok-opened.ensures.shows

pub returns-clause-there : goal.returns-clause-there
returns-clause-there c =
    let inside = c.self.inside in
    let s = state_of inside.catalogue inside.members inside.next_member inside.journal inside.locks inside.jobs in
    let opened = c.in_ok-opened.opened.now.state in
    let file = c.in_ok-file.file.now in
    let lawful = c.self.invariant.0.lawful in
    let found : open_named c.args.name.now c.args.job (memory_of s) ≡ Some opened = found-is _ _ _ (rw (← c.self.view_is) at c.in_ok-opened.ensures.shows) in
    let here : named opened.file s.files ≡ Some file = found-is _ _ _ (rw (← c.self.view_is, c.file.ensures) at c.in_ok-file.ensures) in
    rw (← c.self.view_is)
    (reads-member s opened file lawful c.len-files.ensures.keyed (open-holds s c.args.job c.args.name.now opened lawful found) here)

pub returns-clause-view : goal.returns-clause-view
returns-clause-view c =
    let inside = c.self.inside in
    let s = state_of inside.catalogue inside.members inside.next_member inside.journal inside.locks inside.jobs in
    let opened = c.in_ok-opened.opened.now.state in
    let file = c.in_ok-file.file.now in
    let here : named opened.file s.files ≡ Some file = found-is _ _ _ (rw (← c.self.view_is, c.file.ensures) at c.in_ok-file.ensures) in
    rw (← c.self.view_is) (view-of s.files opened.file file c.self.invariant.2.views here)

pub returns-clause-reads : goal.returns-clause-reads
returns-clause-reads c =
    let inside = c.self.inside in
    let s = state_of inside.catalogue inside.members inside.next_member inside.journal inside.locks inside.jobs in
    let kept = c.in_ok-opened.opened.now in
    let opened = kept.state in
    let file = c.in_ok-file.file.now in
    let found : open_named c.args.name.now c.args.job (memory_of s) ≡ Some opened = found-is _ _ _ (rw (← c.self.view_is) at c.in_ok-opened.ensures.shows) in
    let here : named opened.file s.files ≡ Some file = found-is _ _ _ (rw (← c.self.view_is, c.file.ensures) at c.in_ok-file.ensures) in
    let reads =
    reads-named s.files s.members s.jobs inside.jobs.orders inside.jobs.moves inside.paths c.args.job c.args.name.now opened kept.order c.self.invariant.2 c.len-jobs.ensures.ordered
    (rw (← c.self.view_is) at c.requires) found (rw (← c.self.view_is) at c.in_ok-opened.ensures.order) in
    let its = subst (ReadsFile (bases_in s.files) inside.paths.paths opened kept.order) here reads in
    rw (← c.self.view_is) (record { by = its.0; so = its.1; rows = its.2 })
