use Rattle.std.proofs.Common.{◌∙◌, sym}
use Rattle.file_model.specs.Paths.{path_key}
use Rattle.library_steps.specs.State.{memory_of}
use Rattle.parts_model.proofs.KeyLemmas.{clash-shown, key-at}
use Rattle.parts_model.proofs.KeyPlanLemmas.{free-new, free-none}
use Rattle.parts_model.proofs.ResultLemmas.{is_nothing}
use Rattle.library_parts.proofs.contents.Contents.is_refused_in.Goals as goal

pub returns-in_default : goal.returns-in_default
returns-in_default c = λ free format at.
    let new = c.args.new in
    free-none (memory_of c.args.self.now.state) new.job new.commit new.member new.rrn new.image.now format ((rw c.in_default.is at c.in_ok-key.ensures) format at)

pub is_kept-requires-clause-path : goal.is_kept-requires-clause-path
is_kept-requires-clause-path c = (c.requires.path.0, c.requires.path.1, c.requires.asked.before c.args.id c.requires.path.0 c.requires.path.1)

pub returns : goal.returns
returns c = λ free format at.
    let new = c.args.new in
    let image = new.image.now in
    let m = memory_of c.args.self.now.state in
    let paths = c.args.self.now.room.paths.paths in
    let shows = (rw c.in-Some.is at c.in_ok-key.ensures) format at in
    let kept = c.in_ok-kept.ensures c.if-kept.false format (path_key format image)
    (key-at c.args.id new.member format paths image c.as_bytes.result.now at c.requires.asked.bytes (c.as_bytes.ensures ∙ shows.1)) in
    let over = rw (← c.self.view_is) at at in
    let asked = rw (← c.self.view_is) at c.requires.asked in
    let told = clash-shown c.args.id new.member format c.self.inside.paths.paths image new.rrn c.self.inside.members.members c.in_ok-other.other over (asked.told c.args.id format over)
    c.in_ok-other.ensures in
    free-new m new.job new.commit new.member new.rrn image format c.requires.running shows.0 kept
    (rw (← c.self.view_is) (sym told ∙ is_nothing c.in_ok-other.other (sym c.is_some.ensures ∙ free)))
