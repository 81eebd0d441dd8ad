use Rattle.std.proofs.Common.{◌∙◌, ap, sym, subst, take}
use Rattle.std.specs.Option.{option_map}
use Rattle.entry_codec.specs.declared.kinds.FileKind.TheVariants.{Logical, Physical}
use Rattle.replay_files.specs.Files.{FileBody, file_shown}
use Rattle.restarted_library.specs.Steps.{AddsFile, AddsOwned}
use Rattle.restarted_library.proofs.WalkLemmas.{owned-step, view-step}
use Rattle.restarted_library.proofs.library.put_file.Goals as goal

pub returns-in_ok-put_view-in-Logical-clause-built : goal.returns-in_ok-put_view-in-Logical-clause-built
returns-in_ok-put_view-in-Logical-clause-built c =
    let f = file_shown (c.in-Some.name, c.in-Some.file) in
    view-step c.args.files.now c.args.members.now.members c.args.place c.args.done c.args.contents.now.state c.put_view.new.contents.state f
    (c.at.ensures ∙ ap (option_map file_shown) c.in-Some.is) (ap (λ (b : FileBody). b.kind) (sym c.file.view_is) ∙ c.in-Logical.is)
    (subst (λ (b : FileBody). AddsFile c.args.contents.now.state c.put_view.new.contents.state Logical c.in-Some.name.now b.source) c.file.view_is c.in_ok-put_view-in-Logical.ensures)

pub returns-in_ok-later-in-Physical-clause-built : goal.returns-in_ok-later-in-Physical-clause-built
returns-in_ok-later-in-Physical-clause-built c =
    let f = file_shown (c.in-Some.name, c.in-Some.file) in
    let before = take c.args.done c.args.members.now.members in
    let after = take c.in_ok-later-in-Physical.later c.args.members.now.members in
    owned-step c.args.files.now before after c.args.place c.args.contents.now.state c.put_owner.new.contents.state f
    (c.at.ensures ∙ ap (option_map file_shown) c.in-Some.is) (ap (λ (b : FileBody). b.kind) (sym c.file.view_is) ∙ c.in-Physical.is)
    (subst (λ (b : FileBody). AddsOwned c.args.contents.now.state c.put_owner.new.contents.state Physical c.in-Some.name.now b.source before after) c.file.view_is
    c.in_ok-later-in-Physical.ensures.built)
