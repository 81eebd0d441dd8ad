use Rattle.std.proofs.Common.{◌∙◌, List, ℕ, Option, ap, subst}
use Rattle.library_steps.specs.CreateLogicalFile.{NewLogical, logical_described}
use Rattle.library_steps.specs.State.{memory_of}
use Rattle.entry_codec.specs.declared.kinds.FileKind.TheVariants.{Logical}
use Rattle.restarted_library.specs.Steps.{AddsFile, IsViewOf}
use Rattle.restarted_library.proofs.StepLemmas.{view-left}
use Rattle.restarted_library.proofs.placing.put_view.Goals as goal

pub put_described-requires : goal.put_described-requires
put_described-requires c =
    let is = subst (λ (o : Option NewLogical). IsViewOf (memory_of c.args.contents.now.state) c.args.source.now o) c.in-Some.is c.in_ok-found.ensures in
    ap (λ (text : List ℕ). logical_described (memory_of c.args.contents.now.state) text) is.0 ∙ is.1

pub returns-in_ok-put_described-in-Some : goal.returns-in_ok-put_described-in-Some
returns-in_ok-put_described-in-Some c =
    let is = subst (λ (o : Option NewLogical). IsViewOf (memory_of c.args.contents.now.state) c.args.source.now o) c.in-Some.is c.in_ok-found.ensures in
    subst (λ (text : List ℕ). AddsFile c.args.contents.now.state c.put_described.new.contents.state Logical c.args.name text) is.0 c.in_ok-put_described-in-Some.ensures

pub returns-in-None : goal.returns-in-None
returns-in-None c = λ created catalog members entries attached built.
    let is = subst (λ (o : Option NewLogical). IsViewOf (memory_of c.args.contents.now.state) c.args.source.now o) c.in-None.is c.in_ok-found.ensures in
    view-left entries attached created catalog members c.args.name c.args.source.now c.args.contents.now.state is.0 is.1 built
