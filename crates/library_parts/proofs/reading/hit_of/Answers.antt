use Rattle.std.proofs.Common.{◌≡◌, ◌∙◌, ℕ, List, Option, Some, None, sym, subst}
use Rattle.key_spec.specs.declared.KeyPart.{KeyPart}
use Rattle.parts_model.specs.Reads.{IsLookedIn, ReadsAmong, has_positions}
use Rattle.library_parts.proofs.reading.hit_of.Goals as goal

pub hit_along-requires-clause-read : goal.hit_along-requires-clause-read
hit_along-requires-clause-read c =
    let opened = c.args.opened.now in
    let path : opened.order.path ≡ Some c.in-Some.id = sym c.path.ensures ∙ c.in-Some.is in
    let reading = c.requires.read.0 in (
      c.args.members.now.members,
      reading,
      subst (λ (p : Option ℕ). ReadsAmong c.args.members.now.members c.args.paths.now opened.state.member opened.order.formats p reading) path c.requires.read.1,
    )

pub returns-in-Some-clause-found : goal.returns-in-Some-clause-found
returns-in-Some-clause-found c = λ reading among.
    let opened = c.args.opened.now in
    let path : opened.order.path ≡ Some c.in-Some.id = sym c.path.ensures ∙ c.in-Some.is in
    c.hit_along.ensures.found c.args.members.now.members reading
    (subst (λ (p : Option ℕ). ReadsAmong c.args.members.now.members c.args.paths.now opened.state.member opened.order.formats p reading) path among)

pub hit_in-requires-clause-read : goal.hit_in-requires-clause-read
hit_in-requires-clause-read c =
    let opened = c.args.opened.now in
    let path : opened.order.path ≡ None = sym c.path.ensures ∙ c.in-None.is in
    let reading = c.requires.read.0 in (
      reading,
      subst (λ (p : Option ℕ). ReadsAmong c.args.members.now.members c.args.paths.now opened.state.member opened.order.formats p reading) path c.requires.read.1,
    )

pub hit_in-requires-clause-looked : goal.hit_in-requires-clause-looked
hit_in-requires-clause-looked c =
    let opened = c.args.opened.now in
    let path : opened.order.path ≡ None = sym c.path.ensures ∙ c.in-None.is in
    let reading = c.requires.read.0 in
    let among =
    subst (λ (p : Option ℕ). ReadsAmong c.args.members.now.members c.args.paths.now opened.state.member opened.order.formats p reading) path c.requires.read.1 in
    subst (λ (formats : List (List KeyPart)). IsLookedIn (has_positions formats) c.args.by) among.none c.requires.looked

pub returns-in-None-clause-found : goal.returns-in-None-clause-found
returns-in-None-clause-found c = λ reading among.
    let opened = c.args.opened.now in
    let path : opened.order.path ≡ None = sym c.path.ensures ∙ c.in-None.is in
    c.hit_in.ensures.found reading
    (subst (λ (p : Option ℕ). ReadsAmong c.args.members.now.members c.args.paths.now opened.state.member opened.order.formats p reading) path among)
