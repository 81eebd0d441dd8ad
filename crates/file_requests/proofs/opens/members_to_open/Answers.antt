use Rattle.std.proofs.Common.{◌∙◌, sym, ap, subst, Result, ℕ, List}
use Rattle.std.specs.Option.{option_copied}
use Rattle.library_model.specs.declared.replies.Reply.{Reply}
use Rattle.library_steps.specs.Records.{is_file_path}
use Rattle.library_steps.specs.State.{memory_of}
use Rattle.file_requests.specs.Opens.{GivesMembers}
use Rattle.file_requests.proofs.OpenLemmas.{members-logical, members-physical, opens-logical, opens-physical, so-logical, so-physical}
use Rattle.file_requests.proofs.opens.members_to_open.Goals as goal

pub returns-in-Some-clause-plan : goal.returns-in-Some-clause-plan
returns-in-Some-clause-plan c =
    let is = sym (ap option_copied c.in-Some.is) ∙ c.logical.ensures in
    let file = c.args.file.now in
    subst (λ (wanted : Result (List ℕ) Reply). GivesMembers c.view_members.result wanted)
    (sym (members-logical file.spec c.in-Some.view.now (memory_of c.args.contents.now.state) c.args.job c.args.args.now file is)) c.view_members.ensures.plan

pub returns-in-Some-clause-opens : goal.returns-in-Some-clause-opens
returns-in-Some-clause-opens c =
    let is = sym (ap option_copied c.in-Some.is) ∙ c.logical.ensures in
    let file = c.args.file.now in
    opens-logical file.spec c.in-Some.view.now c.args.contents.now.state.files file c.view_members.result is c.view_members.ensures.over

pub returns-in-Some-clause-so : goal.returns-in-Some-clause-so
returns-in-Some-clause-so c =
    let is = sym (ap option_copied c.in-Some.is) ∙ c.logical.ensures in
    so-logical c.args.file.now.spec c.in-Some.view.now (is_file_path c.args.args.now.access_path) c.view_members.result is c.view_members.ensures.by_path

pub returns-in-None-clause-plan : goal.returns-in-None-clause-plan
returns-in-None-clause-plan c =
    let is = sym (ap option_copied c.in-None.is) ∙ c.logical.ensures in
    let file = c.args.file.now in
    subst (λ (wanted : Result (List ℕ) Reply). GivesMembers c.physical_members.result wanted)
    (sym (members-physical file.spec (memory_of c.args.contents.now.state) c.args.job c.args.args.now file is)) c.physical_members.ensures.plan

pub returns-in-None-clause-opens : goal.returns-in-None-clause-opens
returns-in-None-clause-opens c =
    let is = sym (ap option_copied c.in-None.is) ∙ c.logical.ensures in
    let file = c.args.file.now in
    opens-physical file.spec c.args.contents.now.state.files file c.physical_members.result is c.physical_members.ensures.has

pub returns-in-None-clause-so : goal.returns-in-None-clause-so
returns-in-None-clause-so c =
    let is = sym (ap option_copied c.in-None.is) ∙ c.logical.ensures in
    so-physical c.args.file.now.spec (is_file_path c.args.args.now.access_path) c.physical_members.result is
