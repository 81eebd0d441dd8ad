use Rattle.library_steps.specs.State.{physical_among}
use Rattle.file_requests.proofs.PhysicalLemmas.{physical-shown, physical-there}
use Rattle.file_requests.proofs.member_commands.physical_file.Goals as goal

pub returns-clause-there : goal.returns-clause-there
returns-clause-there c = physical-there c.args.name.now c.args.contents.now.state.files c.physical_file.result c.physical_file.ensures.shows

pub returns-clause-among : goal.returns-clause-among
returns-clause-among c = physical-shown c.args.name.now (physical_among c.args.name.now c.args.contents.now.state.files) c.physical_file.result c.physical_file.ensures.shows
