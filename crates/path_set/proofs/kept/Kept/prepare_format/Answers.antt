use Rattle.std.proofs.Common.{◌≡◌, get_or, rules}
use Rattle.access_path.specs.PathBytes.{members_of}
use Rattle.path_set.proofs.PrepareLemmas.{asked-at}
use Rattle.path_set.proofs.kept.Kept.prepare_format.Goals as goal

pub prepare-requires-clause-old : goal.prepare-requires-clause-old
prepare-requires-clause-old c =
    let same : get_or (members_of c.args.self.now.by.formats) c.args.format 0 ≡ c.args.asked.member = search rules in
    asked-at _ _ _ _ c.requires.old same c.requires.there

pub prepare-requires-clause-new : goal.prepare-requires-clause-new
prepare-requires-clause-new c =
    let same : get_or (members_of c.args.self.now.by.formats) c.args.format 0 ≡ c.args.asked.member = search rules in
    asked-at _ _ _ _ c.requires.new same c.requires.there
