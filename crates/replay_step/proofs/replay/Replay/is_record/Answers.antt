use Rattle.std.proofs.Common.{◌∷◌, [], map, Option, sym, ap}
use Rattle.journal_model.specs.Catalogue.{CatalogMember}
use Rattle.journal_replay.specs.Standing.{catalog_member, catalogue_in}
use Rattle.journal_replay.specs.Tests.{are_records_of}
use Rattle.replay_members.proofs.HeldLemmas.{none-numbered}
use Rattle.replay_step.proofs.replay.Replay.is_record.Goals as goal

pub returns-in_default : goal.returns-in_default
returns-in_default g c =
    rw c.in_default.is
    (ap (λ (o : Option CatalogMember). are_records_of (g.D.Describe.rules c.args.by.now) (catalogue_in c.args.self.now) o (c.args.image.now ∷ [])) (sym (none-numbered (map catalog_member c.args.self.now.members))))
