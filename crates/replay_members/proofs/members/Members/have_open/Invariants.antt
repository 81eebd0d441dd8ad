use Rattle.std.proofs.Common.{◌≡◌, map}
use Rattle.std.specs.List.{filter, list_any}
use Rattle.journal_model.specs.Catalogue.{CatalogMember, is_in_file}
use Rattle.journal_replay.specs.Standing.{catalog_member}
use Rattle.replay_members.specs.Bodies.{held}
use Rattle.journal_replay.specs.Tests.{is_touched}
use Rattle.replay_members.proofs.members.Members.have_open.Given as goal

abbrev pub invariant-loop-number : goal.invariant-loop-number
invariant-loop-number l = list_any (λ (m : CatalogMember). is_touched m.number l.cycles.undos) (filter (is_in_file l.file) (map catalog_member (map held l.number-iterator)))
    ≡ list_any (λ (m : CatalogMember). is_touched m.number l.cycles.undos) (filter (is_in_file l.file) (map catalog_member l.self.members))
