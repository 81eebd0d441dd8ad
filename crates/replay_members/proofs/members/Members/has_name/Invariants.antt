use Rattle.std.proofs.Common.{◌≡◌, map}
use Rattle.std.specs.List.{filter, list_any}
use Rattle.std.specs.Str.{bytes_eq}
use Rattle.journal_model.specs.Catalogue.{CatalogMember, is_in_file}
use Rattle.journal_replay.specs.Standing.{catalog_member}
use Rattle.replay_members.specs.Bodies.{held}
use Rattle.replay_members.proofs.members.Members.has_name.Given as goal

abbrev pub invariant-loop-member : goal.invariant-loop-member
invariant-loop-member l = list_any (λ (m : CatalogMember). bytes_eq m.name l.name) (filter (is_in_file l.file) (map catalog_member (map held l.member-iterator)))
    ≡ list_any (λ (m : CatalogMember). bytes_eq m.name l.name) (filter (is_in_file l.file) (map catalog_member l.self.members))
