use Rattle.std.proofs.Common.{◌∙◌, nat_eq}
use Rattle.std.specs.Cmp.Lexicographic.{pointwise}
use Rattle.indexmap.specs.IndexMap.{get}
use Rattle.indexmap.proofs.CallerLemmas.{insert_entry-new}
use Rattle.file_catalogue.proofs.MapLemmas.{on_ok}
use Rattle.lawful_states.proofs.ChangeLemmas.{owned-added}
use Rattle.file_catalogue.proofs.KeyedLemmas.{keyed-append}
use Rattle.file_catalogue.proofs.OwnMemberLemmas.{members-append}
use Rattle.file_catalogue.proofs.catalogue.Catalogue.add.Goals as goal

pub invariant_of-self : goal.invariant_of-self
invariant_of-self c =
    let added = on_ok c.insert.result c.unwrap-replaced.result c.unwrap-replaced.ensures c.insert.ensures.entries
    ∙ insert_entry-new (pointwise nat_eq) c.self.inside.files c.args.name c.args.file (rw (← c.self.view_is) at c.requires.absent) in
    rw added (
      owned-added c.self.inside.files.entries (get nat_eq c.self.inside.owners) (get nat_eq c.add_owned.new.owners) c.args.name c.args.file c.self.invariant.0
          (rw (← c.self.view_is) at c.requires.fresh) c.requires.apart (λ number. rw c.members.ensures at (c.add_owned.ensures number)),
      keyed-append c.self.inside.files.entries c.args.name c.args.file c.self.invariant.1 c.described-described.ensures.keyed,
      members-append c.self.inside.files.entries c.args.name c.args.file c.self.invariant.2 c.described-described.ensures.members,
    )

pub returns : goal.returns
returns c =
    rw (← c.self.view_is)
    (on_ok c.insert.result c.unwrap-replaced.result c.unwrap-replaced.ensures c.insert.ensures.entries
    ∙ insert_entry-new (pointwise nat_eq) c.self.inside.files c.args.name c.args.file (rw (← c.self.view_is) at c.requires.absent))
