use Rattle.std.proofs.Common.{◌∙◌, sym, nat_eq}
use Rattle.indexmap.specs.IndexMap.{get}
use Rattle.lawful_states.proofs.NameLemmas.{remove_entry-distinct}
use Rattle.lawful_states.proofs.ChangeLemmas.{owned-removed}
use Rattle.file_catalogue.proofs.KeyedLemmas.{keyed-without}
use Rattle.file_catalogue.proofs.OwnMemberLemmas.{members-without}
use Rattle.file_catalogue.proofs.catalogue.Catalogue.remove.Goals as goal

pub invariant_of-self : goal.invariant_of-self
invariant_of-self c =
    rw (c.shift_remove.ensures.entries ∙ remove_entry-distinct c.args.name.now c.self.inside.files.entries c.len-len.ensures.unique) (
      owned-removed c.self.inside.files.entries (get nat_eq c.self.inside.owners) (get nat_eq c.remove_owned.new.owners) c.args.name.now c.unwrap-file.result c.self.invariant.0
          (sym c.shift_remove.ensures.value ∙ c.unwrap-file.ensures) (λ number. rw c.members.ensures at (c.remove_owned.ensures number)),
      keyed-without c.args.name.now c.self.inside.files.entries c.self.invariant.1,
      members-without c.args.name.now c.self.inside.files.entries c.self.invariant.2,
    )

pub returns-clause-removed : goal.returns-clause-removed
returns-clause-removed c =
    rw (← c.self.view_is)
    (c.shift_remove.ensures.entries
    ∙ remove_entry-distinct c.args.name.now c.self.inside.files.entries c.len-len.ensures.unique)
