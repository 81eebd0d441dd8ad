use Rattle.std.proofs.Common.{◌≡◌, not, filter, rules}
use Rattle.std.proofs.lemmas.Fn.{filter_same}
use Rattle.library_model.specs.Named.{same_name}
use Rattle.job_table.proofs.opens.Opens.remove.Goals as goal

pub returns : goal.returns
returns c =
    let kept : c.retain.new.self.items ≡ filter (λ entry. not (same_name c.args.name.now entry.0)) c.self.inside.opens.items =
    filter_same _ (λ entry. not (same_name c.args.name.now entry.0)) _ (λ x b f' k. search rules) _ _ c.retain.ensures.filtered in
    rw (kept, ← c.self.view_is)
