use Rattle.std.proofs.Common.{◌≡◌, ◌∙◌, ℕ, List, map, filter, not, rules, ap}
use Rattle.std.specs.Str.{bytes_eq}
use Rattle.indexmap.proofs.CallerLemmas.{filter-RetainsPairs}
use Rattle.replay_files.specs.Files.{FileBody, catalog_file}
use Rattle.replay_files.proofs.NameLemmas.{files-filter}
use Rattle.replay_files.proofs.files.Files.remove.Goals as goal

pub returns : goal.returns
returns c =
    let kept : c.retain.new.self.entries ≡ filter (λ (e : List ℕ × FileBody). not (bytes_eq e.0 c.args.name.now)) c.self.inside.files.entries =
    filter-RetainsPairs _ (λ (e : List ℕ × FileBody). not (bytes_eq e.0 c.args.name.now)) _ (λ k v b w g call. search rules) _ _ c.retain.ensures.filtered in
    rw (← c.self.view_is) (ap (map catalog_file) kept ∙ files-filter c.args.name.now c.self.inside.files.entries)
