-- The laws of the paths of files, as lemmas on looks take them.
use Rattle.file_catalogue.proofs.RecordLemmas.{image-taken, keys-within, path-bytes, path-kept}
use Rattle.view_records.proofs.ViewLemmas.{images-taken, keys-short, paths-bytes, paths-kept}
use Rattle.parts_model.proofs.IndexLooks.{AreLaws}

pub laws : AreLaws
laws = record {
  image = image-taken;
  kept = path-kept;
  bytes = path-bytes;
  within = keys-within;
  view_image = images-taken;
  view_kept = paths-kept;
  view_bytes = paths-bytes;
  view_within = keys-short;
}
