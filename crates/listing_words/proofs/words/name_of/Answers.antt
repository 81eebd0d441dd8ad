use Rattle.listing_words.proofs.NameLemmas.{name-is}
use Rattle.field_types.specs.SystemName.{is_name}
use Rattle.listing_words.proofs.words.name_of.Goals as goal

pub returns : goal.returns
returns c = name-is c.from_bytes.result c.args.word.now (is_name c.args.word.now) c.from_bytes.ensures.valid c.from_bytes.ensures.value
