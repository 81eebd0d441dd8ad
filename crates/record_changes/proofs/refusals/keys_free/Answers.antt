use Rattle.record_changes.proofs.refusals.keys_free.Goals as goal

pub keys_free-requires-clause-there : goal.keys_free-requires-clause-there
keys_free-requires-clause-there c = rw c.member.ensures c.requires.fits.there

pub keys_free-requires-clause-fits : goal.keys_free-requires-clause-fits
keys_free-requires-clause-fits c = rw (c.member.ensures, c.as_bytes.ensures) c.requires.fits.fits

pub keys_free-requires-clause-values : goal.keys_free-requires-clause-values
keys_free-requires-clause-values c = rw (c.member.ensures, c.as_bytes.ensures) c.requires.fits.values
