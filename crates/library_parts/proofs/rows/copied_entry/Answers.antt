use Rattle.library_parts.proofs.rows.copied_entry.Goals as goal

pub returns : goal.returns
returns c = λ i. record { key = c.in_ok-key.ensures i; format = c.args.entry.now.format; rrn = c.args.entry.now.rrn }
