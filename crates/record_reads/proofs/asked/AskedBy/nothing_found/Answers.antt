use Rattle.std.proofs.Common.{inl, inr, refl}
use Rattle.record_reads.proofs.asked.AskedBy.nothing_found.Goals as goal

pub returns-in-Next : goal.returns-in-Next
returns-in-Next c = elim c.in-Next.is [ inl any ↦ rw any refl | inr equal ↦ rw equal.1 refl ]

pub returns-in-Prior : goal.returns-in-Prior
returns-in-Prior c = elim c.in-Prior.is [ inl any ↦ rw any refl | inr equal ↦ rw equal.1 refl ]

pub returns-in-FirstEqual : goal.returns-in-FirstEqual
returns-in-FirstEqual c = elim c.in-FirstEqual.is [ inl equal ↦ rw equal.1 refl | inr number ↦ rw number.1 refl ]
