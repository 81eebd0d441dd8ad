use Rattle.std.proofs.Common.{inr, refl}
use Rattle.ibmi_batch.proofs.RunLemmas.{unopened}
use Rattle.ibmi_batch.proofs.ShownLemmas.{opened-settled, shows-displayed}
use Rattle.ibmi_batch.proofs.showing.show_library.Goals as goal

pub returns-in-Err : goal.returns-in-Err
returns-in-Err g c = rw c.status_of.ensures (inr (inr (λ tells. refl, unopened _ g.S.Store.tells (g.S.Store.disk c.args.store) _ c.in-Err.ensures.refused)))

pub show_opened-requires : goal.show_opened-requires
show_opened-requires g c = record { settled = opened-settled g.S.Store.tells g.S.Store.disk (g.S.Store.disk c.args.store) c.in-Ok.library c.in-Ok.ensures.opened }

pub returns-in-Ok : goal.returns-in-Ok
returns-in-Ok g c =
    let opened = c.in-Ok.ensures.opened in
    shows-displayed g.S.Store.tells g.S.Store.disk (g.S.Store.disk c.args.store) c.in-Ok.library opened _ c.show_opened.ensures.stays _ _
    (c.show_opened.ensures.written opened.s opened.stands)
