use Rattle.std.proofs.Common.{◌≡◌, ℕ, List, [], ◌∷◌, ap, sym, subst, ◌∙◌, Err, IsErrOf}
use Rattle.std.specs.Global.{Vec}
use Rattle.std.proofs.lemmas.Result.{err_from_is_err_and}
use Rattle.entry_codec.specs.declared.entries.Entry.{Entry}
use Rattle.gated_log.specs.Blocks.{Spells}
use Rattle.gated_log.specs.declared.fault.LogFault.{LogFault}
use Rattle.gated_log.specs.declared.fault.LogFault.TheVariants.{Damaged}
use Rattle.checkpoint.specs.declared.layout.TheConstants.{VERSION}
use Rattle.checkpoint.specs.States.{BreaksAtEntry}
use Rattle.checkpoint.proofs.Kept.{kept_none}
use Rattle.checkpoint.proofs.Loads.{loaded_is, loaded_same, no_entries, none_same, not_one}
use Rattle.checkpoint.proofs.loading.load.Goals as goal

pub returns-then-root-eq0-clause-loaded : goal.returns-then-root-eq0-clause-loaded
returns-then-root-eq0-clause-loaded g c = λ tells. kept_none c.args.root c.new.result.items (g.S.Store.disk c.args.store.now) c.if-root-eq0.true c.new.ensures.items

pub returns-then-root-eq0-clause-same : goal.returns-then-root-eq0-clause-same
returns-then-root-eq0-clause-same g c = λ tells state saved. none_same c.args.root c.new.result.items state (g.S.Store.disk c.args.store.now).seen c.if-root-eq0.true c.new.ensures.items saved

pub returns-in_err-block-clause-damaged : goal.returns-in_err-block-clause-damaged
returns-in_err-block-clause-damaged g c = λ area at is.
    let p = err_from_is_err_and c.from_residual.result c.from_residual.ensures.1 in
    let same : c.in_err-block.field-0.0 ≡ Damaged area at = cc (p.1, p.2, is) in
    let named : IsErrOf {T = Vec ℕ} (Err c.in_err-block.field-0.0) (Damaged area at) = ap (λ (e : LogFault). Err e) same in
    let told = c.in_err-block.ensures.damaged area at named in
    (told.0, λ tells. not_one c.args.root ((g.S.Store.disk c.args.store.now).seen c.args.root.area) at (told.1 tells))

pub returns-in_err-entries-clause-damaged : goal.returns-in_err-entries-clause-damaged
returns-in_err-entries-clause-damaged g c = λ area at is.
    let p = err_from_is_err_and c.from_residual-in_err-entries.result c.from_residual-in_err-entries.ensures.1 in
    let same : c.in_err-entries.field-0.0 ≡ Damaged area at = cc (p.1, p.2, is) in
    let named : IsErrOf {T = Vec Entry} (Err c.in_err-entries.field-0.0) (Damaged area at) = ap (λ (e : LogFault). Err e) same in
    let told = c.in_err-entries.ensures.damaged area at named in (
      told.0,
      λ tells.
          no_entries c.args.root c.in_ok-block.block.items ((g.S.Store.disk c.args.store.now).seen c.args.root.area) at
          (subst (λ (l : List ℕ). Spells c.args.root.area 0 VERSION (c.in_ok-block.block.items ∷ []) l) (c.one_block.ensures.stays.seen c.args.root.area) (c.in_ok-block.ensures.spells tells))
          c.in_ok-block.ensures.length (subst (λ (l : List ℕ). BreaksAtEntry l at) c.deref.ensures.value told.1),
    )

pub returns-clause-loaded : goal.returns-clause-loaded
returns-clause-loaded g c = λ tells.
    loaded_is c.args.root c.in_ok-block.block.items c.in_ok-entries.entries.items (g.S.Store.disk c.one_block.new.store) c.if-root-eq0.false (c.in_ok-block.ensures.spells tells) (c.in_ok-block.ensures.durable tells) c.in_ok-block.ensures.length c.in_ok-entries.ensures.each
    (sym c.deref.ensures.value ∙ c.in_ok-entries.ensures.whole)

pub returns-clause-same : goal.returns-clause-same
returns-clause-same g c = λ tells state saved.
    loaded_same c.args.root c.in_ok-entries.entries.items state (g.S.Store.disk c.args.store.now) (g.S.Store.disk c.one_block.new.store) c.one_block.ensures.stays
    (loaded_is c.args.root c.in_ok-block.block.items c.in_ok-entries.entries.items (g.S.Store.disk c.one_block.new.store) c.if-root-eq0.false (c.in_ok-block.ensures.spells tells) (c.in_ok-block.ensures.durable tells) c.in_ok-block.ensures.length c.in_ok-entries.ensures.each
    (sym c.deref.ensures.value ∙ c.in_ok-entries.ensures.whole))
    saved
