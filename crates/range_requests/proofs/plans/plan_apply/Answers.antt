use Rattle.std.proofs.Common.{ℕ, Ok, Err, length, refl, sym, ap, ◌∙◌, subst}
use Rattle.std.proofs.lemmas.Result.{err_from_is_err_and}
use Rattle.entry_codec.specs.declared.kinds.EntryKind.TheVariants.{ChangesApplied}
use Rattle.journal_model.specs.Acts.{acts}
use Rattle.journal_model.specs.Ranges.{apply_range}
use Rattle.library_steps.specs.Drafts.{Author, author_of}
use Rattle.library_steps.specs.JournalReads.{entries_between, prior_to}
use Rattle.library_steps.specs.Ranges.{given_forward, Range, range_between, range_named, slots_now}
use Rattle.library_steps.specs.State.{memory_of}
use Rattle.range_requests.specs.declared.tells.Way.TheVariants.{Forward}
use Rattle.range_requests.specs.Walks.{Walks}
use Rattle.range_requests.specs.Steps.{IsToldBy, limits, slots_of}
use Rattle.range_requests.proofs.PlanLemmas.{apply-is, apply_work, allows-gives, finds-gives, is-within, limits-hold, limits-refuse, may-give, named-refused, plan-goes, plan-of, walk-refused, walks-gives}
use Rattle.range_requests.proofs.plans.plan_apply.Goals as goal

pub returns-in_err-found-clause-plan : goal.returns-in_err-found-clause-plan
returns-in_err-found-clause-plan c = λ read known.
    let s = c.args.contents.now.state in
    let args = c.args.args.now in
    let m = memory_of s in
    let p = err_from_is_err_and c.from_residual.result c.from_residual.ensures.1 in
    rw (p.1, p.2)
    (finds-gives s read c.in_err-found.field-0.0 (range_named args args.from args.to read m) _
    (λ reply refused. apply-is s read c.args.job c.args.timestamp args
    ∙ named-refused (range_named args args.from args.to read m) (λ range. apply_range range.first range.acts (slots_now range m)) (apply_work s c.args.job c.args.timestamp) m reply refused)
    (c.in_err-found.ensures.found read known))

pub returns-in_err-walk-clause-plan : goal.returns-in_err-walk-clause-plan
returns-in_err-walk-clause-plan c = λ read known.
    let s = c.args.contents.now.state in
    let args = c.args.args.now in
    let m = memory_of s in
    let found = c.in_ok-found.found in
    let is = c.in_ok-found.ensures.found read known in
    let range = range_between is.2.status found.first found.last read m in
    let named = is.1 ∙ ap (λ (r : Range). Ok r) is.2.same in
    let p = err_from_is_err_and c.from_residual-in_err-walk.result c.from_residual-in_err-walk.ensures.1 in
    rw (p.1, p.2)
    (walks-gives s c.in_err-walk.field-0.0 (apply_range range.first range.acts (slots_now range m)) (slots_of s found.member) given_forward _
    (λ reply refused. apply-is s read c.args.job c.args.timestamp args ∙ walk-refused (range_named args args.from args.to read m) (λ range. apply_range range.first range.acts (slots_now range m)) (apply_work s c.args.job
    c.args.timestamp) m range reply named refused)
    (subst (λ (n : ℕ). Walks (Err c.in_err-walk.field-0.0) (apply_range found.first (acts n (prior_to found.first m read) (entries_between found.first found.last m read)) (slots_of s n)) (slots_of s found.member) given_forward)
    (sym is.2.number) (c.in_err-walk.ensures.walked read known)))

pub returns-in_err-check_limits-clause-plan : goal.returns-in_err-check_limits-clause-plan
returns-in_err-check_limits-clause-plan c = λ read known.
    let s = c.args.contents.now.state in
    let args = c.args.args.now in
    let m = memory_of s in
    let found = c.in_ok-found.found in
    let is = c.in_ok-found.ensures.found read known in
    let range = range_between is.2.status found.first found.last read m in
    let named = is.1 ∙ ap (λ (r : Range). Ok r) is.2.same in
    let walk = c.in_ok-walk.walk in
    let plan = c.in_ok-plan.plan in
    let walked = c.in_ok-walk.ensures.walked read known in
    let answer = apply_range found.first (acts found.member (prior_to found.first m read) (entries_between found.first found.last m read)) (slots_of s found.member) in
    let went = ap (λ (n : ℕ). apply_range found.first (acts n (prior_to found.first m read) (entries_between found.first found.last m read)) (slots_of s n)) is.2.number ∙ walked.answered in
    let goes = plan-goes (range_named args args.from args.to read m) (λ range. apply_range range.first range.acts (slots_now range m)) (apply_work s c.args.job c.args.timestamp) m range walked.done named went in
    let told = subst (λ (a : Author). IsToldBy s a found walk Forward plan) c.of-author.ensures c.in_ok-plan.ensures.told in
    let of = plan-of s read (author_of m c.args.job c.args.timestamp) found is.2.status walk Forward plan (λ d. ChangesApplied d.first d.last (length d.changes)) given_forward answer (λ d. refl) is.2.number walked told in
    let p = err_from_is_err_and c.from_residual-in_err-check_limits.result c.from_residual-in_err-check_limits.ensures.1 in
    rw (p.1, p.2)
    (allows-gives s c.in_err-check_limits.field-0.0 (limits s plan) _
    (λ reply refused. apply-is s read c.args.job c.args.timestamp args ∙ goes ∙ limits-refuse s (apply_work s c.args.job c.args.timestamp range walked.done) plan reply of refused)
    c.in_err-check_limits.ensures)

pub returns-clause-plan : goal.returns-clause-plan
returns-clause-plan c = λ read known.
    let s = c.args.contents.now.state in
    let args = c.args.args.now in
    let m = memory_of s in
    let found = c.in_ok-found.found in
    let is = c.in_ok-found.ensures.found read known in
    let range = range_between is.2.status found.first found.last read m in
    let named = is.1 ∙ ap (λ (r : Range). Ok r) is.2.same in
    let walk = c.in_ok-walk.walk in
    let plan = c.in_ok-plan.plan in
    let walked = c.in_ok-walk.ensures.walked read known in
    let answer = apply_range found.first (acts found.member (prior_to found.first m read) (entries_between found.first found.last m read)) (slots_of s found.member) in
    let went = ap (λ (n : ℕ). apply_range found.first (acts n (prior_to found.first m read) (entries_between found.first found.last m read)) (slots_of s n)) is.2.number ∙ walked.answered in
    let goes = plan-goes (range_named args args.from args.to read m) (λ range. apply_range range.first range.acts (slots_now range m)) (apply_work s c.args.job c.args.timestamp) m range walked.done named went in
    let told = subst (λ (a : Author). IsToldBy s a found walk Forward plan) c.of-author.ensures c.in_ok-plan.ensures.told in
    let of = plan-of s read (author_of m c.args.job c.args.timestamp) found is.2.status walk Forward plan (λ d. ChangesApplied d.first d.last (length d.changes)) given_forward answer (λ d. refl) is.2.number walked told in (
      apply_work s c.args.job c.args.timestamp range walked.done,
      apply-is s read c.args.job c.args.timestamp args ∙ goes ∙ limits-hold s (apply_work s c.args.job c.args.timestamp range walked.done) plan of c.in_ok-check_limits.ensures,
      of,
    )

pub returns-clause-may : goal.returns-clause-may
returns-clause-may c =
    let s = c.args.contents.now.state in
    let told = c.in_ok-plan.ensures.told in
    may-give s c.in_ok-found.found c.in_ok-walk.walk c.in_ok-plan.plan c.in_ok-found.ensures.kept c.in_ok-check_walk.ensures.fit c.in_ok-walk.ensures.places told.member told.given c.in_ok-check_limits.ensures

pub returns-clause-within : goal.returns-clause-within
returns-clause-within c = is-within c.args.contents.now.state c.in_ok-plan.plan c.in_ok-check_limits.ensures c.in_ok-found.ensures.left
