use Rattle.std.proofs.Common.{◌≡◌, ◌∙◌, false, IsTrue, None, refl, sym, ap, option_copied}
use Rattle.built_requests.specs.Built.{is_built}
use Rattle.job_language.specs.Asks.{asks, is_end}
use Rattle.input_scripts.specs.Askable.{is_askable_script}
use Rattle.input_scripts.proofs.AskLemmas.{asks-built}
use Rattle.job_runner.specs.Ended.{replies_of}
use Rattle.job_runner.specs.Asked.{script_of}
use Rattle.job_runner.specs.Places.{HasAsked}
use Rattle.job_runner.proofs.CallLemmas.{script_of-at, list_all-script_of, ok-map}
use Rattle.job_runner.proofs.ProgressLemmas.{is_end-same, next-asked, next-request, open-leaves, IsProgress-kept}
use Rattle.job_runner.proofs.session.ask.Goals as goal

pub returns-clause-memory : goal.returns-clause-memory
returns-clause-memory c failed =
    let its = script_of-at c.as_slice.result.now c.args.scripts.now c.args.job c.index-as_slice-job.result c.as_slice.ensures c.requires.within c.index-as_slice-job.is in
    let same : option_copied c.waiting_reply-reply.result ≡ c.requires.goes_on.reply = c.waiting_reply-reply.ensures c.requires.goes_on.reply (rw c.calls.ensures c.requires.goes_on.waits) in
    let is = next-request _ _ _ _ _ _ c.is_full.result c.in_ok-request.request its same c.requires.goes_on.stands c.in_ok-request.ensures.request in
    let open_ended : is_end (asks (script_of c.args.scripts.now c.args.job) (replies_of c.args.job c.args.history.now.calls) c.is_full.result) ≡ false = ap is_end (sym is) ∙ is_end-same c.in_ok-request.request ∙ c.with_room.ensures.memory failed in
    open-leaves (script_of c.args.scripts.now c.args.job) (replies_of c.args.job c.args.history.now.calls) c.is_full.result open_ended

pub returns-clause-moved : goal.returns-clause-moved
returns-clause-moved c =
    let its = script_of-at c.as_slice.result.now c.args.scripts.now c.args.job c.index-as_slice-job.result c.as_slice.ensures c.requires.within c.index-as_slice-job.is in
    let same : option_copied c.waiting_reply-reply.result ≡ c.requires.goes_on.reply = c.waiting_reply-reply.ensures c.requires.goes_on.reply (rw c.calls.ensures c.requires.goes_on.waits) in
    let asked : HasAsked (script_of c.args.scripts.now c.args.job) (replies_of c.args.job c.args.history.now.calls) c.in_ok-request.request c.next.new.self = next-asked _ _ _ _ _ _ _ _ its same c.requires.goes_on.stands c.in_ok-request.ensures.state c.in_ok-request.ensures.falls in
    ok-map c.with_room.result (λ kept kept_same. rw kept_same asked) c.with_room.ensures.same

pub returns-clause-built : goal.returns-clause-built
returns-clause-built c =
    let its = script_of-at c.as_slice.result.now c.args.scripts.now c.args.job c.index-as_slice-job.result c.as_slice.ensures c.requires.within c.index-as_slice-job.is in
    let same : option_copied c.waiting_reply-reply.result ≡ c.requires.goes_on.reply = c.waiting_reply-reply.ensures c.requires.goes_on.reply (rw c.calls.ensures c.requires.goes_on.waits) in
    let is = next-request _ _ _ _ _ _ c.is_full.result c.in_ok-request.request its same c.requires.goes_on.stands c.in_ok-request.ensures.request in
    let askable : IsTrue (is_askable_script (script_of c.args.scripts.now c.args.job)) = list_all-script_of is_askable_script c.args.scripts.now c.args.job refl c.requires.askable in
    let built : IsTrue (is_built c.in_ok-request.request) = rw is (asks-built (script_of c.args.scripts.now c.args.job) askable (replies_of c.args.job c.args.history.now.calls) c.is_full.result) in
    ok-map c.with_room.result (λ kept kept_same. rw kept_same built) c.with_room.ensures.same

pub returns-clause-waits : goal.returns-clause-waits
returns-clause-waits c failed =
    let its = script_of-at c.as_slice.result.now c.args.scripts.now c.args.job c.index-as_slice-job.result c.as_slice.ensures c.requires.within c.index-as_slice-job.is in
    let same : option_copied c.waiting_reply-reply.result ≡ c.requires.goes_on.reply = c.waiting_reply-reply.ensures c.requires.goes_on.reply (rw c.calls.ensures c.requires.goes_on.waits) in
    let is = next-request _ _ _ _ _ _ c.is_full.result c.in_ok-request.request its same c.requires.goes_on.stands c.in_ok-request.ensures.request in
    let asked = next-asked _ _ _ _ _ _ _ _ its same c.requires.goes_on.stands c.in_ok-request.ensures.state c.in_ok-request.ensures.falls in
    record {
      no_end = c.requires.goes_on.no_end;
      reply = None;
      waits = refl;
      stands = IsProgress-kept _ _ c.in_ok-request.request c.next.new.self c.is_full.result asked is (c.with_room.ensures.memory failed);
    }
