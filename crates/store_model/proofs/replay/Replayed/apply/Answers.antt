use Rattle.std.proofs.Common.{◌≡◌, ℕ, List, [], ◌∷◌, ◌++◌, ◌/◌, length, refl, sym, subst, ap, ◌∙◌, take, arith, length-take}
use Rattle.store_model.specs.Disk.{written}
use Rattle.store_model.specs.Replayed.{IsReplayed, changed_area, written_alone}
use Rattle.store_model.specs.declared.past.Change.{Change}
use Rattle.store_model.specs.declared.replay.Replayed.{Replayed}
use Rattle.store_model.proofs.Replays.{replayed_wrote, replayed_shortened, replayed_synced}
use Rattle.store_model.proofs.replay.Replayed.apply.Goals as goal

pub returns-in_ok-overwrite-in-Wrote : goal.returns-in_ok-overwrite-in-Wrote
returns-in_ok-overwrite-in-Wrote c = λ changes.
    let new : Replayed = record { now = c.overwrite.new.old; synced = c.args.self.now.synced; torn = c.push-in-Wrote.new.self } in
    let at = c.in-Wrote.at in
    let bytes = c.in-Wrote.bytes in
    let some = take (c.len.result / 2) bytes.items in
    let size : c.len.result ≡ length bytes.items = omega (arith, bytes.ok.0) in
    let whole_is = c.in_ok-whole-in-Wrote.ensures ∙ ap (λ (l : List ℕ). written_alone at l c.deref.result.now) c.deref-in-Wrote.ensures.value ∙ ap (λ (l : List ℕ). written_alone at bytes.items l) c.deref.ensures.value in
    let half_is = c.in_ok-half-in-Wrote.ensures ∙ ap (λ (l : List ℕ). written_alone at (take (c.len.result / 2) l) c.deref-in-Wrote-2.result.now) c.deref-in-Wrote-3.ensures.value ∙ ap (λ (l : List ℕ). written_alone at some l) c.deref-in-Wrote-2.ensures.value in
    let now = c.in_ok-overwrite-in-Wrote.ensures.written ∙ ap (λ (l : List ℕ). written at l c.args.self.now.now.items) c.deref-in-Wrote-4.ensures.value in
    subst (λ (k : Change). IsReplayed changes (changed_area k) c.args.self.now → IsReplayed (changes ++ k ∷ []) (changed_area k) new) (sym c.in-Wrote.is)
    (λ is. replayed_wrote changes c.in-Wrote.field-0 c.args.self.now new is at bytes c.in_ok-whole-in-Wrote.whole c.in_ok-half-in-Wrote.half c.push.new.self.items some
    now refl c.in_ok-push-in-Wrote.ensures.items c.in_ok-push-in-Wrote-2.ensures.items whole_is half_is (ap (λ (n : ℕ). take (n / 2) bytes.items) size) (omega (arith, length-take (c.len.result / 2) bytes.items)))

pub returns-in-Shortened : goal.returns-in-Shortened
returns-in-Shortened c = λ changes.
    let new : Replayed = record { now = c.truncate.new.self; synced = c.args.self.now.synced; torn = c.args.self.now.torn } in
    subst (λ (k : Change). IsReplayed changes (changed_area k) c.args.self.now → IsReplayed (changes ++ k ∷ []) (changed_area k) new) (sym c.in-Shortened.is)
    (λ is. replayed_shortened changes c.in-Shortened.field-0 c.args.self.now new is c.in-Shortened.length c.truncate.ensures.items refl refl)

pub returns-in_ok-self-in-Synced : goal.returns-in_ok-self-in-Synced
returns-in_ok-self-in-Synced c = λ changes.
    let new : Replayed = record { now = c.args.self.now.now; synced = c.in_ok-self-in-Synced.field-0; torn = c.clear.new.self } in
    subst (λ (k : Change). IsReplayed changes (changed_area k) c.args.self.now → IsReplayed (changes ++ k ∷ []) (changed_area k) new) (sym c.in-Synced.is)
    (λ is. replayed_synced changes c.in-Synced.field-0 c.args.self.now new is refl (c.in_ok-self-in-Synced.ensures.items ∙ c.deref-in-Synced.ensures.value) c.clear.ensures.items)
