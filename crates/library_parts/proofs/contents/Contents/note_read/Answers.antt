use Rattle.std.proofs.Common.{ℕ, ◌≡◌, ◌∙◌, List, Some, IfSome, is_some, refl, sym, subst, ap}
use Rattle.std.specs.Option.{option_map}
use Rattle.key_spec.specs.declared.KeyPart.{KeyPart}
use Rattle.parts_model.specs.CursorPosition.{entry_of}
use Rattle.file_model.specs.KeyOrder.{merged_parts}
use Rattle.parts_model.specs.OpenStand.{IsEntryIn}
use Rattle.parts_model.specs.OpenPositionReads.{IsAskedOf, asked_of, entry_hit}
use Rattle.parts_model.specs.Opens.{AllOfNumber, KeptOpen, OpenOrder}
use Rattle.parts_model.specs.Table.{orders_at}
use Rattle.library_steps.specs.LogicalFiles.{bases_in}
use Rattle.library_steps.specs.Reads.{entry_found, has_read}
use Rattle.library_steps.specs.Records.{is_keyed, reading_of}
use Rattle.library_steps.specs.Refusals.{OpenedFile}
use Rattle.library_steps.specs.State.{memory_of}
use Rattle.parts_model.specs.Indexed.{IsUnjoined}
use Rattle.parts_model.specs.Parts.{state_of}
use Rattle.parts_model.specs.Reads.{IsLookedIn, ReadsAmong, formats_read, found_by, has_positions}
use Rattle.parts_model.proofs.DueLemmas.{HasDue-kept}
use Rattle.parts_model.proofs.KeepReads.{keeps-read}
use Rattle.parts_model.proofs.IndexOpens.{IsIndexed-has_read}
use Rattle.lawful_states.proofs.LawfulLemmas.{AreOne-open_at}
use Rattle.parts_model.proofs.NoteLemmas.{same-open}
use Rattle.parts_model.proofs.PlaceLemmas.{found-same, of-number}
use Rattle.parts_model.proofs.ReadLemmas.{mapped-some, noted}
use Rattle.library_parts.proofs.contents.Contents.note_read.Goals as goal

pub found_open-its-requires-clause-named : goal.found_open-its-requires-clause-named
found_open-its-requires-clause-named c = (c.requires.found.its, c.requires.found.opened)

pub reads_there-requires-clause-unjoined : goal.reads_there-requires-clause-unjoined
reads_there-requires-clause-unjoined c =
    let its : OpenedFile = record { opened = c.found_open-its.result.opened.now.state; file = c.found_open-its.result.file.now } in
    let same : c.requires.found.its ≡ its = found-same _ c.requires.found.its its c.requires.found.opened c.found_open-its.ensures.found in
    subst (λ (o : OpenedFile). IsUnjoined o.file.spec) same c.requires.found.unjoined

pub kept_open-opened-requires-clause-there : goal.kept_open-opened-requires-clause-there
kept_open-opened-requires-clause-there c = let shows = rw (← c.self.view_is) at c.found_open-its.ensures.shows in ap is_some shows

pub hit_of-requires-clause-read : goal.hit_of-requires-clause-read
hit_of-requires-clause-read c =
    let inside = c.self.inside in
    let m = memory_of (state_of inside.catalogue inside.members inside.next_member inside.journal inside.locks inside.jobs) in
    let kept = c.found_open-its.result.opened.now in
    let seen = c.kept_open-opened.result.now in
    let its : OpenedFile = record { opened = kept.state; file = c.found_open-its.result.file.now } in
    let reading = reading_of its.file its.opened m in
    let one : seen ≡ kept =
    same-open seen kept _ _ c.kept_open-opened.ensures.state (rw (← c.self.view_is) at c.found_open-its.ensures.shows) c.kept_open-opened.ensures.order (rw (← c.self.view_is) at c.found_open-its.ensures.order) in
    let among = rw (← c.self.view_is) at c.reads_there.ensures.among in
    let members = inside.members.members in
    let paths = inside.paths in
    let among_seen = subst (λ (o : KeptOpen). ReadsAmong members paths o.state.member o.order.formats o.order.path reading) (sym one) among in
    (reading, among_seen)

pub hit_of-requires-clause-asked : goal.hit_of-requires-clause-asked
hit_of-requires-clause-asked c =
    let kept = c.found_open-its.result.opened.now in
    let seen = c.kept_open-opened.result.now in
    let its : OpenedFile = record { opened = kept.state; file = c.found_open-its.result.file.now } in
    let by = c.args.by in
    let same : c.requires.found.its ≡ its = found-same _ c.requires.found.its its c.requires.found.opened c.found_open-its.ensures.found in
    let one : seen ≡ kept =
    same-open seen kept _ _ c.kept_open-opened.ensures.state (rw (← c.self.view_is) at c.found_open-its.ensures.shows) c.kept_open-opened.ensures.order (rw (← c.self.view_is) at c.found_open-its.ensures.order) in
    let formats = rw (← c.self.view_is) at c.reads_there.ensures.formats in
    subst (λ (o : KeptOpen). IsAskedOf o.order.formats by) (sym one)
    (subst (λ (fs : List (List KeyPart)). IsAskedOf fs by) formats (subst (λ (o : OpenedFile). IsAskedOf (formats_read (bases_in c.self.inside.catalogue.files) o.file o.opened) by) same
    (rw (← c.self.view_is) at c.requires.found.asked)))

pub hit_of-requires-clause-looked : goal.hit_of-requires-clause-looked
hit_of-requires-clause-looked c =
    let kept = c.found_open-its.result.opened.now in
    let seen = c.kept_open-opened.result.now in
    let its : OpenedFile = record { opened = kept.state; file = c.found_open-its.result.file.now } in
    let by = c.args.by in
    let same : c.requires.found.its ≡ its = found-same _ c.requires.found.its its c.requires.found.opened c.found_open-its.ensures.found in
    let one : seen ≡ kept =
    same-open seen kept _ _ c.kept_open-opened.ensures.state (rw (← c.self.view_is) at c.found_open-its.ensures.shows) c.kept_open-opened.ensures.order (rw (← c.self.view_is) at c.found_open-its.ensures.order) in
    subst (λ (o : KeptOpen). IsLookedIn (has_positions o.order.formats) by) (sym one)
    (rw c.reads_there.ensures.keyed (subst (λ (o : OpenedFile). IsLookedIn (is_keyed o.file o.opened) by) same c.requires.found.looked))

pub unwrap-hit-requires : goal.unwrap-hit-requires
unwrap-hit-requires c =
    let inside = c.self.inside in
    let m = memory_of (state_of inside.catalogue inside.members inside.next_member inside.journal inside.locks inside.jobs) in
    let kept = c.found_open-its.result.opened.now in
    let seen = c.kept_open-opened.result.now in
    let its : OpenedFile = record { opened = kept.state; file = c.found_open-its.result.file.now } in
    let by = c.args.by in
    let reading = reading_of its.file its.opened m in
    let same : c.requires.found.its ≡ its = found-same _ c.requires.found.its its c.requires.found.opened c.found_open-its.ensures.found in
    let one : seen ≡ kept =
    same-open seen kept _ _ c.kept_open-opened.ensures.state (rw (← c.self.view_is) at c.found_open-its.ensures.shows) c.kept_open-opened.ensures.order (rw (← c.self.view_is) at c.found_open-its.ensures.order) in
    let among = rw (← c.self.view_is) at c.reads_there.ensures.among in
    let members = inside.members.members in
    let paths = inside.paths in
    let among_seen = subst (λ (o : KeptOpen). ReadsAmong members paths o.state.member o.order.formats o.order.path reading) (sym one) among in
    let formats = rw (← c.self.view_is) at c.reads_there.ensures.formats in
    let shown =
    subst (λ (o : KeptOpen). option_map (entry_hit (merged_parts o.order.formats)) c.hit_of.result ≡ asked_of by (merged_parts o.order.formats) reading o.state.position) one
    (c.hit_of.ensures.found reading among_seen) in
    let entry = c.requires.found.found.0 in
    let found = subst (λ (o : OpenedFile). found_by by o.file o.opened m ≡ Some entry) same (rw (← c.self.view_is) at c.requires.found.found.1) in
    mapped-some (entry_hit (merged_parts kept.order.formats)) c.hit_of.result entry
    (shown ∙ subst (λ (fs : List (List KeyPart)). asked_of by (merged_parts fs) reading kept.state.position ≡ Some entry) formats found)

pub note_read-requires-clause-entry : goal.note_read-requires-clause-entry
note_read-requires-clause-entry c =
    let inside = c.self.inside in
    let m = memory_of (state_of inside.catalogue inside.members inside.next_member inside.journal inside.locks inside.jobs) in
    let kept = c.found_open-its.result.opened.now in
    let seen = c.kept_open-opened.result.now in
    let its : OpenedFile = record { opened = kept.state; file = c.found_open-its.result.file.now } in
    let by = c.args.by in
    let reading = reading_of its.file its.opened m in
    let same : c.requires.found.its ≡ its = found-same _ c.requires.found.its its c.requires.found.opened c.found_open-its.ensures.found in
    let one : seen ≡ kept =
    same-open seen kept _ _ c.kept_open-opened.ensures.state (rw (← c.self.view_is) at c.found_open-its.ensures.shows) c.kept_open-opened.ensures.order (rw (← c.self.view_is) at c.found_open-its.ensures.order) in
    let among = rw (← c.self.view_is) at c.reads_there.ensures.among in
    let members = inside.members.members in
    let paths = inside.paths in
    let among_seen = subst (λ (o : KeptOpen). ReadsAmong members paths o.state.member o.order.formats o.order.path reading) (sym one) among in
    let formats = rw (← c.self.view_is) at c.reads_there.ensures.formats in
    let shown =
    subst (λ (o : KeptOpen). option_map (entry_hit (merged_parts o.order.formats)) c.hit_of.result ≡ asked_of by (merged_parts o.order.formats) reading o.state.position) one
    (c.hit_of.ensures.found reading among_seen) in
    let bytes = subst (λ (o : KeptOpen). IfSome c.hit_of.result (λ hit. IsEntryIn o.order.formats (entry_of hit))) one c.hit_of.ensures.bytes in
    let entry = c.requires.found.found.0 in
    let found = subst (λ (o : OpenedFile). found_by by o.file o.opened m ≡ Some entry) same (rw (← c.self.view_is) at c.requires.found.found.1) in
    let wanted = subst (λ (fs : List (List KeyPart)). asked_of by (merged_parts fs) reading kept.state.position ≡ Some entry) formats found in
    let its_entry = noted kept.order.formats c.hit_of.result c.unwrap-hit.result _ entry c.unwrap-hit.ensures shown wanted bytes in
    let alone = rw (← c.self.view_is) at c.found_open-its.ensures.alone in
    let number = c.number-number.ensures in
    let numbered = subst (λ (n : ℕ). AllOfNumber n (λ order. order ≡ kept.order) (orders_at c.args.job inside.jobs)) (sym number) alone in
    of-number c.number-number.result kept.order (λ (order : OpenOrder). IsEntryIn order.formats (entry_of c.unwrap-hit.result)) (orders_at c.args.job inside.jobs) numbered its_entry.bytes

pub invariant_of-self : goal.invariant_of-self
invariant_of-self c =
    let inside = c.self.inside in
    let m = memory_of (state_of inside.catalogue inside.members inside.next_member inside.journal inside.locks inside.jobs) in
    let kept = c.found_open-its.result.opened.now in
    let seen = c.kept_open-opened.result.now in
    let its : OpenedFile = record { opened = kept.state; file = c.found_open-its.result.file.now } in
    let by = c.args.by in
    let reading = reading_of its.file its.opened m in
    let same : c.requires.found.its ≡ its = found-same _ c.requires.found.its its c.requires.found.opened c.found_open-its.ensures.found in
    let one : seen ≡ kept =
    same-open seen kept _ _ c.kept_open-opened.ensures.state (rw (← c.self.view_is) at c.found_open-its.ensures.shows) c.kept_open-opened.ensures.order (rw (← c.self.view_is) at c.found_open-its.ensures.order) in
    let among = rw (← c.self.view_is) at c.reads_there.ensures.among in
    let members = inside.members.members in
    let paths = inside.paths in
    let among_seen = subst (λ (o : KeptOpen). ReadsAmong members paths o.state.member o.order.formats o.order.path reading) (sym one) among in
    let formats = rw (← c.self.view_is) at c.reads_there.ensures.formats in
    let shown =
    subst (λ (o : KeptOpen). option_map (entry_hit (merged_parts o.order.formats)) c.hit_of.result ≡ asked_of by (merged_parts o.order.formats) reading o.state.position) one
    (c.hit_of.ensures.found reading among_seen) in
    let bytes = subst (λ (o : KeptOpen). IfSome c.hit_of.result (λ hit. IsEntryIn o.order.formats (entry_of hit))) one c.hit_of.ensures.bytes in
    let entry = c.requires.found.found.0 in
    let found = subst (λ (o : OpenedFile). found_by by o.file o.opened m ≡ Some entry) same (rw (← c.self.view_is) at c.requires.found.found.1) in
    let wanted = subst (λ (fs : List (List KeyPart)). asked_of by (merged_parts fs) reading kept.state.position ≡ Some entry) formats found in
    let its_entry = noted kept.order.formats c.hit_of.result c.unwrap-hit.result _ entry c.unwrap-hit.ensures shown wanted bytes in
    let alone = rw (← c.self.view_is) at c.found_open-its.ensures.alone in
    let number = c.number-number.ensures in
    let numbered = subst (λ (n : ℕ). AllOfNumber n (λ order. order ≡ kept.order) (orders_at c.args.job inside.jobs)) (sym number) alone in
    let all = of-number c.number-number.result kept.order (λ (order : OpenOrder). entry_hit (merged_parts order.formats) c.unwrap-hit.result ≡ entry) (orders_at c.args.job inside.jobs) numbered its_entry.is in
    rw (c.note_read.ensures entry all) (
      AreOne-open_at _ _ _ c.number-number.result (has_read c.args.call (entry_found entry)) c.self.invariant.0
          (keeps-read inside.catalogue.files c.self.invariant.2.views inside.paths.paths c.number-number.result kept.order c.args.call (entry_found entry) its_entry.format _ inside.jobs.jobs inside.jobs.orders
          c.len-jobs.ensures.ordered c.self.invariant.2.orders numbered),
      HasDue-kept _ _ _ _ _ (λ job. refl) c.self.invariant.1,
      IsIndexed-has_read _ _ _ _ _ _ _ c.number-number.result c.args.call entry c.self.invariant.2,
    )

pub returns-clause-memory : goal.returns-clause-memory
returns-clause-memory c = λ other entry is asks.
    let inside = c.self.inside in
    let m = memory_of (state_of inside.catalogue inside.members inside.next_member inside.journal inside.locks inside.jobs) in
    let kept = c.found_open-its.result.opened.now in
    let seen = c.kept_open-opened.result.now in
    let its : OpenedFile = record { opened = kept.state; file = c.found_open-its.result.file.now } in
    let by = c.args.by in
    let reading = reading_of its.file its.opened m in
    let one : seen ≡ kept =
    same-open seen kept _ _ c.kept_open-opened.ensures.state (rw (← c.self.view_is) at c.found_open-its.ensures.shows) c.kept_open-opened.ensures.order (rw (← c.self.view_is) at c.found_open-its.ensures.order) in
    let among = rw (← c.self.view_is) at c.reads_there.ensures.among in
    let members = inside.members.members in
    let paths = inside.paths in
    let among_seen = subst (λ (o : KeptOpen). ReadsAmong members paths o.state.member o.order.formats o.order.path reading) (sym one) among in
    let formats = rw (← c.self.view_is) at c.reads_there.ensures.formats in
    let shown =
    subst (λ (o : KeptOpen). option_map (entry_hit (merged_parts o.order.formats)) c.hit_of.result ≡ asked_of by (merged_parts o.order.formats) reading o.state.position) one
    (c.hit_of.ensures.found reading among_seen) in
    let bytes = subst (λ (o : KeptOpen). IfSome c.hit_of.result (λ hit. IsEntryIn o.order.formats (entry_of hit))) one c.hit_of.ensures.bytes in
    let also : other ≡ its = found-same _ other its is c.found_open-its.ensures.found in
    let found = subst (λ (o : OpenedFile). found_by by o.file o.opened m ≡ Some entry) also (rw (← c.self.view_is) at asks) in
    let wanted = subst (λ (fs : List (List KeyPart)). asked_of by (merged_parts fs) reading kept.state.position ≡ Some entry) formats found in
    let its_entry = noted kept.order.formats c.hit_of.result c.unwrap-hit.result _ entry c.unwrap-hit.ensures shown wanted bytes in
    let alone = rw (← c.self.view_is) at c.found_open-its.ensures.alone in
    let number = c.number-number.ensures in
    let numbered = subst (λ (n : ℕ). AllOfNumber n (λ order. order ≡ kept.order) (orders_at c.args.job inside.jobs)) (sym number) alone in
    let all = of-number c.number-number.result kept.order (λ (order : OpenOrder). entry_hit (merged_parts order.formats) c.unwrap-hit.result ≡ entry) (orders_at c.args.job inside.jobs) numbered its_entry.is in
    rw (← c.self.view_is, c.note_read.ensures entry all, number, also) refl

pub returns-clause-room : goal.returns-clause-room
returns-clause-room c =
    let inside = c.self.inside in
    let m = memory_of (state_of inside.catalogue inside.members inside.next_member inside.journal inside.locks inside.jobs) in
    let kept = c.found_open-its.result.opened.now in
    let seen = c.kept_open-opened.result.now in
    let its : OpenedFile = record { opened = kept.state; file = c.found_open-its.result.file.now } in
    let by = c.args.by in
    let reading = reading_of its.file its.opened m in
    let same : c.requires.found.its ≡ its = found-same _ c.requires.found.its its c.requires.found.opened c.found_open-its.ensures.found in
    let one : seen ≡ kept =
    same-open seen kept _ _ c.kept_open-opened.ensures.state (rw (← c.self.view_is) at c.found_open-its.ensures.shows) c.kept_open-opened.ensures.order (rw (← c.self.view_is) at c.found_open-its.ensures.order) in
    let among = rw (← c.self.view_is) at c.reads_there.ensures.among in
    let members = inside.members.members in
    let paths = inside.paths in
    let among_seen = subst (λ (o : KeptOpen). ReadsAmong members paths o.state.member o.order.formats o.order.path reading) (sym one) among in
    let formats = rw (← c.self.view_is) at c.reads_there.ensures.formats in
    let shown =
    subst (λ (o : KeptOpen). option_map (entry_hit (merged_parts o.order.formats)) c.hit_of.result ≡ asked_of by (merged_parts o.order.formats) reading o.state.position) one
    (c.hit_of.ensures.found reading among_seen) in
    let bytes = subst (λ (o : KeptOpen). IfSome c.hit_of.result (λ hit. IsEntryIn o.order.formats (entry_of hit))) one c.hit_of.ensures.bytes in
    let entry = c.requires.found.found.0 in
    let found = subst (λ (o : OpenedFile). found_by by o.file o.opened m ≡ Some entry) same (rw (← c.self.view_is) at c.requires.found.found.1) in
    let wanted = subst (λ (fs : List (List KeyPart)). asked_of by (merged_parts fs) reading kept.state.position ≡ Some entry) formats found in
    let its_entry = noted kept.order.formats c.hit_of.result c.unwrap-hit.result _ entry c.unwrap-hit.ensures shown wanted bytes in
    let alone = rw (← c.self.view_is) at c.found_open-its.ensures.alone in
    let number = c.number-number.ensures in
    let numbered = subst (λ (n : ℕ). AllOfNumber n (λ order. order ≡ kept.order) (orders_at c.args.job inside.jobs)) (sym number) alone in
    let all = of-number c.number-number.result kept.order (λ (order : OpenOrder). entry_hit (merged_parts order.formats) c.unwrap-hit.result ≡ entry) (orders_at c.args.job inside.jobs) numbered its_entry.is in
    rw (← c.self.view_is, c.note_read.ensures entry all) refl
