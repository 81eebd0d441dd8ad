-- Each request is read back from its command and its parameters.
use Rattle.std.specs.Prelude.{⊤}
use Rattle.std.proofs.Common.{◌≡◌, ℕ, Some, option_map, List, [], ◌∷◌, ◌++◌, codes, refl, ap, ◌∙◌, arith}
use Rattle.std.specs.Fmt.{decimal}
use Rattle.library_model.specs.declared.requests.ChainTo.{ChainTo}
use Rattle.library_model.specs.declared.requests.ChainTo.TheVariants as chain_to
use Rattle.library_model.specs.declared.requests.Limit.{Limit}
use Rattle.library_model.specs.declared.requests.Limit.TheVariants as limit
use Rattle.library_model.specs.declared.requests.LockOption.{LockOption}
use Rattle.library_model.specs.declared.requests.Request.{Request}
use Rattle.library_model.specs.declared.requests.Request.TheVariants as request
use Rattle.library_model.specs.declared.requests.ChainRecord.{ChainRecord}
use Rattle.library_model.specs.declared.requests.CreateLogicalFile.{CreateLogicalFile}
use Rattle.library_model.specs.declared.requests.CreatePhysicalFile.{CreatePhysicalFile}
use Rattle.library_model.specs.declared.requests.DeleteFile.{DeleteFile}
use Rattle.library_model.specs.declared.requests.DeleteReceiver.{DeleteReceiver}
use Rattle.library_model.specs.declared.requests.DisplayJournal.{DisplayJournal}
use Rattle.library_model.specs.declared.requests.EndJob.{EndJob}
use Rattle.library_model.specs.declared.requests.FileMember.{FileMember}
use Rattle.library_model.specs.declared.requests.JournaledChanges.{JournaledChanges}
use Rattle.library_model.specs.declared.requests.OpenFile.{OpenFile}
use Rattle.library_model.specs.declared.requests.OpenName.{OpenName}
use Rattle.library_model.specs.declared.requests.ReadEqual.{ReadEqual}
use Rattle.library_model.specs.declared.requests.ReadRecord.{ReadRecord}
use Rattle.library_model.specs.declared.requests.SetPosition.{SetPosition}
use Rattle.library_model.specs.declared.requests.StartCommitment.{StartCommitment}
use Rattle.library_model.specs.declared.requests.StartJournaling.{StartJournaling}
use Rattle.library_model.specs.declared.requests.UpdateRecord.{UpdateRecord}
use Rattle.library_model.specs.declared.requests.WriteRecord.{WriteRecord}
use Rattle.listing.specs.RequestText.{level_text, images_text, end_text, option_text, yes_or_no, path_text, lock_text, reason_text, format_text, place_text, limit_parameter, chain_parameter, command, parameters}
use Rattle.listing.specs.Texts.{parameter, values_text, given_values_text}
use Rattle.listing_words.specs.Commands.{request_named, file_command, journal_command, open_command, record_command}
use Rattle.listing_reader.specs.Listed.{IsName, IsNumber, IsLong, IsFormat, IsPlace, AreGiven, IsChainTo, IsRequest, FitsFileMember, FitsJournaledChanges, FitsSetPosition, FitsReadRecord, FitsReadEqual}
use Rattle.listing_reader.specs.Requests.{create_physical, create_logical, delete_file, file_member, start_journaling, delete_receiver, display_journal, journaled_changes, start_commitment, end_job, open_file, open_name, set_position, read_record, read_equal, chain_record, write_record, update_record, request_of, read_request}
use Rattle.listing_words.specs.Words.{inside, behind_word}
use Rattle.listing_reader.proofs.ScanLemmas.{IsWord, Follows, both, nothing}
use Rattle.listing_reader.proofs.TextLemmas.{name-inside, decimal-inside}
use Rattle.listing_reader.proofs.ValueLemmas.{values-inner, givens-inner}
use Rattle.listing_reader.proofs.ParameterLemmas.{word_of, parameter-follows, given-own, given-next, some-then, name-given, number-given, long-given}
use Rattle.listing_reader.proofs.ChoiceLemmas.{level-inner, images-inner, option-inner, yes-inner, path-inner, lock-inner, reason-inner, end-inner, format-inner, place-inner, level-given, images-given, option-given, yes-given, path-given, lock-given, reason-given, end-given, format-given, place-given, values-given, givens-given, limit_word_of, limit-follows, limit-given, chain_word_of, chain-follows, chain-given, chain-break, chain-lock}

-- CRTPF
abbrev pub create_physical_words : CreatePhysicalFile → List (List ℕ)
create_physical_words args = word_of (codes "FILE") args.file ∷ word_of (codes "SRC") args.source ∷ []

create_physical-follows : (args : CreatePhysicalFile) → IsName args.file × IsName args.source
    → Follows (parameter (codes "FILE") args.file ++ parameter (codes "SRC") args.source) (create_physical_words args)
create_physical-follows args is =
    (both _ _ (word_of (codes "FILE") args.file ∷ []) (word_of (codes "SRC") args.source ∷ []) (parameter-follows (codes "FILE") args.file refl refl (name-inside args.file is.0))
    (parameter-follows (codes "SRC") args.source refl refl (name-inside args.source is.1)))

create_physical-reads : (args : CreatePhysicalFile) → IsName args.file × IsName args.source → (more : List (List ℕ)) → create_physical (create_physical_words args ++ codes "=>" ∷ more) ≡ Some args
unfolding create_physical inside
create_physical-reads args is more =
    some-then _ _ args.file _ (name-given (codes "FILE") args.file (word_of (codes "FILE") args.file ∷ word_of (codes "SRC") args.source ∷ codes "=>" ∷ more)
    (given-own (codes "FILE") args.file (word_of (codes "SRC") args.source ∷ codes "=>" ∷ more) refl) is.0) (
    some-then _ _ args.source _ (name-given (codes "SRC") args.source (word_of (codes "FILE") args.file ∷ word_of (codes "SRC") args.source ∷ codes "=>" ∷ more) (given-next (codes "SRC")
    (word_of (codes "FILE") args.file) (word_of (codes "SRC") args.source ∷ codes "=>" ∷ more) refl refl ∙ given-own (codes "SRC") args.source (codes "=>" ∷ more) refl) is.1) (
    refl))

-- CRTLF
abbrev pub create_logical_words : CreateLogicalFile → List (List ℕ)
create_logical_words args = word_of (codes "FILE") args.file ∷ word_of (codes "SRC") args.source ∷ []

create_logical-follows : (args : CreateLogicalFile) → IsName args.file × IsName args.source
    → Follows (parameter (codes "FILE") args.file ++ parameter (codes "SRC") args.source) (create_logical_words args)
create_logical-follows args is =
    (both _ _ (word_of (codes "FILE") args.file ∷ []) (word_of (codes "SRC") args.source ∷ []) (parameter-follows (codes "FILE") args.file refl refl (name-inside args.file is.0))
    (parameter-follows (codes "SRC") args.source refl refl (name-inside args.source is.1)))

create_logical-reads : (args : CreateLogicalFile) → IsName args.file × IsName args.source → (more : List (List ℕ)) → create_logical (create_logical_words args ++ codes "=>" ∷ more) ≡ Some args
unfolding create_logical inside
create_logical-reads args is more =
    some-then _ _ args.file _ (name-given (codes "FILE") args.file (word_of (codes "FILE") args.file ∷ word_of (codes "SRC") args.source ∷ codes "=>" ∷ more)
    (given-own (codes "FILE") args.file (word_of (codes "SRC") args.source ∷ codes "=>" ∷ more) refl) is.0) (
    some-then _ _ args.source _ (name-given (codes "SRC") args.source (word_of (codes "FILE") args.file ∷ word_of (codes "SRC") args.source ∷ codes "=>" ∷ more) (given-next (codes "SRC")
    (word_of (codes "FILE") args.file) (word_of (codes "SRC") args.source ∷ codes "=>" ∷ more) refl refl ∙ given-own (codes "SRC") args.source (codes "=>" ∷ more) refl) is.1) (
    refl))

-- DLTF
abbrev pub delete_file_words : DeleteFile → List (List ℕ)
delete_file_words args = word_of (codes "FILE") args.file ∷ []

delete_file-follows : (args : DeleteFile) → IsName args.file → Follows (parameter (codes "FILE") args.file) (delete_file_words args)
delete_file-follows args is =
    (parameter-follows (codes "FILE") args.file refl refl (name-inside args.file is))

delete_file-reads : (args : DeleteFile) → IsName args.file → (more : List (List ℕ)) → delete_file (delete_file_words args ++ codes "=>" ∷ more) ≡ Some args
unfolding delete_file inside
delete_file-reads args is more =
    some-then _ _ args.file _ (name-given (codes "FILE") args.file (word_of (codes "FILE") args.file ∷ codes "=>" ∷ more) (given-own (codes "FILE") args.file (codes "=>" ∷ more) refl) is) (
    refl)

-- The member of ADDPFM, CLRPFM, RGZPFM and ENDJRNPF
abbrev pub file_member_words : FileMember → List (List ℕ)
file_member_words args = word_of (codes "FILE") args.file ∷ word_of (codes "MBR") args.member ∷ []

file_member-follows : (args : FileMember) → FitsFileMember args → Follows (parameter (codes "FILE") args.file ++ parameter (codes "MBR") args.member) (file_member_words args)
file_member-follows args is =
    (both _ _ (word_of (codes "FILE") args.file ∷ []) (word_of (codes "MBR") args.member ∷ []) (parameter-follows (codes "FILE") args.file refl refl (name-inside args.file is.0))
    (parameter-follows (codes "MBR") args.member refl refl (name-inside args.member is.1)))

file_member-reads : (args : FileMember) → FitsFileMember args → (more : List (List ℕ)) → file_member (file_member_words args ++ codes "=>" ∷ more) ≡ Some args
unfolding file_member inside
file_member-reads args is more =
    some-then _ _ args.file _ (name-given (codes "FILE") args.file (word_of (codes "FILE") args.file ∷ word_of (codes "MBR") args.member ∷ codes "=>" ∷ more)
    (given-own (codes "FILE") args.file (word_of (codes "MBR") args.member ∷ codes "=>" ∷ more) refl) is.0) (
    some-then _ _ args.member _ (name-given (codes "MBR") args.member (word_of (codes "FILE") args.file ∷ word_of (codes "MBR") args.member ∷ codes "=>" ∷ more) (given-next (codes "MBR")
    (word_of (codes "FILE") args.file) (word_of (codes "MBR") args.member ∷ codes "=>" ∷ more) refl refl ∙ given-own (codes "MBR") args.member (codes "=>" ∷ more) refl) is.1) (
    refl))

-- STRJRNPF
abbrev pub start_journaling_words : StartJournaling → List (List ℕ)
start_journaling_words args = word_of (codes "FILE") args.file ∷ word_of (codes "MBR") args.member ∷ word_of (codes "IMAGES") (images_text args.images) ∷ []

start_journaling-follows : (args : StartJournaling) → IsName args.file × IsName args.member
    → Follows (parameter (codes "FILE") args.file ++ parameter (codes "MBR") args.member ++ parameter (codes "IMAGES") (images_text args.images)) (start_journaling_words args)
start_journaling-follows args is =
    (both _ _ (word_of (codes "FILE") args.file ∷ word_of (codes "MBR") args.member ∷ []) (word_of (codes "IMAGES") (images_text args.images) ∷ []) (both _ _
    (word_of (codes "FILE") args.file ∷ []) (word_of (codes "MBR") args.member ∷ []) (parameter-follows (codes "FILE") args.file refl refl (name-inside args.file is.0))
    (parameter-follows (codes "MBR") args.member refl refl (name-inside args.member is.1))) (parameter-follows (codes "IMAGES") (images_text args.images) refl refl (images-inner args.images)))

start_journaling-reads : (args : StartJournaling) → IsName args.file × IsName args.member → (more : List (List ℕ)) → start_journaling (start_journaling_words args ++ codes "=>" ∷ more) ≡ Some args
unfolding start_journaling inside
start_journaling-reads args is more =
    some-then _ _ args.file _ (name-given (codes "FILE") args.file (word_of (codes "FILE") args.file ∷ word_of (codes "MBR") args.member ∷ word_of (codes "IMAGES") (images_text args.images)
    ∷ codes "=>" ∷ more) (given-own (codes "FILE") args.file (word_of (codes "MBR") args.member ∷ word_of (codes "IMAGES") (images_text args.images) ∷ codes "=>" ∷ more) refl) is.0) (
    some-then _ _ args.member _ (name-given (codes "MBR") args.member (word_of (codes "FILE") args.file ∷ word_of (codes "MBR") args.member
    ∷ word_of (codes "IMAGES") (images_text args.images) ∷ codes "=>" ∷ more) (given-next (codes "MBR") (word_of (codes "FILE") args.file) (word_of (codes "MBR") args.member
    ∷ word_of (codes "IMAGES") (images_text args.images) ∷ codes "=>" ∷ more) refl refl ∙ given-own (codes "MBR") args.member (word_of (codes "IMAGES") (images_text args.images)
    ∷ codes "=>" ∷ more) refl) is.1) (
    some-then _ _ args.images _ (images-given (codes "IMAGES") args.images (word_of (codes "FILE") args.file ∷ word_of (codes "MBR") args.member
    ∷ word_of (codes "IMAGES") (images_text args.images) ∷ codes "=>" ∷ more) (given-next (codes "IMAGES") (word_of (codes "FILE") args.file) (word_of (codes "MBR") args.member
    ∷ word_of (codes "IMAGES") (images_text args.images) ∷ codes "=>" ∷ more) refl refl ∙ given-next (codes "IMAGES") (word_of (codes "MBR") args.member)
    (word_of (codes "IMAGES") (images_text args.images) ∷ codes "=>" ∷ more) refl refl ∙ given-own (codes "IMAGES") (images_text args.images) (codes "=>" ∷ more) refl)) (
    refl)))

-- DLTJRNRCV
abbrev pub delete_receiver_words : DeleteReceiver → List (List ℕ)
delete_receiver_words args = word_of (codes "RCV") (decimal args.number) ∷ []

delete_receiver-follows : (args : DeleteReceiver) → IsNumber args.number → Follows (parameter (codes "RCV") (decimal args.number)) (delete_receiver_words args)
delete_receiver-follows args is =
    (parameter-follows (codes "RCV") (decimal args.number) refl refl (decimal-inside args.number (omega (arith, is))))

delete_receiver-reads : (args : DeleteReceiver) → IsNumber args.number → (more : List (List ℕ)) → delete_receiver (delete_receiver_words args ++ codes "=>" ∷ more) ≡ Some args
unfolding delete_receiver inside
delete_receiver-reads args is more =
    some-then _ _ args.number _ (number-given (codes "RCV") args.number (word_of (codes "RCV") (decimal args.number) ∷ codes "=>" ∷ more)
    (given-own (codes "RCV") (decimal args.number) (codes "=>" ∷ more) refl) is) (
    refl)

-- DSPJRN
abbrev pub display_journal_words : DisplayJournal → List (List ℕ)
display_journal_words args = word_of (codes "FROMENT") (decimal args.from) ∷ word_of (codes "TOENT") (decimal args.to) ∷ []

display_journal-follows : (args : DisplayJournal) → IsLong args.from × IsLong args.to
    → Follows (parameter (codes "FROMENT") (decimal args.from) ++ parameter (codes "TOENT") (decimal args.to)) (display_journal_words args)
display_journal-follows args is =
    (both _ _ (word_of (codes "FROMENT") (decimal args.from) ∷ []) (word_of (codes "TOENT") (decimal args.to) ∷ [])
    (parameter-follows (codes "FROMENT") (decimal args.from) refl refl (decimal-inside args.from (omega (arith, is.0))))
    (parameter-follows (codes "TOENT") (decimal args.to) refl refl (decimal-inside args.to (omega (arith, is.1)))))

display_journal-reads : (args : DisplayJournal) → IsLong args.from × IsLong args.to → (more : List (List ℕ)) → display_journal (display_journal_words args ++ codes "=>" ∷ more) ≡ Some args
unfolding display_journal inside
display_journal-reads args is more =
    some-then _ _ args.from _ (long-given (codes "FROMENT") args.from (word_of (codes "FROMENT") (decimal args.from) ∷ word_of (codes "TOENT") (decimal args.to) ∷ codes "=>" ∷ more)
    (given-own (codes "FROMENT") (decimal args.from) (word_of (codes "TOENT") (decimal args.to) ∷ codes "=>" ∷ more) refl) is.0) (
    some-then _ _ args.to _ (long-given (codes "TOENT") args.to (word_of (codes "FROMENT") (decimal args.from) ∷ word_of (codes "TOENT") (decimal args.to) ∷ codes "=>" ∷ more)
    (given-next (codes "TOENT") (word_of (codes "FROMENT") (decimal args.from)) (word_of (codes "TOENT") (decimal args.to) ∷ codes "=>" ∷ more) refl refl
    ∙ given-own (codes "TOENT") (decimal args.to) (codes "=>" ∷ more) refl) is.1) (
    refl))

-- The range of APYJRNCHG and RMVJRNCHG
abbrev pub journaled_changes_words : JournaledChanges → List (List ℕ)
journaled_changes_words args = word_of (codes "FILE") args.file ∷ word_of (codes "MBR") args.member ∷ word_of (codes "FROMENT") (end_text args.from)
    ∷ word_of (codes "TOENT") (end_text args.to) ∷ []

journaled_changes-follows : (args : JournaledChanges) → FitsJournaledChanges args
    → Follows (parameter (codes "FILE") args.file ++ parameter (codes "MBR") args.member ++ parameter (codes "FROMENT") (end_text args.from) ++ parameter (codes "TOENT") (end_text args.to)) (journaled_changes_words args)
journaled_changes-follows args is =
    (both _ _ (word_of (codes "FILE") args.file ∷ word_of (codes "MBR") args.member ∷ word_of (codes "FROMENT") (end_text args.from) ∷ []) (word_of (codes "TOENT") (end_text args.to) ∷ [])
    (both _ _ (word_of (codes "FILE") args.file ∷ word_of (codes "MBR") args.member ∷ []) (word_of (codes "FROMENT") (end_text args.from) ∷ []) (both _ _
    (word_of (codes "FILE") args.file ∷ []) (word_of (codes "MBR") args.member ∷ []) (parameter-follows (codes "FILE") args.file refl refl (name-inside args.file is.0))
    (parameter-follows (codes "MBR") args.member refl refl (name-inside args.member is.1)))
    (parameter-follows (codes "FROMENT") (end_text args.from) refl refl (end-inner args.from is.2))) (parameter-follows (codes "TOENT") (end_text args.to) refl refl (end-inner args.to is.3)))

journaled_changes-reads : (args : JournaledChanges) → FitsJournaledChanges args → (more : List (List ℕ)) → journaled_changes (journaled_changes_words args ++ codes "=>" ∷ more) ≡ Some args
unfolding journaled_changes inside
journaled_changes-reads args is more =
    some-then _ _ args.file _ (name-given (codes "FILE") args.file (word_of (codes "FILE") args.file ∷ word_of (codes "MBR") args.member ∷ word_of (codes "FROMENT") (end_text args.from)
    ∷ word_of (codes "TOENT") (end_text args.to) ∷ codes "=>" ∷ more) (given-own (codes "FILE") args.file (word_of (codes "MBR") args.member
    ∷ word_of (codes "FROMENT") (end_text args.from) ∷ word_of (codes "TOENT") (end_text args.to) ∷ codes "=>" ∷ more) refl) is.0) (
    some-then _ _ args.member _ (name-given (codes "MBR") args.member (word_of (codes "FILE") args.file ∷ word_of (codes "MBR") args.member ∷ word_of (codes "FROMENT") (end_text args.from)
    ∷ word_of (codes "TOENT") (end_text args.to) ∷ codes "=>" ∷ more) (given-next (codes "MBR") (word_of (codes "FILE") args.file) (word_of (codes "MBR") args.member
    ∷ word_of (codes "FROMENT") (end_text args.from) ∷ word_of (codes "TOENT") (end_text args.to) ∷ codes "=>" ∷ more) refl refl ∙ given-own (codes "MBR") args.member
    (word_of (codes "FROMENT") (end_text args.from) ∷ word_of (codes "TOENT") (end_text args.to) ∷ codes "=>" ∷ more) refl) is.1) (
    some-then _ _ args.from _ (end-given (codes "FROMENT") args.from (word_of (codes "FILE") args.file ∷ word_of (codes "MBR") args.member ∷ word_of (codes "FROMENT") (end_text args.from)
    ∷ word_of (codes "TOENT") (end_text args.to) ∷ codes "=>" ∷ more) (given-next (codes "FROMENT") (word_of (codes "FILE") args.file) (word_of (codes "MBR") args.member
    ∷ word_of (codes "FROMENT") (end_text args.from) ∷ word_of (codes "TOENT") (end_text args.to) ∷ codes "=>" ∷ more) refl refl ∙ given-next (codes "FROMENT")
    (word_of (codes "MBR") args.member) (word_of (codes "FROMENT") (end_text args.from) ∷ word_of (codes "TOENT") (end_text args.to) ∷ codes "=>" ∷ more) refl refl
    ∙ given-own (codes "FROMENT") (end_text args.from) (word_of (codes "TOENT") (end_text args.to) ∷ codes "=>" ∷ more) refl) is.2) (
    some-then _ _ args.to _ (end-given (codes "TOENT") args.to (word_of (codes "FILE") args.file ∷ word_of (codes "MBR") args.member ∷ word_of (codes "FROMENT") (end_text args.from)
    ∷ word_of (codes "TOENT") (end_text args.to) ∷ codes "=>" ∷ more) (given-next (codes "TOENT") (word_of (codes "FILE") args.file) (word_of (codes "MBR") args.member
    ∷ word_of (codes "FROMENT") (end_text args.from) ∷ word_of (codes "TOENT") (end_text args.to) ∷ codes "=>" ∷ more) refl refl ∙ given-next (codes "TOENT")
    (word_of (codes "MBR") args.member) (word_of (codes "FROMENT") (end_text args.from) ∷ word_of (codes "TOENT") (end_text args.to) ∷ codes "=>" ∷ more) refl refl
    ∙ given-next (codes "TOENT") (word_of (codes "FROMENT") (end_text args.from)) (word_of (codes "TOENT") (end_text args.to) ∷ codes "=>" ∷ more) refl refl
    ∙ given-own (codes "TOENT") (end_text args.to) (codes "=>" ∷ more) refl) is.3) (
    refl))))

-- STRCMTCTL
abbrev pub start_commitment_words : StartCommitment → List (List ℕ)
start_commitment_words args = word_of (codes "LCKLVL") (level_text args.level) ∷ []

start_commitment-follows : (args : StartCommitment) → ⊤ → Follows (parameter (codes "LCKLVL") (level_text args.level)) (start_commitment_words args)
start_commitment-follows args is =
    (parameter-follows (codes "LCKLVL") (level_text args.level) refl refl (level-inner args.level))

start_commitment-reads : (args : StartCommitment) → ⊤ → (more : List (List ℕ)) → start_commitment (start_commitment_words args ++ codes "=>" ∷ more) ≡ Some args
unfolding start_commitment inside
start_commitment-reads args is more =
    some-then _ _ args.level _ (level-given (codes "LCKLVL") args.level (word_of (codes "LCKLVL") (level_text args.level) ∷ codes "=>" ∷ more)
    (given-own (codes "LCKLVL") (level_text args.level) (codes "=>" ∷ more) refl)) (
    refl)

-- ENDJOB
abbrev pub end_job_words : EndJob → List (List ℕ)
end_job_words args = word_of (codes "REASON") (reason_text args.reason) ∷ word_of (codes "LINE") (decimal args.line) ∷ []

end_job-follows : (args : EndJob) → IsNumber args.line → Follows (parameter (codes "REASON") (reason_text args.reason) ++ parameter (codes "LINE") (decimal args.line)) (end_job_words args)
end_job-follows args is =
    (both _ _ (word_of (codes "REASON") (reason_text args.reason) ∷ []) (word_of (codes "LINE") (decimal args.line) ∷ [])
    (parameter-follows (codes "REASON") (reason_text args.reason) refl refl (reason-inner args.reason))
    (parameter-follows (codes "LINE") (decimal args.line) refl refl (decimal-inside args.line (omega (arith, is)))))

end_job-reads : (args : EndJob) → IsNumber args.line → (more : List (List ℕ)) → end_job (end_job_words args ++ codes "=>" ∷ more) ≡ Some args
unfolding end_job inside
end_job-reads args is more =
    some-then _ _ args.reason _ (reason-given (codes "REASON") args.reason (word_of (codes "REASON") (reason_text args.reason) ∷ word_of (codes "LINE") (decimal args.line) ∷ codes "=>"
    ∷ more) (given-own (codes "REASON") (reason_text args.reason) (word_of (codes "LINE") (decimal args.line) ∷ codes "=>" ∷ more) refl)) (
    some-then _ _ args.line _ (number-given (codes "LINE") args.line (word_of (codes "REASON") (reason_text args.reason) ∷ word_of (codes "LINE") (decimal args.line) ∷ codes "=>" ∷ more)
    (given-next (codes "LINE") (word_of (codes "REASON") (reason_text args.reason)) (word_of (codes "LINE") (decimal args.line) ∷ codes "=>" ∷ more) refl refl
    ∙ given-own (codes "LINE") (decimal args.line) (codes "=>" ∷ more) refl) is) (
    refl))

-- OPNDBF
abbrev pub open_file_words : OpenFile → List (List ℕ)
open_file_words args = word_of (codes "FILE") args.file ∷ word_of (codes "OPTION") (option_text args.option) ∷ word_of (codes "MBR") args.member ∷ word_of (codes "OPNID") args.open_id
    ∷ word_of (codes "COMMIT") (yes_or_no args.commit) ∷ word_of (codes "ACCPTH") (path_text args.access_path) ∷ []

open_file-follows : (args : OpenFile) → IsName args.file × IsName args.member × IsName args.open_id
    → Follows (parameter (codes "FILE") args.file ++ parameter (codes "OPTION") (option_text args.option) ++ parameter (codes "MBR") args.member ++ parameter (codes "OPNID") args.open_id ++ parameter (codes "COMMIT") (yes_or_no args.commit) ++ parameter (codes "ACCPTH") (path_text args.access_path)) (open_file_words args)
open_file-follows args is =
    (both _ _ (word_of (codes "FILE") args.file ∷ word_of (codes "OPTION") (option_text args.option) ∷ word_of (codes "MBR") args.member ∷ word_of (codes "OPNID") args.open_id
    ∷ word_of (codes "COMMIT") (yes_or_no args.commit) ∷ []) (word_of (codes "ACCPTH") (path_text args.access_path) ∷ []) (both _ _ (word_of (codes "FILE") args.file
    ∷ word_of (codes "OPTION") (option_text args.option) ∷ word_of (codes "MBR") args.member ∷ word_of (codes "OPNID") args.open_id ∷ [])
    (word_of (codes "COMMIT") (yes_or_no args.commit) ∷ []) (both _ _ (word_of (codes "FILE") args.file ∷ word_of (codes "OPTION") (option_text args.option)
    ∷ word_of (codes "MBR") args.member ∷ []) (word_of (codes "OPNID") args.open_id ∷ []) (both _ _ (word_of (codes "FILE") args.file
    ∷ word_of (codes "OPTION") (option_text args.option) ∷ []) (word_of (codes "MBR") args.member ∷ []) (both _ _ (word_of (codes "FILE") args.file ∷ [])
    (word_of (codes "OPTION") (option_text args.option) ∷ []) (parameter-follows (codes "FILE") args.file refl refl (name-inside args.file is.0))
    (parameter-follows (codes "OPTION") (option_text args.option) refl refl (option-inner args.option)))
    (parameter-follows (codes "MBR") args.member refl refl (name-inside args.member is.1))) (parameter-follows (codes "OPNID") args.open_id refl refl (name-inside args.open_id is.2)))
    (parameter-follows (codes "COMMIT") (yes_or_no args.commit) refl refl (yes-inner args.commit)))
    (parameter-follows (codes "ACCPTH") (path_text args.access_path) refl refl (path-inner args.access_path)))

open_file-reads : (args : OpenFile) → IsName args.file × IsName args.member × IsName args.open_id → (more : List (List ℕ)) → open_file (open_file_words args ++ codes "=>" ∷ more) ≡ Some args
unfolding open_file inside
open_file-reads args is more =
    some-then _ _ args.file _ (name-given (codes "FILE") args.file (word_of (codes "FILE") args.file ∷ word_of (codes "OPTION") (option_text args.option) ∷ word_of (codes "MBR") args.member
    ∷ word_of (codes "OPNID") args.open_id ∷ word_of (codes "COMMIT") (yes_or_no args.commit) ∷ word_of (codes "ACCPTH") (path_text args.access_path) ∷ codes "=>" ∷ more)
    (given-own (codes "FILE") args.file (word_of (codes "OPTION") (option_text args.option) ∷ word_of (codes "MBR") args.member ∷ word_of (codes "OPNID") args.open_id
    ∷ word_of (codes "COMMIT") (yes_or_no args.commit) ∷ word_of (codes "ACCPTH") (path_text args.access_path) ∷ codes "=>" ∷ more) refl) is.0) (
    some-then _ _ args.option _ (option-given (codes "OPTION") args.option (word_of (codes "FILE") args.file ∷ word_of (codes "OPTION") (option_text args.option)
    ∷ word_of (codes "MBR") args.member ∷ word_of (codes "OPNID") args.open_id ∷ word_of (codes "COMMIT") (yes_or_no args.commit) ∷ word_of (codes "ACCPTH") (path_text args.access_path)
    ∷ codes "=>" ∷ more) (given-next (codes "OPTION") (word_of (codes "FILE") args.file) (word_of (codes "OPTION") (option_text args.option) ∷ word_of (codes "MBR") args.member
    ∷ word_of (codes "OPNID") args.open_id ∷ word_of (codes "COMMIT") (yes_or_no args.commit) ∷ word_of (codes "ACCPTH") (path_text args.access_path) ∷ codes "=>" ∷ more) refl refl
    ∙ given-own (codes "OPTION") (option_text args.option) (word_of (codes "MBR") args.member ∷ word_of (codes "OPNID") args.open_id ∷ word_of (codes "COMMIT") (yes_or_no args.commit)
    ∷ word_of (codes "ACCPTH") (path_text args.access_path) ∷ codes "=>" ∷ more) refl)) (
    some-then _ _ args.member _ (name-given (codes "MBR") args.member (word_of (codes "FILE") args.file ∷ word_of (codes "OPTION") (option_text args.option)
    ∷ word_of (codes "MBR") args.member ∷ word_of (codes "OPNID") args.open_id ∷ word_of (codes "COMMIT") (yes_or_no args.commit) ∷ word_of (codes "ACCPTH") (path_text args.access_path)
    ∷ codes "=>" ∷ more) (given-next (codes "MBR") (word_of (codes "FILE") args.file) (word_of (codes "OPTION") (option_text args.option) ∷ word_of (codes "MBR") args.member
    ∷ word_of (codes "OPNID") args.open_id ∷ word_of (codes "COMMIT") (yes_or_no args.commit) ∷ word_of (codes "ACCPTH") (path_text args.access_path) ∷ codes "=>" ∷ more) refl refl
    ∙ given-next (codes "MBR") (word_of (codes "OPTION") (option_text args.option)) (word_of (codes "MBR") args.member ∷ word_of (codes "OPNID") args.open_id
    ∷ word_of (codes "COMMIT") (yes_or_no args.commit) ∷ word_of (codes "ACCPTH") (path_text args.access_path) ∷ codes "=>" ∷ more) refl refl ∙ given-own (codes "MBR") args.member
    (word_of (codes "OPNID") args.open_id ∷ word_of (codes "COMMIT") (yes_or_no args.commit) ∷ word_of (codes "ACCPTH") (path_text args.access_path) ∷ codes "=>" ∷ more) refl) is.1) (
    some-then _ _ args.open_id _ (name-given (codes "OPNID") args.open_id (word_of (codes "FILE") args.file ∷ word_of (codes "OPTION") (option_text args.option)
    ∷ word_of (codes "MBR") args.member ∷ word_of (codes "OPNID") args.open_id ∷ word_of (codes "COMMIT") (yes_or_no args.commit) ∷ word_of (codes "ACCPTH") (path_text args.access_path)
    ∷ codes "=>" ∷ more) (given-next (codes "OPNID") (word_of (codes "FILE") args.file) (word_of (codes "OPTION") (option_text args.option) ∷ word_of (codes "MBR") args.member
    ∷ word_of (codes "OPNID") args.open_id ∷ word_of (codes "COMMIT") (yes_or_no args.commit) ∷ word_of (codes "ACCPTH") (path_text args.access_path) ∷ codes "=>" ∷ more) refl refl
    ∙ given-next (codes "OPNID") (word_of (codes "OPTION") (option_text args.option)) (word_of (codes "MBR") args.member ∷ word_of (codes "OPNID") args.open_id
    ∷ word_of (codes "COMMIT") (yes_or_no args.commit) ∷ word_of (codes "ACCPTH") (path_text args.access_path) ∷ codes "=>" ∷ more) refl refl ∙ given-next (codes "OPNID")
    (word_of (codes "MBR") args.member) (word_of (codes "OPNID") args.open_id ∷ word_of (codes "COMMIT") (yes_or_no args.commit) ∷ word_of (codes "ACCPTH") (path_text args.access_path)
    ∷ codes "=>" ∷ more) refl refl ∙ given-own (codes "OPNID") args.open_id (word_of (codes "COMMIT") (yes_or_no args.commit) ∷ word_of (codes "ACCPTH") (path_text args.access_path)
    ∷ codes "=>" ∷ more) refl) is.2) (
    some-then _ _ args.commit _ (yes-given (codes "COMMIT") args.commit (word_of (codes "FILE") args.file ∷ word_of (codes "OPTION") (option_text args.option)
    ∷ word_of (codes "MBR") args.member ∷ word_of (codes "OPNID") args.open_id ∷ word_of (codes "COMMIT") (yes_or_no args.commit) ∷ word_of (codes "ACCPTH") (path_text args.access_path)
    ∷ codes "=>" ∷ more) (given-next (codes "COMMIT") (word_of (codes "FILE") args.file) (word_of (codes "OPTION") (option_text args.option) ∷ word_of (codes "MBR") args.member
    ∷ word_of (codes "OPNID") args.open_id ∷ word_of (codes "COMMIT") (yes_or_no args.commit) ∷ word_of (codes "ACCPTH") (path_text args.access_path) ∷ codes "=>" ∷ more) refl refl
    ∙ given-next (codes "COMMIT") (word_of (codes "OPTION") (option_text args.option)) (word_of (codes "MBR") args.member ∷ word_of (codes "OPNID") args.open_id
    ∷ word_of (codes "COMMIT") (yes_or_no args.commit) ∷ word_of (codes "ACCPTH") (path_text args.access_path) ∷ codes "=>" ∷ more) refl refl ∙ given-next (codes "COMMIT")
    (word_of (codes "MBR") args.member) (word_of (codes "OPNID") args.open_id ∷ word_of (codes "COMMIT") (yes_or_no args.commit) ∷ word_of (codes "ACCPTH") (path_text args.access_path)
    ∷ codes "=>" ∷ more) refl refl ∙ given-next (codes "COMMIT") (word_of (codes "OPNID") args.open_id) (word_of (codes "COMMIT") (yes_or_no args.commit)
    ∷ word_of (codes "ACCPTH") (path_text args.access_path) ∷ codes "=>" ∷ more) refl refl ∙ given-own (codes "COMMIT") (yes_or_no args.commit)
    (word_of (codes "ACCPTH") (path_text args.access_path) ∷ codes "=>" ∷ more) refl)) (
    some-then _ _ args.access_path _ (path-given (codes "ACCPTH") args.access_path (word_of (codes "FILE") args.file ∷ word_of (codes "OPTION") (option_text args.option)
    ∷ word_of (codes "MBR") args.member ∷ word_of (codes "OPNID") args.open_id ∷ word_of (codes "COMMIT") (yes_or_no args.commit) ∷ word_of (codes "ACCPTH") (path_text args.access_path)
    ∷ codes "=>" ∷ more) (given-next (codes "ACCPTH") (word_of (codes "FILE") args.file) (word_of (codes "OPTION") (option_text args.option) ∷ word_of (codes "MBR") args.member
    ∷ word_of (codes "OPNID") args.open_id ∷ word_of (codes "COMMIT") (yes_or_no args.commit) ∷ word_of (codes "ACCPTH") (path_text args.access_path) ∷ codes "=>" ∷ more) refl refl
    ∙ given-next (codes "ACCPTH") (word_of (codes "OPTION") (option_text args.option)) (word_of (codes "MBR") args.member ∷ word_of (codes "OPNID") args.open_id
    ∷ word_of (codes "COMMIT") (yes_or_no args.commit) ∷ word_of (codes "ACCPTH") (path_text args.access_path) ∷ codes "=>" ∷ more) refl refl ∙ given-next (codes "ACCPTH")
    (word_of (codes "MBR") args.member) (word_of (codes "OPNID") args.open_id ∷ word_of (codes "COMMIT") (yes_or_no args.commit) ∷ word_of (codes "ACCPTH") (path_text args.access_path)
    ∷ codes "=>" ∷ more) refl refl ∙ given-next (codes "ACCPTH") (word_of (codes "OPNID") args.open_id) (word_of (codes "COMMIT") (yes_or_no args.commit)
    ∷ word_of (codes "ACCPTH") (path_text args.access_path) ∷ codes "=>" ∷ more) refl refl ∙ given-next (codes "ACCPTH") (word_of (codes "COMMIT") (yes_or_no args.commit))
    (word_of (codes "ACCPTH") (path_text args.access_path) ∷ codes "=>" ∷ more) refl refl ∙ given-own (codes "ACCPTH") (path_text args.access_path) (codes "=>" ∷ more) refl)) (
    refl))))))

-- The open of CLOF, DELETE and UNLOCK
abbrev pub open_name_words : OpenName → List (List ℕ)
open_name_words args = word_of (codes "OPNID") args.open_id ∷ []

open_name-follows : (args : OpenName) → IsName args.open_id → Follows (parameter (codes "OPNID") args.open_id) (open_name_words args)
open_name-follows args is =
    (parameter-follows (codes "OPNID") args.open_id refl refl (name-inside args.open_id is))

open_name-reads : (args : OpenName) → IsName args.open_id → (more : List (List ℕ)) → open_name (open_name_words args ++ codes "=>" ∷ more) ≡ Some args
unfolding open_name inside
open_name-reads args is more =
    some-then _ _ args.open_id _ (name-given (codes "OPNID") args.open_id (word_of (codes "OPNID") args.open_id ∷ codes "=>" ∷ more) (given-own (codes "OPNID") args.open_id (codes "=>"
    ∷ more) refl) is) (
    refl)

-- SETLL and SETGT
abbrev pub set_position_words : SetPosition → List (List ℕ)
set_position_words args = word_of (codes "OPNID") args.open_id ∷ limit_word_of args.to ∷ []

set_position-follows : (args : SetPosition) → FitsSetPosition args → Follows (parameter (codes "OPNID") args.open_id ++ limit_parameter args.to) (set_position_words args)
set_position-follows args is =
    (both _ _ (word_of (codes "OPNID") args.open_id ∷ []) (limit_word_of args.to ∷ [])
    (parameter-follows (codes "OPNID") args.open_id refl refl (name-inside args.open_id is.0)) (limit-follows args.to is.1))

set_position-reads : (args : SetPosition) → FitsSetPosition args → (more : List (List ℕ)) → set_position (set_position_words args ++ codes "=>" ∷ more) ≡ Some args
unfolding set_position inside
set_position-reads args is more =
    some-then _ _ args.open_id _ (name-given (codes "OPNID") args.open_id (word_of (codes "OPNID") args.open_id ∷ limit_word_of args.to ∷ codes "=>" ∷ more)
    (given-own (codes "OPNID") args.open_id (limit_word_of args.to ∷ codes "=>" ∷ more) refl) is.0) (
    some-then _ _ args.to _ (limit-given args.open_id args.to more is.1) (
    refl))

-- READ and READP
abbrev pub read_record_words : ReadRecord → List (List ℕ)
read_record_words args = word_of (codes "OPNID") args.open_id ∷ word_of (codes "LCK") (lock_text args.lock) ∷ []

read_record-follows : (args : ReadRecord) → FitsReadRecord args → Follows (parameter (codes "OPNID") args.open_id ++ parameter (codes "LCK") (lock_text args.lock)) (read_record_words args)
read_record-follows args is =
    (both _ _ (word_of (codes "OPNID") args.open_id ∷ []) (word_of (codes "LCK") (lock_text args.lock) ∷ [])
    (parameter-follows (codes "OPNID") args.open_id refl refl (name-inside args.open_id is)) (parameter-follows (codes "LCK") (lock_text args.lock) refl refl (lock-inner args.lock)))

read_record-reads : (args : ReadRecord) → FitsReadRecord args → (more : List (List ℕ)) → read_record (read_record_words args ++ codes "=>" ∷ more) ≡ Some args
unfolding read_record inside
read_record-reads args is more =
    some-then _ _ args.open_id _ (name-given (codes "OPNID") args.open_id (word_of (codes "OPNID") args.open_id ∷ word_of (codes "LCK") (lock_text args.lock) ∷ codes "=>" ∷ more)
    (given-own (codes "OPNID") args.open_id (word_of (codes "LCK") (lock_text args.lock) ∷ codes "=>" ∷ more) refl) is) (
    some-then _ _ args.lock _ (lock-given (codes "LCK") args.lock (word_of (codes "OPNID") args.open_id ∷ word_of (codes "LCK") (lock_text args.lock) ∷ codes "=>" ∷ more)
    (given-next (codes "LCK") (word_of (codes "OPNID") args.open_id) (word_of (codes "LCK") (lock_text args.lock) ∷ codes "=>" ∷ more) refl refl
    ∙ given-own (codes "LCK") (lock_text args.lock) (codes "=>" ∷ more) refl)) (
    refl))

-- READE and READPE
abbrev pub read_equal_words : ReadEqual → List (List ℕ)
read_equal_words args = word_of (codes "OPNID") args.open_id ∷ word_of (codes "KEY") (values_text args.key) ∷ word_of (codes "LCK") (lock_text args.lock) ∷ []

read_equal-follows : (args : ReadEqual) → FitsReadEqual args
    → Follows (parameter (codes "OPNID") args.open_id ++ parameter (codes "KEY") (values_text args.key) ++ parameter (codes "LCK") (lock_text args.lock)) (read_equal_words args)
read_equal-follows args is =
    (both _ _ (word_of (codes "OPNID") args.open_id ∷ word_of (codes "KEY") (values_text args.key) ∷ []) (word_of (codes "LCK") (lock_text args.lock) ∷ []) (both _ _
    (word_of (codes "OPNID") args.open_id ∷ []) (word_of (codes "KEY") (values_text args.key) ∷ [])
    (parameter-follows (codes "OPNID") args.open_id refl refl (name-inside args.open_id is.0))
    (parameter-follows (codes "KEY") (values_text args.key) refl refl (values-inner args.key is.1))) (parameter-follows (codes "LCK") (lock_text args.lock) refl refl (lock-inner args.lock)))

read_equal-reads : (args : ReadEqual) → FitsReadEqual args → (more : List (List ℕ)) → read_equal (read_equal_words args ++ codes "=>" ∷ more) ≡ Some args
unfolding read_equal inside
read_equal-reads args is more =
    some-then _ _ args.open_id _ (name-given (codes "OPNID") args.open_id (word_of (codes "OPNID") args.open_id ∷ word_of (codes "KEY") (values_text args.key)
    ∷ word_of (codes "LCK") (lock_text args.lock) ∷ codes "=>" ∷ more) (given-own (codes "OPNID") args.open_id (word_of (codes "KEY") (values_text args.key)
    ∷ word_of (codes "LCK") (lock_text args.lock) ∷ codes "=>" ∷ more) refl) is.0) (
    some-then _ _ args.key _ (values-given (codes "KEY") args.key (word_of (codes "OPNID") args.open_id ∷ word_of (codes "KEY") (values_text args.key)
    ∷ word_of (codes "LCK") (lock_text args.lock) ∷ codes "=>" ∷ more) (given-next (codes "KEY") (word_of (codes "OPNID") args.open_id) (word_of (codes "KEY") (values_text args.key)
    ∷ word_of (codes "LCK") (lock_text args.lock) ∷ codes "=>" ∷ more) refl refl ∙ given-own (codes "KEY") (values_text args.key) (word_of (codes "LCK") (lock_text args.lock)
    ∷ codes "=>" ∷ more) refl) is.1) (
    some-then _ _ args.lock _ (lock-given (codes "LCK") args.lock (word_of (codes "OPNID") args.open_id ∷ word_of (codes "KEY") (values_text args.key)
    ∷ word_of (codes "LCK") (lock_text args.lock) ∷ codes "=>" ∷ more) (given-next (codes "LCK") (word_of (codes "OPNID") args.open_id) (word_of (codes "KEY") (values_text args.key)
    ∷ word_of (codes "LCK") (lock_text args.lock) ∷ codes "=>" ∷ more) refl refl ∙ given-next (codes "LCK") (word_of (codes "KEY") (values_text args.key))
    (word_of (codes "LCK") (lock_text args.lock) ∷ codes "=>" ∷ more) refl refl ∙ given-own (codes "LCK") (lock_text args.lock) (codes "=>" ∷ more) refl)) (
    refl)))

-- CHAIN
abbrev pub chain_record_words : ChainRecord → List (List ℕ)
chain_record_words args = word_of (codes "OPNID") args.open_id ∷ chain_word_of args.to ∷ word_of (codes "LCK") (lock_text args.lock) ∷ []

chain_record-follows : (args : ChainRecord) → IsName args.open_id × IsChainTo args.to
    → Follows (parameter (codes "OPNID") args.open_id ++ chain_parameter args.to ++ parameter (codes "LCK") (lock_text args.lock)) (chain_record_words args)
chain_record-follows args is =
    (both _ _ (word_of (codes "OPNID") args.open_id ∷ chain_word_of args.to ∷ []) (word_of (codes "LCK") (lock_text args.lock) ∷ []) (both _ _ (word_of (codes "OPNID") args.open_id
    ∷ []) (chain_word_of args.to ∷ []) (parameter-follows (codes "OPNID") args.open_id refl refl (name-inside args.open_id is.0)) (chain-follows args.to is.1))
    (parameter-follows (codes "LCK") (lock_text args.lock) refl refl (lock-inner args.lock)))

chain_record-reads : (args : ChainRecord) → IsName args.open_id × IsChainTo args.to → (more : List (List ℕ)) → chain_record (chain_record_words args ++ codes "=>" ∷ more) ≡ Some args
unfolding chain_record inside
chain_record-reads args is more =
    some-then _ _ args.open_id _ (name-given (codes "OPNID") args.open_id (word_of (codes "OPNID") args.open_id ∷ chain_word_of args.to ∷ word_of (codes "LCK") (lock_text args.lock)
    ∷ codes "=>" ∷ more) (given-own (codes "OPNID") args.open_id (chain_word_of args.to ∷ word_of (codes "LCK") (lock_text args.lock) ∷ codes "=>" ∷ more) refl) is.0) (
    some-then _ _ args.to _ (chain-given args.open_id args.to args.lock more is.1) (
    some-then _ _ args.lock _ (lock-given (codes "LCK") args.lock (word_of (codes "OPNID") args.open_id ∷ chain_word_of args.to ∷ word_of (codes "LCK") (lock_text args.lock) ∷ codes "=>"
    ∷ more) (given-next (codes "LCK") (word_of (codes "OPNID") args.open_id) (chain_word_of args.to ∷ word_of (codes "LCK") (lock_text args.lock) ∷ codes "=>" ∷ more) refl refl
    ∙ given-next (codes "LCK") (chain_word_of args.to) (word_of (codes "LCK") (lock_text args.lock) ∷ codes "=>" ∷ more) (chain-break args.to) (chain-lock args.to)
    ∙ given-own (codes "LCK") (lock_text args.lock) (codes "=>" ∷ more) refl)) (
    refl)))

-- WRITE
abbrev pub write_record_words : WriteRecord → List (List ℕ)
write_record_words args = word_of (codes "OPNID") args.open_id ∷ word_of (codes "FMT") (format_text args.format) ∷ word_of (codes "RRN") (place_text args.record_number)
    ∷ word_of (codes "VAL") (given_values_text args.values) ∷ []

write_record-follows : (args : WriteRecord) → IsName args.open_id × IsFormat args.format × IsPlace args.record_number × AreGiven args.values
    → Follows (parameter (codes "OPNID") args.open_id ++ parameter (codes "FMT") (format_text args.format) ++ parameter (codes "RRN") (place_text args.record_number) ++ parameter (codes "VAL") (given_values_text args.values)) (write_record_words args)
write_record-follows args is =
    (both _ _ (word_of (codes "OPNID") args.open_id ∷ word_of (codes "FMT") (format_text args.format) ∷ word_of (codes "RRN") (place_text args.record_number) ∷ [])
    (word_of (codes "VAL") (given_values_text args.values) ∷ []) (both _ _ (word_of (codes "OPNID") args.open_id ∷ word_of (codes "FMT") (format_text args.format) ∷ [])
    (word_of (codes "RRN") (place_text args.record_number) ∷ []) (both _ _ (word_of (codes "OPNID") args.open_id ∷ []) (word_of (codes "FMT") (format_text args.format) ∷ [])
    (parameter-follows (codes "OPNID") args.open_id refl refl (name-inside args.open_id is.0))
    (parameter-follows (codes "FMT") (format_text args.format) refl refl (format-inner args.format is.1)))
    (parameter-follows (codes "RRN") (place_text args.record_number) refl refl (place-inner args.record_number is.2)))
    (parameter-follows (codes "VAL") (given_values_text args.values) refl refl (givens-inner args.values is.3)))

write_record-reads : (args : WriteRecord) → IsName args.open_id × IsFormat args.format × IsPlace args.record_number × AreGiven args.values → (more : List (List ℕ))
    → write_record (write_record_words args ++ codes "=>" ∷ more) ≡ Some args
unfolding write_record inside
write_record-reads args is more =
    some-then _ _ args.open_id _ (name-given (codes "OPNID") args.open_id (word_of (codes "OPNID") args.open_id ∷ word_of (codes "FMT") (format_text args.format)
    ∷ word_of (codes "RRN") (place_text args.record_number) ∷ word_of (codes "VAL") (given_values_text args.values) ∷ codes "=>" ∷ more) (given-own (codes "OPNID") args.open_id
    (word_of (codes "FMT") (format_text args.format) ∷ word_of (codes "RRN") (place_text args.record_number) ∷ word_of (codes "VAL") (given_values_text args.values) ∷ codes "=>"
    ∷ more) refl) is.0) (
    some-then _ _ args.format _ (format-given (codes "FMT") args.format (word_of (codes "OPNID") args.open_id ∷ word_of (codes "FMT") (format_text args.format)
    ∷ word_of (codes "RRN") (place_text args.record_number) ∷ word_of (codes "VAL") (given_values_text args.values) ∷ codes "=>" ∷ more) (given-next (codes "FMT")
    (word_of (codes "OPNID") args.open_id) (word_of (codes "FMT") (format_text args.format) ∷ word_of (codes "RRN") (place_text args.record_number)
    ∷ word_of (codes "VAL") (given_values_text args.values) ∷ codes "=>" ∷ more) refl refl ∙ given-own (codes "FMT") (format_text args.format)
    (word_of (codes "RRN") (place_text args.record_number) ∷ word_of (codes "VAL") (given_values_text args.values) ∷ codes "=>" ∷ more) refl) is.1) (
    some-then _ _ args.record_number _ (place-given (codes "RRN") args.record_number (word_of (codes "OPNID") args.open_id ∷ word_of (codes "FMT") (format_text args.format)
    ∷ word_of (codes "RRN") (place_text args.record_number) ∷ word_of (codes "VAL") (given_values_text args.values) ∷ codes "=>" ∷ more) (given-next (codes "RRN")
    (word_of (codes "OPNID") args.open_id) (word_of (codes "FMT") (format_text args.format) ∷ word_of (codes "RRN") (place_text args.record_number)
    ∷ word_of (codes "VAL") (given_values_text args.values) ∷ codes "=>" ∷ more) refl refl ∙ given-next (codes "RRN") (word_of (codes "FMT") (format_text args.format))
    (word_of (codes "RRN") (place_text args.record_number) ∷ word_of (codes "VAL") (given_values_text args.values) ∷ codes "=>" ∷ more) refl refl
    ∙ given-own (codes "RRN") (place_text args.record_number) (word_of (codes "VAL") (given_values_text args.values) ∷ codes "=>" ∷ more) refl) is.2) (
    some-then _ _ args.values _ (givens-given (codes "VAL") args.values (word_of (codes "OPNID") args.open_id ∷ word_of (codes "FMT") (format_text args.format)
    ∷ word_of (codes "RRN") (place_text args.record_number) ∷ word_of (codes "VAL") (given_values_text args.values) ∷ codes "=>" ∷ more) (given-next (codes "VAL")
    (word_of (codes "OPNID") args.open_id) (word_of (codes "FMT") (format_text args.format) ∷ word_of (codes "RRN") (place_text args.record_number)
    ∷ word_of (codes "VAL") (given_values_text args.values) ∷ codes "=>" ∷ more) refl refl ∙ given-next (codes "VAL") (word_of (codes "FMT") (format_text args.format))
    (word_of (codes "RRN") (place_text args.record_number) ∷ word_of (codes "VAL") (given_values_text args.values) ∷ codes "=>" ∷ more) refl refl ∙ given-next (codes "VAL")
    (word_of (codes "RRN") (place_text args.record_number)) (word_of (codes "VAL") (given_values_text args.values) ∷ codes "=>" ∷ more) refl refl
    ∙ given-own (codes "VAL") (given_values_text args.values) (codes "=>" ∷ more) refl) is.3) (
    refl))))

-- UPDATE
abbrev pub update_record_words : UpdateRecord → List (List ℕ)
update_record_words args = word_of (codes "OPNID") args.open_id ∷ word_of (codes "VAL") (given_values_text args.values) ∷ []

update_record-follows : (args : UpdateRecord) → IsName args.open_id × AreGiven args.values
    → Follows (parameter (codes "OPNID") args.open_id ++ parameter (codes "VAL") (given_values_text args.values)) (update_record_words args)
update_record-follows args is =
    (both _ _ (word_of (codes "OPNID") args.open_id ∷ []) (word_of (codes "VAL") (given_values_text args.values) ∷ [])
    (parameter-follows (codes "OPNID") args.open_id refl refl (name-inside args.open_id is.0))
    (parameter-follows (codes "VAL") (given_values_text args.values) refl refl (givens-inner args.values is.1)))

update_record-reads : (args : UpdateRecord) → IsName args.open_id × AreGiven args.values → (more : List (List ℕ)) → update_record (update_record_words args ++ codes "=>" ∷ more) ≡ Some args
unfolding update_record inside
update_record-reads args is more =
    some-then _ _ args.open_id _ (name-given (codes "OPNID") args.open_id (word_of (codes "OPNID") args.open_id ∷ word_of (codes "VAL") (given_values_text args.values) ∷ codes "=>" ∷ more)
    (given-own (codes "OPNID") args.open_id (word_of (codes "VAL") (given_values_text args.values) ∷ codes "=>" ∷ more) refl) is.0) (
    some-then _ _ args.values _ (givens-given (codes "VAL") args.values (word_of (codes "OPNID") args.open_id ∷ word_of (codes "VAL") (given_values_text args.values) ∷ codes "=>" ∷ more)
    (given-next (codes "VAL") (word_of (codes "OPNID") args.open_id) (word_of (codes "VAL") (given_values_text args.values) ∷ codes "=>" ∷ more) refl refl
    ∙ given-own (codes "VAL") (given_values_text args.values) (codes "=>" ∷ more) refl) is.1) (
    refl))

-- a command is a word
pub command-word : (r : Request) → IsWord (command r)
command-word (request.CreatePhysicalFile args) = record { text = refl; closed = refl }
command-word (request.CreateLogicalFile args) = record { text = refl; closed = refl }
command-word (request.DeleteFile args) = record { text = refl; closed = refl }
command-word (request.AddMember args) = record { text = refl; closed = refl }
command-word (request.ClearMember args) = record { text = refl; closed = refl }
command-word (request.ReorganizeMember args) = record { text = refl; closed = refl }
command-word (request.StartJournaling args) = record { text = refl; closed = refl }
command-word (request.EndJournaling args) = record { text = refl; closed = refl }
command-word request.ChangeJournal = record { text = refl; closed = refl }
command-word (request.DeleteReceiver args) = record { text = refl; closed = refl }
command-word request.Checkpoint = record { text = refl; closed = refl }
command-word (request.DisplayJournal args) = record { text = refl; closed = refl }
command-word (request.ApplyChanges args) = record { text = refl; closed = refl }
command-word (request.RemoveChanges args) = record { text = refl; closed = refl }
command-word (request.StartCommitment args) = record { text = refl; closed = refl }
command-word request.EndCommitment = record { text = refl; closed = refl }
command-word request.Commit = record { text = refl; closed = refl }
command-word request.Rollback = record { text = refl; closed = refl }
command-word (request.OpenFile args) = record { text = refl; closed = refl }
command-word (request.CloseFile args) = record { text = refl; closed = refl }
command-word (request.SetLowerLimit args) = record { text = refl; closed = refl }
command-word (request.SetGreaterThan args) = record { text = refl; closed = refl }
command-word (request.Read args) = record { text = refl; closed = refl }
command-word (request.ReadPrior args) = record { text = refl; closed = refl }
command-word (request.ReadEqual args) = record { text = refl; closed = refl }
command-word (request.ReadPriorEqual args) = record { text = refl; closed = refl }
command-word (request.Chain args) = record { text = refl; closed = refl }
command-word (request.Write args) = record { text = refl; closed = refl }
command-word (request.Update args) = record { text = refl; closed = refl }
command-word (request.Delete args) = record { text = refl; closed = refl }
command-word (request.Unlock args) = record { text = refl; closed = refl }
command-word (request.EndJob args) = record { text = refl; closed = refl }

-- the arrow behind parameters of which one may be KEY or RRN
limit-arrow : (name : List ℕ) (x : Limit) (more : List (List ℕ)) → behind_word (codes "=>") (word_of (codes "OPNID") name ∷ limit_word_of x ∷ codes "=>" ∷ more) ≡ Some more
limit-arrow name (limit.Key values) more = refl
limit-arrow name limit.LowValue more = refl
limit-arrow name limit.HighValue more = refl
limit-arrow name (limit.RecordNumber rrn) more = refl

chain-arrow : (name : List ℕ) (x : ChainTo) (lock : LockOption) (more : List (List ℕ)) → behind_word (codes "=>") (word_of (codes "OPNID") name ∷ chain_word_of x
    ∷ word_of (codes "LCK") (lock_text lock) ∷ codes "=>" ∷ more) ≡ Some more
chain-arrow name (chain_to.Key values) lock more = refl
chain-arrow name (chain_to.RecordNumber rrn) lock more = refl

-- the words of the parameters: which they are, that the request is read of them, and that the arrow is found behind them
pub record IsReadBack (r : Request) (ps : List (List ℕ)) : Type 0 where
  pub follows : Follows (parameters r) ps
  pub reads : (more : List (List ℕ)) → read_request (command r) (ps ++ codes "=>" ∷ more) ≡ Some r
  pub arrow : (more : List (List ℕ)) → behind_word (codes "=>") (ps ++ codes "=>" ∷ more) ≡ Some more

pub request-read : (r : Request) → IsRequest r → (ps : List (List ℕ)) × IsReadBack r ps
unfolding read_request request_named file_command journal_command open_command record_command request_of
request-read (request.CreatePhysicalFile args) is = (
  create_physical_words args,
  record {
    follows = create_physical-follows args is;
    reads = λ more. ap (option_map request.CreatePhysicalFile) (create_physical-reads args is more);
    arrow = λ more. refl;
  },
)
request-read (request.CreateLogicalFile args) is = (
  create_logical_words args,
  record {
    follows = create_logical-follows args is;
    reads = λ more. ap (option_map request.CreateLogicalFile) (create_logical-reads args is more);
    arrow = λ more. refl;
  },
)
request-read (request.DeleteFile args) is = (
  delete_file_words args,
  record {
    follows = delete_file-follows args is;
    reads = λ more. ap (option_map request.DeleteFile) (delete_file-reads args is more);
    arrow = λ more. refl;
  },
)
request-read (request.AddMember args) is = (
  file_member_words args,
  record {
    follows = file_member-follows args is;
    reads = λ more. ap (option_map request.AddMember) (file_member-reads args is more);
    arrow = λ more. refl;
  },
)
request-read (request.ClearMember args) is = (
  file_member_words args,
  record {
    follows = file_member-follows args is;
    reads = λ more. ap (option_map request.ClearMember) (file_member-reads args is more);
    arrow = λ more. refl;
  },
)
request-read (request.ReorganizeMember args) is = (
  file_member_words args,
  record {
    follows = file_member-follows args is;
    reads = λ more. ap (option_map request.ReorganizeMember) (file_member-reads args is more);
    arrow = λ more. refl;
  },
)
request-read (request.StartJournaling args) is = (
  start_journaling_words args,
  record {
    follows = start_journaling-follows args is;
    reads = λ more. ap (option_map request.StartJournaling) (start_journaling-reads args is more);
    arrow = λ more. refl;
  },
)
request-read (request.EndJournaling args) is = (
  file_member_words args,
  record {
    follows = file_member-follows args is;
    reads = λ more. ap (option_map request.EndJournaling) (file_member-reads args is more);
    arrow = λ more. refl;
  },
)
request-read request.ChangeJournal is = ([], record { follows = nothing; reads = λ more. refl; arrow = λ more. refl })
request-read (request.DeleteReceiver args) is = (
  delete_receiver_words args,
  record {
    follows = delete_receiver-follows args is;
    reads = λ more. ap (option_map request.DeleteReceiver) (delete_receiver-reads args is more);
    arrow = λ more. refl;
  },
)
request-read request.Checkpoint is = ([], record { follows = nothing; reads = λ more. refl; arrow = λ more. refl })
request-read (request.DisplayJournal args) is = (
  display_journal_words args,
  record {
    follows = display_journal-follows args is;
    reads = λ more. ap (option_map request.DisplayJournal) (display_journal-reads args is more);
    arrow = λ more. refl;
  },
)
request-read (request.ApplyChanges args) is = (
  journaled_changes_words args,
  record {
    follows = journaled_changes-follows args is;
    reads = λ more. ap (option_map request.ApplyChanges) (journaled_changes-reads args is more);
    arrow = λ more. refl;
  },
)
request-read (request.RemoveChanges args) is = (
  journaled_changes_words args,
  record {
    follows = journaled_changes-follows args is;
    reads = λ more. ap (option_map request.RemoveChanges) (journaled_changes-reads args is more);
    arrow = λ more. refl;
  },
)
request-read (request.StartCommitment args) is = (
  start_commitment_words args,
  record {
    follows = start_commitment-follows args is;
    reads = λ more. ap (option_map request.StartCommitment) (start_commitment-reads args is more);
    arrow = λ more. refl;
  },
)
request-read request.EndCommitment is = ([], record { follows = nothing; reads = λ more. refl; arrow = λ more. refl })
request-read request.Commit is = ([], record { follows = nothing; reads = λ more. refl; arrow = λ more. refl })
request-read request.Rollback is = ([], record { follows = nothing; reads = λ more. refl; arrow = λ more. refl })
request-read (request.OpenFile args) is = (
  open_file_words args,
  record {
    follows = open_file-follows args is;
    reads = λ more. ap (option_map request.OpenFile) (open_file-reads args is more);
    arrow = λ more. refl;
  },
)
request-read (request.CloseFile args) is = (
  open_name_words args,
  record {
    follows = open_name-follows args is;
    reads = λ more. ap (option_map request.CloseFile) (open_name-reads args is more);
    arrow = λ more. refl;
  },
)
request-read (request.SetLowerLimit args) is = (
  set_position_words args,
  record {
    follows = set_position-follows args is;
    reads = λ more. ap (option_map request.SetLowerLimit) (set_position-reads args is more);
    arrow = limit-arrow args.open_id args.to;
  },
)
request-read (request.SetGreaterThan args) is = (
  set_position_words args,
  record {
    follows = set_position-follows args is;
    reads = λ more. ap (option_map request.SetGreaterThan) (set_position-reads args is more);
    arrow = limit-arrow args.open_id args.to;
  },
)
request-read (request.Read args) is = (
  read_record_words args,
  record {
    follows = read_record-follows args is;
    reads = λ more. ap (option_map request.Read) (read_record-reads args is more);
    arrow = λ more. refl;
  },
)
request-read (request.ReadPrior args) is = (
  read_record_words args,
  record {
    follows = read_record-follows args is;
    reads = λ more. ap (option_map request.ReadPrior) (read_record-reads args is more);
    arrow = λ more. refl;
  },
)
request-read (request.ReadEqual args) is = (
  read_equal_words args,
  record {
    follows = read_equal-follows args is;
    reads = λ more. ap (option_map request.ReadEqual) (read_equal-reads args is more);
    arrow = λ more. refl;
  },
)
request-read (request.ReadPriorEqual args) is = (
  read_equal_words args,
  record {
    follows = read_equal-follows args is;
    reads = λ more. ap (option_map request.ReadPriorEqual) (read_equal-reads args is more);
    arrow = λ more. refl;
  },
)
request-read (request.Chain args) is = (
  chain_record_words args,
  record {
    follows = chain_record-follows args is;
    reads = λ more. ap (option_map request.Chain) (chain_record-reads args is more);
    arrow = chain-arrow args.open_id args.to args.lock;
  },
)
request-read (request.Write args) is = (
  write_record_words args,
  record {
    follows = write_record-follows args is;
    reads = λ more. ap (option_map request.Write) (write_record-reads args is more);
    arrow = λ more. refl;
  },
)
request-read (request.Update args) is = (
  update_record_words args,
  record {
    follows = update_record-follows args is;
    reads = λ more. ap (option_map request.Update) (update_record-reads args is more);
    arrow = λ more. refl;
  },
)
request-read (request.Delete args) is = (
  open_name_words args,
  record {
    follows = open_name-follows args is;
    reads = λ more. ap (option_map request.Delete) (open_name-reads args is more);
    arrow = λ more. refl;
  },
)
request-read (request.Unlock args) is = (
  open_name_words args,
  record {
    follows = open_name-follows args is;
    reads = λ more. ap (option_map request.Unlock) (open_name-reads args is more);
    arrow = λ more. refl;
  },
)
request-read (request.EndJob args) is = (
  end_job_words args,
  record {
    follows = end_job-follows args is;
    reads = λ more. ap (option_map request.EndJob) (end_job-reads args is more);
    arrow = λ more. refl;
  },
)
