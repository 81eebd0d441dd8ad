-- What the parts of a command come to is the outcome of the command.
use Rattle.std.proofs.Common.{◌≡◌, ◌∙◌, ℕ, inl, inr, true, false, List, [], length, refl, sym, ap, subst, arith, length-append}
use Rattle.text_lines.specs.Lines.{lines_of}
use Rattle.store_model.proofs.Runs.{leaves_stays}
use Rattle.entry_codec.specs.declared.entries.Entry.{Entry}
use Rattle.gated_log.specs.Blocks.{header}
use Rattle.gated_log.proofs.Numbers.{length-header}
use Rattle.checkpoint.specs.declared.layout.TheConstants.{ROOT_AREA, VERSION}
use Rattle.library_model.specs.declared.calls.Call.{Call}
use Rattle.input_scripts.specs.declared.Scripts.{Scripts}
use Rattle.input_reader.specs.Input.{faults_of}
use Rattle.opened_library.specs.Restarts.{MayRestart}
use Rattle.restart_model.specs.Libraries.{restart_job}
use Rattle.restart_model.specs.Sources.{descriptions}
use Rattle.ibmi_batch.specs.declared.status.Status.{Status}
use Rattle.ibmi_batch.specs.declared.status.Status.TheVariants.{Done, Words, ReadFault, TooLong, Script, NotALibrary, Damaged, StoreFault, WriteFault, NoMemory, JobsEnded, Exists}
use Rattle.ibmi_batch.specs.Storing.{Storing, IsUntouched, IsEmpty, SpelledBefore, IsRestart}
use Rattle.ibmi_batch.specs.Outcome.{Reading, Writing, NothingWritten, IsRead, RunOver, WasRun, IsOrderly, IsOutcome}
use Rattle.ibmi_batch.specs.Parts.{IsUnread, Makes, IsRefused, Shows, ShownOver, UnreadOver, RunsJobs}
use Rattle.ibmi_batch.specs.Words.{are_command_words, are_display_words, are_format_words, are_job_words, are_open_words}

-- ---- words

pub command-of-open : (words : List (List ℕ)) → are_open_words words ≡ true → are_command_words words ≡ true
command-of-open words opens = rw opens refl

pub open-of-job : (words : List (List ℕ)) → are_job_words words ≡ true → are_open_words words ≡ true
open-of-job words job = rw job refl

-- neither runs jobs nor shows a library nor makes one
pub no-command : (words : List (List ℕ)) → are_job_words words ≡ false → are_display_words words ≡ false → are_format_words words ≡ false → are_command_words words ≡ false
no-command words job display format = rw (job, display, format) refl

module _ (words : List (List ℕ)) (display : are_display_words words ≡ true) (job : are_job_words words ≡ false) where
  pub open-of-display : are_open_words words ≡ true
  open-of-display = rw (job, display) refl

module _ (words : List (List ℕ)) (format : are_format_words words ≡ true) (job : are_job_words words ≡ false) (display : are_display_words words ≡ false) where
  pub no-open-of-format : are_open_words words ≡ false
  no-open-of-format = rw (job, display) refl

  pub command-of-format : are_command_words words ≡ true
  command-of-format = rw (job, display, format) refl

-- ---- stores

-- a store that spells a journal isn't empty
pub spelled-is-something : (storing : Storing) (entries : List Entry) → SpelledBefore storing entries → IsEmpty storing → ⊥
spelled-is-something storing entries spelled empty =
    let spells = spelled.roots.spells in
    let lengths = ap (λ (l : List ℕ). length l) (sym empty ∙ spells.header) in
    omega (arith, lengths, length-append (header ROOT_AREA 0 VERSION) spells.body, length-header ROOT_AREA 0 VERSION)

-- where nothing is written a stop leaves what it may within a restart
pub restart-of-untouched : (storing : Storing) → IsUntouched storing → IsRestart storing
restart-of-untouched storing untouched = λ tells before spelled.
    leaves_stays storing.old storing.new (MayRestart descriptions storing.old restart_job 0 before) untouched (λ areas may. inl may)

-- ---- words that are none

pub outcome-words : (reading : Reading) (given : List Call → Type 0) (writing : Writing) (storing : Storing) → are_command_words reading.words ≡ false → NothingWritten writing
    → IsUntouched storing → IsOutcome Words reading given writing storing
outcome-words reading given writing storing words nothing untouched = record {
  comes = record { words = words; written = nothing; stored = untouched };
  complete = λ reads tells order. absurd (let command = order.words in cc);
}

-- ---- an input that was not read

module _ (reading : Reading) (given : List Call → Type 0) (writing : Writing) (storing : Storing) (words : are_job_words reading.words ≡ true) (nothing : NothingWritten writing)
    (untouched : IsUntouched storing) where
  pub outcome-unread : (status : Status) → IsUnread status reading.tells reading.input reading.left reading.rose → IsOutcome status reading given writing storing
  outcome-unread ReadFault why = record {
    comes = record { words = words; written = nothing; stored = untouched; why = why };
    complete = λ reads tells order. why;
  }
  outcome-unread TooLong why = record {
    comes = record { words = words; written = nothing; stored = untouched; why = why };
    complete = λ reads tells order. absurd (omega (arith, why (reads words), order.short words));
  }
  outcome-unread (Script line) why = record {
    comes = record { words = words; written = nothing; stored = untouched; why = why.0 };
    complete = λ reads tells order. absurd (why.1 (reads words) (order.input words));
  }
  outcome-unread NoMemory why = record {
    comes = inr (record {
      command = command-of-open reading.words (open-of-job reading.words words);
      written = nothing;
      restart = λ opens. restart-of-untouched storing untouched;
      formatting = λ format tells. leaves_stays storing.old storing.new _ untouched (λ areas may. record { before = areas; could = may; roots = inl refl; others = λ area apart away. refl });
    });
    complete = λ reads tells order. tt;
  }
  outcome-unread Done why = absurd why
  outcome-unread Words why = absurd why
  outcome-unread NotALibrary why = absurd why
  outcome-unread (Damaged area at) why = absurd why
  outcome-unread StoreFault why = absurd why
  outcome-unread WriteFault why = absurd why
  outcome-unread JobsEnded why = absurd why
  outcome-unread Exists why = absurd why

-- ---- a library was made

module _ (reading : Reading) (given : List Call → Type 0) (writing : Writing) (storing : Storing) (format : are_format_words reading.words ≡ true)
    (job : are_job_words reading.words ≡ false) (display : are_display_words reading.words ≡ false) (nothing : NothingWritten writing) where
  no-open : are_open_words reading.words ≡ true → ⊥
  no-open opens = absurd (let none = no-open-of-format reading.words format job display in cc)

  no-job : are_job_words reading.words ≡ true → ⊥
  no-job runs = absurd cc

  pub outcome-made : (status : Status) → Makes status storing → IsOutcome status reading given writing storing
  outcome-made Done made = record {
    comes = inr (inr (record { words = format; written = nothing; formatted = made.0; moments = made.1 }));
    complete = λ reads tells order. tt;
  }
  outcome-made Exists made = record {
    comes = record { command = format; input = λ runs. absurd (no-job runs); written = nothing; stored = made.0; why = made.1 };
    complete = λ reads tells order. made.1 tells (order.empty format);
  }
  outcome-made StoreFault made = record {
    comes = (
      made.0,
      inr (record {
        command = command-of-format reading.words format job display;
        written = nothing;
        restart = λ opens. absurd (no-open opens);
        formatting = λ its. made.1;
      }),
    );
    complete = λ reads tells order. made.0;
  }
  outcome-made NoMemory made = record {
    comes = inr (record {
      command = command-of-format reading.words format job display;
      written = nothing;
      restart = λ opens. absurd (no-open opens);
      formatting = λ its. made;
    });
    complete = λ reads tells order. tt;
  }
  outcome-made Words made = absurd made
  outcome-made ReadFault made = absurd made
  outcome-made TooLong made = absurd made
  outcome-made (Script line) made = absurd made
  outcome-made NotALibrary made = absurd made
  outcome-made (Damaged area at) made = absurd made
  outcome-made WriteFault made = absurd made
  outcome-made JobsEnded made = absurd made

-- ---- a library was not opened

module _ (reading : Reading) (given : List Call → Type 0) (writing : Writing) (storing : Storing) (opens : are_open_words reading.words ≡ true)
    (no-format : are_format_words reading.words ≡ true → ⊥) (input : are_job_words reading.words ≡ true → reading.tells → faults_of (lines_of reading.input) ≡ []) where
  pub outcome-refused : (status : Status) → IsRefused status writing storing → IsOutcome status reading given writing storing
  outcome-refused NotALibrary refused = record {
    comes = record { command = opens; input = input; written = refused.0; stored = refused.1.0; why = refused.1.1 };
    complete = λ reads tells order. let its = order.journal opens in spelled-is-something storing its.0 its.1 (refused.1.1 tells);
  }
  outcome-refused (Damaged area at) refused = record {
    comes = inl (record { command = opens; input = input; written = refused.0; stored = refused.1.0; why = (refused.1.1, refused.1.2) });
    complete = λ reads tells order. let its = order.journal opens in refused.1.2 tells its.0 its.1;
  }
  outcome-refused StoreFault refused = record {
    comes = (
      refused.1.0,
      inr (record {
        command = command-of-open reading.words opens;
        written = refused.0;
        restart = λ its. refused.1.1;
        formatting = λ format. absurd (no-format format);
      }),
    );
    complete = λ reads tells order. refused.1.0;
  }
  outcome-refused NoMemory refused = record {
    comes = inr (record {
      command = command-of-open reading.words opens;
      written = refused.0;
      restart = λ its. refused.1;
      formatting = λ format. absurd (no-format format);
    });
    complete = λ reads tells order. tt;
  }
  outcome-refused Done refused = absurd refused.1
  outcome-refused Words refused = absurd refused.1
  outcome-refused ReadFault refused = absurd refused.1
  outcome-refused TooLong refused = absurd refused.1
  outcome-refused (Script line) refused = absurd refused.1
  outcome-refused WriteFault refused = absurd refused.1
  outcome-refused JobsEnded refused = absurd refused.1
  outcome-refused Exists refused = absurd refused.1

-- ---- a library was shown

module _ (reading : Reading) (given : List Call → Type 0) (writing : Writing) (storing : Storing) (display : are_display_words reading.words ≡ true)
    (job : are_job_words reading.words ≡ false) (no-format : are_format_words reading.words ≡ true → ⊥) where
  by-shown : (status : Status) → ShownOver status writing storing → IsOutcome status reading given writing storing
  by-shown Done shown = record {
    comes = inr (inl (record { words = display; before = shown.before; shown = shown.shown; starts = shown.starts; restart = shown.restart; written = shown.written }));
    complete = λ reads tells order. tt;
  }
  by-shown WriteFault shown = record {
    comes = inr (record { words = display; before = shown.before; shown = shown.shown; starts = shown.starts; restart = shown.restart; written = shown.written });
    complete = λ reads tells order. shown.written.is_text.0;
  }
  by-shown Words shown = absurd shown.written
  by-shown ReadFault shown = absurd shown.written
  by-shown TooLong shown = absurd shown.written
  by-shown (Script line) shown = absurd shown.written
  by-shown NotALibrary shown = absurd shown.written
  by-shown (Damaged area at) shown = absurd shown.written
  by-shown StoreFault shown = absurd shown.written
  by-shown NoMemory shown = absurd shown.written
  by-shown JobsEnded shown = absurd shown.written
  by-shown Exists shown = absurd shown.written

  by-unread : (status : Status) → UnreadOver status writing storing → IsOutcome status reading given writing storing
  by-unread status unread =
      let its : IsOutcome (Damaged unread.area unread.at) reading given writing storing =
      record {
        comes = inr (record { words = display; written = unread.written; untold = unread.untold; restart = unread.restart });
        complete = λ reads tells order. unread.untold tells;
      } in
      subst (λ (it : Status). IsOutcome it reading given writing storing) (sym unread.is) its

  pub outcome-shown : (status : Status) → Shows status writing storing → IsOutcome status reading given writing storing
  outcome-shown status shows = elim shows [
    | inl shown ↦ by-shown status shown
    | inr other ↦ elim other [
      | inl unread ↦ by-unread status unread
      | inr refused ↦ outcome-refused reading given writing storing (open-of-display reading.words display job) no-format (λ runs. absurd cc) status refused
    ]
  ]

-- ---- jobs were run

module _ (reading : Reading) (given : List Call → Type 0) (writing : Writing) (storing : Storing) (job : are_job_words reading.words ≡ true)
    (no-format : are_format_words reading.words ≡ true → ⊥) (left : reading.tells → reading.left ≡ []) (scripts : Scripts) (read : IsRead reading.tells reading.input scripts) where
  was-run : (status : Status) → RunOver status reading.words scripts given writing storing → WasRun status reading given writing storing
  was-run status over = record { words = job; left = left; scripts = scripts; read = read; over = over }

  by-run : (status : Status) → RunOver status reading.words scripts given writing storing → (status ≡ StoreFault → IsOrderly StoreFault reading writing storing)
      → IsOutcome status reading given writing storing
  by-run Done over rose = record { comes = inl (was-run Done over); complete = λ reads tells order. tt }
  by-run JobsEnded over rose = record { comes = was-run JobsEnded over; complete = λ reads tells order. tt }
  by-run WriteFault over rose = record { comes = inl (was-run WriteFault over); complete = λ reads tells order. over.ran.2.0 }
  by-run StoreFault over rose = record { comes = (rose refl, inl (was-run StoreFault over)); complete = λ reads tells order. rose refl }
  by-run NoMemory over rose = record { comes = inl (was-run NoMemory over); complete = λ reads tells order. tt }
  by-run Words over rose = absurd over.ran
  by-run ReadFault over rose = absurd over.ran
  by-run TooLong over rose = absurd over.ran
  by-run (Script line) over rose = absurd over.ran
  by-run NotALibrary over rose = absurd over.ran
  by-run (Damaged area at) over rose = absurd over.ran
  by-run Exists over rose = absurd over.ran

  no-fault : are_job_words reading.words ≡ true → reading.tells → faults_of (lines_of reading.input) ≡ []
  no-fault its tells = subst (λ (bytes : List ℕ). faults_of (lines_of bytes) ≡ []) (sym (read.whole tells)) read.sound

  pub outcome-run : (status : Status) → RunsJobs status reading.words scripts given writing storing → IsOutcome status reading given writing storing
  outcome-run status runs = elim runs [
    | inl over ↦ by-run status over.0 over.1
    | inr refused ↦ outcome-refused reading given writing storing (open-of-job reading.words job) no-format no-fault status refused
  ]
