use Rattle.std.proofs.Common.{◌≡◌, ◌<◌, ◌++◌, [], length, Option, ap, ◌∙◌, arith}
use Rattle.std.specs.List.{cons_option}
use Rattle.std.proofs.lemmas.Result.{on_ok_weaker}
use Rattle.dds_source.specs.declared.keywords.Keyword.{Keyword}
use Rattle.dds_source.specs.Reading.{keyword_of}
use Rattle.dds_source.proofs.ReadingLemmas.{keyword_faults_is, keyword_of_is}
use Rattle.dds_source.proofs.keyword_reading.read_keyword.Goals as goal

pub returns-clause-keywords : goal.returns-clause-keywords
returns-clause-keywords c =
    let some : 0 < length c.args.characters.now = omega arith in
    let read : c.keyword.result ≡ keyword_of c.args.characters.now =
    cc (keyword_of_is c.args.characters.now (record { byte = 0; line = 0; column = 0 }) some, c.in_ok-text.ensures, c.in_ok-arguments.ensures.0, c.in_ok-arguments.ensures.1) in
    on_ok_weaker c.push_some.result (λ h. h ∙ ap (λ (k : Option Keyword). c.args.keywords.now ++ cons_option k []) read) c.push_some.ensures

pub returns-clause-faults : goal.returns-clause-faults
returns-clause-faults c =
    let some : 0 < length c.args.characters.now = omega arith in
    on_ok_weaker c.push_some.result
    (λ _. cc (keyword_faults_is c.args.characters.now (record { byte = 0; line = 0; column = 0 }) some, c.in_ok-text.ensures, c.in_ok-arguments.ensures.0, c.in_ok-arguments.ensures.1, c.note_keyword.ensures))
    c.push_some.ensures
