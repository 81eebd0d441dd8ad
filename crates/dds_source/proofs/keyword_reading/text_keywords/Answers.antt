use Rattle.std.proofs.Common.{◌≡◌, ◌<◌, ◌++◌, List, ◌∷◌, length, sym, ap, ◌∙◌, arith}
use Rattle.std.specs.List.{filter_map, flat_map}
use Rattle.std.proofs.lemmas.List.{append-nil}
use Rattle.dds_source.specs.declared.characters.SourceCharacter.{SourceCharacter}
use Rattle.dds_source.specs.Faults.{first_after}
use Rattle.dds_source.specs.KeywordTexts.{keywords_in}
use Rattle.dds_source.specs.Reading.{keyword_of, keyword_faults, last_begun}
use Rattle.dds_source.proofs.ReadingLemmas.{read_first, begun_first, noted_first, keywords_in-none}
use Rattle.dds_source.proofs.keyword_reading.text_keywords.Goals as goal

pub loop-rest-preserved : goal.loop-rest-preserved
loop-rest-preserved c =
    let cut : keywords_in c.loop-rest.rest.now ≡ c.split_at.result.0.now ∷ keywords_in c.split_at.result.1.now =
    rw (c.split_at.ensures.front, c.split_at.ensures.back) (c.keyword_len-len.ensures.keyword (omega arith)) in
    let some : 0 < length c.split_at.result.0.now = omega arith in
    let rest : List (List SourceCharacter) = keywords_in c.split_at.result.1.now in
    record {
      read = read_first keyword_of c.split_at.result.0.now rest c.loop-rest.keywords c.read_keyword.new.keywords _ c.in_ok-read_keyword.ensures.keywords
          (sym (ap (λ (ks : List (List SourceCharacter)). c.loop-rest.keywords ++ filter_map keyword_of ks) cut) ∙ c.loop-rest.invariant.read);
      begun = begun_first c.split_at.result.0.now rest (record { byte = 0; line = 0; column = 0 }) c.loop-rest.begun _ some
          (sym (ap (λ (ks : List (List SourceCharacter)). last_begun c.loop-rest.begun ks) cut) ∙ c.loop-rest.invariant.begun);
      noted = noted_first keyword_faults c.split_at.result.0.now rest c.loop-rest.first.fault c.read_keyword.new.first.fault _ c.in_ok-read_keyword.ensures.faults
          (sym (ap (λ (ks : List (List SourceCharacter)). first_after c.loop-rest.first.fault (flat_map keyword_faults ks)) cut) ∙ c.loop-rest.invariant.noted);
    }

pub returns-clause-keywords : goal.returns-clause-keywords
returns-clause-keywords c =
    let none : length c.loop-rest.rest.now ≡ 0 = grind arith in
    sym (append-nil c.loop-rest.keywords) ∙ ap (λ (ks : List (List SourceCharacter)). c.loop-rest.keywords ++ filter_map keyword_of ks) (sym (keywords_in-none c.loop-rest.rest.now none)) ∙ c.loop-rest.invariant.read

pub returns-clause-begun : goal.returns-clause-begun
returns-clause-begun c =
    let none : length c.loop-rest.rest.now ≡ 0 = grind arith in
    ap (λ (ks : List (List SourceCharacter)). last_begun c.loop-rest.begun ks) (sym (keywords_in-none c.loop-rest.rest.now none)) ∙ c.loop-rest.invariant.begun

pub returns-clause-faults : goal.returns-clause-faults
returns-clause-faults c =
    let none : length c.loop-rest.rest.now ≡ 0 = grind arith in
    ap (λ (ks : List (List SourceCharacter)). first_after c.loop-rest.first.fault (flat_map keyword_faults ks)) (sym (keywords_in-none c.loop-rest.rest.now none)) ∙ c.loop-rest.invariant.noted
