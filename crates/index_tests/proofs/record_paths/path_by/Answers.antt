use Rattle.std.proofs.Common.{ap}
use Rattle.index_tests.specs.MemberRecords.{format_by}
use Rattle.index_tests.proofs.ShownLemmas.{only-format, pushed-one, with_rules}
use Rattle.index_tests.proofs.record_paths.path_by.Goals as goal

pub returns : goal.returns
returns c =
    only-format c.push.new.self (format_by c.args.fields c.args.key)
    (pushed-one (format_by c.args.fields c.args.key) (with_rules c.args.fields c.args.key c.every_record-rules.result) c.new-formats.result c.push.new.self c.new-formats.ensures
    c.in_ok-push.ensures.pushed (ap (with_rules c.args.fields c.args.key) c.every_record-rules.ensures)) c.requires
