pub mod MemberRecords
