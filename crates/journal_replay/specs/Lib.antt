pub mod SoFar
pub mod Standing
pub mod Left
pub mod Tests
pub mod MemberActs
pub mod PairsRead
pub mod Open
