pub mod GivenChanges
