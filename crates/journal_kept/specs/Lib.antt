pub use Rattle.lawful_states.specs.Lawful
pub use Rattle.lawful_states.specs.Owners
pub use Rattle.range_histories.specs.Ranges
