pub mod Order
pub mod EntryList
pub mod Position
pub mod Walk
pub mod StepBound
pub mod Search
pub mod PageList
