pub mod DisplayLemmas
pub mod ReceiverLemmas
