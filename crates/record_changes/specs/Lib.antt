pub mod Images
pub mod Opens
pub mod Plans
pub mod Places
pub mod Changes
pub mod Locks
pub use Rattle.joint_state.specs.Agreed
pub use Rattle.joint_state.specs.CurrentRecords
pub use Rattle.joint_state.specs.Cycles
pub use Rattle.joint_state.specs.Joint
pub use Rattle.joint_state.specs.Locks as JointStateLocks
pub use Rattle.joint_state.specs.Sound
pub use Rattle.joint_state.specs.Told
pub use Rattle.joint_state.specs.Views
