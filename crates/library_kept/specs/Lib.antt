pub use Rattle.joint_state.specs.Limits
pub use Rattle.joint_state.specs.Sound
pub use Rattle.joint_state.specs.Told
pub use Rattle.joint_state.specs.Views
