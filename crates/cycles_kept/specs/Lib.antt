pub use Rattle.joint_state.specs.Agreed
pub use Rattle.joint_state.specs.Sound
pub use Rattle.joint_state.specs.Told
pub use Rattle.library_steps.specs.Change
pub use Rattle.library_steps.specs.History
pub use Rattle.library_steps.specs.State
pub use Rattle.library_steps.specs.Step
