pub use Rattle.sim_io.specs.Cause as Cause
pub use Rattle.sim_io.specs.Contents as Contents
pub use Rattle.sim_io.specs.Keeps as Keeps
pub use Rattle.sim_io.specs.Writes as Writes
pub use Rattle.sim_io.specs.declared as declared
