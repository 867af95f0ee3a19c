pub use Rattle.exec_calls.specs.Calling as Calling
pub use Rattle.exec_calls.specs.Leaving as Leaving
