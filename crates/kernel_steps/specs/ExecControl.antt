pub use Rattle.exec_control.specs.Thrown as Thrown
pub use Rattle.exec_control.specs.Unwound as Unwound
