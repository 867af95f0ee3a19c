pub use Rattle.kernel_phases.specs.Own as Own
