pub use Rattle.kernel_view.specs.PayloadPool.Transfer as Transfer
pub use Rattle.kernel_view.specs.PayloadPool.declared as declared
