pub use Rattle.kernel_view.specs.InstanceTable.declared as declared
