pub use Rattle.kernel_view.specs.ModelTree.declared as declared
