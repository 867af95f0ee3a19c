pub use Rattle.order_free.specs.Free as Free
pub use Rattle.order_free.specs.declared as declared
