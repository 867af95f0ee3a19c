pub use Rattle.tick_trees.specs.Laws as Laws
pub use Rattle.tick_trees.specs.Ticks as Ticks
pub use Rattle.tick_trees.specs.Times as Times
pub use Rattle.tick_trees.specs.Unfit as Unfit
pub use Rattle.tick_trees.specs.declared as declared
