pub use Rattle.ready_set.specs.Layout as Layout
pub use Rattle.ready_set.specs.Ready as Ready
