pub use Rattle.laws_code.specs.HasCode as HasCode
pub use Rattle.laws_code.specs.OwnBlocks as OwnBlocks
