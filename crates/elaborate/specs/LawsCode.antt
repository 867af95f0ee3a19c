pub use Rattle.model_check.specs.LawsCode.OwnBlocks as OwnBlocks
