pub use Rattle.code_blocks.specs.LawsCode.OwnBlocks as OwnBlocks
