pub mod CutLemmas
pub mod Ranges
pub mod FormRanges
pub mod ModelLexer
