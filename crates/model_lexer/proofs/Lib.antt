pub mod Symbols
pub mod Keeps
pub mod Shrinks
pub mod SoundExpressions
pub mod SoundStatements
pub mod SoundItems
mod Versions
pub mod GrammarTokens
pub mod Runs
pub mod Longest
pub mod Cuts
pub mod CutLaws
pub mod Turns
pub mod Later
pub mod Numbers
pub mod LogicDigits
pub mod OneForm
pub mod LogicValues
