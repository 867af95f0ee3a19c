pub mod Reading
pub mod Fronts
pub mod Pieces
pub mod Laid
pub mod Spelled
pub mod Lists
pub mod PrintedExpressions
pub mod PrintedStatements
pub mod Actions
pub mod Blocks
pub mod PrintedItems
pub mod Depths
pub mod Unprinted
pub mod SameLeaves
mod ChosenWords
pub mod Meant
pub mod Weighed
pub mod Lengths
pub mod Bounds
pub mod WholeTexts
pub mod Along
pub mod ExpressionLines
pub mod StatementLines
pub mod ItemLines
pub mod WholeLines
pub mod Once
pub mod First
pub mod Same
mod Literals
mod Late
