pub use Rattle.text_lines.specs.LineForms as LineForms
pub use Rattle.text_lines.specs.Words as Words
pub use Rattle.text_lines.specs.declared as declared
