pub use Rattle.text_lines.specs.ModelLexer.Reads as Reads
