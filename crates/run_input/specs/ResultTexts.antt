pub use Rattle.result_texts.specs.ErrLines as ErrLines
pub use Rattle.result_texts.specs.declared as declared
