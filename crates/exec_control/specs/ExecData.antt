pub use Rattle.exec_data.specs.Entered as Entered
pub use Rattle.exec_data.specs.PrintAnswers as PrintAnswers
pub use Rattle.exec_data.specs.Written as Written
