pub use Rattle.exec_data.specs.Entered as Entered
