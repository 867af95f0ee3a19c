pub use Rattle.exec_data.specs.ProcessBodies.Bodies as Bodies
