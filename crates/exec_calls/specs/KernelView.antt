pub use Rattle.exec_data.specs.KernelView.Standings as Standings
