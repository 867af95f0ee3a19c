pub use Rattle.kernel_view.specs.Standings as Standings
