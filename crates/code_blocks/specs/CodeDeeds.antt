pub use Rattle.code_deeds.specs.Homes as Homes
