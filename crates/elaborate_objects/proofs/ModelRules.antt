pub use Rattle.check_names.proofs.ModelRules.Doubles as Doubles
pub use Rattle.check_names.proofs.ModelRules.Firsts as Firsts
