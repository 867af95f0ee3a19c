pub use Rattle.check_expressions.proofs.ModelRules.Doubles as Doubles
pub use Rattle.check_expressions.proofs.ModelRules.Firsts as Firsts
