pub use Rattle.model_rules.proofs.Doubles as Doubles
pub use Rattle.model_rules.proofs.Firsts as Firsts
