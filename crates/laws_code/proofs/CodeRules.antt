pub use Rattle.code_rules.proofs.Suffices as Suffices
