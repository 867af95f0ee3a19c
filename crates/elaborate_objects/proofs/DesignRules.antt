pub use Rattle.design_rules.proofs.Listed as Listed
pub use Rattle.design_rules.proofs.Lists as Lists
pub use Rattle.design_rules.proofs.Ranks as Ranks
pub use Rattle.design_rules.proofs.Rounds as Rounds
