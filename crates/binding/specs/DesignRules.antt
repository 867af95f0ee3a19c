pub use Rattle.design_rules.specs.BindingFaults as BindingFaults
pub use Rattle.design_rules.specs.Bound as Bound
pub use Rattle.design_rules.specs.Designs as Designs
pub use Rattle.design_rules.specs.Formed as Formed
pub use Rattle.design_rules.specs.Listing as Listing
pub use Rattle.design_rules.specs.ObjectFaults as ObjectFaults
pub use Rattle.design_rules.specs.Parts as Parts
