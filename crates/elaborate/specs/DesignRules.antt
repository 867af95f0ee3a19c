pub use Rattle.binding.specs.DesignRules.BindingFaults as BindingFaults
pub use Rattle.binding.specs.DesignRules.Designs as Designs
pub use Rattle.binding.specs.DesignRules.Listing as Listing
pub use Rattle.binding.specs.DesignRules.ObjectFaults as ObjectFaults
pub use Rattle.binding.specs.DesignRules.Parts as Parts
