-- What sound designs have of their ports.
use Rattle.std.specs.Prelude.{◌≡◌, ℕ, slice_get, Some}
use Rattle.elaborate_objects.specs.FlatDesign.Sound.{PortFits}
use Rattle.elaborate_objects.specs.FlatDesign.declared.design.PortPart.{PortPart}
use Rattle.elaborate_objects.specs.FlatDesign.declared.design.Design.{Design}

abbrev pub PortsFit : Design → Type 0
PortsFit d = (n : ℕ) (p : PortPart) → slice_get d.ports n ≡ Some p → PortFits d p
