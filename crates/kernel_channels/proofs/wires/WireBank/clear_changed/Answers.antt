use Rattle.std.proofs.Common.{◌∙◌, Bool, false, map, sym, ap}
use Rattle.kernel_channels.specs.Codes.{Wires}
use Rattle.kernel_channels.proofs.Resting.{all_false}
use Rattle.kernel_channels.proofs.wires.WireBank.clear_changed.Goals as goal

abbrev cleared : Wires → Wires
cleared v = record v { changed = map (λ (b : Bool). false) v.changed }

pub returns : goal.returns
returns c = (λ i. record { resolved = c.self.inside.resolved.items; asked = c.self.inside.asked; changed = (c.clear_all.ensures ∙ sym (all_false c.self.inside.changed)) i }) ∙ ap cleared c.self.view_is
