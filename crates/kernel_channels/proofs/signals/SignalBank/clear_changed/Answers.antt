use Rattle.std.proofs.Common.{◌∙◌, Bool, false, map, sym, ap}
use Rattle.kernel_channels.specs.Codes.{Values}
use Rattle.kernel_channels.proofs.Resting.{all_false}
use Rattle.kernel_channels.proofs.signals.SignalBank.clear_changed.Goals as goal

abbrev cleared : Values → Values
cleared v = record v { changed = map (λ (b : Bool). false) v.changed }

pub returns : goal.returns
returns c = (λ i. record { signals = c.self.inside.signals.items; changed = (c.clear_all.ensures ∙ sym (all_false c.self.inside.changed)) i }) ∙ ap cleared c.self.view_is
