-- Configurations that are the same, in either order and one after another, and before a run.
use Rattle.std.proofs.Common.{ℕ, zero, suc, List, replicate, length, refl, sym, ◌∙◌}
use Rattle.sim_model.specs.SignalChannel.Drivers.{undriven}
use Rattle.sim_model.specs.FlatDesign.declared.design.Design.{Design}
use Rattle.sim_model.specs.Configuration.{Config, start}
use Rattle.sim_model.specs.declared.plain.Command.{Command}
use Rattle.laws_order.specs.Same.{HasOwnDrivers, SameDrivers, Same}
use Rattle.laws_order.proofs.Driving.{driven-itself}
use Rattle.laws_order.proofs.Acting.{drivers-left, drivers-flip, drivers-trans}

pub same-itself : (c x : Config) → Same c x → Same c c
same-itself c x h = record {
  alike = record { instances = λ p. refl; runnable = λ p. refl; stack = refl; values = λ n. refl; shared = refl };
  drivers = drivers-left c.channels.resolved x.channels.resolved h.drivers;
}

pub same-flip : (c x : Config) → Same c x → Same x c
same-flip c x h = record {
  alike = record { instances = λ p. sym (h.alike.instances p); runnable = λ p. sym (h.alike.runnable p); stack = sym h.alike.stack; values = λ n. sym (h.alike.values n); shared = sym h.alike.shared };
  drivers = drivers-flip c.channels.resolved x.channels.resolved h.drivers;
}

pub same-trans : (c x y : Config) → Same c x → Same x y → Same c y
same-trans c x y h k = record {
  alike = record {
    instances = λ p. k.alike.instances p ∙ h.alike.instances p;
    runnable = λ p. k.alike.runnable p ∙ h.alike.runnable p;
    stack = k.alike.stack ∙ h.alike.stack;
    values = λ n. k.alike.values n ∙ h.alike.values n;
    shared = k.alike.shared ∙ h.alike.shared;
  };
  drivers = drivers-trans c.channels.resolved x.channels.resolved y.channels.resolved h.drivers k.drivers;
}

pub own-undriven : HasOwnDrivers undriven
own-undriven = record { once = tt; many = refl }

undriven_itself : (n : ℕ) → SameDrivers (replicate n undriven) (replicate n undriven)
undriven_itself zero = tt
undriven_itself (suc n) = (driven-itself undriven own-undriven, undriven_itself n)

pub same-start : (d : Design) (script : List Command) → Same (start d script) (start d script)
same-start d script = record {
  alike = record { instances = λ p. refl; runnable = λ p. refl; stack = refl; values = λ n. refl; shared = refl };
  drivers = undriven_itself (length d.resolved);
}
