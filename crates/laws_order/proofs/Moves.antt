-- Moves that lead from configurations that are the same to such again.
use Rattle.std.proofs.Common.{◌≡◌, ℕ, zero, suc, Bool, true, false, cond, List, [], ◌∷◌, Some, refl, sym, ap, ◌∙◌, subst}
use Rattle.sim_model.specs.EventCore.declared.notifications.When.{When}
use Rattle.sim_model.specs.EventCore.declared.notifications.Pending.{Pending}
use Rattle.sim_model.specs.SignalChannel.Drivers.{Driven}
use Rattle.sim_model.specs.Configuration.{Config, Instance, Channels, Cycle, Told, change, change_instance, with_runnable, with_told}
use Rattle.sim_model.specs.Waits.{notify}
use Rattle.laws_order.specs.Sees.{unnumbered, AlikeAt}
use Rattle.laws_order.specs.LeftAlike.{shared_in}
use Rattle.laws_order.specs.Same.{SameDrivers, Same}
use Rattle.laws_order.proofs.SameLists.{change-alike, HoldSame}

-- ---- by a test

pub by-test : (b : Bool) (e f y z : Config) → Same e y → Same f z → Same (cond b e f) (cond b y z)
by-test true e f y z one two = one
by-test false e f y z one two = two

-- that both answer alike
pub by-tests : (a b : Bool) (e f y z : Config) → b ≡ a → Same e y → Same f z → Same (cond a e f) (cond b y z)
by-tests a b e f y z same one two = subst (λ k. Same (cond a e f) (cond k y z)) (sym same) (by-test a e f y z one two)

-- ---- processes

pub with-processes : (c x : Config) (rs qs : List ℕ) (is js : List Instance) → HoldSame rs qs → ((p : ℕ) → AlikeAt unnumbered is js p) → Same c x
    → Same (record c { processes = record c.processes { runnable = rs; instances = is } }) (record x { processes = record x.processes { runnable = qs; instances = js } })
with-processes c x rs qs is js held alike h = record {
  alike = record { instances = alike; runnable = held; stack = h.alike.stack; values = h.alike.values; shared = h.alike.shared };
  drivers = h.drivers;
}

pub with-instances : (c x : Config) (is js : List Instance) → ((p : ℕ) → AlikeAt unnumbered is js p) → Same c x
    → Same (record c { processes = record c.processes { instances = is } }) (record x { processes = record x.processes { instances = js } })
with-instances c x is js alike h = with-processes c x c.processes.runnable x.processes.runnable is js h.alike.runnable alike h

-- what asks nothing of guards
abbrev pub IsPlain : (Instance → Instance) → Type 0
IsPlain f = (i j : Instance) → unnumbered j ≡ unnumbered i → unnumbered (f j) ≡ unnumbered (f i)

pub plain : (f : Instance → Instance) → ((i : Instance) → unnumbered (f i) ≡ f (unnumbered i)) → IsPlain f
plain f same i j e = same j ∙ ap f e ∙ sym (same i)

changed_alike : (c x : Config) (p : ℕ) (f : Instance → Instance) → IsPlain f → Same c x → (q : ℕ) → AlikeAt unnumbered (change c.processes.instances p f) (change x.processes.instances p f) q
changed_alike c x p f keeps h q = change-alike unnumbered f keeps c.processes.instances x.processes.instances h.alike.instances p q

pub change-same : (c x : Config) (p : ℕ) (f : Instance → Instance) → IsPlain f → Same c x → Same (change_instance c p f) (change_instance x p f)
change-same c x p f keeps h = with-instances c x (change c.processes.instances p f) (change x.processes.instances p f) (changed_alike c x p f keeps h) h

pub runnable-same : (c x : Config) (p : ℕ) (f : Instance → Instance) (rs qs : List ℕ) → IsPlain f → HoldSame rs qs → Same c x → Same (with_runnable (change_instance c p f) rs) (with_runnable (change_instance x p f) qs)
runnable-same c x p f rs qs keeps held h = with-processes c x rs qs (change c.processes.instances p f) (change x.processes.instances p f) held (changed_alike c x p f keeps h) h

-- ---- events, the report, the phase and the time

pub notify-same : (c x : Config) (e : ℕ) (w : When) → Same c x → Same (notify c e w) (notify x e w)
notify-same c x e w h = record {
  alike = record { instances = h.alike.instances; runnable = h.alike.runnable; stack = h.alike.stack; values = h.alike.values; shared = ap (λ k. notify k e w) h.alike.shared };
  drivers = h.drivers;
}

pub with-events : (c x : Config) (f : List Pending → List Pending) → Same c x → Same (record c { events = f c.events }) (record x { events = f x.events })
with-events c x f h = record {
  alike = record { instances = h.alike.instances; runnable = h.alike.runnable; stack = h.alike.stack; values = h.alike.values; shared = ap (λ (k : Config). record k { events = f k.events }) h.alike.shared };
  drivers = h.drivers;
}

pub with-cycle : (c x : Config) (f : Cycle → Cycle) → Same c x → Same (record c { cycle = f c.cycle }) (record x { cycle = f x.cycle })
with-cycle c x f h = record {
  alike = record { instances = h.alike.instances; runnable = h.alike.runnable; stack = h.alike.stack; values = h.alike.values; shared = ap (λ (k : Config). record k { cycle = f k.cycle }) h.alike.shared };
  drivers = h.drivers;
}

pub told-same : (c x : Config) (t u : Told) → Same c x → Same (with_told c t) (with_told x u)
told-same c x t u h = record {
  alike = record { instances = h.alike.instances; runnable = h.alike.runnable; stack = h.alike.stack; values = h.alike.values; shared = h.alike.shared };
  drivers = h.drivers;
}

-- ---- channels

pub value-at : (rs ss : List Driven) → SameDrivers rs ss → (n : ℕ) → AlikeAt (λ (r : Driven). r.value) rs ss n
value-at [] [] h n = refl
value-at [] (s ∷ ss) h n = absurd h
value-at (r ∷ rs) [] h n = absurd h
value-at (r ∷ rs) (s ∷ ss) h zero = ap Some h.0.value
value-at (r ∷ rs) (s ∷ ss) h (suc n) = value-at rs ss h.1 n

pub with-channels : (c x : Config) (a b : Channels) → record b { resolved = [] } ≡ record a { resolved = [] } → SameDrivers a.resolved b.resolved → Same c x → Same (record c { channels = a }) (record x { channels = b })
with-channels c x a b same drivers h = record {
  alike = record {
    instances = h.alike.instances;
    runnable = h.alike.runnable;
    stack = h.alike.stack;
    values = value-at a.resolved b.resolved drivers;
    shared = ap (λ (k : Config). record k { channels = record b { resolved = [] } }) h.alike.shared ∙ ap (λ (ch : Channels). record (shared_in c) { channels = ch }) same;
  };
  drivers = drivers;
}

-- all but the drivers of resolved signals
pub channels-same : (c x : Config) → Same c x → record x.channels { resolved = [] } ≡ record c.channels { resolved = [] }
channels-same c x h = ap (λ (k : Config). k.channels) h.alike.shared
