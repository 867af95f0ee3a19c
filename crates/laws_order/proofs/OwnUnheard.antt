-- Where each process keeps to itself nobody hears of the end or the reset of a process, so that nothing changes when one of them fires.
use Rattle.std.proofs.Common.{◌≡◌, ℕ, suc, Bool, true, false, cond, ◌||◌, List, [], ◌∷◌, slice_get, Option, Some, None, refl, sym, ap, ◌∙◌, subst}
use Rattle.sim_model.specs.EventCore.Ev.{same_event}
use Rattle.sim_model.specs.EventCore.declared.event.Ev.{Ev}
use Rattle.sim_model.specs.EventCore.declared.event.Ev.TheVariants as ev
use Rattle.sim_model.specs.FlatDesign.Typed.{EachOf}
use Rattle.sim_model.specs.FlatDesign.declared.design.ProcessPart.{ProcessPart}
use Rattle.sim_model.specs.FlatDesign.declared.design.Design.{Design}
use Rattle.sim_model.specs.Configuration.{Config, Instance, Wait, waits_for_nothing, waits_statically, waits_for_any, waits_for_all, instance_at}
use Rattle.sim_model.specs.Waits.{is_among, struck, wake, left_of_all, reaches, reach_instance, fire_each, fire}
use Rattle.laws_order.specs.Fits.{IsFixed, HearsFixed, KeepsToItself, AreOnTheirOwn}

-- no process of the design is sensitive to the end or the reset of one
abbrev pub StaticsFixed : Design → Type 0
StaticsFixed d = (q : ℕ) (part : ProcessPart) → slice_get d.processes q ≡ Some part → EachOf IsFixed part.sensitive

pub static-fixed : (d : Design) → StaticsFixed d → (q : ℕ) (i : Instance) → KeepsToItself d q i → EachOf IsFixed i.static
static-fixed d statics q i h = subst (EachOf IsFixed) (sym (ap (λ (j : Instance). j.static) h.process.same)) (statics q h.process.part h.process.found)

module _ (v : Ev) (never : (n : ℕ) → same_event v (ev.Fixed n) ≡ false) where
  pub deaf-fixed : (es : List Ev) → EachOf IsFixed es → is_among v es ≡ false
  deaf-fixed [] h = refl
  deaf-fixed (ev.Fixed n ∷ es) h = ap (λ b. b || is_among v es) (never n) ∙ deaf-fixed es h.1
  deaf-fixed (ev.Terminated q ∷ es) h = absurd h.0
  deaf-fixed (ev.Restarted q ∷ es) h = absurd h.0

  module _ (d : Design) (statics : StaticsFixed d) (c : Config) (own : AreOnTheirOwn d c.processes.instances) where
    waiting_same : (p : ℕ) (i : Instance) (w : Wait) → EachOf IsFixed i.static → HearsFixed w → reaches c v p i w ≡ c
    waiting_same p i waits_for_nothing static h = refl
    waiting_same p i waits_statically static h = ap (λ b. cond b (wake c p) c) (deaf-fixed i.static static)
    waiting_same p i (waits_for_any es) static h = ap (λ b. cond b (wake c p) c) (deaf-fixed es h)
    waiting_same p i (waits_for_all es) static h = ap (λ b. cond b (left_of_all c p (struck v es)) c) (deaf-fixed es h)

    unless_disabled : (b : Bool) (e : Config) → e ≡ c → cond b c e ≡ c
    unless_disabled true e same = refl
    unless_disabled false e same = same

    reached_same : (p : ℕ) (o : Option Instance) → instance_at c p ≡ o → reach_instance c v p o ≡ c
    reached_same p None at = refl
    reached_same p (Some i) at = let k = own.each p i at in unless_disabled i.disabled (reaches c v p i i.wait) (waiting_same p i i.wait (static-fixed d statics p i k) k.wait)

    each_same : (p : ℕ) (is : List Instance) → fire_each v p is c ≡ c
    each_same p [] = refl
    each_same p (i ∷ is) = ap (fire_each v (suc p) is) (reached_same p (instance_at c p) refl) ∙ each_same (suc p) is

    pub fire-same : fire c v ≡ c
    fire-same = each_same 0 c.processes.instances
