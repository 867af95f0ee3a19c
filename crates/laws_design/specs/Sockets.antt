-- What the bindings of a design give its sockets.
use Rattle.std.specs.Prelude.{◌≡◌, ℕ, false, Option, Some, Contains}
use Rattle.elaborate_objects.specs.FlatDesign.declared.objects.Object.{Object}
use Rattle.elaborate_objects.specs.FlatDesign.declared.objects.ObjectForm.TheVariants as form
use Rattle.elaborate_objects.specs.FlatDesign.declared.objects.Objects.{Objects}
use Rattle.elaborate_objects.specs.DesignRules.declared.bindings.Joined.{Joined}
use Rattle.elaborate_objects.specs.DesignRules.Objects.{object_at}
use Rattle.elaborate_objects.specs.DesignRules.Bound.{bound}

-- each socket without `pass` is an end of a hop
pub record SocketsHaveHops (os : Objects) : Type 0 where
  pub initiators : (i : ℕ) (o : Object) (backward : Option ℕ) → object_at os i ≡ Some o → o.form ≡ form.Initiator false backward
      → (h : Joined) × Contains (bound os).hops h × (h.initiator ≡ i)
  pub targets : (i : ℕ) (o : Object) (blocking forward : Option ℕ) → object_at os i ≡ Some o → o.form ≡ form.Target false blocking forward
      → (h : Joined) × Contains (bound os).hops h × (h.target ≡ i)
