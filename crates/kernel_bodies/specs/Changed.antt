-- What a call becomes when a local variable of it gets another value.
use Rattle.std.specs.Prelude.{◌≡◌, ℕ}
use Rattle.std.specs.Vec.{vec_capacity}
use Rattle.sim_model.specs.LogicValues.declared.kinds.Value.{Value}
use Rattle.sim_model.specs.Storing.{with_local}
use Rattle.kernel_bodies.specs.declared.layers.Frame.{Frame}
use Rattle.kernel_bodies.specs.Layers.{call_of}

-- y is the call x with another value of a local variable, in the same memory
abbrev pub IsFrameSet : ℕ → Value → Frame → Frame → Type 0
IsFrameSet i v x y = (call_of y ≡ with_local i v (call_of x)) × (vec_capacity y.locals ≡ vec_capacity x.locals)
