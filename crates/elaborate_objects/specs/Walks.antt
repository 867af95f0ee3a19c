-- A walk along the instances of a design: the objects so far, and what is left of the instances that it stands in.
use Rattle.std.specs.Prelude.{◌≡◌, ◌≤◌, ℕ, ◌+◌, ◌-◌, ◌*◌, List, ◌++◌, length}
use Rattle.check_names.specs.FlatDesign.declared.objects.Object.{Object}
use Rattle.design_rules.specs.ObjectFaults.{bytes_of}
use Rattle.elaborate_objects.specs.Left.{Rows, left_of}
use Rattle.elaborate_objects.specs.declared.frames.Frame.{Frame}
use Rattle.elaborate_objects.specs.declared.walks.Walk.{Walk}

-- all that these objects and frames come to
abbrev pub whole_of : Rows → List Object → List Frame → List Object
whole_of t os fs = os ++ left_of t (length os) fs

-- the objects so far keep the limits, and their bytes are counted
pub record IsCounted (w : Walk) : Type 0 where
  pub few : length w.objects ≤ 65536
  pub bytes : w.bytes ≡ bytes_of w.objects
  pub small : w.bytes ≤ 67108864

-- each turn makes an object, or leaves an instance
abbrev pub turns_left : List Object → List Frame → ℕ
turns_left os fs = 2 * (65536 - length os) + length fs
