-- What a name denotes in an instance, by the path of the object that it stands for.
use Rattle.std.specs.Prelude.{◌≡◌, ◌⊎◌, ℕ, Some}
use Rattle.elaborate_objects.specs.FlatDesign.declared.objects.Object.{Object}
use Rattle.elaborate_objects.specs.FlatDesign.declared.design.Denoted.{Denoted}
use Rattle.elaborate_objects.specs.FlatDesign.declared.design.Denoted.TheVariants as denoted
use Rattle.elaborate_objects.specs.FlatDesign.declared.design.Design.{Design}
use Rattle.elaborate_objects.specs.DesignRules.Forms.{Name}
use Rattle.elaborate_objects.specs.DesignRules.Objects.{object_at, path_of, below}
use Rattle.elaborate_objects.specs.DesignRules.Denoting.{object_denoted}
use Rattle.elaborate_objects.specs.DesignRules.Parts.{denotes}

-- it is what the object with the path of the instance, a dot and the name is to a body
pub record IsObjectAt (d : Design) (instance : ℕ) (name : Name) (x : Denoted) : Type 0 where
  pub number : ℕ
  pub object : Object
  pub found : object_at d.objects number ≡ Some object
  pub path : path_of d.objects number ≡ below (path_of d.objects instance) name
  pub denoted : x ≡ object_denoted (denotes d.objects) number

-- nothing, or such an object
abbrev pub IsNamed : Design → ℕ → Name → Denoted → Type 0
IsNamed d instance name x = (x ≡ denoted.Nothing) ⊎ IsObjectAt d instance name x
