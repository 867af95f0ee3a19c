-- The first of two faults.
use Rattle.std.proofs.Common.{◌≡◌, Option, Some, None, refl}
use Rattle.std.specs.Option.{option_or}
use Rattle.model_tree.specs.declared.faults.Fault.{Fault}

pub first_none : (a b : Option Fault) → option_or a b ≡ None → a ≡ None
first_none None b h = refl
first_none (Some x) b h = cc

pub second_none : (a b : Option Fault) → option_or a b ≡ None → b ≡ None
second_none None b h = h
second_none (Some x) b h = cc
