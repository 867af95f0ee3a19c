use Rattle.std.proofs.Common.{◌≡◌, List, [], ◌∷◌, refl, ◌∙◌}
use Rattle.std.specs.List.{fold}
use Rattle.logic_values.specs.declared.kinds.Digit.{Digit}
use Rattle.logic_values.specs.declared.kinds.Digit.TheVariants.{Zero, One, Z, X}
use Rattle.logic_values.specs.LogicTables.{resolved_pair, resolved}

-- a driver of Z changes nothing
last_z : (d : Digit) → d ≡ resolved_pair d Z
last_z Zero = refl
last_z One = refl
last_z Z = refl
last_z X = refl

-- which two of three drivers are resolved first does not matter
resolved_pair_assoc : (d e f : Digit) → resolved_pair (resolved_pair d e) f ≡ resolved_pair d (resolved_pair e f)
resolved_pair_assoc Z e f = refl
resolved_pair_assoc Zero Z f = refl
resolved_pair_assoc Zero Zero Zero = refl
resolved_pair_assoc Zero Zero One = refl
resolved_pair_assoc Zero Zero Z = refl
resolved_pair_assoc Zero Zero X = refl
resolved_pair_assoc Zero One Zero = refl
resolved_pair_assoc Zero One One = refl
resolved_pair_assoc Zero One Z = refl
resolved_pair_assoc Zero One X = refl
resolved_pair_assoc Zero X Zero = refl
resolved_pair_assoc Zero X One = refl
resolved_pair_assoc Zero X Z = refl
resolved_pair_assoc Zero X X = refl
resolved_pair_assoc One Z f = refl
resolved_pair_assoc One Zero Zero = refl
resolved_pair_assoc One Zero One = refl
resolved_pair_assoc One Zero Z = refl
resolved_pair_assoc One Zero X = refl
resolved_pair_assoc One One Zero = refl
resolved_pair_assoc One One One = refl
resolved_pair_assoc One One Z = refl
resolved_pair_assoc One One X = refl
resolved_pair_assoc One X Zero = refl
resolved_pair_assoc One X One = refl
resolved_pair_assoc One X Z = refl
resolved_pair_assoc One X X = refl
resolved_pair_assoc X Z f = refl
resolved_pair_assoc X Zero Zero = refl
resolved_pair_assoc X Zero One = refl
resolved_pair_assoc X Zero Z = refl
resolved_pair_assoc X Zero X = refl
resolved_pair_assoc X One Zero = refl
resolved_pair_assoc X One One = refl
resolved_pair_assoc X One Z = refl
resolved_pair_assoc X One X = refl
resolved_pair_assoc X X Zero = refl
resolved_pair_assoc X X One = refl
resolved_pair_assoc X X Z = refl
resolved_pair_assoc X X X = refl

-- from the first driver on, as the code goes
pub fold_resolved : (d : Digit) (ds : List Digit) → fold resolved_pair d ds ≡ resolved_pair d (resolved ds)
fold_resolved d [] = last_z d
fold_resolved d (e ∷ es) = fold_resolved (resolved_pair d e) es ∙ resolved_pair_assoc d e (resolved es)
