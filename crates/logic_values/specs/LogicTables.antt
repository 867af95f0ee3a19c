use Rattle.logic_values.specs.declared.kinds.Digit.{Digit}
use Rattle.logic_values.specs.declared.kinds.Digit.TheVariants.{Zero, One, Z, X}
use Rattle.std.specs.Prelude.{List, [], ◌∷◌}

-- The tables of the logic operators (IEEE 1666-2011, 7.9.2), where Z is read as unknown.

-- 0 if either is 0, 1 if both are 1
abbrev pub and_of : Digit → Digit → Digit
and_of Zero _ = Zero
and_of _ Zero = Zero
and_of One One = One
and_of _ _ = X

-- 1 if either is 1, 0 if both are 0
abbrev pub or_of : Digit → Digit → Digit
or_of One _ = One
or_of _ One = One
or_of Zero Zero = Zero
or_of _ _ = X

-- known only where both are
abbrev pub xor_of : Digit → Digit → Digit
xor_of Zero Zero = Zero
xor_of Zero One = One
xor_of One Zero = One
xor_of One One = Zero
xor_of _ _ = X

abbrev pub not_of : Digit → Digit
not_of Zero = One
not_of One = Zero
not_of _ = X

-- what two drivers make of one wire (IEEE 1666-2011, 6.13): Z gives way to the other, equal values stay,
-- and all else is unknown
abbrev pub resolved_pair : Digit → Digit → Digit
resolved_pair Z e = e
resolved_pair d Z = d
resolved_pair Zero Zero = Zero
resolved_pair One One = One
resolved_pair _ _ = X

-- what any number of drivers make of it, pairwise; no driver is as one that drives Z
abbrev pub resolved : List Digit → Digit
resolved [] = Z
resolved (d ∷ ds) = resolved_pair d (resolved ds)
