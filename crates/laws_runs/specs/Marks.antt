-- What marks leave open of guards.
use Rattle.std.specs.Prelude.{◌≡◌, ℕ, false, not, ⊤, List, [], ◌∷◌, filter}
use Rattle.std.specs.List.{list_any}
use Rattle.sim_model.specs.Residual.{Mark}
use Rattle.sim_model.specs.Waits.{holds}
use Rattle.sim_model.specs.Clean.{closes}

-- those of these guards that p neither leaves nor finishes in these marks
abbrev pub still_open : ℕ → List Mark → List ℕ → List ℕ
still_open p ms gs = filter (λ g. not (list_any (closes p g) ms)) gs

-- a list without doubles
abbrev pub IsDistinct : List ℕ → Type 0
IsDistinct [] = ⊤
IsDistinct (g ∷ gs) = (holds gs g ≡ false) × IsDistinct gs
