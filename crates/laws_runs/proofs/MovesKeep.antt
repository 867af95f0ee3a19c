-- Moves w one after another: what each keeps, all keep.
use Rattle.std.proofs.Common.{ℕ, Option}
use Rattle.sim_model.specs.Configuration.{Config}
use Rattle.laws_runs.specs.Moves.{Move, made, May, Moves, none, then}

pub moves-then : (w : Option ℕ) (c d e : Config) → Moves w c d → Moves w d e → Moves w c e
moves-then w c d _ one none = one
moves-then w c d _ one (then e m two may) = then e m (moves-then w c d e one two) may

-- what each move keeps
abbrev pub EachKeeps : Option ℕ → (Config → Type 0) → Type 0
EachKeeps w P = (c : Config) (m : Move) → May w c m → P c → P (made c m)

pub moves-keep : (w : Option ℕ) (P : Config → Type 0) → EachKeeps w P → (c d : Config) → Moves w c d → P c → P d
moves-keep w P each c _ none h = h
moves-keep w P each c _ (then d m ms may) h = each d m may (moves-keep w P each c d ms h)
