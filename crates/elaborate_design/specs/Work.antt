-- How many turns a walk along instances has still to make: one for each link, and one to leave each instance.
use Rattle.std.specs.Prelude.{ℕ, zero, suc, ◌+◌, List, [], ◌∷◌, drop}
use Rattle.elaborate_design.specs.Links.{Link, enters, binds, Links, links_at}
use Rattle.elaborate_design.specs.declared.frames.Frame.{Frame}

-- inside an instance of the module at a place
abbrev pub Work : Type 0
Work = ℕ → ℕ

abbrev pub work_by : Work → Link → ℕ
work_by inside (enters name place) = inside place
work_by inside (binds line left right) = 0

abbrev pub work_along : Work → List Link → ℕ
work_along inside [] = 1
work_along inside (l ∷ ls) = 1 + work_by inside l + work_along inside ls

unfoldable pub work_within : ℕ → Links → Work
work_within zero t place = 0
work_within (suc n) t place = work_along (work_within n t) (links_at t place)

abbrev pub work_in : Links → Frame → ℕ
work_in t f = work_along (work_within f.depth t) (drop f.next (links_at t f.place))

abbrev pub work_of : Links → List Frame → ℕ
work_of t [] = 0
work_of t (f ∷ fs) = work_of t fs + work_in t f
