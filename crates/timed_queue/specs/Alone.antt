-- A queue of which the only name may be kept beside the others, of which there is none then, and flags for names that may be there.
-- No public clause cites this module.
use Rattle.std.specs.Prelude.{◌≡◌, ⊤, ℕ, ◌<◌, Bool, true, false, List, length, get_or, Option, None, Some}
use Rattle.std.specs.FinMap as map
use Rattle.timed_queue.specs.declared.Only.{Only}
use Rattle.timed_queue.specs.Timed.{Timed, with_time}

-- the queue, where this is its only name
abbrev pub with_only : Option Only → Timed → Timed
with_only None q = q
with_only (Some e) q = with_time q e.name e.time

-- no name is among the others, and there is room for the only one
pub record IsAlone (q : Timed) : Type 0 where
  pub none : q.times ≡ map.empty
  pub room : 0 < q.spare

abbrev pub MayBeAlone : Option Only → Timed → Type 0
MayBeAlone None q = ⊤
MayBeAlone (Some e) q = IsAlone q

-- the flag of each name that is there, where it has one, is set
pub record IsNoted (flags : List Bool) (there : ℕ → Bool) : Type 0 where
  pub noted : (p : ℕ) → there p ≡ true → p < length flags → get_or flags p false ≡ true
