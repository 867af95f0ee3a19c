-- What an answer other than Ok shows: a count of faults that rose, or a file that is not there.
use Rattle.std.specs.Prelude.{◌≡◌, ◌≤◌, ◌+◌, ◌-◌, ◌^◌, ◌⊎◌, ℕ, min, Result, Ok, Err, IsErrOf}
use Rattle.sim_io.specs.declared.outside.Trouble.{Trouble}
use Rattle.sim_io.specs.declared.outside.Trouble.TheVariants.{Failed, NoMemory}

-- one more, or the last value of a u64
abbrev pub next : ℕ → ℕ
next count = min (count + 1) (2 ^ 64 - 1)

-- the count rose, or stands at the last value of its type
abbrev pub Rose : ℕ → ℕ → Type 0
Rose before now = next before ≤ now

-- a count of faults that rises at Failed, and at nothing else
abbrev pub faults_with : ℕ → Trouble → ℕ
faults_with before Failed = next before
faults_with before NoMemory = before

abbrev pub faults_after : {T : Type 0} → ℕ → Result T Trouble → ℕ
faults_after before (Ok value) = before
faults_after before (Err trouble) = faults_with before trouble

-- one call: the count does not fall, Failed comes only where it rose, NoMemory leaves it
pub record HasCause {T : Type 0} (before now : ℕ) (result : Result T Trouble) : Type 0 where
  pub later : before ≤ now
  pub failed : IsErrOf result Failed → Rose before now
  pub memory : IsErrOf result NoMemory → now ≡ before

-- the same of a call that may also answer Failed where something is lacking, with its count as before
pub record HasCauseOrLacks {T : Type 0} (before now : ℕ) (Lacking : Type 0) (result : Result T Trouble) : Type 0 where
  pub later : before ≤ now
  pub failed : IsErrOf result Failed → Rose before now ⊎ (Lacking × (now ≡ before))
  pub memory : IsErrOf result NoMemory → now ≡ before

-- several calls: the count does not fall, and rose if this came
pub record RoseIf (before now : ℕ) (Came : Type 0) : Type 0 where
  pub later : before ≤ now
  pub rose : Came → Rose before now
