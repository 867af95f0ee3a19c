-- What a call of a shelf leaves alone, as one fact that composes over calls.
-- The parameters are the shelf's own words: its files, a count, the ids that are read, the ids that
-- were created, and the file that a created id stands for.
use Rattle.std.specs.Prelude.{◌≡◌, ℕ, List, Option}
use Rattle.sim_io.specs.Contents.{Files, AfterTold, Same, WereTold}

-- the ids that may be used, and what they stand for, from one call to the next
pub record IdsStay {S : Type 0} (Reading : S → ℕ → Type 0) (Created : S → ℕ → Type 0) (StandsFor : S → ℕ → List ℕ → Type 0) (old new : S) : Type 0 where
  pub reading : (id : ℕ) → Reading old id → Reading new id
  pub created : (id : ℕ) → Created old id → Created new id
  pub stands : (id : ℕ) (name : List ℕ) → StandsFor old id name → StandsFor new id name

-- a call that reads: the files and the count of writes are as before
pub record ReadKeeps {S : Type 0} (files_of : S → Option Files) (writes_of : S → ℕ) (Reading : S → ℕ → Type 0) (Created : S → ℕ → Type 0) (StandsFor : S → ℕ → List ℕ → Type 0) (old new : S) : Type 0 where
  pub files : AfterTold (files_of old) (files_of new) Same
  pub writes : writes_of new ≡ writes_of old
  pub ids : IdsStay Reading Created StandsFor old new

-- a call that writes: where the files are told after it they were told before, and the count of reads is as before
pub record WriteKeeps {S : Type 0} (files_of : S → Option Files) (reads_of : S → ℕ) (Reading : S → ℕ → Type 0) (Created : S → ℕ → Type 0) (StandsFor : S → ℕ → List ℕ → Type 0) (old new : S) : Type 0 where
  pub told : WereTold (files_of old) (files_of new)
  pub reads : reads_of new ≡ reads_of old
  pub ids : IdsStay Reading Created StandsFor old new
