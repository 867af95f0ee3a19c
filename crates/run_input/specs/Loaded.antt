-- What the reading of files gives: of a model alone, or of a model, a script and, where one is named, a replay file.
use Rattle.std.specs.Prelude.{◌≡◌, ◌≤◌, ◌⊎◌, ℕ, List, Option, Some, None, IfSome, length, ⊤}
use Rattle.sim_io.specs.Contents.{Files, Lacks, IsText, IsLarge, IsPast, IsPastLimit, IsPastOf}
use Rattle.run_input.specs.Limits.{model_limit, script_limit, replay_limit}
use Rattle.run_input.specs.Together.{Together}
use Rattle.run_input.specs.declared.loading.LoadStop.{LoadStop}
use Rattle.run_input.specs.declared.loading.LoadStop.TheVariants as load_stop

-- these are the texts of the files, each within its limit; where no replay file is named there is no text of one
pub record AreTexts (old new : Option Files) (model script : List ℕ) (replay : Option (List ℕ)) (model_text script_text : List ℕ) (replay_text : Option (List ℕ)) : Type 0 where
  pub model_is : IsText old new model model_text
  pub script_is : IsText old new script script_text
  pub replay_is : Together replay replay_text (IsText old new)
  pub model_within : length model_text ≤ model_limit
  pub script_within : length script_text ≤ script_limit
  pub replay_within : IfSome replay_text (λ text. length text ≤ replay_limit)

-- this file was read within its limit, and this is so
abbrev pub AfterText : Option Files → Option Files → List ℕ → ℕ → Type 0 → Type 0
AfterText old new file limit So = (text : List ℕ) × IsText old new file text × (length text ≤ limit) × So

-- the model, which is read first, was read within its limit, and this is so
abbrev pub AfterModel : Option Files → Option Files → List ℕ → Type 0 → Type 0
AfterModel old new model So = AfterText old new model model_limit So

-- the model and then the script were read within their limits, and this is so
abbrev pub AfterScript : Option Files → Option Files → List ℕ → List ℕ → Type 0 → Type 0
AfterScript old new model script So = AfterModel old new model (AfterText old new script script_limit So)

-- the file could not be read: it is the model; or the script, once the model was read; or the replay file that is named, once
-- both were; and a count rose, or the files are told and lack it
abbrev pub IsUnread : Option Files → Option Files → Type 0 → List ℕ → List ℕ → Option (List ℕ) → List ℕ → Type 0
IsUnread old new Risen model script replay file =
    ((file ≡ model) × (Risen ⊎ Lacks old model)) ⊎
    (((file ≡ script) × AfterModel old new model (Risen ⊎ Lacks old script)) ⊎ ((replay ≡ Some file) × AfterScript old new model script (Risen ⊎ Lacks old file)))

-- the file has more bytes than its limit: it is the model; or the script, once the model was read; or the replay file that is
-- named, once both were
abbrev pub IsTooLarge : Option Files → Option Files → List ℕ → List ℕ → Option (List ℕ) → List ℕ → Type 0
IsTooLarge old new model script replay file =
    ((file ≡ model) × IsLarge old new model model_limit) ⊎
    (((file ≡ script) × AfterModel old new model (IsLarge old new script script_limit)) ⊎ ((replay ≡ Some file) × AfterScript old new model script (IsLarge old new file replay_limit)))

-- why a file was not read, in the words of one call
abbrev pub TextCause : Option Files → Type 0 → List ℕ → ℕ → LoadStop → Type 0
TextCause files Risen name limit (load_stop.Failed file) = (file ≡ name) × (Risen ⊎ Lacks files name)
TextCause files Risen name limit (load_stop.TooLarge file) = (file ≡ name) × ((bytes : List ℕ) × IsPastLimit files name limit bytes)
TextCause files Risen name limit load_stop.NoMemory = ⊤

-- the same of the replay file, where one is named: nothing stops the reading of none
abbrev pub ReplayCause : Option Files → Type 0 → Option (List ℕ) → LoadStop → Type 0
ReplayCause files Risen None stop = ⊥
ReplayCause files Risen (Some name) stop = TextCause files Risen name replay_limit stop

-- why a file that is read alone was not
abbrev pub FileCause : Option Files → Option Files → Type 0 → List ℕ → ℕ → LoadStop → Type 0
FileCause old new Risen name limit (load_stop.Failed file) = (file ≡ name) × (Risen ⊎ Lacks old name)
FileCause old new Risen name limit (load_stop.TooLarge file) = (file ≡ name) × IsLarge old new name limit
FileCause old new Risen name limit load_stop.NoMemory = ⊤

-- why one of the files of a run was not
abbrev pub LoadCause : Option Files → Option Files → Type 0 → List ℕ → List ℕ → Option (List ℕ) → LoadStop → Type 0
LoadCause old new Risen model script replay (load_stop.Failed file) = IsUnread old new Risen model script replay file
LoadCause old new Risen model script replay (load_stop.TooLarge file) = IsTooLarge old new model script replay file
LoadCause old new Risen model script replay load_stop.NoMemory = ⊤

-- ---- how much was taken of a file that is too large

-- P of the file that has more bytes than its limit
abbrev pub IfTooLarge : LoadStop → (List ℕ → Type 0) → Type 0
IfTooLarge (load_stop.Failed file) P = ⊤
IfTooLarge (load_stop.TooLarge file) P = P file
IfTooLarge load_stop.NoMemory P = ⊤

-- just one byte past the limit is gone of this file from what an id that reads has still to give, in the words of one call: what an
-- id has still to give, and whether it reads, are told by a shelf
abbrev pub TookPast : {S : Type 0} → (S → ℕ → Type 0) → (S → ℕ → Option (List ℕ)) → S → Option Files → List ℕ → ℕ → List ℕ → Type 0
TookPast Reading left shelf files name limit file = (file ≡ name) × ((id : ℕ) × Reading shelf id × IsPast files name limit (left shelf id))

-- the same of the replay file, where one is named
abbrev pub TookReplayPast : {S : Type 0} → (S → ℕ → Type 0) → (S → ℕ → Option (List ℕ)) → S → Option Files → Option (List ℕ) → List ℕ → Type 0
TookReplayPast Reading left shelf files None = λ file. ⊥
TookReplayPast Reading left shelf files (Some name) = TookPast Reading left shelf files name replay_limit

-- the same in the words of several calls, of a file that has a limit
pub record TookOnePast {S : Type 0} (Reading : S → ℕ → Type 0) (left : S → ℕ → Option (List ℕ)) (shelf : S) (old new : Option Files) (IsLimit : List ℕ → ℕ → Type 0) (file : List ℕ) : Type 0 where
  pub limit : ℕ
  pub is_limit : IsLimit file limit
  pub id : ℕ
  pub reads : Reading shelf id
  pub past : IsPastOf old new file limit (left shelf id)

-- the limit of a file that is read alone
abbrev pub IsAloneLimit : List ℕ → List ℕ → ℕ → Type 0
IsAloneLimit name file limit = (file ≡ name) × (limit ≡ model_limit)

-- the limit of one of the files of a run
abbrev pub IsRunLimit : List ℕ → List ℕ → Option (List ℕ) → List ℕ → ℕ → Type 0
IsRunLimit model script replay file limit =
    ((file ≡ model) × (limit ≡ model_limit)) ⊎ (((file ≡ script) × (limit ≡ script_limit)) ⊎ ((replay ≡ Some file) × (limit ≡ replay_limit)))
