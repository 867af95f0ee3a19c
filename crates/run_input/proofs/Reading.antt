-- Why one of several files was not read, from why a file was not.
use Rattle.std.proofs.Common.{◌≤◌, ◌⊎◌, inl, inr, ⊎_elim, ℕ, List, length, Option, Some, None, ap, refl, sym, subst}
use Rattle.sim_io.specs.Contents.{Files, AfterTold, Same, Lacks, IsPastOf, IsText, IsLarge}
use Rattle.sim_io.proofs.Chains.{large_of_past, past_of, after_told_same, lacks_before}
use Rattle.run_input.specs.Limits.{model_limit, script_limit, replay_limit}
use Rattle.run_input.specs.Loaded.{TextCause, ReplayCause, FileCause, LoadCause, IfTooLarge, IsAloneLimit, IsRunLimit, TookPast, TookReplayPast, TookOnePast}
use Rattle.run_input.specs.declared.loading.LoadStop.{LoadStop}
use Rattle.run_input.specs.declared.loading.LoadStop.TheVariants as load_stop

-- a file that is read alone
pub alone_cause : (old new : Option Files) (Risen : Type 0) (name : List ℕ) (limit : ℕ) (stop : LoadStop) → AfterTold old new Same → TextCause old Risen name limit stop → FileCause old new Risen name limit stop
alone_cause old new Risen name limit (load_stop.Failed file) kept h = (h.0, h.1)
alone_cause old new Risen name limit (load_stop.TooLarge file) kept h =
    (h.0, large_of_past old old new name limit h.1.0 (after_told_same old) kept h.1.1)
alone_cause old new Risen name limit load_stop.NoMemory kept h = tt

-- the model was not
pub first_cause : (old new : Option Files) (Risen : Type 0) (model script : List ℕ) (replay : Option (List ℕ)) (stop : LoadStop) → AfterTold old new Same → TextCause old Risen model model_limit stop → LoadCause old new Risen model script replay stop
first_cause old new Risen model script replay (load_stop.Failed file) kept h = inl (h.0, h.1)
first_cause old new Risen model script replay (load_stop.TooLarge file) kept h =
    inl (h.0, large_of_past old old new model model_limit h.1.0 (after_told_same old) kept h.1.1)
first_cause old new Risen model script replay load_stop.NoMemory kept h = tt

-- the model was, and the script was not
pub second_cause : (old mid new : Option Files) (Risen Rising : Type 0) (model script : List ℕ) (replay : Option (List ℕ)) (text : List ℕ) (stop : LoadStop) → (Rising → Risen) → AfterTold old mid Same → AfterTold mid new Same → IsText old new model text → length text ≤ model_limit → TextCause mid Rising script script_limit stop → LoadCause old new Risen model script replay stop
second_cause old mid new Risen Rising model script replay text (load_stop.Failed file) risen first second is within h =
    inr (inl (h.0, (text, is, within, ⊎_elim (λ r. inl (risen r)) (λ lacks. inr (lacks_before old mid script first lacks)) h.1)))
second_cause old mid new Risen Rising model script replay text (load_stop.TooLarge file) risen first second is within h =
    inr (inl (h.0, (text, is, within, large_of_past old mid new script script_limit h.1.0 first second h.1.1)))
second_cause old mid new Risen Rising model script replay text load_stop.NoMemory risen first second is within h = tt

-- both were, and the replay file was not
pub third_cause : (old mid new : Option Files) (Risen Rising : Type 0) (model script : List ℕ) (replay : Option (List ℕ)) (text words : List ℕ) (stop : LoadStop) → (Rising → Risen) → AfterTold old mid Same → AfterTold mid new Same → IsText old new model text → length text ≤ model_limit → IsText old new script words → length words ≤ script_limit → ReplayCause mid Rising replay stop → LoadCause old new Risen model script replay stop
third_cause old mid new Risen Rising model script None text words stop risen first second is within says fits h = absurd h
third_cause old mid new Risen Rising model script (Some name) text words (load_stop.Failed file) risen first second is within says fits h =
    let P : List ℕ → Type 0 = λ x. Lacks old x in
    let cause : Risen ⊎ Lacks old file = ⊎_elim (λ r. inl (risen r)) (λ lacks. inr (subst P (sym h.0) (lacks_before old mid name first lacks))) h.1 in
    inr (inr (ap (λ (n : List ℕ). Some n) (sym h.0), (text, is, within, (words, says, fits, cause))))
third_cause old mid new Risen Rising model script (Some name) text words (load_stop.TooLarge file) risen first second is within says fits h =
    let P : List ℕ → Type 0 = λ x. IsLarge old new x replay_limit in
    let large : IsLarge old new file replay_limit = subst P (sym h.0) (large_of_past old mid new name replay_limit h.1.0 first second h.1.1) in
    inr (inr (ap (λ (n : List ℕ). Some n) (sym h.0), (text, is, within, (words, says, fits, large))))
third_cause old mid new Risen Rising model script (Some name) text words load_stop.NoMemory risen first second is within says fits h = tt

-- ---- one byte past the limit

-- what was taken of one file, in the words of several calls
took_on : {S : Type 0} (Reading : S → ℕ → Type 0) (left : S → ℕ → Option (List ℕ)) (shelf : S) (old mid new : Option Files) (IsLimit : List ℕ → ℕ → Type 0) (name file : List ℕ) (limit : ℕ) → AfterTold old mid Same → AfterTold mid new Same → IsLimit file limit → TookPast Reading left shelf mid name limit file → TookOnePast Reading left shelf old new IsLimit file
took_on Reading left shelf old mid new IsLimit name file limit first second is h =
    let P : List ℕ → Type 0 = λ x. IsPastOf old new x limit (left shelf h.1.0) in
    record {
      limit = limit;
      is_limit = is;
      id = h.1.0;
      reads = h.1.1;
      past = subst P (sym h.0) (past_of old mid new name limit (left shelf h.1.0) first second h.1.2);
    }

-- a file that is read alone
pub alone_took : {S : Type 0} (Reading : S → ℕ → Type 0) (left : S → ℕ → Option (List ℕ)) (shelf : S) (old new : Option Files) (name : List ℕ) (stop : LoadStop) → AfterTold old new Same → IfTooLarge stop (TookPast Reading left shelf old name model_limit) → IfTooLarge stop (TookOnePast Reading left shelf old new (IsAloneLimit name))
alone_took Reading left shelf old new name (load_stop.Failed file) kept h = tt
alone_took Reading left shelf old new name (load_stop.TooLarge file) kept h =
    took_on Reading left shelf old old new (IsAloneLimit name) name file model_limit (after_told_same old) kept (h.0, refl) h
alone_took Reading left shelf old new name load_stop.NoMemory kept h = tt

-- the model of a run
pub first_took : {S : Type 0} (Reading : S → ℕ → Type 0) (left : S → ℕ → Option (List ℕ)) (shelf : S) (old new : Option Files) (model script : List ℕ) (replay : Option (List ℕ)) (stop : LoadStop) → AfterTold old new Same → IfTooLarge stop (TookPast Reading left shelf old model model_limit) → IfTooLarge stop (TookOnePast Reading left shelf old new (IsRunLimit model script replay))
first_took Reading left shelf old new model script replay (load_stop.Failed file) kept h = tt
first_took Reading left shelf old new model script replay (load_stop.TooLarge file) kept h =
    took_on Reading left shelf old old new (IsRunLimit model script replay) model file model_limit (after_told_same old) kept (inl (h.0, refl)) h
first_took Reading left shelf old new model script replay load_stop.NoMemory kept h = tt

-- its script
pub second_took : {S : Type 0} (Reading : S → ℕ → Type 0) (left : S → ℕ → Option (List ℕ)) (shelf : S) (old mid new : Option Files) (model script : List ℕ) (replay : Option (List ℕ)) (stop : LoadStop) → AfterTold old mid Same → AfterTold mid new Same → IfTooLarge stop (TookPast Reading left shelf mid script script_limit) → IfTooLarge stop (TookOnePast Reading left shelf old new (IsRunLimit model script replay))
second_took Reading left shelf old mid new model script replay (load_stop.Failed file) first second h = tt
second_took Reading left shelf old mid new model script replay (load_stop.TooLarge file) first second h =
    took_on Reading left shelf old mid new (IsRunLimit model script replay) script file script_limit first second (inr (inl (h.0, refl))) h
second_took Reading left shelf old mid new model script replay load_stop.NoMemory first second h = tt

-- its replay file
pub third_took : {S : Type 0} (Reading : S → ℕ → Type 0) (left : S → ℕ → Option (List ℕ)) (shelf : S) (old mid new : Option Files) (model script : List ℕ) (replay : Option (List ℕ)) (stop : LoadStop) → AfterTold old mid Same → AfterTold mid new Same → IfTooLarge stop (TookReplayPast Reading left shelf mid replay) → IfTooLarge stop (TookOnePast Reading left shelf old new (IsRunLimit model script replay))
third_took Reading left shelf old mid new model script replay (load_stop.Failed file) first second h = tt
third_took Reading left shelf old mid new model script None (load_stop.TooLarge file) first second h = absurd h
third_took Reading left shelf old mid new model script (Some name) (load_stop.TooLarge file) first second h =
    took_on Reading left shelf old mid new (IsRunLimit model script (Some name)) name file replay_limit first second (inr (inr (ap (λ (n : List ℕ). Some n) (sym h.0), refl))) h
third_took Reading left shelf old mid new model script replay load_stop.NoMemory first second h = tt
