-- What fits at the start of a run fits throughout.
use Rattle.std.proofs.Common.{◌≡◌, inl, inr, ℕ, zero, suc, List, [], ◌∷◌, slice_get, Option, Some, None, option_map, refl, sym, ◌∙◌, subst}
use Rattle.std.proofs.lemmas.List.{length-map}
use Rattle.std.proofs.lemmas.Option.{none-some, same_Some, slice_get-map}
use Rattle.sim_model.specs.FlatDesign.declared.design.ProcessPart.{ProcessPart}
use Rattle.sim_model.specs.FlatDesign.declared.design.Design.{Design}
use Rattle.sim_model.specs.Configuration.{Config, Instance, first_instance, start}
use Rattle.sim_model.specs.Steps.{Outcome, went, faulted, takes, ended, step, taking}
use Rattle.sim_model.specs.Runs.{took, and_then, after}
use Rattle.sim_model.specs.declared.plain.Command.{Command}
use Rattle.laws_order.specs.Fits.{KeepsToItself, Fits}
use Rattle.laws_order.proofs.OwnUnheard.{StaticsFixed}
use Rattle.laws_order.proofs.OwnTurning.{EachMayDo}
use Rattle.laws_order.proofs.OwnSteps.{IfWent, step-fits, taking-fits}

-- ---- the induction, for what each step and each taking keeps

module _ (P : Config → Type 0) (steps : (c : Config) → P c → IfWent (step c) P) (takings : (c : Config) (p : ℕ) (e : Config) → step c ≡ takes → P c → taking c p ≡ Some e → P e) where
  holds_taken : (c last : Config) (p : ℕ) (t : Option Config) (on : Config → Option Config) → step c ≡ takes → taking c p ≡ t → P c → ((e : Config) → P e → on e ≡ Some last → P last) → took t on ≡ Some last → P last
  holds_taken c last p None on now is h later reached = absurd (none-some last reached)
  holds_taken c last p (Some e) on now is h later reached = later e (takings c p e now h is) reached

  holds_on : (c last : Config) (choices : List ℕ) (o : Outcome) (on : List ℕ → Config → Option Config) → step c ≡ o → P c → IfWent o P → ((left : List ℕ) (e : Config) → P e → on left e ≡ Some last → P last) → and_then o c choices on ≡ Some last → P last
  holds_on c last choices (went e) on now h kept later reached = later choices e kept reached
  holds_on c last choices (faulted f) on now h kept later reached = absurd (none-some last reached)
  holds_on c last [] takes on now h kept later reached = absurd (none-some last reached)
  holds_on c last (p ∷ choices) takes on now h kept later reached = holds_taken c last p (taking c p) (on choices) now refl h (later choices) reached
  holds_on c last choices ended on now h kept later reached = absurd (none-some last reached)

  pub holds-after : (n : ℕ) (choices : List ℕ) (first last : Config) → P first → after n choices first ≡ Some last → P last
  holds-after zero [] first last h reached = subst P (same_Some first last reached) h
  holds-after zero (p ∷ choices) first last h reached = absurd (none-some last reached)
  holds-after (suc n) choices first last h reached = holds_on first last choices (step first) (after n) refl h (steps first h) (λ left e. holds-after n left e last) reached

-- ---- the start

module _ (d : Design) (script : List Command) where
  first_keeps : (p : ℕ) (part : ProcessPart) → slice_get d.processes p ≡ Some part → KeepsToItself d p (first_instance d part)
  first_keeps p part found = record { process = record { part = part; found = found; same = refl }; left = tt; wait = tt; trigger = tt; suspended = refl; disabled = refl }

  first_at : (p : ℕ) (o : Option ProcessPart) → slice_get d.processes p ≡ o → (i : Instance) → option_map (first_instance d) o ≡ Some i → KeepsToItself d p i
  first_at p None found i is = absurd (none-some i is)
  first_at p (Some part) found i is = subst (KeepsToItself d p) (same_Some (first_instance d part) i is) (first_keeps p part found)

  pub start-fits : Fits d (start d script)
  start-fits = record {
    design = refl;
    processes = record {
      counted = length-map d.processes (first_instance d);
      each = λ p i at. first_at p (slice_get d.processes p) refl i (sym (slice_get-map (first_instance d) d.processes p) ∙ at);
    };
    stack = inl refl;
    evaluates = inr refl;
    not_stopped = refl;
    not_asked = refl;
  }

  pub fits-after : StaticsFixed d → ((p : ℕ) → EachMayDo d p) → (n : ℕ) (choices : List ℕ) (c : Config) → after n choices (start d script) ≡ Some c → Fits d c
  fits-after statics may n choices c reached = holds-after (Fits d) (step-fits d statics may) (taking-fits d statics may) n choices (start d script) c start-fits reached
