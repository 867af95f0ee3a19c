-- What holds of a run whatever is chosen in it, and however control calls are nested.
use Rattle.std.specs.Prelude.{◌≡◌, ◌<◌, ℕ, true, List, ◌∷◌, ◌++◌, Some, None}
use Rattle.flat_design.specs.declared.design.Design.{Design}
use Rattle.flat_design.specs.declared.faults.RunFault.TheVariants as fault
use Rattle.command_line.specs.TransportPhases.History.{Entry}
use Rattle.command_line.specs.TransportPhases.Lawful.{Lawful}
use Rattle.command_line.specs.SimModel.Clean.{Clean, open_guards}
use Rattle.command_line.specs.SimModel.Configuration.{Config, Instance, instance_at, start}
use Rattle.command_line.specs.SimModel.Runs.{after}
use Rattle.laws_runs.specs.SimModel.Residual.{Residual}
use Rattle.command_line.specs.SimModel.Steps.{faulted, step}
use Rattle.command_line.specs.SimModel.Transport.{history}
use Rattle.laws_runs.specs.SimModel.Unwinding.{catches}
use Rattle.command_line.specs.SimModel.declared.plain.Command.{Command}
use Rattle.model_tree.specs.declared.statements.Control.TheVariants as control
use Rattle.session.specs.Course.{end_of}
use Rattle.session.specs.declared.plans.Plan.{Plan}
use Rattle.laws_runs.specs.UnwindingCalls.{Controls, Throws, MayBeUnwound, UnwindsOnTop, has_outer_goal}
use Rattle.laws_runs.specs.Once.{Begins, HasNoGoal, IsFirst, IsOnTop, ends_of, guards_below, innermost_first, once_each}
use Rattle.laws_runs.specs.Throws.{guards_in_try}
use Rattle.laws_runs.specs.Added.{WouldAdd, IsJudged, WouldAddFreed, IsJudgedFreed, NamesFreed, BreaksRule}
use Rattle.laws_runs.specs.Nowhere.{HasEnded, IsNamedNowhere}

-- the configuration after so many steps with these choices
abbrev pub IsAfter : Design → List Command → ℕ → List ℕ → Config → Type 0
IsAfter design script n choices c = after n choices (start design script) ≡ Some c

-- after any of the steps but the last, with the first of these choices, the run had no end
abbrev pub HadNoEnd : Config → Plan → List ℕ → ℕ → Type 0
HadNoEnd first plan choices steps = (n : ℕ) → n < steps
    → (c : Config) × (used : List ℕ) × (left : List ℕ) × (choices ≡ used ++ left) × (after n used first ≡ Some c) × (end_of plan c used n ≡ None)

pub record Orderly (design : Design) (script : List Command) : Type 0 where
  -- each configuration is clean
  pub clean : (n : ℕ) (choices : List ℕ) (c : Config) → IsAfter design script n choices c → Clean c
  -- nothing names an instance that has ended, and it stays ended
  pub nowhere : (n : ℕ) (choices : List ℕ) (c : Config) → IsAfter design script n choices c → (q : ℕ) → HasEnded c q → IsNamedNowhere c q
  pub stays : (n : ℕ) (choices : List ℕ) (c : Config) → IsAfter design script n choices c → (q : ℕ) → HasEnded c q
      → (m : ℕ) (more : List ℕ) (e : Config) → after m more c ≡ Some e → HasEnded e q
  -- a kill and a reset, of another or of the caller, begin an unwinding of all guards that the target has entered and not left
  pub kills : (n : ℕ) (choices : List ℕ) (c : Config) → IsAfter design script n choices c → (p q : ℕ) → Controls c control.Kill p q → MayBeUnwound c q → (d : Config) × UnwindsOnTop c d q (open_guards q d.trace.marks)
  pub resets : (n : ℕ) (choices : List ℕ) (c : Config) → IsAfter design script n choices c → (p q : ℕ) → Controls c control.Reset p q → MayBeUnwound c q → (d : Config) × UnwindsOnTop c d q (open_guards q d.trace.marks)
  -- and an exception that is caught begins one of all guards inside the innermost try that names it
  pub throws : (n : ℕ) (choices : List ℕ) (c : Config) → IsAfter design script n choices c → (e q : ℕ) (r : Residual) → Throws c e q r → catches r e ≡ true → MayBeUnwound c q → (d : Config) × UnwindsOnTop c d q (guards_in_try r e)
  -- no guard that an instance has entered and not left stands outside the goal of a kill or of a reset
  pub all_below : (n : ℕ) (choices : List ℕ) (c : Config) → IsAfter design script n choices c → (q : ℕ) (i : Instance) → instance_at c q ≡ Some i → has_outer_goal i.residual ≡ true → guards_below i.residual ≡ open_guards q c.trace.marks
  -- once an unwinding is over, the unwind block of each guard that it began with has run exactly once, the innermost first
  pub once : (n : ℕ) (choices : List ℕ) (c d : Config) → IsAfter design script n choices c → (q : ℕ) (guards : List ℕ) → Begins c d q guards
      → (m : ℕ) (more : List ℕ) (e : Config) → after m more d ≡ Some e → HasNoGoal e q → ends_of guards e.trace.marks ≡ once_each q (innermost_first guards)
  -- and, where it is another's, before the one that began it goes on
  pub before_the_caller : (n : ℕ) (choices : List ℕ) (c d : Config) → IsAfter design script n choices c → (p q : ℕ) (rest guards : List ℕ) → Begins c d q guards
      → d.processes.stack ≡ q ∷ p ∷ rest → (m : ℕ) (more : List ℕ) (e : Config) → IsFirst (IsOnTop p) m more d e → ends_of guards e.trace.marks ≡ once_each q (innermost_first guards)
  -- the history of each hop is lawful
  pub lawful : (n : ℕ) (choices : List ℕ) (c : Config) → IsAfter design script n choices c → (hop : ℕ) → Lawful (history c hop)
  -- what a step would add to a history is added exactly where the history with it is lawful, and else the step is the fault of the first
  -- broken rule; the same where the payload of a call that ends is freed
  pub exact : (n : ℕ) (choices : List ℕ) (c : Config) → IsAfter design script n choices c → (hop t : ℕ) (entry : Entry) → WouldAdd c hop t entry → IsJudged c hop t entry (step c)
  pub exact_freed : (n : ℕ) (choices : List ℕ) (c : Config) → IsAfter design script n choices c → (hop t : ℕ) (entry : Entry) → WouldAddFreed c hop t entry → IsJudgedFreed c hop t entry (step c)
  -- a call that names a freed payload is that fault, before any rule; and a fault of the protocol comes only with an entry, of its hop and
  -- its payload, of which it is the first broken rule
  pub freed_first : (n : ℕ) (choices : List ℕ) (c : Config) → IsAfter design script n choices c → (t : ℕ) → NamesFreed c t → step c ≡ faulted (fault.PayloadFreed t)
  pub with_entries : (n : ℕ) (choices : List ℕ) (c : Config) → IsAfter design script n choices c → (number hop t : ℕ) → step c ≡ faulted (fault.Protocol number hop t) → BreaksRule c number hop t
