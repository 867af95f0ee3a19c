-- What a clocked thread has around its own statements in the code, so that a reset begins them again; and what is left of the thread there.
use Rattle.std.specs.Prelude.{◌≡◌, ◌⊎◌, ◌<◌, ◌≤◌, ℕ, suc, true, false, List, [], ◌∷◌, ◌++◌, Some}
use Rattle.laws_runs.specs.FlatDesign.Code as code
use Rattle.laws_runs.specs.FlatDesign.Code.{Arena, block_at, statement_at}
use Rattle.laws_runs.specs.FlatDesign.declared.names.NameUse.TheVariants as name_use
use Rattle.laws_runs.specs.FlatDesign.declared.code.Handler.{Handler}
use Rattle.laws_runs.specs.SimModel.Residual.{Residual, Frame, skip, seq, try_, frame, goal, statements, settle, next_of, statement, reaches}
use Rattle.laws_runs.specs.SimModel.Unwinding.{handler_of, handles}
use Rattle.laws_runs.specs.SimModel.Configuration.{Config, Instance, arena, instance_at}
use Rattle.laws_runs.specs.SimModel.Steps.{step, went}
use Rattle.laws_runs.specs.SimModel.Runs.{after}
use Rattle.laws_runs.specs.SimModel.Clean.{times}
use Rattle.laws_runs.specs.SimModel.declared.plain.Goal.{Goal}
use Rattle.laws_runs.specs.SimModel.declared.plain.Goal.TheVariants as goal_of
use Rattle.laws_runs.specs.SimModel.declared.plain.Phase.TheVariants as phase

-- ---- in the code

-- the local variable that asks for the next round; the loop on it, and its block; in that the try, and its block, which has the
-- thread's own statements, the first and more; and the handlers of the try
pub record Around : Type 0 where
  pub again : ℕ
  pub loops : ℕ
  pub round : ℕ
  pub tries : ℕ
  pub inside : ℕ
  pub first : ℕ
  pub more : List ℕ
  pub handlers : List Handler

-- the code has this, and the try catches the exception e, and then does nothing
pub record HasAround (a : Arena) (b : Around) (e : ℕ) : Type 0 where
  pub loops : statement_at a b.loops ≡ Some (code.while_ (code.name (name_use.Local b.again)) b.round)
  pub round : block_at a b.round ≡ b.tries ∷ []
  pub tries : statement_at a b.tries ≡ Some (code.try_ b.inside b.handlers)
  pub inside : block_at a b.inside ≡ b.first ∷ b.more
  pub handler : Handler
  pub catches : handler_of b.handlers e ≡ Some handler
  pub does_nothing : block_at a handler.block ≡ []

-- ---- what is left of the thread

-- in the try r is left of its own statements; or an exception that the try has caught unwinds them, and r is left of that
abbrev pub trying : Around → Frame → Residual → Residual
trying b x r = frame (seq (try_ r b.handlers) (b.loops ∷ [])) x

abbrev pub unwinding : Around → Frame → Residual → Residual
unwinding b x r = frame (seq (goal r goal_of.Thrown) (b.loops ∷ [])) x

-- or one that came from elsewhere does
abbrev pub injected_into : Around → Frame → Residual → Residual
injected_into b x r = frame (seq (goal r goal_of.Injected) (b.loops ∷ [])) x

-- x is what is left, or is left inside it, and what stands around it is no guard, and no try that catches the exception e
pub data IsPlain (e : ℕ) (x : Residual) : Residual → Type 0 where
  plain : IsPlain e x x
  plain_followed : (r : Residual) (ss : List ℕ) → IsPlain e x r → IsPlain e x (seq r ss)
  plain_tried : (r : Residual) (others : List Handler) → handles others e ≡ false → IsPlain e x r → IsPlain e x (try_ r others)
  plain_called : (r : Residual) (y : Frame) → IsPlain e x r → IsPlain e x (frame r y)

-- ---- in a run

-- the next step is one of p, which is on top of the stack; once finished parts have fallen away r is left of its body
pub record StandsAt (c : Config) (p : ℕ) (rest : List ℕ) (r : Residual) : Type 0 where
  pub runs : c.cycle.stopped ≡ false
  pub evaluates : c.cycle.phase ≡ phase.Evaluate
  pub top : c.processes.stack ≡ p ∷ rest
  pub instance : Instance
  pub at : instance_at c p ≡ Some instance
  pub left : settle (arena c) instance.residual ≡ r

-- n steps lead from one configuration to the other, none of them a taking, and behind each of them this is the stack
pub data Stays (stack : List ℕ) : ℕ → Config → Config → Type 0 where
  no_step : (c : Config) → Stays stack 0 c c
  one_more : (n : ℕ) (c d e : Config) → step c ≡ went d → d.processes.stack ≡ stack → Stays stack n d e → Stays stack (suc n) c e

-- the next step goes to where an exception unwinds the thread's own statements, r is left of that, and p is on top of the stack as before
pub record IsCaught (c : Config) (p : ℕ) (rest : List ℕ) (b : Around) (x : Frame) (r : Residual) : Type 0 where
  pub then : Config
  pub steps : step c ≡ went then
  pub stands : StandsAt then p rest (unwinding b x r)

-- n steps from c on, all of which leave p on top of the stack as before, all of the thread's own statements are left, and the first of
-- them comes next
pub record BeginsAgain (c : Config) (p : ℕ) (rest : List ℕ) (b : Around) (x : Frame) (n : ℕ) : Type 0 where
  pub then : Config
  pub stays : Stays (p ∷ rest) n c then
  pub stands : StandsAt then p rest (trying b x (statements (b.first ∷ b.more)))
  pub next : next_of (settle (arena then) stands.instance.residual) ≡ statement b.first

-- Of n steps with these choices from c to d: an exception that the try of the thread has caught still unwinds its own statements, with the
-- thread on the stack; or one of the configurations before was where that was over, and the next step was the thread's.
pub data Unwinds (c d : Config) (p : ℕ) (b : Around) (n : ℕ) (choices : List ℕ) : Type 0 where
  goes_on : (i : Instance) (x : Frame) (r : Residual) → instance_at d p ≡ Some i → i.residual ≡ unwinding b x r → 0 < times p d.processes.stack → Unwinds c d p b n choices
  is_over : (k : ℕ) (own left : List ℕ) (y : Config) (rest : List ℕ) (x : Frame) → k < n → choices ≡ own ++ left → after k own c ≡ Some y → StandsAt y p rest (unwinding b x skip) → Unwinds c d p b n choices

-- all of the thread's own statements are left, and the next step, which is one of p, carries out the first
pub record IsBegun (c : Config) (p : ℕ) (b : Around) : Type 0 where
  pub rest : List ℕ
  pub call : Frame
  pub stands : StandsAt c p rest (trying b call (statements (b.first ∷ b.more)))
  pub next : next_of (settle (arena c) stands.instance.residual) ≡ statement b.first

-- Of n steps with these choices from c to d: p is on the stack behind them; or at one of the configurations up to there the thread's own
-- statements began again.
pub data StaysOrBegins (c d : Config) (p : ℕ) (b : Around) (n : ℕ) (choices : List ℕ) : Type 0 where
  stays_on : 0 < times p d.processes.stack → StaysOrBegins c d p b n choices
  begun_at : (k : ℕ) (own left : List ℕ) (y : Config) → k ≤ n → choices ≡ own ++ left → after k own c ≡ Some y → IsBegun y p b → StaysOrBegins c d p b n choices

-- whatever comes behind c, before p leaves the stack the thread's own statements begin again
abbrev pub BeginsFirst : Config → ℕ → Around → Type 0
BeginsFirst c p b = (n : ℕ) (choices : List ℕ) (d : Config) → after n choices c ≡ Some d → StaysOrBegins c d p b n choices

-- at one of the configurations before, the end of an unwinding of p came next, and p was suspended
pub record IsHeldBack (c : Config) (p n : ℕ) (choices : List ℕ) : Type 0 where
  pub before : ℕ
  pub own : List ℕ
  pub behind : List ℕ
  pub then : Config
  pub less : before < n
  pub split : choices ≡ own ++ behind
  pub reached : after before own c ≡ Some then
  pub rest : List ℕ
  pub left : Residual
  pub stands : StandsAt then p rest left
  pub end : Goal
  pub comes : next_of left ≡ reaches end
  pub is_suspended : stands.instance.suspended ≡ true

-- whatever comes behind c, before p leaves the stack the thread's own statements begin again, or it was held back
abbrev pub BeginsUnlessHeldBack : Config → ℕ → Around → Type 0
BeginsUnlessHeldBack c p b = (n : ℕ) (choices : List ℕ) (d : Config) → after n choices c ≡ Some d → StaysOrBegins c d p b n choices ⊎ IsHeldBack c p n choices
