-- What is left of a body is typed: each statement is one of the body whose call it stands in, and each call holds values of the
-- types of its body's parameters and local variables.
use Rattle.std.specs.Prelude.{◌≡◌, ⊤, ℕ, Option, Some, None}
use Rattle.sim_model.specs.LogicValues.declared.kinds.Value.{Value}
use Rattle.sim_model.specs.FlatDesign.Code as code
use Rattle.sim_model.specs.FlatDesign.Code.{Statement, statement_at, body_at}
use Rattle.sim_model.specs.FlatDesign.Typed.{EachOf, parameters_of}
use Rattle.sim_model.specs.FlatDesign.Reach.{InBody}
use Rattle.sim_model.specs.FlatDesign.Sound.{IsHomeOf, HasParameters, blocking_parameters, nonblocking_parameters}
use Rattle.sim_model.specs.FlatDesign.declared.value_types.ValueType.{ValueType}
use Rattle.sim_model.specs.FlatDesign.declared.value_types.ValueType.TheVariants as type
use Rattle.sim_model.specs.FlatDesign.declared.code.CodeBody.{CodeBody}
use Rattle.sim_model.specs.FlatDesign.declared.design.Design.{Design}
use Rattle.sim_model.specs.Residual.{Residual, Frame, skip, one, batch, seq, owing, guard, try_, frame, shell, run, goal}
use Rattle.sim_model.specs.Configuration.{Instance}
use Rattle.sim_model.specs.Reading.{home_of_via}
use Rattle.sim_model.specs.Clean.{EachInBlock, EachInHandlers}
use Rattle.laws_runs.specs.Standing.{code_of, IsOverHop}
use Rattle.laws_runs.specs.Contents.{Pairwise, IsOf, LocalFits}

-- the statement of this number is one of the body of that number; outside all bodies there is none
abbrev pub IsInside : Design → Option ℕ → ℕ → Type 0
IsInside d None s = ⊥
IsInside d (Some f) s = (b : CodeBody) (x : Statement) → body_at (code_of d) f ≡ Some b → statement_at (code_of d) s ≡ Some x → InBody (code_of d) b x

-- an answer that is kept, of a body that answers with this type
abbrev pub AnswerFits : Option ValueType → Option Value → Type 0
AnswerFits t None = ⊤
AnswerFits None (Some v) = ⊥
AnswerFits (Some t) (Some v) = IsOf t v

-- the statement that called the body f, which is b: a call names it, and a transport call has arguments for its parameters
abbrev pub Calls : Option Statement → ℕ → CodeBody → Type 0
Calls None f b = ⊥
Calls (Some (code.call y g arguments)) f b = g ≡ f
Calls (Some (code.b_transport s n delay)) f b = HasParameters (parameters_of b) blocking_parameters × (b.answer ≡ None)
Calls (Some (code.nb_transport y s n phase delay)) f b = HasParameters (parameters_of b) nonblocking_parameters × (b.answer ≡ Some (type.Int 32))
Calls (Some other) f b = ⊥

-- it stands in the body around
abbrev pub CallFits : Design → Option ℕ → Option ℕ → ℕ → CodeBody → Type 0
CallFits d outer None f b = ⊤
CallFits d outer (Some s) f b = IsInside d outer s × Calls (statement_at (code_of d) s) f b

-- a call, or the body: of a body of the module in whose instance it runs
pub record FrameFits (d : Design) (outer : Option ℕ) (home : ℕ) (x : Frame) : Type 0 where
  pub body : CodeBody
  pub found : body_at (code_of d) x.body ≡ Some body
  pub home_of : IsHomeOf d (home_of_via d home x.via) body
  pub over : IsOverHop d x.via
  pub locals_fit : Pairwise LocalFits body.locals x.locals
  pub answer_fits : AnswerFits body.answer x.answer
  pub call_fits : CallFits d outer x.call x.body body

-- what is left inside the body of this number, in this instance of a module
abbrev pub LeftFits : Design → Option ℕ → ℕ → Residual → Type 0
LeftFits d outer home skip = ⊤
LeftFits d outer home (one s) = IsInside d outer s
LeftFits d outer home (batch s qs) = IsInside d outer s
LeftFits d outer home (seq r ss) = LeftFits d outer home r × EachOf (IsInside d outer) ss
LeftFits d outer home (owing r g u) = LeftFits d outer home r × EachInBlock (IsInside d outer) (code_of d) u
LeftFits d outer home (guard r g u) = LeftFits d outer home r × EachInBlock (IsInside d outer) (code_of d) u
LeftFits d outer home (try_ r handlers) = LeftFits d outer home r × EachInHandlers (IsInside d outer) (code_of d) handlers
LeftFits d outer home (frame r x) = FrameFits d outer home x × LeftFits d (Some x.body) (home_of_via d home x.via) r
LeftFits d outer home (shell r x) = FrameFits d outer home x × LeftFits d (Some x.body) (home_of_via d home x.via) r
LeftFits d outer home (run g r) = LeftFits d outer home r
LeftFits d outer home (goal r k) = LeftFits d outer home r

-- an instance: its body is one of its module, the first arguments have the types of the parameters, and what is left fits
pub record InstanceFits (d : Design) (i : Instance) : Type 0 where
  pub body : CodeBody
  pub found : body_at (code_of d) i.code ≡ Some body
  pub home_of : IsHomeOf d i.home body
  pub arguments : Pairwise LocalFits (parameters_of body) i.arguments
  pub left : LeftFits d None i.home i.residual
