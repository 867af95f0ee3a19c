-- What a step answers, from what its statement answers.
use Rattle.std.proofs.Common.{◌≡◌, ℕ, false, List, Some, Result, Ok, Err, refl, sym, ap, ◌∙◌, subst}
use Rattle.std.specs.Prelude.{OnErr}
use Rattle.flat_design.specs.Code.{arena_of, statement_at, statement_of}
use Rattle.flat_design.specs.declared.code.Handler.{Handler}
use Rattle.flat_design.specs.declared.code.Statement.TheVariants as kept
use Rattle.exec_channels.specs.KernelBodies.Depths.{handlers_if, handlers_of}
use Rattle.exec_channels.specs.SimModel.Calls.{do_try}
use Rattle.flat_design.specs.declared.code.Statement.{Statement as Kept}
use Rattle.flat_design.specs.declared.faults.RunFault.{RunFault}
use Rattle.exec_channels.specs.SimModel.Reading.{here}
use Rattle.exec_channels.specs.SimModel.Residual.{Residual, settle}
use Rattle.exec_channels.specs.SimModel.Configuration.{Config, Instance, arena}
use Rattle.exec_channels.specs.SimModel.Statements.{settled_in, do_statement}
use Rattle.exec_channels.specs.KernelState.Moves.{Does, Follows}
use Rattle.exec_channels.specs.KernelState.Stopping.{FollowsBut, DoesBut, DoesOrStops, NoFault}
use Rattle.exec_channels.specs.KernelState.declared.stops.StatementStop.{StatementStop}
use Rattle.exec_channels.specs.KernelState.declared.stops.StatementStop.TheVariants as stop
use Rattle.exec_channels.specs.KernelState.declared.kernel.Kernel.{Kernel}
use Rattle.exec_transactions.specs.Calling.{IsOfProtocol}
use Rattle.kernel_steps.specs.FrameConditions.{QuietIfOk, is_print}
use Rattle.kernel_steps.specs.StepAnswers.{Tells, TellsAll, Makes, Carries, CarriesAll, plain_answer, taking_answer}
use Rattle.kernel_steps.specs.declared.answers.StepAnswer.TheVariants as answer
use Rattle.kernel_steps.proofs.Silent.{statement_quiet}
use Rattle.kernel_steps.specs.declared.answers.StepAnswer.{StepAnswer}

module _ (old new : Kernel) (p : ℕ) (f : Config → ℕ → Instance → Residual → Result Config RunFault) where
  by_plain : (done : Result Unit RunFault) → Does old new done p f → Makes old new (plain_answer done) p f
  by_plain (Ok u) does = does
  by_plain (Err e) does = does

  -- the faults that are judged behind the memory are those of the protocol
  module _ (IsBehind : RunFault → Type 0) (within : (e : RunFault) → IsBehind e → IsOfProtocol e) where
    taking_tells : (c : Config) (i : Instance) (done : Result Unit StatementStop) (r : Result Config RunFault) → FollowsBut IsBehind new done c r → Tells new (taking_answer done) c i r
    taking_tells c i (Ok u) (Ok d) follows = follows
    taking_tells c i (Ok u) (Err e) follows = follows
    taking_tells c i (Err (stop.Fault g)) (Ok d) follows = follows
    taking_tells c i (Err (stop.Fault g)) (Err e) follows = follows
    taking_tells c i (Err stop.NoMemory) (Ok d) follows = follows
    taking_tells c i (Err stop.NoMemory) (Err e) follows = (within e follows.0, follows.1)

    by_taking : (done : Result Unit StatementStop) → DoesBut IsBehind old new done p f → Makes old new (taking_answer done) p f
    by_taking done does c i h there = taking_tells c i done (f (settled_in c p i.residual) p (record i { residual = settle (arena c) i.residual }) (settle (arena c) i.residual)) (does c i h there)

  module _ (a : StepAnswer) where
    pub plain_made : (done : Result Unit RunFault) → a ≡ plain_answer done → Does old new done p f → Makes old new a p f
    plain_made done is does = subst (λ b. Makes old new b p f) (sym is) (by_plain done does)

    pub taking_made : (done : Result Unit StatementStop) → a ≡ taking_answer done → DoesOrStops old new done p f → Makes old new a p f
    taking_made done is does = subst (λ b. Makes old new b p f) (sym is) (by_taking NoFault (λ e no. absurd no) done does)

    pub sending_made : (done : Result Unit StatementStop) → a ≡ taking_answer done → DoesBut IsOfProtocol old new done p f → Makes old new a p f
    sending_made done is does = subst (λ b. Makes old new b p f) (sym is) (by_taking IsOfProtocol (λ e behind. behind) done does)

-- the form of the statement is known: it is a print, or tells nothing
module _ (new : Kernel) (c : Config) (i : Instance) where
  all_told : (a : StepAnswer) (r : Result Config RunFault) → QuietIfOk c r → Tells new a c i r → TellsAll new a c i r
  all_told answer.Went (Ok d) quiet tells = (tells, quiet)
  all_told answer.Went (Err f) quiet tells = tells
  all_told (answer.Printed q s v) (Ok d) quiet tells = (tells.0, (ap (λ x. x.design) quiet, ap (λ x. x.script) quiet), tells.1)
  all_told (answer.Printed q s v) (Err f) quiet tells = tells
  all_told (answer.Fault f) r quiet tells = tells
  all_told answer.NoMemory (Ok d) quiet tells = tells
  all_told answer.NoMemory (Err f) quiet tells = tells

  left_tells : (done : Result Unit RunFault) (r : Result Config RunFault) → Follows new done c r → Tells new (plain_answer done) c i r
  left_tells (Ok u) r follows = follows
  left_tells (Err f) r follows = follows

  -- the end of a call prints nothing
  pub left : (a : StepAnswer) (done : Result Unit RunFault) (r : Result Config RunFault) → QuietIfOk c r → a ≡ plain_answer done → Follows new done c r → TellsAll new a c i r
  left a done r quiet is follows = subst (λ b. TellsAll new b c i r) (sym is) (all_told (plain_answer done) r quiet (left_tells done r follows))

module _ (old new : Kernel) (a : StepAnswer) (p s : ℕ) (x y : Kept) (is : x ≡ y) where
  pub carried : is_print (statement_of y) ≡ false → Carries old new a p s (statement_of y) → CarriesAll old new a p s (statement_of x)
  carried other made = subst (λ z. CarriesAll old new a p s (statement_of z)) (sym is) (λ c i h there.
      let d = settled_in c p i.residual in
      let j = record i { residual = settle (arena c) i.residual } in
      let r = settle (arena c) i.residual in
      all_told new c i a (do_statement d p j r (here d p j r) s (statement_of y)) (statement_quiet d p j r (here d p j r) s (statement_of y) other) (made c i h there))

  pub plain_carried : is_print (statement_of y) ≡ false → (done : Result Unit RunFault) → a ≡ plain_answer done
      → Does old new done p (λ c q i r. do_statement c q i r (here c q i r) s (statement_of y)) → CarriesAll old new a p s (statement_of x)
  plain_carried other done by does = carried other (plain_made old new p (λ c q i r. do_statement c q i r (here c q i r) s (statement_of y)) a done by does)

  pub taking_carried : is_print (statement_of y) ≡ false → (done : Result Unit StatementStop) → a ≡ taking_answer done
      → DoesOrStops old new done p (λ c q i r. do_statement c q i r (here c q i r) s (statement_of y)) → CarriesAll old new a p s (statement_of x)
  taking_carried other done by does = carried other (taking_made old new p (λ c q i r. do_statement c q i r (here c q i r) s (statement_of y)) a done by does)

  pub sending_carried : is_print (statement_of y) ≡ false → (done : Result Unit StatementStop) → a ≡ taking_answer done
      → DoesBut IsOfProtocol old new done p (λ c q i r. do_statement c q i r (here c q i r) s (statement_of y)) → CarriesAll old new a p s (statement_of x)
  sending_carried other done by does = carried other (sending_made old new p (λ c q i r. do_statement c q i r (here c q i r) s (statement_of y)) a done by does)

-- a try has the handlers of its statement
pub try_carried : (old new : Kernel) (p s b : ℕ) (x : Kept) (handlers : List Handler) → x ≡ kept.Try b handlers → statement_at (arena_of old.program.now.code) s ≡ Some (statement_of x)
    → Does old new (Ok tt) p (λ c q i r. do_try c q r b (handlers_of (arena_of old.program.now.code) s)) → CarriesAll old new answer.Went p s (statement_of x)
try_carried old new p s b x handlers is there does =
    carried old new answer.Went p s x (kept.Try b handlers) is refl
    (subst (λ hs. Does old new (Ok tt) p (λ c q i r. do_try c q r b hs)) (ap handlers_if (there ∙ ap (λ z. Some (statement_of z)) is)) does)

-- ---- what a refused statement leaves

pub plain_refused : (a : StepAnswer) (done : Result Unit RunFault) (P : Type 0) → a ≡ plain_answer done → OnErr done P → a ≡ answer.NoMemory → P
plain_refused a (Ok u) P is rest e = cc
plain_refused a (Err f) P is rest e = rest

pub plain_faulted : (a : StepAnswer) (done : Result Unit RunFault) (P : Type 0) → a ≡ plain_answer done → OnErr done P → (f : RunFault) → a ≡ answer.Fault f → P
plain_faulted a (Ok u) P is rest f e = cc
plain_faulted a (Err g) P is rest f e = rest

pub taking_refused : (a : StepAnswer) (done : Result Unit StatementStop) (P : Type 0) → a ≡ taking_answer done → OnErr done P → a ≡ answer.NoMemory → P
taking_refused a (Ok u) P is rest e = cc
taking_refused a (Err (stop.Fault f)) P is rest e = rest
taking_refused a (Err stop.NoMemory) P is rest e = rest

pub taking_faulted : (a : StepAnswer) (done : Result Unit StatementStop) (P : Type 0) → a ≡ taking_answer done → OnErr done P → (f : RunFault) → a ≡ answer.Fault f → P
taking_faulted a (Ok u) P is rest f e = cc
taking_faulted a (Err (stop.Fault g)) P is rest f e = rest
taking_faulted a (Err stop.NoMemory) P is rest f e = rest
