-- What is left of a started body, as a piece of the code, and what of it comes next.
use Rattle.std.specs.Prelude.{ℕ, Bool, true, false, ◌||◌, List, [], ◌∷◌, ◌++◌, Option, Some, None, map, drop, length, not, ◌+◌}
use Rattle.signal_channel.specs.LogicValues.declared.kinds.Value.{Value}
use Rattle.flat_design.specs.Code.{Arena, block_at, body_at}
use Rattle.flat_design.specs.ValueTypes.{default_value}
use Rattle.flat_design.specs.declared.code.Local.{Local}
use Rattle.flat_design.specs.declared.code.CodeBody.{CodeBody}
use Rattle.flat_design.specs.declared.code.Handler.{Handler}
use Rattle.sim_model.specs.declared.plain.Goal.{Goal}
use Rattle.sim_model.specs.declared.plain.Via.{Via}

-- a call that is open, or the body: the number of its code; its parameters and local variables; the value that it answers,
-- once it is returned; the statement that called it, but for the body; and the transport call that it serves
pub record Frame : Type 0 where
  pub body : ℕ
  pub locals : List Value
  pub answer : Option Value
  pub call : Option ℕ
  pub via : Option Via

-- Nothing is left; one statement; a control call that is still owed to these instances; what is left, and then these
-- statements; what is left, and then the unwind block of a guard that is owed; what is left inside a guard, with its number and
-- its unwind block; inside a try; inside a call or the body; inside one that is being unwound; inside the unwind block of a guard;
-- and what is to be unwound before a goal.
pub data Residual : Type 0 where
  skip : Residual
  one : ℕ → Residual
  batch : ℕ → List ℕ → Residual
  seq : Residual → List ℕ → Residual
  owing : Residual → ℕ → ℕ → Residual
  guard : Residual → ℕ → ℕ → Residual
  try_ : Residual → List Handler → Residual
  frame : Residual → Frame → Residual
  shell : Residual → Frame → Residual
  run : ℕ → Residual → Residual
  goal : Residual → Goal → Residual

-- what is left, and then these statements: with none behind it, it is itself
abbrev pub followed : Residual → List ℕ → Residual
followed r [] = r
followed r (s ∷ ss) = seq r (s ∷ ss)

-- statements of which none was carried out
abbrev pub statements : List ℕ → Residual
statements [] = skip
statements (s ∷ ss) = followed (one s) ss

abbrev pub block : Arena → ℕ → Residual
block a b = statements (block_at a b)

-- finished parts fall away

abbrev pub then_on : Residual → List ℕ → Residual
then_on skip ss = statements ss
then_on r ss = followed r ss

abbrev pub in_run : ℕ → Residual → Residual
in_run g skip = skip
in_run g r = run g r

-- an unwind block that is owed begins where nothing is left before it
abbrev pub then_owed : Arena → Residual → ℕ → ℕ → Residual
then_owed a skip g u = in_run g (block a u)
then_owed a r g u = owing r g u

abbrev pub in_guard : Residual → ℕ → ℕ → Residual
in_guard skip g u = skip
in_guard r g u = guard r g u

abbrev pub in_try : Residual → List Handler → Residual
in_try skip handlers = skip
in_try r handlers = try_ r handlers

abbrev pub in_shell : Residual → Frame → Residual
in_shell skip x = skip
in_shell r x = shell r x

abbrev pub settle : Arena → Residual → Residual
settle a skip = skip
settle a (one s) = one s
settle a (batch s []) = skip
settle a (batch s (q ∷ qs)) = batch s (q ∷ qs)
settle a (seq r ss) = then_on (settle a r) ss
settle a (owing r g u) = then_owed a (settle a r) g u
settle a (guard r g u) = in_guard (settle a r) g u
settle a (try_ r handlers) = in_try (settle a r) handlers
settle a (frame r x) = frame (settle a r) x
settle a (shell r x) = in_shell (settle a r) x
settle a (run g r) = in_run g (settle a r)
settle a (goal r k) = goal (settle a r) k

-- The marks of a run: which guard was entered, and left, which unwind block begun, and finished. Settling adds some, the
-- innermost first.
pub data Mark : Type 0 where
  enter : ℕ → ℕ → Mark
  leave : ℕ → ℕ → Mark
  begin : ℕ → ℕ → Mark
  finish : ℕ → ℕ → Mark

abbrev pub finished_if : ℕ → ℕ → Residual → List Mark
finished_if p g skip = finish p g ∷ []
finished_if p g r = []

abbrev pub begun_if : ℕ → Arena → Residual → ℕ → ℕ → List Mark
begun_if p a skip g u = begin p g ∷ finished_if p g (block a u)
begun_if p a r g u = []

abbrev pub left_if : ℕ → Residual → ℕ → List Mark
left_if p skip g = leave p g ∷ []
left_if p r g = []

-- the marks that settling adds, for the instance p
abbrev pub fall : ℕ → Arena → Residual → List Mark
fall p a skip = []
fall p a (one s) = []
fall p a (batch s qs) = []
fall p a (seq r ss) = fall p a r
fall p a (owing r g u) = fall p a r ++ begun_if p a (settle a r) g u
fall p a (guard r g u) = fall p a r ++ left_if p (settle a r) g
fall p a (try_ r handlers) = fall p a r
fall p a (frame r x) = fall p a r
fall p a (shell r x) = fall p a r
fall p a (run g r) = fall p a r ++ finished_if p g (settle a r)
fall p a (goal r k) = fall p a r

-- what comes next: a statement; the call that one owes to an instance; the end of a call; the end of the body; the end of an
-- unwinding; or nothing
pub data Next : Type 0 where
  statement : ℕ → Next
  owes : ℕ → ℕ → Next
  leaves : Frame → Next
  done : Next
  reaches : Goal → Next
  nothing : Next

abbrev pub frame_end : Option ℕ → Frame → Next
frame_end None x = done
frame_end (Some call) x = leaves x

abbrev pub in_frame : Next → Frame → Next
in_frame nothing x = frame_end x.call x
in_frame next x = next

abbrev pub before_goal : Next → Goal → Next
before_goal nothing k = reaches k
before_goal next k = next

abbrev pub next_of : Residual → Next
next_of skip = nothing
next_of (one s) = statement s
next_of (batch s []) = nothing
next_of (batch s (q ∷ qs)) = owes s q
next_of (seq r ss) = next_of r
next_of (owing r g u) = next_of r
next_of (guard r g u) = next_of r
next_of (try_ r handlers) = next_of r
next_of (frame r x) = in_frame (next_of r) x
next_of (shell r x) = next_of r
next_of (run g r) = next_of r
next_of (goal r k) = before_goal (next_of r) k

-- another residual in place of what comes next: of a statement, of a call that ends, of a goal that is reached
abbrev pub frame_or : Residual → Frame → Residual → Residual → Residual
frame_or skip x n inside = n
frame_or r x n inside = frame inside x

abbrev pub goal_or : Residual → Goal → Residual → Residual → Residual
goal_or skip k n inside = n
goal_or r k n inside = goal inside k

abbrev pub put : Residual → Residual → Residual
put skip n = skip
put (one s) n = n
put (batch s qs) n = n
put (seq r ss) n = followed (put r n) ss
put (owing r g u) n = owing (put r n) g u
put (guard r g u) n = guard (put r n) g u
put (try_ r handlers) n = try_ (put r n) handlers
put (frame r x) n = frame_or r x n (put r n)
put (shell r x) n = shell (put r n) x
put (run g r) n = run g (put r n)
put (goal r k) n = goal_or r k n (put r n)

-- the call that comes next is owed to one instance less
abbrev pub taken_off : Residual → Residual
taken_off skip = skip
taken_off (one s) = one s
taken_off (batch s qs) = batch s (drop 1 qs)
taken_off (seq r ss) = seq (taken_off r) ss
taken_off (owing r g u) = owing (taken_off r) g u
taken_off (guard r g u) = guard (taken_off r) g u
taken_off (try_ r handlers) = try_ (taken_off r) handlers
taken_off (frame r x) = frame (taken_off r) x
taken_off (shell r x) = shell (taken_off r) x
taken_off (run g r) = run g (taken_off r)
taken_off (goal r k) = goal (taken_off r) k

-- the innermost call, the body among them, also one that is being unwound

abbrev pub or_frame : Option Frame → Frame → Option Frame
or_frame None x = Some x
or_frame (Some inner) x = Some inner

abbrev pub innermost : Residual → Option Frame
innermost skip = None
innermost (one s) = None
innermost (batch s qs) = None
innermost (seq r ss) = innermost r
innermost (owing r g u) = innermost r
innermost (guard r g u) = innermost r
innermost (try_ r handlers) = innermost r
innermost (frame r x) = or_frame (innermost r) x
innermost (shell r x) = or_frame (innermost r) x
innermost (run g r) = innermost r
innermost (goal r k) = innermost r

abbrev pub changed_if : Option Frame → (Frame → Frame) → Frame → Frame
changed_if None f x = f x
changed_if (Some inner) f x = x

-- the innermost call changed
abbrev pub in_innermost : (Frame → Frame) → Residual → Residual
in_innermost f skip = skip
in_innermost f (one s) = one s
in_innermost f (batch s qs) = batch s qs
in_innermost f (seq r ss) = seq (in_innermost f r) ss
in_innermost f (owing r g u) = owing (in_innermost f r) g u
in_innermost f (guard r g u) = guard (in_innermost f r) g u
in_innermost f (try_ r handlers) = try_ (in_innermost f r) handlers
in_innermost f (frame r x) = frame (in_innermost f r) (changed_if (innermost r) f x)
in_innermost f (shell r x) = shell (in_innermost f r) (changed_if (innermost r) f x)
in_innermost f (run g r) = run g (in_innermost f r)
in_innermost f (goal r k) = goal (in_innermost f r) k

-- the innermost transport call, which tells in which instance of a module the statement in place runs
abbrev pub or_via : Option Via → Option Via → Option Via
or_via None via = via
or_via (Some inner) via = Some inner

abbrev pub within : Residual → Option Via
within skip = None
within (one s) = None
within (batch s qs) = None
within (seq r ss) = within r
within (owing r g u) = within r
within (guard r g u) = within r
within (try_ r handlers) = within r
within (frame r x) = or_via (within r) x.via
within (shell r x) = or_via (within r) x.via
within (run g r) = within r
within (goal r k) = within r

-- the open calls, the body not counted: those that are being unwound too
abbrev pub counted_call : Option ℕ → ℕ
counted_call None = 0
counted_call (Some call) = 1

abbrev pub open_frames : Residual → ℕ
open_frames skip = 0
open_frames (one s) = 0
open_frames (batch s qs) = 0
open_frames (seq r ss) = open_frames r
open_frames (owing r g u) = open_frames r
open_frames (guard r g u) = open_frames r
open_frames (try_ r handlers) = open_frames r
open_frames (frame r x) = open_frames r + counted_call x.call
open_frames (shell r x) = open_frames r + counted_call x.call
open_frames (run g r) = open_frames r
open_frames (goal r k) = open_frames r

-- whether some call that is open, and is not being unwound, is a non-blocking transport call
abbrev pub is_nonblocking : Option Via → Bool
is_nonblocking None = false
is_nonblocking (Some via) = not via.blocking

abbrev pub in_nb : Residual → Bool
in_nb skip = false
in_nb (one s) = false
in_nb (batch s qs) = false
in_nb (seq r ss) = in_nb r
in_nb (owing r g u) = in_nb r
in_nb (guard r g u) = in_nb r
in_nb (try_ r handlers) = in_nb r
in_nb (frame r x) = in_nb r || is_nonblocking x.via
in_nb (shell r x) = in_nb r
in_nb (run g r) = in_nb r
in_nb (goal r k) = in_nb r

abbrev pub has_goal : Residual → Bool
has_goal skip = false
has_goal (one s) = false
has_goal (batch s qs) = false
has_goal (seq r ss) = has_goal r
has_goal (owing r g u) = has_goal r
has_goal (guard r g u) = has_goal r
has_goal (try_ r handlers) = has_goal r
has_goal (frame r x) = has_goal r
has_goal (shell r x) = has_goal r
has_goal (run g r) = has_goal r
has_goal (goal r k) = true

-- a body that begins, with these values of its parameters: other local variables have the values of their types
abbrev pub first_locals : List Value → List Local → List Value
first_locals args locals = args ++ map (λ (l : Local). default_value l.value_type) (drop (length args) locals)

abbrev pub frame_of : ℕ → List Value → Option ℕ → Option Via → List Local → Frame
frame_of f args call via locals = record { body = f; locals = first_locals args locals; answer = None; call = call; via = via }

abbrev pub entered_in : Arena → ℕ → List Value → Option ℕ → Option Via → Option CodeBody → Residual
entered_in a f args call via None = frame skip (frame_of f args call via [])
entered_in a f args call via (Some b) = frame (block a b.block) (frame_of f args call via b.locals)

-- a call of the body f, or the body of a process
abbrev pub entered : Arena → ℕ → List Value → Option ℕ → Option Via → Residual
entered a f args call via = entered_in a f args call via (body_at a f)

abbrev pub begun : Arena → ℕ → List Value → Residual
begun a f args = entered a f args None None
