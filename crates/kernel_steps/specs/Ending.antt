-- How a call ends, by the statement that called.
use Rattle.std.specs.Prelude.{◌≡◌, Bool, true, false, Option, Some, None}
use Rattle.flat_design.specs.Code as code
use Rattle.flat_design.specs.Code.{Statement}
use Rattle.flat_design.specs.Facts.{Called, no_call, function, nonblocking, blocking, facts}
use Rattle.kernel_steps.specs.declared.leaving.CallEnd.{CallEnd}
use Rattle.kernel_steps.specs.declared.leaving.CallEnd.TheVariants as ends

-- which statements call over a socket
abbrev pub is_over : Called → Bool
is_over no_call = false
is_over (function x f arguments) = false
is_over (nonblocking x socket n phase d) = true
is_over (blocking socket n d) = true

abbrev pub calls_over : Statement → Bool
calls_over s = is_over (facts s).called

abbrev pub calls_over_if : Option Statement → Bool
calls_over_if None = false
calls_over_if (Some s) = calls_over s

-- this is how a call ends whose caller, if there was one, is the statement o
abbrev pub IsEndOf : CallEnd → Option Statement → Type 0
IsEndOf (ends.Blocking socket n d) o = o ≡ Some (code.b_transport socket n d)
IsEndOf (ends.NonBlocking target socket n phase d) o = o ≡ Some (code.nb_transport target socket n phase d)
IsEndOf ends.Plain o = calls_over_if o ≡ false
