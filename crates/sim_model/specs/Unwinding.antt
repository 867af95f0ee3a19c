-- Unwinding: what a kill, a reset or an exception makes of a residual (IEEE 1666-2011, 5.6.6).
use Rattle.std.specs.Prelude.{ℕ, Bool, true, false, ◌||◌, ◌==◌, List, [], ◌∷◌, ◌++◌, Option, Some, None, find, is_some, if◌then◌else◌}
use Rattle.signal_channel.specs.LogicValues.declared.kinds.Value.{Value}
use Rattle.flat_design.specs.Code.{Arena, block_at}
use Rattle.flat_design.specs.declared.code.Handler.{Handler}
use Rattle.sim_model.specs.Residual as residual
use Rattle.sim_model.specs.Residual.{Residual, Mark, skip, one, batch, seq, owing, guard, try_, frame, shell, run, goal, followed}
use Rattle.sim_model.specs.declared.plain.Goal.{Goal}
use Rattle.sim_model.specs.declared.plain.Via.{Via}

-- statements and tries are gone; each guard owes its unwind block; each call is being unwound. (The unwind blocks of an
-- unwinding go on, and nothing is unwound that already is.)
abbrev pub unw : Residual → Residual
unw skip = skip
unw (one s) = skip
unw (batch s qs) = skip
unw (seq r ss) = unw r
unw (owing r g u) = owing (unw r) g u
unw (guard r g u) = owing (unw r) g u
unw (try_ r handlers) = unw r
unw (frame r x) = shell (unw r) x
unw (shell r x) = shell (unw r) x
unw (run g r) = run g (unw r)
unw (goal r k) = unw r

-- the handler of a try for an exception: the first of its name
abbrev pub handler_of : List Handler → ℕ → Option Handler
handler_of handlers e = find (λ (h : Handler). h.exception == e) handlers

abbrev pub handles : List Handler → ℕ → Bool
handles handlers e = is_some (handler_of handlers e)

-- whether some try has a handler for the exception
abbrev pub catches : Residual → ℕ → Bool
catches skip e = false
catches (one s) e = false
catches (batch s qs) e = false
catches (seq r ss) e = catches r e
catches (owing r g u) e = catches r e
catches (guard r g u) e = catches r e
catches (try_ r handlers) e = catches r e || handles handlers e
catches (frame r x) e = catches r e
catches (shell r x) e = catches r e
catches (run g r) e = catches r e
catches (goal r k) e = catches r e

-- the innermost try with a handler for the exception: what is inside it is unwound, and then its handler follows

abbrev pub handler_block : Arena → Option Handler → List ℕ
handler_block a None = []
handler_block a (Some h) = block_at a h.block

abbrev pub handled : Arena → Residual → List Handler → ℕ → Goal → Residual
handled a r handlers e k = followed (goal (unw r) k) (handler_block a (handler_of handlers e))

abbrev pub raise : Arena → Residual → ℕ → Goal → Residual
raise a skip e k = skip
raise a (one s) e k = one s
raise a (batch s qs) e k = batch s qs
raise a (seq r ss) e k = seq (raise a r e k) ss
raise a (owing r g u) e k = owing (raise a r e k) g u
raise a (guard r g u) e k = guard (raise a r e k) g u
raise a (try_ r handlers) e k = if catches r e then try_ (raise a r e k) handlers else if handles handlers e then handled a r handlers e k else try_ r handlers
raise a (frame r x) e k = frame (raise a r e k) x
raise a (shell r x) e k = shell (raise a r e k) x
raise a (run g r) e k = run g (raise a r e k)
raise a (goal r h) e k = goal (raise a r e k) h

-- the transport calls that an unwinding leaves, the innermost first

abbrev pub left_via : Option Via → List Via
left_via None = []
left_via (Some via) = via ∷ []

abbrev pub left_by_unw : Residual → List Via
left_by_unw skip = []
left_by_unw (one s) = []
left_by_unw (batch s qs) = []
left_by_unw (seq r ss) = left_by_unw r
left_by_unw (owing r g u) = left_by_unw r
left_by_unw (guard r g u) = left_by_unw r
left_by_unw (try_ r handlers) = left_by_unw r
left_by_unw (frame r x) = left_by_unw r ++ left_via x.via
left_by_unw (shell r x) = left_by_unw r
left_by_unw (run g r) = left_by_unw r
left_by_unw (goal r k) = left_by_unw r

abbrev pub left_by_raise : Residual → ℕ → List Via
left_by_raise skip e = []
left_by_raise (one s) e = []
left_by_raise (batch s qs) e = []
left_by_raise (seq r ss) e = left_by_raise r e
left_by_raise (owing r g u) e = left_by_raise r e
left_by_raise (guard r g u) e = left_by_raise r e
left_by_raise (try_ r handlers) e = if catches r e then left_by_raise r e else if handles handlers e then left_by_unw r else []
left_by_raise (frame r x) e = left_by_raise r e
left_by_raise (shell r x) e = left_by_raise r e
left_by_raise (run g r) e = left_by_raise r e
left_by_raise (goal r k) e = left_by_raise r e

-- A return ends the innermost call, or the innermost unwind block that is begun: a value is kept in a call, and dropped in
-- an unwind block. What it ends falls away, each guard with its mark, the innermost first.

abbrev pub has_exit : Residual → Bool
has_exit skip = false
has_exit (one s) = false
has_exit (batch s qs) = false
has_exit (seq r ss) = has_exit r
has_exit (owing r g u) = has_exit r
has_exit (guard r g u) = has_exit r
has_exit (try_ r handlers) = has_exit r
has_exit (frame r x) = true
has_exit (shell r x) = has_exit r
has_exit (run g r) = true
has_exit (goal r k) = has_exit r

abbrev pub returned : Option Value → Residual → Residual
returned v skip = skip
returned v (one s) = one s
returned v (batch s qs) = batch s qs
returned v (seq r ss) = seq (returned v r) ss
returned v (owing r g u) = owing (returned v r) g u
returned v (guard r g u) = guard (returned v r) g u
returned v (try_ r handlers) = try_ (returned v r) handlers
returned v (frame r x) = if has_exit r then frame (returned v r) x else frame skip (record x { answer = v })
returned v (shell r x) = shell (returned v r) x
returned v (run g r) = if has_exit r then run g (returned v r) else run g skip
returned v (goal r k) = goal (returned v r) k

-- the guards of what falls away, the innermost first
abbrev pub guards_left : ℕ → Residual → List Mark
guards_left p skip = []
guards_left p (one s) = []
guards_left p (batch s qs) = []
guards_left p (seq r ss) = guards_left p r
guards_left p (owing r g u) = guards_left p r
guards_left p (guard r g u) = guards_left p r ++ residual.leave p g ∷ []
guards_left p (try_ r handlers) = guards_left p r
guards_left p (frame r x) = guards_left p r
guards_left p (shell r x) = guards_left p r
guards_left p (run g r) = guards_left p r
guards_left p (goal r k) = guards_left p r

abbrev pub return_marks : ℕ → Residual → List Mark
return_marks p skip = []
return_marks p (one s) = []
return_marks p (batch s qs) = []
return_marks p (seq r ss) = return_marks p r
return_marks p (owing r g u) = return_marks p r
return_marks p (guard r g u) = return_marks p r
return_marks p (try_ r handlers) = return_marks p r
return_marks p (frame r x) = if has_exit r then return_marks p r else guards_left p r
return_marks p (shell r x) = return_marks p r
return_marks p (run g r) = if has_exit r then return_marks p r else guards_left p r
return_marks p (goal r k) = return_marks p r
