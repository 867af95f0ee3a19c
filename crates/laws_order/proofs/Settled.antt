-- What is left of a body with no transport call open has none when finished parts fall away, or what comes next is replaced.
use Rattle.std.proofs.Common.{◌≡◌, ℕ, List, [], ◌∷◌, None}
use Rattle.sim_model.specs.FlatDesign.Code.{Arena, block_at}
use Rattle.sim_model.specs.FlatDesign.declared.code.Handler.{Handler}
use Rattle.sim_model.specs.Residual.{Residual, Frame, skip, one, batch, seq, owing, guard, try_, frame, shell, run, goal, followed, statements, block, then_on, in_run, then_owed, in_guard, in_try, in_shell, settle, put, frame_or, goal_or}
use Rattle.sim_model.specs.declared.plain.Goal.{Goal}
use Rattle.laws_order.specs.Alongside.{HasNoHops}

no_followed : (r : Residual) (ss : List ℕ) → HasNoHops r → HasNoHops (followed r ss)
no_followed r [] h = h
no_followed r (s ∷ ss) h = h

no_statements : (ss : List ℕ) → HasNoHops (statements ss)
no_statements [] = tt
no_statements (s ∷ ss) = no_followed (one s) ss tt

no_then_on : (r : Residual) (ss : List ℕ) → HasNoHops r → HasNoHops (then_on r ss)
no_then_on skip ss h = no_statements ss
no_then_on r ss h = no_followed r ss h

no_in_run : (g : ℕ) (r : Residual) → HasNoHops r → HasNoHops (in_run g r)
no_in_run g skip h = tt
no_in_run g r h = h

no_then_owed : (a : Arena) (r : Residual) (g u : ℕ) → HasNoHops r → HasNoHops (then_owed a r g u)
no_then_owed a skip g u h = no_in_run g (block a u) (no_statements (block_at a u))
no_then_owed a r g u h = h

no_in_guard : (r : Residual) (g u : ℕ) → HasNoHops r → HasNoHops (in_guard r g u)
no_in_guard skip g u h = tt
no_in_guard r g u h = h

no_in_try : (r : Residual) (handlers : List Handler) → HasNoHops r → HasNoHops (in_try r handlers)
no_in_try skip handlers h = tt
no_in_try r handlers h = h

no_in_shell : (r : Residual) (x : Frame) → HasNoHops r → x.via ≡ None → HasNoHops (in_shell r x)
no_in_shell skip x h via = tt
no_in_shell r x h via = (h, via)

pub settle-no_hops : (a : Arena) (r : Residual) → HasNoHops r → HasNoHops (settle a r)
settle-no_hops a skip h = tt
settle-no_hops a (one s) h = tt
settle-no_hops a (batch s []) h = tt
settle-no_hops a (batch s (q ∷ qs)) h = tt
settle-no_hops a (seq r ss) h = no_then_on (settle a r) ss (settle-no_hops a r h)
settle-no_hops a (owing r g u) h = no_then_owed a (settle a r) g u (settle-no_hops a r h)
settle-no_hops a (guard r g u) h = no_in_guard (settle a r) g u (settle-no_hops a r h)
settle-no_hops a (try_ r handlers) h = no_in_try (settle a r) handlers (settle-no_hops a r h)
settle-no_hops a (frame r x) h = (settle-no_hops a r h.0, h.1)
settle-no_hops a (shell r x) h = no_in_shell (settle a r) x (settle-no_hops a r h.0) h.1
settle-no_hops a (run g r) h = no_in_run g (settle a r) (settle-no_hops a r h)
settle-no_hops a (goal r k) h = settle-no_hops a r h

no_frame_or : (r : Residual) (x : Frame) (n inside : Residual) → HasNoHops n → HasNoHops inside → x.via ≡ None → HasNoHops (frame_or r x n inside)
no_frame_or skip x n inside h k via = h
no_frame_or r x n inside h k via = (k, via)

no_goal_or : (r : Residual) (g : Goal) (n inside : Residual) → HasNoHops n → HasNoHops inside → HasNoHops (goal_or r g n inside)
no_goal_or skip g n inside h k = h
no_goal_or r g n inside h k = k

pub put-no_hops : (r n : Residual) → HasNoHops r → HasNoHops n → HasNoHops (put r n)
put-no_hops skip n h k = tt
put-no_hops (one s) n h k = k
put-no_hops (batch s qs) n h k = k
put-no_hops (seq r ss) n h k = no_followed (put r n) ss (put-no_hops r n h k)
put-no_hops (owing r g u) n h k = put-no_hops r n h k
put-no_hops (guard r g u) n h k = put-no_hops r n h k
put-no_hops (try_ r handlers) n h k = put-no_hops r n h k
put-no_hops (frame r x) n h k = no_frame_or r x n (put r n) k (put-no_hops r n h.0 k) h.1
put-no_hops (shell r x) n h k = (put-no_hops r n h.0 k, h.1)
put-no_hops (run g r) n h k = put-no_hops r n h k
put-no_hops (goal r g) n h k = no_goal_or r g n (put r n) k (put-no_hops r n h k)
