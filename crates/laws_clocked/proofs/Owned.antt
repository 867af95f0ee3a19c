-- What each statement is that is left in the call in place of a body, not counting those of the calls that it made, while the body goes on;
-- and each try that stands around what is left there.
use Rattle.std.proofs.Common.{◌≡◌, ◌⊎◌, ◌==◌, ℕ, zero, suc, Bool, true, false, cond, List, [], ◌∷◌, map, Contains, Option, Some, None, refl, sym, ap, ◌∙◌, subst, arith, inl, inr, ⊎_elim}
use Rattle.laws_runs.specs.LogicValues.declared.kinds.Value.{Value}
use Rattle.laws_runs.specs.FlatDesign.Code as code
use Rattle.laws_runs.specs.FlatDesign.Code.{Arena, Statement, block_at, body_at, statement_at}
use Rattle.laws_runs.specs.FlatDesign.Typed.{EachOf}
use Rattle.laws_runs.specs.FlatDesign.Reach.{Inside, itself, deeper, inner_blocks}
use Rattle.laws_runs.specs.FlatDesign.declared.code.CodeBody.{CodeBody}
use Rattle.laws_runs.specs.FlatDesign.declared.code.Handler.{Handler}
use Rattle.laws_runs.specs.SimModel.Residual.{Residual, Frame, skip, one, batch, seq, owing, guard, try_, frame, shell, run, goal, followed, statements, block, then_on, in_run, then_owed, in_guard, in_try, in_shell, settle, changed_if, innermost, in_innermost, taken_off, frame_or, goal_or, put, next_of, statement, leaves, in_frame, entered_in}
use Rattle.laws_runs.specs.SimModel.Unwinding.{unw, catches, handles, handler_block, handler_of, handled, raise, has_exit, returned}
use Rattle.laws_runs.specs.SimModel.Configuration.{Config, arena}
use Rattle.laws_runs.specs.SimModel.Storing.{with_local}
use Rattle.laws_runs.specs.SimModel.Clean.{EachInBlock, EachInHandlers}
use Rattle.laws_runs.specs.SimModel.declared.plain.Goal.{Goal}
use Rattle.laws_runs.specs.SimModel.declared.plain.Via.{Via}
use Rattle.laws_runs.proofs.Blocks.{each-from}
use Rattle.laws_runs.proofs.MarkLemmas.{before_statement, frame_statement}
use Rattle.laws_runs.specs.Moves.{Gives, chooses, loops, tries, calls, controls, throws}
use Rattle.laws_clocked.specs.Again.{Around}
use Rattle.laws_clocked.specs.Clocked.{SparesIt}
use Rattle.laws_clocked.proofs.Storing.{IsGiven, gives, guards, hops}
use Rattle.laws_clocked.proofs.Keeping.{HasCall}
use Rattle.laws_clocked.proofs.Undoing.{none_next, owes_next, same_next, no_leaving, stays_here, owes_stays, call_or, before_leaves, ends_as, skip_or, followed_call, goal_call}

module _ (a : Arena) (P : ℕ → Type 0) where
  abbrev pub CallSo : Option ℕ → Type 0
  CallSo None = Unit {0}
  CallSo (Some s) = P s

  -- the handlers are those of such a try
  pub record IsTriedBy (handlers : List Handler) : Type 0 where
    pub number : ℕ
    pub body : ℕ
    pub so : P number
    pub found : statement_at a number ≡ Some (code.try_ body handlers)

  abbrev pub EachOwn : Residual → Type 0
  EachOwn skip = Unit {0}
  EachOwn (one s) = P s
  EachOwn (batch s qs) = P s
  EachOwn (seq r ss) = EachOwn r × EachOf P ss
  EachOwn (owing r g u) = EachOwn r × EachInBlock P a u
  EachOwn (guard r g u) = EachOwn r × EachInBlock P a u
  EachOwn (try_ r handlers) = EachOwn r × EachInHandlers P a handlers × IsTriedBy handlers
  EachOwn (frame r x) = CallSo x.call
  EachOwn (shell r x) = Unit {0}
  EachOwn (run g r) = EachOwn r
  EachOwn (goal r k) = EachOwn r

  -- ---- what follows, and what falls away

  pub followed-own : (r : Residual) (ss : List ℕ) → EachOwn r → EachOf P ss → EachOwn (followed r ss)
  followed-own r [] h e = h
  followed-own r (s ∷ ss) h e = (h, e)

  pub statements-own : (ss : List ℕ) → EachOf P ss → EachOwn (statements ss)
  statements-own [] e = tt
  statements-own (s ∷ ss) e = followed-own (one s) ss e.0 e.1

  then_own : (r : Residual) (ss : List ℕ) → EachOwn r → EachOf P ss → EachOwn (then_on r ss)
  then_own skip ss h e = statements-own ss e
  then_own other ss h e = followed-own other ss h e

  run_own : (g : ℕ) (r : Residual) → EachOwn r → EachOwn (in_run g r)
  run_own g skip h = tt
  run_own g other h = h

  owed_own : (r : Residual) (g u : ℕ) → EachOwn r → EachInBlock P a u → EachOwn (then_owed a r g u)
  owed_own skip g u h e = run_own g (block a u) (statements-own (block_at a u) e)
  owed_own other g u h e = (h, e)

  guard_own : (r : Residual) (g u : ℕ) → EachOwn r → EachInBlock P a u → EachOwn (in_guard r g u)
  guard_own skip g u h e = tt
  guard_own other g u h e = (h, e)

  try_own : (r : Residual) (handlers : List Handler) → EachOwn r → EachInHandlers P a handlers → IsTriedBy handlers → EachOwn (in_try r handlers)
  try_own skip handlers h e t = tt
  try_own other handlers h e t = (h, e, t)

  shell_own : (r : Residual) (x : Frame) → EachOwn (in_shell r x)
  shell_own skip x = tt
  shell_own other x = tt

  pub settle-own : (r : Residual) → EachOwn r → EachOwn (settle a r)
  settle-own skip h = tt
  settle-own (one s) h = h
  settle-own (batch s []) h = tt
  settle-own (batch s (q ∷ qs)) h = h
  settle-own (seq r ss) h = then_own (settle a r) ss (settle-own r h.0) h.1
  settle-own (owing r g u) h = owed_own (settle a r) g u (settle-own r h.0) h.1
  settle-own (guard r g u) h = guard_own (settle a r) g u (settle-own r h.0) h.1
  settle-own (try_ r handlers) h = try_own (settle a r) handlers (settle-own r h.0) h.1 h.2
  settle-own (frame r x) h = h
  settle-own (shell r x) h = shell_own (settle a r) x
  settle-own (run g r) h = run_own g (settle a r) (settle-own r h)
  settle-own (goal r k) h = settle-own r h

  -- ---- what is put in place of a statement

  frame_own : (r : Residual) (x : Frame) (n inside : Residual) (s : ℕ) → next_of r ≡ statement s → CallSo x.call → EachOwn (frame_or r x n inside)
  frame_own skip x n inside s is h = absurd (none_next s is)
  frame_own other x n inside s is h = h

  goal_own : (r : Residual) (k : Goal) (n inside : Residual) (s : ℕ) → next_of r ≡ statement s → EachOwn inside → EachOwn (goal_or r k n inside)
  goal_own skip k n inside s is h = absurd (none_next s is)
  goal_own other k n inside s is h = h

  module _ (n : Residual) (s : ℕ) (new : P s → EachOwn n) where
    pub put-own : (r : Residual) → next_of r ≡ statement s → EachOwn r → EachOwn (put r n)
    put-own skip is h = tt
    put-own (one t) is h = new (subst P (same_next t s is) h)
    put-own (batch t []) is h = absurd (none_next s is)
    put-own (batch t (q ∷ qs)) is h = absurd (owes_next t q s is)
    put-own (seq r ss) is h = followed-own (put r n) ss (put-own r is h.0) h.1
    put-own (owing r g u) is h = (put-own r is h.0, h.1)
    put-own (guard r g u) is h = (put-own r is h.0, h.1)
    put-own (try_ r handlers) is h = (put-own r is h.0, h.1, h.2)
    put-own (frame r x) is h = frame_own r x n (put r n) s (frame_statement (next_of r) x s is) h
    put-own (shell r x) is h = tt
    put-own (run g r) is h = put-own r is h
    put-own (goal r k) is h = let there = before_statement (next_of r) k s is in goal_own r k n (put r n) s there (put-own r there h)

  past_frame : (r : Residual) (x : Frame) (inside : Residual) → CallSo x.call → EachOwn (frame_or r x skip inside)
  past_frame skip x inside h = tt
  past_frame other x inside h = h

  past_goal : (r : Residual) (k : Goal) (inside : Residual) → EachOwn inside → EachOwn (goal_or r k skip inside)
  past_goal skip k inside h = tt
  past_goal other k inside h = h

  pub past-own : (r : Residual) → EachOwn r → EachOwn (put r skip)
  past-own skip h = tt
  past-own (one s) h = tt
  past-own (batch s qs) h = tt
  past-own (seq r ss) h = followed-own (put r skip) ss (past-own r h.0) h.1
  past-own (owing r g u) h = (past-own r h.0, h.1)
  past-own (guard r g u) h = (past-own r h.0, h.1)
  past-own (try_ r handlers) h = (past-own r h.0, h.1, h.2)
  past-own (frame r x) h = past_frame r x (put r skip) h
  past-own (shell r x) h = tt
  past-own (run g r) h = past-own r h
  past-own (goal r k) h = past_goal r k (put r skip) (past-own r h)

  pub off-own : (r : Residual) → EachOwn r → EachOwn (taken_off r)
  off-own skip h = tt
  off-own (one s) h = h
  off-own (batch s qs) h = h
  off-own (seq r ss) h = (off-own r h.0, h.1)
  off-own (owing r g u) h = (off-own r h.0, h.1)
  off-own (guard r g u) h = (off-own r h.0, h.1)
  off-own (try_ r handlers) h = (off-own r h.0, h.1, h.2)
  off-own (frame r x) h = h
  off-own (shell r x) h = tt
  off-own (run g r) h = off-own r h
  off-own (goal r k) h = off-own r h

  -- ---- a local variable that is set, and a return

  set_own : (w : Option Frame) (n : ℕ) (v : Value) (x : Frame) → CallSo x.call → CallSo (changed_if w (with_local n v) x).call
  set_own None n v x h = h
  set_own (Some y) n v x h = h

  pub local-own : (n : ℕ) (v : Value) (r : Residual) → EachOwn r → EachOwn (in_innermost (with_local n v) r)
  local-own n v skip h = tt
  local-own n v (one s) h = h
  local-own n v (batch s qs) h = h
  local-own n v (seq r ss) h = (local-own n v r h.0, h.1)
  local-own n v (owing r g u) h = (local-own n v r h.0, h.1)
  local-own n v (guard r g u) h = (local-own n v r h.0, h.1)
  local-own n v (try_ r handlers) h = (local-own n v r h.0, h.1, h.2)
  local-own n v (frame r x) h = set_own (innermost r) n v x h
  local-own n v (shell r x) h = tt
  local-own n v (run g r) h = local-own n v r h
  local-own n v (goal r k) h = local-own n v r h

  frame_returned : (b : Bool) (v : Option Value) (q r : Residual) (x : Frame) → CallSo x.call → EachOwn (cond b (frame q x) (frame r (record x { answer = v })))
  frame_returned true v q r x h = h
  frame_returned false v q r x h = h

  run_returned : (b : Bool) (g : ℕ) (q : Residual) → EachOwn q → EachOwn (cond b (run g q) (run g skip))
  run_returned true g q h = h
  run_returned false g q h = tt

  pub returned-own : (v : Option Value) (r : Residual) → EachOwn r → EachOwn (returned v r)
  returned-own v skip h = tt
  returned-own v (one s) h = h
  returned-own v (batch s qs) h = h
  returned-own v (seq r ss) h = (returned-own v r h.0, h.1)
  returned-own v (owing r g u) h = (returned-own v r h.0, h.1)
  returned-own v (guard r g u) h = (returned-own v r h.0, h.1)
  returned-own v (try_ r handlers) h = (returned-own v r h.0, h.1, h.2)
  returned-own v (frame r x) h = frame_returned (has_exit r) v (returned v r) skip x h
  returned-own v (shell r x) h = tt
  returned-own v (run g r) h = run_returned (has_exit r) g (returned v r) (returned-own v r h)
  returned-own v (goal r k) h = returned-own v r h

  -- ---- unwinding, and exceptions

  pub unw-own : (r : Residual) → EachOwn r → EachOwn (unw r)
  unw-own skip h = tt
  unw-own (one s) h = tt
  unw-own (batch s qs) h = tt
  unw-own (seq r ss) h = unw-own r h.0
  unw-own (owing r g u) h = (unw-own r h.0, h.1)
  unw-own (guard r g u) h = (unw-own r h.0, h.1)
  unw-own (try_ r handlers) h = unw-own r h.0
  unw-own (frame r x) h = tt
  unw-own (shell r x) h = tt
  unw-own (run g r) h = unw-own r h
  unw-own (goal r k) h = unw-own r h

  module _ (e : ℕ) (k : Goal) where
    handler_either : (b : Bool) (x : Handler) (m : Option Handler) → EachInBlock P a x.block → EachOf P (handler_block a m) → EachOf P (handler_block a (cond b (Some x) m))
    handler_either true x m first other = first
    handler_either false x m first other = other

    handler_each : (handlers : List Handler) → EachInHandlers P a handlers → EachOf P (handler_block a (handler_of handlers e))
    handler_each [] h = tt
    handler_each (x ∷ xs) h = handler_either (x.exception == e) x (handler_of xs e) h.0 (handler_each xs h.1)

    try_raised : (b c : Bool) (r : Residual) (handlers : List Handler) → EachOwn r → EachInHandlers P a handlers → IsTriedBy handlers → EachOwn (raise a r e k) → EachOwn (cond b (try_ (raise a r e k) handlers) (cond c (handled a r handlers e k) (try_ r handlers)))
    try_raised true c r handlers h each t later = (later, each, t)
    try_raised false true r handlers h each t later = followed-own (goal (unw r) k) (handler_block a (handler_of handlers e)) (unw-own r h) (handler_each handlers each)
    try_raised false false r handlers h each t later = (h, each, t)

    pub raise-own : (r : Residual) → EachOwn r → EachOwn (raise a r e k)
    raise-own skip h = tt
    raise-own (one s) h = h
    raise-own (batch s qs) h = h
    raise-own (seq r ss) h = (raise-own r h.0, h.1)
    raise-own (owing r g u) h = (raise-own r h.0, h.1)
    raise-own (guard r g u) h = (raise-own r h.0, h.1)
    raise-own (try_ r handlers) h = try_raised (catches r e) (handles handlers e) r handlers h.0 h.1 h.2 (raise-own r h.0)
    raise-own (frame r x) h = h
    raise-own (shell r x) h = tt
    raise-own (run g r) h = raise-own r h
    raise-own (goal r j) h = raise-own r h

  -- ---- what comes next

  pub next-own : (r : Residual) (s : ℕ) → EachOwn r → next_of r ≡ statement s → HasCall r ⊎ P s
  next-own skip s h is = absurd (none_next s is)
  next-own (one t) s h is = inr (subst P (same_next t s is) h)
  next-own (batch t []) s h is = absurd (none_next s is)
  next-own (batch t (q ∷ qs)) s h is = absurd (owes_next t q s is)
  next-own (seq r ss) s h is = next-own r s h.0 is
  next-own (owing r g u) s h is = next-own r s h.0 is
  next-own (guard r g u) s h is = next-own r s h.0 is
  next-own (try_ r handlers) s h is = next-own r s h.0 is
  next-own (frame r x) s h is = inl (call_or (innermost r) x)
  next-own (shell r x) s h is = inl (call_or (innermost r) x)
  next-own (run g r) s h is = next-own r s h is
  next-own (goal r k) s h is = next-own r s h (before_statement (next_of r) k s is)

  pub leaves-own : (r : Residual) (z : Frame) → EachOwn r → next_of r ≡ leaves z → HasCall (put r skip) ⊎ CallSo z.call
  leaves-own skip z h is = absurd (no_leaving z is)
  leaves-own (one t) z h is = absurd (stays_here t z is)
  leaves-own (batch t []) z h is = absurd (no_leaving z is)
  leaves-own (batch t (q ∷ qs)) z h is = absurd (owes_stays t q z is)
  leaves-own (seq r ss) z h is = ⊎_elim (λ c. inl (followed_call (put r skip) ss c)) (λ c. inr c) (leaves-own r z h.0 is)
  leaves-own (owing r g u) z h is = leaves-own r z h.0 is
  leaves-own (guard r g u) z h is = leaves-own r z h.0 is
  leaves-own (try_ r handlers) z h is = leaves-own r z h.0 is
  leaves-own (frame r x) z h is = ⊎_elim
      (λ bare. inr (subst (λ (y : Frame). CallSo y.call) (ends_as x.call x z (sym (ap (λ q. in_frame (next_of q) x) bare) ∙ is)) h))
      (λ c. inl c)
      (skip_or r x (put r skip))
  leaves-own (shell r x) z h is = inl (call_or (innermost (put r skip)) x)
  leaves-own (run g r) z h is = leaves-own r z h is
  leaves-own (goal r k) z h is = let there = before_leaves (next_of r) k z is in ⊎_elim (λ c. inl (goal_call r k (put r skip) z there c)) (λ c. inr c) (leaves-own r z h there)

-- ---- one of a clocked thread's own statements, and what it puts in its place

module _ (a : Arena) (k : ℕ) where
  inside_on : (b j i : ℕ) → Inside a b j → Inside a j i → Inside a b i
  inside_on b j _ h (itself _) = h
  inside_on b j i h (deeper _ m _ s l stands inner) = deeper b m i s (inside_on b j m h l) stands inner

  spared : (s j : ℕ) (x : Statement) → SparesIt a k s → statement_at a s ≡ Some x → Contains (inner_blocks x) j → (m : ℕ) → Contains (block_at a j) m → SparesIt a k m
  spared s j x h found inner m listed = record {
    itself = λ y there. h.inside x j y found inner (record { block = j; inside = itself j; stands = record { number = m; listed_there = listed; found = there } });
    inside = λ y i z there within held.
        h.inside x j z found inner (record {
          block = held.block;
          inside = inside_on j i held.block (deeper j j i y (itself j) (record { number = m; listed_there = listed; found = there }) within) held.inside;
          stands = held.stands;
        });
  }

  pub inner-spares : (s j : ℕ) (x : Statement) → SparesIt a k s → statement_at a s ≡ Some x → Contains (inner_blocks x) j → EachInBlock (SparesIt a k) a j
  inner-spares s j x h found inner = each-from (SparesIt a k) (block_at a j) (spared s j x h found inner)

-- the statement of this number stands among them, at any depth, and spares the variable that the loop asks
pub record IsOwn (a : Arena) (b : Around) (s : ℕ) : Type 0 where
  pub spares : SparesIt a b.again s
  pub block : ℕ
  pub inside : Inside a b.inside block
  pub listed : Contains (block_at a block) s

inner_own : (a : Arena) (b : Around) (s j : ℕ) (x : Statement) → IsOwn a b s → statement_at a s ≡ Some x → Contains (inner_blocks x) j → EachInBlock (IsOwn a b) a j
inner_own a b s j x h found inner =
    each-from (IsOwn a b) (block_at a j)
    (λ m listed. record {
      spares = spared a b.again s j x h.spares found inner m listed;
      block = j;
      inside = deeper b.inside h.block j x h.inside (record { number = s; listed_there = h.listed; found = found }) inner;
      listed = listed;
    })

pub each-own : (a : Arena) (b : Around) (ss : List ℕ) → ((s : ℕ) → Contains ss s → Contains (block_at a b.inside) s) → EachOf (SparesIt a b.again) ss → EachOf (IsOwn a b) ss
each-own a b [] there h = tt
each-own a b (s ∷ ss) there h = (
  record { spares = h.0; block = b.inside; inside = itself b.inside; listed = there s (zero, omega arith, refl) },
  each-own a b ss (λ n c. there n (let within = c.1 in (suc c.0, omega (arith, within), c.2))) h.1,
)

handlers_each : (Q : ℕ → Type 0) (a : Arena) (handlers : List Handler) → ((j : ℕ) → Contains (map (λ (h : Handler). h.block) handlers) j → EachInBlock Q a j) → EachInHandlers Q a handlers
handlers_each Q a [] each = tt
handlers_each Q a (x ∷ xs) each = (each x.block (zero, omega arith, refl), handlers_each Q a xs (λ j c. each j (let within = c.1 in (suc c.0, omega (arith, within), c.2))))

module _ (c : Config) (around : Around) (s : ℕ) (h : IsOwn (arena c) around s) where
  abbrev Q : ℕ → Type 0
  Q = IsOwn (arena c) around

  abbrev Own : Residual → Type 0
  Own r = EachOwn (arena c) Q r

  block_own : (b : ℕ) (x : Statement) → statement_at (arena c) s ≡ Some x → Contains (inner_blocks x) b → Own (block (arena c) b)
  block_own b x found inner = statements-own (arena c) Q (block_at (arena c) b) (inner_own (arena c) around s b x h found inner)

  entered_own : (f : ℕ) (args : List Value) (via : Option Via) (m : Option CodeBody) → Own (entered_in (arena c) f args (Some s) via m)
  entered_own f args via None = h
  entered_own f args via (Some b) = h

  gives_own : (x : Statement) (new : Residual) → statement_at (arena c) s ≡ Some x → Gives c s x new → Own new
  gives_own _ _ found (chooses e b other true) = block_own b (code.if_ e b other) found (zero, omega arith, refl)
  gives_own _ _ found (chooses e b None false) = tt
  gives_own _ _ found (chooses e b (Some o) false) = block_own o (code.if_ e b (Some o)) found (suc zero, omega arith, refl)
  gives_own _ _ found (loops e b true) = followed-own (arena c) Q (block (arena c) b) (s ∷ []) (block_own b (code.while_ e b) found (zero, omega arith, refl)) (h, tt)
  gives_own _ _ found (loops e b false) = tt
  gives_own _ _ found (tries b handlers) = (
    block_own b (code.try_ b handlers) found (zero, omega arith, refl),
    handlers_each Q (arena c) handlers (λ j inner. inner_own (arena c) around s j (code.try_ b handlers) h found (let within = inner.1 in (suc inner.0, omega (arith, within), inner.2))),
    record { number = s; body = b; so = h; found = found },
  )
  gives_own _ _ found (calls y f arguments args) = entered_own f args None (body_at (arena c) f)
  gives_own _ _ found (controls m whom qs) = h
  gives_own _ _ found (throws whom e qs) = h

  pub given-own : (x : Statement) (new : Residual) → statement_at (arena c) s ≡ Some x → IsGiven c s x new → Own new
  given-own _ _ found (gives y new g) = gives_own y new found g
  given-own _ _ found (guards b u g) = (block_own b (code.guard b u) found (zero, omega arith, refl), inner_own (arena c) around s u (code.guard b u) h found (suc zero, omega arith, refl))
  given-own _ _ found (hops y f args via) = entered_own f args (Some via) (body_at (arena c) f)
