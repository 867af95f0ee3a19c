-- Each statement that is left stands in the body of the call that it is left in, and one that is owed or begun by an unwinding in an
-- unwind block of that body; each call has at least as many local variables as its body declares, and what a body calls is a function.
use Rattle.std.proofs.Common.{◌≡◌, ◌≤◌, ◌==◌, ℕ, zero, suc, Bool, true, false, cond, List, [], ◌∷◌, length, Contains, Option, Some, None, refl, sym, ◌∙◌, subst, arith}
use Rattle.std.proofs.lemmas.List.{length-map, length-set}
use Rattle.std.proofs.lemmas.Option.{none-some, same_Some}
use Rattle.laws_runs.specs.LogicValues.declared.kinds.Value.{Value}
use Rattle.laws_runs.specs.FlatDesign.Code as code
use Rattle.laws_runs.specs.FlatDesign.Code.{Statement, block_at, body_at, statement_at}
use Rattle.laws_runs.specs.FlatDesign.ValueTypes.{default_value}
use Rattle.laws_runs.specs.FlatDesign.Typed.{EachOf}
use Rattle.laws_runs.specs.FlatDesign.Reach.{Inside, itself, deeper, Holds, InBody, inner_blocks}
use Rattle.laws_runs.specs.FlatDesign.Sound.{IsHomeOf}
use Rattle.laws_runs.specs.FlatDesign.declared.code.BodyKind.TheVariants as body_kind
use Rattle.laws_runs.specs.FlatDesign.declared.code.CodeBody.{CodeBody}
use Rattle.laws_runs.specs.FlatDesign.declared.code.Handler.{Handler}
use Rattle.laws_runs.specs.FlatDesign.declared.code.Local.{Local}
use Rattle.laws_runs.specs.FlatDesign.declared.design.Design.{Design}
use Rattle.laws_runs.specs.SimModel.Residual.{Residual, Frame, skip, one, batch, seq, owing, guard, try_, frame, shell, run, goal, followed, statements, block, then_on, in_run, then_owed, in_guard, in_try, in_shell, settle, changed_if, innermost, in_innermost, taken_off, frame_or, goal_or, put, next_of, statement, first_locals, entered_in, entered}
use Rattle.laws_runs.specs.SimModel.Unwinding.{unw, catches, handles, handler_block, handler_of, handled, raise, has_exit, returned}
use Rattle.laws_runs.specs.SimModel.Storing.{with_local}
use Rattle.laws_runs.specs.SimModel.Clean.{EachInBlock, EachInHandlers}
use Rattle.laws_runs.specs.SimModel.declared.plain.Goal.{Goal}
use Rattle.laws_runs.specs.SimModel.declared.plain.Via.{Via}
use Rattle.laws_runs.specs.Standing.{code_of}
use Rattle.laws_runs.proofs.Blocks.{each-from}
use Rattle.laws_runs.proofs.MarkLemmas.{before_statement, frame_statement}

same_statement : (n m : ℕ) → statement n ≡ statement m → n ≡ m
same_statement n m e = cc

module _ (d : Design) where
  -- ---- what a statement is, by its number

  -- a statement of the unwind block of a guard in this body
  pub record IsUndoing (b : CodeBody) (x : Statement) : Type 0 where
    pub body : ℕ
    pub unwind : ℕ
    pub guards : InBody (code_of d) b (code.guard body unwind)
    pub held : Holds (code_of d) unwind x

  -- a statement of this body; or one of its unwind blocks
  abbrev pub Stands : Bool → CodeBody → Statement → Type 0
  Stands false b x = InBody (code_of d) b x
  Stands true b x = IsUndoing b x

  -- the body of this number, of which some instance of a module has one
  pub record HasBody (f : ℕ) (b : CodeBody) : Type 0 where
    pub found : body_at (code_of d) f ≡ Some b
    pub home : ℕ
    pub home_of : IsHomeOf d home b

  pub record IsNumber (undoing : Bool) (f s : ℕ) : Type 0 where
    pub body : CodeBody
    pub is_body : HasBody f body
    pub stands : (x : Statement) → statement_at (code_of d) s ≡ Some x → Stands undoing body x

  -- outside all bodies there is none
  abbrev pub IsOf : Bool → Option ℕ → ℕ → Type 0
  IsOf u None s = ⊥
  IsOf u (Some f) s = IsNumber u f s

  abbrev pub IsCallOf : Bool → Option ℕ → Option ℕ → Type 0
  IsCallOf u o None = Unit {0}
  IsCallOf u o (Some s) = IsOf u o s

  -- what is called in a body is a function
  abbrev pub IsCallee : Option ℕ → ℕ → Type 0
  IsCallee None g = Unit {0}
  IsCallee (Some f) g = (b : CodeBody) → body_at (code_of d) g ≡ Some b → b.kind ≡ body_kind.Function

  abbrev pub IsCalledFrom : Bool → Option ℕ → Option ℕ → ℕ → Type 0
  IsCalledFrom u o call g = IsCallOf u o call × IsCallee o g

  abbrev pub HasRoom : Frame → Type 0
  HasRoom x = (b : CodeBody) → body_at (code_of d) x.body ≡ Some b → length b.locals ≤ length x.locals

  -- what is left inside the body of this number, or in an unwind block of it
  abbrev pub Placed : Bool → Option ℕ → Residual → Type 0
  Placed u o skip = Unit {0}
  Placed u o (one s) = IsOf u o s
  Placed u o (batch s qs) = IsOf u o s
  Placed u o (seq r ss) = Placed u o r × EachOf (IsOf u o) ss
  Placed u o (owing r g w) = Placed u o r × EachInBlock (IsOf true o) (code_of d) w
  Placed u o (guard r g w) = Placed u o r × EachInBlock (IsOf true o) (code_of d) w
  Placed u o (try_ r handlers) = Placed u o r × EachInHandlers (IsOf u o) (code_of d) handlers
  Placed u o (frame r x) = HasRoom x × IsCalledFrom u o x.call x.body × Placed false (Some x.body) r
  Placed u o (shell r x) = HasRoom x × IsCalledFrom u o x.call x.body × Placed false (Some x.body) r
  Placed u o (run g r) = Placed true o r
  Placed u o (goal r k) = Placed u o r

  -- ---- blocks inside blocks

  inside_on : (b k j : ℕ) → Inside (code_of d) b k → Inside (code_of d) k j → Inside (code_of d) b j
  inside_on b k _ h (itself _) = h
  inside_on b k j h (deeper _ m _ s l stands inner) = deeper b m j s (inside_on b k m h l) stands inner

  pub undoing-inside : (b : CodeBody) (x : Statement) → IsUndoing b x → InBody (code_of d) b x
  undoing-inside b x h =
      let into = deeper b.block h.guards.block h.unwind (code.guard h.body h.unwind) h.guards.inside h.guards.stands (suc zero, omega arith, refl) in
      record { block = h.held.block; inside = inside_on b.block h.unwind h.held.block into h.held.inside; stands = h.held.stands }

  pub stands-inside : (u : Bool) (b : CodeBody) (x : Statement) → Stands u b x → InBody (code_of d) b x
  stands-inside false b x h = h
  stands-inside true b x h = undoing-inside b x h

  deeper_stands : (u : Bool) (b : CodeBody) (s : Statement) (j m : ℕ) (x : Statement) → Stands u b s → Contains (inner_blocks s) j → Contains (block_at (code_of d) j) m → statement_at (code_of d) m ≡ Some x → Stands u b x
  deeper_stands false b s j m x h inner listed found =
      record { block = j; inside = deeper b.block h.block j s h.inside h.stands inner; stands = record { number = m; listed_there = listed; found = found } }
  deeper_stands true b s j m x h inner listed found = record {
    body = h.body;
    unwind = h.unwind;
    guards = h.guards;
    held = record { block = j; inside = deeper h.unwind h.held.block j s h.held.inside h.held.stands inner; stands = record { number = m; listed_there = listed; found = found } };
  }

  -- what stands in a block of a statement
  pub inner-of : (u : Bool) (o : Option ℕ) (n j : ℕ) (s : Statement) → IsOf u o n → statement_at (code_of d) n ≡ Some s → Contains (inner_blocks s) j → EachInBlock (IsOf u o) (code_of d) j
  inner-of u None n j s h is inner = absurd h
  inner-of u (Some f) n j s h is inner =
      each-from (IsOf u (Some f)) (block_at (code_of d) j)
      (λ m listed. record { body = h.body; is_body = h.is_body; stands = λ x found. deeper_stands u h.body s j m x (h.stands s is) inner listed found })

  -- and in the unwind block of a guard
  pub undoing-of : (u : Bool) (o : Option ℕ) (n b w : ℕ) → IsOf u o n → statement_at (code_of d) n ≡ Some (code.guard b w) → EachInBlock (IsOf true o) (code_of d) w
  undoing-of u None n b w h is = absurd h
  undoing-of true (Some f) n b w h is = inner-of true (Some f) n w (code.guard b w) h is (suc zero, omega arith, refl)
  undoing-of false (Some f) n b w h is =
      each-from (IsOf true (Some f)) (block_at (code_of d) w)
      (λ m listed. record {
        body = h.body;
        is_body = h.is_body;
        stands = λ x found. record { body = b; unwind = w; guards = h.stands (code.guard b w) is; held = record { block = w; inside = itself w; stands = record { number = m; listed_there = listed; found = found } } };
      })

  -- ---- what follows, and what falls away

  module _ (u : Bool) (o : Option ℕ) where
    pub followed-placed : (r : Residual) (ss : List ℕ) → Placed u o r → EachOf (IsOf u o) ss → Placed u o (followed r ss)
    followed-placed r [] h e = h
    followed-placed r (s ∷ ss) h e = (h, e)

    pub statements-placed : (ss : List ℕ) → EachOf (IsOf u o) ss → Placed u o (statements ss)
    statements-placed [] e = tt
    statements-placed (s ∷ ss) e = followed-placed (one s) ss e.0 e.1

    then_placed : (r : Residual) (ss : List ℕ) → Placed u o r → EachOf (IsOf u o) ss → Placed u o (then_on r ss)
    then_placed skip ss h e = statements-placed ss e
    then_placed other ss h e = followed-placed other ss h e

    guard_placed : (r : Residual) (g w : ℕ) → Placed u o r → EachInBlock (IsOf true o) (code_of d) w → Placed u o (in_guard r g w)
    guard_placed skip g w h e = tt
    guard_placed other g w h e = (h, e)

    try_placed : (r : Residual) (handlers : List Handler) → Placed u o r → EachInHandlers (IsOf u o) (code_of d) handlers → Placed u o (in_try r handlers)
    try_placed skip handlers h e = tt
    try_placed other handlers h e = (h, e)

    shell_placed : (r : Residual) (x : Frame) → HasRoom x → IsCalledFrom u o x.call x.body → Placed false (Some x.body) r → Placed u o (in_shell r x)
    shell_placed skip x room call h = tt
    shell_placed other x room call h = (room, call, h)

    run_placed : (g : ℕ) (r : Residual) → Placed true o r → Placed u o (in_run g r)
    run_placed g skip h = tt
    run_placed g other h = h

    frame_placed : (r : Residual) (x : Frame) (n inside : Residual) (s : ℕ) → next_of r ≡ statement s → Placed u o (frame inside x) → Placed u o (frame_or r x n inside)
    frame_placed skip x n inside s is h = cc
    frame_placed other x n inside s is h = h

    goal_placed : (r : Residual) (k : Goal) (n inside : Residual) (s : ℕ) → next_of r ≡ statement s → Placed u o inside → Placed u o (goal_or r k n inside)
    goal_placed skip k n inside s is h = cc
    goal_placed other k n inside s is h = h

    past_frame : (r : Residual) (x : Frame) (inside : Residual) → Placed u o (frame inside x) → Placed u o (frame_or r x skip inside)
    past_frame skip x inside h = tt
    past_frame other x inside h = h

    past_goal : (r : Residual) (k : Goal) (inside : Residual) → Placed u o inside → Placed u o (goal_or r k skip inside)
    past_goal skip k inside h = tt
    past_goal other k inside h = h

  owed_placed : (u : Bool) (o : Option ℕ) (r : Residual) (g w : ℕ) → Placed u o r → EachInBlock (IsOf true o) (code_of d) w → Placed u o (then_owed (code_of d) r g w)
  owed_placed u o skip g w h e = run_placed u o g (block (code_of d) w) (statements-placed true o (block_at (code_of d) w) e)
  owed_placed u o other g w h e = (h, e)

  pub settle-placed : (u : Bool) (o : Option ℕ) (r : Residual) → Placed u o r → Placed u o (settle (code_of d) r)
  settle-placed u o skip h = tt
  settle-placed u o (one s) h = h
  settle-placed u o (batch s []) h = tt
  settle-placed u o (batch s (q ∷ qs)) h = h
  settle-placed u o (seq r ss) h = then_placed u o (settle (code_of d) r) ss (settle-placed u o r h.0) h.1
  settle-placed u o (owing r g w) h = owed_placed u o (settle (code_of d) r) g w (settle-placed u o r h.0) h.1
  settle-placed u o (guard r g w) h = guard_placed u o (settle (code_of d) r) g w (settle-placed u o r h.0) h.1
  settle-placed u o (try_ r handlers) h = try_placed u o (settle (code_of d) r) handlers (settle-placed u o r h.0) h.1
  settle-placed u o (frame r x) h = (h.0, h.1, settle-placed false (Some x.body) r h.2)
  settle-placed u o (shell r x) h = shell_placed u o (settle (code_of d) r) x h.0 h.1 (settle-placed false (Some x.body) r h.2)
  settle-placed u o (run g r) h = run_placed u o g (settle (code_of d) r) (settle-placed true o r h)
  settle-placed u o (goal r k) h = settle-placed u o r h

  -- ---- what is put in place of a statement, and what is past

  module _ (n : Residual) (s : ℕ) (new : (u : Bool) (o : Option ℕ) → IsOf u o s → Placed u o n) where
    pub put-placed : (u : Bool) (o : Option ℕ) (r : Residual) → next_of r ≡ statement s → Placed u o r → Placed u o (put r n)
    put-placed u o skip is h = tt
    put-placed u o (one t) is h = new u o (subst (IsOf u o) (same_statement t s is) h)
    put-placed u o (batch t []) is h = absurd cc
    put-placed u o (batch t (q ∷ qs)) is h = absurd cc
    put-placed u o (seq r ss) is h = followed-placed u o (put r n) ss (put-placed u o r is h.0) h.1
    put-placed u o (owing r g w) is h = (put-placed u o r is h.0, h.1)
    put-placed u o (guard r g w) is h = (put-placed u o r is h.0, h.1)
    put-placed u o (try_ r handlers) is h = (put-placed u o r is h.0, h.1)
    put-placed u o (frame r x) is h =
        let there = frame_statement (next_of r) x s is in
        frame_placed u o r x n (put r n) s there (h.0, h.1, put-placed false (Some x.body) r there h.2)
    put-placed u o (shell r x) is h = (h.0, h.1, put-placed false (Some x.body) r is h.2)
    put-placed u o (run g r) is h = put-placed true o r is h
    put-placed u o (goal r k) is h = let there = before_statement (next_of r) k s is in goal_placed u o r k n (put r n) s there (put-placed u o r there h)

  pub past-placed : (u : Bool) (o : Option ℕ) (r : Residual) → Placed u o r → Placed u o (put r skip)
  past-placed u o skip h = tt
  past-placed u o (one s) h = tt
  past-placed u o (batch s qs) h = tt
  past-placed u o (seq r ss) h = followed-placed u o (put r skip) ss (past-placed u o r h.0) h.1
  past-placed u o (owing r g w) h = (past-placed u o r h.0, h.1)
  past-placed u o (guard r g w) h = (past-placed u o r h.0, h.1)
  past-placed u o (try_ r handlers) h = (past-placed u o r h.0, h.1)
  past-placed u o (frame r x) h = past_frame u o r x (put r skip) (h.0, h.1, past-placed false (Some x.body) r h.2)
  past-placed u o (shell r x) h = (h.0, h.1, past-placed false (Some x.body) r h.2)
  past-placed u o (run g r) h = past-placed true o r h
  past-placed u o (goal r k) h = past_goal u o r k (put r skip) (past-placed u o r h)

  pub off-placed : (u : Bool) (o : Option ℕ) (r : Residual) → Placed u o r → Placed u o (taken_off r)
  off-placed u o skip h = tt
  off-placed u o (one s) h = h
  off-placed u o (batch s qs) h = h
  off-placed u o (seq r ss) h = (off-placed u o r h.0, h.1)
  off-placed u o (owing r g w) h = (off-placed u o r h.0, h.1)
  off-placed u o (guard r g w) h = (off-placed u o r h.0, h.1)
  off-placed u o (try_ r handlers) h = (off-placed u o r h.0, h.1)
  off-placed u o (frame r x) h = (h.0, h.1, off-placed false (Some x.body) r h.2)
  off-placed u o (shell r x) h = (h.0, h.1, off-placed false (Some x.body) r h.2)
  off-placed u o (run g r) h = off-placed true o r h
  off-placed u o (goal r k) h = off-placed u o r h

  -- ---- a local variable that is set, and a return

  module _ (k : ℕ) (v : Value) where
    set_room : (x : Frame) → HasRoom x → HasRoom (with_local k v x)
    set_room x room b at = subst (λ n. length b.locals ≤ n) (sym (length-set x.locals k v)) (room b at)

    set_placed : (w : Option Frame) (u : Bool) (o : Option ℕ) (r : Residual) (x : Frame) → HasRoom x → IsCalledFrom u o x.call x.body → Placed false (Some x.body) r → Placed u o (frame r (changed_if w (with_local k v) x))
    set_placed None u o r x room call h = (set_room x room, call, h)
    set_placed (Some y) u o r x room call h = (room, call, h)

    pub local-placed : (u : Bool) (o : Option ℕ) (r : Residual) → Placed u o r → Placed u o (in_innermost (with_local k v) r)
    local-placed u o skip h = tt
    local-placed u o (one s) h = h
    local-placed u o (batch s qs) h = h
    local-placed u o (seq r ss) h = (local-placed u o r h.0, h.1)
    local-placed u o (owing r g w) h = (local-placed u o r h.0, h.1)
    local-placed u o (guard r g w) h = (local-placed u o r h.0, h.1)
    local-placed u o (try_ r handlers) h = (local-placed u o r h.0, h.1)
    local-placed u o (frame r x) h = set_placed (innermost r) u o (in_innermost (with_local k v) r) x h.0 h.1 (local-placed false (Some x.body) r h.2)
    local-placed u o (shell r x) h = set_placed (innermost r) u o (in_innermost (with_local k v) r) x h.0 h.1 (local-placed false (Some x.body) r h.2)
    local-placed u o (run g r) h = local-placed true o r h
    local-placed u o (goal r j) h = local-placed u o r h

  module _ (v : Option Value) where
    frame_returned : (e u : Bool) (o : Option ℕ) (r : Residual) (x : Frame) → HasRoom x → IsCalledFrom u o x.call x.body → Placed false (Some x.body) r → Placed u o (cond e (frame r x) (frame skip (record x { answer = v })))
    frame_returned true u o r x room call h = (room, call, h)
    frame_returned false u o r x room call h = (room, call, tt)

    run_returned : (e : Bool) (u : Bool) (o : Option ℕ) (g : ℕ) (r : Residual) → Placed true o r → Placed u o (cond e (run g r) (run g skip))
    run_returned true u o g r h = h
    run_returned false u o g r h = tt

    pub returned-placed : (u : Bool) (o : Option ℕ) (r : Residual) → Placed u o r → Placed u o (returned v r)
    returned-placed u o skip h = tt
    returned-placed u o (one s) h = h
    returned-placed u o (batch s qs) h = h
    returned-placed u o (seq r ss) h = (returned-placed u o r h.0, h.1)
    returned-placed u o (owing r g w) h = (returned-placed u o r h.0, h.1)
    returned-placed u o (guard r g w) h = (returned-placed u o r h.0, h.1)
    returned-placed u o (try_ r handlers) h = (returned-placed u o r h.0, h.1)
    returned-placed u o (frame r x) h = frame_returned (has_exit r) u o (returned v r) x h.0 h.1 (returned-placed false (Some x.body) r h.2)
    returned-placed u o (shell r x) h = (h.0, h.1, returned-placed false (Some x.body) r h.2)
    returned-placed u o (run g r) h = run_returned (has_exit r) u o g (returned v r) (returned-placed true o r h)
    returned-placed u o (goal r k) h = returned-placed u o r h

  -- ---- unwinding, and exceptions

  pub unw-placed : (u : Bool) (o : Option ℕ) (r : Residual) → Placed u o r → Placed u o (unw r)
  unw-placed u o skip h = tt
  unw-placed u o (one s) h = tt
  unw-placed u o (batch s qs) h = tt
  unw-placed u o (seq r ss) h = unw-placed u o r h.0
  unw-placed u o (owing r g w) h = (unw-placed u o r h.0, h.1)
  unw-placed u o (guard r g w) h = (unw-placed u o r h.0, h.1)
  unw-placed u o (try_ r handlers) h = unw-placed u o r h.0
  unw-placed u o (frame r x) h = (h.0, h.1, unw-placed false (Some x.body) r h.2)
  unw-placed u o (shell r x) h = (h.0, h.1, unw-placed false (Some x.body) r h.2)
  unw-placed u o (run g r) h = unw-placed true o r h
  unw-placed u o (goal r k) h = unw-placed u o r h

  module _ (e : ℕ) (k : Goal) where
    handler_either : (b u : Bool) (o : Option ℕ) (x : Handler) (m : Option Handler) → EachInBlock (IsOf u o) (code_of d) x.block → EachOf (IsOf u o) (handler_block (code_of d) m) → EachOf (IsOf u o) (handler_block (code_of d) (cond b (Some x) m))
    handler_either true u o x m first other = first
    handler_either false u o x m first other = other

    handler_each : (u : Bool) (o : Option ℕ) (handlers : List Handler) → EachInHandlers (IsOf u o) (code_of d) handlers → EachOf (IsOf u o) (handler_block (code_of d) (handler_of handlers e))
    handler_each u o [] h = tt
    handler_each u o (x ∷ xs) h = handler_either (x.exception == e) u o x (handler_of xs e) h.0 (handler_each u o xs h.1)

    try_raised : (b c u : Bool) (o : Option ℕ) (r : Residual) (handlers : List Handler) → Placed u o r → EachInHandlers (IsOf u o) (code_of d) handlers → Placed u o (raise (code_of d) r e k)
        → Placed u o (cond b (try_ (raise (code_of d) r e k) handlers) (cond c (handled (code_of d) r handlers e k) (try_ r handlers)))
    try_raised true c u o r handlers h each later = (later, each)
    try_raised false true u o r handlers h each later = followed-placed u o (goal (unw r) k) (handler_block (code_of d) (handler_of handlers e)) (unw-placed u o r h) (handler_each u o handlers each)
    try_raised false false u o r handlers h each later = (h, each)

    pub raise-placed : (u : Bool) (o : Option ℕ) (r : Residual) → Placed u o r → Placed u o (raise (code_of d) r e k)
    raise-placed u o skip h = tt
    raise-placed u o (one s) h = h
    raise-placed u o (batch s qs) h = h
    raise-placed u o (seq r ss) h = (raise-placed u o r h.0, h.1)
    raise-placed u o (owing r g w) h = (raise-placed u o r h.0, h.1)
    raise-placed u o (guard r g w) h = (raise-placed u o r h.0, h.1)
    raise-placed u o (try_ r handlers) h = try_raised (catches r e) (handles handlers e) u o r handlers h.0 h.1 (raise-placed u o r h.0)
    raise-placed u o (frame r x) h = (h.0, h.1, raise-placed false (Some x.body) r h.2)
    raise-placed u o (shell r x) h = (h.0, h.1, raise-placed false (Some x.body) r h.2)
    raise-placed u o (run g r) h = raise-placed true o r h
    raise-placed u o (goal r j) h = raise-placed u o r h

  -- ---- a body that begins, or that is called

  first_room : (args : List Value) (ls : List Local) → length ls ≤ length (first_locals args ls)
  first_room [] ls = let n = length-map ls (λ (l : Local). default_value l.value_type) in omega (arith, n)
  first_room (v ∷ vs) [] = omega arith
  first_room (v ∷ vs) (l ∷ ls) = let n = first_room vs ls in omega (arith, n)

  body_placed : (f : ℕ) (b : CodeBody) → HasBody f b → Placed false (Some f) (block (code_of d) b.block)
  body_placed f b is =
      statements-placed false (Some f) (block_at (code_of d) b.block)
      (each-from (IsOf false (Some f)) (block_at (code_of d) b.block)
      (λ m listed. record { body = b; is_body = is; stands = λ x found. record { block = b.block; inside = itself b.block; stands = record { number = m; listed_there = listed; found = found } } }))

  entered_by : (u : Bool) (o : Option ℕ) (f : ℕ) (args : List Value) (call : Option ℕ) (via : Option Via) → IsCalledFrom u o call f → (m : Option CodeBody) → body_at (code_of d) f ≡ m
      → ((b : CodeBody) → body_at (code_of d) f ≡ Some b → HasBody f b) → Placed u o (entered_in (code_of d) f args call via m)
  entered_by u o f args call via calls None at has = ((λ b there. absurd (none-some b (sym at ∙ there))), calls, tt)
  entered_by u o f args call via calls (Some b) at has = (
    (λ c there. subst (λ (x : CodeBody). length x.locals ≤ length (first_locals args b.locals)) (same_Some b c (sym at ∙ there)) (first_room args b.locals)),
    calls,
    body_placed f b (has b at),
  )

  pub entered-placed : (u : Bool) (o : Option ℕ) (f : ℕ) (args : List Value) (call : Option ℕ) (via : Option Via) → IsCalledFrom u o call f → ((b : CodeBody) → body_at (code_of d) f ≡ Some b → HasBody f b)
      → Placed u o (entered (code_of d) f args call via)
  entered-placed u o f args call via calls has = entered_by u o f args call via calls (body_at (code_of d) f) refl has
