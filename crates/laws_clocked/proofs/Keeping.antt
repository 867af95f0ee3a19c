-- What the steps of a thread keep of a local variable of its body: where they stand in a call that it made, and where their statements
-- store to other ones.
use Rattle.std.proofs.Common.{◌≡◌, ◌⊎◌, ℕ, Bool, true, false, cond, List, [], ◌∷◌, slice_get, Option, Some, None, refl, sym, ap, ◌∙◌, subst, ⊎_elim}
use Rattle.std.specs.Prelude.{Result, Ok, Err}
use Rattle.std.specs.Result.{IfOk}
use Rattle.std.proofs.lemmas.Option.{none-some, same_Some}
use Rattle.laws_runs.specs.LogicValues.declared.kinds.Value.{Value}
use Rattle.laws_runs.specs.LogicValues.declared.kinds.Value.TheVariants as value
use Rattle.laws_runs.specs.ModelTree.declared.items.ProcessKind.{ProcessKind}
use Rattle.laws_runs.specs.ModelTree.declared.items.ProcessKind.TheVariants as process
use Rattle.laws_runs.specs.EventCore.declared.event.Ev.TheVariants as ev
use Rattle.laws_runs.specs.TransportPhases.History.{Entry, Return, BReturn, broken}
use Rattle.laws_runs.specs.TransportPhases.declared.phases.Rule.{Rule}
use Rattle.laws_runs.specs.FlatDesign.Code as code
use Rattle.laws_runs.specs.FlatDesign.Code.{Arena, ArgumentTerm, DestinationTerm, Statement, statement_at}
use Rattle.laws_runs.specs.FlatDesign.declared.names.NameUse.{NameUse}
use Rattle.laws_runs.specs.FlatDesign.declared.names.NameUse.TheVariants as name_use
use Rattle.laws_runs.specs.FlatDesign.declared.code.Store.{Store as Target}
use Rattle.laws_runs.specs.FlatDesign.declared.faults.RunFault.{RunFault}
use Rattle.laws_runs.specs.SimModel.Residual as residual
use Rattle.laws_runs.specs.SimModel.Residual.{Residual, Frame, Next, skip, one, batch, seq, owing, guard, try_, frame, shell, run, goal, followed, changed_if, or_frame, innermost, in_innermost, taken_off, frame_or, goal_or, put, next_of}
use Rattle.laws_runs.specs.SimModel.Unwinding.{raise, has_exit, returned}
use Rattle.laws_runs.specs.SimModel.Storing.{passes, with_local, set_name, stored_if}
use Rattle.laws_runs.specs.SimModel.Configuration.{Config, Instance, arena, instance_at, change_instance, with_residual}
use Rattle.laws_runs.specs.SimModel.Reading.{Here, here}
use Rattle.laws_runs.specs.SimModel.Waits.{leaves_stack}
use Rattle.laws_runs.specs.SimModel.Values.{on_ok}
use Rattle.laws_runs.specs.SimModel.Calls.{call_ends, answer_of, final_value}
use Rattle.laws_runs.specs.SimModel.Transport.{int_of, history, judged, judged_by, judged_return, for_freed, b_transport_ends, nb_transport_ends, complete_now}
use Rattle.laws_runs.specs.SimModel.Control.{ended_instance, stays_kept, reaches_goal, done_by}
use Rattle.laws_runs.specs.SimModel.Statements.{do_statement, leaves_call, via_ends, hands_back, handed_back, calling_statement, owed_call, owed_by, on_statement, do_next}
use Rattle.laws_runs.specs.SimModel.declared.plain.Goal.{Goal}
use Rattle.laws_runs.specs.SimModel.declared.plain.Goal.TheVariants as goal_of
use Rattle.laws_runs.specs.SimModel.declared.plain.Via.{Via}
use Rattle.laws_runs.proofs.Changes.{set-other}
use Rattle.laws_runs.proofs.GoalParts.{IsInner}
use Rattle.laws_runs.proofs.MarkLemmas.{before_statement, frame_statement}
use Rattle.laws_clocked.specs.Stores.{StoresTo, StoresIf, StoresTarget, StoresArguments, StoresDestination, OnlyStores}
use Rattle.laws_clocked.proofs.Storing.{IsKeptUnwound, IsKeptSet, LeftSo, changed_here, flagged, becomes, if_held, fire-held, moved_held, control_held, throw_held, name_held, stored_if_held, call_ends_held, form-held}

-- ---- some call is open in it

abbrev pub HasCall : Residual → Type 0
HasCall r = (z : Frame) × (innermost r ≡ Some z)

call_or : (w : Option Frame) (x : Frame) → (z : Frame) × (or_frame w x ≡ Some z)
call_or None x = (x, refl)
call_or (Some y) x = (y, refl)

followed_call : (r : Residual) (ss : List ℕ) → HasCall r → HasCall (followed r ss)
followed_call r [] h = h
followed_call r (s ∷ ss) h = h

frame_call : (r : Residual) (x : Frame) (n inside : Residual) (s : ℕ) → next_of r ≡ residual.statement s → HasCall (frame_or r x n inside)
frame_call skip x n inside s is = cc
frame_call other x n inside s is = call_or (innermost inside) x

goal_call : (r : Residual) (k : Goal) (n inside : Residual) (s : ℕ) → next_of r ≡ residual.statement s → HasCall inside → HasCall (goal_or r k n inside)
goal_call skip k n inside s is h = cc
goal_call other k n inside s is h = h

pub put-call : (r n : Residual) (s : ℕ) → next_of r ≡ residual.statement s → HasCall r → HasCall (put r n)
put-call skip n s is h = absurd (none-some h.0 h.1)
put-call (one t) n s is h = absurd (none-some h.0 h.1)
put-call (batch t qs) n s is h = absurd (none-some h.0 h.1)
put-call (seq r ss) n s is h = followed_call (put r n) ss (put-call r n s is h)
put-call (owing r g u) n s is h = put-call r n s is h
put-call (guard r g u) n s is h = put-call r n s is h
put-call (try_ r handlers) n s is h = put-call r n s is h
put-call (frame r x) n s is h = frame_call r x n (put r n) s (frame_statement (next_of r) x s is)
put-call (shell r x) n s is h = call_or (innermost (put r n)) x
put-call (run g r) n s is h = put-call r n s is h
put-call (goal r k) n s is h = let there = before_statement (next_of r) k s is in goal_call r k n (put r n) s there (put-call r n s there h)

pub set_call : (f : Frame → Frame) (r : Residual) → HasCall r → HasCall (in_innermost f r)
set_call f skip h = absurd (none-some h.0 h.1)
set_call f (one t) h = absurd (none-some h.0 h.1)
set_call f (batch t qs) h = absurd (none-some h.0 h.1)
set_call f (seq r ss) h = set_call f r h
set_call f (owing r g u) h = set_call f r h
set_call f (guard r g u) h = set_call f r h
set_call f (try_ r handlers) h = set_call f r h
set_call f (frame r x) h = call_or (innermost (in_innermost f r)) (changed_if (innermost r) f x)
set_call f (shell r x) h = call_or (innermost (in_innermost f r)) (changed_if (innermost r) f x)
set_call f (run g r) h = set_call f r h
set_call f (goal r k) h = set_call f r h

-- ---- in each of its local variables a statement stores to one that is there

any_name : (n : NameUse) → StoresTo (λ m. Unit {0}) n
any_name (name_use.Local n) = tt
any_name (name_use.Declared n) = tt

any_if : (n : Option NameUse) → StoresIf (λ m. Unit {0}) n
any_if None = tt
any_if (Some n) = any_name n

any_target : (t : Option Target) → StoresTarget (λ m. Unit {0}) t
any_target None = tt
any_target (Some t) = any_name t.name

any_arguments : (xs : List ArgumentTerm) → StoresArguments (λ m. Unit {0}) xs
any_arguments [] = tt
any_arguments (code.by_value e ∷ xs) = any_arguments xs
any_arguments (code.inout n ∷ xs) = (any_name n, any_arguments xs)

any_destination : (d : DestinationTerm) → StoresDestination (λ m. Unit {0}) d
any_destination (code.to_name t) = any_name t.name
any_destination (code.to_field n f) = tt
any_destination (code.to_element n index) = tt
any_destination (code.to_payload_byte n b index) = tt

pub any_stores : (x : Statement) → OnlyStores (λ m. Unit {0}) x
any_stores (code.var n t e) = tt
any_stores (code.assign d e) = any_destination d
any_stores (code.call x f arguments) = (any_target x, any_arguments arguments)
any_stores (code.read x ch) = any_target x
any_stores (code.nb_read x ch y) = (any_target x, any_name y.name)
any_stores (code.nb_write x ch t e) = any_target x
any_stores (code.trylock x ch) = any_target x
any_stores (code.unlock x ch) = any_target x
any_stores (code.sem_trywait x ch) = any_target x
any_stores (code.nb_transport x socket n phase d) = (any_target x, any_name phase, any_name d)
any_stores (code.make n e m) = any_name n
any_stores (code.b_transport socket n d) = any_name d
any_stores (code.spawn s) = any_if s.handle
any_stores other = tt

-- ---- what a call that ends hands back

module _ (p : ℕ) (H F : Residual → Type 0) (P : ℕ → Type 0) (sets : IsKeptSet H P) (weak : (r : Residual) → H r → F r) (d : Config) (s : LeftSo p H d.processes.instances) where
  abbrev Back : Config → Type 0
  Back e = LeftSo p F e.processes.instances

  less : (e : Config) → LeftSo p H e.processes.instances → Back e
  less e z j there = weak j.residual (z j there)

  freed_held : (t : ℕ) (m : Result Config RunFault) → IfOk m (λ (e : Config). LeftSo p H e.processes.instances) → IfOk (for_freed d t m) (λ (e : Config). LeftSo p H e.processes.instances)
  freed_held t (Ok e) z = z
  freed_held t (Err f) z = tt

  judged_held : (hop : ℕ) (e : Entry) (t : ℕ) (b : Option Rule) → IfOk (judged_by d hop e t b) (λ (y : Config). LeftSo p H y.processes.instances)
  judged_held hop e t None = s
  judged_held hop e t (Some rule) = tt

  answered_by : (m : Result Config RunFault) (f : Config → Config) → IfOk m (λ (y : Config). LeftSo p H y.processes.instances) → ((y : Config) → LeftSo p H y.processes.instances → LeftSo p H (f y).processes.instances) → IfOk (on_ok m (λ y. Ok (f y))) Back
  answered_by (Ok y) f z each = less (f y) (each y z)
  answered_by (Err e) f z each = tt

  return_held : (hop : ℕ) (e : Entry) (t : ℕ) → IfOk (judged_return d hop e t) (λ (y : Config). LeftSo p H y.processes.instances)
  return_held hop e t = freed_held t (judged d hop e t) (judged_held hop e t (broken (history d hop) e))

  via_held : (w : Option Via) (f : Via → Result Config RunFault) → ((via : Via) → IfOk (f via) Back) → IfOk (via_ends d w f) Back
  via_held None f each = less d s
  via_held (Some via) f each = each via

  hands_held : (b : Here) (z : Frame) (y : Statement) → OnlyStores P y → IfOk (hands_back d p b z y) Back
  hands_held b z (code.call target f arguments) so = less (call_ends d p b z target arguments) (call_ends_held p H F P sets d b z target arguments so.0 so.1 s)
  hands_held b z (code.nb_transport target socket n phase e) so =
      let first = final_value z 1 (value.Int 32 0) in
      let second = final_value z 2 (value.Moment 0) in
      via_held z.via (λ via. nb_transport_ends d p b z via target phase e) (λ via.
      answered_by (judged_return d via.hop (Return via.payload (int_of (answer_of (arena d) z)) (int_of first) (complete_now d via.payload)) via.payload)
      (λ y. stored_if (set_name (set_name y p b phase first) p b e second) p b target (answer_of (arena d) z))
      (return_held via.hop (Return via.payload (int_of (answer_of (arena d) z)) (int_of first) (complete_now d via.payload)) via.payload)
      (λ y k. stored_if_held p H F P sets (set_name (set_name y p b phase first) p b e second) b target (answer_of (arena d) z) so.0
      (name_held p H F P sets (set_name y p b phase first) b e second so.2 (name_held p H F P sets y b phase first so.1 k))))
  hands_held b z (code.b_transport socket n e) so =
      let first = final_value z 1 (value.Moment 0) in
      via_held z.via (λ via. b_transport_ends d p b z via e) (λ via.
      answered_by (judged_return d via.hop (BReturn via.payload (complete_now d via.payload)) via.payload) (λ y. set_name y p b e first)
      (return_held via.hop (BReturn via.payload (complete_now d via.payload)) via.payload) (λ y k. name_held p H F P sets y b e first so k))
  hands_held b z other so = less d s

  pub handed_held : (b : Here) (z : Frame) (y : Option Statement) → ((w : Statement) → y ≡ Some w → OnlyStores P w) → IfOk (handed_back d p b z y) Back
  handed_held b z None so = less d s
  handed_held b z (Some y) so = hands_held b z y (so y refl)

module _ (k : ℕ) (v : Value) (f : ℕ) where
  -- ---- a call of the body f, whose local variable k has the value v

  abbrev pub IsKeeping : Frame → Type 0
  IsKeeping x = (slice_get x.locals k ≡ Some v) × (x.body ≡ f)

  -- that is the outermost of what is left

  abbrev pub Keeps : Residual → Type 0
  Keeps skip = Unit {0}
  Keeps (goal r g) = Unit {0}
  Keeps (frame q x) = IsKeeping x
  Keeps other = ⊥

  -- and a call is open in it
  abbrev pub KeepsInCall : Residual → Type 0
  KeepsInCall skip = Unit {0}
  KeepsInCall (goal r g) = Unit {0}
  KeepsInCall (frame q x) = IsKeeping x × HasCall q
  KeepsInCall other = ⊥

  keeps_less : (r : Residual) → KeepsInCall r → Keeps r
  keeps_less skip h = tt
  keeps_less (goal r g) h = tt
  keeps_less (frame q x) h = h.0
  keeps_less other h = absurd h

  keeps_unwound : (a : Arena) → IsKeptUnwound a Keeps
  keeps_unwound a = record { bare = tt; goals = λ r g. tt; raises = raised }
    where
      raised : (r : Residual) (e : ℕ) (g : Goal) → IsInner g → Keeps r → Keeps (raise a r e g)
      raised skip e g inner h = tt
      raised (goal r j) e g inner h = tt
      raised (frame q x) e g inner h = h
      raised other e g inner h = absurd h

  pub set_other : (w : Option Frame) (n : ℕ) (y : Value) (x : Frame) → (n ≡ k → ⊥) → IsKeeping x → IsKeeping (changed_if w (with_local n y) x)
  set_other None n y x apart h = (set-other x.locals n k y (λ e. apart (sym e)) ∙ h.0, h.1)
  set_other (Some z) n y x apart h = h

  keeps_set : IsKeptSet Keeps (λ n. n ≡ k → ⊥)
  keeps_set n y skip apart h = tt
  keeps_set n y (goal r g) apart h = tt
  keeps_set n y (frame q x) apart h = set_other (innermost q) n y x apart h
  keeps_set n y other apart h = absurd h

  -- where a call is open in it, another call's local variable is set
  pub set_call_keeps : (w : Option Frame) (n : ℕ) (y : Value) (x z : Frame) → w ≡ Some z → IsKeeping x → IsKeeping (changed_if w (with_local n y) x)
  set_call_keeps None n y x z is h = absurd (none-some z is)
  set_call_keeps (Some u) n y x z is h = h

  call_set : IsKeptSet KeepsInCall (λ n. Unit {0})
  call_set n y skip so h = tt
  call_set n y (goal r g) so h = tt
  call_set n y (frame q x) so h = (set_call_keeps (innermost q) n y x h.1.0 h.1.1 h.0, set_call (with_local n y) q h.1)
  call_set n y other so h = absurd h

  returned_keeps : (b : Bool) (w : Option Value) (q r : Residual) (x : Frame) → IsKeeping x → Keeps (cond b (frame q x) (frame r (record x { answer = w })))
  returned_keeps true w q r x h = h
  returned_keeps false w q r x h = h

  past_keeps : (q n : Residual) (x : Frame) → IsKeeping x → Keeps (frame_or q x skip n)
  past_keeps skip n x h = tt
  past_keeps other n x h = h

  frame_keeps : (q n inside : Residual) (x : Frame) (s : ℕ) → next_of q ≡ residual.statement s → IsKeeping x → Keeps (frame_or q x n inside)
  frame_keeps skip n inside x s is h = cc
  frame_keeps other n inside x s is h = h

  frame_keeps_call : (q n inside : Residual) (x : Frame) (s : ℕ) → next_of q ≡ residual.statement s → IsKeeping x → HasCall inside → KeepsInCall (frame_or q x n inside)
  frame_keeps_call skip n inside x s is h c = cc
  frame_keeps_call other n inside x s is h c = (h, c)

  -- ---- a step of the thread, of whose body q is left inside its own call

  module _ (p : ℕ) (c : Config) (q : Residual) (x : Frame) (i : Instance) (at : instance_at c p ≡ Some i) (is : i.residual ≡ frame q x) (holds : IsKeeping x) where
    abbrev r : Residual
    r = frame q x

    abbrev pub To : Config → Type 0
    To d = LeftSo p Keeps d.processes.instances

    so : To c
    so j there = subst Keeps (sym (ap (λ (z : Instance). z.residual) (same_Some j i (sym there ∙ at)) ∙ is)) holds

    in_call : HasCall q → LeftSo p KeepsInCall c.processes.instances
    in_call opened j there = subst KeepsInCall (sym (ap (λ (z : Instance). z.residual) (same_Some j i (sym there ∙ at)) ∙ is)) (holds, opened)

    past : To (passes c p r)
    past = moved_held p Keeps c p (put r skip) (λ same. past_keeps q (put q skip) x holds) so

    -- a statement
    module _ (n : ℕ) (next : next_of q ≡ residual.statement n) (b : Here) where
      by_store : (y : Statement) → statement_at (arena c) n ≡ Some y → OnlyStores (λ m. m ≡ k → ⊥) y → IfOk (do_statement c p i r b n y) To
      by_store y found stores =
          form-held p Keeps Keeps (λ m. m ≡ k → ⊥) keeps_set tt (arena c) (keeps_unwound (arena c)) (λ z h. h) c refl r b so n (frame_keeps q skip (put q skip) x n next holds) (λ z new there given. frame_keeps q new (put q new) x n next holds) holds
          (λ w. returned_keeps (has_exit q) w (returned w q) skip x holds) i y found stores

      by_call : (y : Statement) → statement_at (arena c) n ≡ Some y → HasCall q → IfOk (do_statement c p i r b n y) To
      by_call y found opened =
          form-held p KeepsInCall Keeps (λ m. Unit {0}) call_set tt (arena c) (keeps_unwound (arena c)) keeps_less c refl r b (in_call opened) n (frame_keeps_call q skip (put q skip) x n next holds (put-call q skip n next opened))
          (λ z new there given. frame_keeps_call q new (put q new) x n next holds (put-call q new n next opened)) (holds, opened) (λ w. returned_keeps (has_exit q) w (returned w q) skip x holds) i y found (any_stores y)

    on_statement_keeps : (n : ℕ) → next_of q ≡ residual.statement n → (y : Option Statement) → statement_at (arena c) n ≡ y → HasCall q ⊎ ((w : Statement) → y ≡ Some w → OnlyStores (λ m. m ≡ k → ⊥) w) → IfOk (on_statement c p i r n y) To
    on_statement_keeps n next None found how = past
    on_statement_keeps n next (Some y) found how = ⊎_elim (λ opened. by_call n next (here c p i r) y found opened) (λ stores. by_store n next (here c p i r) y found (stores y refl)) how

    -- a call that ends
    past_call : (z inside : Residual) → HasCall inside → KeepsInCall (frame_or z x skip inside)
    past_call skip inside opened = tt
    past_call other inside opened = (holds, opened)

    leaves_keeps : (z : Frame) → HasCall (put q skip) ⊎ ((w : Statement) → calling_statement c z.call ≡ Some w → OnlyStores (λ m. m ≡ k → ⊥) w) → IfOk (leaves_call c p i r z) To
    leaves_keeps z how = ⊎_elim
        (λ opened. handed_held p KeepsInCall Keeps (λ m. Unit {0}) call_set keeps_less (passes c p r) (changed_here p KeepsInCall c.processes.instances (λ j. record j { residual = put r skip }) (slice_get c.processes.instances p) refl (λ j there. past_call q (put q skip) opened)) (here (passes c p r) p i (put r skip)) z (calling_statement c z.call) (λ w there. any_stores w))
        (λ stores. handed_held p Keeps Keeps (λ m. m ≡ k → ⊥) keeps_set (λ y h. h) (passes c p r) past (here (passes c p r) p i (put r skip)) z (calling_statement c z.call) stores)
        how

    -- a control call that is owed
    off : To (with_residual c p (taken_off r))
    off = moved_held p Keeps c p (taken_off r) (λ same. holds) so

    owed_keeps : (m : ℕ) (y : Statement) → IfOk (owed_call (with_residual c p (taken_off r)) m y) To
    owed_keeps m (code.control a whom all) = control_held p Keeps (arena c) (keeps_unwound (arena c)) (with_residual c p (taken_off r)) m a off
    owed_keeps m (code.throw_it whom e all) = throw_held p Keeps (arena c) (keeps_unwound (arena c)) (with_residual c p (taken_off r)) refl m e off
    owed_keeps m other = off

    owed_if : (m : ℕ) (y : Option Statement) → IfOk (owed_by (with_residual c p (taken_off r)) m y) To
    owed_if m None = off
    owed_if m (Some y) = owed_keeps m y

    -- its end, and the end of an unwinding that a try began
    done_keeps : (a : ProcessKind) → To (done_by c p i a)
    done_keeps process.Thread = fire-held p Keeps (leaves_stack (change_instance c p ended_instance)) (ev.Terminated p) (becomes p Keeps c p ended_instance skip (λ j. refl) (λ same. tt) so)
    done_keeps process.Method = becomes p Keeps c p _ skip (λ j. refl) (λ same. tt) so

    goal_keeps : (g : Goal) → IsInner g → To (reaches_goal c p i r g)
    goal_keeps goal_of.End inner = absurd inner
    goal_keeps goal_of.Restart inner = absurd inner
    goal_keeps goal_of.Thrown inner = past
    goal_keeps goal_of.Injected inner = if_held p Keeps i.suspended (stays_kept (passes c p r) p) (passes c p r) (flagged p Keeps (passes c p r) p (λ j. record j { kept = true }) (λ j. refl) past) past

    module _ (own : (n : ℕ) → next_of q ≡ residual.statement n → HasCall q ⊎ ((w : Statement) → statement_at (arena c) n ≡ Some w → OnlyStores (λ m. m ≡ k → ⊥) w))
        (back : (z : Frame) → next_of r ≡ residual.leaves z → HasCall (put q skip) ⊎ ((w : Statement) → calling_statement c z.call ≡ Some w → OnlyStores (λ m. m ≡ k → ⊥) w))
        (inner : (g : Goal) → next_of r ≡ residual.reaches g → IsInner g) where
      by_next : (y : Next) → next_of r ≡ y → IfOk (do_next c p i r y) To
      by_next (residual.statement n) next = let there = frame_statement (next_of q) x n next in on_statement_keeps n there (statement_at (arena c) n) refl (own n there)
      by_next (residual.owes n m) next = owed_if m (statement_at (arena c) n)
      by_next (residual.leaves z) next = leaves_keeps z (back z next)
      by_next residual.done next = done_keeps i.kind
      by_next (residual.reaches g) next = goal_keeps g (inner g next)
      by_next residual.nothing next = done_keeps i.kind

      pub next-keeps : IfOk (do_next c p i r (next_of r)) To
      next-keeps = by_next (next_of r) refl
