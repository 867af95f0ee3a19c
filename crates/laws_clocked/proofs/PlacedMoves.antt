-- Each move of a run of a sound design leaves what is left of each instance in its place.
use Rattle.std.proofs.Common.{◌≡◌, ℕ, zero, suc, Bool, true, false, cond, List, [], ◌∷◌, ◌++◌, map, slice_get, Contains, Option, Some, None, option_map, refl, sym, ap, ◌∙◌, subst, arith, inl, inr}
use Rattle.std.proofs.lemmas.Option.{none-some, same_Some, slice_get-map}
use Rattle.laws_runs.specs.LogicValues.declared.kinds.Value.{Value}
use Rattle.laws_runs.specs.FlatDesign.Code as code
use Rattle.laws_runs.specs.FlatDesign.Code.{Statement, statement_at, body_at, block_at}
use Rattle.laws_runs.specs.FlatDesign.Reach.{inner_blocks}
use Rattle.laws_runs.specs.FlatDesign.Sound.{SoundDesign, IsHomeOf, HandlerFits}
use Rattle.laws_runs.specs.FlatDesign.declared.code.BodyKind.TheVariants as body_kind
use Rattle.laws_runs.specs.FlatDesign.declared.code.CodeBody.{CodeBody}
use Rattle.laws_runs.specs.FlatDesign.declared.code.Handler.{Handler}
use Rattle.laws_runs.specs.FlatDesign.declared.design.Hop.{Hop}
use Rattle.laws_runs.specs.FlatDesign.declared.design.ProcessPart.{ProcessPart}
use Rattle.laws_runs.specs.FlatDesign.declared.design.Design.{Design}
use Rattle.laws_runs.specs.SimModel.Residual.{Residual, skip, guard, goal, block, settle, entered, begun, put, taken_off, next_of, statement}
use Rattle.laws_runs.specs.SimModel.Unwinding.{unw, raise, returned, left_by_unw, left_by_raise}
use Rattle.laws_runs.specs.SimModel.Configuration.{Config, Instance, Deadline, waits_for_all, no_deadline, arena, instance_at, change, change_instance, with_residual, with_runnable, first_instance, start}
use Rattle.laws_runs.specs.SimModel.Waits.{freed, without}
use Rattle.laws_runs.specs.SimModel.Storing.{passes}
use Rattle.laws_runs.specs.SimModel.Calls.{with_left, new_instance, added, runnable_unless}
use Rattle.laws_runs.specs.SimModel.Transport.{blocking_handler, nonblocking_handler}
use Rattle.laws_runs.specs.SimModel.Control.{is_top, pushed, pushed_unless_top, ended_instance}
use Rattle.laws_runs.specs.SimModel.Statements.{settled_in}
use Rattle.laws_runs.specs.SimModel.Phases.{initialize_each, without_deadline, is_zero_timeout, is_due_at}
use Rattle.laws_runs.specs.SimModel.Steps.{Outcome, went, faulted, takes, ended, step}
use Rattle.laws_runs.specs.SimModel.Runs.{after}
use Rattle.laws_runs.specs.SimModel.Clean.{times, EachInBlock, EachInHandlers}
use Rattle.laws_runs.specs.SimModel.declared.plain.Command.{Command}
use Rattle.laws_runs.specs.SimModel.declared.plain.Goal.TheVariants as goal_of
use Rattle.laws_runs.specs.SimModel.declared.plain.Via.{Via}
use Rattle.laws_runs.specs.Standing.{code_of}
use Rattle.laws_runs.proofs.Each.{Each, each-change, each-last, each-map}
use Rattle.laws_runs.proofs.Fine.{fine-at, stack-fine}
use Rattle.laws_runs.proofs.GoalMoves.{Sound, same-sound}
use Rattle.laws_runs.proofs.MovesFine.{each-sound}
use Rattle.laws_runs.proofs.GoalParts.{Parts}
use Rattle.laws_runs.proofs.KeptMoves.{left-parts}
use Rattle.laws_runs.proofs.GoalRuns.{holds-after}
use Rattle.laws_runs.proofs.GoalSteps.{IfWent, goes-to, settled-sound, step-sound, taking-sound, start-sound, takes-empty}
use Rattle.laws_runs.specs.Moves as move
use Rattle.laws_runs.specs.Moves.{made, with_suspended, InTurn, Gives, chooses, loops, tries, calls, controls, throws, Moves, time_moved, turn_taken, StepMoves, in_turn, between, initializing, moving_now, TakingMoves, of_none, of_one}
use Rattle.laws_runs.proofs.MovesKeep.{EachKeeps, moves-keep}
use Rattle.laws_runs.proofs.RunSteps.{taken-moves}
use Rattle.laws_clocked.proofs.Placed.{HasBody, IsOf, IsCallOf, IsCallee, Placed, stands-inside, inner-of, undoing-of, followed-placed, statements-placed, settle-placed, put-placed, past-placed, off-placed, local-placed, returned-placed, unw-placed, raise-placed, entered-placed}

-- ---- instances

abbrev pub AllPlaced : Design → List Instance → Type 0
AllPlaced d is = Each (λ p (i : Instance). Placed d false None i.residual) is

abbrev pub InPlace : Config → Type 0
InPlace c = AllPlaced c.design c.processes.instances

-- flags, waits and triggers
same_placed : (d : Design) (is : List Instance) (q : ℕ) (f : Instance → Instance) → ((i : Instance) → (f i).residual ≡ i.residual) → AllPlaced d is → AllPlaced d (change is q f)
same_placed d is q f same h = each-change (λ p (i : Instance). Placed d false None i.residual) is q f (λ i at k. subst (Placed d false None) (sym (same i)) k) h

-- another residual
to_placed : (d : Design) (is : List Instance) (q : ℕ) (f : Instance → Instance) (r : Residual) → ((i : Instance) → (f i).residual ≡ r) → Placed d false None r → AllPlaced d is → AllPlaced d (change is q f)
to_placed d is q f r is_r h all = each-change (λ p (i : Instance). Placed d false None i.residual) is q f (λ i at k. subst (Placed d false None) (sym (is_r i)) h) all

left_placed : (vias : List Via) (c : Config) → InPlace c → InPlace (with_left c vias)
left_placed vias c h = subst (λ (x : Parts). AllPlaced x.design x.instances) (sym (left-parts vias c)) h

unless_placed : (b : Bool) (q : ℕ) (c : Config) → InPlace c → InPlace (runnable_unless b q c)
unless_placed true q c h = h
unless_placed false q c h = h

-- ---- what a statement gives place to

handlers_each : (P : ℕ → Type 0) (d : Design) (handlers : List Handler) → ((j : ℕ) → Contains (map (λ (h : Handler). h.block) handlers) j → EachInBlock P (code_of d) j) → EachInHandlers P (code_of d) handlers
handlers_each P d [] each = tt
handlers_each P d (x ∷ xs) each = (each x.block (zero, omega arith, refl), handlers_each P d xs (λ j c. each j (let within = c.1 in (suc c.0, omega (arith, within), c.2))))

-- the body of this number, of which some instance of a module has one, is a function
abbrev IsFunction : Design → ℕ → Type 0
IsFunction d f = (b : CodeBody) → body_at (code_of d) f ≡ Some b → HasBody d f b × (b.kind ≡ body_kind.Function)

callee : (d : Design) (o : Option ℕ) (f : ℕ) → IsFunction d f → IsCallee d o f
callee d None f is = tt
callee d (Some g) f is = λ b at. (is b at).1

called_placed : (d : Design) (u : Bool) (o : Option ℕ) (f : ℕ) (args : List Value) (call : Option ℕ) (via : Option Via) → IsCallOf d u o call → IsFunction d f → Placed d u o (entered (code_of d) f args call via)
called_placed d u o f args call via from is = entered-placed d u o f args call via (from, callee d o f is) (λ b at. (is b at).0)

module _ (c : Config) (sound : SoundDesign c.design) (s : ℕ) (u : Bool) (o : Option ℕ) (h : IsOf c.design u o s) where
  block_new : (b : ℕ) (x : Statement) → statement_at (arena c) s ≡ Some x → Contains (inner_blocks x) b → Placed c.design u o (block (arena c) b)
  block_new b x found inner = statements-placed c.design u o (block_at (arena c) b) (inner-of c.design u o s b x h found inner)

  -- the body that a statement calls is a function of its module
  called_body : (w : Option ℕ) → IsOf c.design u w s → (y : Option _) (f : ℕ) (arguments : List _) → statement_at (arena c) s ≡ Some (code.call y f arguments) → IsFunction c.design f
  called_body None k y f arguments found b at = absurd k
  called_body (Some g) k y f arguments found b at =
      let typed = sound.typed g k.body k.is_body.home (code.call y f arguments) k.is_body.found k.is_body.home_of (stands-inside c.design u k.body (code.call y f arguments) (k.stands (code.call y f arguments) found)) in
      let home = k.is_body.home_of in
      let same : typed.0 ≡ b = same_Some typed.0 b (sym typed.1.found ∙ at) in (
        record {
          found = at;
          home = k.is_body.home;
          home_of = record { instance = home.instance; found = home.found; same = home.same ∙ sym typed.1.here ∙ ap (λ (z : CodeBody). z.module_place) same };
        },
        subst (λ (z : CodeBody). z.kind ≡ body_kind.Function) same typed.1.is_function,
      )

  gives_new : (x : Statement) (new : Residual) → statement_at (arena c) s ≡ Some x → Gives c s x new → Placed c.design u o new
  gives_new _ _ found (chooses e b other true) = block_new b (code.if_ e b other) found (zero, omega arith, refl)
  gives_new _ _ found (chooses e b None false) = tt
  gives_new _ _ found (chooses e b (Some k) false) = block_new k (code.if_ e b (Some k)) found (suc zero, omega arith, refl)
  gives_new _ _ found (loops e b true) = followed-placed c.design u o (block (arena c) b) (s ∷ []) (block_new b (code.while_ e b) found (zero, omega arith, refl)) (h, tt)
  gives_new _ _ found (loops e b false) = tt
  gives_new _ _ found (tries b handlers) = (
    block_new b (code.try_ b handlers) found (zero, omega arith, refl),
    handlers_each (IsOf c.design u o) c.design handlers (λ j inner. inner-of c.design u o s j (code.try_ b handlers) h found (let within = inner.1 in (suc inner.0, omega (arith, within), inner.2))),
  )
  gives_new _ _ found (calls y f arguments args) = called_placed c.design u o f args (Some s) None h (called_body o h y f arguments found)
  gives_new _ _ found (controls k whom qs) = h
  gives_new _ _ found (throws whom e qs) = h

-- the handler of a hop is a function of a module that has an instance
handler_body : (d : Design) (home : ℕ) (parameters : List _) (answer : Option _) (m : Option ℕ) (f : ℕ) → m ≡ Some f → HandlerFits d home parameters answer m → IsFunction d f
handler_body d home parameters answer None f is fits b at = absurd (none-some f is)
handler_body d home parameters answer (Some g) f is fits b at =
    let same : fits.body ≡ b = same_Some fits.body b (sym fits.found ∙ ap (body_at (code_of d)) (same_Some g f is) ∙ at) in
    (record { found = at; home = home; home_of = subst (IsHomeOf d home) same fits.home_of }, subst (λ (z : CodeBody). z.kind ≡ body_kind.Function) same fits.is_function)

module _ (d : Design) (sound : SoundDesign d) (f : ℕ) (hop : ℕ) where
  blocking_body : (o : Option Hop) → slice_get d.hops hop ≡ o → blocking_handler o ≡ Some f → IsFunction d f
  blocking_body None at is b there = absurd (none-some f is)
  blocking_body (Some h) at is b there = handler_body d h.target_home _ _ h.blocking f is (sound.hops hop h at).blocking b there

  nonblocking_body : (forward : Bool) (o : Option Hop) → slice_get d.hops hop ≡ o → nonblocking_handler forward o ≡ Some f → IsFunction d f
  nonblocking_body true None at is b there = absurd (none-some f is)
  nonblocking_body false None at is b there = absurd (none-some f is)
  nonblocking_body true (Some h) at is b there = handler_body d h.target_home _ _ h.forward f is (sound.hops hop h at).forward b there
  nonblocking_body false (Some h) at is b there = handler_body d h.initiator_home _ _ h.backward f is (sound.hops hop h at).backward b there

hop_body : (c : Config) → SoundDesign c.design → (via : Via) (f : ℕ) → move.IsHandler c via f → IsFunction c.design f
hop_body c sound via f (inl (blocking, forward, is)) = blocking_body c.design sound f via.hop (slice_get c.design.hops via.hop) refl is
hop_body c sound via f (inr (blocking, is)) = nonblocking_body c.design sound f via.hop via.forward (slice_get c.design.hops via.hop) refl is

-- ---- moves

module _ (c : Config) (s : Sound c) (h : InPlace c) where
  flagged : (q : ℕ) (f : Instance → Instance) → ((i : Instance) → (f i).residual ≡ i.residual) → InPlace (change_instance c q f)
  flagged q f same = same_placed c.design c.processes.instances q f same h

  twice : (q : ℕ) (f g : Instance → Instance) → ((i : Instance) → (f i).residual ≡ i.residual) → ((i : Instance) → (g i).residual ≡ i.residual) → InPlace (change_instance (change_instance c q f) q g)
  twice q f g same too = same_placed c.design (change c.processes.instances q f) q g too (flagged q f same)

  moved : (q : ℕ) (r : Residual) → Placed c.design false None r → InPlace (with_residual c q r)
  moved q r k = to_placed c.design c.processes.instances q (λ j. record j { residual = r }) r (λ j. refl) k h

  bare : (q : ℕ) (f : Instance → Instance) → ((i : Instance) → (f i).residual ≡ skip) → InPlace (change_instance c q f)
  bare q f is = to_placed c.design c.processes.instances q f skip is tt h

  raised_to : (q : ℕ) (r : Residual) → Placed c.design false None r → InPlace (pushed (with_residual c q r) q)
  raised_to q r k = same_placed c.design (change c.processes.instances q (λ j. record j { residual = r })) q (λ j. record (freed j) { kept = false; trigger = None }) (λ j. refl) (moved q r k)

  unless_top : (b : Bool) (q : ℕ) (r : Residual) → Placed c.design false None r → InPlace (cond b (with_residual c q r) (pushed (with_residual c q r) q))
  unless_top true q r k = moved q r k
  unless_top false q r k = raised_to q r k

  begins_placed : (p f : ℕ) (args : List Value) (i : Instance) → instance_at c p ≡ Some i → i.code ≡ f → InPlace (made c (move.beginning p f args))
  begins_placed p f args i at same =
      to_placed c.design c.processes.instances p (λ j. record j { residual = begun (arena c) f args; started = true }) (begun (arena c) f args) (λ j. refl)
      (entered-placed c.design false None f args None None (tt, tt)
      (λ b there.
      let fine = fine-at c.design c.processes p i at s.1 in
      record { found = there; home = i.home; home_of = subst (IsHomeOf c.design i.home) (same_Some fine.body b (sym fine.found ∙ ap (body_at (arena c)) same ∙ there)) fine.home_of })) h

  module _ (who : Option ℕ) (p : ℕ) (r : Residual) (t : InTurn who c p r) where
    here_placed : Placed c.design false None r
    here_placed = subst (Placed c.design false None) t.left (h p t.instance t.at)

    passed : InPlace (passes c p r)
    passed = moved p (put r skip) (past-placed c.design false None r here_placed)

    puts : (n : ℕ) (new : Residual) → next_of r ≡ statement n → ((u : Bool) (o : Option ℕ) → IsOf c.design u o n → Placed c.design u o new) → InPlace (with_residual c p (put r new))
    puts n new next placed = moved p (put r new) (put-placed c.design new n placed false None r next here_placed)

    waits_placed : (f : Instance → Instance) → ((i : Instance) → (f i).residual ≡ i.residual) → InPlace (change_instance (passes c p r) p f)
    waits_placed f same = same_placed c.design (change c.processes.instances p (λ j. record j { residual = put r skip })) p f same passed

    blocked_placed : (f : Instance → Instance) → ((i : Instance) → (f i).residual ≡ i.residual) → InPlace (change_instance (with_residual c p r) p f)
    blocked_placed f same = same_placed c.design (change c.processes.instances p (λ j. record j { residual = r })) p f same (moved p r here_placed)

  deadline_same : (test : Deadline → Bool) (b : Bool) (i : Instance) → (cond b (record i { deadline = no_deadline }) i).residual ≡ i.residual
  deadline_same test true i = refl
  deadline_same test false i = refl

  timeless : (test : Deadline → Bool) → AllPlaced c.design (map (without_deadline test) c.processes.instances)
  timeless test = each-map (λ p (i : Instance). Placed c.design false None i.residual) c.processes.instances (without_deadline test) (λ n i k. subst (Placed c.design false None) (sym (deadline_same test (test i.deadline) i)) k) h

pub each-placed : (w : Option ℕ) (c : Config) (m : move.Move) → move.May w c m → Sound c → InPlace c → InPlace (made c m)
each-placed w c (move.passing p r) (t, may) s h = passed c s h w p r t
each-placed w c (move.placing p r new) (n, x, t, g) s h = puts c s h w p r t.turn n new t.next (λ u o k. gives_new c s.0 n u o k x new t.found g)
each-placed w c (move.entering p r b u) (n, t) s h =
    puts c s h w p r t.turn n (guard (block (arena c) b) c.trace.next_guard u) t.next
    (λ v o k. (block_new c s.0 n v o k b (code.guard b u) t.found (zero, omega arith, refl), undoing-of c.design v o n b u k t.found))
each-placed w c (move.taking_off p r) (n, q, t, next) s h = moved c s h p (taken_off r) (off-placed c.design false None r (here_placed c s h w p r t))
each-placed w c (move.returning p r v) (n, e, t) s h = moved c s h p (returned v r) (returned-placed c.design v false None r (here_placed c s h w p r t.turn))
each-placed w c (move.beginning p f args) (t, i, at, not, same, too) s h = begins_placed c s h p f args i at same
each-placed w c (move.ending p) (r, t, over) s h = bare c s h p ended_instance (λ j. refl)
each-placed w c (move.idling p v d) (r, t, over) s h = bare c s h p _ (λ j. refl)
each-placed w c (move.resetting p) (r, t, next) s h = bare c s h p _ (λ j. refl)
each-placed w c (move.waiting p r v d) (n, x, t) s h = waits_placed c s h w p r t.turn _ (λ j. refl)
each-placed w c (move.blocking p r e) (n, x, t, may) s h = blocked_placed c s h w p r t.turn _ (λ j. refl)
each-placed w c (move.triggering p v) may s h = flagged c s h p _ (λ j. refl)
each-placed w c (move.spawning p r k x args) (n, t, is) s h =
    let new = new_instance (passes c p r) k x args in
    unless_placed x.dont_initialize _ (added (passes c p r) new)
    (each-last (λ p (i : Instance). Placed c.design false None i.residual) (passes c p r).processes.instances new tt (passed c s h w p r t.turn))
each-placed w c (move.throwing p r e) (t, i, at, is, caught, how) s h =
    left_placed (left_by_raise r e) (with_residual c p (raise (arena c) r e goal_of.Thrown))
    (moved c s h p (raise (arena c) r e goal_of.Thrown) (raise-placed c.design e goal_of.Thrown false None r (subst (Placed c.design false None) is (h p i at))))
each-placed w c (move.injecting q i e) (p, t, live, off, below, caught) s h =
    left_placed (left_by_raise i.residual e) (pushed (with_residual c q (raise (arena c) i.residual e goal_of.Injected)) q)
    (raised_to c s h q (raise (arena c) i.residual e goal_of.Injected) (raise-placed c.design e goal_of.Injected false None i.residual (h q i live.at)))
each-placed w c (move.unwinding q i k) (p, t, live, below, none, outer) s h =
    left_placed (left_by_unw i.residual) (pushed_unless_top (with_residual c q (goal (unw i.residual) k)) q)
    (unless_top c s h (is_top c q) q (goal (unw i.residual) k) (unw-placed c.design false None i.residual (h q i live.at)))
each-placed w c (move.suspending_runnable q) may s h = twice c s h q (λ j. record j { suspended = true }) (λ j. record j { kept = true }) (λ j. refl) (λ j. refl)
each-placed w c (move.yielding q) may s h = twice c s h q (λ j. record j { suspended = true }) (λ j. record j { kept = true }) (λ j. refl) (λ j. refl)
each-placed w c (move.suspending q) may s h = flagged c s h q _ (λ j. refl)
each-placed w c (move.resuming_kept q) may s h = flagged c s h q (λ j. record j { suspended = false; kept = false }) (λ j. refl)
each-placed w c (move.resuming q) may s h = flagged c s h q (λ j. record j { suspended = false; kept = false }) (λ j. refl)
each-placed w c (move.disabling q flag) may s h = flagged c s h q _ (λ j. refl)
each-placed w c (move.staying_reset p) may s h = flagged c s h p (λ j. record j { kept = true }) (λ j. refl)
each-placed w c (move.staying_thrown p r) (t, next, is) s h = waits_placed c s h w p r t (λ j. record j { kept = true }) (λ j. refl)
each-placed w c (move.joining p) may s h = flagged c s h p freed (λ j. refl)
each-placed w c (move.keeping p) may s h = flagged c s h p (λ j. record (freed j) { kept = true }) (λ j. refl)
each-placed w c (move.striking p es) may s h = flagged c s h p (λ j. record j { wait = waits_for_all es }) (λ j. refl)
each-placed w c move.falling_due may s h = timeless c s h is_zero_timeout
each-placed w c (move.falling_due_at t) may s h = timeless c s h (is_due_at t)
each-placed w c (move.setting_local p n v) may s h =
    each-change (λ q (i : Instance). Placed c.design false None i.residual) c.processes.instances p _ (λ i at k. local-placed c.design n v false None i.residual k) h
each-placed w c (move.calling p r n f args via e) (x, t, hop, handler, entry, unbroken) s h =
    puts c s h w p r t.turn n (entered (arena c) f args (Some n) (Some via)) t.next (λ u o k. called_placed c.design u o f args (Some n) (Some via) k (hop_body c s.0 via f handler))
each-placed w c (move.answering p r via e) (x, t, next, over, entry, unbroken) s h = passed c s h w p r t
each-placed w c other may s h = h

-- ---- steps, takings and runs

abbrev Good : Config → Type 0
Good c = Sound c × InPlace c

each_good : (w : Option ℕ) → EachKeeps w Good
each_good w c m may h = (each-sound w c m may h.0, each-placed w c m may h.0 h.1)

on_good : (w : Option ℕ) (c d : Config) → Moves w c d → Good c → InPlace d
on_good w c d ms g = (moves-keep w Good (each_good w) c d ms g).1

initialize_good : (p : ℕ) (xs : List ProcessPart) (c : Config) → Good c → Good (initialize_each p xs c)
initialize_good p [] c g = g
initialize_good p (x ∷ xs) c g =
    good_if x.dont_initialize (initialize_each (suc p) xs c) (initialize_each (suc p) xs (with_runnable (change_instance c p freed) (c.processes.runnable ++ p ∷ [])))
    (initialize_good (suc p) xs c g)
    (initialize_good (suc p) xs (with_runnable (change_instance c p freed) (c.processes.runnable ++ p ∷ []))
    (same-sound c p freed (λ i. record { home = refl; code = refl; residual = refl }) g.0, same_placed c.design c.processes.instances p freed (λ j. refl) g.1))
  where
    good_if : (b : Bool) (c d : Config) → Good c → Good d → Good (cond b c d)
    good_if true c d first other = first
    good_if false c d first other = other

module _ (c : Config) (g : Good c) where
  settled_good : (p : ℕ) (rest : List ℕ) (i : Instance) → c.processes.stack ≡ p ∷ rest → instance_at c p ≡ Some i → Good (settled_in c p i.residual)
  settled_good p rest i top at = (
    settled-sound c g.0 p rest i top at,
    to_placed c.design c.processes.instances p (λ j. record j { residual = settle (arena c) i.residual }) (settle (arena c) i.residual) (λ j. refl) (settle-placed c.design false None i.residual (g.1 p i at)) g.1,
  )

  moved_good : (d : Config) → StepMoves c d → InPlace d
  moved_good _ (in_turn p rest i d now top at ms is) = on_good (Some p) (settled_in c p i.residual) d ms (settled_good p rest i top at)
  moved_good _ (between d later ms) = on_good None c d ms g
  moved_good _ (initializing d e now ms same cycle more after) =
      on_good None (initialize_each 0 c.design.processes d) e more (initialize_good 0 c.design.processes d (moves-keep None Good (each_good None) c d ms g))
  moved_good _ (moving_now t d now apart ms same) = on_good None (time_moved c t) d ms g

  taken_good : (p : ℕ) (d : Config) → TakingMoves c p d → InPlace d
  taken_good p _ of_none = g.1
  taken_good p _ (of_one i d empty at is ms) =
      on_good (Some p) (turn_taken c p) d ms (
        (g.0.0, stack-fine c.design c.processes (without c.processes.runnable p) (p ∷ []) (λ q n. let none = ap (times q) empty in absurd (omega (arith, n, none))) g.0.1),
        g.1,
      )

both : (A B : Config → Type 0) (o : Outcome) → IfWent o A → IfWent o B → IfWent o (λ d. A d × B d)
both A B (went d) first other = (first, other)
both A B (faulted f) first other = tt
both A B takes first other = tt
both A B ended first other = tt

start_placed : (d : Design) (script : List Command) → InPlace (start d script)
start_placed d script p i at = by (slice_get d.processes p) (sym (slice_get-map (first_instance d) d.processes p) ∙ at)
  where
    by : (o : Option ProcessPart) → option_map (first_instance d) o ≡ Some i → Placed d false None i.residual
    by None is = absurd (none-some i is)
    by (Some x) is = subst (λ (j : Instance). Placed d false None j.residual) (same_Some (first_instance d x) i is) tt

pub placed-after : (d : Design) (script : List Command) → SoundDesign d → (n : ℕ) (choices : List ℕ) (last : Config) → after n choices (start d script) ≡ Some last → Sound last × InPlace last
placed-after d script sound n choices last reached =
    holds-after Good
    (λ c g. both Sound InPlace (step c) (step-sound c g.0) (goes-to c InPlace (moved_good c g)))
    (λ c p e now g to. let empty = takes-empty c now in (taking-sound c p e empty g.0 to, taken_good c g p e (taken-moves c e p empty to)))
    n choices (start d script) last (start-sound d script sound, start_placed d script) reached
