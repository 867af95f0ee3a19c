-- An exception in what is left of a body, and the transport calls that it leaves.
use Rattle.std.proofs.Common.{◌≡◌, ◌||◌, ℕ, Bool, true, false, List, [], ◌∷◌, Some, option_map, refl, sym, ap, ◌∙◌, subst, true≢false}
use Rattle.std.specs.Prelude.{if◌then◌else◌, Ok, Err}
use Rattle.std.specs.FinMap as map
use Rattle.exec_data.specs.InstanceTable.declared.instances.Instance.{Instance as Entry}
use Rattle.flat_design.specs.Code.{Arena, arena_of, block_at}
use Rattle.flat_design.specs.declared.faults.RunFault.TheVariants as fault
use Rattle.exec_data.proofs.KernelBodies.Strips.{strip-raise, strip-left_by_raise}
use Rattle.exec_data.specs.SimModel.Residual.{Residual, skip, one, batch, seq, owing, guard, try_, frame, shell, run, goal, followed, statements, block, then_on, in_run, then_owed, in_guard, in_try, in_shell, settle, has_goal, Frame}
use Rattle.exec_data.specs.SimModel.Unwinding.{catches, handles, handled, raise, left_by_unw, left_by_raise}
use Rattle.exec_data.specs.SimModel.Configuration.{Config, Instance, change, instance_at, with_residual, arena}
use Rattle.exec_data.specs.SimModel.Calls.{with_left, thrown}
use Rattle.exec_data.specs.SimModel.Statements.{settled_in}
use Rattle.exec_data.specs.SimModel.declared.plain.Goal.{Goal}
use Rattle.exec_data.specs.SimModel.declared.plain.Goal.TheVariants as goal_of
use Rattle.flat_design.specs.declared.code.Handler.{Handler}
use Rattle.exec_data.proofs.KernelProcesses.Wakes.{change-here}
use Rattle.exec_data.specs.ProcessBodies.Bodies as bodies
use Rattle.exec_data.specs.ProcessBodies.Bodies.{left_in}
use Rattle.exec_data.specs.ProcessBodies.declared.body.Body.{Body}
use Rattle.exec_data.specs.KernelProcesses.declared.parts.Process.{Process}
use Rattle.exec_data.specs.KernelTransactions.Board as board
use Rattle.exec_data.specs.KernelTransactions.Board.{SameQuantum, left}
use Rattle.exec_data.specs.KernelTransactions.declared.TransactionBoard.{TransactionBoard}
use Rattle.exec_data.specs.KernelState.Kernel.{StandsFor}
use Rattle.exec_data.specs.KernelState.Moves.{MovesAt}
use Rattle.exec_data.specs.KernelState.declared.kernel.Kept.{Kept}
use Rattle.exec_data.specs.KernelState.declared.kernel.Kernel.{Kernel}
use Rattle.exec_data.proofs.KernelState.Frames.{change-twice, transactions_move, left_before, with_body}
use Rattle.exec_data.proofs.KernelState.Leaving.{LeftCallsEnd}
use Rattle.exec_control.proofs.OneInstance.{body_moves}

-- ---- what has no goal has none once finished parts have fallen away

statements_free : (ss : List ℕ) → has_goal (statements ss) ≡ false
statements_free [] = refl
statements_free (s ∷ []) = refl
statements_free (s ∷ t ∷ ts) = refl

followed_goal : (r : Residual) (ss : List ℕ) → has_goal (followed r ss) ≡ has_goal r
followed_goal r [] = refl
followed_goal r (s ∷ ss) = refl

then_on_goal : (r : Residual) (ss : List ℕ) → has_goal (then_on r ss) ≡ has_goal r
then_on_goal skip ss = statements_free ss
then_on_goal (one s) ss = followed_goal (one s) ss
then_on_goal (batch s qs) ss = followed_goal (batch s qs) ss
then_on_goal (seq r q) ss = followed_goal (seq r q) ss
then_on_goal (owing r g u) ss = followed_goal (owing r g u) ss
then_on_goal (guard r g u) ss = followed_goal (guard r g u) ss
then_on_goal (try_ r handlers) ss = followed_goal (try_ r handlers) ss
then_on_goal (frame r x) ss = followed_goal (frame r x) ss
then_on_goal (shell r x) ss = followed_goal (shell r x) ss
then_on_goal (run g r) ss = followed_goal (run g r) ss
then_on_goal (goal r k) ss = followed_goal (goal r k) ss

in_run_goal : (g : ℕ) (r : Residual) → has_goal (in_run g r) ≡ has_goal r
in_run_goal g skip = refl
in_run_goal g r = refl

then_owed_goal : (a : Arena) (r : Residual) (g u : ℕ) → has_goal (then_owed a r g u) ≡ has_goal r
then_owed_goal a skip g u = in_run_goal g (block a u) ∙ statements_free (block_at a u)
then_owed_goal a r g u = refl

in_guard_goal : (r : Residual) (g u : ℕ) → has_goal (in_guard r g u) ≡ has_goal r
in_guard_goal skip g u = refl
in_guard_goal r g u = refl

in_try_goal : (r : Residual) (handlers : List Handler) → has_goal (in_try r handlers) ≡ has_goal r
in_try_goal skip handlers = refl
in_try_goal r handlers = refl

in_shell_goal : (r : Residual) (x : Frame) → has_goal (in_shell r x) ≡ has_goal r
in_shell_goal skip x = refl
in_shell_goal r x = refl

pub settle_goal : (a : Arena) (r : Residual) → has_goal (settle a r) ≡ has_goal r
settle_goal a skip = refl
settle_goal a (one s) = refl
settle_goal a (batch s []) = refl
settle_goal a (batch s (q ∷ qs)) = refl
settle_goal a (seq r ss) = then_on_goal (settle a r) ss ∙ settle_goal a r
settle_goal a (owing r g u) = then_owed_goal a (settle a r) g u ∙ settle_goal a r
settle_goal a (guard r g u) = in_guard_goal (settle a r) g u ∙ settle_goal a r
settle_goal a (try_ r handlers) = in_try_goal (settle a r) handlers ∙ settle_goal a r
settle_goal a (frame r x) = settle_goal a r
settle_goal a (shell r x) = in_shell_goal (settle a r) x ∙ settle_goal a r
settle_goal a (run g r) = in_run_goal g (settle a r) ∙ settle_goal a r
settle_goal a (goal r k) = refl

-- ---- an exception that nothing names

neither : (a b : Bool) → (a || b) ≡ false → (a ≡ false) × (b ≡ false)
neither true b is = absurd (true≢false is)
neither false b is = (refl, is)

pub raise_nothing : (a : Arena) (r : Residual) (e : ℕ) (k : Goal) → catches r e ≡ false → raise a r e k ≡ r
raise_nothing a skip e k none = refl
raise_nothing a (one s) e k none = refl
raise_nothing a (batch s qs) e k none = refl
raise_nothing a (seq r ss) e k none = ap (λ x. seq x ss) (raise_nothing a r e k none)
raise_nothing a (owing r g u) e k none = ap (λ x. owing x g u) (raise_nothing a r e k none)
raise_nothing a (guard r g u) e k none = ap (λ x. guard x g u) (raise_nothing a r e k none)
raise_nothing a (try_ r handlers) e k none =
    let n = neither (catches r e) (handles handlers e) none in
    ap (λ b. if b then try_ (raise a r e k) handlers else if handles handlers e then handled a r handlers e k else try_ r handlers) n.0
    ∙ ap (λ b. if b then handled a r handlers e k else try_ r handlers) n.1
raise_nothing a (frame r x) e k none = ap (λ y. frame y x) (raise_nothing a r e k none)
raise_nothing a (shell r x) e k none = ap (λ y. shell y x) (raise_nothing a r e k none)
raise_nothing a (run g r) e k none = ap (run g) (raise_nothing a r e k none)
raise_nothing a (goal r h) e k none = ap (λ x. goal x h) (raise_nothing a r e k none)

pub left_nothing : (r : Residual) (e : ℕ) → catches r e ≡ false → left_by_raise r e ≡ []
left_nothing skip e none = refl
left_nothing (one s) e none = refl
left_nothing (batch s qs) e none = refl
left_nothing (seq r ss) e none = left_nothing r e none
left_nothing (owing r g u) e none = left_nothing r e none
left_nothing (guard r g u) e none = left_nothing r e none
left_nothing (try_ r handlers) e none =
    let n = neither (catches r e) (handles handlers e) none in
    ap (λ b. if b then left_by_raise r e else if handles handlers e then left_by_unw r else []) n.0 ∙ ap (λ b. if b then left_by_unw r else []) n.1
left_nothing (frame r x) e none = left_nothing r e none
left_nothing (shell r x) e none = left_nothing r e none
left_nothing (run g r) e none = left_nothing r e none
left_nothing (goal r h) e none = left_nothing r e none

-- whether it is named or not
raised_either : (a : Arena) (was now : Residual) (e : ℕ) (k : Goal) (b : Bool) → b ≡ catches was e → (b ≡ true → now ≡ raise a was e k) → (b ≡ false → now ≡ was) → now ≡ raise a was e k
raised_either a was now e k true is caught refused = caught refl
raised_either a was now e k false is caught refused = refused refl ∙ sym (raise_nothing a was e k (sym is))

module _ (k : Kernel) (p : ℕ) (x : Entry (Process Kept)) (b : Body) (at : map.get k.schedule.table.live p ≡ Some x) (keeps : bodies.Keeps x.body.body.body b) (e : ℕ) (end : Goal) where
  pub raised_moves : (caught : Bool) → caught ≡ catches (left_in k.program.now x.body.body.body) e
      → (caught ≡ true → left_in k.program.now b ≡ raise (arena_of k.program.now.code) (left_in k.program.now x.body.body.body) e end) → (caught ≡ false → left_in k.program.now b ≡ left_in k.program.now x.body.body.body)
      → MovesAt k (record k { schedule = with_body k p x b at keeps }) p (λ c i. with_residual c p (raise (arena c) i.residual e end))
  raised_moves caught is named refused = body_moves k p x b at keeps (λ c i. raise (arena c) i.residual e end) (λ c i h there.
      strip-raise (arena c) i.residual e end ∙ ap (λ r. raise (arena c) r e end) (left_before k p x at c i h there) ∙ ap (λ d. raise (arena_of d.code) (left_in k.program.now x.body.body.body) e end) h.design
      ∙ sym (raised_either (arena_of k.program.now.code) (left_in k.program.now x.body.body.body) (left_in k.program.now b) e end caught is named refused))

-- ---- the transport calls that it leaves

module _ (k : Kernel) (p : ℕ) (x : Entry (Process Kept)) (at : map.get k.schedule.table.live p ≡ Some x) (b : TransactionBoard) (e : ℕ)
    (moves : board.Moves k.transactions b (λ y. left y (left_by_raise (left_in k.program.now x.body.body.body) e))) (same : SameQuantum k.transactions b) (calls : LeftCallsEnd) where
  same_calls : (c : Config) (i : Instance) → StandsFor k c → instance_at c p ≡ Some i → left_by_raise (left_in k.program.now x.body.body.body) e ≡ left_by_raise i.residual e
  same_calls c i h there = sym (ap (λ r. left_by_raise r e) (left_before k p x at c i h there)) ∙ strip-left_by_raise i.residual e

  pub left_moves : MovesAt k (record k { transactions = b }) p (λ c i. with_left c (left_by_raise i.residual e))
  left_moves c i h there = subst (StandsFor (record k { transactions = b })) (sym (calls c (left_by_raise i.residual e)))
      (transactions_move k c h b (left c.transactions (left_by_raise i.residual e))
      (subst (λ vs. board.StandsForTransactions b (left c.transactions vs)) (same_calls c i h there) (moves c.transactions h.transactions)) same)

module _ (calls : LeftCallsEnd) (c : Config) (q : ℕ) (i : Instance) (e : ℕ) where
  pub left_still : instance_at c q ≡ Some i → instance_at (with_left c (left_by_raise i.residual e)) q ≡ Some i
  left_still there = ap (λ d. instance_at d q) (calls c (left_by_raise i.residual e)) ∙ there

  pub left_then_raised : (end : Goal) → with_residual (with_left c (left_by_raise i.residual e)) q (raise (arena (with_left c (left_by_raise i.residual e))) i.residual e end)
      ≡ with_left (with_residual c q (raise (arena c) i.residual e end)) (left_by_raise i.residual e)
  left_then_raised end = ap (λ d. with_residual d q (raise (arena d) i.residual e end)) (calls c (left_by_raise i.residual e))
      ∙ sym (calls (with_residual c q (raise (arena c) i.residual e end)) (left_by_raise i.residual e))

-- ---- a throw

residual_twice : (c : Config) (p : ℕ) (r n : Residual) → with_residual (with_residual c p r) p n ≡ with_residual c p n
residual_twice c p r n = ap (λ is. record c { processes = record c.processes { instances = is } }) (change-twice c.processes.instances p (λ j. record j { residual = r }) (λ j. record j { residual = n }))

module _ (c : Config) (p : ℕ) (i : Instance) (e : ℕ) where
  abbrev r : Residual
  r = settle (arena c) i.residual

  -- the instance once finished parts have fallen away
  pub settled_there : instance_at c p ≡ Some i → instance_at (with_residual (settled_in c p i.residual) p r) p ≡ Some (record i { residual = r })
  settled_there there = change-here (change c.processes.instances p (λ j. record j { residual = r })) p (λ j. record j { residual = r })
      ∙ ap (option_map (λ (j : Instance). record j { residual = r })) (change-here c.processes.instances p (λ j. record j { residual = r }) ∙ ap (option_map (λ (j : Instance). record j { residual = r })) there)

  pub is_thrown : catches r e ≡ true → thrown (settled_in c p i.residual) p r e
      ≡ Ok (with_left (with_residual (with_residual (settled_in c p i.residual) p r) p (raise (arena c) r e goal_of.Thrown)) (left_by_raise r e))
  is_thrown caught = ap (λ b. if b then Ok (with_left (with_residual (settled_in c p i.residual) p (raise (arena c) r e goal_of.Thrown)) (left_by_raise r e)) else Err (fault.Uncaught e)) caught
      ∙ ap (λ d. Ok (with_left d (left_by_raise r e))) (sym (residual_twice (settled_in c p i.residual) p r (raise (arena c) r e goal_of.Thrown)))

  pub is_uncaught : catches r e ≡ false → thrown (settled_in c p i.residual) p r e ≡ Err (fault.Uncaught e)
  is_uncaught none = ap (λ b. if b then Ok (with_left (with_residual (settled_in c p i.residual) p (raise (arena c) r e goal_of.Thrown)) (left_by_raise r e)) else Err (fault.Uncaught e)) none
