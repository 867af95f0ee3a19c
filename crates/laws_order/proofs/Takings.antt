-- Takings of processes, and turns one after another.
use Rattle.std.proofs.Common.{◌≡◌, ◌≢◌, ◌==◌, ℕ, Bool, true, false, cond, List, [], ◌∷◌, slice_get, Option, Some, None, option_map, refl, sym, ap, ◌∙◌, subst, eqb-true}
use Rattle.std.proofs.lemmas.Bool.{eqb-false}
use Rattle.std.proofs.lemmas.Option.{none-some, same_Some}
use Rattle.sim_model.specs.EventCore.declared.event.Ev.{Ev}
use Rattle.sim_model.specs.EventCore.declared.event.Ev.TheVariants as ev
use Rattle.sim_model.specs.FifoSync.Fifos.{free}
use Rattle.sim_model.specs.FlatDesign.Code.{arena_of}
use Rattle.sim_model.specs.FlatDesign.declared.design.Design.{Design}
use Rattle.sim_model.specs.Residual.{Residual, begun}
use Rattle.sim_model.specs.Configuration.{Config, Instance, Processes, Trace, turn, arena, change, change_instance, instance_at, with_told, with_stack, with_runnable}
use Rattle.sim_model.specs.Waits.{holds, without}
use Rattle.sim_model.specs.Control.{begins}
use Rattle.sim_model.specs.Steps.{turn_line, instance_taken, taken_if, taking}
use Rattle.kernel_bodies.specs.Strip.{strip}
use Rattle.order_free.specs.declared.uses.Use.{Use}
use Rattle.order_free.specs.declared.uses.Use.TheVariants as used
use Rattle.laws_order.specs.Acts as act
use Rattle.laws_order.specs.Acts.{Act, acted, acted_all}
use Rattle.laws_order.specs.Sees.{unnumbered, in_reach, value_of, AlikeAt, Sees}
use Rattle.laws_order.specs.Alongside.{Did, Alongside, IsDeaf, IsUnheard, AreUnheard}
use Rattle.laws_order.specs.LeftAlike.{shared_in, AreLeftAlike}
use Rattle.laws_order.specs.Turns.{Turn, over, goes_on, TakesTurn, TurnsOfOthers, no_turn, turn_of}
use Rattle.laws_order.proofs.Lists.{change-apart, change-alike}
use Rattle.laws_order.proofs.Apart.{AreApart}
use Rattle.laws_order.proofs.ProcessViews.{sees-refl, sees-sym, sees-trans, with-own, with-trace}
use Rattle.laws_order.proofs.Along.{SameChange}
use Rattle.laws_order.proofs.Changes.{same-change}
use Rattle.laws_order.proofs.Unheard.{change-each}
use Rattle.laws_order.proofs.Undriven.{all-past}
use Rattle.laws_order.proofs.OneTurn.{goes-unheard, done-alike, turn-did, turn-unseen}
use Rattle.laws_order.proofs.Lists.{lacks_itself, has_others}

-- ---- who is runnable

runnable_acted : (p : ℕ) (c : Config) (a : Act) → (acted p c a).processes.runnable ≡ c.processes.runnable
runnable_acted p c (act.stores v y) = refl
runnable_acted p c (act.fills m bytes) = refl
runnable_acted p c (act.writes n y) = refl
runnable_acted p c (act.drives n y) = refl
runnable_acted p c (act.takes n) = refl
runnable_acted p c (act.gives n y) = refl
runnable_acted p c (act.notifies e w) = refl
runnable_acted p c (act.cancels e) = refl
runnable_acted p c (act.keeps n k) = refl
runnable_acted p c (act.sets_global t) = refl

runnable_all : (p : ℕ) (c : Config) (log : List Act) → (acted_all p c log).processes.runnable ≡ c.processes.runnable
runnable_all p c [] = refl
runnable_all p c (a ∷ log) = runnable_all p (acted p c a) log ∙ runnable_acted p c a

did_runnable : (p : ℕ) (log : List Act) (c e : Config) → Did p log c e → e.processes.runnable ≡ c.processes.runnable
did_runnable p log c e d = ap (λ (z : Config). z.processes.runnable) d.shared ∙ runnable_all p c log

-- ---- a taking

took_so : (c d : Config) (p : ℕ) → taking c p ≡ Some d → (holds c.processes.runnable p ≡ true) × (instance_taken c p (instance_at c p) ≡ d)
took_so c d p is = by (holds c.processes.runnable p) refl is
  where
    by : (b : Bool) → holds c.processes.runnable p ≡ b → taken_if c p b ≡ Some d → (holds c.processes.runnable p ≡ true) × (instance_taken c p (instance_at c p) ≡ d)
    by true there at = (there, same_Some (instance_taken c p (instance_at c p)) d at)
    by false there at = absurd (none-some d at)

takes_so : (c : Config) (p : ℕ) → holds c.processes.runnable p ≡ true → taking c p ≡ Some (instance_taken c p (instance_at c p))
takes_so c p there = ap (taken_if c p) there

abbrev fresh : Instance → Instance
fresh j = record j { trigger = None }

abbrev on_top : Config → ℕ → Instance → Config
on_top c p i = with_told (with_stack (with_runnable c (without c.processes.runnable p)) (p ∷ [])) (turn (turn_line c.cycle.now i.path p))

abbrev unless_started : Config → ℕ → Instance → Bool → Config
unless_started c p i b = cond b (on_top c p i) (begins (change_instance (on_top c p i) p fresh) p i)

-- it is alone on the stack
stack_started : (c : Config) (p : ℕ) (i : Instance) (b : Bool) → (unless_started c p i b).processes.stack ≡ p ∷ []
stack_started c p i true = refl
stack_started c p i false = refl

-- and runnable no more
runnable_started : (c : Config) (p : ℕ) (i : Instance) (b : Bool) → (unless_started c p i b).processes.runnable ≡ without c.processes.runnable p
runnable_started c p i true = refl
runnable_started c p i false = refl

runnable_taken : (c : Config) (q p : ℕ) → p ≢ q → (o : Option Instance) → holds (instance_taken c q o).processes.runnable p ≡ holds c.processes.runnable p
runnable_taken c q p differ None = refl
runnable_taken c q p differ (Some i) = ap (λ (rs : List ℕ). holds rs p) (runnable_started c q i i.started) ∙ has_others c.processes.runnable q p differ

-- it waits as it did
deaf_started : (e : Ev) (c : Config) (p : ℕ) (i : Instance) (b : Bool) → IsUnheard e c → IsUnheard e (unless_started c p i b)
deaf_started e c p i true h = h
deaf_started e c p i false h =
    change-each (IsDeaf e) (λ (j : Instance). record j { residual = begun (arena c) i.code i.arguments; started = true }) (λ j k. k) (change c.processes.instances p fresh) p
    (change-each (IsDeaf e) fresh (λ j k. k) c.processes.instances p h)

deaf_taken : (e : Ev) (c : Config) (p : ℕ) (o : Option Instance) → IsUnheard e c → IsUnheard e (instance_taken c p o)
deaf_taken e c p None h = h
deaf_taken e c p (Some i) h = deaf_started e c p i i.started h

-- ---- what another process sees of it

module _ (Has : Use → Type 0) (p q : ℕ) (differ : p ≢ q) (c : Config) where
  seen_with : (ps : Processes) (tr : Trace) → AlikeAt unnumbered c.processes.instances ps.instances p → Sees Has p c (record c { processes = ps; trace = tr })
  seen_with ps tr own = with-trace Has p c (record c { processes = ps }) (with-own Has p c c (sees-refl Has p c) c.processes ps own) c.trace tr

  unseen_started : (i : Instance) (b : Bool) → Sees Has p c (unless_started c q i b)
  unseen_started i true = seen_with (on_top c q i).processes (on_top c q i).trace refl
  unseen_started i false =
      let g = λ (j : Instance). record j { residual = begun (arena c) i.code i.arguments; started = true } in
      seen_with (unless_started c q i false).processes (on_top c q i).trace
      (ap (option_map unnumbered) (change-apart g (change c.processes.instances q fresh) q p differ ∙ change-apart fresh c.processes.instances q p differ))

  taken_unseen : (o : Option Instance) → Sees Has p c (instance_taken c q o)
  taken_unseen None = sees-refl Has p c
  taken_unseen (Some i) = unseen_started i i.started

-- ---- one that is taken in two configurations that it sees alike

module _ (Has : Use → Type 0) (p : ℕ) (c x : Config) (s : Sees Has p c x) where
  both_with : (ps qs : Processes) (t u : Trace) → AlikeAt unnumbered ps.instances qs.instances p → Sees Has p (record c { processes = ps; trace = t }) (record x { processes = qs; trace = u })
  both_with ps qs t u own = with-trace Has p (record c { processes = ps }) (record x { processes = qs }) (with-own Has p c x s ps qs own) t u

  module _ (i : Instance) (left : Residual) where
    abbrev j : Instance
    j = record i { residual = left }

    abbrev begin_here : Instance → Instance
    begin_here k = record k { residual = begun (arena c) i.code i.arguments; started = true }

    abbrev begin_there : Instance → Instance
    begin_there k = record k { residual = begun (arena x) i.code i.arguments; started = true }

    same_begin : SameChange begin_here begin_there
    same_begin a b alike =
        ap (λ (n : Instance). record n { residual = strip (begun (arena x) i.code i.arguments); started = true }) alike
        ∙ ap (λ (d : Design). record a { residual = strip (begun (arena_of d.code) i.code i.arguments); started = true }) s.design

    started_alike : (b : Bool) → Sees Has p (unless_started c p i b) (unless_started x p j b)
    started_alike true = both_with (on_top c p i).processes (on_top x p j).processes (on_top c p i).trace (on_top x p j).trace s.own
    started_alike false =
        both_with (unless_started c p i false).processes (unless_started x p j false).processes (on_top c p i).trace (on_top x p j).trace
        (change-alike unnumbered begin_here begin_there same_begin (change c.processes.instances p fresh) (change x.processes.instances p fresh) p p
        (change-alike unnumbered fresh fresh (same-change fresh (λ k. refl)) c.processes.instances x.processes.instances p p s.own))

  taken_alike : (o r : Option Instance) → option_map unnumbered r ≡ option_map unnumbered o → Sees Has p (instance_taken c p o) (instance_taken x p r)
  taken_alike None None e = s
  taken_alike None (Some k) e = absurd (none-some (unnumbered k) (sym e))
  taken_alike (Some i) None e = absurd (none-some (unnumbered i) e)
  taken_alike (Some i) (Some k) e =
      subst (λ (m : Instance). Sees Has p (instance_taken c p (Some i)) (instance_taken x p (Some m))) (sym (ap (λ (n : Instance). record n { residual = k.residual }) (same_Some (unnumbered k) (unnumbered i) e)))
      (started_alike i k.residual i.started)

  stack_alike : (o r : Option Instance) → option_map unnumbered r ≡ option_map unnumbered o → x.processes.stack ≡ c.processes.stack → (instance_taken x p r).processes.stack ≡ (instance_taken c p o).processes.stack
  stack_alike None None e even = even
  stack_alike None (Some k) e even = absurd (none-some (unnumbered k) (sym e))
  stack_alike (Some i) None e even = absurd (none-some (unnumbered i) e)
  stack_alike (Some i) (Some k) e even = stack_started x p k k.started ∙ sym (stack_started c p i i.started)

-- ---- turns of others, before its own

turn_empties : (p n : ℕ) (c e : Config) → Turn p n c e → e.processes.stack ≡ []
turn_empties p _ _ _ (over c empty) = empty
turn_empties p _ _ _ (goes_on n c d e alone is more) = turn_empties p n d e more

module _ (Has : ℕ → Use → Type 0) (apart : (p q : ℕ) → p ≢ q → AreApart (Has p) (Has q)) (unfit : (q : ℕ) → Has q used.Unfit → ⊥) (watches : (q : ℕ) → Has q used.Watches → ⊥) (p : ℕ) where
  -- what it sees, that it is runnable, and that the stack is empty
  record Lasts (c e : Config) : Type 0 where
    sees : Sees (Has p) p c e
    runnable : holds e.processes.runnable p ≡ holds c.processes.runnable p
    stack : c.processes.stack ≡ [] → e.processes.stack ≡ []

  turn_lasts : (q n : ℕ) (c e : Config) → p ≢ q → TakesTurn (Has q) q n c e → Lasts c e
  turn_lasts q n c e differ t =
      let took = took_so c t.begun q t.taken in
      let did = turn-did (Has q) (unfit q) (watches q) q n t.begun e t.turn t.own in
      record {
        sees =
            sees-trans (Has p) p c t.begun e (subst (Sees (Has p) p c) took.1 (taken_unseen (Has p) p q differ c (instance_at c q)))
            (turn-unseen (Has p) (Has q) (apart p q differ) (unfit q) (watches q) p q differ n t.begun e t.turn t.own);
        runnable =
            ap (λ (rs : List ℕ). holds rs p) (did_runnable q did.0 t.begun e did.2) ∙ ap (λ (z : Config). holds z.processes.runnable p) (sym took.1)
            ∙ runnable_taken c q p differ (instance_at c q);
        stack = λ empty. turn_empties q n t.begun e t.turn;
      }

  lasts : (c f : Config) → TurnsOfOthers Has p c f → Lasts c f
  lasts _ _ (no_turn c) = record { sees = sees-refl (Has p) p c; runnable = refl; stack = λ empty. empty }
  lasts _ _ (turn_of q n c e f differ t more) =
      let first = turn_lasts q n c e differ t in
      let then = lasts e f more in
      record { sees = sees-trans (Has p) p c e f first.sees then.sees; runnable = then.runnable ∙ first.runnable; stack = λ empty. then.stack (first.stack empty) }

  -- its turn is the same, whichever others had theirs before
  pub turn-lasts : (n : ℕ) (c d e x : Config) → c.processes.stack ≡ [] → TurnsOfOthers Has p c d → TurnsOfOthers Has p c x → (t : TakesTurn (Has p) p n d e) → AreUnheard p x
      → (y : Config) × (again : TakesTurn (Has p) p n x y) × Alongside (Has p) p t.begun again.begun e y
  turn-lasts n c d e x empty before other t unheard =
      let a = lasts c d before in
      let b = lasts c x other in
      let s : Sees (Has p) p d x = sees-trans (Has p) p d c x (sees-sym (Has p) p c d a.sees) b.sees in
      let took = took_so d t.begun p t.taken in
      let x1 = instance_taken x p (instance_at x p) in
      let s1 : Sees (Has p) p t.begun x1 = subst (λ (z : Config). Sees (Has p) p z x1) took.1 (taken_alike (Has p) p d x s (instance_at d p) (instance_at x p) s.own) in
      let even : x1.processes.stack ≡ t.begun.processes.stack =
      subst (λ (z : Config). x1.processes.stack ≡ z.processes.stack) took.1 (stack_alike (Has p) p d x s (instance_at d p) (instance_at x p) s.own (b.stack empty ∙ sym (a.stack empty))) in
      let heard : AreUnheard p x1 = (deaf_taken (ev.Terminated p) x p (instance_at x p) unheard.0, deaf_taken (ev.Restarted p) x p (instance_at x p) unheard.1) in
      let done = done-alike (Has p) (unfit p) (watches p) p n t.begun e t.turn t.own x1 s1 even (goes-unheard (Has p) (unfit p) (watches p) p n t.begun e t.turn x1 heard) in
      (done.0, record { begun = x1; taken = takes_so x p (b.runnable ∙ sym a.runnable ∙ took.0); turn = done.1; own = done.2 }, done.3)

-- ---- two turns, in either order

started_others : (c : Config) (q : ℕ) (i : Instance) (b : Bool) (r : ℕ) → r ≢ q → instance_at (unless_started c q i b) r ≡ instance_at c r
started_others c q i true r other = refl
started_others c q i false r other =
    change-apart (λ (j : Instance). record j { residual = begun (arena c) i.code i.arguments; started = true }) (change c.processes.instances q fresh) q r other ∙ change-apart fresh c.processes.instances q r other

taken_others : (c : Config) (q : ℕ) (o : Option Instance) (r : ℕ) → r ≢ q → instance_at (instance_taken c q o) r ≡ instance_at c r
taken_others c q None r other = refl
taken_others c q (Some i) r other = started_others c q i i.started r other

shared_started : (c : Config) (q : ℕ) (i : Instance) (b : Bool) → shared_in (unless_started c q i b) ≡ shared_in c
shared_started c q i true = refl
shared_started c q i false = refl

shared_taken : (c : Config) (q : ℕ) (o : Option Instance) → shared_in (instance_taken c q o) ≡ shared_in c
shared_taken c q None = refl
shared_taken c q (Some i) = shared_started c q i i.started

shared_acted : (p : ℕ) (c : Config) (a : Act) → shared_in (acted p c a) ≡ acted p (shared_in c) a
shared_acted p c (act.stores v y) = refl
shared_acted p c (act.fills m bytes) = refl
shared_acted p c (act.writes n y) = refl
shared_acted p c (act.drives n y) = refl
shared_acted p c (act.takes n) = refl
shared_acted p c (act.gives n y) = refl
shared_acted p c (act.notifies e w) = refl
shared_acted p c (act.cancels e) = refl
shared_acted p c (act.keeps n k) = refl
shared_acted p c (act.sets_global t) = refl

shared_all : (p : ℕ) (c : Config) (log : List Act) → shared_in (acted_all p c log) ≡ acted_all p (shared_in c) log
shared_all p c [] = refl
shared_all p c (a ∷ log) = shared_all p (acted p c a) log ∙ ap (λ (e : Config). acted_all p e log) (shared_acted p c a)

-- what a taking and a turn leave of other processes, and of what is shared
others_left : (q : ℕ) (log : List Act) (c b e : Config) → taking c q ≡ Some b → Did q log b e → (r : ℕ) → r ≢ q → instance_at e r ≡ instance_at c r
others_left q log c b e taken did r other = did.others r other ∙ subst (λ (z : Config). instance_at z r ≡ instance_at c r) (took_so c b q taken).1 (taken_others c q (instance_at c q) r other)

shared_left : (q : ℕ) (log : List Act) (c b e : Config) → taking c q ≡ Some b → Did q log b e → shared_in e ≡ acted_all q (shared_in c) log
shared_left q log c b e taken did =
    ap (λ (z : Config). record z { processes = record z.processes { runnable = [] }; channels = record z.channels { resolved = [] } }) did.shared
    ∙ shared_all q b log ∙ ap (λ (z : Config). acted_all q z log) (subst (λ (z : Config). shared_in z ≡ shared_in c) (took_so c b q taken).1 (shared_taken c q (instance_at c q)))

-- who is runnable behind them
abbrev taken_away : Option Instance → Bool → Bool
taken_away None b = b
taken_away (Some i) b = false

taken_away_alike : (o m : Option Instance) (a b : Bool) → option_map unnumbered m ≡ option_map unnumbered o → b ≡ a → taken_away m b ≡ taken_away o a
taken_away_alike None None a b e same = same
taken_away_alike None (Some k) a b e same = absurd (none-some (unnumbered k) (sym e))
taken_away_alike (Some i) None a b e same = absurd (none-some (unnumbered i) e)
taken_away_alike (Some i) (Some k) a b e same = refl

own_taken : (c : Config) (q : ℕ) (o : Option Instance) → holds (instance_taken c q o).processes.runnable q ≡ taken_away o (holds c.processes.runnable q)
own_taken c q None = refl
own_taken c q (Some i) = ap (λ (rs : List ℕ). holds rs q) (runnable_started c q i i.started) ∙ lacks_itself c.processes.runnable q

runnable_left : (q : ℕ) (log : List Act) (c b e : Config) → taking c q ≡ Some b → Did q log b e → (r : ℕ) → r ≢ q → holds e.processes.runnable r ≡ holds c.processes.runnable r
runnable_left q log c b e taken did r other =
    ap (λ (rs : List ℕ). holds rs r) (did_runnable q log b e did) ∙ subst (λ (z : Config). holds z.processes.runnable r ≡ holds c.processes.runnable r) (took_so c b q taken).1 (runnable_taken c q r other (instance_at c q))

own_left : (q : ℕ) (log : List Act) (c b e : Config) → taking c q ≡ Some b → Did q log b e → holds e.processes.runnable q ≡ taken_away (instance_at c q) (holds c.processes.runnable q)
own_left q log c b e taken did =
    ap (λ (rs : List ℕ). holds rs q) (did_runnable q log b e did)
    ∙ subst (λ (z : Config). holds z.processes.runnable q ≡ taken_away (instance_at c q) (holds c.processes.runnable q)) (took_so c b q taken).1 (own_taken c q (instance_at c q))

-- of one, and of all others
each_of : (P : ℕ → Type 0) (p : ℕ) → P p → ((r : ℕ) → r ≢ p → P r) → (r : ℕ) → P r
each_of P p own rest r = by (r == p) refl
  where
    by : (b : Bool) → (r == p) ≡ b → P r
    by true is = subst P (sym (eqb-true r p is)) own
    by false is = rest r (eqb-false r p is)

-- who hears nothing before and after
deaf_twin : (v : Ev) (o m : Option Instance) → option_map unnumbered m ≡ option_map unnumbered o → ((i : Instance) → o ≡ Some i → IsDeaf v i) → (j : Instance) → m ≡ Some j → IsDeaf v j
deaf_twin v o None alike deaf j at = absurd (none-some j at)
deaf_twin v None (Some k) alike deaf j at = absurd (none-some (unnumbered k) (sym alike))
deaf_twin v (Some i) (Some k) alike deaf j at =
    subst (IsDeaf v) (same_Some k j at) (subst (IsDeaf v) (sym (ap (λ (n : Instance). record n { residual = k.residual }) (same_Some (unnumbered k) (unnumbered i) alike))) (deaf i refl))

still_deaf : (v : Ev) (q : ℕ) (c e x : Config) → IsUnheard v c → IsUnheard v e → option_map unnumbered (instance_at x q) ≡ option_map unnumbered (instance_at e q) → ((r : ℕ) → r ≢ q → instance_at x r ≡ instance_at c r) → IsUnheard v x
still_deaf v q c e x before after alike others r j at = by (r == q) refl
  where
    by : (b : Bool) → (r == q) ≡ b → IsDeaf v j
    by true is = deaf_twin v (instance_at e q) (instance_at x q) alike (after q) j (subst (λ (n : ℕ). instance_at x n ≡ Some j) (eqb-true r q is) at)
    by false is = before r j (sym (others r (eqb-false r q is)) ∙ at)

module _ (Has : ℕ → Use → Type 0) (apart : (p q : ℕ) → p ≢ q → AreApart (Has p) (Has q)) (unfit : (q : ℕ) → Has q used.Unfit → ⊥) (watches : (q : ℕ) → Has q used.Watches → ⊥) (p q : ℕ) (differ : p ≢ q) where
  module _ (n m : ℕ) (c d e x y : Config) (first : TakesTurn (Has p) p n c d) (then : TakesTurn (Has q) q m d e) (before : TakesTurn (Has q) q m c x) (behind : TakesTurn (Has p) p n x y) (one : Alongside (Has q) q then.begun before.begun e x)
      (two : Alongside (Has p) p first.begun behind.begun d y) where
    at_own : option_map unnumbered (instance_at y p) ≡ option_map unnumbered (instance_at e p)
    at_own = two.sees.own ∙ sym (ap (option_map unnumbered) (others_left q one.log d then.begun e then.taken one.here p differ))

    at_other : option_map unnumbered (instance_at y q) ≡ option_map unnumbered (instance_at e q)
    at_other = ap (option_map unnumbered) (others_left p two.log x behind.begun y behind.taken two.there q (λ same. differ (sym same))) ∙ one.sees.own

    elsewhere : (r : ℕ) → r ≢ p → r ≢ q → option_map unnumbered (instance_at y r) ≡ option_map unnumbered (instance_at e r)
    elsewhere r no_p no_q =
        ap (option_map unnumbered)
        (others_left p two.log x behind.begun y behind.taken two.there r no_p ∙ others_left q one.log c before.begun x before.taken one.there r no_q
        ∙ sym (others_left q one.log d then.begun e then.taken one.here r no_q ∙ others_left p two.log c first.begun d first.taken two.here r no_p))

    at_each : (r : ℕ) → option_map unnumbered (instance_at y r) ≡ option_map unnumbered (instance_at e r)
    at_each = each_of (λ r. option_map unnumbered (instance_at y r) ≡ option_map unnumbered (instance_at e r)) p at_own (λ r no_p. each_of (λ k. k ≢ p → option_map unnumbered (instance_at y k) ≡ option_map unnumbered (instance_at e k)) q (λ h. at_other) (λ k no_q h. elsewhere k h no_q) r no_p)

    abbrev Runs : ℕ → Type 0
    Runs r = holds y.processes.runnable r ≡ holds e.processes.runnable r

    runs_own : Runs p
    runs_own =
        own_left p two.log x behind.begun y behind.taken two.there
        ∙ taken_away_alike (instance_at c p) (instance_at x p) (holds c.processes.runnable p) (holds x.processes.runnable p) (ap (option_map unnumbered) (others_left q one.log c before.begun x before.taken one.there p differ)) (runnable_left q one.log c before.begun x before.taken one.there p differ)
        ∙ sym (runnable_left q one.log d then.begun e then.taken one.here p differ ∙ own_left p two.log c first.begun d first.taken two.here)

    runs_other : Runs q
    runs_other =
        let no = λ (same : q ≡ p). differ (sym same) in
        runnable_left p two.log x behind.begun y behind.taken two.there q no ∙ own_left q one.log c before.begun x before.taken one.there
        ∙ sym (own_left q one.log d then.begun e then.taken one.here
        ∙ taken_away_alike (instance_at c q) (instance_at d q) (holds c.processes.runnable q) (holds d.processes.runnable q) (ap (option_map unnumbered) (others_left p two.log c first.begun d first.taken two.here q no)) (runnable_left p two.log c first.begun d first.taken two.here q no))

    runs_elsewhere : (r : ℕ) → r ≢ p → r ≢ q → Runs r
    runs_elsewhere r no_p no_q =
        runnable_left p two.log x behind.begun y behind.taken two.there r no_p ∙ runnable_left q one.log c before.begun x before.taken one.there r no_q
        ∙ sym (runnable_left q one.log d then.begun e then.taken one.here r no_q ∙ runnable_left p two.log c first.begun d first.taken two.here r no_p)

    runs_each : (r : ℕ) → Runs r
    runs_each = each_of Runs p runs_own (λ r no_p. each_of (λ k. k ≢ p → Runs k) q (λ h. runs_other) (λ k no_q h. runs_elsewhere k h no_q) r no_p)

    behind_lasts : Lasts Has apart unfit watches q x y
    behind_lasts = turn_lasts Has apart unfit watches q p n x y (λ same. differ (sym same)) behind

    shared_alike : shared_in y ≡ shared_in e
    shared_alike =
        shared_left p two.log x behind.begun y behind.taken two.there ∙ ap (λ (z : Config). acted_all p z two.log) (shared_left q one.log c before.begun x before.taken one.there)
        ∙ sym (all-past (Has p) (Has q) (apart p q differ) p q two.log one.log two.allowed one.allowed (shared_in c))
        ∙ sym (shared_left q one.log d then.begun e then.taken one.here ∙ ap (λ (z : Config). acted_all q z one.log) (shared_left p two.log c first.begun d first.taken two.here))

    left_alike : AreLeftAlike e y
    left_alike = record {
      instances = at_each;
      runnable = runs_each;
      stack = turn_empties p n behind.begun y behind.turn ∙ sym (turn_empties q m then.begun e then.turn);
      values = λ k. behind_lasts.sees.resolved k ∙ one.sees.resolved k;
      shared = shared_alike;
    }

  -- the other one may come first
  pub two-turns : (n m : ℕ) (c d e : Config) → c.processes.stack ≡ [] → TakesTurn (Has p) p n c d → TakesTurn (Has q) q m d e → AreUnheard q c → AreUnheard p c → AreUnheard p e
      → (x : Config) × (y : Config) × TakesTurn (Has q) q m c x × TakesTurn (Has p) p n x y × AreLeftAlike e y
  two-turns n m c d e empty first then deaf_q deaf_p deaf_after =
      let one = turn-lasts Has apart unfit watches q m c d e c empty (turn_of p n c d d (λ same. differ (sym same)) first (no_turn d)) (no_turn c) then deaf_q in
      let others = others_left q one.2.log c one.1.begun one.0 one.1.taken one.2.there in
      let deaf_x : AreUnheard p one.0 =
      (still_deaf (ev.Terminated p) q c e one.0 deaf_p.0 deaf_after.0 one.2.sees.own others, still_deaf (ev.Restarted p) q c e one.0 deaf_p.1 deaf_after.1 one.2.sees.own others) in
      let two = turn-lasts Has apart unfit watches p n c c d one.0 empty (no_turn c) (turn_of q m c one.0 one.0 differ one.1 (no_turn one.0)) first deaf_x in
      (one.0, two.0, one.1, two.1, left_alike n m c d e one.0 two.0 first then one.1 two.1 one.2 two.2)

-- ---- and on, from configurations that are left alike

module _ (Has : Use → Type 0) (p : ℕ) (e y : Config) (a : AreLeftAlike e y) where
  pub alike-seen : Sees Has p e y
  alike-seen = record {
    design = ap (λ (z : Config). z.design) a.shared;
    cycle = ap (λ (z : Config). z.cycle) a.shared;
    values = λ n. ap (λ (z : Config). option_map value_of (slice_get z.channels.signals n)) a.shared;
    resolved = a.values;
    changed = ap (λ (z : Config). z.channels.changed) a.shared;
    resolved_changed = ap (λ (z : Config). z.channels.resolved_changed) a.shared;
    transactions = ap (λ (z : Config). z.transactions) a.shared;
    own = a.instances p;
    variables = λ v h. ap (λ (z : Config). slice_get z.store.variables v) a.shared;
    memories = λ m h. ap (λ (z : Config). slice_get z.store.memories m) a.shared;
    quantum = λ h. ap (λ (z : Config). z.quantum) a.shared;
    written = λ n h. ap (λ (z : Config). slice_get z.channels.signals n) a.shared;
    readable = λ n h. ap (λ (z : Config). option_map in_reach (slice_get z.channels.fifos n)) a.shared;
    room = λ n h. ap (λ (z : Config). option_map free (slice_get z.channels.fifos n)) a.shared;
  }

  module _ (n : ℕ) (f g y1 : Config) (t : TakesTurn Has p n e f) (taken : taking y p ≡ Some y1) (again : Turn p n y1 g) (beside : Alongside Has p t.begun y1 f g) where
    still_alike : AreLeftAlike f g
    still_alike = record {
      instances =
          each_of (λ r. option_map unnumbered (instance_at g r) ≡ option_map unnumbered (instance_at f r)) p beside.sees.own
          (λ r other. ap (option_map unnumbered) (others_left p beside.log y y1 g taken beside.there r other) ∙ a.instances r ∙ sym (ap (option_map unnumbered) (others_left p beside.log e t.begun f t.taken beside.here r other)));
      runnable =
          each_of (λ r. holds g.processes.runnable r ≡ holds f.processes.runnable r) p
          (own_left p beside.log y y1 g taken beside.there ∙ taken_away_alike (instance_at e p) (instance_at y p) (holds e.processes.runnable p) (holds y.processes.runnable p) (a.instances p) (a.runnable p)
          ∙ sym (own_left p beside.log e t.begun f t.taken beside.here))
          (λ r other. runnable_left p beside.log y y1 g taken beside.there r other ∙ a.runnable r ∙ sym (runnable_left p beside.log e t.begun f t.taken beside.here r other));
      stack = turn_empties p n y1 g again ∙ sym (turn_empties p n t.begun f t.turn);
      values = beside.sees.resolved;
      shared = shared_left p beside.log y y1 g taken beside.there ∙ ap (λ (z : Config). acted_all p z beside.log) a.shared ∙ sym (shared_left p beside.log e t.begun f t.taken beside.here);
    }

  module _ (unfit : Has used.Unfit → ⊥) (watches : Has used.Watches → ⊥) where
    pub turn-alike : (n : ℕ) (f : Config) → TakesTurn Has p n e f → AreUnheard p y → (g : Config) × TakesTurn Has p n y g × AreLeftAlike f g
    turn-alike n f t unheard =
        let took = took_so e t.begun p t.taken in
        let y1 = instance_taken y p (instance_at y p) in
        let taken : taking y p ≡ Some y1 = takes_so y p (a.runnable p ∙ took.0) in
        let s1 : Sees Has p t.begun y1 = subst (λ (z : Config). Sees Has p z y1) took.1 (taken_alike Has p e y alike-seen (instance_at e p) (instance_at y p) (a.instances p)) in
        let even : y1.processes.stack ≡ t.begun.processes.stack =
        subst (λ (z : Config). y1.processes.stack ≡ z.processes.stack) took.1 (stack_alike Has p e y alike-seen (instance_at e p) (instance_at y p) (a.instances p) a.stack) in
        let deaf : AreUnheard p y1 = (deaf_taken (ev.Terminated p) y p (instance_at y p) unheard.0, deaf_taken (ev.Restarted p) y p (instance_at y p) unheard.1) in
        let done = done-alike Has unfit watches p n t.begun f t.turn t.own y1 s1 even (goes-unheard Has unfit watches p n t.begun f t.turn y1 deaf) in
        (done.0, record { begun = y1; taken = taken; turn = done.1; own = done.2 }, still_alike n f done.0 y1 t taken done.1 done.3)
