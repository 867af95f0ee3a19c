-- Turns of processes, in two configurations that are the same, and of two processes in either order.
use Rattle.std.proofs.Common.{◌≡◌, ◌≢◌, ℕ, zero, suc, Bool, true, false, cond, List, [], ◌∷◌, slice_get, Option, Some, None, refl, sym, ap, ◌∙◌, subst}
use Rattle.std.specs.Prelude.{Result, Ok, Err}
use Rattle.std.proofs.lemmas.Option.{none-some, same_Some}
use Rattle.sim_model.specs.EventCore.declared.event.Ev.{Ev}
use Rattle.sim_model.specs.EventCore.declared.event.Ev.TheVariants as ev
use Rattle.sim_model.specs.FlatDesign.declared.design.Design.{Design}
use Rattle.sim_model.specs.FlatDesign.declared.faults.RunFault.{RunFault}
use Rattle.sim_model.specs.Residual.{begun}
use Rattle.sim_model.specs.Configuration.{Config, Instance, Channels, turn, arena, change, change_instance, instance_at, with_told, with_stack, with_runnable}
use Rattle.sim_model.specs.Waits.{holds, without}
use Rattle.sim_model.specs.Control.{begins}
use Rattle.sim_model.specs.Statements.{statement_step}
use Rattle.sim_model.specs.Steps.{turn_line, instance_taken, taken_if, taking}
use Rattle.order_free.specs.Free.{Uses, Free}
use Rattle.laws_order.specs.Acts.{Act, acted_all}
use Rattle.laws_order.specs.Sees.{Sees}
use Rattle.laws_order.specs.Alongside.{Did, Alongside, IsDeaf, IsUnheard, AreUnheard}
use Rattle.laws_order.specs.Turns.{Turn, over, goes_on, EachIsOwn, TakesTurn, TurnsOfOthers, no_turn, turn_of}
use Rattle.laws_order.specs.LeftAlike.{AreLeftAlike}
use Rattle.laws_order.specs.Same.{SameDrivers, Same}
use Rattle.laws_order.specs.SameSteps.{SameTaking}
use Rattle.laws_order.proofs.SameLists.{at_place, change-at}
use Rattle.laws_order.proofs.SameSteps.{taking-same}
use Rattle.laws_order.proofs.Acting.{driven_all, resolved-all, all-past, acts-same}

-- ---- a turn has one end

abbrev then : Result Config RunFault → (Config → Option Config) → Option Config
then (Ok d) f = f d
then (Err e) f = None

abbrev ran : ℕ → ℕ → Config → Option Config
ran p zero c = Some c
ran p (suc n) c = then (statement_step c p) (ran p n)

turn_ran : (p n : ℕ) (c e : Config) → Turn p n c e → ran p n c ≡ Some e
turn_ran p _ _ _ (over c empty) = refl
turn_ran p _ _ _ (goes_on n c d e alone is more) = ap (λ m. then m (ran p n)) is ∙ turn_ran p n d e more

turn_once : (p n : ℕ) (c e y : Config) → Turn p n c e → Turn p n c y → y ≡ e
turn_once p n c e y one two = same_Some y e (sym (turn_ran p n c y two) ∙ turn_ran p n c e one)

takes_once : (k : Design) (q p n : ℕ) (c e y : Config) → TakesTurn (Uses k q) p n c e → TakesTurn (Uses k q) p n c y → y ≡ e
takes_once k q p n c e y one two =
    let same = same_Some two.begun one.begun (sym two.taken ∙ one.taken) in
    turn_once p n one.begun e y one.turn (subst (λ (b : Config). Turn p n b y) same two.turn)

-- ---- a taking leaves the design, the channels, and how all wait

module _ (P : Config → Type 0) (c : Config) (p : ℕ) (kept : P (instance_taken c p (instance_at c p))) where
  taken_by : (a : Bool) (b : Config) → taken_if c p a ≡ Some b → P b
  taken_by true b is = subst P (same_Some (instance_taken c p (instance_at c p)) b is) kept
  taken_by false b is = absurd (none-some b is)

  after_taking : (b : Config) → taking c p ≡ Some b → P b
  after_taking b is = taken_by (holds c.processes.runnable p) b is

abbrev fresh : Instance → Instance
fresh j = record j { trigger = None }

abbrev on_top : Config → ℕ → Instance → Config
on_top c p i = with_told (with_stack (with_runnable c (without c.processes.runnable p)) (p ∷ [])) (turn (turn_line c.cycle.now i.path p))

abbrev unless_started : Config → ℕ → Instance → Bool → Config
unless_started c p i b = cond b (on_top c p i) (begins (change_instance (on_top c p i) p fresh) p i)

abbrev LeavesThese : Config → Config → Type 0
LeavesThese c b = (b.design ≡ c.design) × (b.channels ≡ c.channels)

started_leaves : (c : Config) (p : ℕ) (i : Instance) (b : Bool) → LeavesThese c (unless_started c p i b)
started_leaves c p i true = (refl, refl)
started_leaves c p i false = (refl, refl)

taken_leaves : (c : Config) (p : ℕ) (o : Option Instance) → LeavesThese c (instance_taken c p o)
taken_leaves c p None = (refl, refl)
taken_leaves c p (Some i) = started_leaves c p i i.started

leaves_these : (c : Config) (p : ℕ) (b : Config) → taking c p ≡ Some b → LeavesThese c b
leaves_these c p b is = after_taking (LeavesThese c) c p (taken_leaves c p (instance_at c p)) b is

module _ {A : Type 0} (P : A → Type 0) (g : A → A) (keeps : (x : A) → P x → P (g x)) where
  each_at : (xs : List A) (n : ℕ) → ((m : ℕ) (x : A) → slice_get xs m ≡ Some x → P x) → (m : ℕ) (y : A) → slice_get (at_place n g xs) m ≡ Some y → P y
  each_at [] n h m y is = h m y is
  each_at (x ∷ xs) zero h zero y is = subst P (same_Some (g x) y is) (keeps x (h 0 x refl))
  each_at (x ∷ xs) zero h (suc m) y is = h (suc m) y is
  each_at (x ∷ xs) (suc n) h zero y is = h 0 y is
  each_at (x ∷ xs) (suc n) h (suc m) y is = each_at xs n (λ k. h (suc k)) m y is

  each_changed : (xs : List A) (n : ℕ) → ((m : ℕ) (x : A) → slice_get xs m ≡ Some x → P x) → (m : ℕ) (y : A) → slice_get (change xs n g) m ≡ Some y → P y
  each_changed xs n h m y is = each_at xs n h m y (sym (ap (λ zs. slice_get zs m) (change-at xs n g)) ∙ is)

deaf_started : (e : Ev) (c : Config) (p : ℕ) (i : Instance) (b : Bool) → IsUnheard e c → IsUnheard e (unless_started c p i b)
deaf_started e c p i true h = h
deaf_started e c p i false h =
    each_changed (IsDeaf e) (λ (j : Instance). record j { residual = begun (arena c) i.code i.arguments; started = true }) (λ j k. k) (change c.processes.instances p fresh) p
    (each_changed (IsDeaf e) fresh (λ j k. k) c.processes.instances p h)

deaf_taken : (e : Ev) (c : Config) (p : ℕ) (o : Option Instance) → IsUnheard e c → IsUnheard e (instance_taken c p o)
deaf_taken e c p None h = h
deaf_taken e c p (Some i) h = deaf_started e c p i i.started h

still_unheard : (c : Config) (p : ℕ) (b : Config) → taking c p ≡ Some b → AreUnheard p c → AreUnheard p b
still_unheard c p b is h =
    after_taking (AreUnheard p) c p (deaf_taken (ev.Terminated p) c p (instance_at c p) h.0, deaf_taken (ev.Restarted p) c p (instance_at c p) h.1) b is

-- ---- what a turn leaves of resolved signals

left_driven : (p : ℕ) (log : List Act) (c b e : Config) → Did p log b e → b.channels ≡ c.channels → e.channels.resolved ≡ driven_all p log c.channels.resolved
left_driven p log c b e did same = ap (λ (k : Config). k.channels.resolved) did.shared ∙ resolved-all p b log ∙ ap (λ (k : Channels). driven_all p log k.resolved) same

-- ---- the same turn from the same

abbrev pub DoneAlike : Type 0
DoneAlike =
    (p n : ℕ) (c e : Config) → Free c.design → (turn : Turn p n c e) → EachIsOwn (Uses c.design p) p n c e turn
    → (x : Config) → Sees (Uses c.design p) p c x → x.processes.stack ≡ c.processes.stack → AreUnheard p x
    → (y : Config) × (again : Turn p n x y) × EachIsOwn (Uses c.design p) p n x y again × Alongside (Uses c.design p) p c x e y

abbrev pub SeenAlike : Type 0
SeenAlike = (d : Design) (p : ℕ) (e y : Config) → AreLeftAlike e y → Sees (Uses d p) p e y

abbrev pub LeaveAlike : Type 0
LeaveAlike =
    (p n : ℕ) (e f y : Config) → Free e.design → AreLeftAlike e y → TakesTurn (Uses e.design p) p n e f → AreUnheard p y
    → (g : Config) × TakesTurn (Uses e.design p) p n y g × AreLeftAlike f g

module _ (done : DoneAlike) (seen : SeenAlike) (leave : LeaveAlike) (p n : ℕ) (e f y : Config) (free : Free e.design) (h : Same e y) (t : TakesTurn (Uses e.design p) p n e f) (unheard : AreUnheard p y) where
  module _ (g : Config) (again : TakesTurn (Uses e.design p) p n y g) where
    same_begun : Same t.begun again.begun
    same_begun = subst (λ o. SameTaking o (Some again.begun)) t.taken (subst (SameTaking (taking e p)) again.taken (taking-same e y p h))

    same_design : t.begun.design ≡ e.design
    same_design = (leaves_these e p t.begun t.taken).0

    drivers_left : SameDrivers f.channels.resolved g.channels.resolved
    drivers_left =
        let d =
        done p n t.begun f (subst Free (sym same_design) free) t.turn (subst (λ (k : Design). EachIsOwn (Uses k p) p n t.begun f t.turn) (sym same_design) t.own) again.begun
        (seen t.begun.design p t.begun again.begun same_begun.alike) same_begun.alike.stack (still_unheard y p again.begun again.taken unheard) in
        let log = d.3.log in
        let here = left_driven p log t.begun t.begun f d.3.here refl in
        let there = left_driven p log again.begun again.begun d.0 d.3.there refl in
        let acts = acts-same t.begun again.begun same_begun p log in
        subst (λ (k : Config). SameDrivers f.channels.resolved k.channels.resolved) (turn_once p n again.begun g d.0 again.turn d.1)
        (subst (λ rs. SameDrivers rs d.0.channels.resolved) (sym here)
        (subst (SameDrivers (driven_all p log t.begun.channels.resolved)) (sym there)
        (subst (λ rs. SameDrivers rs (driven_all p log again.begun.channels.resolved)) (resolved-all p t.begun log) (subst (SameDrivers (acted_all p t.begun log).channels.resolved) (resolved-all p again.begun log) acts.drivers))))

  pub turn-same : (g : Config) × TakesTurn (Uses e.design p) p n y g × Same f g
  turn-same =
      let l = leave p n e f y free h.alike t unheard in
      (l.0, l.1, record { alike = l.2; drivers = drivers_left l.0 l.1 })

-- ---- two turns in either order

abbrev pub EitherOrder : Type 0
EitherOrder =
    (p q : ℕ) → p ≢ q → (n m : ℕ) (c d e : Config) → Free c.design → c.processes.stack ≡ [] → TakesTurn (Uses c.design p) p n c d → TakesTurn (Uses c.design q) q m d e
    → AreUnheard q c → AreUnheard p c → AreUnheard p e
    → (x : Config) × (y : Config) × TakesTurn (Uses c.design q) q m c x × TakesTurn (Uses c.design p) p n x y × AreLeftAlike e y

abbrev pub DependOnNone : Type 0
DependOnNone =
    (p n : ℕ) (c d e x : Config) → Free c.design → c.processes.stack ≡ [] → TurnsOfOthers (Uses c.design) p c d → TurnsOfOthers (Uses c.design) p c x
    → (turn : TakesTurn (Uses c.design p) p n d e) → AreUnheard p x
    → (y : Config) × (again : TakesTurn (Uses c.design p) p n x y) × Alongside (Uses c.design p) p turn.begun again.begun e y

module _ (either : EitherOrder) (lasts : DependOnNone) (p q : ℕ) (apart : p ≢ q) (n m : ℕ) (c d e : Config) (free : Free c.design) (h : Same c c) (empty : c.processes.stack ≡ []) (first : TakesTurn (Uses c.design p) p n c d) (second : TakesTurn (Uses c.design q) q m d e)
    (deaf_q : AreUnheard q c) (deaf_p : AreUnheard p c) where
  module _ (x y : Config) (before : TakesTurn (Uses c.design q) q m c x) (behind : TakesTurn (Uses c.design p) p n x y) where
    drivers_either : SameDrivers e.channels.resolved y.channels.resolved
    drivers_either =
        let one = lasts q m c d e c free empty (turn_of p n c d d (λ same. apart (sym same)) first (no_turn d)) (no_turn c) second deaf_q in
        let two = lasts p n c x y c free empty (turn_of q m c x x apart before (no_turn x)) (no_turn c) behind deaf_p in
        let ours = one.2.log in
        let theirs = two.2.log in
        let x_is : one.0 ≡ x = takes_once c.design q q m c x one.0 before one.1 in
        let d_is : two.0 ≡ d = takes_once c.design p p n c d two.0 first two.1 in
        let d_driven : d.channels.resolved ≡ driven_all p theirs c.channels.resolved =
        ap (λ (k : Config). k.channels.resolved) (sym d_is) ∙ left_driven p theirs c two.1.begun two.0 two.2.there (leaves_these c p two.1.begun two.1.taken).1 in
        let x_driven : x.channels.resolved ≡ driven_all q ours c.channels.resolved =
        ap (λ (k : Config). k.channels.resolved) (sym x_is) ∙ left_driven q ours c one.1.begun one.0 one.2.there (leaves_these c q one.1.begun one.1.taken).1 in
        let e_driven : e.channels.resolved ≡ driven_all q ours (driven_all p theirs c.channels.resolved) =
        left_driven q ours d second.begun e one.2.here (leaves_these d q second.begun second.taken).1 ∙ ap (driven_all q ours) d_driven in
        let y_driven : y.channels.resolved ≡ driven_all p theirs (driven_all q ours c.channels.resolved) =
        left_driven p theirs x behind.begun y two.2.here (leaves_these x p behind.begun behind.taken).1 ∙ ap (driven_all p theirs) x_driven in
        subst (λ rs. SameDrivers rs y.channels.resolved) (sym e_driven)
        (subst (SameDrivers (driven_all q ours (driven_all p theirs c.channels.resolved))) (sym y_driven) (all-past p q apart theirs ours c.channels.resolved c.channels.resolved h.drivers))

  pub turns-either : AreUnheard p e → (x : Config) × (y : Config) × TakesTurn (Uses c.design q) q m c x × TakesTurn (Uses c.design p) p n x y × Same e y
  turns-either deaf_after =
      let l = either p q apart n m c d e free empty first second deaf_q deaf_p deaf_after in
      (l.0, l.1, l.2, l.3, record { alike = l.4; drivers = drivers_either l.0 l.1 l.2 l.3 })
