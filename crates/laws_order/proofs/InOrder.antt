-- The same turns in another order come to the same.
use Rattle.std.proofs.Common.{◌≡◌, ◌≢◌, ◌+◌, ◌==◌, ℕ, suc, Bool, true, false, List, [], ◌∷◌, refl, sym, ap, ◌∙◌, subst, arith, eqb-true, true≢false}
use Rattle.std.proofs.lemmas.Bool.{eqb-false}
use Rattle.std.specs.Prelude.{Result, Ok, Err}
use Rattle.std.proofs.lemmas.Option.{same_Some}
use Rattle.sim_model.specs.FlatDesign.declared.design.Design.{Design}
use Rattle.sim_model.specs.FlatDesign.declared.faults.RunFault.{RunFault}
use Rattle.sim_model.specs.Configuration.{Config}
use Rattle.sim_model.specs.Waits.{holds}
use Rattle.sim_model.specs.Statements.{statement_step}
use Rattle.order_free.specs.Free.{Uses}
use Rattle.laws_order.specs.Turns.{Turn, over, goes_on, TakesTurn}
use Rattle.laws_order.specs.Evaluated.{TurnOf, TakesTurns, no_turn, turn_then, steps_of}
use Rattle.laws_order.specs.Same.{Same}
use Rattle.laws_order.specs.Evaluations.{Evaluates}
use Rattle.laws_order.proofs.Stepping.{no-cons}
use Rattle.laws_order.specs.Below.{OfTheSame, OfRuns}
use Rattle.laws_order.proofs.Lists.{has_others}
use Rattle.laws_order.proofs.Reached.{ComesTo, taken-runs, Takes, fits-at, unheard-at, free-at, turn-leaves}

-- ---- there is one turn of a process

abbrev IsOk : Config → Result Config RunFault → Type 0
IsOk d (Ok x) = d ≡ x
IsOk d (Err f) = ⊥

same_ok : (d e : Config) (r : Result Config RunFault) → r ≡ Ok d → r ≡ Ok e → d ≡ e
same_ok d e r one two = subst (IsOk d) (sym one ∙ two) refl

is_over : (p m : ℕ) (b f : Config) → Turn p m b f → b.processes.stack ≡ [] → (m ≡ 0) × (f ≡ b)
is_over p _ _ _ (over b also) empty = (refl, refl)
is_over p _ _ _ (goes_on m b d f alone is more) empty = absurd (no-cons p [] (sym alone ∙ empty))

-- what is left of a turn behind its first step
record Later (p m : ℕ) (d f : Config) : Type 0 where
  k : ℕ
  one_less : m ≡ suc k
  left : Turn p k d f

is_later : (p m : ℕ) (b d f : Config) → Turn p m b f → b.processes.stack ≡ p ∷ [] → statement_step b p ≡ Ok d → Later p m d f
is_later p _ _ d _ (over b also) alone is = absurd (no-cons p [] (sym alone ∙ also))
is_later p _ _ d _ (goes_on m b x f too as_ more) alone is = record { k = m; one_less = refl; left = subst (λ (z : Config). Turn p m z f) (same_ok x d (statement_step b p) as_ is) more }

one_turn : (p n m : ℕ) (b e f : Config) → Turn p n b e → Turn p m b f → (m ≡ n) × (f ≡ e)
one_turn p _ m _ _ f (over b empty) other = is_over p m b f other empty
one_turn p _ m _ _ f (goes_on n b d e alone is more) other =
    let later = is_later p m b d f other alone is in
    let rest = one_turn p n later.k d e f more later.left in (later.one_less ∙ ap suc rest.0, rest.1)

the_turn : (D : Design) (p n m : ℕ) (c e f : Config) → Takes D p n c e → Takes D p m c f → (m ≡ n) × (f ≡ e)
the_turn D p n m c e f t u = one_turn p n m t.begun e f t.turn (subst (λ (z : Config). Turn p m z f) (sym (same_Some t.begun u.begun (sym t.taken ∙ u.taken))) u.turn)

-- between two turns of a run, where a configuration is the same as itself
pub record IsBetween (D : Design) (c : Config) : Type 0 where
  pub comes : ComesTo D c
  pub evaluates : Evaluates c
  pub itself : Same c c

module _ (D : Design) (the : OfTheSame) (runs : OfRuns D) where
  -- one turn, from two configurations that are the same
  pub takes-too : (p n : ℕ) (c e x : Config) → ComesTo D c → ComesTo D x → Same c x → Takes D p n c e → (y : Config) × Takes D p n x y × Same e y
  takes-too p n c e x here there same t =
      let design = (fits-at D runs c here).design in
      let g = the.turns p n c e x (free-at D runs c here) same (subst (λ (z : Design). TakesTurn (Uses z p) p n c e) (sym design) t) (unheard-at D runs x there p) in
      (g.0, subst (λ (z : Design). TakesTurn (Uses z p) p n x g.0) design g.1, g.2)

  -- two turns, in either order
  swapped : (p q : ℕ) → p ≢ q → (n m : ℕ) (c d e : Config) → IsBetween D c → Takes D p n c d → Takes D q m d e → (x : Config) × (y : Config) × Takes D q m c x × Takes D p n x y × Same e y
  swapped p q differ n m c d e here t u =
      let design = (fits-at D runs c here.comes).design in
      let at_d = turn-leaves D runs p n c d here.comes here.evaluates t in
      let at_e = turn-leaves D runs q m d e at_d.comes at_d.evaluates u in
      let s =
      the.either_order p q differ n m c d e (free-at D runs c here.comes) here.itself here.evaluates.nobody (subst (λ (z : Design). TakesTurn (Uses z p) p n c d) (sym design) t) (subst (λ (z : Design). TakesTurn (Uses z q) q m d e) (sym design) u)
      (unheard-at D runs c here.comes q) (unheard-at D runs c here.comes p) (unheard-at D runs e at_e.comes p) in
      (s.0, s.1, subst (λ (z : Design). TakesTurn (Uses z q) q m c s.0) design s.2, subst (λ (z : Design). TakesTurn (Uses z p) p n s.0 s.1) design s.3, s.4)

  others_run : (p n : ℕ) (c e : Config) → ComesTo D c → Evaluates c → Takes D p n c e → (q : ℕ) → q ≢ p → holds e.processes.runnable q ≡ holds c.processes.runnable q
  others_run p n c e here now t q apart =
      let left = turn-leaves D runs p n c e here now t in ap (λ ps. holds ps q) left.runnable ∙ has_others c.processes.runnable p q apart

  keeps : (p n : ℕ) (c e : Config) → IsBetween D c → Takes D p n c e → IsBetween D e
  keeps p n c e here t =
      let left = turn-leaves D runs p n c e here.comes here.evaluates t in
      let g = takes-too p n c e c here.comes here.comes here.itself t in record { comes = left.comes; evaluates = left.evaluates; itself = the.itself e g.0 g.2 }

  -- ---- turns one after another

  -- from configurations that are the same they come to such again
  lifted : (ts : List TurnOf) (c e x : Config) → IsBetween D c → IsBetween D x → Same c x → TakesTurns D ts c e → (y : Config) × TakesTurns D ts x y × Same e y
  lifted _ _ _ x here there same (no_turn c) = (x, no_turn x, same)
  lifted _ _ _ x here there same (turn_then t ts c d e first more) =
      let g = takes-too t.serial t.steps c d x here.comes there.comes same first in
      let h = lifted ts d e g.0 (keeps t.serial t.steps c d here first) (keeps t.serial t.steps x g.0 there g.1) g.2 more in
      (h.0, turn_then t ts x g.0 h.0 g.1 h.1, h.2)

  behind : (ts : List TurnOf) (c e : Config) → IsBetween D c → TakesTurns D ts c e → IsBetween D e
  behind _ _ _ here (no_turn c) = here
  behind _ _ _ here (turn_then t ts c d e first more) = behind ts d e (keeps t.serial t.steps c d here first) more

  -- the turn of this process comes first
  pub record IsFronted (p : ℕ) (ts : List TurnOf) (c e : Config) : Type 0 where
    pub n : ℕ
    pub rest : List TurnOf
    pub next : Config
    pub end : Config
    pub first : Takes D p n c next
    pub more : TakesTurns D rest next end
    pub same : Same e end
    pub steps : suc n + steps_of rest ≡ steps_of ts

  pub fronted : (p : ℕ) (ts : List TurnOf) (c e : Config) → IsBetween D c → TakesTurns D ts c e → holds c.processes.runnable p ≡ true → holds e.processes.runnable p ≡ false → IsFronted p ts c e
  fronted p _ _ _ here (no_turn c) runs_here over_ = absurd (true≢false (sym runs_here ∙ over_))
  fronted p _ _ _ here (turn_then t ts c d e first more) runs_here over_ =
      by (t.serial == p) refl (λ runs_there. fronted p ts d e (keeps t.serial t.steps c d here first) more runs_there over_)
    where
      by : (b : Bool) → (t.serial == p) ≡ b → (holds d.processes.runnable p ≡ true → IsFronted p ts d e) → IsFronted p (t ∷ ts) c e
      by true is later = record {
        n = t.steps;
        rest = ts;
        next = d;
        end = e;
        first = subst (λ (k : ℕ). Takes D k t.steps c d) (eqb-true t.serial p is) first;
        more = more;
        same = (behind ts d e (keeps t.serial t.steps c d here first) more).itself;
        steps = refl;
      }
      by false is later =
          let apart : t.serial ≢ p = eqb-false t.serial p is in
          let f = later (others_run t.serial t.steps c d here.comes here.evaluates first p (λ is_same. apart (sym is_same)) ∙ runs_here) in
          let there = keeps t.serial t.steps c d here first in
          let s = swapped t.serial p apart t.steps f.n c d f.next here first f.first in
          let after_both = keeps p f.n d f.next there f.first in
          let ahead = keeps t.serial t.steps s.0 s.1 (keeps p f.n c s.0 here s.2) s.3 in
          let g = lifted f.rest f.next f.end s.1 after_both ahead s.4 f.more in
          record {
            n = f.n;
            rest = t ∷ f.rest;
            next = s.0;
            end = g.0;
            first = s.2;
            more = turn_then t f.rest s.0 s.1 g.0 s.3 g.1;
            same = the.chained e f.end g.0 f.same g.2;
            steps = let sum = f.steps in omega (arith, sum);
          }

  no_turns : (ts : List TurnOf) (c e : Config) → ((p : ℕ) → holds c.processes.runnable p ≡ false) → TakesTurns D ts c e → (ts ≡ []) × (e ≡ c)
  no_turns _ _ _ nobody (no_turn c) = (refl, refl)
  no_turns _ _ _ nobody (turn_then t ts c d e first more) = absurd (true≢false (sym (taken-runs c first.begun t.serial first.taken) ∙ nobody t.serial))

  -- as long as anyone is runnable: the steps are as many, and both orders come to the same
  pub same-turns : (us ts : List TurnOf) (c e x y : Config) → IsBetween D c → IsBetween D x → Same c x → TakesTurns D ts c e → TakesTurns D us x y → ((p : ℕ) → holds e.processes.runnable p ≡ false)
      → ((p : ℕ) → holds y.processes.runnable p ≡ false) → (steps_of us ≡ steps_of ts) × Same e y
  same-turns _ ts c e _ _ here there same one (no_turn x) over_here over_there =
      let none = no_turns ts c e (λ p. sym (same.alike.runnable p) ∙ over_there p) one in (ap steps_of (sym none.0), subst (λ (z : Config). Same z x) (sym none.1) same)
  same-turns _ ts c e _ _ here there same one (turn_then u us x z y first more) over_here over_there =
      let p = u.serial in
      let f = fronted p ts c e here one (sym (same.alike.runnable p) ∙ taken-runs x first.begun p first.taken) (over_here p) in
      let g = takes-too p f.n c f.next x here.comes there.comes same f.first in
      let only = the_turn D p f.n u.steps x g.0 z g.1 first in
      let next = subst (λ (w : Config). Same f.next w) (sym only.1) g.2 in
      let rest =
      same-turns us f.rest f.next f.end z y (keeps p f.n c f.next here f.first) (keeps p u.steps x z there first) next f.more more (λ q. f.same.alike.runnable q ∙ over_here q) over_there in
      (let counts = only.0 in let sums = rest.0 in let sum = f.steps in omega (arith, counts, sums, sum), the.chained e f.end y f.same rest.1)

  -- ---- some of the turns

  -- these turns come first, and the rest behind them
  pub record IsAhead (us ts : List TurnOf) (e z : Config) : Type 0 where
    pub rest : List TurnOf
    pub now : Config
    pub end : Config
    pub more : TakesTurns D rest now end
    pub between : IsBetween D now
    pub same_now : Same now z
    pub same_end : Same e end
    pub steps : steps_of us + steps_of rest ≡ steps_of ts

  pub ahead : (us ts : List TurnOf) (c e x z : Config) → IsBetween D c → IsBetween D x → Same c x → TakesTurns D ts c e → TakesTurns D us x z → ((p : ℕ) → holds e.processes.runnable p ≡ false) → IsAhead us ts e z
  ahead _ ts c e _ _ here there same one (no_turn x) over_ =
      record { rest = ts; now = c; end = e; more = one; between = here; same_now = same; same_end = (behind ts c e here one).itself; steps = omega arith }
  ahead _ ts c e _ _ here there same one (turn_then u us x z y first more) over_ =
      let p = u.serial in
      let f = fronted p ts c e here one (sym (same.alike.runnable p) ∙ taken-runs x first.begun p first.taken) (over_ p) in
      let g = takes-too p f.n c f.next x here.comes there.comes same f.first in
      let only = the_turn D p f.n u.steps x g.0 z g.1 first in
      let next = subst (λ (w : Config). Same f.next w) (sym only.1) g.2 in
      let a = ahead us f.rest f.next f.end z y (keeps p f.n c f.next here f.first) (keeps p u.steps x z there first) next f.more more (λ q. f.same.alike.runnable q ∙ over_ q) in
      record {
        rest = a.rest;
        now = a.now;
        end = a.end;
        more = a.more;
        between = a.between;
        same_now = a.same_now;
        same_end = the.chained e f.end a.end f.same a.same_end;
        steps = let counts = only.0 in let sums = a.steps in let sum = f.steps in omega (arith, counts, sums, sum);
      }
