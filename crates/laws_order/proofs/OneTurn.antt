-- A turn of a process that sees two configurations alike, and of one that another process sees nothing of.
use Rattle.std.proofs.Common.{◌≡◌, ◌≢◌, ◌==◌, ℕ, Bool, true, false, List, [], ◌∷◌, ◌++◌, All, Option, Some, None, option_map, refl, sym, ap, ◌∙◌, subst}
use Rattle.std.specs.Prelude.{⊤, Result, Ok, Err}
use Rattle.std.proofs.lemmas.Bool.{eqb-true, eqb-false}
use Rattle.std.proofs.lemmas.List.Elements.{All-nil, All-append}
use Rattle.std.proofs.lemmas.Option.{none-some, same_Some}
use Rattle.sim_model.specs.EventCore.declared.event.Ev.{Ev}
use Rattle.sim_model.specs.EventCore.declared.event.Ev.TheVariants as ev
use Rattle.sim_model.specs.FlatDesign.declared.faults.RunFault.{RunFault}
use Rattle.sim_model.specs.FlatDesign.Code.{arena_of}
use Rattle.sim_model.specs.FlatDesign.declared.design.Design.{Design}
use Rattle.sim_model.specs.Residual.{Residual, Next, skip, one, batch, seq, owing, guard, try_, frame, shell, run, goal, settle, next_of}
use Rattle.sim_model.specs.Configuration.{Config, Instance, arena, instance_at}
use Rattle.sim_model.specs.Statements.{statement_step}
use Rattle.kernel_bodies.specs.Strip.{strip}
use Rattle.kernel_bodies.proofs.Strips.{strip-settle, strip-next}
use Rattle.order_free.specs.declared.uses.Use.{Use}
use Rattle.order_free.specs.declared.uses.Use.TheVariants as used
use Rattle.laws_order.specs.Acts as act
use Rattle.laws_order.specs.Acts.{Act, acted, acted_all, Allows}
use Rattle.laws_order.specs.Sees.{unnumbered, Sees}
use Rattle.laws_order.specs.Alongside.{rest, Did, Alongside, Both, HasNoHops, OwnNext, IsDeaf, IsUnheard, AreUnheard}
use Rattle.laws_order.specs.Turns.{IsOnItsOwn, Turn, over, goes_on, EachIsOwn}
use Rattle.laws_order.proofs.Apart.{AreApart}
use Rattle.laws_order.proofs.ProcessViews.{sees-refl}
use Rattle.laws_order.proofs.OneStep.{step-alongside}
use Rattle.laws_order.proofs.Others.{did-unseen}

-- ---- what was done, and then more

acted_on : (p : ℕ) (c : Config) (log more : List Act) → acted_all p c (log ++ more) ≡ acted_all p (acted_all p c log) more
acted_on p c [] more = refl
acted_on p c (a ∷ log) more = acted_on p (acted p c a) log more

rest_acted : (p : ℕ) (c : Config) (a : Act) → rest (acted p c a) ≡ acted p (rest c) a
rest_acted p c (act.stores v y) = refl
rest_acted p c (act.fills m bytes) = refl
rest_acted p c (act.writes n y) = refl
rest_acted p c (act.drives n y) = refl
rest_acted p c (act.takes n) = refl
rest_acted p c (act.gives n y) = refl
rest_acted p c (act.notifies e w) = refl
rest_acted p c (act.cancels e) = refl
rest_acted p c (act.keeps n k) = refl
rest_acted p c (act.sets_global t) = refl

rest_acted_all : (p : ℕ) (c : Config) (log : List Act) → rest (acted_all p c log) ≡ acted_all p (rest c) log
rest_acted_all p c [] = refl
rest_acted_all p c (a ∷ log) = rest_acted_all p (acted p c a) log ∙ ap (λ (e : Config). acted_all p e log) (rest_acted p c a)

did_more : (p : ℕ) (log more : List Act) (c d e : Config) → Did p log c d → Did p more d e → Did p (log ++ more) c e
did_more p log more c d e h k = record {
  others = λ q apart. k.others q apart ∙ h.others q apart;
  shared = k.shared ∙ rest_acted_all p d more ∙ ap (λ (z : Config). acted_all p z more) h.shared ∙ sym (rest_acted_all p (acted_all p c log) more) ∙ ap rest (sym (acted_on p c log more));
}

-- ---- what a step is its own for shows without the numbers of guards

no_hops_stripped : (r : Residual) → HasNoHops r → HasNoHops (strip r)
no_hops_stripped skip h = tt
no_hops_stripped (one m) h = tt
no_hops_stripped (batch m qs) h = tt
no_hops_stripped (seq r ms) h = no_hops_stripped r h
no_hops_stripped (owing r g u) h = no_hops_stripped r h
no_hops_stripped (guard r g u) h = no_hops_stripped r h
no_hops_stripped (try_ r handlers) h = no_hops_stripped r h
no_hops_stripped (frame r f) h = (no_hops_stripped r h.0, h.1)
no_hops_stripped (shell r f) h = (no_hops_stripped r h.0, h.1)
no_hops_stripped (run g r) h = no_hops_stripped r h
no_hops_stripped (goal r k) h = no_hops_stripped r h

stripped_no_hops : (r : Residual) → HasNoHops (strip r) → HasNoHops r
stripped_no_hops skip h = tt
stripped_no_hops (one m) h = tt
stripped_no_hops (batch m qs) h = tt
stripped_no_hops (seq r ms) h = stripped_no_hops r h
stripped_no_hops (owing r g u) h = stripped_no_hops r h
stripped_no_hops (guard r g u) h = stripped_no_hops r h
stripped_no_hops (try_ r handlers) h = stripped_no_hops r h
stripped_no_hops (frame r f) h = (stripped_no_hops r h.0, h.1)
stripped_no_hops (shell r f) h = (stripped_no_hops r h.0, h.1)
stripped_no_hops (run g r) h = stripped_no_hops r h
stripped_no_hops (goal r k) h = stripped_no_hops r h

module _ (Has : Use → Type 0) (p : ℕ) (c x : Config) (s : Sees Has p c x) (o : IsOnItsOwn Has p c) (unheard : AreUnheard p x) where
  own_of : (k : Instance) → instance_at x p ≡ Some k → unnumbered k ≡ unnumbered o.instance → IsOnItsOwn Has p x
  own_of k at alike = record {
    instance = k;
    found = at;
    none = stripped_no_hops k.residual (subst HasNoHops (sym same) (no_hops_stripped o.instance.residual o.none));
    next =
        subst (λ (d : Design). OwnNext Has d k.home (next_of (settle (arena_of d.code) k.residual))) (sym s.design)
        (subst (λ (n : Next). OwnNext Has c.design k.home n) (sym next_same) (subst (λ (home : ℕ). OwnNext Has c.design home (next_of (settle (arena c) o.instance.residual))) (sym (ap (λ (i : Instance). i.home) alike)) o.next));
    unheard = unheard;
  }
    where
      same : strip k.residual ≡ strip o.instance.residual
      same = ap (λ (i : Instance). i.residual) alike

      next_same : next_of (settle (arena c) k.residual) ≡ next_of (settle (arena c) o.instance.residual)
      next_same =
          sym (strip-next (settle (arena c) k.residual))
          ∙ ap next_of (strip-settle (arena c) k.residual ∙ ap (settle (arena c)) same ∙ sym (strip-settle (arena c) o.instance.residual))
          ∙ strip-next (settle (arena c) o.instance.residual)

  own_too : IsOnItsOwn Has p x
  own_too = by (instance_at x p) refl (s.own ∙ ap (option_map unnumbered) o.found)
    where
      by : (m : Option Instance) → instance_at x p ≡ m → option_map unnumbered m ≡ Some (unnumbered o.instance) → IsOnItsOwn Has p x
      by None at e = absurd (none-some (unnumbered o.instance) e)
      by (Some k) at e = own_of k at (same_Some (unnumbered k) (unnumbered o.instance) e)

-- a result that goes beside one that went
record Went (R : Config → Config → Type 0) (e : Config) (m : Result Config RunFault) : Type 0 where
  to : Config
  is : m ≡ Ok to
  beside : R e to

went_of : (R : Config → Config → Type 0) (e : Config) (m : Result Config RunFault) → Both R (Ok e) m → Went R e m
went_of R e (Ok y) h = record { to = y; is = refl; beside = h }
went_of R e (Err f) h = absurd h

module _ (Has : Use → Type 0) (unfit : Has used.Unfit → ⊥) (watches : Has used.Watches → ⊥) (p : ℕ) where
  alongside_more : (c x d z e y : Config) → Alongside Has p c x d z → Alongside Has p d z e y → Alongside Has p c x e y
  alongside_more c x d z e y h k = record {
    log = h.log ++ k.log;
    allowed = All-append (Allows Has) h.log k.log h.allowed k.allowed;
    here = did_more p h.log k.log c d e h.here k.here;
    there = did_more p h.log k.log x z y h.there k.there;
    sees = k.sees;
    stack = k.stack;
  }

  -- ---- nobody else begins to wait for it

  twin_deaf : (v : Ev) (o : Option Instance) (i : Instance) → option_map unnumbered o ≡ Some (unnumbered i) → IsDeaf v i → (j : Instance) → o ≡ Some j → IsDeaf v j
  twin_deaf v None i alike deaf j at = absurd (none-some j at)
  twin_deaf v (Some k) i alike deaf j at = subst (IsDeaf v) (same_Some k j at) (subst (IsDeaf v) (sym (ap (λ (n : Instance). record n { residual = k.residual }) (same_Some (unnumbered k) (unnumbered i) alike))) deaf)

  stays_unheard : (v : Ev) (x d z : Config) (i : Instance) → instance_at d p ≡ Some i → option_map unnumbered (instance_at z p) ≡ option_map unnumbered (instance_at d p) → ((q : ℕ) → q ≢ p → instance_at z q ≡ instance_at x q)
      → IsUnheard v d → IsUnheard v x → IsUnheard v z
  stays_unheard v x d z i found alike others here there q j at = by (q == p) refl
    where
      by : (b : Bool) → (q == p) ≡ b → IsDeaf v j
      by true is = twin_deaf v (instance_at z p) i (alike ∙ ap (option_map unnumbered) found) (here p i found) j (subst (λ n. instance_at z n ≡ Some j) (eqb-true q p is) at)
      by false is = there q j (sym (others q (eqb-false q p is)) ∙ at)

  -- it has to be unheard where it goes on
  abbrev GoesUnheard : (n : ℕ) (c e : Config) → Turn p n c e → Config → Type 0
  GoesUnheard _ _ _ (over c empty) x = ⊤
  GoesUnheard _ _ _ (goes_on n c d e alone is more) x = AreUnheard p x

  pub goes-unheard : (n : ℕ) (c e : Config) (t : Turn p n c e) (x : Config) → AreUnheard p x → GoesUnheard n c e t x
  goes-unheard _ _ _ (over c empty) x unheard = tt
  goes-unheard _ _ _ (goes_on n c d e alone is more) x unheard = unheard

  still_unheard : (n : ℕ) (d e : Config) (t : Turn p n d e) → EachIsOwn Has p n d e t → (x z : Config) → AreUnheard p x → option_map unnumbered (instance_at z p) ≡ option_map unnumbered (instance_at d p)
      → ((q : ℕ) → q ≢ p → instance_at z q ≡ instance_at x q) → GoesUnheard n d e t z
  still_unheard _ _ _ (over d empty) mine x z unheard alike others = tt
  still_unheard _ _ _ (goes_on n d d2 e alone is more) mine x z unheard alike others =
      (stays_unheard (ev.Terminated p) x d z mine.0.instance mine.0.found alike others mine.0.unheard.0 unheard.0, stays_unheard (ev.Restarted p) x d z mine.0.instance mine.0.found alike others mine.0.unheard.1 unheard.1)

  -- ---- a turn in both

  pub done-alike : (n : ℕ) (c e : Config) (t : Turn p n c e) → EachIsOwn Has p n c e t → (x : Config) → Sees Has p c x → x.processes.stack ≡ c.processes.stack → GoesUnheard n c e t x
      → (y : Config) × (again : Turn p n x y) × EachIsOwn Has p n x y again × Alongside Has p c x e y
  done-alike _ _ _ (over c empty) mine x s even unheard = (x, over x (even ∙ empty), tt, nothing_done c x s even)
    where
      nothing_done : (c x : Config) → Sees Has p c x → x.processes.stack ≡ c.processes.stack → Alongside Has p c x c x
      nothing_done c x s even =
          record { log = []; allowed = All-nil (Allows Has); here = record { others = λ q apart. refl; shared = refl }; there = record { others = λ q apart. refl; shared = refl }; sees = s; stack = even }
  done-alike _ _ _ (goes_on n c d e alone is more) mine x s even unheard =
      let first = step-alongside Has unfit watches p c x s even mine.0.instance mine.0.none mine.0.next mine.0.unheard unheard mine.0.found in
      let went : Went (Alongside Has p c x) d (statement_step x p) = went_of (Alongside Has p c x) d (statement_step x p) (subst (λ (m : Result Config RunFault). Both (Alongside Has p c x) m (statement_step x p)) is first) in
      let then = done-alike n d e more mine.1 went.to went.beside.sees went.beside.stack (still_unheard n d e more mine.1 x went.to unheard went.beside.sees.own went.beside.there.others) in
      (then.0, goes_on n x went.to then.0 (even ∙ alone) went.is then.1, (own_too Has p c x s mine.0 unheard, then.2), alongside_more c x d went.to e then.0 went.beside then.3)

  -- ---- what was done in a turn

  pub turn-did : (n : ℕ) (c e : Config) (t : Turn p n c e) → EachIsOwn Has p n c e t → (log : List Act) × All (Allows Has) log × Did p log c e
  turn-did _ _ _ (over c empty) mine = ([], All-nil (Allows Has), nothing_did c)
    where
      nothing_did : (c : Config) → Did p [] c c
      nothing_did c = record { others = λ q apart. refl; shared = refl }
  turn-did _ _ _ (goes_on n c d e alone is more) mine =
      let first = step-alongside Has unfit watches p c c (sees-refl Has p c) refl mine.0.instance mine.0.none mine.0.next mine.0.unheard mine.0.unheard mine.0.found in
      let a : Alongside Has p c c d d = subst (λ (m : Result Config RunFault). Both (Alongside Has p c c) m m) is first in
      let then = turn-did n d e more mine.1 in
      (a.log ++ then.0, All-append (Allows Has) a.log then.0 a.allowed then.1, did_more p a.log then.0 c d e a.here then.2)

-- another process sees nothing of it
pub turn-unseen : (Has Others : Use → Type 0) → AreApart Has Others → (Others used.Unfit → ⊥) → (Others used.Watches → ⊥) → (p q : ℕ) → p ≢ q → (n : ℕ) (c e : Config) (t : Turn q n c e) → EachIsOwn Others q n c e t → Sees Has p c e
turn-unseen Has Others apart unfit watches p q differ n c e t mine =
    let done = turn-did Others unfit watches q n c e t mine in
    did-unseen Has Others apart p q differ c e done.0 done.1 done.2
