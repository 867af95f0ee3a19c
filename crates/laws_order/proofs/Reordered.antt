-- The turns of an evaluation phase may be taken in any order: each has as many steps, and what turns keep is kept.
use Rattle.std.proofs.Common.{◌≡◌, ◌≢◌, ◌<◌, ◌≤◌, ◌+◌, ◌==◌, ℕ, suc, Bool, true, false, cond, List, [], ◌∷◌, ◌++◌, Some, refl, sym, ap, ◌∙◌, subst, arith, eqb-true}
use Rattle.std.specs.Prelude.{IsPermutation, Result, Ok, Err}
use Rattle.std.proofs.lemmas.Option.{none-some, same_Some}
use Rattle.std.proofs.lemmas.List.Sorted.{sum_by-IsPermutation}
use Rattle.sim_model.specs.FlatDesign.declared.design.Design.{Design}
use Rattle.sim_model.specs.Clean.{times}
use Rattle.sim_model.specs.Configuration.{Config, start}
use Rattle.sim_model.specs.Waits.{holds, without}
use Rattle.sim_model.specs.FlatDesign.declared.faults.RunFault.{RunFault}
use Rattle.sim_model.specs.Steps.{taking}
use Rattle.sim_model.specs.Runs.{after}
use Rattle.sim_model.specs.declared.plain.Phase.TheVariants as phase
use Rattle.sim_model.specs.declared.plain.Command.{Command}
use Rattle.laws_runs.proofs.Times.{times-cons, times-append, times-here, times-holds, times-lacks, times-cut_here}
use Rattle.laws_runs.proofs.CleanRuns.{clean-after}
use Rattle.order_free.specs.Free.{Uses, Free}
use Rattle.laws_order.specs.Alongside.{AreUnheard}
use Rattle.laws_order.specs.Turns.{Turn, over, goes_on, TakesTurn}
use Rattle.laws_order.specs.LeftAlike.{AreLeftAlike}
use Rattle.laws_order.specs.Evaluated.{TurnOf, TakesTurns, no_turn, turn_then, serials_of, steps_of, HasEvaluated}
use Rattle.laws_order.proofs.OwnSteps.{first_if}
use Rattle.laws_order.proofs.Owns.{are-unheard}
use Rattle.laws_order.proofs.WholePhases.{IsAtRest, rest-fits, rests-behind, ready-behind, taken-held}

no_one : (p : ℕ) {ps : List ℕ} → [] ≡ p ∷ ps → ⊥
no_one p is = none-some p (ap first_if is)

-- ---- what two configurations have in common, and turns keep

-- where it goes both ways and on, who is runnable, the cycle and the stack are the same; two turns may be taken in either order; and a
-- turn of the one is a turn of the other
pub record IsKept (R : Config → Config → Type 0) : Type 0 where
  pub flipped : (c x : Config) → R c x → R x c
  pub chained : (c x y : Config) → R c x → R x y → R c y
  pub runnable : (c x : Config) → R c x → (p : ℕ) → holds x.processes.runnable p ≡ holds c.processes.runnable p
  pub cycle : (c x : Config) → R c x → x.cycle ≡ c.cycle
  pub stack : (c x : Config) → R c x → x.processes.stack ≡ c.processes.stack
  pub either : (p q : ℕ) → p ≢ q → (n m : ℕ) (c e f : Config) → Free c.design → R c c → c.processes.stack ≡ [] → TakesTurn (Uses c.design p) p n c e → TakesTurn (Uses c.design q) q m e f
      → AreUnheard q c → AreUnheard p c → AreUnheard p f
      → (x : Config) × (y : Config) × TakesTurn (Uses c.design q) q m c x × TakesTurn (Uses c.design p) p n x y × R f y
  pub goes_on : (p n : ℕ) (c e x : Config) → Free c.design → R c x → TakesTurn (Uses c.design p) p n c e → AreUnheard p x → (y : Config) × TakesTurn (Uses c.design p) p n x y × R e y

-- ---- lists of turns

abbrev same_serials : List ℕ → List ℕ → Type 0
same_serials ps qs = (p : ℕ) → times p ps ≡ times p qs

-- one of these turns is of this process
record HasTurn (ts : List TurnOf) (q : ℕ) : Type 0 where
  before : List TurnOf
  turn : TurnOf
  behind : List TurnOf
  is : ts ≡ before ++ turn ∷ behind
  own : turn.serial ≡ q

found_turn : (ts : List TurnOf) (q : ℕ) → 0 < times q (serials_of ts) → HasTurn ts q
found_turn [] q some = absurd (omega (arith, some))
found_turn (t ∷ ts) q some = by (t.serial == q) refl (found_turn ts q)
  where
    by : (b : Bool) → (t.serial == q) ≡ b → (0 < times q (serials_of ts) → HasTurn ts q) → HasTurn (t ∷ ts) q
    by true same later = record { before = []; turn = t; behind = ts; is = refl; own = eqb-true t.serial q same }
    by false other later =
        let here = times-cons q t.serial (serials_of ts) ∙ ap (λ b. cond b 1 0 + times q (serials_of ts)) other in
        let h = later (omega (arith, some, here)) in
        record { before = t ∷ h.before; turn = h.turn; behind = h.behind; is = ap (λ (us : List TurnOf). t ∷ us) h.is; own = h.own }

serials_around : (as_ bs : List TurnOf) → serials_of (as_ ++ bs) ≡ serials_of as_ ++ serials_of bs
serials_around [] bs = refl
serials_around (a ∷ as_) bs = ap (λ (ps : List ℕ). a.serial ∷ ps) (serials_around as_ bs)

-- so often a number stands in a list with one more somewhere, as in the list with that one at the front
times_moved : (p : ℕ) (as_ : List TurnOf) (u : TurnOf) (bs : List TurnOf) → times p (serials_of (as_ ++ u ∷ bs)) ≡ times p (u.serial ∷ serials_of (as_ ++ bs))
times_moved p as_ u bs =
    let whole = ap (times p) (serials_around as_ (u ∷ bs)) ∙ times-append p (serials_of as_) (u.serial ∷ serials_of bs) in
    let part = times-cons p u.serial (serials_of bs) in
    let rest = times-cons p u.serial (serials_of (as_ ++ bs)) in
    let others = ap (times p) (serials_around as_ bs) ∙ times-append p (serials_of as_) (serials_of bs) in
    omega (arith, whole, part, rest, others)

steps_moved : (as_ : List TurnOf) (u : TurnOf) (bs : List TurnOf) → steps_of (as_ ++ u ∷ bs) ≡ steps_of (u ∷ (as_ ++ bs))
steps_moved [] u bs = refl
steps_moved (a ∷ as_) u bs = let later = steps_moved as_ u bs in omega (arith, later)

steps_split : (ts as_ : List TurnOf) (u : TurnOf) (bs : List TurnOf) → ts ≡ as_ ++ u ∷ bs → steps_of ts ≡ steps_of (u ∷ (as_ ++ bs))
steps_split ts as_ u bs is = ap steps_of is ∙ steps_moved as_ u bs

cons_same : (n q : ℕ) (ns ps : List ℕ) → n ≡ q → ns ≡ ps → n ∷ ns ≡ q ∷ ps
cons_same n q ns ps head tail = ap (λ m. m ∷ ns) head ∙ ap (λ (ms : List ℕ). q ∷ ms) tail

module _ (d : Design) (free : Free d) (R : Config → Config → Type 0) (kept : IsKept R) where
  abbrev Rests : Config → Type 0
  Rests c = IsAtRest d free c

  unheard : (c : Config) → Rests c → (p : ℕ) → AreUnheard p c
  unheard c r = are-unheard d free c (rest-fits d free c r)

  same_design : (c : Config) → Rests c → c.design ≡ d
  same_design c r = (rest-fits d free c r).design

  itself : (c x : Config) → R c x → R c c
  itself c x same = kept.chained c x c same (kept.flipped c x same)

  -- ---- turns from two such configurations

  one_alike : (c y e : Config) (p n : ℕ) → Rests c → Rests y → R c y → TakesTurn (Uses d p) p n c e → (g : Config) × TakesTurn (Uses d p) p n y g × R e g
  one_alike c y e p n r s same turn =
      subst (λ (x : Design). Free x → R c y → TakesTurn (Uses x p) p n c e → AreUnheard p y → (g : Config) × TakesTurn (Uses x p) p n y g × R e g) (same_design c r) (kept.goes_on p n c e y) free same turn (unheard y s p)

  pub turns-alike : (ts : List TurnOf) (c e y : Config) → TakesTurns d ts c e → Rests c → Rests y → R c y → (g : Config) × TakesTurns d ts y g × R e g
  turns-alike _ _ _ y (no_turn c) r s same = (y, no_turn y, same)
  turns-alike _ _ _ y (turn_then t ts c e f turn more) r s same =
      let one_ = one_alike c y e t.serial t.steps r s same turn in
      let rest = turns-alike ts e f one_.0 more (rests-behind d free c t.serial t.steps e r turn) (rests-behind d free y t.serial t.steps one_.0 s one_.1) one_.2 in
      (rest.0, turn_then t ts y one_.0 rest.0 one_.1 rest.1, rest.2)

  itself_behind : (c e : Config) (p n : ℕ) → Rests c → R c c → TakesTurn (Uses d p) p n c e → R e e
  itself_behind c e p n r same turn = let o = one_alike c c e p n r r same turn in itself e o.0 o.2

  itself_after : (ts : List TurnOf) (c e : Config) → TakesTurns d ts c e → Rests c → R c c → R e e
  itself_after ts c e turns r same = let o = turns-alike ts c e c turns r r same in itself e o.0 o.2

  -- ---- the first of some turns

  record First (t : TurnOf) (ts : List TurnOf) (c g : Config) : Type 0 where
    on : Config
    turn : TakesTurn (Uses d t.serial) t.serial t.steps c on
    more : TakesTurns d ts on g

  first_of : (t : TurnOf) (ts : List TurnOf) (c g : Config) → TakesTurns d (t ∷ ts) c g → First t ts c g
  first_of _ _ _ _ (turn_then t ts c e g turn more) = record { on = e; turn = turn; more = more }

  -- ---- two turns that follow one another

  not_again : (p q : ℕ) (c e x : Config) → e.processes.runnable ≡ without c.processes.runnable p → taking e q ≡ Some x → p ≢ q
  not_again p q c e x ready taken same =
      let held = taken-held e x q (holds e.processes.runnable q) taken in
      let some = times-holds q e.processes.runnable held in
      let none = ap (times q) ready ∙ subst (λ n. times n (without c.processes.runnable p) ≡ 0) same (times-cut_here p c.processes.runnable) in
      absurd (omega (arith, some, none))

  pub swapped : (t u : TurnOf) (c e f : Config) → Rests c → R c c → TakesTurn (Uses d t.serial) t.serial t.steps c e → TakesTurn (Uses d u.serial) u.serial u.steps e f
      → (x : Config) × (y : Config) × TakesTurn (Uses d u.serial) u.serial u.steps c x × TakesTurn (Uses d t.serial) t.serial t.steps x y × R f y
  swapped t u c e f r same one_ two =
      let s = rests-behind d free c t.serial t.steps e r one_ in
      let apart = not_again t.serial u.serial c e two.begun (ready-behind d free c t.serial t.steps e r one_) two.taken in
      subst (λ (x : Design). Free x → R c c → c.processes.stack ≡ [] → TakesTurn (Uses x t.serial) t.serial t.steps c e → TakesTurn (Uses x u.serial) u.serial u.steps e f → AreUnheard u.serial c → AreUnheard t.serial c → AreUnheard t.serial f
      → (z : Config) × (y : Config) × TakesTurn (Uses x u.serial) u.serial u.steps c z × TakesTurn (Uses x t.serial) t.serial t.steps z y × R f y)
      (same_design c r) (kept.either t.serial u.serial apart t.steps u.steps c e f) free same r.empty one_ two (unheard c r u.serial) (unheard c r t.serial) (unheard f (rests-behind d free e u.serial u.steps f s two) t.serial)

  swapped_first : (t u : TurnOf) (ts : List TurnOf) (c e f g : Config) → Rests c → R c c → TakesTurn (Uses d t.serial) t.serial t.steps c e → TakesTurn (Uses d u.serial) u.serial u.steps e f → TakesTurns d ts f g
      → (y : Config) × TakesTurns d (u ∷ t ∷ ts) c y × R g y
  swapped_first t u ts c e f g r same one_ two more =
      let s = swapped t u c e f r same one_ two in
      let before = rests-behind d free c t.serial t.steps e r one_ in
      let here = rests-behind d free e u.serial u.steps f before two in
      let there = rests-behind d free s.0 t.serial t.steps s.1 (rests-behind d free c u.serial u.steps s.0 r s.2) s.3 in
      let rest = turns-alike ts f g s.1 more here there s.4 in
      (rest.0, turn_then u (t ∷ ts) c s.0 rest.0 s.2 (turn_then t ts s.0 s.1 rest.0 s.3 rest.1), rest.2)

  -- ---- one turn comes to the front, and then all as they are wanted

  pub front : (as_ : List TurnOf) (u : TurnOf) (bs : List TurnOf) (c e : Config) → Rests c → R c c → TakesTurns d (as_ ++ u ∷ bs) c e → (y : Config) × TakesTurns d (u ∷ (as_ ++ bs)) c y × R e y
  front [] u bs c e r same turns = (e, turns, itself_after (u ∷ bs) c e turns r same)
  front (a ∷ as_) u bs c e r same turns =
      let here = first_of a (as_ ++ u ∷ bs) c e turns in
      let later = front as_ u bs here.on e (rests-behind d free c a.serial a.steps here.on r here.turn) (itself_behind c here.on a.serial a.steps r same here.turn) here.more in
      let next = first_of u (as_ ++ bs) here.on later.0 later.1 in
      let two = swapped_first a u (as_ ++ bs) c here.on next.on later.0 r same here.turn next.turn next.more in
      (two.0, two.1, kept.chained e later.0 two.0 later.2 two.2)

  pub record Reordered (ts : List TurnOf) (ps : List ℕ) (c e : Config) : Type 0 where
    pub turns : List TurnOf
    pub end : Config
    pub serials : serials_of turns ≡ ps
    pub steps : steps_of turns ≡ steps_of ts
    pub taken : TakesTurns d turns c end
    pub like : R e end

  module _ (q : ℕ) (ps : List ℕ) (ts : List TurnOf) (c e : Config) (r : Rests c) (self : R c c) (turns : TakesTurns d ts c e) (same : same_serials (q ∷ ps) (serials_of ts)) (later : (us : List TurnOf) (x y : Config) → Rests x → R x x → TakesTurns d us x y → same_serials ps (serials_of us) → Reordered us ps x y) where
    one_first : HasTurn ts q → Reordered ts (q ∷ ps) c e
    one_first h =
        let others = h.before ++ h.behind in
        let moved = front h.before h.turn h.behind c e r self (subst (λ (us : List TurnOf). TakesTurns d us c e) h.is turns) in
        let first = first_of h.turn others c moved.0 moved.1 in
        let rest = later others first.on moved.0 (rests-behind d free c h.turn.serial h.turn.steps first.on r first.turn) (itself_behind c first.on h.turn.serial h.turn.steps r self first.turn) first.more (same_others others) in
        let total = rest.steps in
        let all = steps_split ts h.before h.turn h.behind h.is in
        record {
          turns = h.turn ∷ rest.turns;
          end = rest.end;
          serials = cons_same h.turn.serial q (serials_of rest.turns) ps h.own rest.serials;
          steps = omega (arith, total, all);
          taken = turn_then h.turn rest.turns c first.on rest.end first.turn rest.taken;
          like = kept.chained e moved.0 rest.end moved.2 rest.like;
        }
      where
        same_others : (others : List TurnOf) → same_serials ps (serials_of (h.before ++ h.behind))
        same_others others p =
            let here = same p in
            let wanted = times-cons p q ps in
            let moved = ap (λ (us : List TurnOf). times p (serials_of us)) h.is ∙ times_moved p h.before h.turn h.behind in
            let one_ = times-cons p h.turn.serial (serials_of (h.before ++ h.behind)) ∙ ap (λ n. cond (n == p) 1 0 + times p (serials_of (h.before ++ h.behind))) h.own in
            omega (arith, here, wanted, moved, one_)

    wanted_first : Reordered ts (q ∷ ps) c e
    wanted_first = let here = same q in let wanted = times-here q ps in one_first (found_turn ts q (omega (arith, here, wanted)))

  pub reordered : (ps : List ℕ) (ts : List TurnOf) (c e : Config) → Rests c → R c c → TakesTurns d ts c e → same_serials ps (serials_of ts) → Reordered ts ps c e
  reordered [] [] c e r self turns same = record { turns = []; end = e; serials = refl; steps = refl; taken = turns; like = itself_after [] c e turns r self }
  reordered [] (t ∷ ts) c e r self turns same = let here = same t.serial in let some = times-here t.serial (serials_of ts) in absurd (omega (arith, here, some))
  reordered (q ∷ ps) ts c e r self turns same = wanted_first q ps ts c e r self turns same (reordered ps)

  -- ---- turns are one where they are of the same processes

  abbrev went_to : Result Config RunFault → Config → Config
  went_to (Ok x) c = x
  went_to (Err f) c = c

  one_turn : (p n m : ℕ) (c e f : Config) → Turn p n c e → Turn p m c f → (n ≡ m) × (e ≡ f)
  one_turn p _ _ _ _ _ (over c empty) (over _ also) = (refl, refl)
  one_turn p _ _ _ _ _ (over c empty) (goes_on m _ y f alone is more) = absurd (no_one p (sym empty ∙ alone))
  one_turn p _ _ _ _ _ (goes_on n c x e alone is more) (over _ empty) = absurd (no_one p (sym empty ∙ alone))
  one_turn p _ _ _ _ _ (goes_on n c x e alone is more) (goes_on m _ y f also was rest) =
      let same = ap (λ (o : Result Config RunFault). went_to o c) (sym is ∙ was) in
      let later = one_turn p n m y e f (subst (λ (z : Config). Turn p n z e) same more) rest in
      (ap suc later.0, later.1)

  same_begun : (p n m : ℕ) (c e f : Config) → (one_ : TakesTurn (Uses d p) p n c e) → (two : TakesTurn (Uses d p) p m c f) → (n ≡ m) × (e ≡ f)
  same_begun p n m c e f one_ two = one_turn p n m two.begun e f (subst (λ (z : Config). Turn p n z e) (same_Some one_.begun two.begun (sym one_.taken ∙ two.taken)) one_.turn) two.turn

  abbrev head_of : List ℕ → ℕ
  head_of [] = 0
  head_of (n ∷ ns) = n

  abbrev tail_of : List ℕ → List ℕ
  tail_of [] = []
  tail_of (n ∷ ns) = ns

  none_of : (c e : Config) → TakesTurns d [] c e → c ≡ e
  none_of _ _ (no_turn c) = refl

  same_turns : (ts us : List TurnOf) (c e f : Config) → serials_of ts ≡ serials_of us → TakesTurns d ts c e → TakesTurns d us c f → (steps_of ts ≡ steps_of us) × (e ≡ f)
  same_turns [] [] c e f same one_ two = (refl, sym (none_of c e one_) ∙ none_of c f two)
  same_turns [] (u ∷ us) c e f same one_ two = absurd (no_one u.serial same)
  same_turns (t ∷ ts) [] c e f same one_ two = absurd (no_one t.serial (sym same))
  same_turns (t ∷ ts) (u ∷ us) c e f same one_ two =
      let first = first_of t ts c e one_ in
      let second = first_of u us c f two in
      let heads = ap head_of same in
      let turn = same_begun u.serial t.steps u.steps c first.on second.on (subst (λ n. TakesTurn (Uses d n) n t.steps c first.on) heads first.turn) second.turn in
      let rest = same_turns ts us second.on e f (ap tail_of same) (subst (λ (x : Config). TakesTurns d ts x e) turn.1 first.more) second.more in
      let here = turn.0 in
      let later = rest.0 in
      (omega (arith, here, later), rest.1)

  -- ---- whole phases

  counts : (ps qs : List ℕ) → IsPermutation ps qs → same_serials qs ps
  counts ps qs h p = sum_by-IsPermutation (λ q. cond (q == p) 1 0) ps qs h

  pub any-order : (ts : List TurnOf) (c e : Config) → Rests c → R c c → TakesTurns d ts c e → (ps : List ℕ) → IsPermutation (serials_of ts) ps → Reordered ts ps c e
  any-order ts c e r self turns ps h = reordered ps ts c e r self turns (counts (serials_of ts) ps h)

  pub phases-alike : (ts us : List TurnOf) (c e x y : Config) → Rests c → Rests x → R c x → TakesTurns d ts c e → TakesTurns d us x y → same_serials (serials_of us) (serials_of ts) → (steps_of us ≡ steps_of ts) × R e y
  phases-alike ts us c e x y r s same turns others h =
      let again = turns-alike ts c e x turns r s same in
      let o = reordered (serials_of us) ts x again.0 s (itself x c (kept.flipped c x same)) again.1 h in
      let one_ = same_turns o.turns us x o.end y o.serials o.taken others in
      (sym one_.0 ∙ o.steps, kept.chained e again.0 y again.2 (subst (λ (z : Config). R again.0 z) one_.1 o.like))

  -- who is runnable in both is so once in both
  as_often : (p : ℕ) (xs ys : List ℕ) (b : Bool) → holds xs p ≡ b → holds ys p ≡ b → times p xs ≤ 1 → times p ys ≤ 1 → times p ys ≡ times p xs
  as_often p xs ys true here there most too = let one_ = times-holds p xs here in let two = times-holds p ys there in omega (arith, one_, two, most, too)
  as_often p xs ys false here there most too = let one_ = times-lacks p xs here in let two = times-lacks p ys there in omega (arith, one_, two)

  once_runnable : (c : Config) → Rests c → (p : ℕ) → times p c.processes.runnable ≤ 1
  once_runnable c r p = let most = (clean-after d r.script r.steps r.choices c r.run).once p in omega (arith, most)

  pub same-turns : (c x : Config) → Rests c → Rests x → R c x → (ts us : List TurnOf) → IsPermutation c.processes.runnable (serials_of ts) → IsPermutation x.processes.runnable (serials_of us) → same_serials (serials_of us) (serials_of ts)
  same-turns c x r s same ts us h k p =
      let here = counts c.processes.runnable (serials_of ts) h p in
      let there = counts x.processes.runnable (serials_of us) k p in
      let both = as_often p c.processes.runnable x.processes.runnable (holds c.processes.runnable p) refl (kept.runnable c x same p) (once_runnable c r p) (once_runnable x s p) in
      omega (arith, here, there, both)

  -- from two such configurations, in both of which an evaluation phase begins
  pub phases-kept : (c x : Config) → Rests c → Rests x → R c x → (k : ℕ) (own : List ℕ) (e : Config) (one_ : HasEvaluated d c k own e) (l : ℕ) (others : List ℕ) (y : Config) (two : HasEvaluated d x l others y)
      → (steps_of two.turns ≡ steps_of one_.turns) × R one_.turned two.turned
  phases-kept c x r s same k own e one_ l others y two =
      phases-alike one_.turns two.turns c one_.turned x two.turned r s same one_.taken two.taken (same-turns c x r s same one_.turns two.turns one_.each two.each)

-- ---- what is left alike

abbrev pub GoesEitherWay : Type 0
GoesEitherWay = (p q : ℕ) → p ≢ q → (n m : ℕ) (c d e : Config) → Free c.design → c.processes.stack ≡ [] → TakesTurn (Uses c.design p) p n c d → TakesTurn (Uses c.design q) q m d e
    → AreUnheard q c → AreUnheard p c → AreUnheard p e
    → (x : Config) × (y : Config) × TakesTurn (Uses c.design q) q m c x × TakesTurn (Uses c.design p) p n x y × AreLeftAlike e y

abbrev pub LeavesAlike : Type 0
LeavesAlike = (p n : ℕ) (e f y : Config) → Free e.design → AreLeftAlike e y → TakesTurn (Uses e.design p) p n e f → AreUnheard p y → (g : Config) × TakesTurn (Uses e.design p) p n y g × AreLeftAlike f g

alike_self : (e : Config) → AreLeftAlike e e
alike_self e = record { instances = λ p. refl; runnable = λ p. refl; stack = refl; values = λ n. refl; shared = refl }

alike_on : (c d e : Config) → AreLeftAlike c d → AreLeftAlike d e → AreLeftAlike c e
alike_on c d e h k = record {
  instances = λ p. k.instances p ∙ h.instances p;
  runnable = λ p. k.runnable p ∙ h.runnable p;
  stack = k.stack ∙ h.stack;
  values = λ n. k.values n ∙ h.values n;
  shared = k.shared ∙ h.shared;
}

alike_back : (c d : Config) → AreLeftAlike c d → AreLeftAlike d c
alike_back c d h = record { instances = λ p. sym (h.instances p); runnable = λ p. sym (h.runnable p); stack = sym h.stack; values = λ n. sym (h.values n); shared = sym h.shared }

alike_kept : GoesEitherWay → LeavesAlike → IsKept AreLeftAlike
alike_kept either alike = record {
  flipped = alike_back;
  chained = alike_on;
  runnable = λ c x h. h.runnable;
  cycle = λ c x h. ap (λ (z : Config). z.cycle) h.shared;
  stack = λ c x h. h.stack;
  either = λ p q apart n m c e f free self. either p q apart n m c e f free;
  goes_on = alike;
}

module _ (either : GoesEitherWay) (alike : LeavesAlike) (d : Design) (script : List Command) (free : Free d) (n : ℕ) (choices : List ℕ) (c : Config) (run : after n choices (start d script) ≡ Some c) (evaluating : c.cycle.phase ≡ phase.Evaluate) (empty : c.processes.stack ≡ []) where
  at_rest : IsAtRest d free c
  at_rest = record { script = script; steps = n; choices = choices; run = run; evaluating = evaluating; empty = empty }

  pub in-any-order : (ts : List TurnOf) (e : Config) → TakesTurns d ts c e → (ps : List ℕ) → IsPermutation (serials_of ts) ps
      → (us : List TurnOf) × (y : Config) × (serials_of us ≡ ps) × (steps_of us ≡ steps_of ts) × TakesTurns d us c y × AreLeftAlike e y
  in-any-order ts e turns ps h = let o = any-order d free AreLeftAlike (alike_kept either alike) ts c e at_rest (alike_self c) turns ps h in (o.turns, o.end, o.serials, o.steps, o.taken, o.like)

  pub phases-leave-alike : (other : List Command) (m : ℕ) (more : List ℕ) (x : Config) → after m more (start d other) ≡ Some x → AreLeftAlike c x
      → (k : ℕ) (own : List ℕ) (e : Config) (one_ : HasEvaluated d c k own e) (l : ℕ) (others : List ℕ) (y : Config) (two : HasEvaluated d x l others y)
      → (steps_of two.turns ≡ steps_of one_.turns) × AreLeftAlike one_.turned two.turned
  phases-leave-alike other m more x there same k own e one_ l others y two =
      let s : IsAtRest d free x = record { script = other; steps = m; choices = more; run = there; evaluating = ap (λ (z : Config). z.cycle.phase) same.shared ∙ evaluating; empty = same.stack ∙ empty } in
      phases-kept d free AreLeftAlike (alike_kept either alike) c x at_rest s same k own e one_ l others y two
