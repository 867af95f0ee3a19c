-- Acts of processes, in two configurations that are the same.
use Rattle.std.proofs.Common.{◌≡◌, ◌≢◌, ℕ, zero, suc, List, [], ◌∷◌, slice_get, Option, Some, None, option_map, refl, sym, ap, ◌∙◌, subst}
use Rattle.sim_model.specs.LogicValues.declared.kinds.Digit.{Digit}
use Rattle.sim_model.specs.SignalChannel.Drivers.{Driven, driven_by}
use Rattle.sim_model.specs.Values.{one_digit, digit_list}
use Rattle.sim_model.specs.Configuration.{Config, Processes}
use Rattle.sim_model.specs.Waits.{holds}
use Rattle.laws_order.specs.Acts as act
use Rattle.laws_order.specs.Acts.{Act, acted, acted_all}
use Rattle.laws_order.specs.Sees.{unnumbered}
use Rattle.laws_order.specs.LeftAlike.{shared_in}
use Rattle.laws_order.specs.Undriven.{without_drivers}
use Rattle.laws_order.specs.Same.{SameDriven, SameDrivers, Same}
use Rattle.laws_order.proofs.SameLists.{at_place, change-at}
use Rattle.laws_order.proofs.Moves.{value-at}
use Rattle.laws_order.proofs.Driving.{driven-itself, driven-flip, driven-trans, driven-same, driven-either}

-- ---- resolved signals one by one

pub drivers-left : (rs ss : List Driven) → SameDrivers rs ss → SameDrivers rs rs
drivers-left [] [] h = h
drivers-left [] (s ∷ ss) h = absurd h
drivers-left (r ∷ rs) [] h = absurd h
drivers-left (r ∷ rs) (s ∷ ss) h = (driven-itself r h.0.here, drivers-left rs ss h.1)

pub drivers-flip : (rs ss : List Driven) → SameDrivers rs ss → SameDrivers ss rs
drivers-flip [] [] h = h
drivers-flip [] (s ∷ ss) h = absurd h
drivers-flip (r ∷ rs) [] h = absurd h
drivers-flip (r ∷ rs) (s ∷ ss) h = (driven-flip r s h.0, drivers-flip rs ss h.1)

pub drivers-trans : (rs ss ts : List Driven) → SameDrivers rs ss → SameDrivers ss ts → SameDrivers rs ts
drivers-trans [] [] ts h k = k
drivers-trans [] (s ∷ ss) ts h k = absurd h
drivers-trans (r ∷ rs) [] ts h k = absurd h
drivers-trans (r ∷ rs) (s ∷ ss) [] h k = absurd k
drivers-trans (r ∷ rs) (s ∷ ss) (t ∷ ts) h k = (driven-trans r s t h.0 k.0, drivers-trans rs ss ts h.1 k.1)

place_same : (f g : Driven → Driven) → ((r s : Driven) → SameDriven r s → SameDriven (f r) (g s)) → (n : ℕ) (rs ss : List Driven) → SameDrivers rs ss → SameDrivers (at_place n f rs) (at_place n g ss)
place_same f g keeps n [] [] h = h
place_same f g keeps n [] (s ∷ ss) h = absurd h
place_same f g keeps n (r ∷ rs) [] h = absurd h
place_same f g keeps zero (r ∷ rs) (s ∷ ss) h = (keeps r s h.0, h.1)
place_same f g keeps (suc n) (r ∷ rs) (s ∷ ss) h = (h.0, place_same f g keeps n rs ss h.1)

-- ---- what an act drives: of which resolved signal, and to what

abbrev drive_of : Act → Option (ℕ × Digit)
drive_of (act.stores v x) = None
drive_of (act.fills m bytes) = None
drive_of (act.writes n x) = None
drive_of (act.drives n x) = Some (n, one_digit (digit_list x))
drive_of (act.takes n) = None
drive_of (act.gives n x) = None
drive_of (act.notifies e w) = None
drive_of (act.cancels e) = None
drive_of (act.keeps n k) = None
drive_of (act.sets_global t) = None

abbrev pub driven : ℕ → Option (ℕ × Digit) → List Driven → List Driven
driven p None rs = rs
driven p (Some z) rs = at_place z.0 (driven_by p z.1) rs

abbrev pub driven_all : ℕ → List Act → List Driven → List Driven
driven_all p [] rs = rs
driven_all p (a ∷ log) rs = driven_all p log (driven p (drive_of a) rs)

resolved_acted : (p : ℕ) (c : Config) (a : Act) → (acted p c a).channels.resolved ≡ driven p (drive_of a) c.channels.resolved
resolved_acted p c (act.stores v x) = refl
resolved_acted p c (act.fills m bytes) = refl
resolved_acted p c (act.writes n x) = refl
resolved_acted p c (act.drives n x) = change-at c.channels.resolved n (driven_by p (one_digit (digit_list x)))
resolved_acted p c (act.takes n) = refl
resolved_acted p c (act.gives n x) = refl
resolved_acted p c (act.notifies e w) = refl
resolved_acted p c (act.cancels e) = refl
resolved_acted p c (act.keeps n k) = refl
resolved_acted p c (act.sets_global t) = refl

pub resolved-all : (p : ℕ) (c : Config) (log : List Act) → (acted_all p c log).channels.resolved ≡ driven_all p log c.channels.resolved
resolved-all p c [] = refl
resolved-all p c (a ∷ log) = resolved-all p (acted p c a) log ∙ ap (driven_all p log) (resolved_acted p c a)

driven_same : (p : ℕ) (o : Option (ℕ × Digit)) (rs ss : List Driven) → SameDrivers rs ss → SameDrivers (driven p o rs) (driven p o ss)
driven_same p None rs ss h = h
driven_same p (Some z) rs ss h = place_same (driven_by p z.1) (driven_by p z.1) (driven-same p z.1) z.0 rs ss h

all_same : (p : ℕ) (log : List Act) (rs ss : List Driven) → SameDrivers rs ss → SameDrivers (driven_all p log rs) (driven_all p log ss)
all_same p [] rs ss h = h
all_same p (a ∷ log) rs ss h = all_same p log (driven p (drive_of a) rs) (driven p (drive_of a) ss) (driven_same p (drive_of a) rs ss h)

-- ---- of two processes in either order

module _ (p q : ℕ) (apart : p ≢ q) where
  places_either : (n m : ℕ) (d e : Digit) (rs ss : List Driven) → SameDrivers rs ss → SameDrivers (at_place m (driven_by q e) (at_place n (driven_by p d) rs)) (at_place n (driven_by p d) (at_place m (driven_by q e) ss))
  places_either n m d e [] [] h = h
  places_either n m d e [] (s ∷ ss) h = absurd h
  places_either n m d e (r ∷ rs) [] h = absurd h
  places_either zero zero d e (r ∷ rs) (s ∷ ss) h = (driven-either p q apart d e r s h.0, h.1)
  places_either zero (suc m) d e (r ∷ rs) (s ∷ ss) h = (driven-same p d r s h.0, place_same (driven_by q e) (driven_by q e) (driven-same q e) m rs ss h.1)
  places_either (suc n) zero d e (r ∷ rs) (s ∷ ss) h = (driven-same q e r s h.0, place_same (driven_by p d) (driven_by p d) (driven-same p d) n rs ss h.1)
  places_either (suc n) (suc m) d e (r ∷ rs) (s ∷ ss) h = (h.0, places_either n m d e rs ss h.1)

  either : (o m : Option (ℕ × Digit)) (rs ss : List Driven) → SameDrivers rs ss → SameDrivers (driven q m (driven p o rs)) (driven p o (driven q m ss))
  either None m rs ss h = driven_same q m rs ss h
  either (Some z) None rs ss h = driven_same p (Some z) rs ss h
  either (Some z) (Some y) rs ss h = places_either z.0 y.0 z.1 y.1 rs ss h

  one_past : (o : Option (ℕ × Digit)) (bs : List Act) (rs ss : List Driven) → SameDrivers rs ss → SameDrivers (driven_all q bs (driven p o rs)) (driven p o (driven_all q bs ss))
  one_past o [] rs ss h = driven_same p o rs ss h
  one_past o (b ∷ bs) rs ss h =
      let then = driven q (drive_of b) ss in
      let itself : SameDrivers then then = drivers-left then (driven q (drive_of b) rs) (driven_same q (drive_of b) ss rs (drivers-flip rs ss h)) in
      drivers-trans (driven_all q bs (driven q (drive_of b) (driven p o rs))) (driven_all q bs (driven p o then)) (driven p o (driven_all q bs then))
      (all_same q bs (driven q (drive_of b) (driven p o rs)) (driven p o then) (either o (drive_of b) rs ss h)) (one_past o bs then then itself)

  pub all-past : (as_ bs : List Act) (rs ss : List Driven) → SameDrivers rs ss → SameDrivers (driven_all q bs (driven_all p as_ rs)) (driven_all p as_ (driven_all q bs ss))
  all-past [] bs rs ss h = all_same q bs rs ss h
  all-past (a ∷ as_) bs rs ss h =
      let then = driven p (drive_of a) rs in
      let itself : SameDrivers then then = drivers-left then (driven p (drive_of a) ss) (driven_same p (drive_of a) rs ss h) in
      drivers-trans (driven_all q bs (driven_all p as_ then)) (driven_all p as_ (driven_all q bs then)) (driven_all p as_ (driven p (drive_of a) (driven_all q bs ss)))
      (all-past as_ bs then then itself) (all_same p as_ (driven_all q bs then) (driven p (drive_of a) (driven_all q bs ss)) (one_past (drive_of a) bs rs ss h))

-- ---- all else

processes_acted : (p : ℕ) (c : Config) (a : Act) → (acted p c a).processes ≡ c.processes
processes_acted p c (act.stores v y) = refl
processes_acted p c (act.fills m bytes) = refl
processes_acted p c (act.writes n y) = refl
processes_acted p c (act.drives n y) = refl
processes_acted p c (act.takes n) = refl
processes_acted p c (act.gives n y) = refl
processes_acted p c (act.notifies e w) = refl
processes_acted p c (act.cancels e) = refl
processes_acted p c (act.keeps n k) = refl
processes_acted p c (act.sets_global t) = refl

processes_all : (p : ℕ) (c : Config) (log : List Act) → (acted_all p c log).processes ≡ c.processes
processes_all p c [] = refl
processes_all p c (a ∷ log) = processes_all p (acted p c a) log ∙ processes_acted p c a

shared_acted : (p : ℕ) (c : Config) (a : Act) → shared_in (acted p c a) ≡ acted p (shared_in c) a
shared_acted p c (act.stores v y) = refl
shared_acted p c (act.fills m bytes) = refl
shared_acted p c (act.writes n y) = refl
shared_acted p c (act.drives n y) = refl
shared_acted p c (act.takes n) = refl
shared_acted p c (act.gives n y) = refl
shared_acted p c (act.notifies e w) = refl
shared_acted p c (act.cancels e) = refl
shared_acted p c (act.keeps n k) = refl
shared_acted p c (act.sets_global t) = refl

shared_all : (p : ℕ) (c : Config) (log : List Act) → shared_in (acted_all p c log) ≡ acted_all p (shared_in c) log
shared_all p c [] = refl
shared_all p c (a ∷ log) = shared_all p (acted p c a) log ∙ ap (λ (e : Config). acted_all p e log) (shared_acted p c a)

module _ (c x : Config) (h : Same c x) where
  same_from : (e y : Config) → e.processes ≡ c.processes → y.processes ≡ x.processes → shared_in y ≡ shared_in e → SameDrivers e.channels.resolved y.channels.resolved → Same e y
  same_from e y here there shared drivers = record {
    alike = record {
      instances = λ r. ap (λ (k : Processes). option_map unnumbered (slice_get k.instances r)) there ∙ h.alike.instances r ∙ sym (ap (λ (k : Processes). option_map unnumbered (slice_get k.instances r)) here);
      runnable = λ r. ap (λ (k : Processes). holds k.runnable r) there ∙ h.alike.runnable r ∙ sym (ap (λ (k : Processes). holds k.runnable r) here);
      stack = ap (λ (k : Processes). k.stack) there ∙ h.alike.stack ∙ sym (ap (λ (k : Processes). k.stack) here);
      values = value-at e.channels.resolved y.channels.resolved drivers;
      shared = shared;
    };
    drivers = drivers;
  }

  by_lists : (e y : Config) (rs ss : List Driven) → e.channels.resolved ≡ rs → y.channels.resolved ≡ ss → SameDrivers rs ss → SameDrivers e.channels.resolved y.channels.resolved
  by_lists e y rs ss here there k = subst (λ ts. SameDrivers ts y.channels.resolved) (sym here) (subst (SameDrivers rs) (sym there) k)

  -- the same acts in both
  pub acts-same : (p : ℕ) (log : List Act) → Same (acted_all p c log) (acted_all p x log)
  acts-same p log =
      same_from (acted_all p c log) (acted_all p x log) (processes_all p c log) (processes_all p x log)
      (shared_all p x log ∙ ap (λ (e : Config). acted_all p e log) h.alike.shared ∙ sym (shared_all p c log))
      (by_lists (acted_all p c log) (acted_all p x log) (driven_all p log c.channels.resolved) (driven_all p log x.channels.resolved) (resolved-all p c log) (resolved-all p x log)
      (all_same p log c.channels.resolved x.channels.resolved h.drivers))

  -- those of two processes in either order, which leave the same but for drivers
  pub either-same : (p q : ℕ) → p ≢ q → (mine other : List Act) → without_drivers (acted_all q (acted_all p c mine) other) ≡ without_drivers (acted_all p (acted_all q c other) mine)
      → Same (acted_all q (acted_all p c mine) other) (acted_all p (acted_all q x other) mine)
  either-same p q apart mine other undriven =
      same_from (acted_all q (acted_all p c mine) other) (acted_all p (acted_all q x other) mine)
      (processes_all q (acted_all p c mine) other ∙ processes_all p c mine) (processes_all p (acted_all q x other) mine ∙ processes_all q x other)
      (behind x ∙ ap (λ (e : Config). acted_all p (acted_all q e other) mine) h.alike.shared ∙ sym (behind c) ∙ ap shared_in (sym undriven))
      (by_lists (acted_all q (acted_all p c mine) other) (acted_all p (acted_all q x other) mine) (driven_all q other (driven_all p mine c.channels.resolved)) (driven_all p mine (driven_all q other x.channels.resolved))
      (resolved-all q (acted_all p c mine) other ∙ ap (driven_all q other) (resolved-all p c mine)) (resolved-all p (acted_all q x other) mine ∙ ap (driven_all p mine) (resolved-all q x other))
      (all-past p q apart mine other c.channels.resolved x.channels.resolved h.drivers))
    where
      behind : (k : Config) → shared_in (acted_all p (acted_all q k other) mine) ≡ acted_all p (acted_all q (shared_in k) other) mine
      behind k = shared_all p (acted_all q k other) mine ∙ ap (λ (e : Config). acted_all p e mine) (shared_all q k other)
