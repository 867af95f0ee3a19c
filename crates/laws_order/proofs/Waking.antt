-- What an event or the end of a time wakes, in two configurations that are the same.
use Rattle.std.proofs.Common.{◌≡◌, ◌||◌, ℕ, suc, true, List, [], ◌∷◌, map, Option, Some, None, option_map, refl, sym, ap, ◌∙◌, subst}
use Rattle.std.proofs.lemmas.Option.{none-some, same_Some}
use Rattle.sim_model.specs.EventCore.declared.event.Ev.{Ev}
use Rattle.sim_model.specs.Configuration.{Config, Instance, Wait, waits_for_nothing, waits_statically, waits_for_any, waits_for_all, instance_at}
use Rattle.sim_model.specs.Waits.{is_among, holds, struck, freed, is_active, joined, woken, wake_instance, wake, left_of_all, reaches, reach_instance, fire_each, fire, fire_all, wake_all}
use Rattle.laws_order.specs.Sees.{unnumbered}
use Rattle.laws_order.specs.Same.{Same}
use Rattle.laws_order.proofs.SameLists.{mapped, joined-holds}
use Rattle.laws_order.proofs.Moves.{by-test, by-tests, plain, change-same, runnable-same}

-- ---- a wake

woken_same : (c x : Config) (p : ℕ) (i j : Instance) → unnumbered j ≡ unnumbered i → Same c x → Same (woken c p i) (woken x p j)
woken_same c x p i j same h =
    by-tests i.suspended j.suspended _ _ _ _ (ap (λ (k : Instance). k.suspended) same) (change-same c x p (λ k. record (freed k) { kept = true }) (plain (λ k. record (freed k) { kept = true }) (λ k. refl)) h)
    (runnable-same c x p freed (joined c.processes.runnable p) (joined x.processes.runnable p) (plain freed (λ k. refl)) (joined-holds c.processes.runnable x.processes.runnable p h.alike.runnable) h)

woken_at : (c x : Config) (p : ℕ) (o r : Option Instance) → option_map unnumbered r ≡ option_map unnumbered o → Same c x → Same (wake_instance c p o) (wake_instance x p r)
woken_at c x p None None same h = h
woken_at c x p None (Some j) same h = absurd (none-some (unnumbered j) (sym same))
woken_at c x p (Some i) None same h = absurd (none-some (unnumbered i) same)
woken_at c x p (Some i) (Some j) same h =
    let one = same_Some (unnumbered j) (unnumbered i) same in
    by-tests ((i.ended || is_active c p) || i.disabled) ((j.ended || is_active x p) || j.disabled) c (woken c p i) x (woken x p j)
    (ap (λ (k : Instance). (k.ended || is_active x p) || k.disabled) one ∙ ap (λ ps. (i.ended || holds ps p) || i.disabled) h.alike.stack) h (woken_same c x p i j one h)

pub wake-same : (c x : Config) (p : ℕ) → Same c x → Same (wake c p) (wake x p)
wake-same c x p h = woken_at c x p (instance_at c p) (instance_at x p) (h.alike.instances p) h

pub wakes-same : (ps : List ℕ) (c x : Config) → Same c x → Same (wake_all ps c) (wake_all ps x)
wakes-same [] c x h = h
wakes-same (p ∷ ps) c x h = wakes-same ps (wake c p) (wake x p) (wake-same c x p h)

-- ---- an event

left_same : (c x : Config) (p : ℕ) (es : List Ev) → Same c x → Same (left_of_all c p es) (left_of_all x p es)
left_same c x p [] h = wake-same c x p h
left_same c x p (e ∷ es) h = change-same c x p (λ k. record k { wait = waits_for_all (e ∷ es) }) (plain (λ k. record k { wait = waits_for_all (e ∷ es) }) (λ k. refl)) h

reaches_same : (c x : Config) (e : Ev) (p : ℕ) (i j : Instance) → unnumbered j ≡ unnumbered i → (w : Wait) → Same c x → Same (reaches c e p i w) (reaches x e p j w)
reaches_same c x e p i j same waits_for_nothing h = h
reaches_same c x e p i j same waits_statically h = by-tests (is_among e i.static) (is_among e j.static) (wake c p) c (wake x p) x (ap (λ (k : Instance). is_among e k.static) same) (wake-same c x p h) h
reaches_same c x e p i j same (waits_for_any es) h = by-test (is_among e es) (wake c p) c (wake x p) x (wake-same c x p h) h
reaches_same c x e p i j same (waits_for_all es) h = by-test (is_among e es) (left_of_all c p (struck e es)) c (left_of_all x p (struck e es)) x (left_same c x p (struck e es) h) h

reached_at : (c x : Config) (e : Ev) (p : ℕ) (o r : Option Instance) → option_map unnumbered r ≡ option_map unnumbered o → Same c x → Same (reach_instance c e p o) (reach_instance x e p r)
reached_at c x e p None None same h = h
reached_at c x e p None (Some j) same h = absurd (none-some (unnumbered j) (sym same))
reached_at c x e p (Some i) None same h = absurd (none-some (unnumbered i) same)
reached_at c x e p (Some i) (Some j) same h =
    let one = same_Some (unnumbered j) (unnumbered i) same in
    by-tests i.disabled j.disabled c (reaches c e p i i.wait) x (reaches x e p j j.wait) (ap (λ (k : Instance). k.disabled) one) h
    (subst (λ w. Same (reaches c e p i i.wait) (reaches x e p j w)) (sym (ap (λ (k : Instance). k.wait) one)) (reaches_same c x e p i j one i.wait h))

each_same : (e : Ev) (p : ℕ) (is : List Instance) (c x : Config) → Same c x → Same (fire_each e p is c) (fire_each e p is x)
each_same e p [] c x h = h
each_same e p (i ∷ is) c x h =
    each_same e (suc p) is (reach_instance c e p (instance_at c p)) (reach_instance x e p (instance_at x p)) (reached_at c x e p (instance_at c p) (instance_at x p) (h.alike.instances p) h)

each_mapped : (e : Ev) (p : ℕ) (is : List Instance) (c : Config) → fire_each e p (map unnumbered is) c ≡ fire_each e p is c
each_mapped e p [] c = refl
each_mapped e p (i ∷ is) c = each_mapped e (suc p) is (reach_instance c e p (instance_at c p))

pub fire-same : (c x : Config) (e : Ev) → Same c x → Same (fire c e) (fire x e)
fire-same c x e h =
    subst (Same (fire c e))
    (sym (each_mapped e 0 c.processes.instances x) ∙ ap (λ is. fire_each e 0 is x) (sym (mapped unnumbered c.processes.instances x.processes.instances h.alike.instances)) ∙ each_mapped e 0 x.processes.instances x)
    (each_same e 0 c.processes.instances c x h)

pub fires-same : (es : List Ev) (c x : Config) → Same c x → Same (fire_all es c) (fire_all es x)
fires-same [] c x h = h
fires-same (e ∷ es) c x h = fires-same es (fire c e) (fire x e) (fire-same c x e h)
