-- In a design that keeps the rule on the order of processes each statement that a process reaches is one that it may do, and no process is
-- sensitive to the end or the reset of one.
use Rattle.std.proofs.Common.{◌≡◌, ℕ, zero, List, [], ◌∷◌, ◌++◌, Contains, slice_get, Some, refl, arith}
use Rattle.std.specs.Prelude.{⊤}
use Rattle.std.specs.List.{flat_map}
use Rattle.std.proofs.lemmas.List.Elements.{Contains-append_left, Contains-append_right}
use Rattle.sim_model.specs.EventCore.declared.event.Ev.{Ev}
use Rattle.sim_model.specs.EventCore.declared.event.Ev.TheVariants as ev
use Rattle.sim_model.specs.FlatDesign.Code as code
use Rattle.sim_model.specs.FlatDesign.Code.{EventTerm, AwaitTerm, Statement}
use Rattle.sim_model.specs.FlatDesign.Typed.{EachOf}
use Rattle.sim_model.specs.FlatDesign.declared.names.EventMember.{EventMember}
use Rattle.sim_model.specs.FlatDesign.declared.names.EventMember.TheVariants as event
use Rattle.sim_model.specs.FlatDesign.declared.design.ProcessPart.{ProcessPart}
use Rattle.sim_model.specs.FlatDesign.declared.design.Design.{Design}
use Rattle.order_free.specs.declared.uses.Deed.{Deed}
use Rattle.order_free.specs.declared.uses.Deed.TheVariants as deed
use Rattle.order_free.specs.declared.uses.Use.{Use}
use Rattle.order_free.specs.declared.uses.Use.TheVariants as used
use Rattle.order_free.specs.Uses.{deeds_of_name, deeds_of_written, deeds_of_event_member, deeds_of_event, deeds_of, uses_of_deed}
use Rattle.order_free.specs.Free.{by_statement, by_sensitivity, Free}
use Rattle.laws_order.specs.Fits.{IsFixed}
use Rattle.laws_order.proofs.Blocks.{each-from}
use Rattle.laws_order.proofs.OwnUnheard.{StaticsFixed}
use Rattle.laws_order.proofs.Hearing.{IsFixedMember, IsFixedName, NamesFixed}
use Rattle.laws_order.proofs.OwnForms.{MayDo}
use Rattle.laws_order.proofs.OwnTurning.{EachMayDo}

-- ---- deeds that the rule leaves to whoever likes

abbrev IsFit : Deed → Type 0
IsFit deed.Unfit = ⊥
IsFit deed.Watches = ⊥
IsFit deed.Quantum = ⊤
IsFit (deed.Keeps n) = ⊤
IsFit (deed.Writes n) = ⊤
IsFit (deed.Reads n) = ⊤
IsFit (deed.Notifies n) = ⊤
IsFit (deed.Cancels n) = ⊤

each_left : (xs ys : List Deed) → EachOf IsFit (xs ++ ys) → EachOf IsFit xs
each_left [] ys h = tt
each_left (x ∷ xs) ys h = (h.0, each_left xs ys h.1)

each_right : (xs ys : List Deed) → EachOf IsFit (xs ++ ys) → EachOf IsFit ys
each_right [] ys h = h
each_right (x ∷ xs) ys h = each_right xs ys h.1

member_fixed : (e : EventMember) → EachOf IsFit (deeds_of_event_member e) → IsFixedMember e
member_fixed event.Own h = tt
member_fixed event.Posedge h = tt
member_fixed event.Negedge h = tt
member_fixed event.DataWritten h = tt
member_fixed event.DataRead h = tt
member_fixed event.Terminated h = h.0
member_fixed event.Reset h = h.0

names_fixed : (es : List EventTerm) → EachOf IsFit (flat_map deeds_of_event es) → EachOf IsFixedName es
names_fixed [] h = tt
names_fixed (e ∷ es) h = (
  member_fixed e.event (each_right (deeds_of_name e.event_name ++ deeds_of_written e.place) (deeds_of_event_member e.event) (each_left (deeds_of_event e) (flat_map deeds_of_event es) h)),
  names_fixed es (each_right (deeds_of_event e) (flat_map deeds_of_event es) h),
)

await_fixed : (w : AwaitTerm) → EachOf IsFit (deeds_of (code.wait w)) → NamesFixed w
await_fixed code.static h = tt
await_fixed code.delta h = tt
await_fixed (code.for_ e) h = tt
await_fixed (code.any es t) h = names_fixed es (each_left (flat_map deeds_of_event es) (deeds_of_written t) h)
await_fixed (code.all es t) h = names_fixed es (each_left (flat_map deeds_of_event es) (deeds_of_written t) h)

may_do : (x : Statement) → EachOf IsFit (deeds_of x) → MayDo x
may_do (code.assign (code.to_name x) e) h = tt
may_do (code.assign (code.to_field k f) e) h = h.0
may_do (code.assign (code.to_element k index) e) h = tt
may_do (code.assign (code.to_payload_byte k b index) e) h = h.0
may_do (code.trylock x ch) h = h.0
may_do (code.unlock x ch) h = h.0
may_do (code.sem_trywait x ch) h = h.0
may_do (code.nb_transport x s k phase delay) h = h.0
may_do (code.notify k) h = h.0
may_do (code.wait w) h = await_fixed w h
may_do (code.next_trigger w) h = await_fixed w h
may_do (code.lock ch) h = h.0
may_do (code.sem_wait ch) h = h.0
may_do (code.post ch) h = h.0
may_do (code.make k e m) h = h.0
may_do (code.acquire k) h = h.0
may_do (code.release k) h = h.0
may_do (code.carry k m) h = h.0
may_do (code.b_transport s k delay) h = h.0
may_do (code.spawn x) h = h.0
may_do (code.control k who all) h = h.0
may_do (code.throw_it who e all) h = h.0
may_do code.stop h = h.0
may_do other h = tt

-- ---- the rule leaves no others

first_one : (u : Use) (us : List Use) → Contains (u ∷ us) u
first_one u us = Contains-append_left (u ∷ []) us u (zero, omega arith, refl)

module _ (d : Design) (home : ℕ) where
  abbrev uses : List Deed → List Use
  uses ds = flat_map (uses_of_deed d home) ds

  is_fit : (x : Deed) → (Contains (uses_of_deed d home x) used.Unfit → ⊥) → (Contains (uses_of_deed d home x) used.Watches → ⊥) → IsFit x
  is_fit deed.Unfit acts watches = acts (first_one used.Unfit [])
  is_fit deed.Watches acts watches = watches (first_one used.Watches [])
  is_fit deed.Quantum acts watches = tt
  is_fit (deed.Keeps n) acts watches = tt
  is_fit (deed.Writes n) acts watches = tt
  is_fit (deed.Reads n) acts watches = tt
  is_fit (deed.Notifies n) acts watches = tt
  is_fit (deed.Cancels n) acts watches = tt

  each_fit : (ds : List Deed) → (Contains (uses ds) used.Unfit → ⊥) → (Contains (uses ds) used.Watches → ⊥) → EachOf IsFit ds
  each_fit [] acts watches = tt
  each_fit (x ∷ ds) acts watches = (
    is_fit x (λ there. acts (Contains-append_left (uses_of_deed d home x) (uses ds) used.Unfit there)) (λ there. watches (Contains-append_left (uses_of_deed d home x) (uses ds) used.Watches there)),
    each_fit ds (λ there. acts (Contains-append_right (uses_of_deed d home x) (uses ds) used.Unfit there)) (λ there. watches (Contains-append_right (uses_of_deed d home x) (uses ds) used.Watches there)),
  )

module _ (d : Design) (free : Free d) where
  pub may-do : (p : ℕ) → EachMayDo d p
  may-do p n x own found =
      let r = own x found in
      may_do x (each_fit d r.part.home (deeds_of x)
      (λ there. free.acts p (by_statement r.part r.body x r.found r.begins r.reached there))
      (λ there. free.watches p (by_statement r.part r.body x r.found r.begins r.reached there)))

  is_fixed : (q : ℕ) (part : ProcessPart) → slice_get d.processes q ≡ Some part → (e : Ev) → Contains part.sensitive e → IsFixed e
  is_fixed q part found (ev.Fixed n) there = tt
  is_fixed q part found (ev.Terminated r) there = free.watches q (by_sensitivity part (ev.Terminated r) found there (first_one used.Watches []))
  is_fixed q part found (ev.Restarted r) there = free.watches q (by_sensitivity part (ev.Restarted r) found there (first_one used.Watches []))

  pub statics-fixed : StaticsFixed d
  statics-fixed q part found = each-from IsFixed part.sensitive (is_fixed q part found)
