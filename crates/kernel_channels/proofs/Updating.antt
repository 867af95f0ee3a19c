-- What an update of a bank leaves.
use Rattle.std.proofs.Common.{◌≡◌, ℕ, Bool, false, List, [], ◌∷◌, ◌++◌, map, length, replicate, refl, sym, ap, ◌∙◌, subst, arith}
use Rattle.std.specs.Prelude.{vec_capacity, vec_items}
use Rattle.std.specs.Global.{Vec}
use Rattle.std.specs.Vec.{with_items}
use Rattle.std.proofs.lemmas.List.{length-map, length-replicate, with_items_is}
use Rattle.kernel_events.specs.EventCore.declared.notifications.Pending.{Pending}
use Rattle.kernel_events.specs.NumberedSlots.Places.{marked_places}
use Rattle.kernel_events.specs.SignalChannel.Signals.{settled, change_of}
use Rattle.kernel_events.specs.SignalChannel.Drivers.{Driven, resettled}
use Rattle.kernel_events.specs.SignalChannel.declared.signal.Signal.{Signal}
use Rattle.kernel_events.specs.FifoSync.Fifos.{Queued, after_update}
use Rattle.kernel_events.specs.FlatDesign.declared.design.SignalPart.{SignalPart}
use Rattle.kernel_events.specs.FlatDesign.declared.design.ResolvedPart.{ResolvedPart}
use Rattle.kernel_events.specs.FlatDesign.declared.design.FifoPart.{FifoPart}
use Rattle.kernel_events.specs.SimModel.Phases.{resettled_all, resolved_changes}
use Rattle.kernel_channels.specs.Announced.{told_by_signals, told_by_resolved, told_by_fifos}
use Rattle.kernel_channels.specs.UpdateMarks.{Rests, HasRoom, ListsAsked, asked_of, IsSignals, IsWires, IsFifos, wire_change, fifo_change, items_after, marks_after, events_after}
use Rattle.kernel_channels.proofs.Walked.{items_all, marks_all, events_all}
use Rattle.kernel_channels.proofs.Resting.{as_many, rests_all, updated_all, changed_all, settled_again}
use Rattle.kernel_channels.proofs.AskedLists.{lists_none, none_asked}
use Rattle.kernel_channels.proofs.Telling.{signal_quiet, signals_told, fifos_told, wires_told, wires_updated, wires_changed}
use Rattle.kernel_channels.proofs.Changing.{room_again}

-- ---- the numbers that are visited

pub visited_are : (visited : Vec ℕ) (n : ℕ) (marks : List Bool) (out ns : List ℕ) → HasRoom n visited → out ≡ visited.items ++ marked_places marks → ns ≡ out → ns ≡ marked_places marks
visited_are visited n marks out ns has moved is = is ∙ moved ∙ ap (λ xs. xs ++ marked_places marks) has.none

-- ---- signals

module _ (ss : List Signal) (asked : Vec ℕ) (cs : List Bool) (sound : IsSignals ss asked cs) (ns : List ℕ) (ss' : List Signal) (all : ns ≡ marked_places (asked_of ss)) (same : ss' ≡ ss) where
  many_asked : length (asked_of ss) ≡ length ss
  many_asked = as_many settled ss (asked_of ss) sound.rests

  pub signals_left : (new : List Signal) → new ≡ items_after settled ns ss' → new ≡ map settled ss
  signals_left new is = is ∙ (λ i. items_after settled (all i) (same i)) ∙ items_all settled ss (asked_of ss) many_asked ∙ updated_all settled ss (asked_of ss) sound.rests

  pub signals_marked : (clear new : List Bool) → clear ≡ replicate (length cs) false → new ≡ marks_after settled change_of ns ss' clear → new ≡ map (λ (s : Signal). (change_of s).changed) ss
  signals_marked clear new none is =
      is ∙ (λ i. marks_after settled change_of (all i) (same i) ((none ∙ ap (λ k. replicate k false) sound.changed) i))
      ∙ marks_all settled change_of ss (asked_of ss) many_asked ∙ changed_all settled change_of signal_quiet ss (asked_of ss) sound.rests

  pub signals_announced : (ps : List SignalPart) (events new : List Pending) → new ≡ events_after settled change_of ns (map (λ (p : SignalPart). p.events) ps) ss' events → new ≡ told_by_signals ps ss events
  signals_announced ps events new is =
      is ∙ (λ i. events_after settled change_of (all i) (map (λ (p : SignalPart). p.events) ps) (same i) events)
      ∙ events_all settled change_of ss (asked_of ss) (map (λ (p : SignalPart). p.events) ps) events many_asked ∙ signals_told ps ss (asked_of ss) events sound.rests

  pub signals_sound : (new : List Signal) (asked' : Vec ℕ) (cs' : List Bool) → new ≡ map settled ss → cs' ≡ map (λ (s : Signal). (change_of s).changed) ss
      → asked'.items ≡ [] → vec_capacity asked' ≡ vec_capacity asked → IsSignals new asked' cs'
  signals_sound new asked' cs' left marked empty room = subst (λ xs. IsSignals xs asked' cs') (sym left) (record {
    rests = subst (λ ms. Rests settled (map settled ss) ms) (sym (none_asked ss)) (rests_all settled ss settled_again);
    lists = subst (λ ms. ListsAsked ms asked') (sym (none_asked ss))
        (lists_none (length ss) asked' empty (let enough = sound.lists.room in omega (arith, enough, room, many_asked)));
    changed = ap length marked ∙ length-map ss (λ (s : Signal). (change_of s).changed) ∙ sym (length-map ss settled);
  })

-- ---- resolved signals

pub length-resettled : (rs : List Driven) (bs : List Bool) → length (resettled_all rs bs) ≡ length rs
length-resettled [] bs = refl
length-resettled (r ∷ rs) [] = refl
length-resettled (r ∷ rs) (b ∷ bs) = let rest = length-resettled rs bs in omega (arith, rest)

length-changes : (rs : List Driven) (bs : List Bool) → length (resolved_changes rs bs) ≡ length rs
length-changes [] bs = refl
length-changes (r ∷ rs) [] = let rest = length-changes rs [] in omega (arith, rest)
length-changes (r ∷ rs) (b ∷ bs) = let rest = length-changes rs bs in omega (arith, rest)

module _ (rs : List Driven) (bs cs : List Bool) (visited : Vec ℕ) (sound : IsWires rs bs cs visited) (ns : List ℕ) (rs' : List Driven) (all : ns ≡ marked_places bs) (same : rs' ≡ rs) where
  pub wires_left : (new : List Driven) → new ≡ items_after resettled ns rs' → new ≡ resettled_all rs bs
  wires_left new is = is ∙ (λ i. items_after resettled (all i) (same i)) ∙ items_all resettled rs bs sound.asked ∙ wires_updated rs bs

  pub wires_marked : (clear new : List Bool) → clear ≡ replicate (length cs) false → new ≡ marks_after resettled wire_change ns rs' clear → new ≡ resolved_changes rs bs
  wires_marked clear new none is =
      is ∙ (λ i. marks_after resettled wire_change (all i) (same i) ((none ∙ ap (λ k. replicate k false) sound.changed) i))
      ∙ marks_all resettled wire_change rs bs sound.asked ∙ wires_changed rs bs

  pub wires_announced : (ps : List ResolvedPart) (events new : List Pending) → new ≡ events_after resettled wire_change ns (map (λ (p : ResolvedPart). p.events) ps) rs' events → new ≡ told_by_resolved ps rs bs events
  wires_announced ps events new is =
      is ∙ (λ i. events_after resettled wire_change (all i) (map (λ (p : ResolvedPart). p.events) ps) (same i) events)
      ∙ events_all resettled wire_change rs bs (map (λ (p : ResolvedPart). p.events) ps) events sound.asked ∙ wires_told ps rs bs events

  pub wires_sound : (new : List Driven) (bs' cs' : List Bool) (visited' : Vec ℕ) → new ≡ resettled_all rs bs → bs' ≡ replicate (length bs) false → cs' ≡ resolved_changes rs bs
      → visited'.items ≡ [] → vec_capacity visited' ≡ vec_capacity visited → IsWires new bs' cs' visited'
  wires_sound new bs' cs' visited' left none marked empty room = record {
    asked = ap length none ∙ length-replicate (length bs) false ∙ sound.asked ∙ sym as_before;
    changed = ap length marked ∙ length-changes rs bs ∙ sym as_before;
    visits = room_again (length rs) (length new) visited visited' sound.visits as_before empty room;
  }
    where
      as_before : length new ≡ length rs
      as_before = ap length left ∙ length-resettled rs bs

-- ---- fifos

module _ (qs : List Queued) (bs : List Bool) (visited : Vec ℕ) (sound : IsFifos qs bs visited) (ns : List ℕ) (qs' : List Queued) (all : ns ≡ marked_places bs) (same : qs' ≡ qs) where
  pub fifos_left : (new : List Queued) → new ≡ items_after after_update ns qs' → new ≡ map after_update qs
  fifos_left new is = is ∙ (λ i. items_after after_update (all i) (same i)) ∙ items_all after_update qs bs (as_many after_update qs bs sound.rests) ∙ updated_all after_update qs bs sound.rests

  pub fifos_announced : (ps : List FifoPart) (events new : List Pending) → new ≡ events_after after_update fifo_change ns (map (λ (p : FifoPart). p.events) ps) qs' events → new ≡ told_by_fifos ps qs events
  fifos_announced ps events new is =
      is ∙ (λ i. events_after after_update fifo_change (all i) (map (λ (p : FifoPart). p.events) ps) (same i) events)
      ∙ events_all after_update fifo_change qs bs (map (λ (p : FifoPart). p.events) ps) events (as_many after_update qs bs sound.rests) ∙ fifos_told ps qs bs events sound.rests

  pub fifos_sound : (new : List Queued) (bs' : List Bool) (visited' : Vec ℕ) → new ≡ map after_update qs → bs' ≡ replicate (length bs) false
      → visited'.items ≡ [] → vec_capacity visited' ≡ vec_capacity visited → IsFifos new bs' visited'
  fifos_sound new bs' visited' left none empty room = subst (λ xs. IsFifos xs bs' visited') (sym left) (record {
    rests = subst (λ ms. Rests after_update (map after_update qs) ms) (sym (none ∙ ap (λ k. replicate k false) (as_many after_update qs bs sound.rests))) (rests_all after_update qs (λ q. refl));
    visits = room_again (length qs) (length (map after_update qs)) visited visited' sound.visits (length-map qs after_update) empty room;
  })

-- ---- in the vector that they stand in

pub stands : {A : Type 0} (v : Vec A) (new : List A) → length new ≡ length v.items → vec_items (with_items v new) ≡ new
stands v new many = with_items_is v new (many ∙ sym v.ok.0)
