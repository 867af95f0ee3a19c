-- Which call of a transaction is open, by its words.
use Rattle.std.proofs.Common.{◌≡◌, ℕ, true, List, refl, ap}
use Rattle.std.specs.Prelude.{◌↔◌}
use Rattle.transport_phases.specs.declared.transaction.Open.{Open}
use Rattle.transport_phases.specs.declared.transaction.Open.TheVariants.{Nothing, NonBlocking, Blocking}
use Rattle.transport_phases.specs.Phases.{is_open_nb, is_open_b}
use Rattle.transport_phases.specs.History.{Entry, is_open}
use Rattle.transport_phases.specs.Words.{Letter, letters_of}
use Rattle.transport_phases.specs.Lawful.{IsWithin, Lawful}
use Rattle.transport_phases.specs.Order.{begins_call, ends_call, begins_blocking, ends_blocking}
use Rattle.transport_phases.proofs.Places.{Place, call_at, Step, blocked}
use Rattle.transport_phases.proofs.Overlaps.{still}
use Rattle.transport_phases.proofs.Moments.{test_within}

open_step : (p q : Place) (l : Letter) → Step p l q
    → still begins_call ends_call (is_open_nb (call_at p)) l ≡ is_open_nb (call_at q)
open_step p q l blocked = refl
open_step p q l _ = refl

blocked_step : (p q : Place) (l : Letter) → Step p l q
    → still begins_blocking ends_blocking (is_open_b (call_at p)) l ≡ is_open_b (call_at q)
blocked_step p q l blocked = refl
blocked_step p q l _ = refl

is_nb : (o : Open) → is_open_nb o ≡ true → o ≡ NonBlocking
is_nb Nothing is = cc
is_nb NonBlocking is = refl
is_nb Blocking is = cc

is_b : (o : Open) → is_open_b o ≡ true → o ≡ Blocking
is_b Nothing is = cc
is_b NonBlocking is = cc
is_b Blocking is = refl

pub open_by_words : (h : List Entry) → Lawful h → (t : ℕ)
    → (is_open h t ≡ NonBlocking) ↔ IsWithin begins_call ends_call (letters_of h t)
open_by_words h l t =
    let same = test_within begins_call ends_call (λ k. is_open_nb k.call) refl open_step h t (l.words t) in
    (λ is. same.0 (ap is_open_nb is), λ within. is_nb (is_open h t) (same.1 within))

pub blocked_by_words : (h : List Entry) → Lawful h → (t : ℕ)
    → (is_open h t ≡ Blocking) ↔ IsWithin begins_blocking ends_blocking (letters_of h t)
blocked_by_words h l t =
    let same = test_within begins_blocking ends_blocking (λ k. is_open_b k.call) refl blocked_step h t (l.words t) in
    (λ is. same.0 (ap is_open_b is), λ within. is_b (is_open h t) (same.1 within))
