-- What room was made changes.
use Rattle.std.proofs.Common.{◌≡◌, ℕ, ◌≤◌, ◌≢◌, max, Some, ap, ◌∙◌, refl, arith}
use Rattle.std.specs.Prelude.{Result, Ok, Err, OnOk, OnErr, is_some, unwrap_or}
use Rattle.std.specs.FinMap as maps
use Rattle.wait_lists.specs.Waits.{Waits, with_room, room_for, HasRoom}
use Rattle.numbered_slots.proofs.MapLemmas.{get-updated_same, get-updated_other}

module _ (old new : Waits) (p items : ℕ) where
  module _ (is : new ≡ with_room old p (max items (room_for old p))) where
    room_now : room_for new p ≡ max items (room_for old p)
    room_now = ap (λ w. room_for w p) is ∙ ap (λ o. unwrap_or o 0) (get-updated_same old.room p (Some (max items (room_for old p))) p refl)

    pub has_room : HasRoom new p items
    has_room = (ap (λ w. maps.contains_key w.room p) is ∙ ap is_some (get-updated_same old.room p (Some (max items (room_for old p))) p refl), omega (arith, room_now))

  module _ {A E : Type 0} where
    pub room_grows : (r : Result A E) → OnOk r (new ≡ with_room old p (max items (room_for old p))) → OnErr r (new ≡ old) → room_for old p ≤ room_for new p
    room_grows (Ok x) made same = omega (arith, room_now made)
    room_grows (Err e) made same = omega (arith, ap (λ w. room_for w p) same)

    pub others_stay : (r : Result A E) → OnOk r (new ≡ with_room old p (max items (room_for old p))) → OnErr r (new ≡ old) → (q : ℕ) → q ≢ p → maps.get new.room q ≡ maps.get old.room q
    others_stay (Ok x) made same q apart = ap (λ w. maps.get w.room q) made ∙ get-updated_other old.room p (Some (max items (room_for old p))) q apart
    others_stay (Err e) made same q apart = ap (λ w. maps.get w.room q) same
