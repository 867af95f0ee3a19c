-- Other rooms change neither what blocks hold nor what they reach.
use Rattle.std.proofs.Common.{◌≡◌, ℕ, List, map, Option, Some, None, refl, sym, ap, ◌∙◌, subst}
use Rattle.std.specs.Prelude.{slice_get, option_map}
use Rattle.std.proofs.lemmas.Option.{slice_get-map}
use Rattle.model_rules.specs.FlatDesign.Code.{Arena, Statement, arena_of, statement_of, body_at}
use Rattle.model_rules.specs.FlatDesign.Reach as reach
use Rattle.model_rules.specs.FlatDesign.Reach.{Inside, itself, deeper, IsIn, Holds, Reached, inner_blocks}
use Rattle.model_rules.specs.FlatDesign.declared.code.CodeBody.{CodeBody}
use Rattle.model_rules.specs.FlatDesign.declared.code.Code.{Code}
use Rattle.code_rules.specs.Rooms.{IsNested, without_room, DiffersInRooms}

-- other bodies change nothing in blocks
module _ (a : Arena) (bodies : List CodeBody) where
  pub is_in_still : (b : ℕ) (s : Statement) → IsIn a b s → IsIn (record a { bodies = bodies }) b s
  is_in_still b s x = record { number = x.number; listed_there = x.listed_there; found = x.found }

  pub inside_still : (b j : ℕ) → Inside a b j → Inside (record a { bodies = bodies }) b j
  inside_still b _ (itself _) = itself b
  inside_still b _ (deeper _ k j s i stands has) = deeper b k j s (inside_still b k i) (is_in_still k s stands) has

  pub holds_still : (b : ℕ) (s : Statement) → Holds a b s → Holds (record a { bodies = bodies }) b s
  holds_still b s x = record { block = x.block; inside = inside_still b x.block x.inside; stands = is_in_still x.block s x.stands }

option_mapped : {A B : Type 0} (w : A → B) (o : Option A) (y : B) → option_map w o ≡ Some y → (x : A) × (o ≡ Some x) × (w x ≡ y)
option_mapped w None y e = cc
option_mapped w (Some x) y e = (x, refl, cc)

-- what stands at a place of a list that was mapped
pub mapped_at : {A B : Type 0} (w : A → B) (xs : List A) (k : ℕ) (y : B) → slice_get (map w xs) k ≡ Some y → (x : A) × (slice_get xs k ≡ Some x) × (w x ≡ y)
mapped_at w xs k y e = option_mapped w (slice_get xs k) y (sym (slice_get-map w xs k) ∙ e)

pub differs_back : (before after : Code) → DiffersInRooms before after → DiffersInRooms after before
differs_back before after d = record { blocks = sym d.blocks; statements = sym d.statements; bodies = sym d.bodies }

module _ (before after : Code) (d : DiffersInRooms before after) where
  pub arena_is : arena_of after ≡ record (arena_of before) { bodies = after.bodies }
  arena_is = λ i. record { bodies = after.bodies; blocks = d.blocks i; statements = map statement_of (d.statements i) }

  pub body_still : (f : ℕ) (b : CodeBody) → body_at (arena_of before) f ≡ Some b → (room : ℕ) × (body_at (arena_of after) f ≡ Some (record b { room = room }))
  body_still f b found =
      let same : slice_get (map without_room after.bodies) f ≡ Some (without_room b) =
      ap (λ bs. slice_get bs f) d.bodies ∙ slice_get-map without_room before.bodies f ∙ ap (option_map without_room) found in
      let w = mapped_at without_room after.bodies f (without_room b) same in
      (w.0.room, w.1 ∙ ap (λ (x : CodeBody). Some (record x { room = w.0.room })) w.2)

  pub stands_still : (b : ℕ) (s : Statement) → IsIn (arena_of before) b s → IsIn (arena_of after) b s
  stands_still b s x = subst (λ a. IsIn a b s) (sym arena_is) (is_in_still (arena_of before) after.bodies b s x)

  pub holds_so : (b : ℕ) (s : Statement) → Holds (arena_of before) b s → Holds (arena_of after) b s
  holds_so b s x = subst (λ a. Holds a b s) (sym arena_is) (holds_still (arena_of before) after.bodies b s x)

  pub reached_still : (b : ℕ) (s : Statement) → Reached (arena_of before) b s → Reached (arena_of after) b s
  reached_still _ _ (reach.here b s x) = reach.here b s (holds_so b s x)
  reached_still _ _ (reach.through b f to arguments body s call found more) =
      let w = body_still f body found in
      reach.through b f to arguments (record body { room = w.0 }) s (holds_so b _ call) w.1 (reached_still body.block s more)

pub nested_still : (before after : Code) → DiffersInRooms before after → IsNested (arena_of before) → IsNested (arena_of after)
nested_still before after d nested b j s x has = nested b j s (stands_still after before (differs_back before after d) b s x) has
