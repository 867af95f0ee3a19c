-- What code keeps when its bodies get their rooms.
use Rattle.std.proofs.Common.{◌≡◌, ℕ, Some}
use Rattle.flat_design.specs.Code.{Statement, arena_of, body_at}
use Rattle.flat_design.specs.Reach.{Inside, itself, deeper, Holds, IsIn}
use Rattle.flat_design.specs.declared.code.Code.{Code}
use Rattle.flat_design.specs.declared.code.CodeBody.{CodeBody}
use Rattle.model_check.specs.Parts.{AllStand}
use Rattle.code_blocks.specs.LawsCode.OwnBlocks.{HaveOwnBlocks}

-- each statement of a block still stands in a body
module _
    (before after : Code)
    (stands : (b : ℕ) (s : Statement) → IsIn (arena_of after) b s → IsIn (arena_of before) b s)
    (holds : (b : ℕ) (s : Statement) → Holds (arena_of before) b s → Holds (arena_of after) b s)
    (bodies : (f : ℕ) (b : CodeBody) → body_at (arena_of before) f ≡ Some b → (room : ℕ) × (body_at (arena_of after) f ≡ Some (record b { room = room })))
  where
    pub still_stand : AllStand before → AllStand after
    still_stand all = λ b s is.
        let there = all b s (stands b s is) in
        let same = bodies there.function there.body there.found in
        record { function = there.function; body = record there.body { room = same.0 }; found = same.1; stands = holds there.body.block s there.stands }

-- no block stands inside two bodies
module _
    (before after : Code)
    (stands : (b : ℕ) (s : Statement) → IsIn (arena_of after) b s → IsIn (arena_of before) b s)
    (bodies : (f : ℕ) (b : CodeBody) → body_at (arena_of after) f ≡ Some b → (room : ℕ) × (body_at (arena_of before) f ≡ Some (record b { room = room })))
  where
    inside_before : (b j : ℕ) → Inside (arena_of after) b j → Inside (arena_of before) b j
    inside_before b _ (itself _) = itself b
    inside_before b j (deeper _ k _ s inside is inner) = deeper b k j s (inside_before b k inside) (stands k s is) inner

    pub still_apart : HaveOwnBlocks before → HaveOwnBlocks after
    still_apart apart f g x y n at_f at_g in_x in_y =
        let v = bodies f x at_f in
        let w = bodies g y at_g in
        apart f g (record x { room = v.0 }) (record y { room = w.0 }) n v.1 w.1 (inside_before x.block n in_x) (inside_before y.block n in_y)
