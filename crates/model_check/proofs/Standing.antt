-- Each statement of a block stands in a body, where each block does.
use Rattle.std.proofs.Common.{◌≡◌, ◌<◌, ◌≤◌, ℕ, zero, suc, List, [], ◌∷◌, length, map, Option, Some, None, slice_index_or, refl, sym, ap, subst, arith}
use Rattle.std.specs.Prelude.{slice_get, unwrap_or, Contains}
use Rattle.std.proofs.lemmas.Option.{slice_get_within}
use Rattle.flat_design.specs.Code as code
use Rattle.flat_design.specs.Code.{Arena, arena_of, block_at, body_at}
use Rattle.flat_design.specs.Reach.{Inside, IsIn}
use Rattle.flat_design.specs.declared.code.Code.{Code}
use Rattle.flat_design.specs.declared.code.CodeBody.{CodeBody}
use Rattle.code_blocks.specs.declared.laid.Laid.{Laid}
use Rattle.code_blocks.specs.Laid.{EachFrom, StandsInside}
use Rattle.model_check.specs.Parts.{AllStand, IsInABody, body_blocks}
use Rattle.model_check.proofs.LaidLemmas.{begins_code}

-- the element that gives one of a mapped list
pub record Given {X : Type 0} (g : X → ℕ) (xs : List X) (j : ℕ) : Type 0 where
  pub place : ℕ
  pub element : X
  pub there : slice_get xs place ≡ Some element
  pub gives : g element ≡ j

given_at : {X : Type 0} (g : X → ℕ) (xs : List X) (j k : ℕ) → k < length (map g xs) → slice_index_or (map g xs) k j ≡ j → Given g xs j
given_at g [] j k within is = absurd (omega (arith, within))
given_at g (x ∷ xs) j zero within is = record { place = 0; element = x; there = refl; gives = is }
given_at g (x ∷ xs) j (suc k) within is =
    let later = given_at g xs j k (omega (arith, within)) is in
    record { place = suc later.place; element = later.element; there = later.there; gives = later.gives }

pub given : {X : Type 0} (g : X → ℕ) (xs : List X) (j : ℕ) → Contains (map g xs) j → Given g xs j
given g xs j h = given_at g xs j h.0 h.1 h.2

-- a block with statements is there
block_within : (blocks : List (List ℕ)) (b n : ℕ) (o : Option (List ℕ)) → slice_get blocks b ≡ o → Contains (unwrap_or o []) n → b < length blocks
block_within blocks b n None e h = absurd (omega (arith, h.1))
block_within blocks b n (Some ids) e h = slice_get_within blocks b ids e

pub all_stand : (l : Laid) (c : Code) → c.blocks ≡ l.blocks → c.statements ≡ l.statements → {first : ℕ} → first ≡ 0 → EachFrom first l (λ a n. StandsInside a (body_blocks c.bodies) n) → AllStand c
all_stand l c blocks statements none each b s is =
    let a = arena_of c in
    let within = block_within c.blocks b is.number (slice_get c.blocks b) refl is.listed_there in
    let high : b < length l.blocks = subst (λ (bs : List (List ℕ)). b < length bs) blocks within in
    let stands = each a (begins_code l c blocks statements) b (omega (arith, none)) high in
    let found = given (λ (x : CodeBody). x.block) c.bodies stands.around stands.listed_there in
    record {
      function = found.place;
      body = found.element;
      found = found.there;
      stands = record { block = b; inside = subst (λ (r : ℕ). Inside a r b) (sym found.gives) stands.inside; stands = is };
    }
