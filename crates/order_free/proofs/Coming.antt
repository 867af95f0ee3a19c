-- A process comes to the blocks in which the statements stand that it reaches.
use Rattle.std.proofs.Common.{◌≡◌, ◌<◌, inl, inr, ℕ, List, [], length, Option, Some, None, refl, sym, subst}
use Rattle.std.specs.Prelude.{slice_get, unwrap_or, Contains}
use Rattle.std.specs.List.{flat_map}
use Rattle.std.proofs.lemmas.Bool.{cases_lt}
use Rattle.std.proofs.lemmas.Option.{slice_get_past}
use Rattle.std.proofs.lemmas.List.Elements.{Contains-append_left, Contains-append_right, Contains-append_cases}
use Rattle.flat_design.specs.Code as code
use Rattle.flat_design.specs.Code.{Arena, Statement, block_at, statement_at, body_at}
use Rattle.flat_design.specs.Reach as reach
use Rattle.flat_design.specs.Reach.{inner_blocks, IsIn, Inside, Holds, Reached}
use Rattle.flat_design.specs.declared.code.CodeBody.{CodeBody}
use Rattle.order_free.specs.Blocks as blocks
use Rattle.order_free.specs.Blocks.{where_found, called_blocks, targets_of, ArePartsOf}
use Rattle.order_free.specs.declared.blocks.BlockPart.{BlockPart}
use Rattle.order_free.specs.Spreading as spreading
use Rattle.order_free.specs.Spreading.{targets_in, targets_at, root, ComesTo}
use Rattle.order_free.specs.declared.roots.Root.{Root}
use Rattle.order_free.proofs.Elements.{no_element, element_cases, element_here, in_flat_map, flat_map_in, slice_at}

-- a call leads to the block of the body that it calls

pub record IsCalled (a : Arena) (s : Statement) (t : ℕ) : Type 0 where
  pub x : Option _
  pub function : ℕ
  pub arguments : List _
  pub body : CodeBody
  pub is : s ≡ code.call x function arguments
  pub found : body_at a function ≡ Some body
  pub block : body.block ≡ t

call_from : (a : Arena) (x : Option _) (f : ℕ) (arguments : List _) (t : ℕ) (o : Option CodeBody) → body_at a f ≡ o → Contains (blocks.block_of o) t → IsCalled a (code.call x f arguments) t
call_from a x f arguments t None is h = absurd (no_element t h)
call_from a x f arguments t (Some b) is h =
    record {
      x = x;
      function = f;
      arguments = arguments;
      body = b;
      is = refl;
      found = is;
      block = elim (element_cases b.block [] t h) [ inl same ↦ same | inr none ↦ absurd (no_element t none) ];
    }

called_from : (a : Arena) (s : Statement) (t : ℕ) → Contains (called_blocks a s) t → IsCalled a s t
called_from a (code.call x f arguments) t h = call_from a x f arguments t (body_at a f) refl h
called_from a other t h = absurd (no_element t h)

-- what is found under a number stands in the block

pub found_in : {X : Type 0} (a : Arena) (b : ℕ) (f : Statement → List X) (x : X) → Contains (flat_map (λ n. where_found f (statement_at a n)) (block_at a b)) x → (s : Statement) × IsIn a b s × Contains (f s) x
found_in a b f x h =
    let w = in_flat_map (λ n. where_found f (statement_at a n)) (block_at a b) x h in
    found_there w.0 w.1 (statement_at a w.0) refl w.2
  where
    found_there : (n : ℕ) → Contains (block_at a b) n → (o : Option Statement) → statement_at a n ≡ o → Contains (where_found f o) x → (s : Statement) × IsIn a b s × Contains (f s) x
    found_there n at None is k = absurd (no_element x k)
    found_there n at (Some s) is k = (s, record { number = n; listed_there = at; found = is }, k)

pub stands_in : {X : Type 0} (a : Arena) (b : ℕ) (f : Statement → List X) (x : X) (s : Statement) → IsIn a b s → Contains (f s) x → Contains (flat_map (λ n. where_found f (statement_at a n)) (block_at a b)) x
stands_in a b f x s at h =
    flat_map_in (λ n. where_found f (statement_at a n)) (block_at a b) at.number x at.listed_there (subst (λ o. Contains (where_found f o) x) (sym at.found) h)

pub block_within : (a : Arena) (b : ℕ) (s : Statement) → IsIn a b s → b < length a.blocks
block_within a b s at =
    elim (cases_lt b (length a.blocks)) [
      | inl below ↦ below
      | inr past ↦ absurd (no_element at.number (subst (λ (o : Option (List ℕ)). Contains (unwrap_or o []) at.number) (slice_get_past a.blocks b past) at.listed_there))
    ]

-- from a block to those before it

module _ (a : Arena) (b t : ℕ) (s : Statement) (at : IsIn a b s) where
  inside_before : Contains (inner_blocks s) t → {k : ℕ} → Inside a t k → Inside a b k
  inside_before h (reach.itself t) = reach.deeper b b t s (reach.itself b) at h
  inside_before h (reach.deeper t k j r i in_k c) = reach.deeper b k j r (inside_before h i) in_k c

  holds_before : Contains (inner_blocks s) t → (r : Statement) → Holds a t r → Holds a b r
  holds_before h r k = record { block = k.block; inside = inside_before h k.inside; stands = k.stands }

  inner_before : Contains (inner_blocks s) t → {r : Statement} → Reached a t r → Reached a b r
  inner_before h (reach.here t r k) = reach.here b r (holds_before h r k)
  inner_before h (reach.through t f x arguments body r k is rest) = reach.through b f x arguments body r (holds_before h (code.call x f arguments) k) is rest

  called_before : IsCalled a s t → (r : Statement) → Reached a t r → Reached a b r
  called_before c r k =
      reach.through b c.function c.x c.arguments c.body r (record { block = b; inside = reach.itself b; stands = subst (IsIn a b) c.is at }) c.found
      (subst (λ j. Reached a j r) (sym c.block) k)

  pub reached_before : Contains (targets_of a s) t → (r : Statement) → Reached a t r → Reached a b r
  reached_before h r k =
      elim (Contains-append_cases (inner_blocks s) (called_blocks a s) t h) [
        | inl inner ↦ inner_before inner k
        | inr called ↦ called_before (called_from a s t called) r k
      ]

module _ (a : Arena) (parts : List BlockPart) (are : ArePartsOf a parts) where
  target_there : (b t : ℕ) (o : Option BlockPart) → slice_get parts b ≡ o → Contains (targets_in o) t → (s : Statement) × IsIn a b s × Contains (targets_of a s) t
  target_there b t None is h = absurd (no_element t h)
  target_there b t (Some part) is h = found_in a b (targets_of a) t (subst (λ ts. Contains ts t) (are.each b part is).targets h)

  target_from : (b t : ℕ) → Contains (targets_at parts b) t → (s : Statement) × IsIn a b s × Contains (targets_of a s) t
  target_from b t h = target_there b t (slice_get parts b) refl h

  pub part_at : (b : ℕ) (s : Statement) → IsIn a b s → (part : BlockPart) × (slice_get parts b ≡ Some part)
  part_at b s at = slice_at parts b (subst (λ n. b < n) (sym are.many) (block_within a b s at))

  target_to : (b t : ℕ) (s : Statement) → IsIn a b s → Contains (targets_of a s) t → Contains (targets_at parts b) t
  target_to b t s at h =
      let w = part_at b s at in
      subst (λ o. Contains (targets_in o) t) (sym w.1) (subst (λ ts. Contains ts t) (sym (are.each b w.0 w.1).targets) (stands_in a b (targets_of a) t s at h))

  module _ (roots : List Root) (p : ℕ) where
    -- what is reached from a block to which a process comes is reached from where it begins
    pub comes_reaches : {b : ℕ} → ComesTo parts roots p b → (r : Statement) → Reached a b r → (first : ℕ) × Contains roots (root p first) × Reached a first r
    comes_reaches (spreading.begins b h) r k = (b, h, k)
    comes_reaches (spreading.goes_on b t c h) r k = let w = target_from b t h in comes_reaches c r (reached_before a b t w.0 w.1 w.2 r k)

    inside_comes : {b k : ℕ} → Inside a b k → ComesTo parts roots p b → ComesTo parts roots p k
    inside_comes (reach.itself b) c = c
    inside_comes (reach.deeper b k j s i at h) c =
        spreading.goes_on k j (inside_comes i c) (target_to k j s at (Contains-append_left (inner_blocks s) (called_blocks a s) j h))

    -- a process comes to the block of each statement that is reached from where it has come
    pub reaches_comes : {b : ℕ} {r : Statement} → Reached a b r → ComesTo parts roots p b → (k : ℕ) × ComesTo parts roots p k × IsIn a k r
    reaches_comes (reach.here b r h) c = (h.block, inside_comes h.inside c, h.stands)
    reaches_comes (reach.through b f x arguments body r h is rest) c =
        let called : Contains (called_blocks a (code.call x f arguments)) body.block =
        subst (λ o. Contains (blocks.block_of o) body.block) (sym is) (element_here body.block []) in
        reaches_comes rest (spreading.goes_on h.block body.block (inside_comes h.inside c) (target_to h.block body.block (code.call x f arguments) h.stands
        (Contains-append_right (inner_blocks (code.call x f arguments)) (called_blocks a (code.call x f arguments)) body.block called)))
