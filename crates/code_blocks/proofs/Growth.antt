-- What is laid out stays, and stands at its number; blocks stay nested.
use Rattle.std.proofs.Common.{◌≡◌, ◌<◌, ◌≤◌, ◌+◌, ◌⊎◌, inl, inr, ⊎_elim, ℕ, zero, suc, List, [], ◌∷◌, ◌++◌, length, map, Option, Some, None, refl, sym, ap, ◌∙◌, subst, append_assoc, length-append, arith}
use Rattle.std.specs.Prelude.{slice_get, unwrap_or, Contains}
use Rattle.std.specs.List.{AllByRecursion}
use Rattle.std.proofs.lemmas.List.{append-nil, map-append}
use Rattle.std.proofs.lemmas.Option.{slice_get_within}
use Rattle.flat_design.specs.Code as code
use Rattle.flat_design.specs.Code.{Arena, arena_of, statement_of, statement_at}
use Rattle.flat_design.specs.Reach.{inner_blocks, IsIn}
use Rattle.flat_design.specs.declared.code.Statement.{Statement}
use Rattle.flat_design.specs.declared.code.Code.{Code}
use Rattle.code_deeds.specs.CodeRules.Numbered.{AtBlock}
use Rattle.laws_code.proofs.Coded.{same_some}
use Rattle.laws_code.proofs.TypedBlocks.{each_of}
use Rattle.laws_code.proofs.Bodies.{slice_behind}
use Rattle.code_blocks.specs.declared.laid.Laid.{Laid}
use Rattle.code_blocks.specs.Laid.{BeginsWith, Grows, FromNowOn, InnerBelow, StandsIn, StandIn, IsNested, IsNext}

-- the element behind a front
seam : {X : Type 0} (xs : List X) (y : X) (ys : List X) (n : ℕ) → n ≡ length xs → slice_get (xs ++ y ∷ ys) n ≡ Some y
seam xs y ys n e =
    let at : n ≡ length xs + 0 = omega (arith, e) in
    ap (slice_get (xs ++ y ∷ ys)) at ∙ slice_behind xs (y ∷ ys) 0

-- a list with one more, of which another one is a front
one_more : {X : Type 0} (xs : List X) (y : X) (zs more : List X) → zs ≡ (xs ++ y ∷ []) ++ more → zs ≡ xs ++ y ∷ more
one_more xs y zs more e = e ∙ append_assoc xs (y ∷ []) more

-- an element of a list with one more is one of the list or the last one
last_or_before : {X : Type 0} (xs : List X) (y x : X) (n : ℕ) → slice_get (xs ++ y ∷ []) n ≡ Some x → (slice_get xs n ≡ Some x) ⊎ ((n ≡ length xs) × (y ≡ x))
last_or_before [] y x zero e = inr (refl, same_some y x e)
last_or_before [] y x (suc n) e = cc
last_or_before (z ∷ xs) y x zero e = inl e
last_or_before (z ∷ xs) y x (suc n) e = ⊎_elim (λ there. inl there) (λ last. inr (ap (λ k. suc k) last.0, last.1)) (last_or_before xs y x n e)

length-map : {X Y : Type 0} (f : X → Y) (xs : List X) → length (map f xs) ≡ length xs
length-map f [] = refl
length-map f (x ∷ xs) = ap (λ n. suc n) (length-map f xs)

all_more : {X : Type 0} (P : X → Type 0) (xs ys : List X) → AllByRecursion P xs → AllByRecursion P ys → AllByRecursion P (xs ++ ys)
all_more P [] ys h k = k
all_more P (x ∷ xs) ys h k = (h.0, all_more P xs ys h.1 k)

all_weaker : {X : Type 0} (P Q : X → Type 0) (xs : List X) → ((x : X) → P x → Q x) → AllByRecursion P xs → AllByRecursion Q xs
all_weaker P Q [] g h = tt
all_weaker P Q (x ∷ xs) g h = (g x h.0, all_weaker P Q xs g h.1)

-- the arena of what was laid out and nothing more
abbrev pub alone : Laid → Arena
alone l = record { bodies = []; blocks = l.blocks; statements = map statement_of l.statements }

pub begins_alone : (l : Laid) → BeginsWith l (alone l)
begins_alone l = record { blocks = ([], sym (append-nil l.blocks)); statements = ([], sym (append-nil (map statement_of l.statements))) }

pub blocks_grow : (old new : Laid) → Grows old new → length old.blocks ≤ length new.blocks
blocks_grow old new grows =
    let front = (grows (alone new) (begins_alone new)).blocks in
    omega (arith, ap length front.1, length-append old.blocks front.0)

-- a block that stands in what was laid out
pub block_there : (l : Laid) (b : ℕ) (P : Arena → List ℕ → Type 0) → FromNowOn l (λ a. AtBlock a b (P a)) → b < length l.blocks
block_there l b P h =
    let at = h (alone l) (begins_alone l) in
    slice_get_within l.blocks b at.0 at.1

-- inner blocks are below what is greater

pub inner_up : (b c : ℕ) (f : code.Statement) → b ≤ c → InnerBelow b f → InnerBelow c f
inner_up b c f up h = all_weaker (λ j. j < b) (λ j. j < c) (inner_blocks f) (λ j below. omega (arith, below, up)) h

stand_up : (a : Arena) (b c : ℕ) (ids : List ℕ) → b ≤ c → StandIn a b ids → StandIn a c ids
stand_up a b c ids up h = all_weaker (StandsIn a b) (StandsIn a c) ids (λ n s. (s.0, s.1, inner_up b c s.0 up s.2)) h

pub next_grown : (old new : Laid) (ids : List ℕ) → Grows old new → IsNext old ids → IsNext new ids
next_grown old new ids grows h = λ a begins. stand_up a (length old.blocks) (length new.blocks) ids (blocks_grow old new grows) (h a (grows a begins))

pub next_none : (l : Laid) → IsNext l []
next_none l = λ a begins. tt

pub next_more : (l : Laid) (ids more : List ℕ) (n : ℕ) (f : code.Statement) → more ≡ ids ++ n ∷ [] → IsNext l ids → FromNowOn l (λ a. statement_at a n ≡ Some f) → InnerBelow (length l.blocks) f → IsNext l more
next_more l ids more n f grown h at inner = λ a begins.
    let b = length l.blocks in
    subst (StandIn a b) (sym grown) (all_more (StandsIn a b) ids (n ∷ []) (h a begins) ((f, at a begins, inner), tt))

module _ (old new : Laid) where
  -- one more statement
  module _ (s : Statement) (same : new.blocks ≡ old.blocks) (more : new.statements ≡ old.statements ++ s ∷ []) where
    statements_more : (a : Arena) (h : BeginsWith new a) → a.statements ≡ map statement_of old.statements ++ statement_of s ∷ h.statements.0
    statements_more a h =
        one_more (map statement_of old.statements) (statement_of s) a.statements h.statements.0
        (h.statements.1 ∙ ap (λ fs. map statement_of fs ++ h.statements.0) more ∙ ap (λ fs. fs ++ h.statements.0) (map-append statement_of old.statements (s ∷ [])))

    pub statement_grows : Grows old new
    statement_grows = λ a h. record {
      blocks = (h.blocks.0, h.blocks.1 ∙ ap (λ bs. bs ++ h.blocks.0) same);
      statements = (statement_of s ∷ h.statements.0, statements_more a h);
    }

    pub statement_stands : (n : ℕ) → n ≡ length old.statements → FromNowOn new (λ a. statement_at a n ≡ Some (statement_of s))
    statement_stands n e = λ a h.
        ap (λ xs. slice_get xs n) (statements_more a h)
        ∙ seam (map statement_of old.statements) (statement_of s) h.statements.0 n (e ∙ sym (length-map statement_of old.statements))

    pub statement_nested : IsNested old → IsNested new
    statement_nested nested = λ b ids there a h. nested b ids (ap (λ bs. slice_get bs b) (sym same) ∙ there) a (statement_grows a h)

  -- one more block
  module _ (ids : List ℕ) (same : new.statements ≡ old.statements) (more : new.blocks ≡ old.blocks ++ ids ∷ []) where
    blocks_more : (a : Arena) (h : BeginsWith new a) → a.blocks ≡ old.blocks ++ ids ∷ h.blocks.0
    blocks_more a h = one_more old.blocks ids a.blocks h.blocks.0 (h.blocks.1 ∙ ap (λ bs. bs ++ h.blocks.0) more)

    pub block_grows : Grows old new
    block_grows = λ a h. record {
      blocks = (ids ∷ h.blocks.0, blocks_more a h);
      statements = (h.statements.0, h.statements.1 ∙ ap (λ (ss : List Statement). map statement_of ss ++ h.statements.0) same);
    }

    pub block_stands : (n : ℕ) → n ≡ length old.blocks → FromNowOn new (λ a. slice_get a.blocks n ≡ Some ids)
    block_stands n e = λ a h. ap (λ xs. slice_get xs n) (blocks_more a h) ∙ seam old.blocks ids h.blocks.0 n e

    pub block_nested : IsNext old ids → IsNested old → IsNested new
    block_nested next nested = λ b xs there a h.
        ⊎_elim (λ before. nested b xs before a (block_grows a h))
        (λ last. subst (StandIn a b) last.1 (subst (λ (k : ℕ). StandIn a k ids) (sym last.0) (next a (block_grows a h))))
        (last_or_before old.blocks ids xs b (ap (λ bs. slice_get bs b) (sym more) ∙ there))

-- blocks that were laid out are nested in the code that they are the blocks of

none_some : {A : Type 0} {x : A} → None ≡ Some x → ⊥
none_some h = cc

stands_below : (a : Arena) (b j n : ℕ) (s : code.Statement) → StandsIn a b n → statement_at a n ≡ Some s → Contains (inner_blocks s) j → j < b
stands_below a b j n s stands at inner =
    each_of (λ k. k < b) (inner_blocks s) j (subst (InnerBelow b) (same_some stands.0 s (sym stands.1 ∙ at)) stands.2) inner

-- a block that is there, or else has no statements
number_stands : (a : Arena) (b n : ℕ) (o : Option (List ℕ)) → ((ids : List ℕ) → o ≡ Some ids → StandIn a b ids) → Contains (unwrap_or o []) n → StandsIn a b n
number_stands a b n None h k = absurd (omega (arith, k.1))
number_stands a b n (Some ids) h k = each_of (StandsIn a b) ids n (h ids refl) k

pub nested_none : (l : Laid) → l.blocks ≡ [] → IsNested l
nested_none l none b ids there = absurd (none_some (sym (ap (λ bs. slice_get bs b) none) ∙ there))

pub nested_code : (l : Laid) (c : Code) → c.blocks ≡ l.blocks → c.statements ≡ l.statements → IsNested l
    → (b j : ℕ) (s : code.Statement) → IsIn (arena_of c) b s → Contains (inner_blocks s) j → j < b
nested_code l c blocks statements nested b j s is inner =
    let a = arena_of c in
    let begins : BeginsWith l a = record {
      blocks = ([], blocks ∙ sym (append-nil l.blocks));
      statements = ([], ap (map statement_of) statements ∙ sym (append-nil (map statement_of l.statements)));
    } in
    let stands = number_stands a b is.number (slice_get c.blocks b) (λ ids there. nested b ids (ap (λ bs. slice_get bs b) (sym blocks) ∙ there) a begins) is.listed_there in
    stands_below a b j is.number s stands is.found inner
