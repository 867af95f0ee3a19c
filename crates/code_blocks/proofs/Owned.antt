-- Blocks that stand inside what was laid out: none is left alone.
use Rattle.std.proofs.Common.{◌≡◌, ◌<◌, ◌≤◌, ◌⊎◌, ⊎_elim, ℕ, ◌+◌, List, [], ◌∷◌, ◌++◌, length, Option, Some, refl, sym, ap, subst, arith}
use Rattle.std.specs.Prelude.{slice_get, unwrap_or, Contains}
use Rattle.std.proofs.lemmas.Bool.{cases_lt}
use Rattle.std.proofs.lemmas.List.Elements.{Contains-append_left, Contains-append_right}
use Rattle.flat_design.specs.Code as code
use Rattle.flat_design.specs.Code.{Arena, statement_at}
use Rattle.flat_design.specs.Reach.{Inside, itself, deeper, IsIn, inner_blocks}
use Rattle.code_blocks.specs.declared.laid.Laid.{Laid}
use Rattle.code_blocks.specs.Laid.{EachFrom, FromNowOn, Grows, HangsFrom, StandsInside}

-- a block inside a block that is inside a block
pub inside_inside : (a : Arena) (b k n : ℕ) → Inside a k n → Inside a b k → Inside a b n
inside_inside a b k _ (itself _) x = x
inside_inside a b k n (deeper _ m _ s y is c) x = deeper b m n s (inside_inside a b k m y x) is c

-- what was laid out in two goes stays
pub both_grow : (old mid l : Laid) → Grows old mid → Grows mid l → Grows old l
both_grow old mid l first second = λ a begins. first a (second a begins)

-- the first of a list, and those behind it
pub first_there : {X : Type 0} (x : X) (xs : List X) → Contains (x ∷ xs) x
first_there x xs = (0, omega arith, refl)

pub later_there : {X : Type 0} (x : X) (xs : List X) (y : X) → Contains xs y → Contains (x ∷ xs) y
later_there x xs y h = Contains-append_right (x ∷ []) xs y h

-- one more

pub hangs_more : (a : Arena) (old more : List ℕ) (n : ℕ) → HangsFrom a old n → HangsFrom a (old ++ more) n
hangs_more a old more n h = record {
  number = h.number;
  listed_there = Contains-append_left old more h.number h.listed_there;
  statement = h.statement;
  found = h.found;
  held = h.held;
}

pub hangs_last : (a : Arena) (old : List ℕ) (i n : ℕ) (f : code.Statement) → statement_at a i ≡ Some f → StandsInside a (inner_blocks f) n → HangsFrom a (old ++ i ∷ []) n
hangs_last a old i n f found held = record {
  number = i;
  listed_there = Contains-append_right old (i ∷ []) i (first_there i []);
  statement = f;
  found = found;
  held = held;
}

pub stands_more : (a : Arena) (old more : List ℕ) (n : ℕ) → StandsInside a old n → StandsInside a (old ++ more) n
stands_more a old more n h = record { around = h.around; listed_there = Contains-append_left old more h.around h.listed_there; inside = h.inside }

pub stands_behind : (a : Arena) (old more : List ℕ) (n : ℕ) → StandsInside a more n → StandsInside a (old ++ more) n
stands_behind a old more n h = record { around = h.around; listed_there = Contains-append_right old more h.around h.listed_there; inside = h.inside }

pub stands_in : (a : Arena) (bs : List ℕ) (b n : ℕ) → Contains bs b → Inside a b n → StandsInside a bs n
stands_in a bs b n there inside = record { around = b; listed_there = there; inside = inside }

-- what was laid out in two parts

pub each_of_two : (first : ℕ) (mid l : Laid) (P : Arena → ℕ → Type 0) → Grows mid l → EachFrom first mid P → EachFrom (length mid.blocks) l P → EachFrom first l P
each_of_two first mid l P grows before later = λ a begins n low high.
    ⊎_elim (λ lower. before a (grows a begins) n low lower) (λ upper. later a begins n upper high) (cases_lt n (length mid.blocks))

pub each_as : (first : ℕ) (l : Laid) (P Q : Arena → ℕ → Type 0) → ((a : Arena) (n : ℕ) → P a n → Q a n) → EachFrom first l P → EachFrom first l Q
each_as first l P Q f each = λ a begins n low high. f a n (each a begins n low high)

-- inner blocks: one and those behind it

pub one_owned : (first : ℕ) (l : Laid) (b : ℕ) (bs : List ℕ) → EachFrom first l (λ a n. Inside a b n) → EachFrom first l (λ a n. StandsInside a (b ∷ bs) n)
one_owned first l b bs each = each_as first l (λ a n. Inside a b n) (λ a n. StandsInside a (b ∷ bs) n) (λ a n inside. stands_in a (b ∷ bs) b n (first_there b bs) inside) each

pub rest_owned : (first : ℕ) (l : Laid) (b : ℕ) (bs : List ℕ) → EachFrom first l (λ a n. StandsInside a bs n) → EachFrom first l (λ a n. StandsInside a (b ∷ bs) n)
rest_owned first l b bs each =
    each_as first l (λ a n. StandsInside a bs n) (λ a n. StandsInside a (b ∷ bs) n) (λ a n h. stands_in a (b ∷ bs) h.around n (later_there b bs h.around h.listed_there) h.inside) each

pub both_owned : (first : ℕ) (mid l : Laid) (b : ℕ) (bs : List ℕ) → Grows mid l → EachFrom first mid (λ a n. Inside a b n) → EachFrom (length mid.blocks) l (λ a n. StandsInside a bs n) → EachFrom first l (λ a n. StandsInside a (b ∷ bs) n)
both_owned first mid l b bs grows before later =
    each_of_two first mid l (λ a n. StandsInside a (b ∷ bs) n) grows (one_owned first mid b bs before) (rest_owned (length mid.blocks) l b bs later)

-- none

pub none_from : (old l : Laid) (P : Arena → ℕ → Type 0) → l.blocks ≡ old.blocks → EachFrom (length old.blocks) l P
none_from old l P same = λ a begins n low high.
    let e : length l.blocks ≡ length old.blocks = ap length same in
    absurd (omega (arith, low, high, e))

-- a statement that was added: what its inner blocks hold hangs from it
pub added_owned : (first : ℕ) (mid l : Laid) (old new : List ℕ) (i : ℕ) (f : code.Statement) → Grows mid l → l.blocks ≡ mid.blocks → new ≡ old ++ i ∷ [] → FromNowOn l (λ a. statement_at a i ≡ Some f)
    → EachFrom first mid (λ a n. StandsInside a (inner_blocks f) n) → EachFrom first l (λ a n. HangsFrom a new n)
added_owned first mid l old new i f grows same more at each = λ a begins n low high.
    let e : length l.blocks ≡ length mid.blocks = ap length same in
    subst (λ (ids : List ℕ). HangsFrom a ids n) (sym more) (hangs_last a old i n f (at a begins) (each a (grows a begins) n low (omega (arith, high, e))))

-- statements that were added behind others
pub more_owned : (first : ℕ) (old mid : Laid) (ids more : List ℕ) (xs : List ℕ) → more ≡ ids ++ xs → Grows old mid → EachFrom first old (λ a n. HangsFrom a ids n) → EachFrom (length old.blocks) mid (λ a n. HangsFrom a more n)
    → EachFrom first mid (λ a n. HangsFrom a more n)
more_owned first old mid ids more xs is grows before later = λ a begins n low high.
    ⊎_elim
    (λ lower. subst (λ (ns : List ℕ). HangsFrom a ns n) (sym is) (hangs_more a ids xs n (before a (grows a begins) n low lower)))
    (λ upper. later a begins n upper high)
    (cases_lt n (length old.blocks))

-- a block that was added: what hangs from its statements stands inside it
pub block_owned : (first : ℕ) (old l : Laid) (ids : List ℕ) (b : ℕ) → Grows old l → b ≡ length old.blocks → length l.blocks ≡ b + 1 → FromNowOn l (λ a. slice_get a.blocks b ≡ Some ids)
    → EachFrom first old (λ a n. HangsFrom a ids n) → EachFrom first l (λ a n. Inside a b n)
block_owned first old l ids b grows last more at each = λ a begins n low high.
    ⊎_elim
    (λ (lower : n < length old.blocks).
    let h = each a (grows a begins) n low lower in
    let listed : Contains (unwrap_or (slice_get a.blocks b) []) h.number = subst (λ (o : Option (List ℕ)). Contains (unwrap_or o []) h.number) (sym (at a begins)) h.listed_there in
    let is : IsIn a b h.statement = record { number = h.number; listed_there = listed; found = h.found } in
    inside_inside a b h.held.around n h.held.inside (deeper b b h.held.around h.statement (itself b) is h.held.listed_there))
    (λ (upper : length old.blocks ≤ n).
    let e : n ≡ b = omega (arith, upper, high, last, more) in
    subst (λ (m : ℕ). Inside a b m) (sym e) (itself b))
    (cases_lt n (length old.blocks))

-- blocks that were laid out behind others
pub more_stand : (first : ℕ) (old l : Laid) (bs cs more : List ℕ) → more ≡ bs ++ cs → Grows old l → EachFrom first old (λ a n. StandsInside a bs n) → EachFrom (length old.blocks) l (λ a n. StandsInside a cs n) → EachFrom first l (λ a n. StandsInside a more n)
more_stand first old l bs cs more is grows before later = λ a begins n low high.
    subst (λ (ns : List ℕ). StandsInside a ns n) (sym is)
    (⊎_elim
    (λ (lower : n < length old.blocks). stands_more a bs cs n (before a (grows a begins) n low lower))
    (λ (upper : length old.blocks ≤ n). stands_behind a bs cs n (later a begins n upper high))
    (cases_lt n (length old.blocks)))

-- so too where all are told of those that are laid out later
pub grown_stand : (first : ℕ) (old l : Laid) (bs cs more : List ℕ) → more ≡ bs ++ cs → Grows old l → EachFrom first old (λ a n. StandsInside a bs n) → EachFrom (length old.blocks) l (λ a n. StandsInside a more n) → EachFrom first l (λ a n. StandsInside a more n)
grown_stand first old l bs cs more is grows before later = λ a begins n low high.
    ⊎_elim
    (λ (lower : n < length old.blocks). subst (λ (ns : List ℕ). StandsInside a ns n) (sym is) (stands_more a bs cs n (before a (grows a begins) n low lower)))
    (λ (upper : length old.blocks ≤ n). later a begins n upper high)
    (cases_lt n (length old.blocks))

-- handlers that were laid out one behind another
pub handlers_owned : (first : ℕ) (old l : Laid) (bs more : List ℕ) (b : ℕ) → more ≡ bs ++ b ∷ [] → Grows old l → EachFrom first old (λ a n. StandsInside a bs n) → EachFrom (length old.blocks) l (λ a n. Inside a b n) → EachFrom first l (λ a n. StandsInside a more n)
handlers_owned first old l bs more b is grows before later = more_stand first old l bs (b ∷ []) more is grows before (one_owned (length old.blocks) l b [] later)
