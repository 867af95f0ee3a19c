-- Blocks that stand inside what was laid out now: no others do.
use Rattle.std.proofs.Common.{◌≡◌, ◌<◌, ◌≤◌, ◌⊎◌, inl, inr, ⊎_elim, ℕ, ◌+◌, zero, suc, List, [], ◌∷◌, ◌++◌, length, slice_index_or, Option, Some, refl, sym, ap, ◌∙◌, subst, arith}
use Rattle.std.specs.Prelude.{slice_get, unwrap_or, Contains}
use Rattle.std.proofs.lemmas.List.{append-nil}
use Rattle.std.proofs.lemmas.List.Elements.{Contains-append_cases}
use Rattle.flat_design.specs.Code as code
use Rattle.flat_design.specs.Code.{Arena, statement_at}
use Rattle.flat_design.specs.Reach.{Inside, itself, deeper, IsIn, inner_blocks}
use Rattle.code_deeds.specs.CodeRules.Numbered.{AreFirst, IsCoded}
use Rattle.laws_code.proofs.Coded.{same_some}
use Rattle.laws_code.proofs.Plain.{NoneHasBlocks, Only}
use Rattle.code_blocks.specs.declared.laid.Laid.{Laid}
use Rattle.code_blocks.specs.Laid.{Adds, FromNowOn, Grows, HangsFrom, HangsOnlyFromThere, OnlyFrom, StandsInside}
use Rattle.code_blocks.proofs.Growth.{blocks_grow}
use Rattle.code_blocks.proofs.Owned.{both_grow}

-- elements of lists of none and of one

pub none_there : (x : ℕ) → Contains [] x → ⊥
none_there x h = absurd (omega (arith, h.1))

one_at : (i x k : ℕ) → k < 1 → slice_index_or (i ∷ []) k x ≡ x → x ≡ i
one_at i x zero within is = sym is
one_at i x (suc k) within is = absurd (omega (arith, within))

one_there : (i x : ℕ) → Contains (i ∷ []) x → x ≡ i
one_there i x h = one_at i x h.0 h.1 h.2

-- what more was laid out, and what was laid out from a smaller number on
pub only_up : (first low : ℕ) (old l : Laid) (P : Arena → ℕ → Type 0) → first ≤ low → Grows old l → OnlyFrom low old P → OnlyFrom first l P
only_up first low old l P lower grows only = λ a begins n h.
    let k = only a (grows a begins) n h in
    let more = blocks_grow old l grows in
    (omega (arith, lower, k.0), omega (arith, k.1, more))

-- inner blocks: none, one, and some behind others

pub none_only : (first : ℕ) (l : Laid) → OnlyFrom first l (λ a n. StandsInside a [] n)
none_only first l = λ a begins n h. absurd (none_there h.around h.listed_there)

pub one_only : (first : ℕ) (l : Laid) (b : ℕ) → OnlyFrom first l (λ a n. Inside a b n) → OnlyFrom first l (λ a n. StandsInside a (b ∷ []) n)
one_only first l b only = λ a begins n h. only a begins n (subst (λ (k : ℕ). Inside a k n) (one_there b h.around h.listed_there) h.inside)

pub more_only : (first : ℕ) (mid l : Laid) (bs cs more : List ℕ) → more ≡ bs ++ cs → first ≤ length mid.blocks → Grows mid l → OnlyFrom first mid (λ a n. StandsInside a bs n)
    → OnlyFrom (length mid.blocks) l (λ a n. StandsInside a cs n) → OnlyFrom first l (λ a n. StandsInside a more n)
more_only first mid l bs cs more is lower grows before later = λ a begins n h.
    ⊎_elim
    (λ (front : Contains bs h.around).
    only_up first first mid l (λ a n. StandsInside a bs n) (omega arith) grows before a begins n (record { around = h.around; listed_there = front; inside = h.inside }))
    (λ (behind : Contains cs h.around).
    only_up first (length mid.blocks) l l (λ a n. StandsInside a cs n) lower (λ b there. there) later a begins n (record { around = h.around; listed_there = behind; inside = h.inside }))
    (Contains-append_cases bs cs h.around (subst (λ (ns : List ℕ). Contains ns h.around) is h.listed_there))

pub both_only : (first : ℕ) (mid l : Laid) (b : ℕ) (bs : List ℕ) → first ≤ length mid.blocks → Grows mid l → OnlyFrom first mid (λ a n. Inside a b n) → OnlyFrom (length mid.blocks) l (λ a n. StandsInside a bs n)
    → OnlyFrom first l (λ a n. StandsInside a (b ∷ bs) n)
both_only first mid l b bs lower grows before later = more_only first mid l (b ∷ []) bs (b ∷ bs) refl lower grows (one_only first mid b before) later

-- statements

pub none_hangs : (first : ℕ) (l : Laid) → OnlyFrom first l (λ a n. HangsFrom a [] n)
none_hangs first l = λ a begins n h. absurd (none_there h.number h.listed_there)

hangs_by : (a : Arena) (ids more : List ℕ) (n : ℕ) (h : HangsFrom a ids n) → Contains more h.number → HangsFrom a more n
hangs_by a ids more n h there = record { number = h.number; listed_there = there; statement = h.statement; found = h.found; held = h.held }

-- what hangs from a statement whose form is known
held_by : (a : Arena) (ids : List ℕ) (i n : ℕ) (f : code.Statement) (h : HangsFrom a ids n) → h.number ≡ i → statement_at a i ≡ Some f → StandsInside a (inner_blocks f) n
held_by a ids i n f h is at = subst (λ (g : code.Statement). StandsInside a (inner_blocks g) n) (same_some h.statement f (sym h.found ∙ ap (statement_at a) is ∙ at)) h.held

-- a statement that was added
pub added_from : (first : ℕ) (old mid l : Laid) (ids more : List ℕ) (i : ℕ) (f : code.Statement) → Grows old l → Grows mid l → more ≡ ids ++ i ∷ [] → FromNowOn l (λ a. statement_at a i ≡ Some f)
    → OnlyFrom first old (λ a n. HangsFrom a ids n) → OnlyFrom first mid (λ a n. StandsInside a (inner_blocks f) n) → OnlyFrom first l (λ a n. HangsFrom a more n)
added_from first old mid l ids more i f grows later is at before inner = λ a begins n h.
    ⊎_elim
    (λ (front : Contains ids h.number). only_up first first old l (λ a n. HangsFrom a ids n) (omega arith) grows before a begins n (hangs_by a more ids n h front))
    (λ (last : Contains (i ∷ []) h.number).
    only_up first first mid l (λ a n. StandsInside a (inner_blocks f) n) (omega arith) later inner a begins n (held_by a more i n f h (one_there i h.number last) (at a begins)))
    (Contains-append_cases ids (i ∷ []) h.number (subst (λ (ns : List ℕ). Contains ns h.number) is h.listed_there))

pub added_only : (old mid l : Laid) (ids more : List ℕ) (i : ℕ) (f : code.Statement) → Grows old mid → Grows mid l → more ≡ ids ++ i ∷ [] → FromNowOn l (λ a. statement_at a i ≡ Some f)
    → OnlyFrom (length old.blocks) mid (λ a n. StandsInside a (inner_blocks f) n) → HangsOnlyFromThere old ids l more
added_only old mid l ids more i f grows later is at inner = λ first lower before.
    added_from first old mid l ids more i f (both_grow old mid l grows later) later is at before
    (only_up first (length old.blocks) mid mid (λ a n. StandsInside a (inner_blocks f) n) lower (λ a begins. begins) inner)

-- from statements that hold no blocks nothing hangs
pub plain_hangs : (a : Arena) (fs : List code.Statement) (ids : List ℕ) (n : ℕ) → NoneHasBlocks fs → AreFirst a fs ids [] → HangsFrom a ids n → ⊥
plain_hangs a [] ids n plain are h = none_there h.number (subst (λ (ns : List ℕ). Contains ns h.number) are h.listed_there)
plain_hangs a (f ∷ fs) ids n plain (i, more, is, at, others) h =
    ⊎_elim
    (λ (first : Contains (i ∷ []) h.number).
    let held = subst (λ (bs : List ℕ). StandsInside a bs n) plain.0 (held_by a ids i n f h (one_there i h.number first) at) in
    none_there held.around held.listed_there)
    (λ (later : Contains more h.number). plain_hangs a fs more n plain.1 others (hangs_by a ids more n h later))
    (Contains-append_cases (i ∷ []) more h.number (subst (λ (ns : List ℕ). Contains ns h.number) is h.listed_there))

more_hang : (old l : Laid) (ids more xs : List ℕ) → more ≡ ids ++ xs → Grows old l → FromNowOn l (λ a. (n : ℕ) → HangsFrom a xs n → ⊥) → HangsOnlyFromThere old ids l more
more_hang old l ids more xs is grows none = λ first lower before a begins n h.
    ⊎_elim
    (λ (front : Contains ids h.number). only_up first first old l (λ a n. HangsFrom a ids n) (omega arith) grows before a begins n (hangs_by a more ids n h front))
    (λ (behind : Contains xs h.number). absurd (none a begins n (hangs_by a more xs n h behind)))
    (Contains-append_cases ids xs h.number (subst (λ (ns : List ℕ). Contains ns h.number) is h.listed_there))

pub first_only : (old l : Laid) (ids more : List ℕ) (fs : List code.Statement) → NoneHasBlocks fs → Grows old l → Adds l ids more (λ a ns rest. AreFirst a fs ns rest) → HangsOnlyFromThere old ids l more
first_only old l ids more fs plain grows adds =
    more_hang old l ids more adds.0 adds.1 grows (λ a begins n h. plain_hangs a fs adds.0 n plain (subst (λ (ns : List ℕ). AreFirst a fs ns []) (append-nil adds.0) (adds.2 a begins [])) h)

pub coded_only : (old l : Laid) (ids more : List ℕ) (fs : Option (List code.Statement)) → Only NoneHasBlocks fs → Grows old l → Adds l ids more (λ a ns rest. IsCoded a fs ns rest) → HangsOnlyFromThere old ids l more
coded_only old l ids more fs plain grows adds =
    more_hang old l ids more adds.0 adds.1 grows
    (λ a begins n h.
    let coded = adds.2 a begins [] in
    plain_hangs a coded.0 adds.0 n (plain coded.0 coded.1) (subst (λ (ns : List ℕ). AreFirst a coded.0 ns []) (append-nil adds.0) coded.2) h)

-- a block that was added

inside_or_hangs : (a : Arena) (b : ℕ) (ids : List ℕ) → slice_get a.blocks b ≡ Some ids → (n : ℕ) → Inside a b n → (n ≡ b) ⊎ HangsFrom a ids n
inside_or_hangs a b ids at _ (itself _) = inl refl
inside_or_hangs a b ids at n (deeper _ k _ s inside is inner) =
    ⊎_elim
    (λ (here : k ≡ b).
    let stands : IsIn a b s = subst (λ (m : ℕ). IsIn a m s) here is in
    inr (record {
      number = stands.number;
      listed_there = subst (λ (o : Option (List ℕ)). Contains (unwrap_or o []) stands.number) at stands.listed_there;
      statement = s;
      found = stands.found;
      held = record { around = n; listed_there = inner; inside = itself n };
    }))
    (λ (h : HangsFrom a ids k).
    inr (record {
      number = h.number;
      listed_there = h.listed_there;
      statement = h.statement;
      found = h.found;
      held = record { around = h.held.around; listed_there = h.held.listed_there; inside = deeper h.held.around k n s h.held.inside is inner };
    }))
    (inside_or_hangs a b ids at k inside)

pub block_only : (first : ℕ) (old l : Laid) (ids : List ℕ) (b : ℕ) → first ≤ length old.blocks → Grows old l → b ≡ length old.blocks → length l.blocks ≡ b + 1 → FromNowOn l (λ a. slice_get a.blocks b ≡ Some ids)
    → OnlyFrom first old (λ a n. HangsFrom a ids n) → OnlyFrom first l (λ a n. Inside a b n)
block_only first old l ids b lower grows last more at before = λ a begins n inside.
    ⊎_elim
    (λ (here : n ≡ b). (omega (arith, here, last, lower), omega (arith, here, more)))
    (λ (h : HangsFrom a ids n). only_up first first old l (λ a n. HangsFrom a ids n) (omega arith) grows before a begins n h)
    (inside_or_hangs a b ids (at a begins) n inside)
