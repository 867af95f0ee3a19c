-- Bodies that are laid out one behind another: no block stands inside two of them.
use Rattle.std.proofs.Common.{◌≡◌, ◌⊎◌, inl, inr, ⊎_elim, ℕ, ◌+◌, zero, suc, List, [], ◌∷◌, ◌++◌, length, Option, Some, None, option_map, sym, ap, ◌∙◌, subst, arith}
use Rattle.std.specs.Prelude.{slice_get, Contains, option_to_list}
use Rattle.std.specs.Option.{IfSome}
use Rattle.std.proofs.lemmas.Option.{same_Some, slice_get_within, slice_get-map}
use Rattle.flat_design.specs.Code.{Arena, arena_of}
use Rattle.flat_design.specs.Reach.{Inside}
use Rattle.flat_design.specs.declared.code.Code.{Code}
use Rattle.flat_design.specs.declared.code.CodeBody.{CodeBody}
use Rattle.code_blocks.specs.declared.laid.Laid.{Laid}
use Rattle.code_blocks.specs.Laid.{BeginsWith, Grows, OnlyFrom, StandsInside}
use Rattle.code_blocks.proofs.Owned.{first_there, later_there}
use Rattle.code_blocks.proofs.Only.{more_only, none_only, one_only}
use Rattle.model_check.specs.Parts.{AreLaidApart, NoneInTwo, body_blocks}
use Rattle.code_blocks.specs.LawsCode.OwnBlocks.{HaveOwnBlocks}
use Rattle.model_check.proofs.LaidLemmas.{begins_code}

-- the body that there may be

pub body_only : (first : ℕ) (l : Laid) (b : Option CodeBody) → IfSome b (λ (x : CodeBody). OnlyFrom first l (λ a n. Inside a x.block n)) → OnlyFrom first l (λ a n. StandsInside a (body_blocks (option_to_list b)) n)
body_only first l None h = none_only first l
body_only first l (Some x) h = one_only first l x.block h

pub one_at_most : (a : Arena) (b : Option CodeBody) → NoneInTwo a (body_blocks (option_to_list b))
one_at_most a None i k b c n at_i at_k in_b in_c = let low = slice_get_within [] i b at_i in absurd (omega (arith, low))
one_at_most a (Some x) i k b c n at_i at_k in_b in_c =
    let low = slice_get_within (x.block ∷ []) i b at_i in
    let other = slice_get_within (x.block ∷ []) k c at_k in
    omega (arith, low, other)

-- elements of a list and of one behind it

there_at : (bs : List ℕ) (i b : ℕ) → slice_get bs i ≡ Some b → Contains bs b
there_at [] i b at = let low = slice_get_within [] i b at in absurd (omega (arith, low))
there_at (x ∷ bs) zero b at = subst (Contains (x ∷ bs)) (same_Some x b at) (first_there x bs)
there_at (x ∷ bs) (suc i) b at = later_there x bs b (there_at bs i b at)

record IsBehind (bs cs : List ℕ) (i b : ℕ) : Type 0 where
  place : ℕ
  is : i ≡ length bs + place
  there : slice_get cs place ≡ Some b

front_or_behind : (bs cs : List ℕ) (i b : ℕ) → slice_get (bs ++ cs) i ≡ Some b → (slice_get bs i ≡ Some b) ⊎ IsBehind bs cs i b
front_or_behind [] cs i b at = inr (record { place = i; is = omega arith; there = at })
front_or_behind (x ∷ bs) cs zero b at = inl at
front_or_behind (x ∷ bs) cs (suc i) b at =
    ⊎_elim (λ front. inl front) (λ (h : IsBehind bs cs i b). inr (record { place = h.place; is = let e = h.is in omega (arith, e); there = h.there })) (front_or_behind bs cs i b at)

-- bodies that are laid out behind others

module _ (old l : Laid) (bs cs : List ℕ) (grows : Grows old l) (before : AreLaidApart old bs) (later : OnlyFrom (length old.blocks) l (λ a n. StandsInside a cs n)) (a : Arena) (begins : BeginsWith l a) where
  never_both : (i j b c n : ℕ) → slice_get bs i ≡ Some b → slice_get cs j ≡ Some c → Inside a b n → Inside a c n → ⊥
  never_both i j b c n at_i at_j in_b in_c =
      let low = before.0 a (grows a begins) n (record { around = b; listed_there = there_at bs i b at_i; inside = in_b }) in
      let high = later a begins n (record { around = c; listed_there = there_at cs j c at_j; inside = in_c }) in
      absurd (omega (arith, low.1, high.0))

  more_apart : NoneInTwo a cs → NoneInTwo a (bs ++ cs)
  more_apart apart i k b c n at_i at_k in_b in_c =
      ⊎_elim
      (λ (first : slice_get bs i ≡ Some b).
      ⊎_elim
      (λ (other : slice_get bs k ≡ Some c). before.1 a (grows a begins) i k b c n first other in_b in_c)
      (λ (other : IsBehind bs cs k c). absurd (never_both i other.place b c n first other.there in_b in_c))
      (front_or_behind bs cs k c at_k))
      (λ (first : IsBehind bs cs i b).
      ⊎_elim
      (λ (other : slice_get bs k ≡ Some c). absurd (never_both k first.place c b n other first.there in_c in_b))
      (λ (other : IsBehind bs cs k c). first.is ∙ ap (λ (j : ℕ). length bs + j) (apart first.place other.place b c n first.there other.there in_b in_c) ∙ sym other.is)
      (front_or_behind bs cs k c at_k))
      (front_or_behind bs cs i b at_i)

pub laid_more : (old l : Laid) (bs cs more : List ℕ) → more ≡ bs ++ cs → Grows old l → AreLaidApart old bs → OnlyFrom (length old.blocks) l (λ a n. StandsInside a cs n) → ((a : Arena) → NoneInTwo a cs) → AreLaidApart l more
laid_more old l bs cs more is grows before later apart = (
  more_only 0 old l bs cs more is (omega arith) grows before.0 later,
  λ a begins. subst (NoneInTwo a) (sym is) (more_apart old l bs cs grows before later a begins (apart a)),
)

pub none_apart : (l : Laid) → AreLaidApart l []
none_apart l = (none_only 0 l, λ a begins i k b c n at_i at_k in_b in_c. let low = slice_get_within [] i b at_i in absurd (omega (arith, low)))

-- the code whose bodies these are

block_at_body : (bs : List CodeBody) (f : ℕ) (x : CodeBody) → slice_get bs f ≡ Some x → slice_get (body_blocks bs) f ≡ Some x.block
block_at_body bs f x at = slice_get-map (λ (b : CodeBody). b.block) bs f ∙ ap (option_map (λ (b : CodeBody). b.block)) at

pub code_apart : (l : Laid) (c : Code) → c.blocks ≡ l.blocks → c.statements ≡ l.statements → AreLaidApart l (body_blocks c.bodies) → HaveOwnBlocks c
code_apart l c blocks statements apart f g x y n at_f at_g in_x in_y =
    apart.1 (arena_of c) (begins_code l c blocks statements) f g x.block y.block n (block_at_body c.bodies f x at_f) (block_at_body c.bodies g y at_g) in_x in_y
