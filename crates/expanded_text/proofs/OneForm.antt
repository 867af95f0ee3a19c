-- The block of a clocked thread is one, and so are its ticks.
use Rattle.std.proofs.Common.{◌≡◌, ℕ, Bool, true, false, List, [], ◌∷◌, ◌++◌, inl, inr, ◌∙◌, refl, sym, ap, subst}
use Rattle.model_tree.specs.Tree as tree
use Rattle.expanded_text.specs.Clocked.{Reset, Tick, behind, tests_form, count_form, tick_block, tick_form, IsTick, Ticks, HasTicks, ElseTicks, HandlerTicks, with_last, last_form, body_form, IsClocked}

-- ---- a tick

same_resets : (r q : Reset) → r.signal ≡ q.signal → r.level ≡ q.level → r ≡ q
same_resets r q e g =
    ap (λ (x : List ℕ). record { signal = x; level = r.level }) e ∙ ap (λ (x : Bool). record { signal = q.signal; level = x }) g

tests_one : (at bt a b : ℕ → ℕ) (rs qs : List Reset) → tests_form at rs (count_form a) ≡ tests_form bt qs (count_form b) → rs ≡ qs
tests_one at bt a b [] [] e = refl
tests_one at bt a b [] (q ∷ qs) e = cc
tests_one at bt a b (r ∷ rs) [] e = cc
tests_one at bt a b (r ∷ rs) (q ∷ qs) e =
    let rest : tests_form (behind at 4) rs (count_form a) ≡ tests_form (behind bt 4) qs (count_form b) = cc in
    let signal : r.signal ≡ q.signal = cc in
    let level : r.level ≡ q.level = cc in
    let here : r ≡ q = same_resets r q signal level in
    let more : rs ≡ qs = tests_one (behind at 4) (behind bt 4) a b rs qs rest in
    cc

same_ticks : (t u : Tick) → t.edges ≡ u.edges → t.resets ≡ u.resets → t ≡ u
same_ticks t u e g =
    ap (λ (x : ℕ). record { edges = x; resets = t.resets }) e ∙ ap (λ (x : List Reset). record { edges = u.edges; resets = x }) g

tick_one : (t u : Tick) (x : tree.Statement) → IsTick t x → IsTick u x → t ≡ u
tick_one t u x h k =
    let e : tick_form h.at t ≡ tick_form k.at u = sym h.form ∙ k.form in
    let rest : tests_form (behind (behind h.at 5) 7) t.resets (count_form (behind (behind h.at 5) 4)) ≡ tests_form (behind (behind k.at 5) 7) u.resets (count_form (behind (behind k.at 5) 4)) = cc in
    let count : t.edges ≡ u.edges = cc in
    same_ticks t u count (tests_one (behind (behind h.at 5) 7) (behind (behind k.at 5) 7) (behind (behind h.at 5) 4) (behind (behind k.at 5) 4) t.resets u.resets rest)

-- the block of a tick names what no other piece may
held_not : (x : Tick) (at : ℕ → ℕ) (b : tree.Block) (vs : List Tick) → b ≡ tick_block at x → HasTicks b vs → ⊥
held_not x at b vs e h =
    let k : HasTicks (tick_block at x) vs = subst (λ (y : tree.Block). HasTicks y vs) e h in
    let no : true ≡ false = k.3.0 in
    cc

not_both : (t : Tick) (line : ℕ) (e : tree.Expression) (body : tree.Block) (other : tree.Else) (us : List Tick) → IsTick t (tree.if_ line e body other) → HasTicks body us → ⊥
not_both t line e body other us h k =
    let same : tree.if_ line e body other ≡ tick_form h.at t = h.form in
    let inside : body ≡ tick_block h.at t = cc in
    held_not t h.at body us inside k

-- ---- blocks

none_one : (us vs : List Tick) → us ≡ [] → vs ≡ [] → us ≡ vs
none_one us vs e g = e ∙ sym g

both_one : (us vs ua va ub vb : List Tick) → us ≡ ua ++ ub → vs ≡ va ++ vb → ua ≡ va → ub ≡ vb → us ≡ vs
both_one us vs ua va ub vb e g h k = cc

mutual
  statement_one : (x : tree.Statement) (us vs : List Tick) → Ticks x us → Ticks x vs → us ≡ vs
  statement_one (tree.var line t x e) us vs h k = none_one us vs h.1 k.1
  statement_one (tree.assign line t e) us vs h k = none_one us vs h.1 k.1
  statement_one (tree.operate line x at o) us vs h k = none_one us vs h.1 k.1
  statement_one (tree.act line a) us vs h k = none_one us vs h.1 k.1
  statement_one (tree.if_ line e body other) us vs (inl h) (inl k) = let same : h.0 ≡ k.0 = tick_one h.0 k.0 (tree.if_ line e body other) h.1 k.1 in let one : us ≡ h.0 ∷ [] = h.2 in let two : vs ≡ k.0 ∷ [] = k.2 in cc
  statement_one (tree.if_ line e body other) us vs (inl h) (inr k) = absurd (not_both h.0 line e body other k.1.0 h.1 k.1.3)
  statement_one (tree.if_ line e body other) us vs (inr h) (inl k) = absurd (not_both k.0 line e body other h.1.0 k.1 h.1.3)
  statement_one (tree.if_ line e body other) us vs (inr h) (inr k) =
      both_one us vs h.1.0 k.1.0 h.1.1 k.1.1 h.1.2 k.1.2 (block_one body h.1.0 k.1.0 h.1.3 k.1.3) (else_one other h.1.1 k.1.1 h.1.4 k.1.4)
  statement_one (tree.while_ line e body) us vs h k = block_one body us vs h.1 k.1
  statement_one (tree.guard line body undo) us vs h k = both_one us vs h.0 k.0 h.1 k.1 h.2 k.2 (block_one body h.0 k.0 h.3 k.3) (block_one undo h.1 k.1 h.4 k.4)
  statement_one (tree.try_ line body hs) us vs h k = both_one us vs h.0 k.0 h.1 k.1 h.2 k.2 (block_one body h.0 k.0 h.3 k.3) (handlers_one hs h.1 k.1 h.4 k.4)

  block_one : (x : tree.Block) (us vs : List Tick) → HasTicks x us → HasTicks x vs → us ≡ vs
  block_one tree.over us vs h k = none_one us vs h k
  block_one (tree.then x xs) us vs h k = both_one us vs h.0 k.0 h.1 k.1 h.2 k.2 (statement_one x h.0 k.0 h.3 k.3) (block_one xs h.1 k.1 h.4 k.4)

  else_one : (x : tree.Else) (us vs : List Tick) → ElseTicks x us → ElseTicks x vs → us ≡ vs
  else_one tree.no_else us vs h k = none_one us vs h k
  else_one (tree.else_block body) us vs h k = block_one body us vs h k

  handlers_one : (x : tree.Handlers) (us vs : List Tick) → HandlerTicks x us → HandlerTicks x vs → us ≡ vs
  handlers_one tree.no_more us vs h k = none_one us vs h k
  handlers_one (tree.handler x body more) us vs h k =
      both_one us vs h.1.0 k.1.0 h.1.1 k.1.1 h.1.2 k.1.2 (block_one body h.1.0 k.1.0 h.1.3 k.1.3) (handlers_one more h.1.1 k.1.1 h.1.4 k.1.4)

-- ---- a thread

last_one : (b c : tree.Block) (x y : tree.Statement) → with_last b x ≡ with_last c y → b ≡ c
last_one tree.over tree.over x y e = refl
last_one tree.over (tree.then z tree.over) x y e = cc
last_one tree.over (tree.then z (tree.then w zs)) x y e = cc
last_one (tree.then z tree.over) tree.over x y e = cc
last_one (tree.then z (tree.then w zs)) tree.over x y e = cc
last_one (tree.then z zs) (tree.then w ws) x y e =
    let rest : with_last zs x ≡ with_last ws y = cc in
    let more : zs ≡ ws = last_one zs ws x y rest in
    let here : z ≡ w = cc in
    cc

pub one_block : (p : tree.ProcessItem) (b c : tree.Block) (us vs : List Tick) → IsClocked p b us → IsClocked p c vs → b ≡ c
one_block p b c us vs h k =
    let e : body_form h.at b ≡ body_form k.at c = sym h.form ∙ k.form in
    let inside : with_last b (last_form h.at) ≡ with_last c (last_form k.at) = cc in
    last_one b c (last_form h.at) (last_form k.at) inside

pub one_list : (p : tree.ProcessItem) (b : tree.Block) (us vs : List Tick) → IsClocked p b us → IsClocked p b vs → us ≡ vs
one_list p b us vs h k = block_one b us vs h.only k.only
