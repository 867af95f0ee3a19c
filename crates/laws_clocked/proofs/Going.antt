-- What is left of a thread inside a tick, from statement to statement.
use Rattle.std.proofs.Common.{◌≡◌, ℕ, List, [], ◌∷◌, None, option_map, refl, sym, ap, ◌∙◌, subst}
use Rattle.laws_runs.specs.FlatDesign.Code.{Arena, block_at}
use Rattle.laws_runs.specs.SimModel.Residual.{Residual, Frame, skip, one, seq, followed, statements, block, settle, put, next_of, statement, innermost, in_innermost}
use Rattle.laws_clocked.specs.Spots.{IsLeft, Shows}
use Rattle.laws_clocked.specs.Ticks.{Test, Tick, behind, IsTest, HasTick, Spot, left_at, entering, declaring, testing, waiting, checking}
use Rattle.laws_clocked.proofs.Showing.{shows-next, shows-put, shows-settled, shows-set, innermost-set, innermost-followed, innermost-put, innermost-settled}

-- ---- n in place of the statement of x that comes next leaves y, and no call is open in any of them

pub record GoesTo (a : Arena) (x n y : Residual) (s : ℕ) : Type 0 where
  pub next : next_of x ≡ statement s
  pub settles : settle a (put x n) ≡ y
  pub left : IsLeft y
  pub bare : innermost x ≡ None
  pub new : innermost (put x n) ≡ None
  pub end : innermost y ≡ None

module _ (a : Arena) (x n y : Residual) (s : ℕ) (g : GoesTo a x n y s) where
  module _ (r : Residual) (h : Shows x r) where
    pub goes-next : next_of r ≡ statement s
    goes-next = shows-next x r s h g.next

    pub goes-left : IsLeft (settle a (put x n))
    goes-left = subst IsLeft (sym g.settles) g.left

    pub goes-bare : innermost (settle a (put x n)) ≡ innermost (put x n)
    goes-bare = ap innermost g.settles ∙ g.end ∙ sym g.new

    -- what takes the place of what shows, once it has settled
    pub goes : Shows y (settle a (put r n))
    goes = subst (λ q. Shows q (settle a (put r n))) g.settles (shows-settled a (put x n) goes-left (put r n) (shows-put x r n s h g.next))

    pub goes-within : innermost (settle a (put r n)) ≡ innermost r
    goes-within = innermost-settled a (put x n) goes-left goes-bare (put r n) (shows-put x r n s h g.next) ∙ innermost-put x r n s h g.next (g.new ∙ sym g.bare)

    -- and where a local variable is set besides
    pub goes-set : (f : Frame → Frame) → Shows y (settle a (in_innermost f (put r n)))
    goes-set f = subst (λ q. Shows q (settle a (in_innermost f (put r n)))) g.settles (shows-settled a (put x n) goes-left (in_innermost f (put r n)) (shows-set f (put x n) g.new (put r n) (shows-put x r n s h g.next)))

    pub goes-set_within : (f : Frame → Frame) → innermost (settle a (in_innermost f (put r n))) ≡ option_map f (innermost r)
    goes-set_within f =
        innermost-settled a (put x n) goes-left goes-bare (in_innermost f (put r n)) (shows-set f (put x n) g.new (put r n) (shows-put x r n s h g.next))
        ∙ innermost-set f (put r n) ∙ ap (option_map f) (innermost-put x r n s h g.next (g.new ∙ sym g.bare))

-- ---- statements in a block, and others behind that block

next_in : (s : ℕ) (ss : List ℕ) (w : ℕ) → next_of (seq (statements (s ∷ ss)) (w ∷ [])) ≡ statement s
next_in s [] w = refl
next_in s (u ∷ us) w = refl

settle_in : (a : Arena) (s : ℕ) (ss : List ℕ) (w : ℕ) → settle a (seq (statements (s ∷ ss)) (w ∷ [])) ≡ seq (statements (s ∷ ss)) (w ∷ [])
settle_in a s [] w = refl
settle_in a s (u ∷ us) w = refl

past_in : (a : Arena) (s u : ℕ) (us : List ℕ) (w : ℕ) → settle a (put (seq (statements (s ∷ u ∷ us)) (w ∷ [])) skip) ≡ seq (statements (u ∷ us)) (w ∷ [])
past_in a s u [] w = refl
past_in a s u (v ∷ vs) w = refl

pub bare-statements : (ss : List ℕ) → innermost (statements ss) ≡ None
bare-statements [] = refl
bare-statements (s ∷ []) = refl
bare-statements (s ∷ u ∷ us) = refl

bare_at : (t : Tick) (spot : Spot) → innermost (left_at t spot) ≡ None
bare_at t entering = refl
bare_at t declaring = refl
bare_at t testing = refl
bare_at t waiting = innermost-followed (one t.waits) (behind t t.tests)
bare_at t (checking tests) = bare-statements (behind t tests)

-- ---- the statements of a tick

module _ (a : Arena) (t : Tick) (has : HasTick a t) where
  pub enter-goes : GoesTo a (left_at t entering) (block a t.inside) (left_at t declaring) t.whole
  enter-goes = record { next = refl; settles = ap (λ ss. settle a (statements ss)) has.inside; left = tt; bare = refl; new = bare-statements (block_at a t.inside); end = refl }

  pub declare-goes : GoesTo a (left_at t declaring) skip (left_at t testing) t.declares
  declare-goes = record { next = refl; settles = refl; left = tt; bare = refl; new = refl; end = refl }

  rounds : (tests : List Test) → settle a (seq (statements (t.waits ∷ behind t tests)) (t.loops ∷ [])) ≡ seq (followed (one t.waits) (behind t tests)) (t.loops ∷ [])
  rounds tests = settle_in a t.waits (behind t tests) t.loops

  pub loop-goes : GoesTo a (left_at t testing) (followed (block a t.round) (t.loops ∷ [])) (left_at t waiting) t.loops
  loop-goes = record {
    next = refl;
    settles = ap (λ ss. settle a (seq (statements ss) (t.loops ∷ []))) has.round ∙ rounds t.tests;
    left = tt;
    bare = refl;
    new = bare-statements (block_at a t.round);
    end = bare_at t waiting;
  }

  past_wait : (tests : List Test) → settle a (put (seq (followed (one t.waits) (behind t tests)) (t.loops ∷ [])) skip) ≡ left_at t (checking tests)
  past_wait [] = refl
  past_wait (x ∷ xs) = past_in a t.waits x.test (behind t xs) t.loops

  next_wait : (tests : List Test) → next_of (seq (followed (one t.waits) (behind t tests)) (t.loops ∷ [])) ≡ statement t.waits
  next_wait [] = refl
  next_wait (x ∷ xs) = refl

  new_wait : (tests : List Test) → innermost (put (seq (followed (one t.waits) (behind t tests)) (t.loops ∷ [])) skip) ≡ None
  new_wait [] = refl
  new_wait (x ∷ xs) = refl

  pub wait-goes : GoesTo a (left_at t waiting) skip (left_at t (checking t.tests)) t.waits
  wait-goes = record { next = next_wait t.tests; settles = past_wait t.tests; left = tt; bare = bare_at t waiting; new = new_wait t.tests; end = bare_at t (checking t.tests) }

  -- a test that does not hold
  past_test : (x : Test) (xs : List Test) → settle a (put (left_at t (checking (x ∷ xs))) skip) ≡ left_at t (checking xs)
  past_test x [] = refl
  past_test x (y ∷ ys) = past_in a x.test y.test (behind t ys) t.loops

  new_test : (x : Test) (xs : List Test) → innermost (put (left_at t (checking (x ∷ xs))) skip) ≡ None
  new_test x [] = refl
  new_test x (y ∷ ys) = refl

  pub test-goes : (x : Test) (xs : List Test) → GoesTo a (left_at t (checking (x ∷ xs))) skip (left_at t (checking xs)) x.test
  test-goes x xs = record { next = next_in x.test (behind t xs) t.loops; settles = past_test x xs; left = tt; bare = bare_at t (checking (x ∷ xs)); new = new_test x xs; end = bare_at t (checking xs) }

  -- one that holds
  thrown_at : (x : Test) (xs : List Test) → settle a (put (left_at t (checking (x ∷ xs))) (one x.throws)) ≡ seq (statements (x.throws ∷ behind t xs)) (t.loops ∷ [])
  thrown_at x [] = refl
  thrown_at x (y ∷ ys) = refl

  new_throw : (x : Test) (xs : List Test) → innermost (put (left_at t (checking (x ∷ xs))) (one x.throws)) ≡ None
  new_throw x [] = refl
  new_throw x (y ∷ ys) = refl

  pub throw-goes : (x : Test) (xs : List Test) → IsTest a x → GoesTo a (left_at t (checking (x ∷ xs))) (block a x.block) (seq (statements (x.throws ∷ behind t xs)) (t.loops ∷ [])) x.test
  throw-goes x xs is = record {
    next = next_in x.test (behind t xs) t.loops;
    settles = ap (λ ss. settle a (put (left_at t (checking (x ∷ xs))) (statements ss))) is.inside ∙ thrown_at x xs;
    left = tt;
    bare = bare_at t (checking (x ∷ xs));
    new = ap (λ ss. innermost (put (left_at t (checking (x ∷ xs))) (statements ss))) is.inside ∙ new_throw x xs;
    end = bare-statements (x.throws ∷ behind t xs);
  }

  pub next-throw : (x : Test) (xs : List Test) (r : Residual) → Shows (seq (statements (x.throws ∷ behind t xs)) (t.loops ∷ [])) r → next_of r ≡ statement x.throws
  next-throw x xs r h = shows-next (seq (statements (x.throws ∷ behind t xs)) (t.loops ∷ [])) r x.throws h (next_in x.throws (behind t xs) t.loops)

  -- the count is lowered
  pub lower-goes : GoesTo a (left_at t (checking [])) skip (left_at t testing) t.lowers
  lower-goes = record { next = refl; settles = refl; left = tt; bare = refl; new = refl; end = refl }

  -- ---- told of what is left

  pub enters : (r : Residual) → Shows (left_at t entering) r → Shows (left_at t declaring) (settle a (put r (block a t.inside)))
  enters r h = goes a (left_at t entering) (block a t.inside) (left_at t declaring) t.whole enter-goes r h

  pub declares : (f : Frame → Frame) (r : Residual) → Shows (left_at t declaring) r → Shows (left_at t testing) (settle a (in_innermost f (put r skip)))
  declares f r h = goes-set a (left_at t declaring) skip (left_at t testing) t.declares declare-goes r h f

  pub loops : (r : Residual) → Shows (left_at t testing) r → Shows (left_at t waiting) (settle a (put r (followed (block a t.round) (t.loops ∷ []))))
  loops r h = goes a (left_at t testing) (followed (block a t.round) (t.loops ∷ [])) (left_at t waiting) t.loops loop-goes r h

  pub waits : (r : Residual) → Shows (left_at t waiting) r → Shows (left_at t (checking t.tests)) (settle a (put r skip))
  waits r h = goes a (left_at t waiting) skip (left_at t (checking t.tests)) t.waits wait-goes r h

  pub tests : (x : Test) (xs : List Test) (r : Residual) → Shows (left_at t (checking (x ∷ xs))) r → Shows (left_at t (checking xs)) (settle a (put r skip))
  tests x xs r h = goes a (left_at t (checking (x ∷ xs))) skip (left_at t (checking xs)) x.test (test-goes x xs) r h

  pub lowers : (f : Frame → Frame) (r : Residual) → Shows (left_at t (checking [])) r → Shows (left_at t testing) (settle a (in_innermost f (put r skip)))
  lowers f r h = goes-set a (left_at t (checking [])) skip (left_at t testing) t.lowers lower-goes r h f
