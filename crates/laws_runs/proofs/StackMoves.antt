-- A step moves only the top of the stack.
use Rattle.std.proofs.Common.{◌≡◌, ◌≢◌, ◌≤◌, ◌⊎◌, ℕ, List, [], ◌∷◌, drop, Some, refl, sym, ap, ◌∙◌, subst, arith, inl, inr}
use Rattle.sim_model.specs.FlatDesign.Sound.{SoundDesign}
use Rattle.sim_model.specs.FlatDesign.declared.design.Design.{Design}
use Rattle.sim_model.specs.Configuration.{Config, start}
use Rattle.sim_model.specs.Steps.{Outcome, went, step}
use Rattle.sim_model.specs.Runs.{after}
use Rattle.sim_model.specs.Clean.{times}
use Rattle.sim_model.specs.declared.plain.Command.{Command}
use Rattle.laws_runs.proofs.Times.{times-here}
use Rattle.laws_runs.proofs.CleanRuns.{clean-after}
use Rattle.laws_runs.proofs.GoalMoves.{Sound}
use Rattle.laws_runs.proofs.GoalSteps.{IfWent}
use Rattle.laws_runs.specs.Stacks.{OnlyTopMoves}
use Rattle.laws_runs.proofs.GoalParts.{Parts, parts, Kept, IsKept, IsSettled, IsKeptBetween}
use Rattle.laws_runs.proofs.KeptSteps as steps
use Rattle.laws_runs.proofs.KeptRuns.{sound-run}

-- ---- nothing on the stack, and nothing comes there

abbrev IsEmpty : Parts → Type 0
IsEmpty x = x.stack ≡ []

not_empty : (p : ℕ) (rest stack : List ℕ) → stack ≡ p ∷ rest → stack ≡ [] → ⊥
not_empty p rest stack one_ two = cc

empty-between : IsKeptBetween IsEmpty
empty-between = record { same = λ x q f alike h. h; alike = λ x f alike h. h }

-- ---- p on top of the rest, where it does not stand once more

module _ (p : ℕ) (rest : List ℕ) (once : times p rest ≡ 0) where
  abbrev IsMoved : Parts → Type 0
  IsMoved x = (x.stack ≡ p ∷ rest) ⊎ ((x.stack ≡ rest) ⊎ ((q : ℕ) × (q ≢ p) × (x.stack ≡ q ∷ p ∷ rest)))

  below : (more stack : List ℕ) → stack ≡ p ∷ more → stack ≡ rest → ⊥
  below more stack top is =
      let here = times-here p more in
      let same = ap (times p) (sym top ∙ is) in
      omega (arith, here, same, once)

  above : (q : ℕ) (more stack : List ℕ) → stack ≡ p ∷ more → stack ≡ q ∷ p ∷ rest → p ≡ q
  above q more stack top is = cc

  apart_from : (q : ℕ) (stack : List ℕ) → stack ≡ p ∷ rest → times q stack ≡ 0 → q ≢ p
  apart_from q stack top off same =
      let here = times-here p rest in
      let a = ap (times q) top in
      let b = ap (λ n. times n (p ∷ rest)) same in
      omega (arith, here, a, b, off)

  leaves_moved : (x : Parts) (more : List ℕ) → x.stack ≡ p ∷ more → IsMoved x → IsMoved (record x { stack = drop 1 x.stack })
  leaves_moved x more top (inl is) = inr (inl (ap (drop 1) is))
  leaves_moved x more top (inr (inl is)) = absurd (below more x.stack top is)
  leaves_moved x more top (inr (inr is)) = absurd (is.1 (sym (above is.0 more x.stack top is.2)))

  pushes_moved : (x : Parts) (q : ℕ) (more : List ℕ) → x.stack ≡ p ∷ more → times q x.stack ≡ 0 → IsMoved x → IsMoved (record x { stack = q ∷ x.stack })
  pushes_moved x q more top off (inl is) = inr (inr (q, apart_from q x.stack is off, ap (λ s. q ∷ s) is))
  pushes_moved x q more top off (inr (inl is)) = absurd (below more x.stack top is)
  pushes_moved x q more top off (inr (inr is)) = absurd (is.1 (sym (above is.0 more x.stack top is.2)))

  moved-kept : IsKept p IsMoved
  moved-kept = record {
    same = λ x q f alike h. h;
    leaves = λ x more top none h. leaves_moved x more top h;
    pushes = λ x q more top off h. pushes_moved x q more top off h;
    passes = λ x i r at may h. h;
    puts = λ x i r n at next new is_new h. h;
    takes_off = λ x i r at h. h;
    guards = λ x i r n at next b u h. h;
    returns = λ x i r n at next v h. h;
    locals = λ x n v h. h;
    raises = λ x q i r e k at is stands none caught inner h. h;
    unwinds = λ x q i k at stands none outer h. h;
    over = λ x i r at over f none stays h. h;
    begins = λ x q i f args at left h. h;
    spawned = λ x new none begun lives h. h;
    tries_hop = λ x s hop t e blocking entry unbroken h. h;
    calls_hop = λ x i r n at next via f args e hop entry unbroken h. h;
    returns_hop = λ x i r y at next via e over entry unbroken h. h;
  }

  moved-between : IsKeptBetween IsMoved
  moved-between = record { same = λ x q f alike h. h; alike = λ x f alike h. h }

  moved_only : (c d : Config) → c.processes.stack ≡ p ∷ rest → IsMoved (parts d) → OnlyTopMoves c.processes.stack d.processes.stack
  moved_only c d top (inl is) = inl (is ∙ sym top)
  moved_only c d top (inr (inl is)) = inr (inl (is ∙ sym (ap (drop 1) top)))
  moved_only c d top (inr (inr is)) = inr (inr (is.0, is.2 ∙ ap (λ s. is.0 ∷ s) (sym top)))

went_is : (Q : Config → Type 0) (o : Outcome) (d : Config) → o ≡ went d → IfWent o Q → Q d
went_is Q o d is h = subst (λ x. IfWent x Q) is h

step_only : (c d : Config) → Sound c → ((p : ℕ) → times p c.processes.stack ≤ 1) → step c ≡ went d → (stack : List ℕ) → c.processes.stack ≡ stack → OnlyTopMoves c.processes.stack d.processes.stack
step_only c d s once now [] is =
    inl (went_is (Kept IsEmpty) (step c) d now (steps.step-kept IsEmpty empty-between c s (λ p rest top. absurd (not_empty p rest c.processes.stack top is)) is) ∙ sym is)
step_only c d s once now (p ∷ rest) is =
    let one = once p in
    let here = times-here p rest in
    let same = ap (times p) is in
    let none : times p rest ≡ 0 = omega (arith, one, here, same) in
    moved_only p rest none c d is
    (went_is (Kept (IsMoved p rest none)) (step c) d now
    (steps.step-kept (IsMoved p rest none) (moved-between p rest none) c s (λ q more top. same_top q more (top_same p q rest more c.processes.stack is top) none) (inl is)))
  where
    top_same : (p q : ℕ) (rest more stack : List ℕ) → stack ≡ p ∷ rest → stack ≡ q ∷ more → p ≡ q
    top_same p q rest more stack one_ two = cc

    same_top : (q : ℕ) (more : List ℕ) → p ≡ q → (none : times p rest ≡ 0) → IsKept q (IsMoved p rest none) × IsSettled q (IsMoved p rest none)
    same_top q more e none = subst (λ n. IsKept n (IsMoved p rest none) × IsSettled n (IsMoved p rest none)) e (moved-kept p rest none, λ x i at h. h)

pub only-top : (design : Design) (script : List Command) → SoundDesign design → (n : ℕ) (choices : List ℕ) (c d : Config) → after n choices (start design script) ≡ Some c → step c ≡ went d → OnlyTopMoves c.processes.stack d.processes.stack
only-top design script sound n choices c d reached now =
    step_only c d (sound-run design script sound n choices c reached)
    (λ p. let once = (clean-after design script n choices c reached).once p in omega (arith, once)) now c.processes.stack refl
