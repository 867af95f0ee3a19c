-- Runs put together and taken apart: n + m steps are n steps and then m, each with its own choices.
use Rattle.std.proofs.Common.{◌≡◌, ◌+◌, ◌++◌, ℕ, zero, suc, List, [], ◌∷◌, Option, Some, None, refl, sym, ap, ◌∙◌, arith, zero-add}
use Rattle.std.proofs.lemmas.Option.{none-some, same_Some}
use Rattle.sim_model.specs.Configuration.{Config}
use Rattle.sim_model.specs.Steps.{Outcome, went, faulted, takes, ended, step, taking}
use Rattle.sim_model.specs.Runs.{after, and_then, took}

-- a run of n steps, and then of m more, with the choices of each
pub record Parts (n m : ℕ) (choices : List ℕ) (first last : Config) : Type 0 where
  pub middle : Config
  pub own : List ℕ
  pub left : List ℕ
  pub split : choices ≡ own ++ left
  pub before : after n own first ≡ Some middle
  pub behind : after m left middle ≡ Some last

pub suc-sum : (n m : ℕ) → suc n + m ≡ suc (n + m)
suc-sum n m = omega arith

-- ---- put together

join-taken : (ys : List ℕ) (middle : Config) (t : Option Config) (on more : Config → Option Config) (end : Option Config)
    → ((d : Config) → on d ≡ Some middle → more d ≡ end) → took t on ≡ Some middle → took t more ≡ end
join-taken ys middle None on more end later h = absurd (none-some middle h)
join-taken ys middle (Some d) on more end later h = later d h

join-step : (o : Outcome) (c middle : Config) (xs ys : List ℕ) (on more : List ℕ → Config → Option Config) (end : Option Config)
    → ((zs : List ℕ) (d : Config) → on zs d ≡ Some middle → more (zs ++ ys) d ≡ end) → and_then o c xs on ≡ Some middle → and_then o c (xs ++ ys) more ≡ end
join-step (went d) c middle xs ys on more end later h = later xs d h
join-step (faulted f) c middle xs ys on more end later h = absurd (none-some middle h)
join-step takes c middle [] ys on more end later h = absurd (none-some middle h)
join-step takes c middle (p ∷ xs) ys on more end later h = join-taken ys middle (taking c p) (on xs) (more (xs ++ ys)) end (later xs) h
join-step ended c middle xs ys on more end later h = absurd (none-some middle h)

pub joined : (n m : ℕ) (xs ys : List ℕ) (first middle : Config) → after n xs first ≡ Some middle → after (n + m) (xs ++ ys) first ≡ after m ys middle
joined zero m [] ys first middle h = ap (λ k. after k ys first) (zero-add m) ∙ ap (after m ys) (same_Some first middle h)
joined zero m (p ∷ xs) ys first middle h = absurd (none-some middle h)
joined (suc n) m xs ys first middle h =
    ap (λ k. after k (xs ++ ys) first) (suc-sum n m)
    ∙ join-step (step first) first middle xs ys (after n) (after (n + m)) (after m ys middle) (λ zs d later. joined n m zs ys d middle later) h

-- ---- taken apart

split-taken : (n m : ℕ) (p : ℕ) (choices : List ℕ) (first last : Config) → step first ≡ takes → (t : Option Config) → taking first p ≡ t
    → ((d : Config) → after (n + m) choices d ≡ Some last → Parts n m choices d last) → took t (after (n + m) choices) ≡ Some last → Parts (suc n) m (p ∷ choices) first last
split-taken n m p choices first last e None is later h = absurd (none-some last h)
split-taken n m p choices first last e (Some d) is later h =
    let g = later d h in
    record {
      middle = g.middle;
      own = p ∷ g.own;
      left = g.left;
      split = ap (λ cs. p ∷ cs) g.split;
      before = ap (λ o. and_then o first (p ∷ g.own) (after n)) e ∙ ap (λ o. took o (after n g.own)) is ∙ g.before;
      behind = g.behind;
    }

split-step : (n m : ℕ) (choices : List ℕ) (first last : Config) (o : Outcome) → step first ≡ o
    → ((zs : List ℕ) (d : Config) → after (n + m) zs d ≡ Some last → Parts n m zs d last) → and_then o first choices (after (n + m)) ≡ Some last → Parts (suc n) m choices first last
split-step n m choices first last (went d) e later h =
    let g = later choices d h in
    record {
      middle = g.middle;
      own = g.own;
      left = g.left;
      split = g.split;
      before = ap (λ o. and_then o first g.own (after n)) e ∙ g.before;
      behind = g.behind;
    }
split-step n m choices first last (faulted f) e later h = absurd (none-some last h)
split-step n m [] first last takes e later h = absurd (none-some last h)
split-step n m (p ∷ choices) first last takes e later h = split-taken n m p choices first last e (taking first p) refl (later choices) h
split-step n m choices first last ended e later h = absurd (none-some last h)

pub parted : (n m : ℕ) (choices : List ℕ) (first last : Config) → after (n + m) choices first ≡ Some last → Parts n m choices first last
parted zero m choices first last h =
    record { middle = first; own = []; left = choices; split = refl; before = refl; behind = ap (λ k. after k choices first) (sym (zero-add m)) ∙ h }
parted (suc n) m choices first last h =
    split-step n m choices first last (step first) refl (λ zs d later. parted n m zs d last later) (ap (λ k. after k choices first) (sym (suc-sum n m)) ∙ h)

-- ---- a run of so many steps uses so many choices

ends-there : (ys : List ℕ) (middle last : Config) → after zero ys middle ≡ Some last → ys ≡ []
ends-there [] middle last h = refl
ends-there (p ∷ ys) middle last h = absurd (none-some last h)

pub no-more : (n : ℕ) (xs ys : List ℕ) (first middle last : Config) → after n xs first ≡ Some middle → after n (xs ++ ys) first ≡ Some last → ys ≡ []
no-more n xs ys first middle last h whole =
    let sum : n + zero ≡ n = omega arith in
    ends-there ys middle last (sym (joined n zero xs ys first middle h) ∙ ap (λ k. after k (xs ++ ys) first) sum ∙ whole)
