-- Which statements stand in the blocks of a statement, and in the body of what it calls.
use Rattle.std.proofs.Common.{◌≡◌, ℕ, zero, suc, List, [], ◌∷◌, Contains, Option, Some, refl, subst, arith}
use Rattle.sim_model.specs.FlatDesign.Code as code
use Rattle.sim_model.specs.FlatDesign.Code.{Arena, Statement, ArgumentTerm, block_at, statement_at, body_at}
use Rattle.sim_model.specs.FlatDesign.Typed.{EachOf}
use Rattle.sim_model.specs.FlatDesign.Reach.{Reached, here, through, itself, deeper, Holds, inner_blocks}
use Rattle.sim_model.specs.FlatDesign.Sound.{IsHomeOf}
use Rattle.sim_model.specs.FlatDesign.declared.code.CodeBody.{CodeBody}
use Rattle.sim_model.specs.FlatDesign.declared.code.Handler.{Handler}
use Rattle.sim_model.specs.FlatDesign.declared.code.Store.{Store as Target}
use Rattle.sim_model.specs.FlatDesign.declared.design.Design.{Design}
use Rattle.sim_model.specs.Clean.{EachInBlock, EachInHandlers}
use Rattle.laws_runs.specs.Standing.{code_of, IsUnwindBlock, OfBody, OfUnwindBlock}

-- ---- each element of a list

pub each-from : {A : Type 0} (P : A → Type 0) (xs : List A) → ((x : A) → Contains xs x → P x) → EachOf P xs
each-from P [] h = tt
each-from P (x ∷ xs) h = (h x (zero, omega arith, refl), each-from P xs (λ y c. h y (let within = c.1 in (suc c.0, omega (arith, within), c.2))))

pub each-weaker : {A : Type 0} (P Q : A → Type 0) → ((x : A) → P x → Q x) → (xs : List A) → EachOf P xs → EachOf Q xs
each-weaker P Q h [] e = tt
each-weaker P Q h (x ∷ xs) e = (h x e.0, each-weaker P Q h xs e.1)

pub handlers-weaker : (P Q : ℕ → Type 0) → ((n : ℕ) → P n → Q n) → (a : Arena) (handlers : List Handler) → EachInHandlers P a handlers → EachInHandlers Q a handlers
handlers-weaker P Q h a [] e = tt
handlers-weaker P Q h a (x ∷ xs) e = (each-weaker P Q h (block_at a x.block) e.0, handlers-weaker P Q h a xs e.1)

-- ---- blocks inside blocks

deeper_in : (a : Arena) (b j n : ℕ) (s t : Statement) → Holds a b s → Contains (inner_blocks s) j → Contains (block_at a j) n → statement_at a n ≡ Some t → Holds a b t
deeper_in a b j n s t h inner listed found =
    record { block = j; inside = deeper b h.block j s h.inside h.stands inner; stands = record { number = n; listed_there = listed; found = found } }

first_in : (a : Arena) (b n : ℕ) (t : Statement) → Contains (block_at a b) n → statement_at a n ≡ Some t → Holds a b t
first_in a b n t listed found = record { block = b; inside = itself b; stands = record { number = n; listed_there = listed; found = found } }

deeper_reached : (a : Arena) (b j n : ℕ) (s t : Statement) → Reached a b s → Contains (inner_blocks s) j → Contains (block_at a j) n → statement_at a n ≡ Some t → Reached a b t
deeper_reached a _ j n _ t (here b s h) inner listed found = here b t (deeper_in a b j n s t h inner listed found)
deeper_reached a _ j n _ t (through b f x arguments body s h is later) inner listed found = through b f x arguments body t h is (deeper_reached a body.block j n s t later inner listed found)

called_reached : (a : Arena) (b f n : ℕ) (x : Option Target) (arguments : List ArgumentTerm) (body : CodeBody) (s t : Statement) → Reached a b s → s ≡ code.call x f arguments → body_at a f ≡ Some body
    → Contains (block_at a body.block) n → statement_at a n ≡ Some t → Reached a b t
called_reached a _ f n x arguments body _ t (here b s h) e is listed found = through b f x arguments body t (subst (Holds a b) e h) is (here body.block t (first_in a body.block n t listed found))
called_reached a _ f n x arguments body _ t (through b g y others other s h there later) e is listed found =
    through b g y others other t h there (called_reached a other.block f n x arguments body s t later e is listed found)

-- ---- statements of bodies, and of unwind blocks

module _ (d : Design) (home : ℕ) where
  pub inner-body : (n j : ℕ) (s : Statement) → OfBody d home n → statement_at (code_of d) n ≡ Some s → Contains (inner_blocks s) j → EachInBlock (OfBody d home) (code_of d) j
  inner-body n j s h at inner =
      each-from (OfBody d home) (block_at (code_of d) j) (λ m listed t found.
      let b = h s at in
      record { function = b.function; body = b.body; found = b.found; home_of = b.home_of; stands = deeper_in (code_of d) b.body.block j m s t b.stands inner listed found })

  pub body-block : (f : ℕ) (body : CodeBody) → body_at (code_of d) f ≡ Some body → IsHomeOf d home body → EachInBlock (OfBody d home) (code_of d) body.block
  body-block f body is home_of =
      each-from (OfBody d home) (block_at (code_of d) body.block) (λ m listed t found.
      record { function = f; body = body; found = is; home_of = home_of; stands = first_in (code_of d) body.block m t listed found })

  pub inner-unwind : (n j : ℕ) (s : Statement) → OfUnwindBlock d home n → statement_at (code_of d) n ≡ Some s → Contains (inner_blocks s) j → EachInBlock (OfUnwindBlock d home) (code_of d) j
  inner-unwind n j s h at inner =
      each-from (OfUnwindBlock d home) (block_at (code_of d) j) (λ m listed.
      record {
        unwind = h.unwind;
        is_block = h.is_block;
        reached = λ t found. deeper_reached (code_of d) h.unwind j m s t (h.reached s at) inner listed found;
        of_body = λ t found. let b = h.of_body s at in record { function = b.function; body = b.body; found = b.found; home_of = b.home_of; stands = deeper_in (code_of d) b.body.block j m s t b.stands inner listed found };
      })

  pub unwind-block : (u : ℕ) → IsUnwindBlock d home u → EachInBlock (OfUnwindBlock d home) (code_of d) u
  unwind-block u h =
      each-from (OfUnwindBlock d home) (block_at (code_of d) u) (λ m listed.
      record {
        unwind = u;
        is_block = h;
        reached = λ t found. here u t (first_in (code_of d) u m t listed found);
        of_body = λ t found. record {
          function = h.function;
          body = h.body;
          found = h.found;
          home_of = h.home_of;
          stands = deeper_in (code_of d) h.body.block u m (code.guard h.block u) t h.stands (suc zero, omega arith, refl) listed found;
        };
      })

  pub called-unwind : (n f : ℕ) (x : Option Target) (arguments : List ArgumentTerm) (body : CodeBody) → OfUnwindBlock d home n → statement_at (code_of d) n ≡ Some (code.call x f arguments) → body_at (code_of d) f ≡ Some body → IsHomeOf d home body
      → EachInBlock (OfUnwindBlock d home) (code_of d) body.block
  called-unwind n f x arguments body h at is home_of =
      each-from (OfUnwindBlock d home) (block_at (code_of d) body.block) (λ m listed.
      record {
        unwind = h.unwind;
        is_block = h.is_block;
        reached = λ t found. called_reached (code_of d) h.unwind f m x arguments body (code.call x f arguments) t (h.reached _ at) refl is listed found;
        of_body = λ t found. record { function = f; body = body; found = is; home_of = home_of; stands = first_in (code_of d) body.block m t listed found };
      })

-- what is said of statements goes on to the blocks in them, and to the bodies that they call
pub record IsClosed (d : Design) (P : ℕ → ℕ → Type 0) : Type 0 where
  pub inner : (home n j : ℕ) (s : Statement) → P home n → statement_at (code_of d) n ≡ Some s → Contains (inner_blocks s) j → EachInBlock (P home) (code_of d) j
  pub called : (home n f : ℕ) (x : Option Target) (arguments : List ArgumentTerm) (body : CodeBody) → P home n → statement_at (code_of d) n ≡ Some (code.call x f arguments) → body_at (code_of d) f ≡ Some body → IsHomeOf d home body
      → EachInBlock (P home) (code_of d) body.block
  pub of_body : (home n : ℕ) → P home n → OfBody d home n

pub closed-body : (d : Design) → IsClosed d (OfBody d)
closed-body d = record {
  inner = λ home n j s. inner-body d home n j s;
  called = λ home n f x arguments body h at is home_of. body-block d home f body is home_of;
  of_body = λ home n h. h;
}

pub closed-unwind : (d : Design) → IsClosed d (OfUnwindBlock d)
closed-unwind d = record {
  inner = λ home n j s. inner-unwind d home n j s;
  called = λ home n f x arguments body. called-unwind d home n f x arguments body;
  of_body = λ home n h. h.of_body;
}
