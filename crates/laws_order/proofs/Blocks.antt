-- What a process reaches is closed: it reaches the blocks of each statement that it reaches, and the bodies that it calls.
use Rattle.std.proofs.Common.{◌≡◌, ℕ, zero, suc, List, [], ◌∷◌, map, Contains, Option, Some, slice_get, refl, subst, arith}
use Rattle.sim_model.specs.FlatDesign.Code as code
use Rattle.sim_model.specs.FlatDesign.Code.{Arena, Statement, ArgumentTerm, arena_of, block_at, statement_at, body_at}
use Rattle.sim_model.specs.FlatDesign.Typed.{EachOf}
use Rattle.sim_model.specs.FlatDesign.Reach.{Reached, here, through, itself, deeper, Holds, inner_blocks}
use Rattle.sim_model.specs.FlatDesign.declared.code.CodeBody.{CodeBody}
use Rattle.sim_model.specs.FlatDesign.declared.code.Handler.{Handler}
use Rattle.sim_model.specs.FlatDesign.declared.code.Store.{Store as Target}
use Rattle.sim_model.specs.FlatDesign.declared.design.ProcessPart.{ProcessPart}
use Rattle.sim_model.specs.FlatDesign.declared.design.Design.{Design}
use Rattle.sim_model.specs.Clean.{EachInBlock, EachInHandlers}
use Rattle.laws_order.specs.Own.{IsOf}

pub each-from : {A : Type 0} (P : A → Type 0) (xs : List A) → ((x : A) → Contains xs x → P x) → EachOf P xs
each-from P [] h = tt
each-from P (x ∷ xs) h = (h x (zero, omega arith, refl), each-from P xs (λ y c. h y (let within = c.1 in (suc c.0, omega (arith, within), c.2))))

-- ---- blocks inside blocks

deeper_in : (a : Arena) (b j n : ℕ) (s t : Statement) → Holds a b s → Contains (inner_blocks s) j → Contains (block_at a j) n → statement_at a n ≡ Some t → Holds a b t
deeper_in a b j n s t h inner listed found =
    record { block = j; inside = deeper b h.block j s h.inside h.stands inner; stands = record { number = n; listed_there = listed; found = found } }

first_in : (a : Arena) (b n : ℕ) (t : Statement) → Contains (block_at a b) n → statement_at a n ≡ Some t → Holds a b t
first_in a b n t listed found = record { block = b; inside = itself b; stands = record { number = n; listed_there = listed; found = found } }

deeper_reached : (a : Arena) (b j n : ℕ) (s t : Statement) → Reached a b s → Contains (inner_blocks s) j → Contains (block_at a j) n → statement_at a n ≡ Some t → Reached a b t
deeper_reached a _ j n _ t (here b s h) inner listed found = here b t (deeper_in a b j n s t h inner listed found)
deeper_reached a _ j n _ t (through b f x arguments body s h is later) inner listed found = through b f x arguments body t h is (deeper_reached a body.block j n s t later inner listed found)

called_reached : (a : Arena) (b f n : ℕ) (x : Option Target) (arguments : List ArgumentTerm) (body : CodeBody) (s t : Statement) → Reached a b s → s ≡ code.call x f arguments → body_at a f ≡ Some body
    → Contains (block_at a body.block) n → statement_at a n ≡ Some t → Reached a b t
called_reached a _ f n x arguments body _ t (here b s h) e is listed found = through b f x arguments body t (subst (Holds a b) e h) is (here body.block t (first_in a body.block n t listed found))
called_reached a _ f n x arguments body _ t (through b g y others other s h there later) e is listed found =
    through b g y others other t h there (called_reached a other.block f n x arguments body s t later e is listed found)

-- ---- what a process reaches

module _ (d : Design) (p : ℕ) where
  abbrev a : Arena
  a = arena_of d.code

  pub inner-of : (n j : ℕ) (s : Statement) → IsOf d p n → statement_at a n ≡ Some s → Contains (inner_blocks s) j → EachInBlock (IsOf d p) a j
  inner-of n j s h at inner =
      each-from (IsOf d p) (block_at a j) (λ m listed t found.
      let r = h s at in
      record { part = r.part; body = r.body; found = r.found; begins = r.begins; reached = deeper_reached a r.body.block j m s t r.reached inner listed found })

  pub called-of : (n f : ℕ) (x : Option Target) (arguments : List ArgumentTerm) → IsOf d p n → statement_at a n ≡ Some (code.call x f arguments) → (body : CodeBody) → body_at a f ≡ Some body → EachInBlock (IsOf d p) a body.block
  called-of n f x arguments h at body is =
      each-from (IsOf d p) (block_at a body.block) (λ m listed t found.
      let r = h (code.call x f arguments) at in
      record { part = r.part; body = r.body; found = r.found; begins = r.begins; reached = called_reached a r.body.block f m x arguments body (code.call x f arguments) t r.reached refl is listed found })

  pub body-of : (part : ProcessPart) → slice_get d.processes p ≡ Some part → (body : CodeBody) → body_at a part.code ≡ Some body → EachInBlock (IsOf d p) a body.block
  body-of part found body begins =
      each-from (IsOf d p) (block_at a body.block) (λ m listed t there.
      record { part = part; body = body; found = found; begins = begins; reached = here body.block t (first_in a body.block m t listed there) })

  -- ---- the blocks of a statement, each by its place

  later : (j b : ℕ) (js : List ℕ) → Contains js j → Contains (b ∷ js) j
  later j b js c = let within = c.1 in (suc c.0, omega (arith, within), c.2)

  handlers_from : (handlers : List Handler) → ((j : ℕ) → Contains (map (λ (h : Handler). h.block) handlers) j → EachInBlock (IsOf d p) a j) → EachInHandlers (IsOf d p) a handlers
  handlers_from [] h = tt
  handlers_from (x ∷ xs) h = (h x.block (zero, omega arith, refl), handlers_from xs (λ j c. h j (later j x.block (map (λ (y : Handler). y.block) xs) c)))

  module _ (n : ℕ) (h : IsOf d p n) where
    pub chosen-of : (e : _) (b : ℕ) (other : Option ℕ) → statement_at a n ≡ Some (code.if_ e b other) → EachInBlock (IsOf d p) a b
    chosen-of e b other at = inner-of n b (code.if_ e b other) h at (zero, omega arith, refl)

    pub other-of : (e : _) (b m : ℕ) → statement_at a n ≡ Some (code.if_ e b (Some m)) → EachInBlock (IsOf d p) a m
    other-of e b m at = inner-of n m (code.if_ e b (Some m)) h at (1, omega arith, refl)

    pub looped-of : (e : _) (b : ℕ) → statement_at a n ≡ Some (code.while_ e b) → EachInBlock (IsOf d p) a b
    looped-of e b at = inner-of n b (code.while_ e b) h at (zero, omega arith, refl)

    pub guarded-of : (b u : ℕ) → statement_at a n ≡ Some (code.guard b u) → EachInBlock (IsOf d p) a b
    guarded-of b u at = inner-of n b (code.guard b u) h at (zero, omega arith, refl)

    pub unwound-of : (b u : ℕ) → statement_at a n ≡ Some (code.guard b u) → EachInBlock (IsOf d p) a u
    unwound-of b u at = inner-of n u (code.guard b u) h at (1, omega arith, refl)

    pub tried-of : (b : ℕ) (handlers : List Handler) → statement_at a n ≡ Some (code.try_ b handlers) → EachInBlock (IsOf d p) a b
    tried-of b handlers at = inner-of n b (code.try_ b handlers) h at (zero, omega arith, refl)

    pub handlers-of : (b : ℕ) (handlers : List Handler) → statement_at a n ≡ Some (code.try_ b handlers) → EachInHandlers (IsOf d p) a handlers
    handlers-of b handlers at = handlers_from handlers (λ j c. inner-of n j (code.try_ b handlers) h at (later j b (map (λ (y : Handler). y.block) handlers) c))
