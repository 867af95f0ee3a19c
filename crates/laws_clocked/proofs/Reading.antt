-- What the statements of a tree are read as: the numbers that each takes, and the code of those that hold no others.
use Rattle.std.proofs.Common.{◌≡◌, ℕ, List, [], ◌∷◌, ◌++◌, Option, Some, refl, sym, ap, ◌∙◌, subst, arith}
use Rattle.std.specs.Prelude.{unwrap_or, slice_get, Contains}
use Rattle.std.proofs.lemmas.List.Elements.{Contains-append_right}
use Rattle.code_rules.specs.ModelTree.Tree as tree
use Rattle.code_rules.specs.FlatDesign.Code as code
use Rattle.code_rules.specs.FlatDesign.Code.{Arena, block_at, statement_at}
use Rattle.code_rules.specs.ModelRules.Scopes.{Scope}
use Rattle.code_rules.specs.Deeds.{Home}
use Rattle.code_rules.specs.Numbered.{AreFirst, IsFirst, IsCoded, IsStatement}

-- ---- numbers

-- the first of the numbers is that of this statement, and the others are left
pub record Leads (a : Arena) (f : code.Statement) (ids rest : List ℕ) : Type 0 where
  pub number : ℕ
  pub numbers : ids ≡ number ∷ rest
  pub found : statement_at a number ≡ Some f

pub first_is : (a : Arena) (f : code.Statement) (ids rest : List ℕ) → IsFirst a f ids rest → Leads a f ids rest
first_is a f ids rest k = record { number = k.0; numbers = k.2 ∙ ap (λ (xs : List ℕ). k.0 ∷ xs) k.4; found = k.3 }

same_found : (fs gs : List code.Statement) → Some fs ≡ Some gs → gs ≡ fs
same_found fs gs e = cc

pub coded_is : (a : Arena) (o : Option (List code.Statement)) (f : code.Statement) (ids rest : List ℕ) → o ≡ Some (f ∷ []) → IsCoded a o ids rest → Leads a f ids rest
coded_is a o f ids rest e k =
    first_is a f ids rest (subst (λ fs. AreFirst a fs ids rest) (same_found (f ∷ []) k.0 (sym e ∙ k.1)) k.2)

pub block_is : (a : Arena) (b : ℕ) (ids : List ℕ) → slice_get a.blocks b ≡ Some ids → block_at a b ≡ ids
block_is a b ids e = ap (λ o. unwrap_or o []) e

-- ---- the numbers that statements take

-- the statement takes these numbers, whatever stands behind it
pub record Takes (x : tree.Statement) (h : Home) (a : Arena) (s : Scope) (ids rest : List ℕ) : Type 0 where
  pub own : List ℕ
  pub numbers : ids ≡ own ++ rest
  pub reads : (other : List ℕ) → IsStatement x h a s (own ++ other) other

firsts : (a : Arena) (fs : List code.Statement) (ids rest : List ℕ) → AreFirst a fs ids rest → (own : List ℕ) × (ids ≡ own ++ rest) × ((other : List ℕ) → AreFirst a fs (own ++ other) other)
firsts a [] ids rest k = ([], k, λ other. refl)
firsts a (f ∷ fs) ids rest k =
    let more = firsts a fs k.1 rest k.4 in
    (k.0 ∷ more.0, k.2 ∙ ap (λ (xs : List ℕ). k.0 ∷ xs) more.1, λ other. (k.0, more.0 ++ other, refl, k.3, more.2 other))

pub takes : (x : tree.Statement) (h : Home) (a : Arena) (s : Scope) (ids rest : List ℕ) → IsStatement x h a s ids rest → Takes x h a s ids rest
takes (tree.var line t name e) h a s ids rest k = let o = firsts a k.0 ids rest k.2 in record { own = o.0; numbers = o.1; reads = λ other. (k.0, k.1, o.2 other) }
takes (tree.assign line target e) h a s ids rest k = let o = firsts a k.0 ids rest k.2 in record { own = o.0; numbers = o.1; reads = λ other. (k.0, k.1, o.2 other) }
takes (tree.operate line name at x) h a s ids rest k = let o = firsts a k.0 ids rest k.2 in record { own = o.0; numbers = o.1; reads = λ other. (k.0, k.1, o.2 other) }
takes (tree.act line x) h a s ids rest k = let o = firsts a k.0 ids rest k.2 in record { own = o.0; numbers = o.1; reads = λ other. (k.0, k.1, o.2 other) }
takes (tree.if_ line e body other) h a s ids rest k =
    let o = firsts a (code.if_ k.0 k.1 k.2 ∷ []) ids rest k.4 in
    record { own = o.0; numbers = o.1; reads = λ xs. (k.0, k.1, k.2, k.3, o.2 xs, k.5, k.6) }
takes (tree.while_ line e body) h a s ids rest k =
    let o = firsts a (code.while_ k.0 k.1 ∷ []) ids rest k.3 in
    record { own = o.0; numbers = o.1; reads = λ xs. (k.0, k.1, k.2, o.2 xs, k.4) }
takes (tree.guard line body undo) h a s ids rest k =
    let o = firsts a (code.guard k.0 k.1 ∷ []) ids rest k.2 in
    record { own = o.0; numbers = o.1; reads = λ xs. (k.0, k.1, o.2 xs, k.3, k.4) }
takes (tree.try_ line body handlers) h a s ids rest k =
    let o = firsts a (code.try_ k.0 k.1 ∷ []) ids rest k.2 in
    record { own = o.0; numbers = o.1; reads = λ xs. (k.0, k.1, o.2 xs, k.3, k.4) }

-- what is left of the numbers is among them
pub among_rest : (x : tree.Statement) (h : Home) (a : Arena) (s : Scope) (ids rest : List ℕ) → IsStatement x h a s ids rest → (n : ℕ) → Contains rest n → Contains ids n
among_rest x h a s ids rest k n there =
    let o = takes x h a s ids rest k in
    subst (λ xs. Contains xs n) (sym o.numbers) (Contains-append_right o.own rest n there)

-- ---- members of lists

pub at_head : {A : Type 0} (x : A) (xs : List A) → Contains (x ∷ xs) x
at_head x xs = (0, omega arith, refl)

pub behind_head : {A : Type 0} (x y : A) (xs : List A) → Contains xs y → Contains (x ∷ xs) y
behind_head x y xs k = Contains-append_right (x ∷ []) xs y k
