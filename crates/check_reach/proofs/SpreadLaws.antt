-- Marks that spread along calls are those of the least closed set.
use Rattle.std.proofs.Common.{◌≡◌, ◌==◌, ◌<◌, ℕ, Bool, true, false, ◌||◌, ◌&&◌, List, [], ◌∷◌, Option, Some, None, refl, sym, ap, ◌∙◌, subst, inl, inr}
use Rattle.std.proofs.lemmas.Bool.{eq-eqb, eqb-true}
use Rattle.check_reach.specs.Edges.{is_marked, target_if, targets, IsSpread}
use Rattle.check_reach.specs.declared.edges.Edge.{Edge}
use Rattle.check_expressions.specs.ModelRules.Reach.{Body, Names, is_among, names_where, is_next, spread, rounds, closure}
use Rattle.check_expressions.specs.ModelRules.Closed.{IsWithin, IsClosed, IsLeast}
use Rattle.check_reach.specs.Sets.{edge, marked_at}
use Rattle.check_reach.proofs.Members.{In, and_true, and_both, same_test, any_in, in_any, all_from, all_at, list_from, list_at, among_in, in_among, in_where, where_in}

-- the targets of edges

target_here : (b : Bool) (j : ℕ) (more : List ℕ) → b ≡ true → In j (target_if b j more)
target_here true j more h = inl refl
target_here false j more h = cc

target_behind : (b : Bool) (t j : ℕ) (more : List ℕ) → In j more → In j (target_if b t more)
target_behind true t j more at = inr at
target_behind false t j more at = at

edge_target : (es : List Edge) (e : Edge) → In e es → In e.target (targets es e.source)
edge_target [] e at = absurd at
edge_target (d ∷ ds) e (inl is) =
    subst (λ (x : Edge). In x.target (target_if (d.source == x.source) d.target (targets ds x.source))) (sym is) (target_here (d.source == d.source) d.target (targets ds d.source) (eq-eqb d.source d.source refl))
edge_target (d ∷ ds) e (inr at) = target_behind (d.source == e.source) d.target e.target (targets ds e.source) (edge_target ds e at)

target_if_in : (d : Edge) (ds : List Edge) (k j : ℕ) (b : Bool) → (d.source == k) ≡ b → In j (target_if b d.target (targets ds k)) → (In j (targets ds k) → (e : Edge) × In e ds × (e.source ≡ k) × (e.target ≡ j))
    → (e : Edge) × In e (d ∷ ds) × (e.source ≡ k) × (e.target ≡ j)
target_if_in d ds k j true is (inl here) rest = (d, inl refl, eqb-true d.source k is, sym here)
target_if_in d ds k j true is (inr at) rest = let w = rest at in (w.0, inr w.1, w.2, w.3)
target_if_in d ds k j false is at rest = let w = rest at in (w.0, inr w.1, w.2, w.3)

target_in : (es : List Edge) (k j : ℕ) → In j (targets es k) → (e : Edge) × In e es × (e.source ≡ k) × (e.target ≡ j)
target_in [] k j at = absurd at
target_in (d ∷ ds) k j at = target_if_in d ds k j (d.source == k) refl at (target_in ds k j)

-- a closure has functions alone
module _ (leads : Body → Body → Bool) (fs : List Body) where
  rounds_only : (gs : List Body) (set : Names) → ((n : List ℕ) → In n set → (b : Body) × In b fs × (n ≡ b.name)) → (n : List ℕ) → In n (rounds gs (spread leads fs) set) → (b : Body) × In b fs × (n ≡ b.name)
  rounds_only [] set only n at = only n at
  rounds_only (g ∷ gs) set only n at =
      rounds_only gs (spread leads fs set)
      (λ m there. let w = in_where (λ (b : Body). is_among set b.name || is_next leads fs set b) fs m there in (w.0, w.1, w.3)) n at

  pub closure_only : (set : Names) → ((n : List ℕ) → In n set → (b : Body) × In b fs × (n ≡ b.name)) → (n : List ℕ) → In n (closure leads fs set) → (b : Body) × In b fs × (n ≡ b.name)
  closure_only set only n at = rounds_only fs set only n at

-- marks on the numbers of names, where edges are as one function leads to another
pub record AreEdges (leads : Body → Body → Bool) (fs : List Body) (number : List ℕ → Option ℕ) (edges : List Edge) : Type 0 where
  pub to : (c b : Body) (k j : ℕ) → In c fs → In b fs → leads c b ≡ true → number c.name ≡ Some k → number b.name ≡ Some j → In (edge k j) edges
  pub from : (e : Edge) → In e edges → (c : Body) × (b : Body) × In c fs × In b fs × (leads c b ≡ true) × (number c.name ≡ Some e.source) × (number b.name ≡ Some e.target)

pub record AreRoots (fs : List Body) (number : List ℕ → Option ℕ) (names : Names) (numbers : List ℕ) : Type 0 where
  pub to : (b : Body) (k : ℕ) → In b fs → In b.name names → number b.name ≡ Some k → In k numbers
  pub from : (k : ℕ) → In k numbers → (b : Body) × In b fs × In b.name names × (number b.name ≡ Some k)
  pub only : (n : List ℕ) → In n names → (b : Body) × In b fs × (n ≡ b.name)

pub record IsNumbering (fs : List Body) (number : List ℕ → Option ℕ) (name_at : ℕ → List ℕ) (count : ℕ) : Type 0 where
  pub within : (n : List ℕ) (k : ℕ) → number n ≡ Some k → k < count
  pub back : (n : List ℕ) (k : ℕ) → number n ≡ Some k → name_at k ≡ n
  pub all : (b : Body) → In b fs → (k : ℕ) × (number b.name ≡ Some k)

module _ (leads : Body → Body → Bool) (fs : List Body) (number : List ℕ → Option ℕ) (name_at : ℕ → List ℕ) (count : ℕ) (numbering : IsNumbering fs number name_at count)
    (edges : List Edge) (along : AreEdges leads fs number edges) (names : Names) (numbers : List ℕ) (roots : AreRoots fs number names numbers)
    (least : IsLeast leads fs names (closure leads fs names)) (marks : List Bool) (is : IsSpread count edges numbers marks) where
  abbrev set : Names
  set = closure leads fs names

  abbrev inside : ℕ → Bool
  inside k = is_among set (name_at k)

  root_inside : (k : ℕ) → In k numbers → inside k ≡ true
  root_inside k at =
      let r = roots.from k at in
      subst (λ n. is_among set n ≡ true) (sym (numbering.back r.0.name k r.3))
      (all_at (λ (b : Body). is_among names b.name ≡ true → is_among set b.name ≡ true) fs least.has_roots r.0 r.1 (in_among names r.0.name r.2))

  next_inside : (k : ℕ) → inside k ≡ true → (j : ℕ) → In j (targets edges k) → inside j ≡ true
  next_inside k h j at =
      let t = target_in edges k j at in
      let f = along.from t.0 t.1 in
      let caller : is_among set f.0.name ≡ true =
      subst (λ n. is_among set n ≡ true) (numbering.back f.0.name k (f.5 ∙ ap Some t.2)) h in
      let next : is_next leads fs set f.1 ≡ true =
      in_any (λ (c : Body). is_among set c.name && leads c f.1) fs f.0 f.2 (and_both (is_among set f.0.name) (leads f.0 f.1) caller f.4) in
      subst (λ n. is_among set n ≡ true) (sym (numbering.back f.1.name j (f.6 ∙ ap Some t.3)))
      (all_at (λ (b : Body). is_next leads fs set b ≡ true → is_among set b.name ≡ true) fs least.closed f.1 f.3 next)

  marked_inside : (k : ℕ) → k < count → is_marked marks k ≡ true → inside k ≡ true
  marked_inside = is.least inside (list_from inside numbers root_inside) (λ k below h. list_from inside (targets edges k) (next_inside k h))

  -- the functions that are marked
  abbrev is_marked_body : Body → Bool
  is_marked_body b = marked_at marks (number b.name)

  abbrev marked : Names
  marked = names_where is_marked_body fs

  marked_name : (n : List ℕ) → is_among marked n ≡ true → marked_at marks (number n) ≡ true
  marked_name n h =
      let w = in_where is_marked_body fs n (among_in marked n h) in
      subst (λ m. marked_at marks (number m) ≡ true) (sym w.3) w.2

  at_number : (n : List ℕ) (k : ℕ) → number n ≡ Some k → is_marked marks k ≡ true → marked_at marks (number n) ≡ true
  at_number n k e h = ap (marked_at marks) e ∙ h

  of_number : (n : List ℕ) (k : ℕ) → number n ≡ Some k → marked_at marks (number n) ≡ true → is_marked marks k ≡ true
  of_number n k e h = sym (ap (marked_at marks) e) ∙ h

  among_marked : (b : Body) (k : ℕ) → In b fs → number b.name ≡ Some k → is_marked marks k ≡ true → is_among marked b.name ≡ true
  among_marked b k at e h = in_among marked b.name (where_in is_marked_body fs b at (at_number b.name k e h))

  roots_marked : IsWithin fs names marked
  roots_marked = all_from (λ (b : Body). is_among names b.name ≡ true → is_among marked b.name ≡ true) fs (λ b at h.
      let n = numbering.all b at in
      among_marked b n.0 at n.1 (list_at (is_marked marks) numbers is.has_roots n.0 (roots.to b n.0 at (among_in names b.name h) n.1)))

  marked_closed : IsClosed leads fs marked
  marked_closed = all_from (λ (b : Body). is_next leads fs marked b ≡ true → is_among marked b.name ≡ true) fs (λ b at next.
      let w = any_in (λ (c : Body). is_among marked c.name && leads c b) fs next in
      let c = w.0 in
      let h = and_true (is_among marked c.name) (leads c b) w.2 in
      let k = numbering.all c w.1 in
      let j = numbering.all b at in
      let here = of_number c.name k.0 k.1 (marked_name c.name h.0) in
      let there = edge_target edges (edge k.0 j.0) (along.to c b k.0 j.0 w.1 at h.1 k.1 j.1) in
      among_marked b j.0 at j.1 (list_at (is_marked marks) (targets edges k.0) (is.closed k.0 (numbering.within c.name k.0 k.1) here) j.0 there))

  to_set : (n : List ℕ) (o : Option ℕ) → number n ≡ o → marked_at marks o ≡ true → is_among set n ≡ true
  to_set n None e h = cc
  to_set n (Some k) e h = subst (λ m. is_among set m ≡ true) (numbering.back n k e) (marked_inside k (numbering.within n k e) h)

  to_marks : (n : List ℕ) → is_among set n ≡ true → marked_at marks (number n) ≡ true
  to_marks n h =
      let w = closure_only leads fs names roots.only n (among_in set n h) in
      let here : is_among set w.0.name ≡ true = subst (λ m. is_among set m ≡ true) w.2 h in
      let there = all_at (λ (b : Body). is_among set b.name ≡ true → is_among marked b.name ≡ true) fs (least.least marked roots_marked marked_closed) w.0 w.1 here in
      subst (λ m. marked_at marks (number m) ≡ true) (sym w.2) (marked_name w.0.name there)

  pub marks_tell : (n : List ℕ) → marked_at marks (number n) ≡ is_among set n
  marks_tell n = same_test (marked_at marks (number n)) (is_among set n) (λ h. to_set n (number n) refl h) (to_marks n)
