-- Sets of names of a module tell what the rules ask for.
use Rattle.std.proofs.Common.{◌≡◌, ◌<◌, ℕ, Bool, true, List, [], length, map, Option, Some, None, Result, Ok, Err, IfOk, refl, sym, ap, ◌∙◌, subst}
use Rattle.model_tree.specs.Tree as tree
use Rattle.flat_design.specs.declared.code.BodyKind.{BodyKind}
use Rattle.check_expressions.specs.ModelRules.Reach.{Names, is_among, functions, names_where, has_blocking, is_caller, is_called_by, is_process_of, reached_from, roots, blocking_functions}
use Rattle.check_expressions.specs.ModelRules.Closed.{IsLeast}
use Rattle.check_reach.specs.Edges.{is_marked, IsSpread}
use Rattle.check_reach.specs.declared.edges.Edge.{Edge}
use Rattle.check_reach.specs.Flat.{flats_in, named_of, blocking_bodies}
use Rattle.check_reach.specs.Sets.{number_of, function_numbers, numbers_of, turned, edges_of, marked_at, has, Tells, TellsReached}
use Rattle.check_reach.proofs.Members.{In, same_test, in_filter_map, filter_map_in, list_from, list_at}
use Rattle.check_reach.proofs.SpreadLaws.{marks_tell}
use Rattle.check_reach.proofs.CallGraph.{name_at, number_within, number_back, numbering, forward, backward, tested_roots, blocking_roots}
use Rattle.check_reach.proofs.BeginLaws.{named_process, process_named}

module _ (items : List tree.Item) (count : ℕ) (many : count ≡ length items) where
  -- the bodies of a kind
  module _ (kind : BodyKind) (marks : List Bool) (is : IsSpread count [] (numbers_of items (named_of kind (flats_in items))) marks) where
    abbrev names : Names
    names = named_of kind (flats_in items)

    abbrev is_that : ℕ → Bool
    is_that k = is_process_of items kind (name_at items k)

    numbered : (k : ℕ) → In k (numbers_of items names) → is_that k ≡ true
    numbered k at =
        let w = in_filter_map (number_of items) names k at in
        subst (λ n. is_process_of items kind n ≡ true) (sym (number_back items w.0 k w.2)) (named_process items kind w.0 w.1)

    marked_is : (k : ℕ) → k < count → is_marked marks k ≡ true → is_that k ≡ true
    marked_is = is.least is_that (list_from is_that (numbers_of items names) numbered) (λ k below h. refl)

    has_process : (n : List ℕ) (o : Option ℕ) → number_of items n ≡ o → marked_at marks o ≡ true → is_process_of items kind n ≡ true
    has_process n None e h = cc
    has_process n (Some k) e h = subst (λ m. is_process_of items kind m ≡ true) (number_back items n k e) (marked_is k (number_within items count many n k e) h)

    process_has : (n : List ℕ) → is_process_of items kind n ≡ true → has items marks n ≡ true
    process_has n h =
        let w = process_named items kind n h in
        ap (marked_at marks) w.1.1
        ∙ list_at (is_marked marks) (numbers_of items names) is.has_roots w.1.0 (filter_map_in (number_of items) names n w.1.0 w.0 w.1.1)

    pub process_set : Tells items marks (is_process_of items kind)
    process_set n = same_test (has items marks n) (is_process_of items kind n) (λ h. has_process n (number_of items n) refl h) (process_has n)

  -- what is reached from functions
  pub reached_set : (edges : List Edge) (names : Names) (marks : List Bool) → edges ≡ edges_of items (flats_in items)
      → ((set : Names) → IsLeast is_caller (functions items) set (reached_from items set)) → IsSpread count edges (function_numbers items names) marks → TellsReached items names marks
  reached_set edges names marks is least spread test same n =
      marks_tell is_caller (functions items) (number_of items) (name_at items) count (numbering items count many) edges (forward items edges is) (roots items test) (function_numbers items names)
      (tested_roots items names test same) (least (roots items test)) marks spread n

  -- the functions that block
  pub blocking_set : (edges : List Edge) (marks : List Bool) → edges ≡ map turned (edges_of items (flats_in items))
      → IsLeast is_called_by (functions items) (names_where (has_blocking items) (functions items)) (blocking_functions items)
      → IsSpread count edges (function_numbers items (blocking_bodies items (flats_in items))) marks → Tells items marks (is_among (blocking_functions items))
  blocking_set edges marks is least spread n =
      marks_tell is_called_by (functions items) (number_of items) (name_at items) count (numbering items count many) edges (backward items edges is) (names_where (has_blocking items) (functions items))
      (function_numbers items (blocking_bodies items (flats_in items))) (blocking_roots items) least marks spread n

-- a value that is answered has what follows from what it has
pub if_ok : {X Y : Type 0} {P Q : X → Type 0} (r : Result X Y) → ((x : X) → P x → Q x) → IfOk r P → IfOk r Q
if_ok (Ok x) f h = f x h
if_ok (Err e) f h = tt
