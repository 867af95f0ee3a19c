-- Where the lists begin.
use Rattle.std.proofs.Common.{◌≡◌, ℕ, zero, suc, ◌+◌, ◌<◌, ◌≤◌, ◌≢◌, Bool, true, false, true≢false, cond, List, [], ◌∷◌, ◌++◌, map, length, set, get_or, Option, Some, None, refl, sym, ap, ◌∙◌, subst, arith, eq-eqb, ne_eqb, ⊎_elim}
use Rattle.std.specs.Prelude.{◌==◌, is_some, unwrap_or}
use Rattle.std.proofs.lemmas.Bool.{cases_eq}
use Rattle.std.proofs.lemmas.List.{length-map}
use Rattle.std.proofs.lemmas.Option.{slice_get_past, slice_get-get_or}
use Rattle.std.specs.declared.cmp.Ordering.TheVariants.{Less}
use Rattle.std.specs.Ordering.{nat_cmp, eq_by_cmp, is_eq}
use Rattle.std.specs.Cmp.{nat_cmp_total, unsigned_tied, eq_by_cmp_equiv}
use Rattle.std.specs.FinMap as maps
use Rattle.std.specs.FinMap.Entries.{find-put}
use Rattle.numbered_slots.proofs.MapLemmas.{ties_itself, ties_no_other}
use Rattle.room_map.specs.Entries.{AllAbove, IsRising, without}
use Rattle.wait_lists.specs.Chains.{none, free, Link, Links, has_tag, IsList}
use Rattle.wait_lists.specs.declared.heads.Firsts.{Firsts}
use Rattle.wait_lists.specs.Nodes.{node_or, at_tag, begins_at, first_of, first_in, IsHeads, HasLists}
use Rattle.wait_lists.proofs.Places.{slice_get-set_same, slice_get-set_other}
use Rattle.wait_lists.proofs.Counted.{times, times-same, times-other}
use Rattle.wait_lists.proofs.Chains.{In, Once, lives, few-below}

module _ {V : Type 0} where
  twice : (b : Bool) (x y z : Option V) → cond b x z ≡ cond b x (cond b y z)
  twice true x y z = refl
  twice false x y z = refl

  apart_both : (b c : Bool) (x y z : Option V) → (c ≡ true → b ≡ true → ⊥) → cond b x (cond c y z) ≡ cond c y (cond b x z)
  apart_both true true x y z never = absurd (never refl refl)
  apart_both true false x y z never = refl
  apart_both false true x y z never = refl
  apart_both false false x y z never = refl

  pub find-without : (k q : ℕ) (es : List (ℕ × V)) → maps.find nat_cmp q (without nat_cmp k es) ≡ cond (eq_by_cmp nat_cmp q k) None (maps.find nat_cmp q es)
  find-without k q [] = elim (eq_by_cmp nat_cmp q k) as (λ b. ◌≡◌ {A = Option V} None (cond b None None)) [ true ↦ refl | false ↦ refl ]
  find-without k q (e ∷ es) = elim (eq_by_cmp nat_cmp k e.0) as (λ b. eq_by_cmp nat_cmp k e.0 ≡ b → maps.find nat_cmp q (cond b (without nat_cmp k es) (e ∷ without nat_cmp k es)) ≡ cond (eq_by_cmp nat_cmp q k) None (cond (eq_by_cmp nat_cmp q e.0) (Some e.1) (maps.find nat_cmp q es))) [
    | true ↦ λ tied. find-without k q es ∙ twice (eq_by_cmp nat_cmp q k) None (Some e.1) (maps.find nat_cmp q es)
        ∙ ap (λ b. cond (eq_by_cmp nat_cmp q k) None (cond b (Some e.1) (maps.find nat_cmp q es))) (alike tied)
    | false ↦ λ apart. ap (cond (eq_by_cmp nat_cmp q e.0) (Some e.1)) (find-without k q es)
        ∙ apart_both (eq_by_cmp nat_cmp q e.0) (eq_by_cmp nat_cmp q k) (Some e.1) None (maps.find nat_cmp q es) (λ with_k with_e. true≢false (sym (joined with_k with_e) ∙ apart))
  ] refl
    where
      alike : eq_by_cmp nat_cmp k e.0 ≡ true → eq_by_cmp nat_cmp q k ≡ eq_by_cmp nat_cmp q e.0
      alike tied = (eq_by_cmp_equiv nat_cmp_total).symm q k ∙ (eq_by_cmp_equiv nat_cmp_total).congr k e.0 q tied ∙ (eq_by_cmp_equiv nat_cmp_total).symm e.0 q

      joined : eq_by_cmp nat_cmp q k ≡ true → eq_by_cmp nat_cmp q e.0 ≡ true → eq_by_cmp nat_cmp k e.0 ≡ true
      joined with_k with_e = sym ((eq_by_cmp_equiv nat_cmp_total).congr q k e.0 with_k) ∙ with_e

unwrapped : (b : Bool) (x y : Option ℕ) (n m : ℕ) → unwrap_or x none ≡ n → unwrap_or y none ≡ m → unwrap_or (cond b x y) none ≡ cond b n m
unwrapped true x y n m p q = p
unwrapped false x y n m p q = q

pub firsts-put : (es : List (ℕ × ℕ)) (code first c : ℕ) → unwrap_or (maps.find nat_cmp c (maps.put nat_cmp code first es)) none ≡ cond (c == code) first (unwrap_or (maps.find nat_cmp c es) none)
firsts-put es code first c =
    ap (λ o. unwrap_or o none) (find-put nat_cmp nat_cmp_total c code first es)
    ∙ unwrapped (eq_by_cmp nat_cmp c code) (Some first) (maps.find nat_cmp c es) first (unwrap_or (maps.find nat_cmp c es) none) refl refl
    ∙ ap (λ b. cond b first (unwrap_or (maps.find nat_cmp c es) none)) (unsigned_tied c code)

pub firsts-without : (es : List (ℕ × ℕ)) (code first c : ℕ) → first ≡ none → unwrap_or (maps.find nat_cmp c (without nat_cmp code es)) none ≡ cond (c == code) first (unwrap_or (maps.find nat_cmp c es) none)
firsts-without es code first c is =
    ap (λ o. unwrap_or o none) (find-without code c es)
    ∙ unwrapped (eq_by_cmp nat_cmp c code) None (maps.find nat_cmp c es) first (unwrap_or (maps.find nat_cmp c es) none) (sym is) refl
    ∙ ap (λ b. cond b first (unwrap_or (maps.find nat_cmp c es) none)) (unsigned_tied c code)

near-past : (near : List ℕ) (c : ℕ) → length near ≤ c → at_tag near c ≡ none
near-past near c past = ap (λ o. unwrap_or o none) (slice_get_past near c past)

pub near-written : (near : List ℕ) (code first : ℕ) → code < length near → at_tag (set near code first) code ≡ first
near-written near code first inside =
    let old = slice_get-get_or near code 0 inside in
    ap (λ o. unwrap_or o none) (slice_get-set_same near code (get_or near code 0) first old)

pub near-other : (near : List ℕ) (code first c : ℕ) → c ≢ code → at_tag (set near code first) c ≡ at_tag near c
near-other near code first c apart = ap (λ o. unwrap_or o none) (slice_get-set_other near code c first apart)

pub near-push : (near : List ℕ) (c : ℕ) → at_tag (near ++ none ∷ []) c ≡ at_tag near c
near-push [] zero = refl
near-push [] (suc c) = refl
near-push (x ∷ near) zero = refl
near-push (x ∷ near) (suc c) = near-push near c

none-other : (first : ℕ) → node_or first none ≡ first
none-other first = ⊎_elim
    (λ (e : first ≡ none). ap (λ b. cond b none first) (eq-eqb first none e) ∙ sym e)
    (λ apart. ap (λ b. cond b none first) (ne_eqb first none apart))
    (cases_eq first none)

-- a list that begins at the place of its tag now, or nowhere
pub firsts-near : (f g : Firsts) (code first : ℕ) → code < length f.near.items → g.near.items ≡ set f.near.items code first → g.far.entries ≡ without nat_cmp code f.far.entries
    → (c : ℕ) → first_of g c ≡ cond (c == code) first (first_of f c)
firsts-near f g code first inside near far c = (λ i. begins_at (near i) (far i) c) ∙ ⊎_elim
    (λ (e : c ≡ code). ap (begins_at now gone) e
    ∙ (λ i. node_or (near-written f.near.items code first inside i) ((firsts-without f.far.entries code none code refl ∙ ap (λ b. cond b none (unwrap_or (maps.find nat_cmp code f.far.entries) none)) (eq-eqb code code refl)) i))
    ∙ none-other first ∙ sym (ap (λ b. cond b first (first_of f c)) (eq-eqb c code e)))
    (λ apart. (λ i. node_or (near-other f.near.items code first c apart i) ((firsts-without f.far.entries code none c refl ∙ ap (λ b. cond b none (unwrap_or (maps.find nat_cmp c f.far.entries) none)) (ne_eqb c code apart)) i))
    ∙ sym (ap (λ b. cond b first (first_of f c)) (ne_eqb c code apart)))
    (cases_eq c code)
  where
    now : List ℕ
    now = set f.near.items code first

    gone : List (ℕ × ℕ)
    gone = without nat_cmp code f.far.entries

-- a list that has no place for its tag begins by the map now
pub firsts-far : (f g : Firsts) (code first : ℕ) → length f.near.items ≤ code → g.near.items ≡ f.near.items
    → ((c : ℕ) → unwrap_or (maps.find nat_cmp c g.far.entries) none ≡ cond (c == code) first (unwrap_or (maps.find nat_cmp c f.far.entries) none))
    → (c : ℕ) → first_of g c ≡ cond (c == code) first (first_of f c)
firsts-far f g code first past near far c = ap (λ l. node_or (at_tag l c) (unwrap_or (maps.find nat_cmp c g.far.entries) none)) near ∙ ⊎_elim
    (λ (e : c ≡ code). (λ i. node_or (near-past f.near.items c (omega (arith, e, past)) i) ((far c ∙ ap (λ b. cond b first (unwrap_or (maps.find nat_cmp c f.far.entries) none)) (eq-eqb c code e)) i))
    ∙ sym (ap (λ b. cond b first (first_of f c)) (eq-eqb c code e)))
    (λ apart. ap (node_or (at_tag f.near.items c)) (far c ∙ ap (λ b. cond b first (unwrap_or (maps.find nat_cmp c f.far.entries) none)) (ne_eqb c code apart))
    ∙ sym (ap (λ b. cond b first (first_of f c)) (ne_eqb c code apart)))
    (cases_eq c code)

-- where a list that has no place for its tag is not in the map, it is empty
pub firsts-absent : (f : Firsts) (code : ℕ) → length f.near.items ≤ code → maps.find nat_cmp code f.far.entries ≡ None → first_of f code ≡ none
firsts-absent f code past absent = λ i. node_or (near-past f.near.items code past i) (unwrap_or (absent i) none)

pub heads-put : (f g : Firsts) (code first : ℕ) → IsHeads f → 1 < code → first ≢ none → length f.near.items ≤ code → g.near.items ≡ f.near.items
    → g.far.entries ≡ maps.put nat_cmp code first f.far.entries → IsRising nat_cmp g.far.entries → IsHeads g
heads-put f g code first heads event there past near is rising = record {
  rising = rising;
  begins = λ c h found. (by_test c h (eq_by_cmp nat_cmp c code) refl (split c h found)).0;
  alone = λ c h found. (by_test c h (eq_by_cmp nat_cmp c code) refl (split c h found)).1;
}
  where
    split : (c h : ℕ) → maps.find nat_cmp c g.far.entries ≡ Some h → cond (eq_by_cmp nat_cmp c code) (Some first) (maps.find nat_cmp c f.far.entries) ≡ Some h
    split c h found = sym (ap (maps.find nat_cmp c) is ∙ find-put nat_cmp nat_cmp_total c code first f.far.entries) ∙ found

    by_test : (c h : ℕ) (b : Bool) → eq_by_cmp nat_cmp c code ≡ b → cond b (Some first) (maps.find nat_cmp c f.far.entries) ≡ Some h → ((1 < c) × (h ≢ none)) × (at_tag g.near.items c ≡ none)
    by_test c h true tied found =
        let same : first ≡ h = cc in
        let key : c ≡ code = ⊎_elim (λ e. e) (λ apart. absurd (true≢false (sym tied ∙ ties_no_other c code apart))) (cases_eq c code) in
        ((omega arith, λ e. there (same ∙ e)), ap (λ l. at_tag l c) near ∙ near-past f.near.items c (omega (arith, key, past)))
    by_test c h false apart found = (heads.begins c h found, ap (λ l. at_tag l c) near ∙ heads.alone c h found)

pub heads-without : (f g : Firsts) (code : ℕ) → IsHeads f → ((c : ℕ) → c ≢ code → at_tag g.near.items c ≡ at_tag f.near.items c)
    → g.far.entries ≡ without nat_cmp code f.far.entries → IsRising nat_cmp g.far.entries → IsHeads g
heads-without f g code heads near is rising = record {
  rising = rising;
  begins = λ c h found. heads.begins c h (left c h found).1;
  alone = λ c h found. let old = left c h found in near c old.0 ∙ heads.alone c h old.1;
}
  where
    by_test : (c h : ℕ) (b : Bool) → eq_by_cmp nat_cmp c code ≡ b → cond b None (maps.find nat_cmp c f.far.entries) ≡ Some h → (c ≢ code) × (maps.find nat_cmp c f.far.entries ≡ Some h)
    by_test c h true tied found = let e : None ≡ Some h = found in cc
    by_test c h false apart found = (λ e. true≢false (sym (ties_itself c code e) ∙ apart), found)

    left : (c h : ℕ) → maps.find nat_cmp c g.far.entries ≡ Some h → (c ≢ code) × (maps.find nat_cmp c f.far.entries ≡ Some h)
    left c h found = by_test c h (eq_by_cmp nat_cmp c code) refl (sym (ap (maps.find nat_cmp c) is ∙ find-without code c f.far.entries) ∙ found)

-- the same places and the same map
pub first-same : (f g : Firsts) (fr : ℕ) → g.far.entries ≡ f.far.entries → ((c : ℕ) → at_tag g.near.items c ≡ at_tag f.near.items c) → (c : ℕ) → first_in g fr c ≡ first_in f fr c
first-same f g fr far near c = λ i. cond (c == free) fr (node_or (near c i) (unwrap_or (maps.find nat_cmp c (far i)) none))

pub heads-same : (f g : Firsts) → g.far.entries ≡ f.far.entries → ((c : ℕ) → at_tag g.near.items c ≡ at_tag f.near.items c) → IsHeads f → IsHeads g
heads-same f g far near heads = record {
  rising = let P : List (ℕ × ℕ) → Type 0 = λ l. IsRising nat_cmp l in subst P (sym far) heads.rising;
  begins = λ c h found. heads.begins c h (sym (ap (maps.find nat_cmp c) far) ∙ found);
  alone = λ c h found. near c ∙ heads.alone c h (sym (ap (maps.find nat_cmp c) far) ∙ found);
}

-- each list's first node has its tag
abbrev AllTagged : Links → List (ℕ × ℕ) → Type 0
AllTagged E [] = Unit {0}
AllTagged E (e ∷ es) = (has_tag e.0 (E e.1) ≡ true) × AllTagged E es

abbrev firsts : List (ℕ × ℕ) → List ℕ
firsts es = map (λ e. e.1) es

two_tags : (c d : ℕ) (o : Option Link) → has_tag c o ≡ true → has_tag d o ≡ true → c ≡ d
two_tags c d None is also = absurd (true≢false (sym is))
two_tags c d (Some k) is also = ⊎_elim
    (λ (e : k.tag ≡ c). ⊎_elim (λ (f : k.tag ≡ d). sym e ∙ f) (λ far. absurd (true≢false (sym also ∙ ne_eqb k.tag d far))) (cases_eq k.tag d))
    (λ far. absurd (true≢false (sym is ∙ ne_eqb k.tag c far)))
    (cases_eq k.tag c)

not_less : (c d : ℕ) → nat_cmp c d ≡ Less → c ≢ d
not_less c d less e = true≢false (sym (ties_itself c d e) ∙ ap is_eq less)

module _ (E : Links) where
  none-above : (c j : ℕ) (es : List (ℕ × ℕ)) → AllAbove nat_cmp c es → AllTagged E es → has_tag c (E j) ≡ true → times j (firsts es) ≡ 0
  none-above c j [] above tagged is = refl
  none-above c j (e ∷ es) above tagged is = ⊎_elim
      (λ (same : e.1 ≡ j). absurd (not_less c e.0 above.0 (two_tags c e.0 (E j) is (ap (λ k. has_tag e.0 (E k)) (sym same) ∙ tagged.0))))
      (λ apart. times-other j e.1 (firsts es) apart ∙ none-above c j es above.1 tagged.1 is)
      (cases_eq e.1 j)

  once-firsts : (es : List (ℕ × ℕ)) → IsRising nat_cmp es → AllTagged E es → Once (firsts es)
  once-firsts [] rising tagged j = omega arith
  once-firsts (e ∷ es) rising tagged j = ⊎_elim
      (λ (same : e.1 ≡ j). omega (arith, times-same j e.1 (firsts es) same, none-above e.0 j es rising.0 tagged.1 (ap (λ k. has_tag e.0 (E k)) (sym same) ∙ tagged.0)))
      (λ apart. omega (arith, times-other j e.1 (firsts es) apart, once-firsts es rising.1 tagged.1 j))
      (cases_eq e.1 j)

  find_behind : (e : ℕ × ℕ) (es : List (ℕ × ℕ)) (q at : ℕ) → AllAbove nat_cmp e.0 es → maps.find nat_cmp q es ≡ Some at → maps.find nat_cmp q (e ∷ es) ≡ Some at
  find_behind e es q at above there = ⊎_elim
      (λ (same : q ≡ e.0). absurd (not_found e.0 q es above same (ap is_some there)))
      (λ apart. ap (λ b. cond b (Some e.1) (maps.find nat_cmp q es)) (ties_no_other q e.0 apart) ∙ there)
      (cases_eq q e.0)
    where
      not_found : (c k : ℕ) (fs : List (ℕ × ℕ)) → AllAbove nat_cmp c fs → k ≡ c → is_some (maps.find nat_cmp k fs) ≡ true → ⊥
      not_found c k [] above same is = true≢false (sym is)
      not_found c k (f ∷ fs) above same is = not_found c k fs above.1 same
          (sym (ap (λ b. is_some (cond b (Some f.1) (maps.find nat_cmp k fs))) (ties_no_other k f.0 (λ g. not_less c f.0 above.0 (sym same ∙ g)))) ∙ is)

  all-tagged : (es : List (ℕ × ℕ)) → IsRising nat_cmp es → ((c h : ℕ) → maps.find nat_cmp c es ≡ Some h → has_tag c (E h) ≡ true) → AllTagged E es
  all-tagged [] rising each = tt
  all-tagged (e ∷ es) rising each = (
    each e.0 e.1 (ap (λ b. cond b (Some e.1) (maps.find nat_cmp e.0 es)) (ties_itself e.0 e.0 refl)),
    all-tagged es rising.1 (λ c h found. each c h (find_behind e es c h rising.0 found)),
  )

  none-first : (c j : ℕ) (es : List (ℕ × ℕ)) → AllTagged E es → has_tag c (E j) ≡ true → maps.find nat_cmp c es ≡ None → times j (firsts es) ≡ 0
  none-first c j [] tagged is absent = refl
  none-first c j (e ∷ es) tagged is absent = ⊎_elim
      (λ (same : e.1 ≡ j). let key : c ≡ e.0 = two_tags c e.0 (E j) is (ap (λ k. has_tag e.0 (E k)) (sym same) ∙ tagged.0) in
      let e : None ≡ Some e.1 = sym absent ∙ ap (λ b. cond b (Some e.1) (maps.find nat_cmp c es)) (ties_itself c e.0 key) in cc)
      (λ apart. times-other j e.1 (firsts es) apart ∙ none-first c j es tagged.1 is (behind (eq_by_cmp nat_cmp c e.0) absent))
      (cases_eq e.1 j)
    where
      behind : (b : Bool) → cond b (Some e.1) (maps.find nat_cmp c es) ≡ None → maps.find nat_cmp c es ≡ None
      behind true is = let e : Some e.1 ≡ None = is in cc
      behind false is = is

  first-some : (c first : ℕ) (ns : List ℕ) → IsList E c first ns → first ≢ none → has_tag c (E first) ≡ true
  first-some c first [] list there = absurd (there list.goes)
  first-some c first (x ∷ xs) list there =
      let begins : first ≡ x = list.goes.0 in
      ap (λ k. has_tag c (E k)) begins ∙ lives E c first (x ∷ xs) list x (omega (arith, times-same x x xs refl))

  -- where a node stands for no event, there are fewer lists than nodes
  pub lists-few : (f : Firsts) (fr n i c : ℕ) → IsHeads f → HasLists E f fr → ((j : ℕ) → is_some (E j) ≡ true → j < n) → has_tag c (E i) ≡ true → maps.find nat_cmp c f.far.entries ≡ None → length f.far.entries + 1 ≤ n
  lists-few f fr n i c heads lists below is absent =
      let tagged : AllTagged E es = all-tagged es heads.rising (λ d h found. tag_there d h found) in
      let away : times i (firsts es) ≡ 0 = none-first c i es tagged is absent in
      let few : length (i ∷ firsts es) ≤ n = few-below n (i ∷ firsts es)
      (λ j. ⊎_elim
      (λ (same : i ≡ j). omega (arith, times-same j i (firsts es) same, ap (λ k. times k (firsts es)) (sym same) ∙ away))
      (λ apart. omega (arith, times-other j i (firsts es) apart, once-firsts es heads.rising tagged j))
      (cases_eq i j))
      (λ j m. ⊎_elim
      (λ (same : i ≡ j). below j (ap (λ k. is_some (E k)) (sym same) ∙ there c (E i) is))
      (λ apart. below j (all-there es tagged j (omega (arith, times-other j i (firsts es) apart))))
      (cases_eq i j)) in
      omega (arith, length-map es (λ (e : ℕ × ℕ). e.1))
    where
      es : List (ℕ × ℕ)
      es = f.far.entries

      there : (d : ℕ) (o : Option Link) → has_tag d o ≡ true → is_some o ≡ true
      there d None is = is
      there d (Some l) is = refl

      tag_there : (d h : ℕ) → maps.find nat_cmp d es ≡ Some h → has_tag d (E h) ≡ true
      tag_there d h found =
          let one = heads.begins d h found in
          let begins : first_in f fr d ≡ h = ap (λ b. cond b fr (first_of f d)) (ne_eqb d free (λ e. absurd (omega (arith, one.0))))
          ∙ (λ i. node_or (heads.alone d h found i) (unwrap_or (found i) none)) in
          let all = lists d (omega (arith, one.0)) in
          ap (λ k. has_tag d (E k)) (sym begins) ∙ first-some d (first_in f fr d) all.0 all.1 (λ e. one.1 (sym begins ∙ e))

      all-there : (fs : List (ℕ × ℕ)) → AllTagged E fs → (j : ℕ) → In j (firsts fs) → is_some (E j) ≡ true
      all-there [] tagged j m = absurd (omega arith)
      all-there (f ∷ fs) tagged j m = ⊎_elim
          (λ (same : f.1 ≡ j). ap (λ k. is_some (E k)) (sym same) ∙ there f.0 (E f.1) tagged.0)
          (λ apart. all-there fs tagged.1 j (omega (arith, times-other j f.1 (firsts fs) apart)))
          (cases_eq f.1 j)
