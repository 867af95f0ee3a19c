-- The entries and their places where the origin moves.
use Rattle.std.proofs.Common.{◌≡◌, ◌≢◌, ◌⊎◌, ℕ, ◌+◌, ◌<◌, ◌≤◌, ◌^◌, eqb, List, length, refl, sym, ap, ◌∙◌, subst, inl, inr, ⊎_elim, arith, eq-eqb, ne_eqb}
use Rattle.std.proofs.lemmas.Bool.{cases_eq, cases_lt}
use Rattle.timed_queue.specs.declared.chains.Node.{Node}
use Rattle.timed_queue.specs.Nodes.{IsEntry, Moved, Same, next_of, before_of, place_of, time_of}
use Rattle.timed_queue.specs.Placing.{place_at}
use Rattle.timed_queue.specs.Sound.{IsWhole, ArePlaced, ArePlacedBelow, AreFrom}
use Rattle.timed_queue.proofs.PlaceLaws.{Fits, fits_word, place_stays, place_falls, place_same, place_own}
use Rattle.timed_queue.proofs.LinkLaws.{reach}
use Rattle.timed_queue.proofs.CountLaws.{count_below, count_more}

pub same_refl : (ns : List Node) → Same ns ns
same_refl ns = record { as_many = refl; lives = λ j low. low; lived = λ j low. low; names = λ j. refl; times = λ j. refl }

pub same_trans : (a b c : List Node) → Same a b → Same b c → Same a c
same_trans a b c one two = record {
  as_many = two.as_many ∙ one.as_many;
  lives = λ j low. two.lives j (one.lives j low);
  lived = λ j low. one.lived j (two.lived j low);
  names = λ j. two.names j ∙ one.names j;
  times = λ j. two.times j ∙ one.times j;
}

pub same_moved : (a b : List Node) (i p : ℕ) → Moved a b i p → place_of a i < 704 → p < 704 → Same a b
same_moved a b i p moved live low = record {
  as_many = moved.as_many;
  lives = λ j l. ⊎_elim
      (λ (e : j ≡ i). let f : place_of b j ≡ p = ap (place_of b) e ∙ moved.here in omega (arith, f, low))
      (λ (far : j ≢ i). let f = moved.others j far in omega (arith, f, l))
      (cases_eq j i);
  lived = λ j l. ⊎_elim
      (λ (e : j ≡ i). let f : place_of a j ≡ place_of a i = ap (place_of a) e in omega (arith, f, live))
      (λ (far : j ≢ i). let f = moved.others j far in omega (arith, f, l))
      (cases_eq j i);
  names = moved.names;
  times = moved.times;
}

pub entry_old : (a b : List Node) → Same a b → (i : ℕ) → IsEntry b i → IsEntry a i
entry_old a b same i e = record { within = let f = same.as_many in let g = e.within in omega (arith, f, g); entry = e.entry; live = same.lived i e.live }

pub entry_new : (a b : List Node) → Same a b → (i : ℕ) → IsEntry a i → IsEntry b i
entry_new a b same i e = record { within = let f = same.as_many in let g = e.within in omega (arith, f, g); entry = e.entry; live = same.lives i e.live }

-- ---- the nodes of one place are spread

-- an entry that stands in the place p as seen from the old origin, or where it stands as seen from t, which is another place
pub record IsSpread (p o t : ℕ) (ns : List Node) (i : ℕ) : Type 0 where
  pub late : t ≤ time_of ns i
  pub fits : time_of ns i < 2 ^ 64
  pub at : ((place_of ns i ≡ p) × (place_at 10 (time_of ns i) o ≡ p)) ⊎ ((place_of ns i ≢ p) × (place_of ns i ≡ place_at 10 (time_of ns i) t))

abbrev pub AreSpread : ℕ → ℕ → ℕ → List Node → Type 0
AreSpread p o t ns = (i : ℕ) → IsEntry ns i → IsSpread p o t ns i

module _ (p o t : ℕ) (t_fits : t < 2 ^ 64) (late : o ≤ t) (is_p : p ≡ place_at 10 t o) where
  o_fits : Fits 10 o
  o_fits = fits_word o (omega (arith, t_fits, late))

  pub spread_begins : (ns : List Node) → ArePlaced ns o → AreFrom ns t → AreSpread p o t ns
  spread_begins ns placed from i e =
      let old = placed i e in
      record {
        late = from i e;
        fits = old.fits;
        at = ⊎_elim
            (λ (here : place_of ns i ≡ p). inl (here, sym old.at ∙ here))
            (λ (apart : place_of ns i ≢ p). inr (
              apart,
              old.at
                  ∙ sym (place_stays 10 t (time_of ns i) o (fits_word t t_fits) (fits_word (time_of ns i) old.fits) o_fits late (from i e) (λ same. apart (old.at ∙ same ∙ sym is_p))),
            ))
            (cases_eq (place_of ns i) p);
      }

  module _ (high : 64 ≤ p) (ns : List Node) (spread : AreSpread p o t ns) where
    -- a node that still stands in the place comes to an earlier one
    pub falls : (i : ℕ) → IsEntry ns i → place_of ns i ≡ p → place_at 10 (time_of ns i) t < p
    falls i e here =
        let s = spread i e in ⊎_elim
        (λ (old : (place_of ns i ≡ p) × (place_at 10 (time_of ns i) o ≡ p)).
        let less = place_falls 10 t (time_of ns i) o (fits_word t t_fits) (fits_word (time_of ns i) s.fits) o_fits late s.late (old.1 ∙ is_p) (omega (arith, high, is_p)) in
        omega (arith, less, is_p))
        (λ (new : (place_of ns i ≢ p) × (place_of ns i ≡ place_at 10 (time_of ns i) t)). absurd (new.0 here))
        s.at

    pub spread_more : (ns' : List Node) (i : ℕ) → IsEntry ns i → place_of ns i ≡ p → p < 704 → Moved ns ns' i (place_at 10 (time_of ns i) t) → AreSpread p o t ns'
    spread_more ns' i e here low moved j ej =
        let down = falls i e here in
        let same = same_moved ns ns' i (place_at 10 (time_of ns i) t) moved e.live (omega (arith, down, low)) in
        let old = spread j (entry_old ns ns' same j ej) in
        let tj = moved.times j in
        record {
          late = let a = old.late in omega (arith, a, tj);
          fits = let a = old.fits in omega (arith, a, tj);
          at = ⊎_elim
              (λ (is_i : j ≡ i).
              let f : place_of ns' j ≡ place_at 10 (time_of ns i) t = ap (place_of ns') is_i ∙ moved.here in
              inr (λ (k : place_of ns' j ≡ p). omega (arith, f, k, down), f ∙ ap (λ u. place_at 10 u t) (sym (moved.times i) ∙ ap (time_of ns') (sym is_i))))
              (λ (far : j ≢ i).
              let f = moved.others j far in ⊎_elim
              (λ (was : (place_of ns j ≡ p) × (place_at 10 (time_of ns j) o ≡ p)). inl (f ∙ was.0, ap (λ u. place_at 10 u o) tj ∙ was.1))
              (λ (new : (place_of ns j ≢ p) × (place_of ns j ≡ place_at 10 (time_of ns j) t)). inr (λ (k : place_of ns' j ≡ p). new.0 (sym f ∙ k), f ∙ new.1 ∙ ap (λ u. place_at 10 u t) (sym tj)))
              old.at)
              (cases_eq j i);
        }

  -- where no entry is left in the place, all stand as seen from t
  pub spread_ends : (ns : List Node) → AreSpread p o t ns → ((i : ℕ) → IsEntry ns i → place_of ns i ≢ p) → ArePlaced ns t
  spread_ends ns spread gone i e =
      let s = spread i e in
      record {
        late = s.late;
        fits = s.fits;
        at = ⊎_elim (λ (old : (place_of ns i ≡ p) × (place_at 10 (time_of ns i) o ≡ p)). absurd (gone i e old.0))
            (λ (new : (place_of ns i ≢ p) × (place_of ns i ≡ place_at 10 (time_of ns i) t)). new.1) s.at;
      }

  -- in a place of the lowest level all is at t
  pub settled_low : p < 64 → (ns : List Node) → AreSpread p o t ns → ArePlaced ns t
  settled_low low ns spread i e =
      let s = spread i e in
      record {
        late = s.late;
        fits = s.fits;
        at = ⊎_elim
            (λ (old : (place_of ns i ≡ p) × (place_at 10 (time_of ns i) o ≡ p)).
            let one : t ≡ time_of ns i = place_same 10 t (time_of ns i) o (fits_word t t_fits) (fits_word (time_of ns i) s.fits) o_fits (omega (arith, low, is_p)) (old.1 ∙ is_p) in
            old.0 ∙ is_p ∙ sym (place_own 9 t o (omega (arith, low, is_p))) ∙ ap (λ u. place_at 10 u t) one)
            (λ (new : (place_of ns i ≢ p) × (place_of ns i ≡ place_at 10 (time_of ns i) t)). new.1) s.at;
      }

-- a place whose head comes next to itself has no entry
pub empty_place : (ns : List Node) (words : List ℕ) (free room p : ℕ) → IsWhole ns words free room → p < 704 → next_of ns p ≡ p → (i : ℕ) → IsEntry ns i → place_of ns i ≢ p
empty_place ns words free room p is low loop i e at =
    let here : i ≡ p = reach (length ns) (next_of ns) (before_of ns) (place_of ns) is.up is.rings (λ (k : ℕ). k ≡ p) p low refl (λ k within there is_head. ap (next_of ns) is_head ∙ loop) i e.within at in
    let big = e.entry in omega (arith, here, big, low)

-- and else the next one is an entry of it
pub next_entry : (ns : List Node) (words : List ℕ) (free room p : ℕ) → IsWhole ns words free room → p < 704 → p < length ns → next_of ns p ≢ p
    → IsEntry ns (next_of ns p) × (place_of ns (next_of ns p) ≡ p)
next_entry ns words free room p is low within apart =
    let at : place_of ns p ≡ p = is.rings.heads p within low in
    let live : place_of ns p < 704 = omega (arith, at, low) in
    let there : place_of ns (next_of ns p) ≡ p = is.rings.next_place p within live ∙ at in (
      record {
        within = is.rings.next_in p within live;
        entry = ⊎_elim (λ (small : next_of ns p < 704). absurd (apart (sym (is.rings.heads (next_of ns p) (is.rings.next_in p within live) small) ∙ there))) (λ (big : 704 ≤ next_of ns p). big) (cases_lt (next_of ns p) 704);
        live = omega (arith, there, low);
      },
      there,
    )

-- how many nodes have this place
abbrev pub nodes_at : List Node → ℕ → ℕ
nodes_at ns p = count_below (length ns) (λ j. eqb (place_of ns j) p)

pub fewer_at : (ns ns' : List Node) (i p q : ℕ) → Moved ns ns' i q → i < length ns → place_of ns i ≡ p → q ≢ p → nodes_at ns' p < nodes_at ns p
fewer_at ns ns' i p q moved within here apart =
    let more : count_below (length ns) (λ j. eqb (place_of ns j) p) ≡ count_below (length ns) (λ j. eqb (place_of ns' j) p) + 1 =
    count_more (length ns) (λ j. eqb (place_of ns' j) p) (λ j. eqb (place_of ns j) p) i within
    (ne_eqb (place_of ns' i) p (λ e. apart (sym moved.here ∙ e))) (eq-eqb (place_of ns i) p here) (λ k far. ap (λ r. eqb r p) (sym (moved.others k far))) in
    let len : count_below (length ns') (λ j. eqb (place_of ns' j) p) ≡ count_below (length ns) (λ j. eqb (place_of ns' j) p) = ap (λ n. count_below n (λ j. eqb (place_of ns' j) p)) moved.as_many in
    omega (arith, more, len)

-- ---- all nodes are placed anew

pub anew_begins : (ns : List Node) (o t : ℕ) → t ≤ o → ArePlaced ns o → ArePlacedBelow ns t 704
anew_begins ns o t below placed i e =
    let a = (placed i e).late in let big = e.entry in
    (omega (arith, a, below), (placed i e).fits, λ less. absurd (omega (arith, less, big)))

pub anew_skips : (ns : List Node) (t n : ℕ) → ArePlacedBelow ns t n → 704 ≤ place_of ns n → ArePlacedBelow ns t (n + 1)
anew_skips ns t n placed none i e =
    let old = placed i e in (
      old.0,
      old.1,
      λ less. ⊎_elim
          (λ (here : i ≡ n). let f : place_of ns i ≡ place_of ns n = ap (place_of ns) here in let live = e.live in absurd (omega (arith, f, none, live)))
          (λ (apart : i ≢ n). old.2 (omega (arith, less, apart)))
          (cases_eq i n),
    )

pub anew_more : (ns ns' : List Node) (t n : ℕ) → ArePlacedBelow ns t n → place_of ns n < 704 → place_at 10 (time_of ns n) t < 704 → Moved ns ns' n (place_at 10 (time_of ns n) t) → ArePlacedBelow ns' t (n + 1)
anew_more ns ns' t n placed live low moved i e =
    let same = same_moved ns ns' n (place_at 10 (time_of ns n) t) moved live low in
    let old = placed i (entry_old ns ns' same i e) in
    let ti = moved.times i in (
      omega (arith, old.0, ti),
      omega (arith, old.1, ti),
      λ less. ⊎_elim
          (λ (here : i ≡ n). ap (place_of ns') here ∙ moved.here ∙ ap (λ u. place_at 10 u t) (sym (moved.times n) ∙ ap (time_of ns') (sym here)))
          (λ (apart : i ≢ n). moved.others i apart ∙ old.2 (omega (arith, less, apart)) ∙ ap (λ u. place_at 10 u t) (sym ti))
          (cases_eq i n),
    )

pub anew_ends : (ns : List Node) (t n : ℕ) → length ns ≤ n → ArePlacedBelow ns t n → ArePlaced ns t
anew_ends ns t n all placed i e = let p = placed i e in let w = e.within in record { late = p.0; fits = p.1; at = p.2 (omega (arith, w, all)) }

-- one turn: the first entry of the place goes to where it stands as seen from t
pub spread_turn : (p o t : ℕ) (t_fits : t < 2 ^ 64) (late : o ≤ t) (is_p : p ≡ place_at 10 t o) (high : 64 ≤ p) (low : p < 704) (ns ns' : List Node) (words : List ℕ) (free room i to : ℕ)
    → IsWhole ns words free room → p < length ns → AreSpread p o t ns → next_of ns p ≢ p → i ≡ next_of ns p → to ≡ place_at 10 (time_of ns i) t → Moved ns ns' i to
    → Same ns ns' × AreSpread p o t ns' × (nodes_at ns' p < nodes_at ns p)
spread_turn p o t t_fits late is_p high low ns ns' words free room i to whole within spread apart is_i is_to moved =
    let first = next_entry ns words free room p whole low within apart in
    let e : IsEntry ns i = subst (λ (k : ℕ). IsEntry ns k) (sym is_i) first.0 in
    let here : place_of ns i ≡ p = ap (place_of ns) is_i ∙ first.1 in
    let moved' : Moved ns ns' i (place_at 10 (time_of ns i) t) = subst (λ (q : ℕ). Moved ns ns' i q) is_to moved in
    let down = falls p o t t_fits late is_p high ns spread i e here in (
      same_moved ns ns' i (place_at 10 (time_of ns i) t) moved' e.live (omega (arith, down, low)),
      spread_more p o t t_fits late is_p high ns spread ns' i e here low moved',
      fewer_at ns ns' i p (place_at 10 (time_of ns i) t) moved' e.within here (λ same. omega (arith, same, down)),
    )
