-- The entries and their places where one is put in, changed or taken out.
use Rattle.std.proofs.Common.{◌≡◌, ◌≢◌, ℕ, ◌<◌, ◌≤◌, ◌^◌, List, length, sym, ap, ◌∙◌, subst, ⊎_elim, arith}
use Rattle.std.proofs.lemmas.Bool.{cases_eq}
use Rattle.timed_queue.specs.declared.chains.Node.{Node}
use Rattle.timed_queue.specs.Nodes.{IsEntry, Moved, Others, Filled, Holds, time_of}
use Rattle.timed_queue.specs.Placing.{place_at}
use Rattle.timed_queue.specs.Sound.{IsPlaced, ArePlaced}

pub others_moved : (a b : List Node) (i p : ℕ) → Moved a b i p → Others a b i
others_moved a b i p moved = record { as_many = moved.as_many; places = moved.others; names = λ j far. moved.names j; times = λ j far. moved.times j }

others_filled : (a b : List Node) (i name time : ℕ) → Filled a b i name time → Others a b i
others_filled a b i name time filled = record { as_many = filled.as_many; places = λ j far. filled.places j; names = filled.names; times = filled.times }

others_trans : (a b c : List Node) (i : ℕ) → Others a b i → Others b c i → Others a c i
others_trans a b c i one two = record {
  as_many = two.as_many ∙ one.as_many;
  places = λ j far. two.places j far ∙ one.places j far;
  names = λ j far. two.names j far ∙ one.names j far;
  times = λ j far. two.times j far ∙ one.times j far;
}

-- another node holds an entry where it did
pub entry_before : (a b : List Node) (i j : ℕ) → Others a b i → j ≢ i → IsEntry b j → IsEntry a j
entry_before a b i j others far e = record {
  within = let f = others.as_many in let g = e.within in omega (arith, f, g);
  entry = e.entry;
  live = let f = others.places j far in let g = e.live in omega (arith, f, g);
}

pub entry_after : (a b : List Node) (i j : ℕ) → Others a b i → j ≢ i → IsEntry a j → IsEntry b j
entry_after a b i j others far e = record {
  within = let f = others.as_many in let g = e.within in omega (arith, f, g);
  entry = e.entry;
  live = let f = others.places j far in let g = e.live in omega (arith, f, g);
}

settled_others : (a b : List Node) (i o : ℕ) → ArePlaced a o → Others a b i → (IsEntry b i → IsPlaced b o i) → ArePlaced b o
settled_others a b i o placed others here j e = ⊎_elim
    (λ (same : j ≡ i). subst (λ (k : ℕ). IsPlaced b o k) (sym same) (here (subst (λ (k : ℕ). IsEntry b k) same e)))
    (λ (far : j ≢ i).
    let old = placed j (entry_before a b i j others far e) in
    let t = others.times j far in
    let p = others.places j far in
    record {
      late = let x = old.late in omega (arith, x, t);
      fits = let x = old.fits in omega (arith, x, t);
      at = p ∙ old.at ∙ ap (λ u. place_at 10 u o) (sym t);
    })
    (cases_eq j i)

-- a node leaves, or is taken from the free ones, gets a name and a time, and comes to a place
module _ (a b c d : List Node) (i q name time p o : ℕ) (placed : ArePlaced a o) (leaves : Moved a b i q) (fills : Filled b c i name time) (enters : Moved c d i p)
    (late : o ≤ time) (fits : time < 2 ^ 64) (is_p : p ≡ place_at 10 time o) where
  pub filed_others : Others a d i
  filed_others = others_trans a c d i (others_trans a b c i (others_moved a b i q leaves) (others_filled b c i name time fills)) (others_moved c d i p enters)

  pub filed_holds : i < length a → 704 ≤ i → p < 704 → Holds d i name time
  filed_holds within entry low = record {
    there = record { within = let f = filed_others.as_many in omega (arith, f, within); entry = entry; live = let f = enters.here in omega (arith, f, low) };
    named = enters.names i ∙ fills.name_here;
    timed = enters.times i ∙ fills.time_here;
  }

  pub filed_settled : ArePlaced d o
  filed_settled = settled_others a d i o placed filed_others (λ e.
      let t : time_of d i ≡ time = enters.times i ∙ fills.time_here in
      record { late = omega (arith, t, late); fits = omega (arith, t, fits); at = enters.here ∙ is_p ∙ ap (λ u. place_at 10 u o) (sym t) })

pub gone_settled : (a b : List Node) (i o : ℕ) → ArePlaced a o → Moved a b i 704 → ArePlaced b o
gone_settled a b i o placed moved = settled_others a b i o placed (others_moved a b i 704 moved) (λ e. let f = moved.here in let g = e.live in absurd (omega (arith, f, g)))
