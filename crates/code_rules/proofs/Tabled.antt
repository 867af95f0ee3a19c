-- The table has the greatest number of events in each block.
use Rattle.std.proofs.Common.{◌≡◌, ◌≤◌, ◌<◌, ◌⊎◌, ℕ, List, [], ◌∷◌, ◌++◌, length, Option, Some, None, refl, sym, ap, ◌∙◌, subst, inl, inr, arith, append_assoc, length-append}
use Rattle.std.specs.Prelude.{Contains, unwrap_or, slice_get}
use Rattle.std.specs.List.{fold}
use Rattle.std.proofs.lemmas.List.{get_or_append_left, get_or_push, get_or_past}
use Rattle.std.proofs.lemmas.Option.{slice_get_past}
use Rattle.std.proofs.lemmas.Bool.{cases_lt}
use Rattle.model_rules.specs.FlatDesign.Code.{Arena, Statement, block_at, statement_at}
use Rattle.model_rules.specs.FlatDesign.Reach.{IsIn, Holds, inner_blocks}
use Rattle.model_rules.specs.FlatDesign.Sound.{events_of}
use Rattle.code_rules.specs.Rooms.{IsGreatest, IsNested}
use Rattle.code_rules.specs.Tables.{in_block, in_statement, in_found, in_numbers, with_block, table_of}
use Rattle.code_rules.proofs.Greatest.{contains_none, first_fits, each_fits, reached}
use Rattle.code_rules.proofs.Inside.{Through, first_step, holds_more, holds_own}

module _ (a : Arena) (nested : IsNested a) where
  -- one block more, whose inner blocks the table has
  module _ (t : List ℕ) (b : ℕ) (right : (k : ℕ) → k < b → IsGreatest (Holds a k) (in_block t k)) where
    abbrev most : ℕ
    most = in_numbers a t (block_at a b)

    number_fits : (s : Statement) → IsIn a b s → in_statement t s ≤ most
    number_fits s here =
        subst (λ o. in_found t o ≤ most) here.found (each_fits (λ n. in_found t (statement_at a n)) (block_at a b) 0 here.number here.listed_there)

    suffices_by : (j : ℕ) (s : Statement) → IsIn a j s → (b ≡ j) ⊎ Through a b j → events_of s ≤ most
    suffices_by j s here (inl e) =
        let own = first_fits (in_block t) (inner_blocks s) (events_of s) in
        let fits = number_fits s (subst (λ x. IsIn a x s) (sym e) here) in
        omega (arith, own, fits)
    suffices_by j s here (inr w) =
        let inner = (right w.inner (nested b w.inner w.statement w.stands w.has)).suffices s (record { block = j; inside = w.inside; stands = here }) in
        let outer = each_fits (in_block t) (inner_blocks w.statement) (events_of w.statement) w.inner w.has in
        let fits = number_fits w.statement w.stands in
        omega (arith, inner, outer, fits)

    abbrev IsNeeded : Type 0
    IsNeeded = (most ≡ 0) ⊎ ((s : Statement) × Holds a b s × (events_of s ≡ most))

    needed_by : (n : ℕ) → Contains (block_at a b) n → (o : Option Statement) → statement_at a n ≡ o → in_found t o ≡ most → IsNeeded
    needed_by n c None at e = inl (sym e)
    needed_by n c (Some s) at e =
        let here : IsIn a b s = record { number = n; listed_there = c; found = at } in
        elim (reached (in_block t) (inner_blocks s) (events_of s)) [
          | inl own ↦ inr (s, holds_own a b s here, sym own ∙ e)
          | inr w ↦ elim ((right w.0 (nested b w.0 s here w.1)).needed) [
            | inl none ↦ inl (sym e ∙ sym w.2 ∙ none)
            | inr x ↦ inr (x.0, holds_more a b w.0 s x.0 here w.1 x.1, x.2 ∙ w.2 ∙ e)
          ]
        ]

    pub next_block : IsGreatest (Holds a b) most
    next_block = record {
      suffices = λ s x. suffices_by x.block s x.stands (first_step a b x.block x.inside);
      needed = elim (reached (λ n. in_found t (statement_at a n)) (block_at a b) 0) [
        | inl e ↦ inl e
        | inr w ↦ needed_by w.0 w.1 (statement_at a w.0) refl w.2
      ];
    }

  abbrev IsRight : List ℕ → Type 0
  IsRight t = (b : ℕ) → b < length t → IsGreatest (Holds a b) (in_block t b)

  block_behind : (pre blocks : List (List ℕ)) (ids : List ℕ) → unwrap_or (slice_get (pre ++ ids ∷ blocks) (length pre)) [] ≡ ids
  block_behind [] blocks ids = refl
  block_behind (x ∷ pre) blocks ids = block_behind pre blocks ids

  table_from : (blocks pre : List (List ℕ)) (t : List ℕ) → a.blocks ≡ pre ++ blocks → length t ≡ length pre → IsRight t
      → IsRight (fold (with_block a) t blocks) × (length (fold (with_block a) t blocks) ≡ length a.blocks)
  table_from [] pre t e long right = let total = ap length e in let parts = length-append pre [] in (right, omega (arith, total, parts, long))
  table_from (ids ∷ blocks) pre t e long right =
      let here : block_at a (length t) ≡ ids = ap (λ bs. unwrap_or (slice_get bs (length t)) []) e ∙ ap (λ n. unwrap_or (slice_get (pre ++ ids ∷ blocks) n) []) long ∙ block_behind pre blocks ids in
      let next = subst (λ xs. IsGreatest (Holds a (length t)) (in_numbers a t xs)) here (next_block t (length t) right) in
      let one_more : IsRight (with_block a t ids) = λ b lt. elim (cases_lt b (length t)) [
        | inl below ↦ subst (IsGreatest (Holds a b)) (sym (get_or_append_left t (in_numbers a t ids ∷ []) 0 b below)) (right b below)
        | inr past ↦
            let longer = length-append t (in_numbers a t ids ∷ []) in
            let is : b ≡ length t = omega (arith, lt, longer, past) in
            subst (IsGreatest (Holds a b)) (sym (get_or_push t (in_numbers a t ids) 0 b (sym is))) (subst (λ n. IsGreatest (Holds a n) (in_numbers a t ids)) (sym is) next)
      ] in
      let longer = length-append t (in_numbers a t ids ∷ []) in
      let before = length-append pre (ids ∷ []) in
      table_from blocks (pre ++ ids ∷ []) (with_block a t ids) (e ∙ sym (append_assoc pre (ids ∷ []) blocks)) (omega (arith, longer, before, long)) one_more

  none_past : (b : ℕ) → length a.blocks ≤ b → (s : Statement) → IsIn a b s → ⊥
  none_past b past s here = contains_none here.number (subst (λ o. Contains (unwrap_or o []) here.number) (slice_get_past a.blocks b past) here.listed_there)

  past_holds : (b : ℕ) → length a.blocks ≤ b → (j : ℕ) (s : Statement) → IsIn a j s → (b ≡ j) ⊎ Through a b j → ⊥
  past_holds b past j s here (inl e) = none_past b past s (subst (λ x. IsIn a x s) (sym e) here)
  past_holds b past j s here (inr w) = none_past b past w.statement w.stands

  pub table_right : (b : ℕ) → IsGreatest (Holds a b) (in_block (table_of a) b)
  table_right b =
      let all = table_from a.blocks [] [] refl refl (λ k lt. absurd (omega (arith, lt))) in
      let long = all.1 in
      elim (cases_lt b (length a.blocks)) [
        | inl below ↦ all.0 b (omega (arith, below, long))
        | inr past ↦ subst (IsGreatest (Holds a b)) (sym (get_or_past (table_of a) b 0 (omega (arith, past, long)))) (record {
          suffices = λ s x. absurd (past_holds b past x.block s x.stands (first_step a b x.block x.inside));
          needed = inl refl;
        })
      ]
