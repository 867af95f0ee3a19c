-- Whom a call reaches, by the parts of a kernel: who has not ended, who came of whom, and the caller last.
use Rattle.std.proofs.Common.{◌≡◌, ◌==◌, ◌||◌, not, ℕ, Bool, true, false, List, [], ◌∷◌, ◌++◌, reverse, filter, cond, slice_get, option_map, Option, Some, None, refl, sym, ap, ◌∙◌, subst, true≢false, ⊎_elim}
use Rattle.std.specs.Prelude.{if◌then◌else◌}
use Rattle.std.specs.FinMap as map
use Rattle.std.proofs.lemmas.Bool.{cases_eq}
use Rattle.std.proofs.lemmas.List.{append_assoc, append-nil, reverse-append}
use Rattle.std.proofs.lemmas.List.Elements.{filter-append}
use Rattle.std.proofs.lemmas.List.Folds.{list_any-append}
use Rattle.kernel_processes.specs.SimModel.Residual.{Residual, settle}
use Rattle.kernel_processes.specs.SimModel.Configuration.{Config, Instance, instance_at, change, arena}
use Rattle.kernel_processes.specs.SimModel.Statements.{settled_in}
use Rattle.kernel_processes.proofs.Wakes.{change-here, change-other}
use Rattle.kernel_processes.specs.SimModel.Waits.{holds, without}
use Rattle.kernel_processes.specs.SimModel.Calls.{is_alive}
use Rattle.kernel_processes.specs.SimModel.Control.{is_live, last_if, with_descendants, targets}
use Rattle.kernel_processes.specs.InstanceViews.{shown_at}
use Rattle.kernel_processes.specs.InstanceViews.{body_at as kept_at}
use Rattle.kernel_state.specs.Processes.{TellsBy, Tells}
use Rattle.kernel_state.specs.Kernel.{Shows, StandsFor, whole_design}
use Rattle.kernel_state.specs.Added.{added_if, all_added}
use Rattle.kernel_state.specs.declared.kernel.Kernel.{Kernel}
use Rattle.kernel_state.proofs.Frames.{lives_by_kept}
use Rattle.kernel_state.proofs.Ending.{alive_in}

-- ---- lists

added_front : (b : Bool) (n : ℕ) (found xs : List ℕ) → added_if b n found ++ xs ≡ found ++ cond b (n ∷ xs) xs
added_front true n found xs = append_assoc found (n ∷ []) xs
added_front false n found xs = refl

pub all_added_is : (test : ℕ → Bool) (ns found : List ℕ) → all_added test ns found ≡ found ++ filter test ns
all_added_is test [] found = sym (append-nil found)
all_added_is test (n ∷ ns) found = all_added_is test ns (added_if (test n) n found) ∙ added_front (test n) n found (filter test ns)

onto : (x : ℕ) (xs : List ℕ) → reverse (x ∷ xs) ≡ reverse xs ++ x ∷ []
onto x xs = reverse-append (x ∷ []) xs

kept_behind : (b : Bool) (x : ℕ) (xs : List ℕ) → reverse (cond b (x ∷ xs) xs) ≡ reverse xs ++ cond b (x ∷ []) []
kept_behind true x xs = onto x xs
kept_behind false x xs = sym (append-nil (reverse xs))

-- what passes, from behind
pub filter_reverse : (test : ℕ → Bool) (xs : List ℕ) → reverse (filter test xs) ≡ filter test (reverse xs)
filter_reverse test [] = refl
filter_reverse test (x ∷ xs) =
    kept_behind (test x) x (filter test xs) ∙ ap (λ ys. ys ++ cond (test x) (x ∷ []) []) (filter_reverse test xs)
    ∙ sym (filter-append test (reverse xs) (x ∷ [])) ∙ ap (filter test) (sym (onto x xs))

other_way : (b d : Bool) → (b || (d || false)) ≡ (d || b)
other_way true true = refl
other_way true false = refl
other_way false true = refl
other_way false false = refl

pub holds_reverse : (xs : List ℕ) (p : ℕ) → holds (reverse xs) p ≡ holds xs p
holds_reverse [] p = refl
holds_reverse (x ∷ xs) p =
    ap (λ ys. holds ys p) (onto x xs) ∙ list_any-append (λ q. q == p) (reverse xs) (x ∷ [])
    ∙ other_way (holds (reverse xs) p) (x == p) ∙ ap (λ b. (x == p) || b) (holds_reverse xs p)

same_filter : (f g : ℕ → Bool) → ((n : ℕ) → f n ≡ g n) → (xs : List ℕ) → filter f xs ≡ filter g xs
same_filter f g same [] = refl
same_filter f g same (x ∷ xs) = ap (λ b. cond b (x ∷ filter f xs) (filter f xs)) (same x) ∙ ap (λ ys. cond (g x) (x ∷ ys) ys) (same_filter f g same xs)

-- the caller is not in the list, or comes last
pub not_last : (xs : List ℕ) (p : ℕ) → holds xs p ≡ false → reverse xs ≡ last_if (reverse xs) p
not_last xs p none = sym (ap (λ b. if b then without (reverse xs) p ++ p ∷ [] else reverse xs) (holds_reverse xs p ∙ none))

pub comes_last : (xs found : List ℕ) (p : ℕ) → holds xs p ≡ true → found ≡ all_added (λ n. not (n == p)) xs (p ∷ []) → reverse found ≡ last_if (reverse xs) p
comes_last xs found p some is =
    ap reverse (is ∙ all_added_is (λ n. not (n == p)) xs (p ∷ [])) ∙ onto p (filter (λ n. not (n == p)) xs)
    ∙ ap (λ ys. ys ++ p ∷ []) (filter_reverse (λ n. not (n == p)) xs)
    ∙ sym (ap (λ b. if b then without (reverse xs) p ++ p ∷ [] else reverse xs) (holds_reverse xs p ∙ some))

-- ---- finished parts fall away from the body of the caller, and whom its call reaches stays

live_changed : (o : Option Instance) (r : Residual) → is_live (option_map (λ (j : Instance). record j { residual = r }) o) ≡ is_live o
live_changed None r = refl
live_changed (Some i) r = refl

live_settled : (c : Config) (p : ℕ) (r : Residual) (n : ℕ) → is_live (instance_at (settled_in c p r) n) ≡ is_live (instance_at c n)
live_settled c p r n =
    let f : Instance → Instance = λ j. record j { residual = settle (arena c) r } in
    let is = c.processes.instances in
    ⊎_elim
    (λ same. subst (λ m. is_live (slice_get (change is p f) m) ≡ is_live (slice_get is m)) (sym same) (ap is_live (change-here is p f) ∙ live_changed (slice_get is p) (settle (arena c) r)))
    (λ apart. ap is_live (change-other is p n f apart))
    (cases_eq n p)

pub targets_settled : (c : Config) (p : ℕ) (r : Residual) (q t : ℕ) → targets (settled_in c p r) q t ≡ targets c q t
targets_settled c p r q t =
    let all = with_descendants c.processes.parents q in
    ap (λ b. if b then last_if (filter (λ n. is_live (instance_at (settled_in c p r) n)) all) t else []) (live_settled c p r q)
    ∙ ap (λ ys. if is_live (instance_at c q) then last_if ys t else []) (same_filter (λ n. is_live (instance_at (settled_in c p r) n)) (λ n. is_live (instance_at c n)) (live_settled c p r) all)

-- ---- who has not ended

module _ (k : Kernel) (c : Config) (h : StandsFor k c) where
  live_by : (q : ℕ) (b : Bool) → map.contains_key k.schedule.table.live q ≡ b → b ≡ is_live (instance_at c q)
  live_by q true lives = let i = alive_in k c h q lives in sym (ap is_live i.1.0 ∙ ap not i.1.1)
  live_by q false none = sym (by (instance_at c q) refl (h.processes.each q))
    where
      by_end : (i : Instance) (e : Bool) → i.ended ≡ e → TellsBy (Shows (whole_design k) k.program.now) e (shown_at k.schedule q) (kept_at k.schedule q) i → is_alive i ≡ false
      by_end i true is tells = ap not is
      by_end i false is tells = absurd (true≢false (sym (lives_by_kept k.schedule q tells.kept.0 tells.kept.1.0) ∙ none))

      by : (o : Option Instance) → instance_at c q ≡ o → Tells (Shows (whole_design k) k.program.now) (shown_at k.schedule q) (kept_at k.schedule q) o → is_live (instance_at c q) ≡ false
      by None at tells = ap is_live at
      by (Some i) at tells = ap is_live at ∙ by_end i i.ended refl tells

  pub live_is : (q : ℕ) → map.contains_key k.schedule.table.live q ≡ is_live (instance_at c q)
  live_is q = live_by q (map.contains_key k.schedule.table.live q) refl

  -- nobody is reached where the target has ended
  pub nobody_reached : (q p : ℕ) → map.contains_key k.schedule.table.live q ≡ false → [] ≡ targets c q p
  nobody_reached q p none =
      sym (ap (λ b. if b then last_if (filter (λ n. is_live (instance_at c n)) (with_descendants c.processes.parents q)) p else []) (sym (live_is q) ∙ none))

  -- the serials all are the target and its descendants, and those that have not ended are found
  pub all_reached : (q p : ℕ) (all found last : List ℕ) → map.contains_key k.schedule.table.live q ≡ true → reverse all ≡ with_descendants k.parents.items q
      → found ≡ all_added (λ n. map.contains_key k.schedule.table.live n) all [] → reverse last ≡ last_if (reverse found) p → reverse last ≡ targets c q p
  all_reached q p all found last lives is living order =
      order
      ∙ ap (λ xs. last_if (reverse xs) p) (living ∙ all_added_is (λ n. map.contains_key k.schedule.table.live n) all [])
      ∙ ap (λ xs. last_if xs p) (filter_reverse (λ n. map.contains_key k.schedule.table.live n) all ∙ same_filter (λ n. map.contains_key k.schedule.table.live n) (λ n. is_live (instance_at c n)) live_is (reverse all)
      ∙ ap (filter (λ n. is_live (instance_at c n))) (is ∙ ap (λ ps. with_descendants ps q) (sym h.parents)))
      ∙ sym (ap (λ b. if b then last_if (filter (λ n. is_live (instance_at c n)) (with_descendants c.processes.parents q)) p else []) (sym (live_is q) ∙ lives))
