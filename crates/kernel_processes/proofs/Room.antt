-- There is room on the stack for one that is not on it.
use Rattle.std.proofs.Common.{◌≡◌, ◌≤◌, ◌<◌, ◌-◌, ◌+◌, ◌==◌, ◌||◌, ℕ, Bool, true, false, cond, List, [], ◌∷◌, ◌++◌, take, length, refl, sym, ap, ◌∙◌, arith, true≢false, ⊎_elim, ne_eqb}
use Rattle.std.specs.Prelude.{count_by, vec_capacity}
use Rattle.std.proofs.lemmas.Bool.{cases_eq}
use Rattle.std.proofs.Math.Seq.{take-append_seam}
use Rattle.std.proofs.lemmas.List.{length-append}
use Rattle.std.proofs.lemmas.List.Sums.{sum_by-cons}
use Rattle.std.specs.Ordering.{nat_cmp}
use Rattle.std.specs.FinMap as map
use Rattle.wait_lists.proofs.Counted.{length-le_keys}
use Rattle.kernel_processes.specs.InstanceViews.{is_on}
use Rattle.kernel_processes.specs.Sound.{IsSound, IsOnce}
use Rattle.kernel_processes.specs.declared.parts.Schedule.{Schedule}
use Rattle.kernel_processes.proofs.Sounding.{on_last, once_more}

-- the list without its last
pub front : (below : List ℕ) (p n : ℕ) → n ≡ length (below ++ p ∷ []) → take (n - 1) (below ++ p ∷ []) ≡ below
front below p n is = ap (λ k. take k (below ++ p ∷ [])) (let long = length-append below (p ∷ []) in omega (arith, is, long)) ∙ take-append_seam below (p ∷ [])

times-cons : (q x : ℕ) (xs : List ℕ) → count_by (λ y. y == q) (x ∷ xs) ≡ cond (x == q) 1 0 + count_by (λ y. y == q) xs
times-cons q x xs = sum_by-cons (λ y. cond (y == q) 1 0) x xs

same : (x q : ℕ) → (x == q) ≡ true → x ≡ q
same x q eq = ⊎_elim (λ here. here) (λ apart. absurd (true≢false (sym eq ∙ ne_eqb x q apart))) (cases_eq x q)

zero_more : (n : ℕ) → 0 + n ≡ n
zero_more n = omega arith

counted_front : (q x : ℕ) (xs : List ℕ) → IsOnce (x ∷ xs) → count_by (λ y. y == q) xs ≡ cond (is_on xs q) 1 0 → (b : Bool) → (x == q) ≡ b
    → cond (x == q) 1 0 + count_by (λ y. y == q) xs ≡ cond ((x == q) || is_on xs q) 1 0
counted_front q x xs once rest true is = ap (λ b. cond b 1 0 + count_by (λ y. y == q) xs) is
    ∙ ap (λ n. 1 + n) (rest ∙ ap (λ b. cond b 1 0) (ap (is_on xs) (sym (same x q is)) ∙ once.0))
    ∙ sym (ap (λ b. cond (b || is_on xs q) 1 0) is)
counted_front q x xs once rest false is = ap (λ b. cond b 1 0 + count_by (λ y. y == q) xs) is ∙ zero_more (count_by (λ y. y == q) xs) ∙ rest ∙ sym (ap (λ b. cond (b || is_on xs q) 1 0) is)

counted_once : (q : ℕ) (xs : List ℕ) → IsOnce xs → count_by (λ y. y == q) xs ≡ cond (is_on xs q) 1 0
counted_once q [] once = refl
counted_once q (x ∷ xs) once = times-cons q x xs ∙ counted_front q x xs once (counted_once q xs once.1) (x == q) refl

few : (b : Bool) (n : ℕ) → n ≡ cond b 1 0 → n ≤ 1
few true n is = omega (arith, is)
few false n is = omega (arith, is)

some : (b : Bool) (n : ℕ) → n ≡ cond b 1 0 → 1 ≤ n → b ≡ true
some true n is le = refl
some false n is le = absurd (omega (arith, is, le))

or-nothing : (b : Bool) → (b || false) ≡ b
or-nothing true = refl
or-nothing false = refl

-- a list without doubles of keys of a map has no more than these, and less where there is one more
module _ {X : Type 0} (m : map.FinMap nat_cmp X) where
  pub list_within : (xs : List ℕ) → IsOnce xs → ((q : ℕ) → is_on xs q ≡ true → map.contains_key m q ≡ true) → length xs ≤ map.len m
  list_within xs once there = length-le_keys m xs
      (λ q. few (is_on xs q) _ (counted_once q xs once))
      (λ q le. there q (some (is_on xs q) _ (counted_once q xs once) le))

  pub list_has_room : (xs : List ℕ) (p : ℕ) → IsOnce xs → ((q : ℕ) → is_on xs q ≡ true → map.contains_key m q ≡ true) → map.contains_key m p ≡ true → is_on xs p ≡ false → length xs < map.len m
  list_has_room xs p once there lives off =
      let many = list_within (xs ++ p ∷ []) (once_more xs p once off) (λ q on. ⊎_elim
      (λ same. ap (map.contains_key m) (sym same) ∙ lives)
      (λ apart. there q (sym (on_last xs p q ∙ ap (λ b. is_on xs q || b) (ne_eqb p q apart) ∙ or-nothing (is_on xs q)) ∙ on))
      (cases_eq p q)) in
      let long = length-append xs (p ∷ []) in
      omega (arith, many, long)

module _ {B : Type 0} (s : Schedule B) (sound : IsSound s) (p : ℕ) (lives : map.contains_key s.table.live p ≡ true) (off : is_on s.stack.items p ≡ false) where
  pub stack_has_room : length s.stack.items < vec_capacity s.stack
  stack_has_room = let less = list_has_room s.table.live s.stack.items p sound.once sound.active lives off in let room = sound.stack_room in omega (arith, less, room)
