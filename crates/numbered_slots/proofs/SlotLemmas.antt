-- What slots and keys say of the live values.
use Rattle.std.proofs.Common.{true≢false, le_refl, get_or-set_same, get_or-set_other, ◌≡◌, ◌≢◌, ℕ, ◌+◌, ◌-◌, ◌<◌, Bool, true, false, cond, List, [], ◌∷◌, Option, Some, None, get_or, length, refl, sym, ap, ◌∙◌, subst, ⊎_elim, arith}
use Rattle.std.specs.Prelude.{is_some, count_by}
use Rattle.std.proofs.lemmas.List.Sums.{sum_by-set}
use Rattle.std.proofs.lemmas.Bool.{cases_eq, cases_lt}
use Rattle.std.proofs.lemmas.List.{get_or_past}
use Rattle.std.specs.Ordering.{nat_cmp, eq_by_cmp}
use Rattle.std.specs.Map.{lookup}
use Rattle.std.specs.BTreeMap as tree
use Rattle.std.specs.FinMap as map
use Rattle.slab.specs.Slab as slab
use Rattle.slab.specs.Slab.{Slab}
use Rattle.numbered_slots.proofs.MapLemmas.{ties_no_other, get-updated, is_insert, is_remove, len-insert_new, len-insert_there, len-remove_there}
use Rattle.numbered_slots.specs.Numbered.{Numbered, with_inserted, HasFreshNext}
use Rattle.numbered_slots.specs.Layout.{live_of, shown, IsSound}

pub other_key : (m new : tree.BTreeMap ℕ ℕ) (number : ℕ) (w : Option ℕ) → tree.Updates nat_cmp m new number w
    → (q : ℕ) → q ≢ number → tree.get nat_cmp new q ≡ tree.get nat_cmp m q
other_key m new number w keys q apart = keys.2 q (ties_no_other number q (λ e. apart (sym e)))

pub none_some : {A : Type 0} {o : Option A} {x : A} → o ≡ None → o ≡ Some x → ⊥
none_some none some = cc

same_sum : (a b c : ℕ) → a + c ≡ b + 1 → c ≡ 1 → a ≡ b
same_sum a b c e one = omega arith

same_less : (a b c d : ℕ) → a + 1 ≡ b → c + 1 ≡ d → d ≡ b → c ≡ a
same_less a b c d e f g = omega arith

one_less : (a b : ℕ) → a + 1 ≡ b → b - 1 ≡ a
one_less a b e = omega arith

module _ {X : Type 0} where
  -- what stands in the slot, if one is told
  abbrev pub found : List (Option X) → Option ℕ → Option X
  found slots None = None
  found slots (Some k) = get_or slots k None

  found-cond : (slots : List (Option X)) (b : Bool) (k : ℕ) (o : Option ℕ) → cond b (get_or slots k None) (found slots o) ≡ found slots (cond b (Some k) o)
  found-cond slots true k o = refl
  found-cond slots false k o = refl

  pub get-live_of : (slots : List (Option X)) (es : List (ℕ × ℕ)) (q : ℕ) → map.get (live_of slots es) q ≡ found slots (lookup (tree.is_at (nat_cmp q)) es)
  get-live_of slots [] q = map.get-empty nat_cmp q
  get-live_of slots (e ∷ es) q =
      get-updated (live_of slots es) e.0 _ q
      ∙ ap (cond (eq_by_cmp nat_cmp q e.0) (get_or slots e.1 None)) (get-live_of slots es q)
      ∙ found-cond slots (eq_by_cmp nat_cmp q e.0) e.1 _

  pub get-live : (s : Slab X) (keys : tree.BTreeMap ℕ ℕ) (q : ℕ) → map.get (live_of s.slots keys.entries) q ≡ found s.slots (tree.get nat_cmp keys q)
  get-live s keys q = get-live_of s.slots keys.entries q

  pub get_found : (s : Slab X) (keys : tree.BTreeMap ℕ ℕ) (q k : ℕ) → tree.get nat_cmp keys q ≡ Some k → map.get (live_of s.slots keys.entries) q ≡ slab.get s k
  get_found s keys q k at = get-live s keys q ∙ ap (found s.slots) at

  pub get_absent : (s : Slab X) (keys : tree.BTreeMap ℕ ℕ) (q : ℕ) → tree.get nat_cmp keys q ≡ None → map.get (live_of s.slots keys.entries) q ≡ None
  get_absent s keys q none = get-live s keys q ∙ ap (found s.slots) none

  pub is_sound-empty : (s : Slab X) (keys : tree.BTreeMap ℕ ℕ) → s.slots ≡ [] → keys.entries ≡ [] → IsSound s keys 0
  is_sound-empty s keys no_slot no_key = record {
    below = λ q _. ap (lookup (tree.is_at (nat_cmp q))) no_key;
    occupied = λ q k at. absurd (none_some (ap (lookup (tree.is_at (nat_cmp q))) no_key) at);
    apart = λ p q k at _. absurd (none_some (ap (lookup (tree.is_at (nat_cmp p))) no_key) at);
    counted = ap (λ es. map.len (live_of s.slots es)) no_key ∙ map.len-empty nat_cmp X ∙ sym (ap length no_key);
    full = ap (count_by is_some) no_slot ∙ sym (ap length no_key);
  }

  -- slots that differ at k alone show the same, where k is not told
  found_other : (s new : Slab X) (k : ℕ) (o : Option X) → slab.Updates s new k o → (at : Option ℕ) → at ≢ Some k → found new.slots at ≡ found s.slots at
  found_other s new k o slots None apart = refl
  found_other s new k o slots (Some j) apart = slots.others j (λ e. apart (ap (λ x. Some x) e))

  within_occupied : (s : Slab X) (k : ℕ) → is_some (get_or s.slots k None) ≡ true → k < length s.slots
  within_occupied s k occupied = ⊎_elim (λ within. within)
      (λ past. absurd (true≢false (sym occupied ∙ ap is_some (get_or_past s.slots k None past)))) (cases_lt k (length s.slots))

  -- a slot that holds something is written
  pub updates-with_value : (s : Slab X) (k : ℕ) (w : X) → is_some (get_or s.slots k None) ≡ true → slab.Updates s (slab.with_value s k w) k (Some w)
  updates-with_value s k w occupied = record {
    changed = get_or-set_same s.slots k (Some w) None (within_occupied s k occupied);
    others = λ j apart. get_or-set_other s.slots k j (Some w) None apart;
  }

  pub slab_len-with_value : (s : Slab X) (k : ℕ) (w : X) → is_some (get_or s.slots k None) ≡ true → slab.slab_len (slab.with_value s k w) ≡ slab.slab_len s
  slab_len-with_value s k w occupied =
      same_sum _ _ _ (sum_by-set (λ o. cond (is_some o) 1 0) s.slots k (Some w) None (within_occupied s k occupied)) (ap (λ b. cond b 1 0) occupied)

  -- the number's slot k, which is no other's, now holds x
  module _ (s new : Slab X) (m keys : tree.BTreeMap ℕ ℕ) (next number k : ℕ) (x : X) (sound : IsSound s m next)
      (here : tree.get nat_cmp keys number ≡ Some k) (there : (q : ℕ) → q ≢ number → tree.get nat_cmp keys q ≡ tree.get nat_cmp m q)
      (own : (q : ℕ) → q ≢ number → tree.get nat_cmp m q ≢ Some k) (slots : slab.Updates s new k (Some x)) where
    pub live-put : live_of new.slots keys.entries ≡ map.insert (live_of s.slots m.entries) number x
    live-put = is_insert (live_of s.slots m.entries) _ number x
        (get_found new keys number k here ∙ slots.changed)
        (λ q apart. get-live new keys q ∙ ap (found new.slots) (there q apart) ∙ found_other s new k _ slots _ (own q apart) ∙ sym (get-live s m q))

    pub occupied-put : (q j : ℕ) → tree.get nat_cmp keys q ≡ Some j → is_some (get_or new.slots j None) ≡ true
    occupied-put q j at = ⊎_elim
        (λ same. ap is_some (ap (λ x. get_or new.slots x None) (is_Some (sym at ∙ ap (tree.get nat_cmp keys) same ∙ here)) ∙ slots.changed))
        (λ apart. let before : tree.get nat_cmp m q ≡ Some j = sym (there q apart) ∙ at in
        ap is_some (slots.others j (λ e. own q apart (before ∙ ap (λ x. Some x) e))) ∙ sound.occupied q j before)
        (cases_eq q number)
      where
        is_Some : {x y : ℕ} → Some x ≡ Some y → x ≡ y
        is_Some e = cc

    pub apart-put : (p q j : ℕ) → tree.get nat_cmp keys p ≡ Some j → tree.get nat_cmp keys q ≡ Some j → p ≡ q
    apart-put p q j at_p at_q = ⊎_elim
        (λ p_same. ⊎_elim (λ q_same. p_same ∙ sym q_same)
        (λ q_apart. absurd (own q q_apart (sym (there q q_apart) ∙ at_q ∙ sym at_p ∙ ap (tree.get nat_cmp keys) p_same ∙ here))) (cases_eq q number))
        (λ p_apart. ⊎_elim (λ q_same. absurd (own p p_apart (sym (there p p_apart) ∙ at_p ∙ sym at_q ∙ ap (tree.get nat_cmp keys) q_same ∙ here)))
        (λ q_apart. sound.apart p q j (sym (there p p_apart) ∙ at_p) (sym (there q q_apart) ∙ at_q)) (cases_eq q number))
        (cases_eq p number)

  -- a new number's slot k, which was vacant, now holds x
  module _ (s new : Slab X) (m keys : tree.BTreeMap ℕ ℕ) (next k : ℕ) (x : X) (sound : IsSound s m next) (vacant : slab.get s k ≡ None)
      (put : tree.Updates nat_cmp m keys next (Some k)) (slots : slab.Updates s new k (Some x)) where
    own_vacant : (q : ℕ) → q ≢ next → tree.get nat_cmp m q ≢ Some k
    own_vacant q _ at = true≢false (sym (sound.occupied q k at) ∙ ap is_some vacant)

    pub live-inserted : live_of new.slots keys.entries ≡ map.insert (live_of s.slots m.entries) next x
    live-inserted = live-put s new m keys next next k x sound put.1 (other_key m keys next _ put) own_vacant slots

    pub is_sound-inserted : tree.btree_map_len keys ≡ tree.btree_map_len m + 1 → slab.slab_len new ≡ slab.slab_len s + 1 → IsSound new keys (next + 1)
    is_sound-inserted more used = record {
      below = λ q later. other_key m keys next _ put q (λ e. omega arith) ∙ sound.below q (omega arith);
      occupied = occupied-put s new m keys next next k x sound put.1 (other_key m keys next _ put) own_vacant slots;
      apart = apart-put s new m keys next next k x sound put.1 (other_key m keys next _ put) own_vacant slots;
      counted = ap map.len live-inserted ∙ len-insert_new _ next x (get_absent s m next (sound.below next (le_refl next)))
          ∙ ap (λ n. n + 1) sound.counted ∙ sym more;
      full = used ∙ ap (λ n. n + 1) sound.full ∙ sym more;
    }

  -- a number's slot is written
  module _ (s new : Slab X) (m : tree.BTreeMap ℕ ℕ) (next number k : ℕ) (x : X) (sound : IsSound s m next)
      (at : tree.get nat_cmp m number ≡ Some k) (slots : slab.Updates s new k (Some x)) where
    own_slot : (q : ℕ) → q ≢ number → tree.get nat_cmp m q ≢ Some k
    own_slot q apart at_q = apart (sound.apart q number k at_q at)

    pub live-written : live_of new.slots m.entries ≡ map.insert (live_of s.slots m.entries) number x
    live-written = live-put s new m m next number k x sound at (λ _ _. refl) own_slot slots

    pub is_sound-written : slab.slab_len new ≡ slab.slab_len s → IsSound new m next
    is_sound-written as_many = record {
      below = sound.below;
      occupied = occupied-put s new m m next number k x sound at (λ _ _. refl) own_slot slots;
      apart = sound.apart;
      counted = ap map.len live-written ∙ len-insert_there _ number x (ap is_some (get_found s m number k at) ∙ sound.occupied number k at)
          ∙ sound.counted;
      full = as_many ∙ sound.full;
    }

  -- a number is taken out, and its slot is vacant
  module _ (s new : Slab X) (m keys : tree.BTreeMap ℕ ℕ) (next number k : ℕ) (sound : IsSound s m next) (at : tree.get nat_cmp m number ≡ Some k)
      (cut : tree.Updates nat_cmp m keys number None) (slots : slab.Updates s new k None) where
    own_cut : (q : ℕ) → q ≢ number → tree.get nat_cmp m q ≢ Some k
    own_cut q apart at_q = apart (sound.apart q number k at_q at)

    before_cut : (q j : ℕ) → tree.get nat_cmp keys q ≡ Some j → (q ≢ number) × (tree.get nat_cmp m q ≡ Some j)
    before_cut q j at_q =
        let apart : q ≢ number = λ same. none_some (ap (tree.get nat_cmp keys) same ∙ cut.1) at_q in
        (apart, sym (other_key m keys number _ cut q apart) ∙ at_q)

    pub live-removed : live_of new.slots keys.entries ≡ map.remove (live_of s.slots m.entries) number
    live-removed = is_remove (live_of s.slots m.entries) _ number
        (get_absent new keys number cut.1)
        (λ q apart. get-live new keys q ∙ ap (found new.slots) (other_key m keys number _ cut q apart) ∙ found_other s new k _ slots _ (own_cut q apart) ∙ sym (get-live s m q))

    pub is_sound-removed : tree.btree_map_len keys + 1 ≡ tree.btree_map_len m → slab.slab_len new + 1 ≡ slab.slab_len s → IsSound new keys next
    is_sound-removed less freed = record {
      below = λ q later. ⊎_elim (λ same. ap (tree.get nat_cmp keys) same ∙ cut.1) (λ apart. other_key m keys number _ cut q apart ∙ sound.below q later) (cases_eq q number);
      occupied = λ q j at_q. let was : (q ≢ number) × (tree.get nat_cmp m q ≡ Some j) = before_cut q j at_q in
          ap is_some (slots.others j (λ e. own_cut q was.0 (was.1 ∙ ap (λ x. Some x) e))) ∙ sound.occupied q j was.1;
      apart = λ p q j at_p at_q. sound.apart p q j (before_cut p j at_p).1 (before_cut q j at_q).1;
      counted = ap map.len live-removed ∙ len-remove_there _ number (ap is_some (get_found s m number k at) ∙ sound.occupied number k at)
          ∙ ap (λ n. n - 1) sound.counted ∙ one_less _ _ less;
      full = same_less _ _ _ _ less freed sound.full;
    }

  -- what is not there cannot be taken out
  pub live-absent : (s : Slab X) (m keys : tree.BTreeMap ℕ ℕ) (number : ℕ) → tree.get nat_cmp m number ≡ None → keys.entries ≡ m.entries
      → live_of s.slots keys.entries ≡ map.remove (live_of s.slots m.entries) number
  live-absent s m keys number none same = ap (live_of s.slots) same
      ∙ is_remove (live_of s.slots m.entries) _ number (get_absent s m number none) (λ _ _. refl)

-- the capacity of the slots tells nothing
pub is_sound-like : {X : Type 0} (s new : Slab X) (m : tree.BTreeMap ℕ ℕ) (next : ℕ) → new.slots ≡ s.slots → IsSound s m next → IsSound new m next
is_sound-like s new m next same sound = record {
  below = sound.below;
  occupied = λ q k at. ap (λ slots. is_some (get_or slots k None)) same ∙ sound.occupied q k at;
  apart = sound.apart;
  counted = ap (λ slots. map.len (live_of slots m.entries)) same ∙ sound.counted;
  full = ap (count_by is_some) same ∙ sound.full;
}

-- equal values and the same next number
pub same_live : {X : Type 0} {l k : map.FinMap nat_cmp X} {n : ℕ} → l ≡ k → ◌≡◌ {A = Numbered X} (record { live = l; next = n }) (record { live = k; next = n })
same_live {n = n} e = λ i. record { live = e i; next = n }

-- no number from the next one on is live
pub has_fresh_next : {X : Type 0} (s : Slab X) (keys : tree.BTreeMap ℕ ℕ) (next : ℕ) → IsSound s keys next → HasFreshNext (shown s.slots keys.entries next)
has_fresh_next s keys next sound q later = get_absent s keys q (sound.below q later)

-- a new value stands in the slot that was made room for
module _ {X : Type 0} (s reserved new : Slab X) (m keys : tree.BTreeMap ℕ ℕ) (next k j : ℕ) (x : X)
    (sound : IsSound s m next) (same : reserved.slots ≡ s.slots) (vacant : slab.get reserved k ≡ None) (put : tree.Updates nat_cmp m keys next (Some k))
    (here : j ≡ k) (slots : slab.Updates reserved new j (Some x)) where
  filled : slab.Updates reserved new k (Some x)
  filled = subst (λ y. slab.Updates reserved new y (Some x)) here slots

  pub is_sound-new : tree.btree_map_len keys ≡ tree.btree_map_len m + 1 → slab.slab_len new ≡ slab.slab_len reserved + 1 → IsSound new keys (next + 1)
  is_sound-new = is_sound-inserted reserved new m keys next k _ (is_sound-like s reserved m next same sound) vacant put filled

  pub shown-new : shown new.slots keys.entries (next + 1) ≡ with_inserted (shown s.slots m.entries next) x
  shown-new =
      same_live (live-inserted reserved new m keys next k _ (is_sound-like s reserved m next same sound) vacant put filled)
      ∙ ap (λ slots. with_inserted (shown slots m.entries next) x) same

-- one entry more, where there was none at the key
pub one_entry_more : (m keys : tree.BTreeMap ℕ ℕ) (o : Option ℕ) (k : ℕ) → o ≡ tree.get nat_cmp m k → tree.get nat_cmp m k ≡ None
    → tree.btree_map_len keys ≡ tree.btree_map_len m + (cond (is_some o) 0 1) → tree.btree_map_len keys ≡ tree.btree_map_len m + 1
one_entry_more m keys o k old none len = len ∙ ap (λ x. tree.btree_map_len m + cond (is_some x) 0 1) (old ∙ none)
