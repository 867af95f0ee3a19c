-- A channel that is changed by its number.
use Rattle.std.proofs.Common.{◌≡◌, ◌<◌, ◌≤◌, ◌+◌, ℕ, Bool, List, [], Some, length, set, get_or, slice_get, refl, sym, ap, ◌∙◌, arith}
use Rattle.std.specs.Prelude.{vec_capacity, vec_len, count_by, option_map}
use Rattle.std.specs.Global.{Vec}
use Rattle.std.proofs.lemmas.List.{length-set}
use Rattle.std.proofs.lemmas.List.Sums.{count_by-le-length}
use Rattle.std.proofs.lemmas.Option.{slice_get_read}
use Rattle.kernel_events.specs.SimModel.Configuration.{change, changed_at}
use Rattle.kernel_channels.specs.UpdateMarks.{HasRoom}

module _ {A : Type 0} (xs : List A) (n : ℕ) (x : A) (h : n < length xs) (read : x ≡ get_or xs n x) where
  pub there : slice_get xs n ≡ Some x
  there = slice_get_read xs (length xs) n x refl h read

  pub changed_there : (f : A → A) (y : A) → y ≡ f x → set xs n y ≡ change xs n f
  changed_there f y is = ap (set xs n) is ∙ sym (ap (changed_at xs n f) there)

  pub answered_there : {B : Type 0} (f : A → B) (y : B) → y ≡ f x → Some y ≡ option_map f (slice_get xs n)
  answered_there f y is = ap Some is ∙ sym (ap (option_map f) there)

-- room for those that are visited

pub room_again : (n m : ℕ) (visited visited' : Vec ℕ) → HasRoom n visited → m ≡ n → visited'.items ≡ [] → vec_capacity visited' ≡ vec_capacity visited → HasRoom m visited'
room_again n m visited visited' has same none room = record {
  none = none;
  room = let h = has.room in omega (arith, h, same, room);
}

pub room_enough : (n : ℕ) (visited : Vec ℕ) (marks : List Bool) → HasRoom n visited → length marks ≡ n → vec_len visited + count_by (λ mark. mark) marks ≤ vec_capacity visited
room_enough n visited marks has same =
    let none : vec_len visited ≡ 0 = visited.ok.0 ∙ ap length has.none in
    let room = has.room in
    omega (arith, none, room, same, count_by-le-length (λ mark. mark) marks)

pub same_length : {A : Type 0} (xs : List A) (n : ℕ) (y : A) → length (set xs n y) ≡ length xs
same_length xs n y = length-set xs n y
