-- Where the update leaves each without a mark as it is.
use Rattle.std.proofs.Common.{◌≡◌, ◌+◌, ℕ, zero, suc, Bool, true, false, cond, List, [], ◌∷◌, Option, None, map, length, set, replicate, refl, sym, ap, arith, true≢false}
use Rattle.std.specs.List.{list_any}
use Rattle.kernel_events.specs.LogicValues.declared.kinds.Value.{Value}
use Rattle.kernel_events.specs.SignalChannel.Signals.{settled, unwritten, is_many}
use Rattle.kernel_events.specs.SignalChannel.declared.signal.Signal.{Signal}
use Rattle.kernel_events.specs.SignalChannel.declared.signal.Policy.{Policy}
use Rattle.kernel_events.specs.SignalChannel.declared.signal.Changed.{Changed}
use Rattle.kernel_events.specs.FifoSync.Fifos.{after_update, nothing_in}
use Rattle.kernel_events.specs.FlatDesign.declared.design.SignalPart.{SignalPart}
use Rattle.kernel_events.specs.FlatDesign.declared.design.FifoPart.{FifoPart}
use Rattle.kernel_events.specs.NumberedSlots.Places.{places_from}
use Rattle.kernel_events.specs.SimModel.Configuration.{first_signal}
use Rattle.kernel_channels.specs.UpdateMarks.{Rests, nothing}
use Rattle.kernel_channels.proofs.Walked.{each_if, changes_if}

module _ {A : Type 0} (after : A → A) where
  pub rests_set : (xs : List A) (bs : List Bool) (n : ℕ) (y : A) → Rests after xs bs → Rests after (set xs n y) (set bs n true)
  rests_set [] [] n y rests = tt
  rests_set [] (b ∷ bs) n y rests = absurd rests
  rests_set (x ∷ xs) [] n y rests = absurd rests
  rests_set (x ∷ xs) (true ∷ bs) zero y rests = rests
  rests_set (x ∷ xs) (false ∷ bs) zero y rests = rests.1
  rests_set (x ∷ xs) (true ∷ bs) (suc n) y rests = rests_set xs bs n y rests
  rests_set (x ∷ xs) (false ∷ bs) (suc n) y rests = (rests.0, rests_set xs bs n y rests.1)

  pub as_many : (xs : List A) (bs : List Bool) → Rests after xs bs → length bs ≡ length xs
  as_many [] [] rests = refl
  as_many [] (b ∷ bs) rests = absurd rests
  as_many (x ∷ xs) [] rests = absurd rests
  as_many (x ∷ xs) (true ∷ bs) rests = let rest = as_many xs bs rests in omega (arith, rest)
  as_many (x ∷ xs) (false ∷ bs) rests = let rest = as_many xs bs rests.1 in omega (arith, rest)

  pub rests_all : (xs : List A) → ((x : A) → after (after x) ≡ after x) → Rests after (map after xs) (replicate (length xs) false)
  rests_all [] again = tt
  rests_all (x ∷ xs) again = (again x, rests_all xs again)

  pub updated_all : (xs : List A) (bs : List Bool) → Rests after xs bs → each_if after xs bs ≡ map after xs
  updated_all [] [] rests = refl
  updated_all [] (b ∷ bs) rests = absurd rests
  updated_all (x ∷ xs) [] rests = absurd rests
  updated_all (x ∷ xs) (true ∷ bs) rests = ap (λ ys. after x ∷ ys) (updated_all xs bs rests)
  updated_all (x ∷ xs) (false ∷ bs) rests = λ i. sym rests.0 i ∷ updated_all xs bs rests.1 i

  module _ (changes : A → Changed) (quiet : (x : A) → after x ≡ x → changes x ≡ nothing) where
    pub changed_all : (xs : List A) (bs : List Bool) → Rests after xs bs → changes_if after changes xs bs ≡ map (λ x. (changes x).changed) xs
    changed_all [] [] rests = refl
    changed_all [] (b ∷ bs) rests = absurd rests
    changed_all (x ∷ xs) [] rests = absurd rests
    changed_all (x ∷ xs) (true ∷ bs) rests = ap (λ ys. (changes x).changed ∷ ys) (changed_all xs bs rests)
    changed_all (x ∷ xs) (false ∷ bs) rests = λ i. (sym (quiet x rests.0) i).changed ∷ changed_all xs bs rests.1 i

-- ---- signals

by_many : (b : Bool) (w : Option ℕ) → cond b None (cond b None w) ≡ cond b None w
by_many true w = refl
by_many false w = refl

pub settled_again : (s : Signal) → settled (settled s) ≡ settled s
settled_again s = λ i. record {
  policy = s.policy;
  value = cond s.asked s.next s.value;
  next = s.next;
  asked = false;
  writer = by_many (is_many s.policy) s.writer i;
}

by_none : (b : Bool) → ◌≡◌ {A = Option ℕ} (cond b None None) None
by_none true = refl
by_none false = refl

unwritten_rests : (policy : Policy) (v : Value) → settled (unwritten policy v) ≡ unwritten policy v
unwritten_rests policy v = λ i. record { policy = policy; value = v; next = v; asked = false; writer = by_none (is_many policy) i }

pub first_rests : (ps : List SignalPart) → Rests settled (map first_signal ps) (replicate (length ps) false)
first_rests [] = tt
first_rests (p ∷ ps) = (unwritten_rests _ p.initial, first_rests ps)

-- ---- fifos

pub empty_rests : (ps : List FifoPart) → Rests after_update (map (λ (p : FifoPart). nothing_in p.size) ps) (replicate (length ps) false)
empty_rests [] = tt
empty_rests (p ∷ ps) = (refl, empty_rests ps)

-- ---- lists of marks that are all false

pub all_false : {A : Type 0} (xs : List A) → map (λ (x : A). false) xs ≡ replicate (length xs) false
all_false [] = refl
all_false (x ∷ xs) = ap (λ bs. false ∷ bs) (all_false xs)

pub none_placed : (b : ℕ) (marks : List Bool) → list_any (λ mark. mark) marks ≡ false → [] ≡ places_from b marks
none_placed b [] none = refl
none_placed b (true ∷ marks) none = absurd (true≢false none)
none_placed b (false ∷ marks) none = none_placed (b + 1) marks none

pub all_unmarked : (marks : List Bool) → list_any (λ mark. mark) marks ≡ false → marks ≡ map (λ (b : Bool). false) marks
all_unmarked [] none = refl
all_unmarked (true ∷ marks) none = absurd (true≢false none)
all_unmarked (false ∷ marks) none = ap (λ bs. false ∷ bs) (all_unmarked marks none)
