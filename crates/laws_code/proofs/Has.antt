-- What may be there is there, and so.
use Rattle.std.proofs.Common.{◌≡◌, List, [], ◌∷◌, Option, Some, refl, ◌∙◌, ap}
use Rattle.std.specs.Prelude.{option_map, option_and_then}
use Rattle.std.specs.List.{AllByRecursion}
use Rattle.code_rules.specs.Deeds.{with_two, with_three, with_four, each}
use Rattle.code_rules.specs.FlatDesign.Typed.{EachOf}

abbrev pub Has : {A : Type 0} → (A → Type 0) → Option A → Type 0
Has {A} P o = (x : A) × (o ≡ Some x) × P x

pub map_has : {A B : Type 0} (P : A → Type 0) (Q : B → Type 0) (f : A → B) (o : Option A) → ((x : A) → P x → Q (f x)) → Has P o → Has Q (option_map f o)
map_has P Q f o g h = (f h.0, ap (option_map f) h.1, g h.0 h.2)

pub bind_has : {A B : Type 0} (P : A → Type 0) (Q : B → Type 0) (f : A → Option B) (o : Option A) → ((x : A) → P x → Has Q (f x)) → Has P o → Has Q (option_and_then f o)
bind_has P Q f o g h = let k = g h.0 h.2 in (k.0, ap (option_and_then f) h.1 ∙ k.1, k.2)

two_is : {A B C : Type 0} (f : A → B → C) (a : Option A) (b : Option B) (x : A) (y : B) → a ≡ Some x → b ≡ Some y → with_two f a b ≡ Some (f x y)
two_is f a b x y h k = λ i. with_two f (h i) (k i)

pub two_has : {A B C : Type 0} (P : A → Type 0) (Q : B → Type 0) (R : C → Type 0) (f : A → B → C) (a : Option A) (b : Option B) → ((x : A) (y : B) → P x → Q y → R (f x y)) → Has P a → Has Q b
    → Has R (with_two f a b)
two_has P Q R f a b g h k = (f h.0 k.0, two_is f a b h.0 k.0 h.1 k.1, g h.0 k.0 h.2 k.2)

pub three_has : {A B C D : Type 0} (P : A → Type 0) (Q : B → Type 0) (R : C → Type 0) (S : D → Type 0) (f : A → B → C → D) (a : Option A) (b : Option B) (c : Option C)
    → ((x : A) (y : B) (z : C) → P x → Q y → R z → S (f x y z)) → Has P a → Has Q b → Has R c → Has S (with_three f a b c)
three_has P Q R S f a b c g h k l =
    (f h.0 k.0 l.0, (λ i. with_three f (h.1 i) (k.1 i) (l.1 i)), g h.0 k.0 l.0 h.2 k.2 l.2)

pub four_has : {A B C D E : Type 0} (P : A → Type 0) (Q : B → Type 0) (R : C → Type 0) (S : D → Type 0) (T : E → Type 0) (f : A → B → C → D → E) (a : Option A) (b : Option B) (c : Option C) (d : Option D)
    → ((x : A) (y : B) (z : C) (w : D) → P x → Q y → R z → S w → T (f x y z w)) → Has P a → Has Q b → Has R c → Has S d → Has T (with_four f a b c d)
four_has P Q R S T f a b c d g h k l m =
    (f h.0 k.0 l.0 m.0, (λ i. with_four f (h.1 i) (k.1 i) (l.1 i) (m.1 i)), g h.0 k.0 l.0 m.0 h.2 k.2 l.2 m.2)

pub each_has : {A B : Type 0} (P : B → Type 0) (f : A → Option B) (xs : List A) → AllByRecursion (λ x. Has P (f x)) xs → Has (EachOf P) (each f xs)
each_has P f [] h = ([], refl, tt)
each_has P f (x ∷ xs) h = two_has P (EachOf P) (EachOf P) (λ y ys. y ∷ ys) (f x) (each f xs) (λ y ys p q. (p, q)) h.0 (each_has P f xs h.1)

pub weaker : {A : Type 0} (P Q : A → Type 0) (o : Option A) → ((x : A) → P x → Q x) → Has P o → Has Q o
weaker P Q o f h = (h.0, h.1, f h.0 h.2)
