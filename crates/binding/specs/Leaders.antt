-- How many initiators lead to a socket: none, one, or two that differ.
use Rattle.std.specs.Prelude.{◌≡◌, ◌==◌, ℕ, Bool, true, false, not, List, [], ◌∷◌, fold, slice_get, unwrap_or}
use Rattle.std.specs.List.{list_any}
use Rattle.design_rules.specs.FlatDesign.declared.objects.Binding.{Binding}
use Rattle.design_rules.specs.FlatDesign.declared.objects.Objects.{Objects}
use Rattle.design_rules.specs.Objects.{form_at}
use Rattle.design_rules.specs.Paths.{is_beginning, leaders_of}
use Rattle.binding.specs.declared.leading.Leading.{Leading}
use Rattle.binding.specs.declared.leading.Leading.TheVariants as leading

-- one of them, or two
abbrev pub one_or : ℕ → Bool → Leading
one_or x true = leading.Several
one_or x false = leading.One x

abbrev pub leading_of : List ℕ → Leading
leading_of [] = leading.Nobody
leading_of (x ∷ xs) = one_or x (list_any (λ y. not (y == x)) xs)

-- those of two lists, one behind the other
abbrev pub one_and : ℕ → Leading → Leading
one_and x leading.Nobody = leading.One x
one_and x (leading.One y) = one_or x (not (y == x))
one_and x leading.Several = leading.Several

abbrev pub both : Leading → Leading → Leading
both leading.Nobody l = l
both (leading.One x) l = one_and x l
both leading.Several l = leading.Several

abbrev pub is_nobody : Leading → Bool
is_nobody leading.Nobody = true
is_nobody (leading.One x) = false
is_nobody leading.Several = false

abbrev pub is_several : Leading → Bool
is_several leading.Nobody = false
is_several (leading.One x) = false
is_several leading.Several = true

-- under a number past them stands nobody
abbrev pub leading_at : List Leading → ℕ → Leading
leading_at table i = unwrap_or (slice_get table i) leading.Nobody

-- an initiator itself, or what is known of another object
abbrev pub itself_leading : Leading → ℕ → Bool → Leading
itself_leading known i true = leading.One i
itself_leading known i false = known

abbrev pub led_by : Objects → (ℕ → Leading) → ℕ → Leading
led_by os f i = itself_leading (f i) i (is_beginning (form_at os i))

-- those of bindings, one after another
abbrev pub led_through : Objects → (ℕ → Leading) → List Binding → Leading
led_through os f links = fold (λ l (b : Binding). both l (led_by os f b.left)) leading.Nobody links

-- how many lead to each object
abbrev pub AreLed : Objects → List Leading → Type 0
AreLed os table = (i : ℕ) → leading_at table i ≡ leading_of (leaders_of os i)
