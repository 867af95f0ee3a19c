-- The channels of an object, as far as they are kept.
use Rattle.std.specs.Prelude.{ℕ, List, take}
use Rattle.design_rules.specs.FlatDesign.declared.objects.Objects.{Objects}
use Rattle.design_rules.specs.Objects.{form_at}
use Rattle.design_rules.specs.Paths.{is_end, itself_or, ends_of}

-- a port has at most 64 channels: one more tells that there are too many
abbrev pub kept_ends : Objects → ℕ → List ℕ
kept_ends os i = take 65 (ends_of os i)

-- where a right end leads, if each object that ends no path leads where f says
abbrev pub leads : Objects → (ℕ → List ℕ) → ℕ → List ℕ
leads os f i = itself_or (f i) i (is_end (form_at os i))
