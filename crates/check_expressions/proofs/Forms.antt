-- The first fault of the sites of each form of an expression, by what is found of its parts.
use Rattle.std.proofs.Common.{◌≡◌, ℕ, Bool, true, false, not, List, [], ◌∷◌, ◌++◌, Option, Some, None, refl, sym, ap, ◌∙◌}
use Rattle.std.specs.Prelude.{is_some, option_and_then}
use Rattle.std.specs.Option.{option_or}
use Rattle.model_tree.specs.Tree as tree
use Rattle.model_tree.specs.Lines.{first_line}
use Rattle.model_tree.specs.declared.faults.Fault.{Fault}
use Rattle.model_tree.specs.declared.faults.Kind.TheVariants as kind
use Rattle.model_tree.specs.declared.expressions.UnaryOp.{UnaryOp}
use Rattle.model_tree.specs.declared.expressions.BinaryOp.{BinaryOp}
use Rattle.model_tree.specs.declared.expressions.Conversion.{Conversion}
use Rattle.check_names.specs.ModelRules.Meanings.{is_width}
use Rattle.check_names.specs.ModelRules.Operators.{operands, unary_type, conversion_type, becomes_vector, concat_type, digit_count}
use Rattle.check_names.specs.ModelRules.Scopes.{Scope, meaning_of}
use Rattle.check_names.specs.ModelRules.Types.{type_seen, seen_of, with_place}
use Rattle.check_names.specs.ModelRules.declared.meanings.Seen.{Seen}
use Rattle.check_names.specs.ModelRules.declared.meanings.Meaning.{Meaning}
use Rattle.check_names.specs.ModelRules.declared.needs.Need.{Need}
use Rattle.check_names.specs.ModelRules.declared.needs.Need.TheVariants as need_of
use Rattle.check_names.specs.ModelRules.Names.{name_if, is_unmet, is_wrong_place, head_of, unknown_of_head, wrong_of_head}
use Rattle.check_names.specs.ModelRules.Values.{fails, refuse, refuses, is_beyond, element_differs, place_differs, wide_place}
use Rattle.check_names.specs.ModelRules.Sites.{Site, channel_site, channel_sites, place_sites, sites_as, has_index}
use Rattle.check_names.specs.ModelRules.Passes.{constructs, fault_at, fault_of}
use Rattle.check_expressions.specs.Findings.{told, told_if}
use Rattle.check_expressions.specs.ConstructFindings.{at_of, is_wrong_at, differs_at, wide_at, object_at, channel_fault, own_fault}
use Rattle.check_expressions.specs.declared.channels.At.TheVariants as at

pub or_nothing : {A : Type 0} (o : Option A) → option_or o None ≡ o
or_nothing None = refl
or_nothing (Some x) = refl

or_or : {A : Type 0} (a b c : Option A) → option_or a (option_or b c) ≡ option_or (option_or a b) c
or_or None b c = refl
or_or (Some x) b c = refl

pub fault_append : (xs ys : List Site) → fault_of constructs (xs ++ ys) ≡ option_or (fault_of constructs xs) (fault_of constructs ys)
fault_append [] ys = refl
fault_append (x ∷ xs) ys = ap (option_or (fault_at constructs x)) (fault_append xs ys) ∙ or_or (fault_at constructs x) (fault_of constructs xs) (fault_of constructs ys)

-- a form of an expression, seen from outside
pub of_form : (need : Need) (s : Scope) (x e : tree.Expression) (f : Option Fault) (g : tree.Expression → Option Fault) → e ≡ x → f ≡ g e → g x ≡ fault_of constructs (sites_as need s x)
    → f ≡ fault_of constructs (sites_as need s e)
of_form need s x e f g same h k = h ∙ ap g same ∙ k ∙ sym (ap (λ y. fault_of constructs (sites_as need s y)) same)

-- channels

five : (around name : List ℕ) (line : ℕ) (u w p d r : Bool)
    → option_or (told kind.UnknownName line (option_or (option_or (name_if u name) None) None))
    (option_or (told kind.WrongKind line (option_or (option_or (name_if w name) None) (name_if p name)))
    (option_or (told_if kind.TypeDiffers line around d) (option_or (told_if kind.WidthRange line around r) None)))
    ≡ option_or (told_if kind.UnknownName line name u)
    (option_or (told_if kind.WrongKind line name w)
    (option_or (told_if kind.WrongKind line name p)
    (option_or (told_if kind.TypeDiffers line around d) (told_if kind.WidthRange line around r))))
five around name line true w p d r = refl
five around name line false true p d r = refl
five around name line false false true d r = refl
five around name line false false false true r = refl
five around name line false false false false true = refl
five around name line false false false false false = refl

wrong_at : (s : Scope) (need : Need) (place : tree.Place) (m : Option Meaning) → is_wrong_place need place m ≡ is_wrong_at need (at_of s place) m
wrong_at s need tree.first None = refl
wrong_at s need tree.first (Some m) = refl
wrong_at s need (tree.place_number n) None = refl
wrong_at s need (tree.place_number n) (Some m) = refl
wrong_at s need (tree.computed e) None = refl
wrong_at s need (tree.computed e) (Some m) = refl

differs : (s : Scope) (place : tree.Place) → place_differs s place ≡ differs_at (at_of s place)
differs s tree.first = refl
differs s (tree.place_number n) = refl
differs s (tree.computed e) = refl

wide : (s : Scope) (place : tree.Place) (m : Option Meaning) → wide_place place m ≡ wide_at (at_of s place) m
wide s tree.first m = refl
wide s (tree.place_number n) m = refl
wide s (tree.computed e) m = refl

pub channel_is : (s : Scope) (need : Need) (c : tree.Channel) → fault_at constructs (channel_site s need c) ≡ channel_fault s.around need c.line c.name (at_of s c.place) (meaning_of s c.name)
channel_is s need c =
    let m = meaning_of s c.name in
    five s.around c.name c.line (not (is_some m)) (is_unmet need m) (is_wrong_place need c.place m) (place_differs s c.place) (wide_place c.place m)
    ∙ ap (λ p. told_parts p (place_differs s c.place) (wide_place c.place m)) (wrong_at s need c.place m)
    ∙ ap (λ d. told_parts (is_wrong_at need (at_of s c.place) m) d (wide_place c.place m)) (differs s c.place)
    ∙ ap (λ r. told_parts (is_wrong_at need (at_of s c.place) m) (differs_at (at_of s c.place)) r) (wide s c.place m)
  where
    told_parts : Bool → Bool → Bool → Option Fault
    told_parts p d r =
        option_or (told_if kind.UnknownName c.line c.name (not (is_some (meaning_of s c.name))))
        (option_or (told_if kind.WrongKind c.line c.name (is_unmet need (meaning_of s c.name)))
        (option_or (told_if kind.WrongKind c.line c.name p) (option_or (told_if kind.TypeDiffers c.line s.around d) (told_if kind.WidthRange c.line s.around r))))

-- forms

module _ (need : Need) (s : Scope) where
  pub convert_sites : (line : ℕ) (c : Conversion) (x : tree.Expression) (z : Seen) (f : Option Fault) → z ≡ seen_of s x → f ≡ fault_of constructs (sites_as need_of.Readable s x)
      → option_or (own_fault s.around line (refuses (conversion_type c) (type_seen z)) false false) f ≡ fault_of constructs (sites_as need s (tree.convert line c x))
  convert_sites line c x z f hz hf = rw (hz, hf) refl

  pub unary_sites : (line : ℕ) (o : UnaryOp) (x : tree.Expression) (z : Seen) (f : Option Fault) → z ≡ seen_of s x → f ≡ fault_of constructs (sites_as need_of.Readable s x)
      → option_or (own_fault s.around line (refuses (unary_type o) (type_seen z)) false false) f ≡ fault_of constructs (sites_as need s (tree.unary line o x))
  unary_sites line o x z f hz hf = rw (hz, hf) refl

  pub vector_sites : (line width : ℕ) (x : tree.Expression) (z : Seen) (f : Option Fault) → z ≡ seen_of s x → f ≡ fault_of constructs (sites_as need_of.Readable s x)
      → option_or (own_fault s.around line (fails (becomes_vector width) (type_seen z)) (not (is_width width)) false) f ≡ fault_of constructs (sites_as need s (tree.to_vector line width x))
  vector_sites line width x z f hz hf = rw (hz, hf) refl

  pub slice_sites : (x : tree.Expression) (high low : ℕ) (z : Seen) (f : Option Fault) → z ≡ seen_of s x → f ≡ fault_of constructs (sites_as need_of.Readable s x)
      → option_or (own_fault s.around (first_line x) (refuses digit_count (type_seen z)) (is_beyond high low (option_and_then digit_count (type_seen z))) false) f ≡ fault_of constructs (sites_as need s (tree.slice x high low))
  slice_sites x high low z f hz hf = rw (hz, hf) refl

  two : (own : Option Fault) (xs ys : List Site) → option_or own (option_or (fault_of constructs xs) (fault_of constructs ys)) ≡ option_or own (fault_of constructs (xs ++ ys))
  two own xs ys = ap (option_or own) (sym (fault_append xs ys))

  pub binary_sites : (o : BinaryOp) (x y : tree.Expression) (z w : Seen) (f g : Option Fault) → z ≡ seen_of s x → f ≡ fault_of constructs (sites_as need_of.Readable s x) → w ≡ seen_of s y → g ≡ fault_of constructs (sites_as need_of.Readable s y)
      → option_or (own_fault s.around (first_line x) (refuse (operands o) (type_seen z) (type_seen w)) false false) (option_or f g) ≡ fault_of constructs (sites_as need s (tree.binary o x y))
  binary_sites o x y z w f g hz hf hw hg =
      rw (hz, hf, hw, hg) (two (own_fault s.around (first_line x) (refuse (operands o) (type_seen (seen_of s x)) (type_seen (seen_of s y))) false false) (sites_as need_of.Readable s x) (sites_as need_of.Readable s y))

  pub concat_sites : (line : ℕ) (x y : tree.Expression) (z w : Seen) (f g : Option Fault) → z ≡ seen_of s x → f ≡ fault_of constructs (sites_as need_of.Readable s x) → w ≡ seen_of s y → g ≡ fault_of constructs (sites_as need_of.Readable s y)
      → option_or (own_fault s.around line (refuse concat_type (type_seen z) (type_seen w)) false false) (option_or f g) ≡ fault_of constructs (sites_as need s (tree.concat line x y))
  concat_sites line x y z w f g hz hf hw hg =
      rw (hz, hf, hw, hg) (two (own_fault s.around line (refuse concat_type (type_seen (seen_of s x)) (type_seen (seen_of s y))) false false) (sites_as need_of.Readable s x) (sites_as need_of.Readable s y))

  pub element_sites : (x y : tree.Expression) (z w : Seen) (f g : Option Fault) → z ≡ seen_of s x → f ≡ fault_of constructs (sites_as need_of.Indexed s x) → w ≡ seen_of s y → g ≡ fault_of constructs (sites_as need_of.Readable s y)
      → option_or (own_fault s.around (first_line x) (element_differs z (type_seen w)) false false) (option_or f g) ≡ fault_of constructs (sites_as need s (tree.element x y))
  element_sites x y z w f g hz hf hw hg =
      rw (hz, hf, hw, hg) (two (own_fault s.around (first_line x) (element_differs (seen_of s x) (type_seen (seen_of s y))) false false) (sites_as need_of.Indexed s x) (sites_as need_of.Readable s y))

  pub named_sites : (line : ℕ) (name : List ℕ) → channel_fault s.around need line name at.First (meaning_of s name) ≡ fault_of constructs (sites_as need s (tree.named line name))
  named_sites line name = sym (or_nothing _ ∙ channel_is s need (record { line = line; name = name; place = tree.first }))

  pub placed_sites : (line : ℕ) (name : List ℕ) (n : ℕ) → channel_fault s.around need line name (at.Number n) (meaning_of s name) ≡ fault_of constructs (sites_as need s (tree.placed line name n))
  placed_sites line name n = sym (or_nothing _ ∙ channel_is s need (record { line = line; name = name; place = tree.place_number n }))

  pub placed_by_sites : (line : ℕ) (name : List ℕ) (x : tree.Expression) (z : Seen) (f : Option Fault) → z ≡ seen_of s x → f ≡ fault_of constructs (sites_as need_of.Readable s x)
      → option_or (channel_fault s.around need line name (at.Computed (type_seen z)) (meaning_of s name)) f ≡ fault_of constructs (sites_as need s (tree.placed_by line name x))
  placed_by_sites line name x z f hz hf =
      rw (hz, hf) (ap (λ o. option_or o (fault_of constructs (sites_as need_of.Readable s x))) (sym (channel_is s need (record { line = line; name = name; place = tree.computed x }))))

  pub member_sites : (x : tree.Expression) (name : List ℕ) (f : Option Fault) → f ≡ fault_of constructs (sites_as need_of.Object s x)
      → option_or (option_or (told kind.UnknownName (first_line x) (unknown_of_head name (head_of s x))) (told kind.WrongKind (first_line x) (wrong_of_head (has_index need) name (head_of s x)))) f
      ≡ fault_of constructs (sites_as need s (tree.member x name))
  member_sites x name f hf =
      rw hf (ap (λ o. option_or (option_or (told kind.UnknownName (first_line x) (unknown_of_head name (head_of s x))) o) (fault_of constructs (sites_as need_of.Object s x)))
      (sym (or_nothing (told kind.WrongKind (first_line x) (wrong_of_head (has_index need) name (head_of s x))))))

-- the channel of a statement

pub channel_sites_are : (s : Scope) (need : Need) (c : tree.Channel)
    → option_or (channel_fault s.around need c.line c.name (at_of s c.place) (meaning_of s c.name)) (fault_of constructs (place_sites s c.place)) ≡ fault_of constructs (channel_sites s need c)
channel_sites_are s need c = ap (λ o. option_or o (fault_of constructs (place_sites s c.place))) (sym (channel_is s need c))

pub channel_at : (s : Scope) (place : tree.Place) (m : Option Meaning) → object_at (at_of s place) m ≡ option_and_then (with_place s place) m
channel_at s tree.first None = refl
channel_at s tree.first (Some m) = refl
channel_at s (tree.place_number n) m = refl
channel_at s (tree.computed e) m = refl
