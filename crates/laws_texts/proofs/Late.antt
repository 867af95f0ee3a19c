-- A fault that the rules tell of a literal past the range: it is that of the first literal that is no time.
use Rattle.std.proofs.Common.{◌≡◌, ℕ, Bool, true, false, not, ◌&&◌, List, [], ◌∷◌, ◌++◌, Option, Some, None, option_map, refl, sym, ap, ◌∙◌, true≢false}
use Rattle.std.specs.Option.{option_or}
use Rattle.std.specs.List.{find}
use Rattle.std.proofs.lemmas.Bool.{and_parts}
use Rattle.model_tree.specs.Tree as tree
use Rattle.model_tree.specs.SimTime.declared.moments.Resolution.{Resolution}
use Rattle.model_tree.specs.declared.faults.Fault.{Fault}
use Rattle.model_tree.specs.declared.faults.Kind.{Kind}
use Rattle.model_tree.specs.declared.faults.Kind.TheVariants as kind
use Rattle.tick_trees.specs.Ticks.{ticks}
use Rattle.tick_trees.specs.Times.{Timed, times_of}
use Rattle.tick_trees.specs.Unfit.{first_unfit, is_past}
use Rattle.tick_trees.specs.declared.found.Unfit.{Unfit}
use Rattle.model_rules.specs.Sites.{Site, sites}
use Rattle.model_rules.specs.Names.{first, name_if, unknown_name, wrong_kind}
use Rattle.model_rules.specs.Values.{late_in, type_differs, width_range, literal_range}
use Rattle.model_rules.specs.Calls.{bad_handler, bad_spawn, argument_count, return_differs}
use Rattle.model_rules.specs.Items.{bad_clock, fifo_size, semaphore_range, port_range, bad_binding}
use Rattle.model_rules.specs.Passes.{Rule, rule, doubles, constructs, reaches, fault_by, fault_at, fault_of, first_fault}
use Rattle.model_rules.proofs.Firsts.{first_append}
use Rattle.laws_texts.proofs.Literals.{line_if, late_lines, first_of, first_past, of_model}

-- whether it is told of a literal past the range

abbrev is_literal : Kind → Bool
is_literal kind.LiteralRange = true
is_literal other = false

abbrev literal_in : Option Fault → Bool
literal_in None = false
literal_in (Some f) = is_literal f.kind

neither : (a b : Option Fault) → literal_in a ≡ false → literal_in b ≡ false → literal_in (option_or a b) ≡ false
neither None b h k = k
neither (Some f) b h k = h

-- what a rule tells by the name that is told of a site that breaks it
abbrev told_by : Kind → ℕ → Option (List ℕ) → Option Fault
told_by k line o = option_map (λ name. record { kind = k; line = line; name = name }) o

-- rules of other kinds

turned : (b : Bool) → not b ≡ true → b ≡ false
turned true h = absurd (true≢false (sym h))
turned false h = refl

abbrev are_others : List Rule → Bool
are_others [] = true
are_others (r ∷ rs) = not (is_literal r.kind) && are_others rs

other_kind : (k : Kind) (line : ℕ) (o : Option (List ℕ)) → not (is_literal k) ≡ true → literal_in (told_by k line o) ≡ false
other_kind k line None h = refl
other_kind k line (Some name) h = turned (is_literal k) h

other_rules : (x : Site) (rs : List Rule) → are_others rs ≡ true → literal_in (first (fault_by x) rs) ≡ false
other_rules x [] h = refl
other_rules x (r ∷ rs) h =
    let parts = and_parts (not (is_literal r.kind)) (are_others rs) h in
    neither (fault_by x r) (first (fault_by x) rs) (other_kind r.kind x.line (r.broken x) parts.0) (other_rules x rs parts.1)

other_passes : (rs : List Rule) (xs : List Site) → are_others rs ≡ true → literal_in (fault_of rs xs) ≡ false
other_passes rs [] h = refl
other_passes rs (x ∷ xs) h = neither (fault_at rs x) (fault_of rs xs) (other_rules x rs h) (other_passes rs xs h)

-- a fault stands on the line of its site

by_name : (line : ℕ) (k : Kind) (o : Option (List ℕ)) (others : Option Fault) (f : Fault) → (others ≡ Some f → Some line ≡ Some f.line) → option_or (told_by k line o) others ≡ Some f → Some line ≡ Some f.line
by_name line k None others f rest e = rest e
by_name line k (Some name) others f rest e = ap (option_map (λ (g : Fault). g.line)) e

on_line : (x : Site) (rs : List Rule) (f : Fault) → first (fault_by x) rs ≡ Some f → Some x.line ≡ Some f.line
on_line x [] f e = cc
on_line x (r ∷ rs) f e = by_name x.line r.kind (r.broken x) (first (fault_by x) rs) f (on_line x rs f) e

-- one site, by what the rules before and behind this one tell, and whether it is a literal that is no time

silent : (o p : Option Fault) (late : Bool) (line : ℕ) (name : List ℕ) → option_or o (option_or (told_by kind.LiteralRange line (name_if late name)) p) ≡ None → late ≡ false
silent (Some f) p late line name e = cc
silent None p true line name e = cc
silent None p false line name e = refl

loud : (o p : Option Fault) (late : Bool) (line : ℕ) (name : List ℕ) → literal_in o ≡ false → literal_in p ≡ false
    → literal_in (option_or o (option_or (told_by kind.LiteralRange line (name_if late name)) p)) ≡ true → late ≡ true
loud (Some f) p late line name h k e = absurd (true≢false (sym e ∙ h))
loud None p true line name h k e = refl
loud None p false line name h k e = absurd (true≢false (sym e ∙ k))

module _ (before behind : List Rule) (others_before : are_others before ≡ true) (others_behind : are_others behind ≡ true) where
  abbrev all : List Rule
  all = before ++ rule kind.LiteralRange literal_range ∷ behind

  at_rules : (x : Site) → fault_at all x ≡ option_or (first (fault_by x) before) (option_or (told_by kind.LiteralRange x.line (name_if (late_in x.part) x.scope.around)) (first (fault_by x) behind))
  at_rules x = first_append (fault_by x) before (rule kind.LiteralRange literal_range ∷ behind)

  at_site : (x : Site) (xs : List Site) (f : Fault) (o : Option Fault) → fault_at all x ≡ o → is_literal f.kind ≡ true → (fault_of all xs ≡ Some f → first_of (late_lines xs) ≡ Some f.line)
      → option_or o (fault_of all xs) ≡ Some f → first_of (late_lines (x ∷ xs)) ≡ Some f.line
  at_site x xs f None is literal rest e =
      ap (λ late. first_of (line_if late x.line ++ late_lines xs))
      (silent (first (fault_by x) before) (first (fault_by x) behind) (late_in x.part) x.line x.scope.around (sym (at_rules x) ∙ is))
      ∙ rest e
  at_site x xs f (Some g) is literal rest e =
      let found : fault_at all x ≡ Some f = is ∙ e in
      ap (λ late. first_of (line_if late x.line ++ late_lines xs))
      (loud (first (fault_by x) before) (first (fault_by x) behind) (late_in x.part) x.line x.scope.around (other_rules x before others_before) (other_rules x behind others_behind)
      (ap literal_in (sym (at_rules x) ∙ found) ∙ literal))
      ∙ on_line x all f found

  stands : (xs : List Site) (f : Fault) → is_literal f.kind ≡ true → fault_of all xs ≡ Some f → first_of (late_lines xs) ≡ Some f.line
  stands [] f literal e = cc
  stands (x ∷ xs) f literal e = at_site x xs f (fault_at all x) refl literal (stands xs f literal) e

-- the pass in the middle
in_pass : (o p q : Option Fault) (f : Fault) → literal_in o ≡ false → literal_in q ≡ false → is_literal f.kind ≡ true → option_or o (option_or p q) ≡ Some f → p ≡ Some f
in_pass (Some g) p q f h k literal e = absurd (true≢false (sym literal ∙ sym (ap literal_in e) ∙ h))
in_pass None (Some g) q f h k literal e = e
in_pass None None q f h k literal e = absurd (true≢false (sym literal ∙ sym (ap literal_in e) ∙ k))

abbrev before_literals : List Rule
before_literals = rule kind.UnknownName unknown_name ∷ rule kind.WrongKind wrong_kind ∷ rule kind.TypeDiffers type_differs ∷ rule kind.WidthRange width_range ∷ []

abbrev behind_literals : List Rule
behind_literals =
    rule kind.BadHandler bad_handler
    ∷ rule kind.BadSpawn bad_spawn
    ∷ rule kind.ArgumentCount argument_count
    ∷ rule kind.ReturnDiffers return_differs
    ∷ rule kind.BadClock bad_clock
    ∷ rule kind.FifoSize fifo_size
    ∷ rule kind.SemaphoreRange semaphore_range
    ∷ rule kind.PortSize port_range
    ∷ rule kind.BadBinding bad_binding
    ∷ []

literal_stands : (m : tree.Model) (f : Fault) → first_fault m ≡ Some f → is_literal f.kind ≡ true → first_of (late_lines (sites m)) ≡ Some f.line
literal_stands m f e literal =
    let xs = sites m in
    stands before_literals behind_literals refl refl xs f literal
    (in_pass (fault_of doubles xs) (fault_of constructs xs) (option_or (fault_of reaches xs) None) f (other_passes doubles xs refl)
    (neither (fault_of reaches xs) None (other_passes reaches xs refl) refl) literal e)

pub late_is_unfit : (r : Resolution) (m : tree.Model) (f : Fault) → option_map (λ (t : Timed). t.line) (find is_past (times_of (ticks r m))) ≡ option_map (λ (u : Unfit). u.line) (first_unfit r m)
    → first_fault (ticks r m) ≡ Some f → f.kind ≡ kind.LiteralRange → option_map (λ (u : Unfit). u.line) (first_unfit r m) ≡ Some f.line
late_is_unfit r m f same e is =
    sym same ∙ first_past (times_of (ticks r m)) ∙ ap first_of (sym (of_model (ticks r m))) ∙ literal_stands (ticks r m) f e (ap is_literal is)
