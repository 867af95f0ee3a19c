-- The first fault of parts, one behind another, and of a walk along a list.
use Rattle.std.proofs.Common.{◌≡◌, ℕ, ◌+◌, ◌<◌, Bool, true, false, ◌||◌, List, [], ◌∷◌, ◌++◌, length, get_or, drop, drop-cons, add-one, Option, Some, None, refl, sym, ap, ◌∙◌}
use Rattle.std.specs.Option.{option_or}
use Rattle.model_tree.specs.declared.faults.Fault.{Fault}
use Rattle.model_tree.specs.Tree as tree
use Rattle.model_tree.specs.declared.faults.Kind.TheVariants as kind
use Rattle.check_expressions.specs.ModelRules.Scopes.{Scope, meaning_of}
use Rattle.check_expressions.specs.Findings.{told}
use Rattle.check_expressions.specs.ConstructFindings.{is_wrong_member, member_fault}
use Rattle.check_expressions.specs.declared.heads.MemberUse.TheVariants as used
use Rattle.check_expressions.specs.ModelRules.Names.{Used as NameUsed, first, unknown_member, wrong_member, unknown_use, wrong_use}
use Rattle.check_expressions.specs.ModelRules.declared.needs.Need.TheVariants as need_of
use Rattle.model_tree.specs.declared.statements.Who.TheVariants as who
use Rattle.check_actions.specs.Uses.{used_of, uses_of, event_at, site_fault}
use Rattle.check_actions.specs.declared.uses.Used.{Used}
use Rattle.check_expressions.specs.ModelRules.Sites.{Site, channel_sites, event_need, event_sites, who_sites}
use Rattle.check_expressions.specs.ModelRules.Passes.{constructs, fault_at, fault_of}

pub or_nothing : {A : Type 0} (o : Option A) → option_or o None ≡ o
or_nothing None = refl
or_nothing (Some x) = refl

or_or : {A : Type 0} (a b c : Option A) → option_or a (option_or b c) ≡ option_or (option_or a b) c
or_or None b c = refl
or_or (Some x) b c = refl

pub fault_append : (xs ys : List Site) → fault_of constructs (xs ++ ys) ≡ option_or (fault_of constructs xs) (fault_of constructs ys)
fault_append [] ys = refl
fault_append (x ∷ xs) ys = ap (option_or (fault_at constructs x)) (fault_append xs ys) ∙ or_or (fault_at constructs x) (fault_of constructs xs) (fault_of constructs ys)

pub ruleset parts = (fault_append)

-- a walk along a list, at the element i of it
module _ {X : Type 0} (walk : List X → List Site) (part : X → List Site) (one : (x : X) (xs : List X) → walk (x ∷ xs) ≡ part x ++ walk xs) (xs : List X) (i : ℕ) (x : X) (within : i < length xs) (is : x ≡ get_or xs i x) where
  here : fault_of constructs (walk (drop i xs)) ≡ option_or (fault_of constructs (part x)) (fault_of constructs (walk (drop (i + 1) xs)))
  here =
      ap (λ ys. fault_of constructs (walk ys)) (rw (add-one, drop-cons xs i x within, ← is) refl)
      ∙ ap (fault_of constructs) (one x (drop (i + 1) xs))
      ∙ fault_append (part x) (walk (drop (i + 1) xs))

  pub found_along : (whole : Option Fault) (f : Fault) → whole ≡ fault_of constructs (walk (drop i xs)) → Some f ≡ fault_of constructs (part x) → Some f ≡ whole
  found_along whole f h found = sym (h ∙ here ∙ ap (λ o. option_or o (fault_of constructs (walk (drop (i + 1) xs)))) (sym found))

  pub none_along : (whole : Option Fault) → whole ≡ fault_of constructs (walk (drop i xs)) → None ≡ fault_of constructs (part x) → whole ≡ fault_of constructs (walk (drop (i + 1) xs))
  none_along whole h none = h ∙ here ∙ ap (λ o. option_or o (fault_of constructs (walk (drop (i + 1) xs)))) (sym none)

-- the first that is found along a list of names, at the name i of it
module _ (f : NameUsed → Option (List ℕ)) (us : List Used) (i : ℕ) (d : Used) (within : i < length us) where
  use_here : first f (uses_of (drop i us)) ≡ option_or (f (used_of (get_or us i d))) (first f (uses_of (drop (i + 1) us)))
  use_here =
      let e : drop i us ≡ get_or us i d ∷ drop (i + 1) us = rw (add-one, drop-cons us i d within) refl in
      ap (λ (vs : List Used). first f (uses_of vs)) e

  pub use_found : (whole : Option (List ℕ)) (name : List ℕ) → whole ≡ first f (uses_of (drop i us)) → Some name ≡ f (used_of (get_or us i d)) → Some name ≡ whole
  use_found whole name h found = sym (h ∙ use_here ∙ ap (λ o. option_or o (first f (uses_of (drop (i + 1) us)))) (sym found))

  pub use_passed : (whole : Option (List ℕ)) → whole ≡ first f (uses_of (drop i us)) → None ≡ f (used_of (get_or us i d)) → whole ≡ first f (uses_of (drop (i + 1) us))
  use_passed whole h none = h ∙ use_here ∙ ap (λ o. option_or o (first f (uses_of (drop (i + 1) us)))) (sym none)

-- an event that is a member, itself and its channel
pub member_event : (s : Scope) (static : Bool) (c : tree.Channel) (name : List ℕ)
    → option_or (member_fault used.Event c.line c.name name (meaning_of s c.name)) (fault_of constructs (channel_sites s (event_need static (Some name)) c)) ≡ fault_of constructs (event_sites s static (event_at c name))
member_event s static c name =
    ap (λ o. option_or (option_or (told kind.UnknownName c.line (unknown_member (meaning_of s c.name) name)) o) (fault_of constructs (channel_sites s (event_need static (Some name)) c)))
    (sym (or_nothing (told kind.WrongKind c.line (wrong_member (is_wrong_member used.Event name) c.name name (meaning_of s c.name)))))

-- the process of a control call
who_shape : (line : ℕ) (u w : Option (List ℕ))
    → option_or (told kind.UnknownName line u) (option_or (told kind.WrongKind line w) None)
    ≡ option_or (option_or (told kind.UnknownName line (option_or u None)) (option_or (told kind.WrongKind line (option_or w None)) None)) None
who_shape line (Some u) w = refl
who_shape line None (Some w) = refl
who_shape line None None = refl

pub who_sites_are : (s : Scope) (line : ℕ) (name : List ℕ) → site_fault s line ((name, need_of.Process) ∷ []) false None ≡ fault_of constructs (who_sites s (who.Named line name))
who_sites_are s line name = who_shape line (first (unknown_use s) ((name, need_of.Process) ∷ [])) (first (wrong_use s) ((name, need_of.Process) ∷ []))
