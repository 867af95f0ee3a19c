-- What is found at statements themselves, by their names, their types and their other rules.
use Rattle.std.proofs.Common.{◌≡◌, ℕ, Bool, false, not, List, ◌++◌, Option, Some, None, refl, sym, ap, ◌∙◌}
use Rattle.std.specs.Option.{option_or}
use Rattle.model_tree.specs.Tree as tree
use Rattle.model_tree.specs.declared.faults.Fault.{Fault}
use Rattle.model_tree.specs.declared.faults.Kind.TheVariants as kind
use Rattle.model_tree.specs.declared.types.SignalType.{SignalType}
use Rattle.model_tree.specs.declared.types.VarType.{VarType}
use Rattle.check_actions.specs.ModelRules.Scopes.{Scope, meaning_of, is_known}
use Rattle.check_actions.specs.ModelRules.Members.{row_of}
use Rattle.check_actions.specs.ModelRules.declared.meanings.Row.{Row}
use Rattle.check_actions.specs.ModelRules.declared.meanings.Meaning.{Meaning}
use Rattle.check_actions.specs.ModelRules.Targets.{destination_of}
use Rattle.check_actions.specs.ModelRules.Names.{first, name_if, unknown_use, wrong_use, unknown_assigned, wrong_assigned, unknown_member, wrong_member, wrong_in_row, is_unmet, goes_nowhere, optional, target_need}
use Rattle.check_actions.specs.ModelRules.Values.{is_wide, statement_differs, result_differs}
use Rattle.check_actions.specs.ModelRules.Sites.{Site, site, of_statement, type_site, option_sites, variable_type_sites, statement_sites}
use Rattle.check_actions.specs.ModelRules.declared.needs.Need.TheVariants as need_of
use Rattle.check_actions.specs.ModelRules.Passes.{constructs, fault_at, fault_of}
use Rattle.check_actions.proofs.ModelRules.Firsts.{first_append}
use Rattle.check_actions.specs.CheckExpressions.Findings.{told, told_if}
use Rattle.check_actions.specs.CheckExpressions.ConstructFindings.{is_wrong_member, member_fault}
use Rattle.check_actions.specs.CheckExpressions.declared.heads.MemberUse.TheVariants as used
use Rattle.check_actions.specs.Uses.{site_fault}
use Rattle.check_statements.specs.Own.{assigned, assign_fault, condition_fault}

pub or_nothing : {A : Type 0} (o : Option A) → option_or o None ≡ o
or_nothing None = refl
or_nothing (Some x) = refl

pub or_or : {A : Type 0} (a b c : Option A) → option_or a (option_or b c) ≡ option_or (option_or a b) c
or_or None b c = refl
or_or (Some x) b c = refl

pub fault_append : (xs ys : List Site) → fault_of constructs (xs ++ ys) ≡ option_or (fault_of constructs xs) (fault_of constructs ys)
fault_append xs ys = first_append (fault_at constructs) xs ys

-- a type

pub type_site_is : (s : Scope) (t : SignalType) → fault_of constructs (type_site s t) ≡ told_if kind.WidthRange t.line s.around (is_wide t.form)
type_site_is s t = let w = told_if kind.WidthRange t.line s.around (is_wide t.form) in or_nothing (option_or w None) ∙ or_nothing w

-- a local variable

pub var_is : (s : Scope) (line : ℕ) (t : VarType) (name : List ℕ) (e : Option tree.Expression)
    → fault_of constructs (statement_sites (tree.var line t name e) s)
    ≡ option_or (told_if kind.TypeDiffers line s.around (statement_differs s (tree.var line t name e))) (option_or (fault_of constructs (variable_type_sites s t)) (fault_of constructs (option_sites s e)))
var_is s line t name e =
    let d = told_if kind.TypeDiffers line s.around (statement_differs s (tree.var line t name e)) in
    ap (λ o. option_or o (fault_of constructs (variable_type_sites s t ++ option_sites s e))) (or_nothing d)
    ∙ ap (option_or d) (fault_append (variable_type_sites s t) (option_sites s e))

-- a condition

pub if_is : (s : Scope) (line : ℕ) (e : tree.Expression) (body : tree.Block) (other : tree.Else) → fault_at constructs (site s line (of_statement (tree.if_ line e body other))) ≡ condition_fault s line e
if_is s line e body other = or_nothing (condition_fault s line e)

pub while_is : (s : Scope) (line : ℕ) (e : tree.Expression) (body : tree.Block) → fault_at constructs (site s line (of_statement (tree.while_ line e body))) ≡ condition_fault s line e
while_is s line e body = or_nothing (condition_fault s line e)

-- an operation

pub operate_is : (s : Scope) (line : ℕ) (name : Option (List ℕ)) (at : ℕ) (o : tree.Operation)
    → fault_at constructs (site s line (of_statement (tree.operate line name at o))) ≡ site_fault s line (optional name need_of.Variable) (result_differs s name o) None
operate_is s line name at o =
    let us = optional name need_of.Variable in
    let d = told_if kind.TypeDiffers line s.around (result_differs s name o) in
    ap (λ u. option_or (told kind.UnknownName line u) (option_or (told kind.WrongKind line (option_or (first (wrong_use s) us) None)) (option_or d None))) (or_nothing (first (unknown_use s) us))
    ∙ ap (λ w. option_or (told kind.UnknownName line (first (unknown_use s) us)) (option_or (told kind.WrongKind line w) (option_or d None))) (or_nothing (first (wrong_use s) us))

-- an assignment

pub assign_is : (s : Scope) (line : ℕ) (t : tree.Target) (e : tree.Expression)
    → fault_at constructs (site s line (of_statement (tree.assign line t e))) ≡ assign_fault s line t (statement_differs s (tree.assign line t e))
assign_is s line t e =
    ap (λ x. option_or (told kind.UnknownName line (option_or (first (unknown_use s) (assigned t)) (unknown_assigned s t.name t.member))) (option_or (told kind.WrongKind line (option_or (first (wrong_use s) (assigned t)) (wrong_assigned s t t.member))) x))
    (or_nothing (told_if kind.TypeDiffers line s.around (statement_differs s (tree.assign line t e))))

plain_shape : (line : ℕ) (u w : Option (List ℕ)) (t : Option Fault)
    → option_or (told kind.UnknownName line u) (option_or (told kind.WrongKind line w) (option_or t None))
    ≡ option_or (told kind.UnknownName line (option_or u None)) (option_or (told kind.WrongKind line (option_or w None)) t)
plain_shape line (Some u) w t = refl
plain_shape line None (Some w) t = refl
plain_shape line None None (Some t) = refl
plain_shape line None None None = refl

-- an assignment without a member
pub assign_name_is : (s : Scope) (line : ℕ) (t : tree.Target) (differs : Bool) → t.member ≡ None → site_fault s line (assigned t) differs None ≡ assign_fault s line t differs
assign_name_is s line t differs h =
    let u = first (unknown_use s) (assigned t) in
    let w = first (wrong_use s) (assigned t) in
    let d = told_if kind.TypeDiffers line s.around differs in
    plain_shape line u w d
    ∙ ap (λ (m : Option (List ℕ)). option_or (told kind.UnknownName line (option_or u (unknown_assigned s t.name m))) (option_or (told kind.WrongKind line (option_or w (wrong_assigned s t m))) d)) (sym h)

-- an assignment to a member

member_shape : (line : ℕ) (u um wm : Option (List ℕ)) (t : Option Fault)
    → option_or (told kind.UnknownName line u) (option_or (option_or (told kind.UnknownName line um) (told kind.WrongKind line wm)) t)
    ≡ option_or (told kind.UnknownName line (option_or (option_or u None) um)) (option_or (told kind.WrongKind line wm) t)
member_shape line (Some u) um wm t = refl
member_shape line None (Some um) wm t = refl
member_shape line None None wm t = refl

any_object : (m : Option Meaning) → is_unmet need_of.Object m ≡ false
any_object None = refl
any_object (Some m) = refl

same_wrong : (nowhere : Bool) (of name : List ℕ) (m : Option Meaning) → wrong_member (is_wrong_member (used.Assigned nowhere) name) of name m ≡ wrong_member (λ r. nowhere) of name m
same_wrong nowhere of name None = refl
same_wrong nowhere of name (Some m) = by (row_of m)
  where
    by : (o : Option Row) → wrong_in_row (is_wrong_member (used.Assigned nowhere) name) of name o ≡ wrong_in_row (λ r. nowhere) of name o
    by None = refl
    by (Some r) = refl

pub assign_member_is : (s : Scope) (line : ℕ) (t : tree.Target) (member : List ℕ) (differs : Bool) → t.member ≡ Some member
    → option_or (told_if kind.UnknownName line t.name (not (is_known s t.name))) (option_or (member_fault (used.Assigned (goes_nowhere (destination_of s t))) line t.name member (meaning_of s t.name)) (told_if kind.TypeDiffers line s.around differs))
    ≡ assign_fault s line t differs
assign_member_is s line t member differs h =
    let m = meaning_of s t.name in
    let nowhere = goes_nowhere (destination_of s t) in
    let u = name_if (not (is_known s t.name)) t.name in
    let um = unknown_member m member in
    let wm = wrong_member (λ r. nowhere) t.name member m in
    let d = told_if kind.TypeDiffers line s.around differs in
    ap (λ w. option_or (told kind.UnknownName line u) (option_or (option_or (told kind.UnknownName line um) (told kind.WrongKind line w)) d)) (same_wrong nowhere t.name member m)
    ∙ member_shape line u um wm d
    ∙ ap (λ b. option_or (told kind.UnknownName line (option_or (option_or u None) um)) (option_or (told kind.WrongKind line (option_or (option_or (name_if b t.name) None) wm)) d)) (sym (any_object m))
    ∙ ap (λ (x : Option (List ℕ)). option_or (told kind.UnknownName line (option_or (option_or u None) (unknown_assigned s t.name x))) (option_or (told kind.WrongKind line (option_or (option_or (name_if (is_unmet (target_need x t.index) m) t.name) None) (wrong_assigned s t x))) d)) (sym h)
