use Rattle.std.proofs.Common.{◌≡◌, Option, Some, sym, subst}
use Rattle.std.specs.Prelude.{option_map}
use Rattle.flat_design.specs.Code.{statement_of}
use Rattle.flat_design.specs.declared.code.Statement.{Statement}
use Rattle.code_deeds.specs.CodeRules.Numbered.{IsCoded}
use Rattle.laws_code.proofs.Plain.{NoneHasBlocks, Only}
use Rattle.code_deeds.specs.CodeTerms.Statements.{statements_of}
use Rattle.code_deeds.specs.CodeTerms.declared.deeds.Deed.{Deed}
use Rattle.code_deeds.specs.CodeTerms.declared.deeds.Deed.TheVariants as deed
use Rattle.code_blocks.specs.Laid.{Adds}
use Rattle.code_blocks.proofs.Forms.{one_plain, two_plain, two_code}
use Rattle.code_blocks.proofs.leaves.lay_deed.Goals as goal

plain_at : (d e : Option Deed) → d ≡ e → Only NoneHasBlocks (option_map statements_of d) → Only NoneHasBlocks (option_map statements_of e)
plain_at d e is plain = subst (λ (x : Option Deed). Only NoneHasBlocks (option_map statements_of x)) is plain

pub add-requires-clause-inner : goal.add-requires-clause-inner
add-requires-clause-inner c =
    let f : Statement = c.in-Some-One.statement in
    let is : ◌≡◌ {A = Option Deed} c.args.deed (Some (deed.One f)) = cc in
    one_plain _ (statement_of f) (plain_at c.args.deed (Some (deed.One f)) is c.requires.plain)

pub add-requires-in-Some-Two-clause-inner : goal.add-requires-in-Some-Two-clause-inner
add-requires-in-Some-Two-clause-inner c =
    let f : Statement = c.in-Some-Two.first in
    let g : Statement = c.in-Some-Two.second in
    let is : ◌≡◌ {A = Option Deed} c.args.deed (Some (deed.Two f g)) = cc in
    (two_plain _ 0 (statement_of f) (statement_of g) (plain_at c.args.deed (Some (deed.Two f g)) is c.requires.plain)).0

pub add-requires-in-Some-Two-2-clause-inner : goal.add-requires-in-Some-Two-2-clause-inner
add-requires-in-Some-Two-2-clause-inner c =
    let f : Statement = c.in-Some-Two.first in
    let g : Statement = c.in-Some-Two.second in
    let is : ◌≡◌ {A = Option Deed} c.args.deed (Some (deed.Two f g)) = cc in
    (two_plain 0 _ (statement_of f) (statement_of g) (plain_at c.args.deed (Some (deed.Two f g)) is c.requires.plain)).1

pub returns-in_ok-add-in-Some-Two-2-clause-grows : goal.returns-in_ok-add-in-Some-Two-2-clause-grows
returns-in_ok-add-in-Some-Two-2-clause-grows c = λ a begins.
    c.in_ok-add-in-Some-Two.ensures.grows a (c.in_ok-add-in-Some-Two-2.ensures.grows a begins)

pub returns-in_ok-add-in-Some-Two-2-clause-reads : goal.returns-in_ok-add-in-Some-Two-2-clause-reads
returns-in_ok-add-in-Some-Two-2-clause-reads c =
    let f : Statement = c.in-Some-Two.first in
    let g : Statement = c.in-Some-Two.second in
    let is : ◌≡◌ {A = Option Deed} c.args.deed (Some (deed.Two f g)) = cc in
    let l = c.add-in-Some-Two-2.new.laid in
    let old = c.args.ids.now in
    let new = c.add-in-Some-Two-2.new.ids in
    let one = c.in_ok-add-in-Some-Two.ensures in
    let two = c.in_ok-add-in-Some-Two-2.ensures in
    subst (λ (d : Option Deed). Adds l old new (λ a ns rest. IsCoded a (option_map statements_of d) ns rest)) (sym is)
    (two_code c.add-in-Some-Two.new.laid l old c.add-in-Some-Two.new.ids new (statement_of f) (statement_of g) c.in_ok-add-in-Some-Two.field-0 c.in_ok-add-in-Some-Two-2.field-0 one.numbers two.numbers two.grows one.at two.at)
