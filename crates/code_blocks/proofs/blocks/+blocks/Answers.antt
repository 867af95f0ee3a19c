use Rattle.std.proofs.Common.{◌≡◌, ℕ, ◌+◌, List, [], ◌∷◌, Option, Some, None, drop, length, refl, rules, sym, ap, ◌∙◌, subst}
use Rattle.std.specs.Prelude.{option_map, slice_get}
use Rattle.std.specs.Global.{Vec}
use borrow.Author.Rules.{get_or_read}
use Rattle.std.proofs.lemmas.List.{drop_all, map-append}
use Rattle.model_tree.specs.Tree as tree
use Rattle.model_tree.specs.Views.{action_of, body_of, expression_of, operation_of, statement_of, target_of}
use Rattle.model_tree.specs.declared.statements.Statement.{Statement}
use Rattle.model_tree.specs.declared.statements.Statement.TheFolds.{the_lemmas}
use Rattle.model_tree.proofs.Trees.{handlers_list, next_handler, other_of, sees_guard, sees_if, sees_try, sees_while}
use Rattle.flat_design.specs.Code as code
use Rattle.flat_design.specs.declared.code.Handler.{Handler}
use Rattle.code_deeds.specs.ModelRules.Meanings.{variable_type}
use Rattle.code_deeds.specs.ModelRules.Scopes.{Scope, in_unwind, locals_in_block, locals_in_handlers, past}
use Rattle.code_deeds.specs.CodeRules.Deeds.{exception_number, if_written, store}
use Rattle.code_deeds.specs.CodeRules.Numbered.{AreHandlers, AtBlock, IsBlock, IsElse, IsStatement}
use Rattle.laws_code.specs.HasCode.{HandlersHaveCode, IsThere}
use Rattle.laws_code.proofs.Plain.{NoneHasBlocks, Only, action_plain, assign_plain, operate_plain, var_plain}
use Rattle.check_statements.specs.CheckNames.Places.{scope_of, with_visible}
use Rattle.check_statements.proofs.Behind.{behind_block, past_nothing, past_past}
use Rattle.code_deeds.specs.CodeTerms.Names.{body_names}
use Rattle.code_deeds.specs.Homes.{IsHome, home_of}
use Rattle.flat_design.specs.Reach.{Inside}
use Rattle.code_blocks.specs.Laid.{EachFrom, FromNowOn, Grows, HangsFrom, OnlyFrom, StandsInside, handler_blocks}
use Rattle.code_blocks.proofs.Owned.{added_owned, block_owned, both_grow, both_owned, handlers_owned, more_owned, none_from, one_owned}
use Rattle.code_blocks.proofs.Growth.{blocks_grow, next_grown, next_none}
use Rattle.code_blocks.proofs.Forms.{added, guard_inner, guard_laid, if_inner, if_laid, try_inner, try_laid, while_inner, while_laid}
use Rattle.code_blocks.proofs.Only.{added_only, block_only, both_only, coded_only, more_only, none_hangs, none_only, one_only}
use Rattle.code_blocks.proofs.Results.{if_both, if_three, on_both, on_ok}
use Rattle.code_blocks.proofs.Sees.{as_coded, seen_coded, seen_moves, seen_reads, sees_act, sees_assign, sees_operate, sees_var}
use Rattle.code_blocks.proofs.Walks.{AreBefore, AreHandled, at_end, at_start, handler_coded, handler_more, handlers_end, handlers_start, next_statement, one_more, same_items}
use Rattle.code_blocks.proofs.blocks.+blocks.Goals as goal

-- unwind blocks

pub lay_undo-returns : goal.lay_undo-returns
lay_undo-returns t c =
    let s = scope_of c.args.place.now in
    let block = c.in_ok-block.ensures in
    record {
      grows = block.grows;
      nested = block.nested;
      owned = block.owned;
      only = block.only;
      moves = ap (λ (v : Scope). record v { unwinding = s.unwinding }) block.moves;
      reads = block.reads;
    }

-- statements

pub lay_statement-lay_local-requires-clause-coded : goal.lay_statement-lay_local-requires-clause-coded
lay_statement-lay_local-requires-clause-coded t c =
    let is = ap statement_of c.in-Var.is ∙ sees_var c.in-Var.field-0 c.in-Var.var_type c.in-Var.name c.in-Var.value in
    seen_coded (home_of c.args.home) _ (tree.var c.in-Var.field-0 c.in-Var.var_type c.in-Var.name (option_map expression_of c.in-Var.value)) is (scope_of c.args.place.now) c.requires.coded

pub lay_statement-returns-in-Var : goal.lay_statement-returns-in-Var
lay_statement-returns-in-Var t c =
    let h = home_of c.args.home in
    let s = scope_of c.args.place.now in
    let x = statement_of c.args.statement.now in
    let y = tree.var c.in-Var.field-0 c.in-Var.var_type c.in-Var.name (option_map expression_of c.in-Var.value) in
    let is = ap statement_of c.in-Var.is ∙ sees_var c.in-Var.field-0 c.in-Var.var_type c.in-Var.name c.in-Var.value in
    let r = c.lay_local.result in
    let laid = c.lay_local.ensures in
    let new = c.lay_local.new.laid in
    let ids = c.lay_local.new.ids in
    record {
      grows = laid.grows;
      nested = laid.nested;
      next = laid.next;
      owned = on_ok r (none_from c.args.laid.now new (λ a n. HangsFrom a ids n)) laid.blocks;
      only = on_both r (λ grows adds. coded_only c.args.laid.now new c.args.ids.now ids _ (var_plain s (variable_type c.in-Var.var_type) (option_map expression_of c.in-Var.value)) grows adds) laid.grows laid.reads;
      moves = on_ok r (seen_moves h x y is s (scope_of c.lay_local.new.place)) laid.moves;
      reads = on_ok r (seen_reads h x y is s c.lay_local.new.laid c.args.ids.now c.lay_local.new.ids) laid.reads;
    }

pub lay_statement-lay_deed-requires-clause-coded : goal.lay_statement-lay_deed-requires-clause-coded
lay_statement-lay_deed-requires-clause-coded t c =
    let y = tree.assign c.in-Assign.field-0 (target_of c.in-Assign.target) (expression_of c.in-Assign.value) in
    let is = ap statement_of c.in-Assign.is ∙ sees_assign c.in-Assign.field-0 c.in-Assign.target c.in-Assign.value in
    subst (λ (fs : Option (List code.Statement)). IsThere fs) (sym c.in_ok-deed-in-Assign.ensures) (seen_coded (home_of c.args.home) (statement_of c.args.statement.now) y is (scope_of c.args.place.now) c.requires.coded)

pub lay_statement-lay_deed-requires-clause-plain : goal.lay_statement-lay_deed-requires-clause-plain
lay_statement-lay_deed-requires-clause-plain t c =
    subst (λ (fs : Option (List code.Statement)). Only NoneHasBlocks fs) (sym c.in_ok-deed-in-Assign.ensures) (assign_plain (scope_of c.args.place.now) (target_of c.in-Assign.target) (expression_of c.in-Assign.value))

pub lay_statement-returns-in_ok-deed-in-Assign : goal.lay_statement-returns-in_ok-deed-in-Assign
lay_statement-returns-in_ok-deed-in-Assign t c =
    let h = home_of c.args.home in
    let s = scope_of c.args.place.now in
    let x = statement_of c.args.statement.now in
    let y = tree.assign c.in-Assign.field-0 (target_of c.in-Assign.target) (expression_of c.in-Assign.value) in
    let is = ap statement_of c.in-Assign.is ∙ sees_assign c.in-Assign.field-0 c.in-Assign.target c.in-Assign.value in
    let r = c.lay_deed.result in
    let laid = c.lay_deed.ensures in
    let new = c.lay_deed.new.laid in
    let ids = c.lay_deed.new.ids in
    record {
      grows = laid.grows;
      nested = laid.nested;
      next = laid.next;
      owned = on_ok r (none_from c.args.laid.now new (λ a n. HangsFrom a ids n)) laid.blocks;
      only = on_both r (λ grows adds. coded_only c.args.laid.now new c.args.ids.now ids _ (subst (λ (fs : Option (List code.Statement)). Only NoneHasBlocks fs) (sym c.in_ok-deed-in-Assign.ensures) (assign_plain s (target_of c.in-Assign.target) (expression_of c.in-Assign.value))) grows adds) laid.grows laid.reads;
      moves = on_ok r (λ g. seen_moves h x y is s s refl) laid.grows;
      reads = on_ok r (λ adds. seen_reads h x y is s new c.args.ids.now ids (as_coded new c.args.ids.now ids _ _ c.in_ok-deed-in-Assign.ensures adds)) laid.reads;
    }

pub lay_statement-lay_deed-requires-in-Operate-clause-coded : goal.lay_statement-lay_deed-requires-in-Operate-clause-coded
lay_statement-lay_deed-requires-in-Operate-clause-coded t c =
    let y = tree.operate c.in-Operate.field-0 c.in-Operate.name c.in-Operate.field-2 (operation_of c.in-Operate.operation) in
    let is = ap statement_of c.in-Operate.is ∙ sees_operate c.in-Operate.field-0 c.in-Operate.name c.in-Operate.field-2 c.in-Operate.operation in
    subst (λ (fs : Option (List code.Statement)). IsThere fs) (sym c.in_ok-deed-in-Operate.ensures) (seen_coded (home_of c.args.home) (statement_of c.args.statement.now) y is (scope_of c.args.place.now) c.requires.coded)

pub lay_statement-lay_deed-requires-in-Operate-clause-plain : goal.lay_statement-lay_deed-requires-in-Operate-clause-plain
lay_statement-lay_deed-requires-in-Operate-clause-plain t c =
    let s = scope_of c.args.place.now in
    subst (λ (fs : Option (List code.Statement)). Only NoneHasBlocks fs) (sym c.in_ok-deed-in-Operate.ensures) (operate_plain (home_of c.args.home) s (if_written (store s) c.in-Operate.name) (operation_of c.in-Operate.operation))

pub lay_statement-returns-in_ok-deed-in-Operate : goal.lay_statement-returns-in_ok-deed-in-Operate
lay_statement-returns-in_ok-deed-in-Operate t c =
    let h = home_of c.args.home in
    let s = scope_of c.args.place.now in
    let x = statement_of c.args.statement.now in
    let y = tree.operate c.in-Operate.field-0 c.in-Operate.name c.in-Operate.field-2 (operation_of c.in-Operate.operation) in
    let is = ap statement_of c.in-Operate.is ∙ sees_operate c.in-Operate.field-0 c.in-Operate.name c.in-Operate.field-2 c.in-Operate.operation in
    let r = c.lay_deed-in-Operate.result in
    let laid = c.lay_deed-in-Operate.ensures in
    let new = c.lay_deed-in-Operate.new.laid in
    let ids = c.lay_deed-in-Operate.new.ids in
    record {
      grows = laid.grows;
      nested = laid.nested;
      next = laid.next;
      owned = on_ok r (none_from c.args.laid.now new (λ a n. HangsFrom a ids n)) laid.blocks;
      only = on_both r (λ grows adds. coded_only c.args.laid.now new c.args.ids.now ids _ (subst (λ (fs : Option (List code.Statement)). Only NoneHasBlocks fs) (sym c.in_ok-deed-in-Operate.ensures) (operate_plain h s (if_written (store s) c.in-Operate.name) (operation_of c.in-Operate.operation))) grows adds) laid.grows laid.reads;
      moves = on_ok r (λ g. seen_moves h x y is s s refl) laid.grows;
      reads = on_ok r (λ adds. seen_reads h x y is s new c.args.ids.now ids (as_coded new c.args.ids.now ids _ _ c.in_ok-deed-in-Operate.ensures adds)) laid.reads;
    }

pub lay_statement-lay_deed-requires-in-Act-clause-coded : goal.lay_statement-lay_deed-requires-in-Act-clause-coded
lay_statement-lay_deed-requires-in-Act-clause-coded t c =
    let y = tree.act c.in-Act.field-0 (action_of c.in-Act.action) in
    let is = ap statement_of c.in-Act.is ∙ sees_act c.in-Act.field-0 c.in-Act.action in
    subst (λ (fs : Option (List code.Statement)). IsThere fs) (sym c.in_ok-deed-in-Act.ensures) (seen_coded (home_of c.args.home) (statement_of c.args.statement.now) y is (scope_of c.args.place.now) c.requires.coded)

pub lay_statement-lay_deed-requires-in-Act-clause-plain : goal.lay_statement-lay_deed-requires-in-Act-clause-plain
lay_statement-lay_deed-requires-in-Act-clause-plain t c =
    subst (λ (fs : Option (List code.Statement)). Only NoneHasBlocks fs) (sym c.in_ok-deed-in-Act.ensures) (action_plain (home_of c.args.home) (scope_of c.args.place.now) (action_of c.in-Act.action))

pub lay_statement-returns-in_ok-deed-in-Act : goal.lay_statement-returns-in_ok-deed-in-Act
lay_statement-returns-in_ok-deed-in-Act t c =
    let h = home_of c.args.home in
    let s = scope_of c.args.place.now in
    let x = statement_of c.args.statement.now in
    let y = tree.act c.in-Act.field-0 (action_of c.in-Act.action) in
    let is = ap statement_of c.in-Act.is ∙ sees_act c.in-Act.field-0 c.in-Act.action in
    let r = c.lay_deed-in-Act.result in
    let laid = c.lay_deed-in-Act.ensures in
    let new = c.lay_deed-in-Act.new.laid in
    let ids = c.lay_deed-in-Act.new.ids in
    record {
      grows = laid.grows;
      nested = laid.nested;
      next = laid.next;
      owned = on_ok r (none_from c.args.laid.now new (λ a n. HangsFrom a ids n)) laid.blocks;
      only = on_both r (λ grows adds. coded_only c.args.laid.now new c.args.ids.now ids _ (subst (λ (fs : Option (List code.Statement)). Only NoneHasBlocks fs) (sym c.in_ok-deed-in-Act.ensures) (action_plain h s (action_of c.in-Act.action))) grows adds) laid.grows laid.reads;
      moves = on_ok r (λ g. seen_moves h x y is s s refl) laid.grows;
      reads = on_ok r (λ adds. seen_reads h x y is s new c.args.ids.now ids (as_coded new c.args.ids.now ids _ _ c.in_ok-deed-in-Act.ensures adds)) laid.reads;
    }

-- statements that hold blocks

pub lay_statement-add-requires : goal.lay_statement-add-requires
lay_statement-add-requires t c =
    let h = home_of c.args.home in
    let s = scope_of c.args.place.now in
    let start = c.args.laid.now in
    let l = c.lay_block.new.laid in
    let e = expression_of c.in-If.condition in
    let body = body_of c.in-If.body.items in
    let b = c.in_ok-block-in-If.block in
    let first = c.in_ok-block-in-If.ensures in
    let term = code.term_of c.in_ok-term-in-If.term in
    record {
      inner = if_inner h s l l (λ a begins. begins) body b first.reads e tree.no_else term None (λ a begins. refl);
      nested = first.nested;
      next = next_grown start l c.args.ids.now (first.grows) c.requires.next;
    }

pub lay_statement-returns-in_ok-add-in-None : goal.lay_statement-returns-in_ok-add-in-None
lay_statement-returns-in_ok-add-in-None t c =
    let h = home_of c.args.home in
    let s = scope_of c.args.place.now in
    let start = c.args.laid.now in
    let l = c.lay_block.new.laid in
    let e = expression_of c.in-If.condition in
    let body = body_of c.in-If.body.items in
    let b = c.in_ok-block-in-If.block in
    let first = c.in_ok-block-in-If.ensures in
    let term = code.term_of c.in_ok-term-in-If.term in
    let add = c.in_ok-add-in-None.ensures in
    let is = ap statement_of c.in-If.is ∙ sees_if c.in-If.field-0 c.in-If.condition c.in-If.body c.in-If.other ∙ ap (λ (o : Option (Vec Statement)). tree.if_ c.in-If.field-0 e body (other_of o)) c.in-None.is in
    let y = tree.if_ c.in-If.field-0 e body tree.no_else in
    let new = c.add.new.laid in
    let ids = c.add.new.ids in
    record {
      grows = both_grow start l c.add.new.laid (first.grows) c.in_ok-add-in-None.ensures.grows;
      nested = add.nested;
      next = add.next;
      owned = added_owned (length start.blocks) l c.add.new.laid c.args.ids.now c.add.new.ids c.in_ok-add-in-None.field-0 (code.if_ term b None) add.grows add.blocks add.numbers add.at
          (one_owned (length start.blocks) l b [] first.owned);
      only = added_only start l c.add.new.laid c.args.ids.now c.add.new.ids c.in_ok-add-in-None.field-0 (code.if_ term b None) first.grows add.grows add.numbers add.at
          (one_only (length start.blocks) l b first.only);
      moves = seen_moves h (statement_of c.args.statement.now) y is s (scope_of c.lay_block.new.place)
          (sym (past_nothing (scope_of c.lay_block.new.place)) ∙ ap (past 0) first.moves ∙ past_past (locals_in_block body) 0 s);
      reads = seen_reads h (statement_of c.args.statement.now) y is s new c.args.ids.now ids
          (added l new c.args.ids.now ids (λ a ns rest. IsStatement y h a s ns rest) (code.if_ term b None) c.in_ok-add-in-None.field-0 add.grows (if_laid h s l l (λ a begins. begins) body b first.reads e tree.no_else term None (λ a begins. refl) c.in-If.field-0 c.in_ok-term-in-If.ensures) add.numbers add.at);
    }

pub lay_statement-add-requires-in-Some : goal.lay_statement-add-requires-in-Some
lay_statement-add-requires-in-Some t c =
    let h = home_of c.args.home in
    let s = scope_of c.args.place.now in
    let start = c.args.laid.now in
    let mid = c.lay_block.new.laid in
    let l = c.lay_block-in-Some.new.laid in
    let e = expression_of c.in-If.condition in
    let body = body_of c.in-If.body.items in
    let other = body_of c.in-Some.other.items in
    let b = c.in_ok-block-in-If.block in
    let o = c.in_ok-otherwise-in-Some.otherwise in
    let first = c.in_ok-block-in-If.ensures in
    let second = c.in_ok-otherwise-in-Some.ensures in
    let term = code.term_of c.in_ok-term-in-If.term in
    let more : FromNowOn l (λ a. IsElse (tree.else_block other) h a (past (locals_in_block body) s) (Some o)) = subst (λ (u : Scope). FromNowOn l (λ a. IsElse (tree.else_block other) h a u (Some o))) first.moves (λ a begins. (o, refl, second.reads a begins)) in
    record {
      inner = if_inner h s mid l second.grows body b first.reads e (tree.else_block other) term (Some o) more;
      nested = second.nested;
      next = next_grown start l c.args.ids.now (both_grow start mid l first.grows second.grows) c.requires.next;
    }

pub lay_statement-returns-in_ok-add-in-Some : goal.lay_statement-returns-in_ok-add-in-Some
lay_statement-returns-in_ok-add-in-Some t c =
    let h = home_of c.args.home in
    let s = scope_of c.args.place.now in
    let start = c.args.laid.now in
    let mid = c.lay_block.new.laid in
    let l = c.lay_block-in-Some.new.laid in
    let e = expression_of c.in-If.condition in
    let body = body_of c.in-If.body.items in
    let other = body_of c.in-Some.other.items in
    let b = c.in_ok-block-in-If.block in
    let o = c.in_ok-otherwise-in-Some.otherwise in
    let first = c.in_ok-block-in-If.ensures in
    let second = c.in_ok-otherwise-in-Some.ensures in
    let term = code.term_of c.in_ok-term-in-If.term in
    let more : FromNowOn l (λ a. IsElse (tree.else_block other) h a (past (locals_in_block body) s) (Some o)) = subst (λ (u : Scope). FromNowOn l (λ a. IsElse (tree.else_block other) h a u (Some o))) first.moves (λ a begins. (o, refl, second.reads a begins)) in
    let add = c.in_ok-add-in-Some.ensures in
    let is = ap statement_of c.in-If.is ∙ sees_if c.in-If.field-0 c.in-If.condition c.in-If.body c.in-If.other ∙ ap (λ (o : Option (Vec Statement)). tree.if_ c.in-If.field-0 e body (other_of o)) c.in-Some.is in
    let y = tree.if_ c.in-If.field-0 e body (tree.else_block other) in
    let new = c.add-in-Some.new.laid in
    let ids = c.add-in-Some.new.ids in
    record {
      grows = both_grow start l c.add-in-Some.new.laid (both_grow start mid l first.grows second.grows) c.in_ok-add-in-Some.ensures.grows;
      nested = add.nested;
      next = add.next;
      owned = added_owned (length start.blocks) l c.add-in-Some.new.laid c.args.ids.now c.add-in-Some.new.ids c.in_ok-add-in-Some.field-0 (code.if_ term b (Some o)) add.grows add.blocks add.numbers add.at
          (both_owned (length start.blocks) mid l b (o ∷ []) second.grows first.owned (one_owned (length mid.blocks) l o [] second.owned));
      only = added_only start l c.add-in-Some.new.laid c.args.ids.now c.add-in-Some.new.ids c.in_ok-add-in-Some.field-0 (code.if_ term b (Some o)) (both_grow start mid l first.grows second.grows) add.grows add.numbers add.at
          (both_only (length start.blocks) mid l b (o ∷ []) (blocks_grow start mid first.grows) second.grows first.only (one_only (length mid.blocks) l o second.only));
      moves = seen_moves h (statement_of c.args.statement.now) y is s (scope_of c.lay_block-in-Some.new.place)
          (second.moves ∙ ap (past (locals_in_block other)) first.moves ∙ past_past (locals_in_block body) (locals_in_block other) s);
      reads = seen_reads h (statement_of c.args.statement.now) y is s new c.args.ids.now ids
          (added l new c.args.ids.now ids (λ a ns rest. IsStatement y h a s ns rest) (code.if_ term b (Some o)) c.in_ok-add-in-Some.field-0 add.grows (if_laid h s mid l second.grows body b first.reads e (tree.else_block other) term (Some o) more c.in-If.field-0 c.in_ok-term-in-If.ensures) add.numbers add.at);
    }

pub lay_statement-add-requires-in-While : goal.lay_statement-add-requires-in-While
lay_statement-add-requires-in-While t c =
    let h = home_of c.args.home in
    let s = scope_of c.args.place.now in
    let start = c.args.laid.now in
    let l = c.lay_block-in-While.new.laid in
    let e = expression_of c.in-While.condition in
    let body = body_of c.in-While.body.items in
    let b = c.in_ok-block-in-While.block in
    let first = c.in_ok-block-in-While.ensures in
    let term = code.term_of c.in_ok-term-in-While.term in
    record {
      inner = while_inner h s l body b first.reads term;
      nested = first.nested;
      next = next_grown start l c.args.ids.now first.grows c.requires.next;
    }

pub lay_statement-returns-in_ok-add-in-While : goal.lay_statement-returns-in_ok-add-in-While
lay_statement-returns-in_ok-add-in-While t c =
    let h = home_of c.args.home in
    let s = scope_of c.args.place.now in
    let start = c.args.laid.now in
    let l = c.lay_block-in-While.new.laid in
    let e = expression_of c.in-While.condition in
    let body = body_of c.in-While.body.items in
    let b = c.in_ok-block-in-While.block in
    let first = c.in_ok-block-in-While.ensures in
    let term = code.term_of c.in_ok-term-in-While.term in
    let add = c.in_ok-add-in-While.ensures in
    let is = ap statement_of c.in-While.is ∙ sees_while c.in-While.field-0 c.in-While.condition c.in-While.body in
    let y = tree.while_ c.in-While.field-0 e body in
    let new = c.add-in-While.new.laid in
    let ids = c.add-in-While.new.ids in
    record {
      grows = both_grow start l new first.grows add.grows;
      nested = add.nested;
      next = add.next;
      owned = added_owned (length start.blocks) l c.add-in-While.new.laid c.args.ids.now c.add-in-While.new.ids c.in_ok-add-in-While.field-0 (code.while_ term b) add.grows add.blocks add.numbers add.at
          (one_owned (length start.blocks) l b [] first.owned);
      only = added_only start l c.add-in-While.new.laid c.args.ids.now c.add-in-While.new.ids c.in_ok-add-in-While.field-0 (code.while_ term b) first.grows add.grows add.numbers add.at
          (one_only (length start.blocks) l b first.only);
      moves = seen_moves h (statement_of c.args.statement.now) y is s (scope_of c.lay_block-in-While.new.place) first.moves;
      reads = seen_reads h (statement_of c.args.statement.now) y is s new c.args.ids.now ids
          (added l new c.args.ids.now ids (λ a ns rest. IsStatement y h a s ns rest) (code.while_ term b) c.in_ok-add-in-While.field-0 add.grows (while_laid h s l body b first.reads term c.in-While.field-0 e c.in_ok-term-in-While.ensures) add.numbers add.at);
    }

pub lay_statement-add-requires-in-Guard : goal.lay_statement-add-requires-in-Guard
lay_statement-add-requires-in-Guard t c =
    let h = home_of c.args.home in
    let s = scope_of c.args.place.now in
    let start = c.args.laid.now in
    let mid = c.lay_block-in-Guard.new.laid in
    let l = c.lay_undo.new.laid in
    let body = body_of c.in-Guard.body.items in
    let undo = body_of c.in-Guard.undo.items in
    let b = c.in_ok-block-in-Guard.block in
    let u = c.in_ok-unwind-in-Guard.unwind in
    let first = c.in_ok-block-in-Guard.ensures in
    let second = c.in_ok-unwind-in-Guard.ensures in
    let more : FromNowOn l (λ a. AtBlock a u (IsBlock undo h a (in_unwind (past (locals_in_block body) s)))) = subst (λ (v : Scope). FromNowOn l (λ a. AtBlock a u (IsBlock undo h a (in_unwind v)))) first.moves second.reads in
    record {
      inner = guard_inner h s mid l second.grows body b first.reads undo u more;
      nested = second.nested;
      next = next_grown start l c.args.ids.now (both_grow start mid l first.grows second.grows) c.requires.next;
    }

pub lay_statement-returns-in_ok-add-in-Guard : goal.lay_statement-returns-in_ok-add-in-Guard
lay_statement-returns-in_ok-add-in-Guard t c =
    let h = home_of c.args.home in
    let s = scope_of c.args.place.now in
    let start = c.args.laid.now in
    let mid = c.lay_block-in-Guard.new.laid in
    let l = c.lay_undo.new.laid in
    let body = body_of c.in-Guard.body.items in
    let undo = body_of c.in-Guard.undo.items in
    let b = c.in_ok-block-in-Guard.block in
    let u = c.in_ok-unwind-in-Guard.unwind in
    let first = c.in_ok-block-in-Guard.ensures in
    let second = c.in_ok-unwind-in-Guard.ensures in
    let more : FromNowOn l (λ a. AtBlock a u (IsBlock undo h a (in_unwind (past (locals_in_block body) s)))) = subst (λ (v : Scope). FromNowOn l (λ a. AtBlock a u (IsBlock undo h a (in_unwind v)))) first.moves second.reads in
    let add = c.in_ok-add-in-Guard.ensures in
    let is = ap statement_of c.in-Guard.is ∙ sees_guard c.in-Guard.field-0 c.in-Guard.body c.in-Guard.undo in
    let y = tree.guard c.in-Guard.field-0 body undo in
    let new = c.add-in-Guard.new.laid in
    let ids = c.add-in-Guard.new.ids in
    record {
      grows = both_grow start l c.add-in-Guard.new.laid (both_grow start mid l first.grows second.grows) c.in_ok-add-in-Guard.ensures.grows;
      nested = add.nested;
      next = add.next;
      owned = added_owned (length start.blocks) l c.add-in-Guard.new.laid c.args.ids.now c.add-in-Guard.new.ids c.in_ok-add-in-Guard.field-0 (code.guard b u) add.grows add.blocks add.numbers add.at
          (both_owned (length start.blocks) mid l b (u ∷ []) second.grows first.owned (one_owned (length mid.blocks) l u [] second.owned));
      only = added_only start l c.add-in-Guard.new.laid c.args.ids.now c.add-in-Guard.new.ids c.in_ok-add-in-Guard.field-0 (code.guard b u) (both_grow start mid l first.grows second.grows) add.grows add.numbers add.at
          (both_only (length start.blocks) mid l b (u ∷ []) (blocks_grow start mid first.grows) second.grows first.only (one_only (length mid.blocks) l u second.only));
      moves = seen_moves h (statement_of c.args.statement.now) y is s (scope_of c.lay_undo.new.place)
          (second.moves ∙ ap (past (locals_in_block undo)) first.moves ∙ past_past (locals_in_block body) (locals_in_block undo) s);
      reads = seen_reads h (statement_of c.args.statement.now) y is s new c.args.ids.now ids
          (added l new c.args.ids.now ids (λ a ns rest. IsStatement y h a s ns rest) (code.guard b u) c.in_ok-add-in-Guard.field-0 add.grows (guard_laid h s mid l second.grows body b first.reads undo u more c.in-Guard.field-0) add.numbers add.at);
    }

pub lay_statement-loop-name-init : goal.lay_statement-loop-name-init
lay_statement-loop-name-init t c =
    let h = home_of c.args.home in
    let s = scope_of c.args.place.now in
    let mid = c.lay_block-in-Try.new.laid in
    let first = c.in_ok-block-in-Try.ensures in
    let is = ap statement_of c.in-Try.is ∙ sees_try c.in-Try.field-0 c.in-Try.body c.in-Try.handlers in
    let coded = seen_coded h (statement_of c.args.statement.now) (tree.try_ c.in-Try.field-0 (body_of c.in-Try.body.items) (handlers_list c.in-Try.handlers.items)) is s c.requires.coded in
    let entered : HandlersHaveCode (handlers_list c.in-Try.handlers.items) h (scope_of c.lay_block-in-Try.new.place) = subst (HandlersHaveCode (handlers_list c.in-Try.handlers.items) h) (sym first.moves) coded.1 in
    rw (c.deref-name-items.ensures.value, c.new-found.ensures)
    (record {
      home = subst (IsHome c.args.home) (sym first.moves) c.requires.home;
      grows = λ a begins. begins;
      nested = first.nested;
      owned = none_from mid mid (λ a n. StandsInside a [] n) refl;
      only = none_only (length mid.blocks) mid;
      before = handlers_start h (handlers_list c.in-Try.handlers.items) (scope_of c.lay_block-in-Try.new.place) mid entered;
    })

pub lay_statement-known_exception-requires : goal.lay_statement-known_exception-requires
lay_statement-known_exception-requires t c =
    let h = home_of c.args.home in
    let hs : List (List ℕ × Vec Statement) = c.deref-name-items.result.now in
    let whole = handlers_list hs in
    let i = c.loop-name.name-index in
    let x = c.loop-name-item.result in
    let entered = scope_of c.lay_block-in-Try.new.place in
    let is = next_handler hs i x c.loop-name-test.true c.loop-name-item.is in
    let coded = handler_coded h whole entered c.loop-name.laid (handlers_list (drop i hs)) (scope_of c.loop-name.place) c.loop-name.found x.0 (body_of x.1.items) (handlers_list (drop (i + 1) hs)) is c.loop-name.invariant.before in
    subst (λ (n : List ℕ). IsThere (exception_number h n)) (sym c.bytes.ensures.value) coded.0

pub lay_statement-lay_block-requires-in-loop-name : goal.lay_statement-lay_block-requires-in-loop-name
lay_statement-lay_block-requires-in-loop-name t c =
    let h = home_of c.args.home in
    let hs : List (List ℕ × Vec Statement) = c.deref-name-items.result.now in
    let whole = handlers_list hs in
    let i = c.loop-name.name-index in
    let x = c.loop-name-item.result in
    let entered = scope_of c.lay_block-in-Try.new.place in
    let is = next_handler hs i x c.loop-name-test.true c.loop-name-item.is in
    let coded = handler_coded h whole entered c.loop-name.laid (handlers_list (drop i hs)) (scope_of c.loop-name.place) c.loop-name.found x.0 (body_of x.1.items) (handlers_list (drop (i + 1) hs)) is c.loop-name.invariant.before in
    (search (rules, the_lemmas, get_or_read, c.requires-raw), (c.loop-name.invariant.home, (coded.1, c.loop-name.invariant.nested)))

pub lay_statement-loop-name-preserved : goal.lay_statement-loop-name-preserved
lay_statement-loop-name-preserved t c =
    let h = home_of c.args.home in
    let hs : List (List ℕ × Vec Statement) = c.deref-name-items.result.now in
    let whole = handlers_list hs in
    let i = c.loop-name.name-index in
    let x = c.loop-name-item.result in
    let entered = scope_of c.lay_block-in-Try.new.place in
    let is = next_handler hs i x c.loop-name-test.true c.loop-name-item.is in
    let seen_code = handler_coded h whole entered c.loop-name.laid (handlers_list (drop i hs)) (scope_of c.loop-name.place) c.loop-name.found x.0 (body_of x.1.items) (handlers_list (drop (i + 1) hs)) is c.loop-name.invariant.before in
    let old = c.loop-name.invariant in
    let begun = c.lay_block-in-Try.new.laid in
    let step = c.in_ok-handled-in-Try.ensures in
    let e = c.in_ok-exception-in-Try.exception in
    let b = c.in_ok-handled-in-Try.handled in
    let l = c.lay_block-in-loop-name.new.laid in
    let pushed = c.in_ok-push-in-Try.ensures.ok in
    record {
      home = subst (IsHome c.args.home) (sym step.moves) old.home;
      grows = both_grow begun c.loop-name.laid l old.grows step.grows;
      nested = step.nested;
      owned = handlers_owned (length begun.blocks) c.loop-name.laid l (handler_blocks c.loop-name.found) (handler_blocks c.push.new.self) b
          (ap handler_blocks pushed ∙ map-append (λ (y : Handler). y.block) c.loop-name.found (record { exception = e; block = b } ∷ []))
          step.grows old.owned step.owned;
      only = more_only (length begun.blocks) c.loop-name.laid l (handler_blocks c.loop-name.found) (b ∷ []) (handler_blocks c.push.new.self)
          (ap handler_blocks pushed ∙ map-append (λ (y : Handler). y.block) c.loop-name.found (record { exception = e; block = b } ∷ []))
          (blocks_grow begun c.loop-name.laid old.grows) step.grows old.only (one_only (length c.loop-name.laid.blocks) l b step.only);
      before = handler_more h whole entered c.loop-name.laid (handlers_list (drop i hs)) (scope_of c.loop-name.place) c.loop-name.found x.0 (body_of x.1.items) (handlers_list (drop (i + 1) hs)) is old.before
          l (scope_of c.lay_block-in-loop-name.new.place) c.push.new.self e b
          step.grows (sym (ap (exception_number h) c.bytes.ensures.value) ∙ c.in_ok-exception-in-Try.ensures) step.moves step.reads pushed;
    }

pub lay_statement-add-requires-in-Try : goal.lay_statement-add-requires-in-Try
lay_statement-add-requires-in-Try t c =
    let h = home_of c.args.home in
    let s = scope_of c.args.place.now in
    let start = c.args.laid.now in
    let mid = c.lay_block-in-Try.new.laid in
    let l = c.loop-name.laid in
    let body = body_of c.in-Try.body.items in
    let handlers = handlers_list c.in-Try.handlers.items in
    let hs : List (List ℕ × Vec Statement) = c.deref-name-items.result.now in
    let b = c.in_ok-block-in-Try.block in
    let found = c.loop-name.found in
    let first = c.in_ok-block-in-Try.ensures in
    let old = c.loop-name.invariant in
    let u = scope_of c.loop-name.place in
    let entered = scope_of c.lay_block-in-Try.new.place in
    let same : handlers_list hs ≡ handlers = ap handlers_list c.deref-name-items.ensures.value in
    let ended : AreHandled h handlers entered l tree.no_more u found =
    subst (λ (w : tree.Handlers). AreHandled h w entered l tree.no_more u found) same (subst (λ (xs : List (List ℕ × Vec Statement)). AreHandled h (handlers_list hs) entered l (handlers_list xs) u found) (drop_all c.loop-name.name-index hs c.loop-name-test.false) old.before)
    in
    let more : FromNowOn l (λ a. AreHandlers handlers h a (past (locals_in_block body) s) found) = subst (λ (v : Scope). FromNowOn l (λ a. AreHandlers handlers h a v found)) first.moves (handlers_end h handlers entered l u found ended) in
    record {
      inner = try_inner h s mid l old.grows body b first.reads handlers found more;
      nested = old.nested;
      next = next_grown start l c.args.ids.now (both_grow start mid l first.grows old.grows) c.requires.next;
    }

pub lay_statement-returns-in_ok-add-in-Try : goal.lay_statement-returns-in_ok-add-in-Try
lay_statement-returns-in_ok-add-in-Try t c =
    let h = home_of c.args.home in
    let s = scope_of c.args.place.now in
    let start = c.args.laid.now in
    let mid = c.lay_block-in-Try.new.laid in
    let l = c.loop-name.laid in
    let body = body_of c.in-Try.body.items in
    let handlers = handlers_list c.in-Try.handlers.items in
    let hs : List (List ℕ × Vec Statement) = c.deref-name-items.result.now in
    let b = c.in_ok-block-in-Try.block in
    let found = c.loop-name.found in
    let first = c.in_ok-block-in-Try.ensures in
    let old = c.loop-name.invariant in
    let u = scope_of c.loop-name.place in
    let entered = scope_of c.lay_block-in-Try.new.place in
    let same : handlers_list hs ≡ handlers = ap handlers_list c.deref-name-items.ensures.value in
    let ended : AreHandled h handlers entered l tree.no_more u found =
    subst (λ (w : tree.Handlers). AreHandled h w entered l tree.no_more u found) same (subst (λ (xs : List (List ℕ × Vec Statement)). AreHandled h (handlers_list hs) entered l (handlers_list xs) u found) (drop_all c.loop-name.name-index hs c.loop-name-test.false) old.before)
    in
    let more : FromNowOn l (λ a. AreHandlers handlers h a (past (locals_in_block body) s) found) = subst (λ (v : Scope). FromNowOn l (λ a. AreHandlers handlers h a v found)) first.moves (handlers_end h handlers entered l u found ended) in
    let add = c.in_ok-add-in-Try.ensures in
    let is = ap statement_of c.in-Try.is ∙ sees_try c.in-Try.field-0 c.in-Try.body c.in-Try.handlers in
    let y = tree.try_ c.in-Try.field-0 body handlers in
    let new = c.add-in-Try.new.laid in
    let ids = c.add-in-Try.new.ids in
    record {
      grows = both_grow start l c.add-in-Try.new.laid (both_grow start mid l first.grows old.grows) c.in_ok-add-in-Try.ensures.grows;
      nested = add.nested;
      next = add.next;
      owned = added_owned (length start.blocks) l c.add-in-Try.new.laid c.args.ids.now c.add-in-Try.new.ids c.in_ok-add-in-Try.field-0 (code.try_ b found) add.grows add.blocks add.numbers add.at
          (both_owned (length start.blocks) mid l b (handler_blocks found) old.grows first.owned old.owned);
      only = added_only start l c.add-in-Try.new.laid c.args.ids.now c.add-in-Try.new.ids c.in_ok-add-in-Try.field-0 (code.try_ b found) (both_grow start mid l first.grows old.grows) add.grows add.numbers add.at
          (both_only (length start.blocks) mid l b (handler_blocks found) (blocks_grow start mid first.grows) old.grows first.only old.only);
      moves = seen_moves h (statement_of c.args.statement.now) (tree.try_ c.in-Try.field-0 body handlers) is s u (sym (past_nothing u) ∙ ended.moves ∙ ap (past (locals_in_handlers handlers)) first.moves ∙ past_past (locals_in_block body) (locals_in_handlers handlers) s);
      reads = seen_reads h (statement_of c.args.statement.now) y is s new c.args.ids.now ids
          (added l new c.args.ids.now ids (λ a ns rest. IsStatement y h a s ns rest) (code.try_ b found) c.in_ok-add-in-Try.field-0 add.grows (try_laid h s mid l old.grows body b first.reads handlers found more c.in-Try.field-0) add.numbers add.at);
    }

-- blocks

pub lay_block-loop-statement-init : goal.lay_block-loop-statement-init
lay_block-loop-statement-init t c =
    rw (c.deref-statement-items.ensures.value, c.new-ids.ensures)
    (record {
      home = c.requires.home;
      grows = λ a begins. begins;
      nested = c.requires.nested;
      next = next_none c.args.laid.now;
      owned = none_from c.args.laid.now c.args.laid.now (λ a n. HangsFrom a [] n) refl;
      only = none_hangs (length c.args.laid.now.blocks) c.args.laid.now;
      before = at_start (home_of c.args.home) (body_of c.args.body.now.items) (scope_of c.args.place.now) c.args.laid.now c.requires.coded;
    })

pub lay_block-loop-statement-preserved : goal.lay_block-loop-statement-preserved
lay_block-loop-statement-preserved t c =
    let ss : List Statement = c.deref-statement-items.result.now in
    let i = c.loop-statement.statement-index in
    let x = c.statement-item.result in
    let here = scope_of c.loop-statement.place in
    let is = next_statement ss i x c.loop-statement-test.true c.statement-item.is in
    let old = c.loop-statement.invariant in
    let step = c.in_ok-lay_statement.ensures in
    record {
      home = old.home ∙ ap body_names (sym (same_items (statement_of x) here) ∙ sym (ap (λ (u : Scope). u.items) step.moves));
      grows = λ a begins. old.grows a (step.grows a begins);
      nested = step.nested;
      next = step.next;
      owned = more_owned (length c.args.laid.now.blocks) c.loop-statement.laid c.lay_statement.new.laid c.loop-statement.ids c.lay_statement.new.ids step.reads.0 step.reads.1 step.grows old.owned step.owned;
      only = step.only (length c.args.laid.now.blocks) (blocks_grow c.args.laid.now c.loop-statement.laid old.grows) old.only;
      before = one_more (home_of c.args.home) (body_of c.args.body.now.items) (scope_of c.args.place.now) c.loop-statement.laid (body_of (drop i ss)) here c.loop-statement.ids (statement_of x) (body_of (drop (i + 1) ss)) is old.before
          c.lay_statement.new.laid (scope_of c.lay_statement.new.place) c.lay_statement.new.ids step.grows step.moves step.reads;
    }

pub lay_block-returns : goal.lay_block-returns
lay_block-returns t c =
    let h = home_of c.args.home in
    let s = scope_of c.args.place.now in
    let whole = body_of c.args.body.now.items in
    let ss : List Statement = c.deref-statement-items.result.now in
    let l = c.loop-statement.laid in
    let u = scope_of c.loop-statement.place in
    let ids = c.loop-statement.ids in
    let old = c.loop-statement.invariant in
    let r = c.push_block.result in
    let new = c.push_block.new.laid in
    let pushed = c.push_block.ensures in
    let ended : AreBefore h whole s l tree.over u ids = subst (λ (xs : List Statement). AreBefore h whole s l (body_of xs) u ids) (drop_all c.loop-statement.statement-index ss c.loop-statement-test.false) old.before in
    let left = c.leave.ensures ∙ ap (λ (n : ℕ). with_visible n u) c.mark-mark.ensures ∙ ap (with_visible (length s.locals)) ended.moves ∙ behind_block whole s in
    record {
      grows = on_ok r (λ grows. λ a begins. old.grows a (grows a begins)) pushed.grows;
      nested = pushed.nested;
      owned = if_three (Grows l new) (λ b. (b ≡ length l.blocks) × (length new.blocks ≡ b + 1)) (λ b. FromNowOn new (λ a. slice_get a.blocks b ≡ Some ids)) (λ b. EachFrom (length c.args.laid.now.blocks) new (λ a n. Inside a b n)) r
          (λ grows b last at. block_owned (length c.args.laid.now.blocks) l new ids b grows last.0 last.1 at old.owned) pushed.grows pushed.last pushed.at;
      only = if_three (Grows l new) (λ b. (b ≡ length l.blocks) × (length new.blocks ≡ b + 1)) (λ b. FromNowOn new (λ a. slice_get a.blocks b ≡ Some ids)) (λ b. OnlyFrom (length c.args.laid.now.blocks) new (λ a n. Inside a b n)) r
          (λ grows b last at. block_only (length c.args.laid.now.blocks) l new ids b (blocks_grow c.args.laid.now l old.grows) grows last.0 last.1 at old.only) pushed.grows pushed.last pushed.at;
      moves = on_ok r (λ grows. left) pushed.grows;
      reads = if_both (Grows l new) (λ b. FromNowOn new (λ a. slice_get a.blocks b ≡ Some ids)) (λ b. FromNowOn new (λ a. AtBlock a b (IsBlock whole h a s))) r (λ grows b at. at_end h whole s l new u ids b ended grows at) pushed.grows pushed.at;
    }
