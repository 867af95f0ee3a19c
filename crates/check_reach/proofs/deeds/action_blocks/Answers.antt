use Rattle.std.proofs.Common.{ℕ, List, sym, ap, ◌∙◌}
use Rattle.model_tree.specs.Views.{action_of}
use Rattle.model_tree.specs.declared.statements.Action.{Action}
use Rattle.check_expressions.specs.ModelRules.Reach.{is_fifo, meaning_in, action_blocks}
use Rattle.check_expressions.specs.CheckNames.ModuleNames.{items_of}
use Rattle.check_reach.proofs.deeds.action_blocks.Goals as goal

pub returns-in-Write : goal.returns-in-Write
returns-in-Write c =
    let items = items_of c.args.names.now in
    c.is_fifo.ensures
    ∙ ap is_fifo (c.meaning.ensures ∙ ap (λ (n : List ℕ). meaning_in items n) c.bytes.ensures.value)
    ∙ sym (ap (λ (a : Action). action_blocks items (action_of a)) c.in-Write.is)
