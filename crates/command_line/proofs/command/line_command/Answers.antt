use Rattle.std.proofs.Common.{◌∙◌, ap, codes}
use Rattle.std.proofs.lemmas.Result.{IfOk-weaker}
use Rattle.clap.specs.Words.{App, with_rule}
use Rattle.command_line.specs.Command.{line_command, option_named, positional}
use Rattle.command_line.proofs.command.line_command.Goals as goal

pub returns : goal.returns
unfolding line_command
returns c =
    let model = c.in_ok-command.ensures ∙ ap (λ (a : App). with_rule a (positional (codes "model"))) c.bare_command-command.ensures in
    let script = c.in_ok-command-2.ensures ∙ ap (λ (a : App). with_rule a (positional (codes "script"))) model in
    let vcd = c.in_ok-command-3.ensures ∙ ap (λ (a : App). with_rule a (option_named (codes "vcd"))) script in
    let budget = c.in_ok-command-4.ensures ∙ ap (λ (a : App). with_rule a (option_named (codes "budget"))) vcd in
    let order = c.in_ok-command-5.ensures ∙ ap (λ (a : App). with_rule a (option_named (codes "order"))) budget in
    let seed = c.in_ok-command-6.ensures ∙ ap (λ (a : App). with_rule a (option_named (codes "seed"))) order in
    let choices = c.in_ok-command-7.ensures ∙ ap (λ (a : App). with_rule a (option_named (codes "choices"))) seed in
    let replay = c.in_ok-command-8.ensures ∙ ap (λ (a : App). with_rule a (option_named (codes "replay"))) choices in
    let log = c.in_ok-command-9.ensures ∙ ap (λ (a : App). with_rule a (option_named (codes "log"))) replay in
    let format = c.in_ok-command-10.ensures ∙ ap (λ (a : App). with_rule a (option_named (codes "format"))) log in
    let order_free = c.in_ok-command-11.ensures ∙ ap (λ (a : App). with_rule a (option_named (codes "order-free"))) format in
    let bus = c.in_ok-command-12.ensures ∙ ap (λ (a : App). with_rule a (option_named (codes "bus"))) order_free in
    IfOk-weaker c.with_option-11.result _ _ (λ r h. h ∙ ap (λ (a : App). with_rule a (option_named (codes "generate"))) bus) c.with_option-11.ensures
