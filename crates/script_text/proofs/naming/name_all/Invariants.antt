use Rattle.std.proofs.Common.{◌≡◌, drop}
use Rattle.script_text.specs.NamedScript.{name_script}
use Rattle.script_text.specs.Naming.{behind}
use Rattle.script_text.proofs.naming.name_all.Given as goal

abbrev pub invariant-loop-command : goal.invariant-loop-command
invariant-loop-command l =
    name_script l.design l.fn.commands ≡ behind l.script (name_script l.design (drop l.command-index l.command-items))
