use Rattle.std.proofs.Common.{sym, ap, subst}
use Rattle.exec_calls.specs.KernelBodies.Layers.{shown}
use Rattle.exec_calls.specs.ProcessBodies.Bodies.{IsStatement}
use Rattle.exec_transactions.proofs.entering.has_statement.Goals as goal

pub returns : goal.returns
returns c = λ kept at. subst IsStatement (sym (ap shown (c.requires kept at))) tt
