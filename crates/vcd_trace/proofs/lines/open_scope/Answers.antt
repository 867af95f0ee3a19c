use Rattle.vcd_trace.proofs.Texts.{scope_pieces}
use Rattle.vcd_trace.proofs.lines.open_scope.Goals as goal

pub returns : goal.returns
returns c =
    scope_pieces c.args.text.now.items c.args.name.now c.extend_from_slice.new.self.items c.extend_from_slice-2.new.self.items c.extend_from_slice-3.new.self.items
    c.in_ok-extend_from_slice.ensures.items c.in_ok-extend_from_slice-2.ensures.items c.in_ok-extend_from_slice-3.ensures.items
