use Rattle.std.proofs.Common.{◌∙◌, ◌++◌, ap}
use Rattle.vcd_trace.proofs.Texts.{scale_pieces}
use Rattle.vcd_trace.proofs.lines.push_scale.Goals as goal

pub returns : goal.returns
returns c =
    scale_pieces c.args.text.now.items c.extend_from_slice.new.self.items c.extend_from_slice-2.new.self.items c.extend_from_slice-3.new.self.items c.extend_from_slice-4.new.self.items _ _
    c.in_ok-extend_from_slice.ensures.items (c.in_ok-extend_from_slice-2.ensures.items ∙ ap (λ xs. c.extend_from_slice.new.self.items ++ xs) c.scale_number.ensures)
    (c.in_ok-extend_from_slice-3.ensures.items ∙ ap (λ xs. c.extend_from_slice-2.new.self.items ++ xs) c.scale_unit.ensures) c.in_ok-extend_from_slice-4.ensures.items
