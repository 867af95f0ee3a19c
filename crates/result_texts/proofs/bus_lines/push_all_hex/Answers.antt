use Rattle.std.proofs.Common.{arith}
use Rattle.result_texts.specs.Lines.{hex_of}
use Rattle.result_texts.proofs.Pieces.{pieces_more}
use Rattle.result_texts.proofs.bus_lines.push_all_hex.Goals as goal

pub loop-byte-preserved : goal.loop-byte-preserved
loop-byte-preserved c =
    pieces_more hex_of 0 c.args.text.now.items c.loop-byte.text.items c.push_hex.new.text.items c.args.bytes.now c.loop-byte.byte-index (omega arith)
    c.loop-byte.invariant c.in_ok-push_hex.ensures
