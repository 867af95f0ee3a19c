use Rattle.std.proofs.Common.{[], ◌∷◌}
use Rattle.model_tree.specs.declared.vocabulary.Word.TheVariants as w
use Rattle.model_lexer.specs.Tokens.{name, word}
use Rattle.clocked.specs.Parts.{reset_name}
use Rattle.clocked.specs.Expanded.{put, reset_body}
use Rattle.clocked.specs.Views.{reset_in}
use Rattle.clocked.proofs.Adding.{adds_then}
use Rattle.clocked.proofs.putting.reset_method.Goals as goal

pub returns : goal.returns
returns c =
    rw c.in-Some.is
    (adds_then c.reset_body.result c.args.out.now c.put.new.out c.reset_body.new.out
    ((word w.Method, c.args.line) ∷ [])
    ((name (reset_name c.args.thread.now), c.args.line) ∷ put c.args.line (reset_body c.args.thread.now (reset_in c.in-Some.reset)))
    c.in_ok-put.ensures
    (adds_then c.reset_body.result c.put.new.out c.add_reset_name.new.out c.reset_body.new.out
    ((name (reset_name c.args.thread.now), c.args.line) ∷ [])
    (put c.args.line (reset_body c.args.thread.now (reset_in c.in-Some.reset)))
    c.in_ok-add_reset_name.ensures
    c.reset_body.ensures))
