use Rattle.kernel_bodies.proofs.Strips.{strip-settle, strip-put, strip-in_innermost, strip-unw, strip-raise, strip-returned, strip-entered, strip-block}
use Rattle.kernel_bodies.proofs.stripped.numbers_change_nothing.Goals as goal

pub returns : goal.returns
returns c = record {
  settled = strip-settle;
  another = strip-put;
  in_a_call = strip-in_innermost;
  unwound = strip-unw;
  raised = strip-raise;
  returned = strip-returned;
  entered = strip-entered;
  block = strip-block;
}
