use Rattle.kernel_bodies.proofs.Strips.{strip-next, strip-innermost, strip-within, strip-open_frames, strip-in_nb, strip-has_goal, strip-catches, strip-left_by_unw, strip-left_by_raise}
use Rattle.kernel_bodies.proofs.stripped.numbers_show_nowhere.Goals as goal

pub returns : goal.returns
returns c = record {
  next = strip-next;
  innermost = strip-innermost;
  within = strip-within;
  open_frames = strip-open_frames;
  in_nb = strip-in_nb;
  has_goal = strip-has_goal;
  catches = strip-catches;
  left_by_unw = strip-left_by_unw;
  left_by_raise = strip-left_by_raise;
}
