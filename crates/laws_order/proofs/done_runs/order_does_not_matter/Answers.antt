use Rattle.sim_model.specs.declared.plain.Stop.TheVariants as stop
use Rattle.laws_order.proofs.Itself.{runs-come-to-themselves}
use Rattle.laws_order.proofs.Ongoing.{runs-go-on}
use Rattle.laws_order.proofs.DoneOrders.{phases-end-alike, runs-end-alike}
use Rattle.laws_order.proofs.done_runs.order_does_not_matter.Goals as goal

pub returns : goal.returns
returns c = λ d free.
    let the = c.the_same_goes_on.ensures in
    let keeps = c.runs_keep_to_turns.ensures d free in
    record {
      itself = runs-come-to-themselves d the keeps;
      phases = λ script other n m choices others first second reached reached_too now same k l own another e y one two.
          phases-end-alike d the keeps k l own another first e second y (record { script = script; n = n; choices = choices; is_run = reached }) (record { script = other; n = m; choices = others; is_run = reached_too }) now same one two;
      runs = λ script n m choices others e y one two done done_too.
          let ends = runs-end-alike d the keeps script n m choices others e y one two done done_too in
          (ends.0, the.trace e y ends.1, the.values e y ends.1, the.finals e y ends.1, the.closing_lines e y ends.1 stop.Done);
      ends = λ script n m choices others e y one done other. runs-go-on d the keeps script n m choices others e y one done other;
    }
