use Rattle.std.proofs.Common.{Ok, Err, option_map, refl, sym, ap, ◌∙◌}
use Rattle.flat_design.specs.Code.{term_of, event_terms}
use Rattle.kernel_view.specs.SimModel.Values.{moment}
use Rattle.kernel_view.specs.SimModel.Reading.{val_if}
use Rattle.kernel_view.specs.SimModel.Waiting.{deadline_if}
use Rattle.kernel_view.specs.Standings.{next_here}
use Rattle.exec_events.proofs.Gathered.{ended, ends_by}
use Rattle.exec_events.proofs.triggers.until.Goals as goal

pub returns-in-Err : goal.returns-in-Err
returns-in-Err c = λ d i h there how.
    ends_by (next_here d c.args.p i) how (event_terms c.args.events.now) (option_map term_of c.args.time.now) (Err c.in-Err.first) (val_if (next_here d c.args.p i) (option_map term_of c.args.time.now)) (c.in-Err.ensures d i h there) refl

pub returns-in-Err-eval_if_at : goal.returns-in-Err-eval_if_at
returns-in-Err-eval_if_at c = λ d i h there how.
    ends_by (next_here d c.args.p i) how (event_terms c.args.events.now) (option_map term_of c.args.time.now) (Ok c.in-Ok.fault) (Err c.in-Err-eval_if_at.first) (c.in-Ok.ensures d i h there) (c.in-Err-eval_if_at.ensures d i h there)

pub returns-in-None : goal.returns-in-None
returns-in-None c = λ d i h there how.
    c.deadline_if.ensures
    ∙ sym (ap (λ n. deadline_if n (option_map moment c.in-Ok-eval_if_at.time)) (ap (λ y. y.now) h.cycle))
    ∙ ap (λ o. ended (next_here d c.args.p i) how (event_terms c.args.events.now) (option_map term_of c.args.time.now) o c.in-Ok-eval_if_at.time) (sym c.in-None.is)
    ∙ ends_by (next_here d c.args.p i) how (event_terms c.args.events.now) (option_map term_of c.args.time.now) (Ok c.in-Ok.fault) (Ok c.in-Ok-eval_if_at.time) (c.in-Ok.ensures d i h there) (c.in-Ok-eval_if_at.ensures d i h there)

pub returns-in-Some : goal.returns-in-Some
returns-in-Some c = λ d i h there how.
    ap (λ o. ended (next_here d c.args.p i) how (event_terms c.args.events.now) (option_map term_of c.args.time.now) o c.in-Ok-eval_if_at.time) (sym c.in-Some.is)
    ∙ ends_by (next_here d c.args.p i) how (event_terms c.args.events.now) (option_map term_of c.args.time.now) (Ok c.in-Ok.fault) (Ok c.in-Ok-eval_if_at.time) (c.in-Ok.ensures d i h there) (c.in-Ok-eval_if_at.ensures d i h there)
