-- What a step of a thread inside a tick makes, by the statement that comes next.
use Rattle.std.proofs.Common.{◌≡◌, ℕ, false, cond, List, ◌∷◌, Some, None, ap, ◌∙◌}
use Rattle.std.specs.Prelude.{Result, Ok}
use Rattle.laws_runs.specs.LogicValues.declared.kinds.Value.{Value}
use Rattle.laws_runs.specs.FlatDesign.Code as code
use Rattle.laws_runs.specs.FlatDesign.Code.{Statement, statement_at}
use Rattle.laws_runs.specs.FlatDesign.declared.faults.RunFault.{RunFault}
use Rattle.laws_runs.specs.SimModel.Values.{on_ok, truth}
use Rattle.laws_runs.specs.SimModel.Residual.{Residual, settle, next_of, statement, put}
use Rattle.laws_runs.specs.SimModel.Configuration.{Config, Instance, arena, instance_at, change_instance, with_residual}
use Rattle.laws_runs.specs.SimModel.Reading.{Here, here, val}
use Rattle.laws_runs.specs.SimModel.Storing.{chosen, looped, stored, passes}
use Rattle.laws_runs.specs.SimModel.Statements.{settled_in, do_statement, do_next, on_statement, step_by, statement_step}
use Rattle.laws_runs.specs.SimModel.Steps.{went, faulted, ended, as_outcome, step, step_in, evaluate}
use Rattle.laws_runs.specs.SimModel.declared.plain.Phase.TheVariants as phase
use Rattle.laws_runs.proofs.Changes.{change-here}

-- ---- a step of the one on top of the stack

pub step-top : (c : Config) (p : ℕ) (rest : List ℕ) → c.cycle.stopped ≡ false → c.cycle.phase ≡ phase.Evaluate → c.processes.stack ≡ p ∷ rest → step c ≡ as_outcome (statement_step c p)
step-top c p rest runs now top = ap (λ b. cond b ended (step_in c c.cycle.phase)) runs ∙ ap (step_in c) now ∙ ap (λ stack. evaluate c stack c.processes.runnable) top

pub same-went : (d e : Config) → went d ≡ went e → d ≡ e
same-went d e is = cc

pub not-went : (d : Config) (f : RunFault) → faulted f ≡ went d → ⊥
not-went d f is = cc

-- ---- what it carries out

module _ (c : Config) (p : ℕ) (i : Instance) (at : instance_at c p ≡ Some i) where
  abbrev pub left : Residual
  left = settle (arena c) i.residual

  abbrev pub settled : Config
  settled = settled_in c p i.residual

  abbrev pub own : Instance
  own = record i { residual = left }

  abbrev pub where_ : Here
  where_ = here settled p own left

  pub settled-at : instance_at settled p ≡ Some own
  settled-at = change-here c.processes.instances p (λ j. record j { residual = left }) i at

  pub changed-at : (f : Instance → Instance) → instance_at (change_instance settled p f) p ≡ Some (f own)
  changed-at f = change-here settled.processes.instances p f own settled-at

  pub changed-twice : (f g : Instance → Instance) → instance_at (change_instance (change_instance settled p f) p g) p ≡ Some (g (f own))
  changed-twice f g = change-here (change_instance settled p f).processes.instances p g (f own) (changed-at f)

  pub carries : (n : ℕ) (x : Statement) → next_of left ≡ statement n → statement_at (arena c) n ≡ Some x → statement_step c p ≡ do_statement settled p own left where_ n x
  carries n x next found = ap (step_by c p) at ∙ ap (do_next settled p own left) next ∙ ap (on_statement settled p own left n) found

  pub chooses : (n b : ℕ) (e : code.Term) → next_of left ≡ statement n → statement_at (arena c) n ≡ Some (code.if_ e b None)
      → statement_step c p ≡ on_ok (val where_ e) (λ v. Ok (with_residual settled p (put left (chosen settled (truth v) b None))))
  chooses n b e next found = carries n (code.if_ e b None) next found

  pub loops-by : (n b : ℕ) (e : code.Term) → next_of left ≡ statement n → statement_at (arena c) n ≡ Some (code.while_ e b) → (v : Value) → val where_ e ≡ Ok v
      → statement_step c p ≡ Ok (with_residual settled p (put left (looped settled (truth v) n b)))
  loops-by n b e next found v is =
      carries n (code.while_ e b) next found ∙ ap (λ (m : Result Value RunFault). on_ok m (λ x. Ok (with_residual settled p (put left (looped settled (truth x) n b))))) is

  pub assigns : (n : ℕ) (target : _) (e : code.Term) → next_of left ≡ statement n → statement_at (arena c) n ≡ Some (code.assign (code.to_name target) e) → (v : Value) → val where_ e ≡ Ok v
      → statement_step c p ≡ Ok (stored (passes settled p left) p where_ target v)
  assigns n target e next found v is =
      carries n (code.assign (code.to_name target) e) next found ∙ ap (λ (m : Result Value RunFault). on_ok m (λ x. Ok (stored (passes settled p left) p where_ target x))) is
