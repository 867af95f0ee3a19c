use Rattle.std.proofs.Common.{◌≡◌, ℕ, Ok, refl, sym, subst}
use Rattle.flat_design.specs.Code.{statement_of}
use Rattle.flat_design.specs.declared.code.Statement.{Statement}
use Rattle.flat_design.specs.declared.code.Statement.TheVariants as statement
use Rattle.exec_data.specs.KernelBodies.Layers.{call_of}
use Rattle.exec_data.specs.SimModel.Residual.{Frame}
use Rattle.exec_data.specs.SimModel.Configuration.{Config}
use Rattle.exec_data.specs.SimModel.Reading.{Here, here}
use Rattle.exec_data.specs.SimModel.Statements.{hands_back}
use Rattle.exec_data.specs.KernelState.Moves.{Follows}
use Rattle.exec_calls.proofs.returns.hand_back_to.Goals as goal

-- what calls nothing hands nothing back
hands_nothing : (c : Config) (p : ℕ) (h : Here) (x : Frame) (s : Statement) → ((target : _) (f : _) (arguments : _) → s ≡ statement.Call target f arguments → ⊥)
    → ((target : _) (socket : _) (n : _) (phase : _) (d : _) → s ≡ statement.NbTransport target socket n phase d → ⊥)
    → ((socket : _) (n : _) (d : _) → s ≡ statement.BTransport socket n d → ⊥) → hands_back c p h x (statement_of s) ≡ Ok c
hands_nothing c p h x (statement.Call target f arguments) calls nonblocking blocking = absurd (calls target f arguments refl)
hands_nothing c p h x (statement.NbTransport target socket n phase d) calls nonblocking blocking = absurd (nonblocking target socket n phase d refl)
hands_nothing c p h x (statement.BTransport socket n d) calls nonblocking blocking = absurd (blocking socket n d refl)
hands_nothing c p h x s calls nonblocking blocking = refl

pub returns-in_default-clause-hands : goal.returns-in_default-clause-hands
returns-in_default-clause-hands c = λ d i stands at.
    subst (Follows c.args.k.now (Ok tt) d)
    (sym (hands_nothing d c.args.p (here d c.args.p i i.residual) (call_of c.args.frame.now) c.args.statement.now c.in_default.not-Call c.in_default.not-NbTransport c.in_default.not-BTransport)) stands
