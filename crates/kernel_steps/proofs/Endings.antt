-- The call that ends next, and the statement that called.
use Rattle.std.proofs.Common.{◌≡◌, ℕ, true, false, Option, ap, subst}
use Rattle.flat_design.specs.Code.{Statement, arena_of}
use Rattle.flat_design.specs.declared.names.NameUse.{NameUse}
use Rattle.flat_design.specs.declared.code.Store.{Store as Target}
use Rattle.exec_channels.specs.SimModel.Residual as residual
use Rattle.exec_channels.specs.SimModel.Residual.{Frame, Next}
use Rattle.exec_channels.specs.KernelState.declared.kernel.Kernel.{Kernel}
use Rattle.exec_transactions.specs.ExecCalls.Calling.{EndsNext}
use Rattle.exec_transactions.specs.ExecCalls.Leaving.{CalledBy, IsNoTransport, statement_if}
use Rattle.exec_transactions.specs.Ending.{IsBTransport, IsNbTransport}
use Rattle.kernel_steps.specs.Ending.{IsEndOf, calls_over_if}
use Rattle.kernel_steps.specs.declared.leaving.CallEnd.{CallEnd}
use Rattle.kernel_steps.specs.declared.leaving.CallEnd.TheVariants as ends

-- what comes next is one call's end
one_frame : (n : Next) (x y : Frame) → n ≡ residual.leaves x → n ≡ residual.leaves y → x ≡ y
one_frame n x y first second = cc

-- so what is true of the statement that made it is true of the caller
pub called : (k : Kernel) (p : ℕ) (P : Option Statement → Type 0) (x : Frame) → EndsNext k p x → P (statement_if (arena_of k.program.now.code) x.call) → CalledBy k p P
called k p P x here h = λ kept at y is.
    subst (λ (z : Frame). P (statement_if (arena_of k.program.now.code) z.call)) (one_frame _ x y (here kept at) is) h

-- each way of ending has its caller
pub blocking : (k : Kernel) (p : ℕ) (e : CallEnd) (socket : ℕ) (n d : NameUse) → e ≡ ends.Blocking socket n d → CalledBy k p (IsEndOf e) → CalledBy k p (IsBTransport d)
blocking k p e socket n d is by = λ kept at x leaves. record {
  socket = socket;
  payload = n;
  is = subst (λ z. IsEndOf z (statement_if (arena_of k.program.now.code) x.call)) is (by kept at x leaves);
}

pub nonblocking : (k : Kernel) (p : ℕ) (e : CallEnd) (target : Option Target) (socket : ℕ) (n phase d : NameUse) → e ≡ ends.NonBlocking target socket n phase d
    → CalledBy k p (IsEndOf e) → CalledBy k p (IsNbTransport target phase d)
nonblocking k p e target socket n phase d is by = λ kept at x leaves. record {
  socket = socket;
  payload = n;
  is = subst (λ z. IsEndOf z (statement_if (arena_of k.program.now.code) x.call)) is (by kept at x leaves);
}

-- what calls over no socket is no transport call
no_transport : (o : Option Statement) → calls_over_if o ≡ false → IsNoTransport o
no_transport o plain = record {
  blocking = λ socket payload time is. let over : calls_over_if o ≡ true = ap calls_over_if is in cc;
  nonblocking = λ target socket payload phase time is. let over : calls_over_if o ≡ true = ap calls_over_if is in cc;
}

pub plainly : (k : Kernel) (p : ℕ) (e : CallEnd) → e ≡ ends.Plain → CalledBy k p (IsEndOf e) → CalledBy k p IsNoTransport
plainly k p e is by = λ kept at x leaves. no_transport (statement_if (arena_of k.program.now.code) x.call)
    (subst (λ z. IsEndOf z (statement_if (arena_of k.program.now.code) x.call)) is (by kept at x leaves))
