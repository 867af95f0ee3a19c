-- What stands has its shape.
use Rattle.std.proofs.Common.{ℕ}
use Rattle.sim_model.specs.FlatDesign.declared.design.Design.{Design}
use Rattle.sim_model.specs.Residual.{Residual, skip, one, batch, seq, owing, guard, try_, frame, shell, run, goal}
use Rattle.sim_model.specs.Reading.{home_of_via}
use Rattle.laws_runs.specs.Shapes.{IsNormal, IsUnwound, IsShaped}
use Rattle.laws_runs.specs.Standing.{OfUnwindBlock, IsOrdinary, IsUnwinding, IsStanding}

pub ordinary-normal : (P : ℕ → ℕ → Type 0) (d : Design) (home : ℕ) (r : Residual) → IsOrdinary P d home r → IsNormal r
ordinary-normal P d home skip h = tt
ordinary-normal P d home (one s) h = tt
ordinary-normal P d home (batch s qs) h = tt
ordinary-normal P d home (seq r ss) h = ordinary-normal P d home r h.0
ordinary-normal P d home (owing r g u) h = h
ordinary-normal P d home (guard r g u) h = ordinary-normal P d home r h.0
ordinary-normal P d home (try_ r handlers) h = ordinary-normal P d home r h.0
ordinary-normal P d home (frame r x) h = ordinary-normal P d (home_of_via d home x.via) r h.1
ordinary-normal P d home (shell r x) h = h
ordinary-normal P d home (run g r) h = h
ordinary-normal P d home (goal r k) h = h

pub unwinding-unwound : (d : Design) (home : ℕ) (r : Residual) → IsUnwinding d home r → IsUnwound r
unwinding-unwound d home skip h = tt
unwinding-unwound d home (one s) h = h
unwinding-unwound d home (batch s qs) h = h
unwinding-unwound d home (seq r ss) h = h
unwinding-unwound d home (owing r g u) h = unwinding-unwound d home r h.0
unwinding-unwound d home (guard r g u) h = h
unwinding-unwound d home (try_ r handlers) h = h
unwinding-unwound d home (frame r x) h = h
unwinding-unwound d home (shell r x) h = unwinding-unwound d (home_of_via d home x.via) r h.1
unwinding-unwound d home (run g r) h = ordinary-normal (OfUnwindBlock d) d home r h
unwinding-unwound d home (goal r k) h = h

pub standing-shaped : (d : Design) (home : ℕ) (r : Residual) → IsStanding d home r → IsShaped r
standing-shaped d home skip h = tt
standing-shaped d home (one s) h = tt
standing-shaped d home (batch s qs) h = tt
standing-shaped d home (seq r ss) h = standing-shaped d home r h.0
standing-shaped d home (owing r g u) h = h
standing-shaped d home (guard r g u) h = standing-shaped d home r h.0
standing-shaped d home (try_ r handlers) h = standing-shaped d home r h.0
standing-shaped d home (frame r x) h = standing-shaped d (home_of_via d home x.via) r h.1
standing-shaped d home (shell r x) h = h
standing-shaped d home (run g r) h = h
standing-shaped d home (goal r k) h = unwinding-unwound d home r h
