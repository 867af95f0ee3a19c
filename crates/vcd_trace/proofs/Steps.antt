-- What a step adds to the text of a trace, and what ends it.
use Rattle.std.proofs.Common.{◌≡◌, ◌≢◌, ◌++◌, ℕ, cond, List, [], ◌∷◌, sym, ap, ◌∙◌, append-nil, append_assoc, eq-eqb, ne_eqb}
use Rattle.flat_design.specs.declared.design.Design.{Design}
use Rattle.laws_runs.specs.SimModel.Configuration.{Config, Cycle, Snapshot}
use Rattle.laws_runs.specs.SimModel.Trace.{header, all_values, trace_text}
use Rattle.kernel_state.specs.Kernel.{StandsFor}
use Rattle.kernel_state.specs.declared.kernel.Kernel.{Kernel}
use Rattle.laws_runs.specs.AddedStanding.{seen_at, added}
use Rattle.vcd_trace.specs.Traced.{trace_so_far}

-- the kernel stands for what a step from c led to, and t was the time before it
module _ (k : Kernel) (c d : Config) (h : StandsFor k d) (t : ℕ) (is : c.cycle.now ≡ t) (adds : d.trace.snapshots ≡ c.trace.snapshots ++ added c d) where
  now_is : d.cycle.now ≡ k.cycle.now.0
  now_is = ap (λ (y : Cycle). y.now) h.cycle

  pub still-adds : k.cycle.now.0 ≡ t → d.trace.snapshots ≡ c.trace.snapshots
  still-adds same =
      adds
      ∙ ap (λ b. c.trace.snapshots ++ cond b [] (seen_at c.cycle.now d ∷ [])) (eq-eqb d.cycle.now c.cycle.now (now_is ∙ same ∙ sym is))
      ∙ append-nil c.trace.snapshots

  pub moved-adds : k.cycle.now.0 ≢ t → d.trace.snapshots ≡ c.trace.snapshots ++ seen_at t d ∷ []
  moved-adds apart =
      adds
      ∙ ap (λ b. c.trace.snapshots ++ cond b [] (seen_at c.cycle.now d ∷ [])) (ne_eqb d.cycle.now c.cycle.now (λ same. apart (sym now_is ∙ same ∙ is)))
      ∙ ap (λ n. c.trace.snapshots ++ seen_at n d ∷ []) is

pub text-after : (c d : Config) (more : List Snapshot) (text : List ℕ) → d.design ≡ c.design → d.trace.snapshots ≡ more → all_values more ≡ all_values c.trace.snapshots ++ text → trace_so_far d ≡ trace_so_far c ++ text
text-after c d more text design snapshots values =
    ap (λ (x : Design). header x ++ all_values d.trace.snapshots) design
    ∙ ap (λ t. header c.design ++ t) (ap all_values snapshots ∙ values)
    ∙ sym (append_assoc (header c.design) (all_values c.trace.snapshots) text)

pub text-ends : (c : Config) (text : List ℕ) → all_values (c.trace.snapshots ++ seen_at c.cycle.now c ∷ []) ≡ all_values c.trace.snapshots ++ text → trace_so_far c ++ text ≡ trace_text c
text-ends c text values = append_assoc (header c.design) (all_values c.trace.snapshots) text ∙ ap (λ t. header c.design ++ t) (sym values)
