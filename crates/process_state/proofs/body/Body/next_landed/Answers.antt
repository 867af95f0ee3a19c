use Rattle.std.proofs.Common.{◌≡◌, List, subst, sym, ap, ◌∙◌}
use Rattle.kernel_bodies.specs.FlatDesign.Code.{arena_of}
use Rattle.kernel_bodies.specs.SimModel.Residual.{next_of, settle, skip}
use Rattle.kernel_bodies.specs.declared.layers.Saved.{Saved}
use Rattle.kernel_bodies.specs.Landings.{Lands}
use Rattle.kernel_bodies.specs.Layers.{held, inside_frames, standing, shown_by}
use Rattle.process_state.specs.Bodies.{settled_in, next_in}
use Rattle.process_state.proofs.Settled.{land_shows, falls_shows}
use Rattle.process_state.proofs.Stepping.{shown_statement, shown_goal, shown_done, shown_nothing, never_owed}
use Rattle.process_state.proofs.body.Body.next_landed.Goals as goal

pub returns-in-Some-clause-value : goal.returns-in-Some-clause-value
returns-in-Some-clause-value c =
    let a = arena_of c.args.program.now.code in
    let ds = c.args.program.now.depths.items in
    let b = c.args.self.now in
    let l = c.in-Some.landing in
    let P : List Saved → Type 0 = λ ws. Lands a ds ws b.statement (standing (held ws b.statement)) l in
    let from : next_in c.args.program.now b ≡ c.next_shown.result =
    land_shows a ds b.goal b.frames.items b.statement (standing (held b.frames.items b.statement)) l (subst P c.as_slice.ensures.value c.in-Some.ensures.lands) ∙ sym c.next_shown.ensures in
    sym from

pub returns-in-None-clause-value : goal.returns-in-None-clause-value
returns-in-None-clause-value c =
    let a = arena_of c.args.program.now.code in
    let b = c.args.self.now in
    let P : List Saved → Type 0 = λ zs. settle a (inside_frames a zs (standing (held zs b.statement))) ≡ skip in
    let from : next_in c.args.program.now b ≡ c.next_shown-in-None.result =
    falls_shows a b.goal b.frames.items (standing (held b.frames.items b.statement)) (subst P c.as_slice.ensures.value c.in-None.ensures.falls) ∙ ap shown_by (sym c.under_goal.ensures) ∙ sym c.next_shown-in-None.ensures in
    sym from

pub returns-in-Some-clause-statement : goal.returns-in-Some-clause-statement
returns-in-Some-clause-statement c = λ s e.
    let a = arena_of c.args.program.now.code in
    let ds = c.args.program.now.depths.items in
    let b = c.args.self.now in
    let l = c.in-Some.landing in
    let P : List Saved → Type 0 = λ ws. Lands a ds ws b.statement (standing (held ws b.statement)) l in
    let from : next_in c.args.program.now b ≡ c.next_shown.result =
    land_shows a ds b.goal b.frames.items b.statement (standing (held b.frames.items b.statement)) l (subst P c.as_slice.ensures.value c.in-Some.ensures.lands) ∙ sym c.next_shown.ensures in
    shown_statement (next_of (settled_in c.args.program.now b)) s (from ∙ e)

pub returns-in-None-clause-statement : goal.returns-in-None-clause-statement
returns-in-None-clause-statement c = λ s e.
    let a = arena_of c.args.program.now.code in
    let b = c.args.self.now in
    let P : List Saved → Type 0 = λ zs. settle a (inside_frames a zs (standing (held zs b.statement))) ≡ skip in
    let from : next_in c.args.program.now b ≡ c.next_shown-in-None.result =
    falls_shows a b.goal b.frames.items (standing (held b.frames.items b.statement)) (subst P c.as_slice.ensures.value c.in-None.ensures.falls) ∙ ap shown_by (sym c.under_goal.ensures) ∙ sym c.next_shown-in-None.ensures in
    shown_statement (next_of (settled_in c.args.program.now b)) s (from ∙ e)

pub returns-in-Some-clause-goal : goal.returns-in-Some-clause-goal
returns-in-Some-clause-goal c = λ k e.
    let a = arena_of c.args.program.now.code in
    let ds = c.args.program.now.depths.items in
    let b = c.args.self.now in
    let l = c.in-Some.landing in
    let P : List Saved → Type 0 = λ ws. Lands a ds ws b.statement (standing (held ws b.statement)) l in
    let from : next_in c.args.program.now b ≡ c.next_shown.result =
    land_shows a ds b.goal b.frames.items b.statement (standing (held b.frames.items b.statement)) l (subst P c.as_slice.ensures.value c.in-Some.ensures.lands) ∙ sym c.next_shown.ensures in
    shown_goal (next_of (settled_in c.args.program.now b)) k (from ∙ e)

pub returns-in-None-clause-goal : goal.returns-in-None-clause-goal
returns-in-None-clause-goal c = λ k e.
    let a = arena_of c.args.program.now.code in
    let b = c.args.self.now in
    let P : List Saved → Type 0 = λ zs. settle a (inside_frames a zs (standing (held zs b.statement))) ≡ skip in
    let from : next_in c.args.program.now b ≡ c.next_shown-in-None.result =
    falls_shows a b.goal b.frames.items (standing (held b.frames.items b.statement)) (subst P c.as_slice.ensures.value c.in-None.ensures.falls) ∙ ap shown_by (sym c.under_goal.ensures) ∙ sym c.next_shown-in-None.ensures in
    shown_goal (next_of (settled_in c.args.program.now b)) k (from ∙ e)

pub returns-in-Some-clause-done : goal.returns-in-Some-clause-done
returns-in-Some-clause-done c = λ e.
    let a = arena_of c.args.program.now.code in
    let ds = c.args.program.now.depths.items in
    let b = c.args.self.now in
    let l = c.in-Some.landing in
    let P : List Saved → Type 0 = λ ws. Lands a ds ws b.statement (standing (held ws b.statement)) l in
    let from : next_in c.args.program.now b ≡ c.next_shown.result =
    land_shows a ds b.goal b.frames.items b.statement (standing (held b.frames.items b.statement)) l (subst P c.as_slice.ensures.value c.in-Some.ensures.lands) ∙ sym c.next_shown.ensures in
    shown_done (next_of (settled_in c.args.program.now b)) (from ∙ e)

pub returns-in-None-clause-done : goal.returns-in-None-clause-done
returns-in-None-clause-done c = λ e.
    let a = arena_of c.args.program.now.code in
    let b = c.args.self.now in
    let P : List Saved → Type 0 = λ zs. settle a (inside_frames a zs (standing (held zs b.statement))) ≡ skip in
    let from : next_in c.args.program.now b ≡ c.next_shown-in-None.result =
    falls_shows a b.goal b.frames.items (standing (held b.frames.items b.statement)) (subst P c.as_slice.ensures.value c.in-None.ensures.falls) ∙ ap shown_by (sym c.under_goal.ensures) ∙ sym c.next_shown-in-None.ensures in
    shown_done (next_of (settled_in c.args.program.now b)) (from ∙ e)

pub returns-in-Some-clause-nothing : goal.returns-in-Some-clause-nothing
returns-in-Some-clause-nothing c = λ e.
    let a = arena_of c.args.program.now.code in
    let ds = c.args.program.now.depths.items in
    let b = c.args.self.now in
    let l = c.in-Some.landing in
    let P : List Saved → Type 0 = λ ws. Lands a ds ws b.statement (standing (held ws b.statement)) l in
    let from : next_in c.args.program.now b ≡ c.next_shown.result =
    land_shows a ds b.goal b.frames.items b.statement (standing (held b.frames.items b.statement)) l (subst P c.as_slice.ensures.value c.in-Some.ensures.lands) ∙ sym c.next_shown.ensures in
    shown_nothing (next_of (settled_in c.args.program.now b)) (from ∙ e)

pub returns-in-None-clause-nothing : goal.returns-in-None-clause-nothing
returns-in-None-clause-nothing c = λ e.
    let a = arena_of c.args.program.now.code in
    let b = c.args.self.now in
    let P : List Saved → Type 0 = λ zs. settle a (inside_frames a zs (standing (held zs b.statement))) ≡ skip in
    let from : next_in c.args.program.now b ≡ c.next_shown-in-None.result =
    falls_shows a b.goal b.frames.items (standing (held b.frames.items b.statement)) (subst P c.as_slice.ensures.value c.in-None.ensures.falls) ∙ ap shown_by (sym c.under_goal.ensures) ∙ sym c.next_shown-in-None.ensures in
    shown_nothing (next_of (settled_in c.args.program.now b)) (from ∙ e)

pub returns-in-Some-clause-alone : goal.returns-in-Some-clause-alone
returns-in-Some-clause-alone c = λ s q e. never_owed c.in-Some.landing.comes s q (sym c.next_shown.ensures ∙ e)

pub returns-in-None-clause-alone : goal.returns-in-None-clause-alone
returns-in-None-clause-alone c = λ s q e. never_owed c.under_goal.result s q (sym c.next_shown-in-None.ensures ∙ e)
