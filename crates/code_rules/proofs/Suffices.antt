-- Rooms suffice: for the waits of a body, and for the bodies that it calls.
use Rattle.std.proofs.Common.{◌≡◌, ◌≤◌, ℕ, Option, Some, None, sym, ap, ◌∙◌, subst, inl, inr, arith}
use Rattle.std.proofs.lemmas.Option.{same_Some}
use Rattle.model_rules.specs.FlatDesign.Code as code
use Rattle.model_rules.specs.FlatDesign.Code.{Statement, arena_of, body_at}
use Rattle.model_rules.specs.FlatDesign.Typed.{IsTyped}
use Rattle.model_rules.specs.FlatDesign.Sound.{HandlerFits, RoomSuffices, blocking_parameters}
use Rattle.model_rules.specs.FlatDesign.declared.code.BodyKind.TheVariants as body_kind
use Rattle.model_rules.specs.FlatDesign.declared.code.CodeBody.{CodeBody}
use Rattle.model_rules.specs.FlatDesign.declared.design.Design.{Design}
use Rattle.code_rules.specs.Rooms.{InFunction, NeedsRoom, HasRooms}
use Rattle.code_rules.specs.RoomFields.{WaitsHaveRoom, CallsHaveRoom, IsTypedCode, HopsFit}

module _ (d : Design) (rooms : HasRooms (arena_of d.code)) where
  pub waits : WaitsHaveRoom d
  waits f b home s found home_of stands = (rooms f b found).suffices s (inl stands)

  -- what a function needs room for, any body has room for
  needed_fits : (f : ℕ) (b : CodeBody) → body_at (arena_of d.code) f ≡ Some b → (g : ℕ) (c : CodeBody) → body_at (arena_of d.code) g ≡ Some c → c.kind ≡ body_kind.Function → c.room ≤ b.room
  needed_fits f b found g c there is = elim ((rooms g c there).needed) [
    | inl none ↦ omega (arith, none)
    | inr w ↦
        let fits = (rooms f b found).suffices w.0 (inr (of_function w.0 w.1)) in
        let exact = w.2 in
        omega (arith, fits, exact)
  ]
    where
      of_function : (s : Statement) → NeedsRoom (arena_of d.code) c s → InFunction (arena_of d.code) s
      of_function s (inl own) = record { function = g; body = c; found = there; is_function = is; stands = own }
      of_function s (inr x) = x

  module _ (hops : HopsFit d) (f : ℕ) (b : CodeBody) (home : ℕ) (found : body_at (arena_of d.code) f ≡ Some b) where
    called_fits : (g : ℕ) (c e : CodeBody) → body_at (arena_of d.code) g ≡ Some c → body_at (arena_of d.code) g ≡ Some e → e.kind ≡ body_kind.Function → c.room ≤ b.room
    called_fits g c e there same is = needed_fits f b found g c there (ap (λ (x : CodeBody). x.kind) (same_Some c e (sym there ∙ same)) ∙ is)

    handler_fits : (target g : ℕ) (c : CodeBody) (h : Option ℕ) → h ≡ Some g → HandlerFits d target blocking_parameters None h → body_at (arena_of d.code) g ≡ Some c → c.room ≤ b.room
    handler_fits target g c h is fits there =
        let x = subst (HandlerFits d target blocking_parameters None) is fits in
        called_fits g c x.body there x.found x.is_function

    by_statement : (s : Statement) → IsTyped (arena_of d.code) b.module_place b.answer (record { design = d; home = home; locals = b.locals }) s → RoomSuffices d home b.room s
    by_statement (code.call x g arguments) typed = λ c there. called_fits g c typed.0 there typed.1.found typed.1.is_function
    by_statement (code.b_transport s p delay) typed = λ n forward hop g at is blocking c there. handler_fits hop.target_home g c hop.blocking blocking (hops n hop is).blocking there
    by_statement other typed = tt

  pub calls : IsTypedCode d → HopsFit d → CallsHaveRoom d
  calls typed hops f b home s found home_of stands = by_statement hops f b home found s (typed f b home s found home_of stands)
