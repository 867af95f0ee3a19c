-- What a design has whose bodies have room, and what it takes for that, as sound designs have it.
use Rattle.std.specs.Prelude.{◌≡◌, ◌≤◌, ℕ, slice_get, Some}
use Rattle.model_rules.specs.FlatDesign.Code.{arena_of}
use Rattle.model_rules.specs.FlatDesign.Typed.{IsTyped}
use Rattle.model_rules.specs.FlatDesign.Sound.{EachStatement, HopFits, RoomSuffices, events_of}
use Rattle.model_rules.specs.FlatDesign.declared.design.Hop.{Hop}
use Rattle.model_rules.specs.FlatDesign.declared.design.Design.{Design}

-- each body has room for the events of its statements
abbrev pub WaitsHaveRoom : Design → Type 0
WaitsHaveRoom d = EachStatement d (λ f home b s. events_of s ≤ b.room)

-- and for what it calls
abbrev pub CallsHaveRoom : Design → Type 0
CallsHaveRoom d = EachStatement d (λ f home b s. RoomSuffices d home b.room s)

abbrev pub IsTypedCode : Design → Type 0
IsTypedCode d = EachStatement d (λ f home b s. IsTyped (arena_of d.code) b.module_place b.answer (record { design = d; home = home; locals = b.locals }) s)

abbrev pub HopsFit : Design → Type 0
HopsFit d = (n : ℕ) (h : Hop) → slice_get d.hops n ≡ Some h → HopFits d h
