-- Code that is typed, as a sound design has it.
use Rattle.code_rules.specs.FlatDesign.Code.{arena_of}
use Rattle.code_rules.specs.FlatDesign.Typed.{IsTyped}
use Rattle.code_rules.specs.FlatDesign.Sound.{EachStatement}
use Rattle.code_rules.specs.FlatDesign.declared.design.Design.{Design}

-- each statement of each body, in each instance of its module
abbrev pub IsTypedCode : Design → Type 0
IsTypedCode d = EachStatement d (λ f home b s. IsTyped (arena_of d.code) b.module_place b.answer (record { design = d; home = home; locals = b.locals }) s)
