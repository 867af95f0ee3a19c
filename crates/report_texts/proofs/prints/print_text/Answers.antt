use Rattle.std.proofs.Common.{◌≡◌, ℕ, List, Option, refl}
use Rattle.flat_design.specs.Code as code
use Rattle.flat_design.specs.Code.{Term, statement_of}
use Rattle.flat_design.specs.declared.code.Statement.{Statement}
use Rattle.flat_design.specs.declared.code.Statement.TheVariants as statement
use Rattle.report_texts.proofs.prints.print_text.Goals as goal

no_print : (s : Statement) → ((text : _) (e : _) → s ≡ statement.Print text e → ⊥) → (text : List ℕ) (shown : Option Term) → statement_of s ≡ code.print text shown → ⊥
no_print (statement.Print said e) none text shown is = none said e refl
no_print s none text shown is = cc

pub returns-in_default : goal.returns-in_default
returns-in_default c text shown is = absurd (no_print c.args.statement.now c.in_default.not-Print text shown is)
