-- The lines of the constructs of a tree that was read never fall.
use Rattle.std.proofs.Common.{◌≡◌, ℕ, ◌+◌, ◌-◌, ◌≤◌, Bool, true, false, List, [], ◌∷◌, length, ap, arith}
use Rattle.std.specs.Prelude.{if◌then◌else◌}
use Rattle.model_rules.specs.ModelTree.Tree as tree
use Rattle.model_rules.specs.ModelTree.declared.items.Head.{Head}
use Rattle.model_rules.specs.ModelTree.declared.items.Head.TheVariants as head
use Rattle.model_rules.specs.Sites.{Site, sites}
use Rattle.model_lexer.specs.Tokens.{Tokens}
use Rattle.model_lexer.specs.Languages.{Front, behind, behind_other, in_second, says_second, in_language}
use Rattle.model_lexer.specs.Items.{DerivesResolution, DerivesHead, DerivesSource}
use Rattle.model_lexer.specs.Cut.{line_at, Lexeme, CutUpTo}
use Rattle.model_lexer.specs.Laws.{with_lines, AreInOrder}
use Rattle.model_lexer.specs.Reads.{Reads}
use Rattle.model_lexer.proofs.CutLaws.{cut_ordered}
use Rattle.model_lexer.proofs.Turns.{line_past}
use Rattle.laws_texts.specs.Order.{RisesFrom, LinesNeverFall}
use Rattle.laws_texts.proofs.Along.{Along, Rising, UpTo, nothing, last, past, past_at, trail, both, maybe}
use Rattle.laws_texts.proofs.ItemLines.{whole}

-- a later place is on no earlier line
later_line : (text : List ℕ) (a b : ℕ) → a ≤ b → line_at text a ≤ line_at text b
later_line text a b h =
    let place : a + (b - a) ≡ b = omega (arith, h) in
    omega (arith, line_past text a (b - a), ap (line_at text) place)

tokens_rise : (text : List ℕ) (from up line : ℕ) (ts : List Lexeme) → CutUpTo text from up ts → AreInOrder from up ts → line ≤ line_at text from → Rising line (with_lines ts)
tokens_rise text from up line [] cut order h = tt
tokens_rise text from up line (t ∷ ts) (gap, token, cut) (before, some, order) h = (
  omega (arith, h, later_line text from t.start before, token.lined),
  tokens_rise text t.end up t.line ts cut order (omega (arith, token.lined, later_line text t.start t.end (omega (arith, some)))),
)

-- a token as its language has it is on the same line
second_rises : (f : Front) (line : ℕ) (ts : Tokens) → Rising line ts → Rising line (in_second f ts)
second_rises f line [] h = tt
second_rises f line (t ∷ ts) (later, more) = (later, second_rises (behind f t.0) t.1 ts more)

rises_by : (b : Bool) (line : ℕ) (ts : Tokens) → Rising line ts → Rising line (if b then in_second behind_other ts else ts)
rises_by true line ts h = second_rises behind_other line ts h
rises_by false line ts h = h

language_rises : (line : ℕ) (ts : Tokens) → Rising line ts → Rising line (in_language ts)
language_rises line ts h = rises_by (says_second ts) line ts h

rises : (line up : ℕ) (xs : List Site) → UpTo line xs up → RisesFrom line xs
rises line up [] h = tt
rises line up (x ∷ xs) h = (h.0, rises x.line up xs h.1)

-- what a text says of its language has no site
first_lines : (h : Head) → Along (DerivesHead h) []
first_lines head.First = nothing
first_lines (head.Second r) = past (past (past (maybe DerivesResolution (λ x. past_at (trail (past last) last)) r)))

whole_source : (x : tree.Source) → Along (DerivesSource x) (sites x.model)
whole_source x = both {xs = []} {ys = sites x.model} (first_lines x.head) (whole x.model)

pub never_fall : (text : List ℕ) (x : tree.Source) → Reads text x → LinesNeverFall (sites x.model)
never_fall text x (ls, cut, derives, few) =
    let rising = tokens_rise text 0 (length text) 1 ls cut (cut_ordered text 0 ls cut) (omega arith) in
    let (up, along, left) = (whole_source x).along 1 (in_language (with_lines ls)) [] derives (language_rises 1 (with_lines ls) rising) in
    rises 1 up (sites x.model) along
