use Rattle.std.proofs.Common.{◌≡◌, drop, refl, sym, subst, inl, [], ◌∷◌}
use Rattle.std.specs.Prelude.{codes}
use Rattle.std.proofs.Math.Dec.{lit≤}
use Rattle.model_lexer.specs.ModelTree.Vocabulary.{word_of}
use Rattle.model_lexer.specs.ModelTree.declared.vocabulary.Word.TheVariants as w
use Rattle.model_lexer.specs.ModelTree.declared.vocabulary.Symbol.TheVariants as s
use Rattle.model_lexer.specs.Tokens.{Tokens, name, number, quoted, word, symbol, symbol_of}
use Rattle.model_lexer.specs.Items.{DerivesModel}
use Rattle.worked_models.specs.Models.{at_once_expanded}
use Rattle.worked_models.specs.ClockedTrees.{five_edges, at_once_lines, on_line, at_once_model}
use Rattle.worked_models.proofs.forms.the_thread_with_a_reset_at_once.Goals as goal

abbrev tokens : Tokens
tokens = (word w.Module, 1) ∷ (name (codes "M"), 1) ∷ (symbol s.LeftBrace, 1) ∷ (word w.Clock, 1) ∷ (name (codes "clk"), 1) ∷ (word w.Period, 1) ∷ (number 10, 1) ∷ (name (codes "ns"), 1) ∷ (word w.High, 1) ∷ (number 5, 1) ∷ (name (codes "ns"), 1) ∷ (symbol s.Semicolon, 1) ∷ (word w.Signal, 1) ∷ (word w.Bool, 1) ∷ (name (codes "r"), 1) ∷ (symbol s.Semicolon, 1) ∷ (word w.Thread, 2) ∷ (name (codes "t"), 2) ∷ (word w.Sensitive, 2) ∷ (name (codes "clk"), 2) ∷ (symbol s.Dot, 2) ∷ (name (codes "pos"), 2) ∷ (word w.DontInitialize, 2) ∷ (symbol s.LeftBrace, 2) ∷ (word w.Var, 2) ∷ (word w.Bool, 2) ∷ (name (codes "tick_again"), 2) ∷ (symbol s.Equal, 2) ∷ (word w.True, 2) ∷ (symbol s.Semicolon, 2) ∷ (word w.While, 2) ∷ (name (codes "tick_again"), 2) ∷ (symbol s.LeftBrace, 2) ∷ (word w.Try, 2) ∷ (symbol s.LeftBrace, 2) ∷ (word w.Guard, 3) ∷ (symbol s.LeftBrace, 3) ∷ (word w.Print, 3) ∷ (quoted (codes "s"), 3) ∷ (symbol s.Semicolon, 3) ∷ (word w.If, 3) ∷ (word w.True, 3) ∷ (symbol s.LeftBrace, 3) ∷ (word w.Var, 3) ∷ (word w.Uint, 3) ∷ (symbol s.Less, 3) ∷ (number 32, 3) ∷ (symbol s.Greater, 3) ∷ (name (codes "tick_count"), 3) ∷ (symbol s.Equal, 3) ∷ (number 5, 3) ∷ (symbol s.Semicolon, 3) ∷ (word w.While, 3) ∷ (name (codes "tick_count"), 3) ∷ (symbol s.Greater, 3) ∷ (number 0, 3) ∷ (symbol s.LeftBrace, 3) ∷ (word w.Wait, 3) ∷ (symbol s.Semicolon, 3) ∷ (word w.If, 3) ∷ (name (codes "r"), 3) ∷ (symbol s.EqualEqual, 3) ∷ (word w.True, 3) ∷ (symbol s.LeftBrace, 3) ∷ (word w.Throw, 3) ∷ (name (codes "tick_reset"), 3) ∷ (symbol s.Semicolon, 3) ∷ (symbol s.RightBrace, 3) ∷ (name (codes "tick_count"), 3) ∷ (symbol s.Equal, 3) ∷ (name (codes "tick_count"), 3) ∷ (symbol s.Minus, 3) ∷ (number 1, 3) ∷ (symbol s.Semicolon, 3) ∷ (symbol s.RightBrace, 3) ∷ (symbol s.RightBrace, 3) ∷ (word w.Print, 3) ∷ (quoted (codes "never"), 3) ∷ (symbol s.Semicolon, 3) ∷ (symbol s.RightBrace, 3) ∷ (word w.Unwind, 3) ∷ (symbol s.LeftBrace, 3) ∷ (word w.Print, 3) ∷ (quoted (codes "u"), 3) ∷ (symbol s.Semicolon, 3) ∷ (symbol s.RightBrace, 3) ∷ (name (codes "tick_again"), 3) ∷ (symbol s.Equal, 3) ∷ (word w.False, 3) ∷ (symbol s.Semicolon, 3) ∷ (symbol s.RightBrace, 3) ∷ (word w.Catch, 3) ∷ (name (codes "tick_reset"), 3) ∷ (symbol s.LeftBrace, 3) ∷ (symbol s.RightBrace, 3) ∷ (symbol s.RightBrace, 3) ∷ (symbol s.RightBrace, 4) ∷ (word w.Method, 4) ∷ (name (codes "t_areset"), 4) ∷ (word w.Sensitive, 4) ∷ (name (codes "r"), 4) ∷ (word w.DontInitialize, 4) ∷ (symbol s.LeftBrace, 4) ∷ (word w.If, 4) ∷ (name (codes "r"), 4) ∷ (symbol s.EqualEqual, 4) ∷ (word w.True, 4) ∷ (symbol s.LeftBrace, 4) ∷ (word w.Reset, 4) ∷ (name (codes "t"), 4) ∷ (symbol s.Semicolon, 4) ∷ (symbol s.RightBrace, 4) ∷ (symbol s.RightBrace, 4) ∷ (word w.Thread, 5) ∷ (name (codes "k"), 5) ∷ (symbol s.LeftBrace, 5) ∷ (word w.Wait, 5) ∷ (word w.For, 5) ∷ (number 22, 5) ∷ (name (codes "ns"), 5) ∷ (symbol s.Semicolon, 5) ∷ (word w.Write, 5) ∷ (name (codes "r"), 5) ∷ (word w.True, 5) ∷ (symbol s.Semicolon, 5) ∷ (word w.Wait, 5) ∷ (word w.For, 5) ∷ (number 10, 5) ∷ (name (codes "ns"), 5) ∷ (symbol s.Semicolon, 5) ∷ (word w.Write, 5) ∷ (name (codes "r"), 5) ∷ (word w.False, 5) ∷ (symbol s.Semicolon, 5) ∷ (symbol s.RightBrace, 5) ∷ (symbol s.RightBrace, 5) ∷ (word w.Top, 5) ∷ (name (codes "M"), 5) ∷ (name (codes "m"), 5) ∷ (symbol s.Semicolon, 5) ∷ []

same : drop 3 at_once_expanded ≡ tokens
unfolding word_of symbol_of
same = refl

derives : DerivesModel at_once_model tokens []
derives = (_, (_, (_, refl, (_, (_, refl), (_, (_, refl), (_, (_, (_, refl, (_, (_, refl), (_, (_, refl), (_, (_, (_, refl), (_, refl)), (_, (_, refl), (_, (_, (_, refl), (_, refl)), (_, refl, (_, refl)))))))), (_, (_, refl, (_, refl, (_, refl, (_, (_, refl), (_, refl, (_, refl)))))), (_, (_, refl, (_, (_, refl), (_, (_, (_, refl), (_, (_, (_, refl, refl), (_, (_, refl), (_, refl))), refl)), (_, (_, refl), (_, (_, refl), (_, (_, (_, refl, (_, (_, (refl, refl)), (_, (_, refl), (_, (_, (_, refl), ((lit≤ tt, refl), lit≤ tt)), (_, refl))))), (_, (_, refl, (_, (refl, lit≤ tt), (_, (_, refl), (_, (_, (_, refl, (_, (_, (_, refl), (_, (_, (_, refl, (_, (_, (_, refl), (_, (_, (_, (_, refl, (_, (_, refl), refl)), (_, refl)), (_, (_, refl, (_, ((lit≤ tt, refl), lit≤ tt), (_, (_, (_, refl), (_, (_, (_, refl, (_, (_, (refl, (_, refl, (_, (_, refl), (_, (_, refl), (_, refl)))))), (_, (_, refl), (_, (_, (_, refl), ((lit≤ tt, refl), lit≤ tt)), (_, refl))))), (_, (_, refl, (_, ((lit≤ tt, (_, refl, (_, (_, refl), (lit≤ tt, refl)))), lit≤ tt), (_, (_, refl), (_, (_, (_, (_, refl, refl), (_, refl)), (_, (_, refl, (_, ((lit≤ tt, (_, refl, (_, (_, refl), (lit≤ tt, refl)))), lit≤ tt), (_, (_, (_, refl), (_, (_, (_, (_, refl, (_, refl)), (_, refl)), refl), (_, refl))), refl))), (_, (_, (_, refl, (_, refl, refl)), (_, (_, refl), (_, ((lit≤ tt, (_, refl, (_, (_, refl), (lit≤ tt, refl)))), lit≤ tt), (_, refl)))), refl))), (_, refl))))), refl)), (_, refl))), refl))), (_, (_, (_, refl, (_, (_, refl), refl)), (_, refl)), refl))), (_, refl))), (_, (_, refl), (_, (_, refl), (_, (_, (_, (_, refl, (_, (_, refl), refl)), (_, refl)), refl), (_, refl)))))), (_, (_, (_, refl, (_, refl, refl)), (_, (_, refl), (_, ((lit≤ tt, refl), lit≤ tt), (_, refl)))), refl)), (_, refl))), (_, (_, refl), (_, (_, refl), (_, (_, (_, refl), (_, refl, (_, refl))), refl))))), refl), (_, refl))))), refl)), (_, refl))))))), (_, (_, refl, (_, (_, refl), (_, (_, (_, refl), (_, (_, (_, refl, refl), refl), refl)), (_, (_, refl), (_, (_, refl), (_, (_, (_, refl, (_, ((lit≤ tt, (_, refl, (_, (_, refl), (lit≤ tt, refl)))), lit≤ tt), (_, (_, (_, refl), (_, (_, (_, (_, refl, (_, refl, refl)), (_, refl)), refl), (_, refl))), refl))), refl), (_, refl))))))), (_, (_, refl, (_, (_, refl), (_, refl, (_, refl, (_, (_, refl), (_, (_, (_, (_, refl, (_, (_, refl), ((lit≤ tt, (_, refl, (_, refl))), lit≤ tt))), (_, refl)), (_, (_, (_, refl, (_, (_, refl, refl), ((lit≤ tt, refl), lit≤ tt))), (_, refl)), (_, (_, (_, refl, (_, (_, refl), ((lit≤ tt, (_, refl, (_, refl))), lit≤ tt))), (_, refl)), (_, (_, (_, refl, (_, (_, refl, refl), ((lit≤ tt, refl), lit≤ tt))), (_, refl)), refl)))), (_, refl))))))), refl))))), (_, refl))))), refl), (_, refl, (_, (_, refl), (_, (_, refl), (_, refl)))))

pub returns-clause-derives : goal.returns-clause-derives
returns-clause-derives c = subst (λ (x : Tokens). DerivesModel at_once_model x []) (sym same) derives

pub returns-clause-clocked : goal.returns-clause-clocked
returns-clause-clocked c = record {
  thread = refl;
  edge = refl;
  later = refl;
  at = at_once_lines;
  form = refl;
  only = (five_edges ∷ [], [], refl, (five_edges ∷ [], [], refl, ([], five_edges ∷ [], refl, (refl, refl), (five_edges ∷ [], [], refl, inl (five_edges, record { at = on_line 3; form = refl; counts = refl; others = refl }, refl), ([], [], refl, (refl, refl), refl))), ([], [], refl, (refl, refl), refl)), refl);
}
