use Rattle.std.proofs.Common.{◌≡◌, drop, refl, sym, subst, inl, [], ◌∷◌}
use Rattle.std.specs.Prelude.{codes}
use Rattle.std.proofs.Math.Dec.{lit≤}
use Rattle.model_lexer.specs.ModelTree.Vocabulary.{word_of}
use Rattle.model_lexer.specs.ModelTree.declared.vocabulary.Word.TheVariants as w
use Rattle.model_lexer.specs.ModelTree.declared.vocabulary.Symbol.TheVariants as s
use Rattle.model_lexer.specs.Tokens.{Tokens, name, number, quoted, word, symbol, symbol_of}
use Rattle.model_lexer.specs.Items.{DerivesModel}
use Rattle.worked_models.specs.Models.{without_expanded}
use Rattle.worked_models.specs.ClockedTrees.{three_alone, one_alone, on_line, without_model}
use Rattle.worked_models.proofs.forms.the_thread_without_resets.Goals as goal

abbrev tokens : Tokens
tokens = (word w.Module, 1) ∷ (name (codes "M"), 1) ∷ (symbol s.LeftBrace, 1) ∷ (word w.Clock, 1) ∷ (name (codes "clk"), 1) ∷ (word w.Period, 1) ∷ (number 10, 1) ∷ (name (codes "ns"), 1) ∷ (word w.High, 1) ∷ (number 5, 1) ∷ (name (codes "ns"), 1) ∷ (symbol s.Semicolon, 1) ∷ (word w.Func, 1) ∷ (name (codes "f"), 1) ∷ (symbol s.LeftParen, 1) ∷ (symbol s.RightParen, 1) ∷ (symbol s.LeftBrace, 1) ∷ (word w.Wait, 1) ∷ (word w.For, 1) ∷ (number 1, 1) ∷ (name (codes "ns"), 1) ∷ (symbol s.Semicolon, 1) ∷ (symbol s.RightBrace, 1) ∷ (word w.Thread, 2) ∷ (name (codes "t"), 2) ∷ (word w.Sensitive, 2) ∷ (name (codes "clk"), 2) ∷ (symbol s.Dot, 2) ∷ (name (codes "neg"), 2) ∷ (word w.DontInitialize, 2) ∷ (symbol s.LeftBrace, 2) ∷ (word w.Var, 2) ∷ (word w.Bool, 2) ∷ (name (codes "tick_again"), 2) ∷ (symbol s.Equal, 2) ∷ (word w.True, 2) ∷ (symbol s.Semicolon, 2) ∷ (word w.While, 2) ∷ (name (codes "tick_again"), 2) ∷ (symbol s.LeftBrace, 2) ∷ (word w.Try, 2) ∷ (symbol s.LeftBrace, 2) ∷ (word w.Print, 2) ∷ (quoted (codes "a"), 2) ∷ (symbol s.Semicolon, 2) ∷ (word w.If, 2) ∷ (word w.True, 2) ∷ (symbol s.LeftBrace, 2) ∷ (word w.Var, 2) ∷ (word w.Uint, 2) ∷ (symbol s.Less, 2) ∷ (number 32, 2) ∷ (symbol s.Greater, 2) ∷ (name (codes "tick_count"), 2) ∷ (symbol s.Equal, 2) ∷ (number 3, 2) ∷ (symbol s.Semicolon, 2) ∷ (word w.While, 2) ∷ (name (codes "tick_count"), 2) ∷ (symbol s.Greater, 2) ∷ (number 0, 2) ∷ (symbol s.LeftBrace, 2) ∷ (word w.Wait, 2) ∷ (symbol s.Semicolon, 2) ∷ (name (codes "tick_count"), 2) ∷ (symbol s.Equal, 2) ∷ (name (codes "tick_count"), 2) ∷ (symbol s.Minus, 2) ∷ (number 1, 2) ∷ (symbol s.Semicolon, 2) ∷ (symbol s.RightBrace, 2) ∷ (symbol s.RightBrace, 2) ∷ (word w.Call, 2) ∷ (name (codes "f"), 2) ∷ (symbol s.LeftParen, 2) ∷ (symbol s.RightParen, 2) ∷ (symbol s.Semicolon, 2) ∷ (word w.While, 2) ∷ (word w.True, 2) ∷ (symbol s.LeftBrace, 2) ∷ (word w.If, 2) ∷ (word w.True, 2) ∷ (symbol s.LeftBrace, 2) ∷ (word w.Var, 2) ∷ (word w.Uint, 2) ∷ (symbol s.Less, 2) ∷ (number 32, 2) ∷ (symbol s.Greater, 2) ∷ (name (codes "tick_count"), 2) ∷ (symbol s.Equal, 2) ∷ (number 1, 2) ∷ (symbol s.Semicolon, 2) ∷ (word w.While, 2) ∷ (name (codes "tick_count"), 2) ∷ (symbol s.Greater, 2) ∷ (number 0, 2) ∷ (symbol s.LeftBrace, 2) ∷ (word w.Wait, 2) ∷ (symbol s.Semicolon, 2) ∷ (name (codes "tick_count"), 2) ∷ (symbol s.Equal, 2) ∷ (name (codes "tick_count"), 2) ∷ (symbol s.Minus, 2) ∷ (number 1, 2) ∷ (symbol s.Semicolon, 2) ∷ (symbol s.RightBrace, 2) ∷ (symbol s.RightBrace, 2) ∷ (word w.Print, 2) ∷ (quoted (codes "b"), 2) ∷ (symbol s.Semicolon, 2) ∷ (symbol s.RightBrace, 2) ∷ (name (codes "tick_again"), 2) ∷ (symbol s.Equal, 2) ∷ (word w.False, 2) ∷ (symbol s.Semicolon, 2) ∷ (symbol s.RightBrace, 2) ∷ (word w.Catch, 2) ∷ (name (codes "tick_reset"), 2) ∷ (symbol s.LeftBrace, 2) ∷ (symbol s.RightBrace, 2) ∷ (symbol s.RightBrace, 2) ∷ (symbol s.RightBrace, 2) ∷ (symbol s.RightBrace, 3) ∷ (word w.Top, 3) ∷ (name (codes "M"), 3) ∷ (name (codes "m"), 3) ∷ (symbol s.Semicolon, 3) ∷ []

same : drop 3 without_expanded ≡ tokens
unfolding word_of symbol_of
same = refl

derives : DerivesModel without_model tokens []
derives = (_, (_, (_, refl, (_, (_, refl), (_, (_, refl), (_, (_, (_, refl, (_, (_, refl), (_, (_, refl), (_, (_, (_, refl), (_, refl)), (_, (_, refl), (_, (_, (_, refl), (_, refl)), (_, refl, (_, refl)))))))), (_, (_, refl, (_, (_, refl), (_, (_, (_, refl), (_, refl)), (_, refl, (_, (_, refl), (_, (_, (_, (_, refl, (_, (_, refl), ((lit≤ tt, (_, refl, (_, refl))), lit≤ tt))), (_, refl)), refl), (_, refl))))))), (_, (_, refl, (_, (_, refl), (_, (_, (_, refl), (_, (_, (_, refl, refl), (_, (_, refl), (_, refl))), refl)), (_, (_, refl), (_, (_, refl), (_, (_, (_, refl, (_, (_, (refl, refl)), (_, (_, refl), (_, (_, (_, refl), ((lit≤ tt, refl), lit≤ tt)), (_, refl))))), (_, (_, refl, (_, (refl, lit≤ tt), (_, (_, refl), (_, (_, (_, refl, (_, (_, (_, refl), (_, (_, (_, (_, refl, (_, (_, refl), refl)), (_, refl)), (_, (_, refl, (_, ((lit≤ tt, refl), lit≤ tt), (_, (_, (_, refl), (_, (_, (_, refl, (_, (_, (refl, (_, refl, (_, (_, refl), (_, (_, refl), (_, refl)))))), (_, (_, refl), (_, (_, (_, refl), ((lit≤ tt, refl), lit≤ tt)), (_, refl))))), (_, (_, refl, (_, ((lit≤ tt, (_, refl, (_, (_, refl), (lit≤ tt, refl)))), lit≤ tt), (_, (_, refl), (_, (_, (_, (_, refl, refl), (_, refl)), (_, (_, (_, refl, (_, refl, refl)), (_, (_, refl), (_, ((lit≤ tt, (_, refl, (_, (_, refl), (lit≤ tt, refl)))), lit≤ tt), (_, refl)))), refl)), (_, refl))))), refl)), (_, refl))), refl))), (_, (_, (refl, refl), (_, (_, refl, (_, (_, refl), (_, (_, refl), (_, refl)))), (_, refl))), (_, (_, refl, (_, ((lit≤ tt, refl), lit≤ tt), (_, (_, refl), (_, (_, (_, refl, (_, ((lit≤ tt, refl), lit≤ tt), (_, (_, (_, refl), (_, (_, (_, refl, (_, (_, (refl, (_, refl, (_, (_, refl), (_, (_, refl), (_, refl)))))), (_, (_, refl), (_, (_, (_, refl), ((lit≤ tt, refl), lit≤ tt)), (_, refl))))), (_, (_, refl, (_, ((lit≤ tt, (_, refl, (_, (_, refl), (lit≤ tt, refl)))), lit≤ tt), (_, (_, refl), (_, (_, (_, (_, refl, refl), (_, refl)), (_, (_, (_, refl, (_, refl, refl)), (_, (_, refl), (_, ((lit≤ tt, (_, refl, (_, (_, refl), (lit≤ tt, refl)))), lit≤ tt), (_, refl)))), refl)), (_, refl))))), refl)), (_, refl))), refl))), (_, (_, (_, refl, (_, (_, refl), refl)), (_, refl)), refl)), (_, refl))))), (_, (_, (_, refl, (_, refl, refl)), (_, (_, refl), (_, ((lit≤ tt, refl), lit≤ tt), (_, refl)))), refl))))), (_, refl))), (_, (_, refl), (_, (_, refl), (_, (_, (_, refl), (_, refl, (_, refl))), refl))))), refl), (_, refl))))), refl)), (_, refl))))))), refl))), (_, refl))))), refl), (_, refl, (_, (_, refl), (_, (_, refl), (_, refl)))))

pub returns-clause-derives : goal.returns-clause-derives
returns-clause-derives c = subst (λ (x : Tokens). DerivesModel without_model x []) (sym same) derives

pub returns-clause-clocked : goal.returns-clause-clocked
returns-clause-clocked c = record {
  thread = refl;
  edge = refl;
  later = refl;
  at = on_line 2;
  form = refl;
  only = ([], three_alone ∷ one_alone ∷ [], refl, (refl, refl), (three_alone ∷ [], one_alone ∷ [], refl, inl (three_alone, record { at = on_line 2; form = refl; counts = refl; others = refl }, refl), ([], one_alone ∷ [], refl, (refl, refl), (one_alone ∷ [], [], refl, (refl, (one_alone ∷ [], [], refl, inl (one_alone, record { at = on_line 2; form = refl; counts = refl; others = refl }, refl), ([], [], refl, (refl, refl), refl))), refl))));
}
