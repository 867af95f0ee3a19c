use Rattle.std.proofs.Common.{◌≡◌, drop, refl, sym, subst, inl, [], ◌∷◌}
use Rattle.std.specs.Prelude.{codes}
use Rattle.std.proofs.Math.Dec.{lit≤}
use Rattle.model_lexer.specs.ModelTree.Vocabulary.{word_of}
use Rattle.model_lexer.specs.ModelTree.declared.vocabulary.Word.TheVariants as w
use Rattle.model_lexer.specs.ModelTree.declared.vocabulary.Symbol.TheVariants as s
use Rattle.model_lexer.specs.Tokens.{Tokens, name, number, quoted, word, symbol, symbol_of}
use Rattle.model_lexer.specs.Items.{DerivesModel}
use Rattle.worked_models.specs.Models.{at_an_edge_expanded}
use Rattle.worked_models.specs.ClockedTrees.{two_edges, one_edge, on_line, at_an_edge_model}
use Rattle.worked_models.proofs.forms.the_thread_with_a_reset_at_an_edge.Goals as goal

abbrev tokens : Tokens
tokens = (word w.Module, 1) ∷ (name (codes "M"), 1) ∷ (symbol s.LeftBrace, 1) ∷ (word w.Clock, 1) ∷ (name (codes "clk"), 1) ∷ (word w.Period, 1) ∷ (number 10, 1) ∷ (name (codes "ns"), 1) ∷ (word w.High, 1) ∷ (number 5, 1) ∷ (name (codes "ns"), 1) ∷ (symbol s.Semicolon, 1) ∷ (word w.Signal, 1) ∷ (word w.Bool, 1) ∷ (name (codes "r"), 1) ∷ (symbol s.Semicolon, 1) ∷ (word w.Thread, 1) ∷ (name (codes "t"), 1) ∷ (word w.Sensitive, 1) ∷ (name (codes "clk"), 1) ∷ (symbol s.Dot, 1) ∷ (name (codes "pos"), 1) ∷ (word w.DontInitialize, 1) ∷ (symbol s.LeftBrace, 1) ∷ (word w.Var, 1) ∷ (word w.Bool, 1) ∷ (name (codes "tick_again"), 1) ∷ (symbol s.Equal, 1) ∷ (word w.True, 1) ∷ (symbol s.Semicolon, 1) ∷ (word w.While, 1) ∷ (name (codes "tick_again"), 1) ∷ (symbol s.LeftBrace, 1) ∷ (word w.Try, 1) ∷ (symbol s.LeftBrace, 1) ∷ (word w.Print, 1) ∷ (quoted (codes "start"), 1) ∷ (symbol s.Semicolon, 1) ∷ (word w.If, 1) ∷ (word w.True, 1) ∷ (symbol s.LeftBrace, 1) ∷ (word w.Var, 1) ∷ (word w.Uint, 1) ∷ (symbol s.Less, 1) ∷ (number 32, 1) ∷ (symbol s.Greater, 1) ∷ (name (codes "tick_count"), 1) ∷ (symbol s.Equal, 1) ∷ (number 2, 1) ∷ (symbol s.Semicolon, 1) ∷ (word w.While, 1) ∷ (name (codes "tick_count"), 1) ∷ (symbol s.Greater, 1) ∷ (number 0, 1) ∷ (symbol s.LeftBrace, 1) ∷ (word w.Wait, 1) ∷ (symbol s.Semicolon, 1) ∷ (word w.If, 1) ∷ (name (codes "r"), 1) ∷ (symbol s.EqualEqual, 1) ∷ (word w.True, 1) ∷ (symbol s.LeftBrace, 1) ∷ (word w.Throw, 1) ∷ (name (codes "tick_reset"), 1) ∷ (symbol s.Semicolon, 1) ∷ (symbol s.RightBrace, 1) ∷ (name (codes "tick_count"), 1) ∷ (symbol s.Equal, 1) ∷ (name (codes "tick_count"), 1) ∷ (symbol s.Minus, 1) ∷ (number 1, 1) ∷ (symbol s.Semicolon, 1) ∷ (symbol s.RightBrace, 1) ∷ (symbol s.RightBrace, 1) ∷ (word w.Print, 1) ∷ (quoted (codes "two"), 1) ∷ (symbol s.Semicolon, 1) ∷ (word w.If, 1) ∷ (word w.True, 1) ∷ (symbol s.LeftBrace, 1) ∷ (word w.Var, 1) ∷ (word w.Uint, 1) ∷ (symbol s.Less, 1) ∷ (number 32, 1) ∷ (symbol s.Greater, 1) ∷ (name (codes "tick_count"), 1) ∷ (symbol s.Equal, 1) ∷ (number 1, 1) ∷ (symbol s.Semicolon, 1) ∷ (word w.While, 1) ∷ (name (codes "tick_count"), 1) ∷ (symbol s.Greater, 1) ∷ (number 0, 1) ∷ (symbol s.LeftBrace, 1) ∷ (word w.Wait, 1) ∷ (symbol s.Semicolon, 1) ∷ (word w.If, 1) ∷ (name (codes "r"), 1) ∷ (symbol s.EqualEqual, 1) ∷ (word w.True, 1) ∷ (symbol s.LeftBrace, 1) ∷ (word w.Throw, 1) ∷ (name (codes "tick_reset"), 1) ∷ (symbol s.Semicolon, 1) ∷ (symbol s.RightBrace, 1) ∷ (name (codes "tick_count"), 1) ∷ (symbol s.Equal, 1) ∷ (name (codes "tick_count"), 1) ∷ (symbol s.Minus, 1) ∷ (number 1, 1) ∷ (symbol s.Semicolon, 1) ∷ (symbol s.RightBrace, 1) ∷ (symbol s.RightBrace, 1) ∷ (word w.Print, 1) ∷ (quoted (codes "three"), 1) ∷ (symbol s.Semicolon, 1) ∷ (name (codes "tick_again"), 1) ∷ (symbol s.Equal, 1) ∷ (word w.False, 1) ∷ (symbol s.Semicolon, 1) ∷ (symbol s.RightBrace, 1) ∷ (word w.Catch, 1) ∷ (name (codes "tick_reset"), 1) ∷ (symbol s.LeftBrace, 1) ∷ (symbol s.RightBrace, 1) ∷ (symbol s.RightBrace, 1) ∷ (symbol s.RightBrace, 1) ∷ (word w.Thread, 1) ∷ (name (codes "k"), 1) ∷ (symbol s.LeftBrace, 1) ∷ (word w.Wait, 1) ∷ (word w.For, 1) ∷ (number 15, 1) ∷ (name (codes "ns"), 1) ∷ (symbol s.Semicolon, 1) ∷ (word w.Write, 1) ∷ (name (codes "r"), 1) ∷ (word w.True, 1) ∷ (symbol s.Semicolon, 1) ∷ (word w.Wait, 1) ∷ (word w.For, 1) ∷ (number 10, 1) ∷ (name (codes "ns"), 1) ∷ (symbol s.Semicolon, 1) ∷ (word w.Write, 1) ∷ (name (codes "r"), 1) ∷ (word w.False, 1) ∷ (symbol s.Semicolon, 1) ∷ (symbol s.RightBrace, 1) ∷ (symbol s.RightBrace, 1) ∷ (word w.Top, 1) ∷ (name (codes "M"), 1) ∷ (name (codes "m"), 1) ∷ (symbol s.Semicolon, 1) ∷ []

same : drop 3 at_an_edge_expanded ≡ tokens
unfolding word_of symbol_of
same = refl

derives : DerivesModel at_an_edge_model tokens []
derives = (_, (_, (_, refl, (_, (_, refl), (_, (_, refl), (_, (_, (_, refl, (_, (_, refl), (_, (_, refl), (_, (_, (_, refl), (_, refl)), (_, (_, refl), (_, (_, (_, refl), (_, refl)), (_, refl, (_, refl)))))))), (_, (_, refl, (_, refl, (_, refl, (_, (_, refl), (_, refl, (_, refl)))))), (_, (_, refl, (_, (_, refl), (_, (_, (_, refl), (_, (_, (_, refl, refl), (_, (_, refl), (_, refl))), refl)), (_, (_, refl), (_, (_, refl), (_, (_, (_, refl, (_, (_, (refl, refl)), (_, (_, refl), (_, (_, (_, refl), ((lit≤ tt, refl), lit≤ tt)), (_, refl))))), (_, (_, refl, (_, (refl, lit≤ tt), (_, (_, refl), (_, (_, (_, refl, (_, (_, (_, refl), (_, (_, (_, (_, refl, (_, (_, refl), refl)), (_, refl)), (_, (_, refl, (_, ((lit≤ tt, refl), lit≤ tt), (_, (_, (_, refl), (_, (_, (_, refl, (_, (_, (refl, (_, refl, (_, (_, refl), (_, (_, refl), (_, refl)))))), (_, (_, refl), (_, (_, (_, refl), ((lit≤ tt, refl), lit≤ tt)), (_, refl))))), (_, (_, refl, (_, ((lit≤ tt, (_, refl, (_, (_, refl), (lit≤ tt, refl)))), lit≤ tt), (_, (_, refl), (_, (_, (_, (_, refl, refl), (_, refl)), (_, (_, refl, (_, ((lit≤ tt, (_, refl, (_, (_, refl), (lit≤ tt, refl)))), lit≤ tt), (_, (_, (_, refl), (_, (_, (_, (_, refl, (_, refl)), (_, refl)), refl), (_, refl))), refl))), (_, (_, (_, refl, (_, refl, refl)), (_, (_, refl), (_, ((lit≤ tt, (_, refl, (_, (_, refl), (lit≤ tt, refl)))), lit≤ tt), (_, refl)))), refl))), (_, refl))))), refl)), (_, refl))), refl))), (_, (_, (_, refl, (_, (_, refl), refl)), (_, refl)), (_, (_, refl, (_, ((lit≤ tt, refl), lit≤ tt), (_, (_, (_, refl), (_, (_, (_, refl, (_, (_, (refl, (_, refl, (_, (_, refl), (_, (_, refl), (_, refl)))))), (_, (_, refl), (_, (_, (_, refl), ((lit≤ tt, refl), lit≤ tt)), (_, refl))))), (_, (_, refl, (_, ((lit≤ tt, (_, refl, (_, (_, refl), (lit≤ tt, refl)))), lit≤ tt), (_, (_, refl), (_, (_, (_, (_, refl, refl), (_, refl)), (_, (_, refl, (_, ((lit≤ tt, (_, refl, (_, (_, refl), (lit≤ tt, refl)))), lit≤ tt), (_, (_, (_, refl), (_, (_, (_, (_, refl, (_, refl)), (_, refl)), refl), (_, refl))), refl))), (_, (_, (_, refl, (_, refl, refl)), (_, (_, refl), (_, ((lit≤ tt, (_, refl, (_, (_, refl), (lit≤ tt, refl)))), lit≤ tt), (_, refl)))), refl))), (_, refl))))), refl)), (_, refl))), refl))), (_, (_, (_, refl, (_, (_, refl), refl)), (_, refl)), (_, (_, (_, refl, (_, refl, refl)), (_, (_, refl), (_, ((lit≤ tt, refl), lit≤ tt), (_, refl)))), refl)))))), (_, refl))), (_, (_, refl), (_, (_, refl), (_, (_, (_, refl), (_, refl, (_, refl))), refl))))), refl), (_, refl))))), refl)), (_, refl))))))), (_, (_, refl, (_, (_, refl), (_, refl, (_, refl, (_, (_, refl), (_, (_, (_, (_, refl, (_, (_, refl), ((lit≤ tt, (_, refl, (_, refl))), lit≤ tt))), (_, refl)), (_, (_, (_, refl, (_, (_, refl, refl), ((lit≤ tt, refl), lit≤ tt))), (_, refl)), (_, (_, (_, refl, (_, (_, refl), ((lit≤ tt, (_, refl, (_, refl))), lit≤ tt))), (_, refl)), (_, (_, (_, refl, (_, (_, refl, refl), ((lit≤ tt, refl), lit≤ tt))), (_, refl)), refl)))), (_, refl))))))), refl)))), (_, refl))))), refl), (_, refl, (_, (_, refl), (_, (_, refl), (_, refl)))))

pub returns-clause-derives : goal.returns-clause-derives
returns-clause-derives c = subst (λ (x : Tokens). DerivesModel at_an_edge_model x []) (sym same) derives

pub returns-clause-clocked : goal.returns-clause-clocked
returns-clause-clocked c = record {
  thread = refl;
  edge = refl;
  later = refl;
  at = on_line 1;
  form = refl;
  only = ([], two_edges ∷ one_edge ∷ [], refl, (refl, refl), (two_edges ∷ [], one_edge ∷ [], refl, inl (two_edges, record { at = on_line 1; form = refl; counts = refl; others = refl }, refl), ([], one_edge ∷ [], refl, (refl, refl), (one_edge ∷ [], [], refl, inl (one_edge, record { at = on_line 1; form = refl; counts = refl; others = refl }, refl), ([], [], refl, (refl, refl), refl)))));
}
