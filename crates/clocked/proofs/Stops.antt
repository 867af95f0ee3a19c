-- Each place can be reached again from the end of a text, and a token that may not stand where it stands ends all texts.
use Rattle.std.proofs.Common.{◌≡◌, ℕ, zero, suc, Bool, true, List, [], ◌∷◌, ◌++◌, Option, Some, None, ◌∙◌, refl, sym, ap, subst, append_assoc}
use Rattle.std.specs.Prelude.{option_map, codes}
use Rattle.std.proofs.lemmas.List.{append-nil}
use Rattle.model_lexer.specs.ModelTree.declared.vocabulary.Word.TheVariants as w
use Rattle.model_lexer.specs.ModelTree.declared.vocabulary.Symbol.TheVariants as s
use Rattle.model_lexer.specs.Tokens.{Token, Tokens, name, number, word, symbol}
use Rattle.clocked.specs.Words.{new_word_of, sign_of}
use Rattle.clocked.specs.Expanded.{Expands, IsFront, line_behind, StopsAt, EndsEarly}
use Rattle.clocked.specs.Turns as turns
use Rattle.clocked.specs.Turns.{Head, State, Turn, turn, ended, go_on, run}
use Rattle.clocked.proofs.Leads.{Leads}
use Rattle.clocked.proofs.Complete.{expands_run}
use Rattle.clocked.proofs.Sound.{run_expands}

-- tokens that lead from here to the end of a text
abbrev Completes : State → Type 0
Completes st = (more : Tokens) × (out : Tokens) × (run st more ≡ Some out)

completes_by : (st next : State) (t : Token) (out : Tokens) → turn st (sign_of t) t 1 ≡ Some (next, out) → Completes next → Completes st
completes_by st next t out e c = (
  (t, 1) ∷ c.0,
  out ++ c.1,
  ap (λ (x : Turn). go_on x (λ (y : State). run y c.0)) e ∙ ap (λ (x : Option Tokens). option_map (λ (y : Tokens). out ++ y) x) c.2,
)

completes_outside : Completes turns.outside
completes_outside = ([], [], refl)

completes_inside : (h : Head) (k at : ℕ) → Completes (turns.inside h k at)
completes_inside h zero at = completes_by (turns.inside h 0 at) turns.outside (symbol s.RightBrace) _ refl completes_outside
completes_inside h (suc k) at = completes_by (turns.inside h (suc k) at) (turns.inside h k 1) (symbol s.RightBrace) _ refl (completes_inside h k 1)

completes_resets : (h : Head) → Completes (turns.resets h)
completes_resets h = completes_by (turns.resets h) (turns.inside h 0 1) (symbol s.LeftBrace) _ refl (completes_inside h 0 1)

completes_edge : (thread : List ℕ) → Completes (turns.edge thread)
unfolding new_word_of
completes_edge thread = completes_by (turns.edge thread) (turns.resets (turns.head_of thread)) (name (codes "pos")) _ refl (completes_resets (turns.head_of thread))

completes_dotted : (thread : List ℕ) → Completes (turns.dotted thread)
completes_dotted thread = completes_by (turns.dotted thread) (turns.edge thread) (symbol s.Dot) _ refl (completes_edge thread)

completes_inner : (thread : List ℕ) (k : ℕ) → Completes (turns.inner thread k)
completes_inner thread zero = completes_by (turns.inner thread 0) (turns.dotted thread) (symbol s.RightParen) _ refl (completes_dotted thread)
completes_inner thread (suc k) = completes_by (turns.inner thread (suc k)) (turns.inner thread k) (symbol s.RightParen) _ refl (completes_inner thread k)

completes_place : (thread : List ℕ) → Completes (turns.place thread)
completes_place thread = completes_by (turns.place thread) (turns.edge thread) (symbol s.Dot) _ refl (completes_edge thread)

completes_channel : (thread : List ℕ) → Completes (turns.channel thread)
unfolding new_word_of
completes_channel thread = completes_by (turns.channel thread) (turns.place thread) (name (codes "clk")) _ refl (completes_place thread)

completes_named : Completes turns.named
unfolding new_word_of
completes_named = completes_by turns.named (turns.channel (codes "t")) (name (codes "t")) _ refl (completes_channel (codes "t"))

completes_level : (h : Head) (b : Bool) (x : List ℕ) → Completes (turns.level h b x)
completes_level h b x =
    completes_by (turns.level h b x) (turns.resets (turns.with_reset h b (record { signal = x; level = true }))) (word w.True) [] refl
    (completes_resets (turns.with_reset h b (record { signal = x; level = true })))

completes_signal : (h : Head) (b : Bool) → Completes (turns.signal h b)
unfolding new_word_of
completes_signal h b = completes_by (turns.signal h b) (turns.level h b (codes "r")) (name (codes "r")) [] refl (completes_level h b (codes "r"))

completes_line_end : Completes turns.line_end
completes_line_end = completes_by turns.line_end turns.outside (symbol s.Semicolon) _ refl completes_outside

completes_version : Completes turns.version
completes_version = completes_by turns.version turns.line_end (number 3) _ refl completes_line_end

completes : (st : State) → Completes st
unfolding new_word_of
completes turns.language = completes_by turns.language turns.version (name (codes "language")) _ refl completes_version
completes turns.version = completes_version
completes turns.line_end = completes_line_end
completes turns.outside = completes_outside
completes turns.named = completes_named
completes (turns.channel thread) = completes_channel thread
completes (turns.place thread) = completes_place thread
completes (turns.placed thread) = completes_by (turns.placed thread) (turns.dotted thread) (number 0) _ refl (completes_dotted thread)
completes (turns.inner thread k) = completes_inner thread k
completes (turns.dotted thread) = completes_dotted thread
completes (turns.edge thread) = completes_edge thread
completes (turns.resets h) = completes_resets h
completes (turns.signal h b) = completes_signal h b
completes (turns.level h b x) = completes_level h b x
completes (turns.inside h k at) = completes_inside h k at
completes (turns.ticked h k at) = completes_by (turns.ticked h k at) (turns.inside h k 1) (symbol s.Semicolon) _ refl (completes_inside h k 1)
completes (turns.counted h k) = completes_by (turns.counted h k) (turns.inside h k 1) (symbol s.Semicolon) _ refl (completes_inside h k 1)

pub front_of : (ts out : Tokens) (st : State) → Leads turns.language ts st out → IsFront ts
front_of ts out st h =
    let c = completes st in
    (c.0, out ++ c.1, run_expands (ts ++ c.0) (out ++ c.1) (h.leads c.0 ∙ ap (λ (x : Option Tokens). option_map (λ (y : Tokens). out ++ y) x) c.2))

-- nothing goes on from here
nothing_on : (ts more out last : Tokens) (st : State) → Leads turns.language ts st out → run st more ≡ None → Expands (ts ++ more) last → ⊥
nothing_on ts more out last st h e x =
    let no : None ≡ Some last = sym (h.leads more ∙ ap (λ (y : Option Tokens). option_map (λ (z : Tokens). out ++ z) y) e) ∙ expands_run (ts ++ more) last x in
    cc

pub stops_at : (ts front behind out : Tokens) (st : State) (t : Token) (l : ℕ) → Leads turns.language front st out → turn st (sign_of t) t l ≡ None → ts ≡ front ++ (t, l) ∷ behind → StopsAt ts l
stops_at ts front behind out st t l h e are =
    record {
      front = front;
      token = t;
      behind = behind;
      are = are;
      goes = front_of front out st h;
      stops = λ f.
          nothing_on front ((t, l) ∷ f.0) out f.1 st h (ap (λ (x : Turn). go_on x (λ (y : State). run y f.0)) e)
          (let same : ◌≡◌ {A = Tokens} ((front ++ (t, l) ∷ []) ++ f.0) (front ++ (t, l) ∷ f.0) = append_assoc front ((t, l) ∷ []) f.0 in subst (λ (y : Tokens). Expands y f.1) same f.2);
    }

pub ends_early : (ts out : Tokens) (st : State) (line : ℕ) → Leads turns.language ts st out → ended st ≡ None → line ≡ line_behind 1 ts → EndsEarly ts line
ends_early ts out st line h e last =
    record {
      goes = front_of ts out st h;
      none = λ x y. nothing_on ts [] out x st h e (subst (λ (z : Tokens). Expands z x) (sym (append-nil ts)) y);
      last = last;
    }

-- a refused token list expands to nothing
pub stops_all : (ts : Tokens) (line : ℕ) (out : Tokens) → StopsAt ts line → Expands ts out → ⊥
stops_all ts line out k x = k.stops (k.behind, out, subst (λ (y : Tokens). Expands y out) (k.are ∙ sym (append_assoc k.front ((k.token, line) ∷ []) k.behind)) x)
