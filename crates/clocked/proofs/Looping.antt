-- One more token of a list, and the end of the list.
use Rattle.std.proofs.Common.{◌≡◌, ℕ, ◌+◌, ◌<◌, true, false, List, [], ◌∷◌, ◌++◌, length, get_or, take, drop, Option, Some, None, ◌∙◌, refl, sym, ap, subst, inl, inr, arith}
use Rattle.std.specs.Prelude.{is_some, Ok, Err}
use Rattle.std.proofs.lemmas.List.{map-append, append-nil, take_more}
use Rattle.std.proofs.lemmas.Grind.{common_steps}
use Rattle.model_lexer.specs.ModelTree.declared.faults.ParseStop.{ParseStop}
use Rattle.model_lexer.specs.ModelTree.declared.faults.ParseStop.TheVariants as stop
use Rattle.model_lexer.specs.Tokens as t
use Rattle.model_lexer.specs.Tokens.{Tokens}
use Rattle.model_lexer.specs.declared.token.Token.{Token}
use Rattle.model_lexer.specs.Views.{token_of, lexeme_of, lexemes}
use Rattle.model_lexer.specs.Laws.{with_lines}
use Rattle.clocked.specs.declared.expansion.Placed.{Placed}
use Rattle.clocked.specs.declared.states.State.{State}
use Rattle.clocked.specs.Words.{sign_of}
use Rattle.clocked.specs.Expanded.{Expands, line_behind, IsRefused}
use Rattle.clocked.specs.Turns as turns
use Rattle.clocked.specs.Turns.{Turn, turn, ended, run}
use Rattle.clocked.specs.Views.{tokens_in, expansion_in, state_in, Turned}
use Rattle.clocked.proofs.Leads.{Leads, leads_both, leads_one}
use Rattle.clocked.proofs.Complete.{expands_run}
use Rattle.clocked.proofs.Sound.{run_expands}
use Rattle.clocked.proofs.Stops.{stops_at, ends_early, stops_all}

-- ---- tokens one by one

abbrev pub one_in : Token → t.Token × ℕ
one_in x = (token_of x.kind, x.line)

tokens_both : (xs ys : List Token) → tokens_in (xs ++ ys) ≡ tokens_in xs ++ tokens_in ys
tokens_both xs ys = ap with_lines (map-append lexeme_of xs ys) ∙ map-append (λ x. (x.token, x.line)) (lexemes xs) (lexemes ys)

pub tokens_more : (xs : List Token) (i : ℕ) (x : Token) → i < length xs → tokens_in (take (i + 1) xs) ≡ tokens_in (take i xs) ++ one_in (get_or xs i x) ∷ []
tokens_more xs i x lt = ap tokens_in (take_more xs i x lt) ∙ tokens_both (take i xs) (get_or xs i x ∷ [])

pub tokens_split : (xs : List Token) (i : ℕ) (x : Token) → i < length xs → tokens_in xs ≡ tokens_in (take i xs) ++ one_in (get_or xs i x) ∷ tokens_in (drop (i + 1) xs)
tokens_split xs i x lt = ap tokens_in (split xs i x lt) ∙ tokens_both (take i xs) (get_or xs i x ∷ drop (i + 1) xs)
  where
    split : (ys : List Token) (k : ℕ) (y : Token) → k < length ys → ys ≡ take k ys ++ get_or ys k y ∷ drop (k + 1) ys
    split ys k y less = grind (arith, common_steps)

-- the same with the token itself
pub tokens_on : (xs : List Token) (i : ℕ) (x : Token) → i < length xs → x ≡ get_or xs i x → tokens_in (take (i + 1) xs) ≡ tokens_in (take i xs) ++ one_in x ∷ []
tokens_on xs i x lt e = tokens_more xs i x lt ∙ ap (λ (y : Token). tokens_in (take i xs) ++ one_in y ∷ []) (sym e)

pub tokens_at : (xs : List Token) (i : ℕ) (x : Token) → i < length xs → x ≡ get_or xs i x → tokens_in xs ≡ tokens_in (take i xs) ++ one_in x ∷ tokens_in (drop (i + 1) xs)
tokens_at xs i x lt e = tokens_split xs i x lt ∙ ap (λ (y : Token). tokens_in (take i xs) ++ one_in y ∷ tokens_in (drop (i + 1) xs)) (sym e)

line_last : (line l : ℕ) (ts : Tokens) (u : t.Token) → line_behind line (ts ++ (u, l) ∷ []) ≡ l
line_last line l [] u = refl
line_last line l (x ∷ ts) u = line_last x.1 l ts u

pub line_more : (xs : List Token) (i : ℕ) (x : Token) → i < length xs → (get_or xs i x).line ≡ line_behind 1 (tokens_in (take (i + 1) xs))
line_more xs i x lt = sym (ap (line_behind 1) (tokens_more xs i x lt) ∙ line_last 1 (get_or xs i x).line (tokens_in (take i xs)) (token_of (get_or xs i x).kind))

-- ---- one turn

turned_on_by : (o : Turn) (front : Tokens) (s : turns.State) (u : t.Token) (l : ℕ) (next : State) (old new : List Placed)
    → turn s (sign_of u) u l ≡ o → Turned o (Ok next) old new l → Leads turns.language front s (expansion_in old) → Leads turns.language (front ++ (u, l) ∷ []) (state_in next) (expansion_in new)
turned_on_by None front s u l next old new e g h = cc
turned_on_by (Some x) front s u l next old new e (same, gives) h =
    let k : Leads turns.language (front ++ (u, l) ∷ []) x.0 (expansion_in old ++ x.1) = leads_both turns.language s x.0 front ((u, l) ∷ []) (expansion_in old) x.1 h (leads_one s x.0 u l x.1 e) in
    subst (λ (y : turns.State). Leads turns.language (front ++ (u, l) ∷ []) y (expansion_in new)) (sym same)
    (subst (λ (y : Tokens). Leads turns.language (front ++ (u, l) ∷ []) x.0 y) (sym gives) k)

pub turned_on : (front : Tokens) (s : turns.State) (u : t.Token) (l : ℕ) (next : State) (old new : List Placed)
    → Turned (turn s (sign_of u) u l) (Ok next) old new l → Leads turns.language front s (expansion_in old) → Leads turns.language (front ++ (u, l) ∷ []) (state_in next) (expansion_in new)
turned_on front s u l next old new g h = turned_on_by (turn s (sign_of u) u l) front s u l next old new refl g h

refused_by : (o : Turn) (ts front behind : Tokens) (s : turns.State) (u : t.Token) (l : ℕ) (e : ParseStop) (old new : List Placed)
    → turn s (sign_of u) u l ≡ o → Turned o (Err e) old new l → Leads turns.language front s (expansion_in old) → ts ≡ front ++ (u, l) ∷ behind → IsRefused ts e
refused_by (Some x) ts front behind s u l e old new same g h are = subst (IsRefused ts) (sym g) tt
refused_by None ts front behind s u l e old new same g h are =
    let f : e ≡ stop.Syntax l = cc in
    subst (IsRefused ts) (sym f) (inl (stops_at ts front behind (expansion_in old) s u l h same are))

pub refused_at : (ts front behind : Tokens) (s : turns.State) (u : t.Token) (l : ℕ) (e : ParseStop) (old new : List Placed)
    → Turned (turn s (sign_of u) u l) (Err e) old new l → Leads turns.language front s (expansion_in old) → ts ≡ front ++ (u, l) ∷ behind → IsRefused ts e
refused_at ts front behind s u l e old new g h are = refused_by (turn s (sign_of u) u l) ts front behind s u l e old new refl g h are

-- ---- the end

pub only_refused : (ts out : Tokens) (e : ParseStop) → IsRefused ts e → Expands ts out → e ≡ stop.NoMemory
only_refused ts out stop.NoMemory h x = refl
only_refused ts out (stop.Syntax line) (inl k) x = absurd (stops_all ts line out k x)
only_refused ts out (stop.Syntax line) (inr k) x = absurd (k.none out x)

pub only_one : (ts one other : Tokens) → Expands ts one → Expands ts other → one ≡ other
only_one ts one other h k = let e : Some one ≡ Some other = sym (expands_run ts one h) ∙ expands_run ts other k in cc

led_outside : (ts out : Tokens) → Leads turns.language ts turns.outside out → Expands ts out
led_outside ts out h = run_expands ts out (ap (λ (x : Tokens). run turns.language x) (sym (append-nil ts)) ∙ h.leads [] ∙ ap Some (append-nil out))

ended_outside : (s : turns.State) → is_some (ended s) ≡ true → s ≡ turns.outside
ended_outside turns.outside e = refl
ended_outside turns.language e = cc
ended_outside turns.version e = cc
ended_outside turns.line_end e = cc
ended_outside turns.named e = cc
ended_outside (turns.channel thread) e = cc
ended_outside (turns.place thread) e = cc
ended_outside (turns.placed thread) e = cc
ended_outside (turns.inner thread k) e = cc
ended_outside (turns.dotted thread) e = cc
ended_outside (turns.edge thread) e = cc
ended_outside (turns.resets h) e = cc
ended_outside (turns.signal h b) e = cc
ended_outside (turns.level h b x) e = cc
ended_outside (turns.inside h k at) e = cc
ended_outside (turns.ticked h k at) e = cc
ended_outside (turns.counted h k) e = cc

ended_not : (o : Option Tokens) → is_some o ≡ false → o ≡ None
ended_not None e = refl
ended_not (Some x) e = cc

pub led_expands : (ts out : Tokens) (s : turns.State) → is_some (ended s) ≡ true → Leads turns.language ts s out → Expands ts out
led_expands ts out s e h = led_outside ts out (subst (λ (x : turns.State). Leads turns.language ts x out) (ended_outside s e) h)

pub led_nowhere : (ts out : Tokens) (s : turns.State) (line : ℕ) → is_some (ended s) ≡ false → Leads turns.language ts s out → line ≡ line_behind 1 ts → IsRefused ts (stop.Syntax line)
led_nowhere ts out s line e h last = inr (ends_early ts out s line h (ended_not (ended s) e) last)
