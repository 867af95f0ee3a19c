-- Tokens that go through all turns are those of parts, and what is written is their expansion.
use Rattle.std.proofs.Common.{◌≡◌, ℕ, zero, suc, Bool, true, false, List, [], ◌∷◌, ◌++◌, Option, Some, None, ◌∙◌, refl, sym, ap, subst, append_assoc}
use Rattle.std.specs.Prelude.{option_map, ◌&&◌, ◌==◌, not, is_some, codes}
use Rattle.std.specs.Str.{bytes_eq}
use Rattle.std.proofs.lemmas.Bool.{eqb-true}
use Rattle.std.proofs.lemmas.Slice.Eq.{bytes_eq-Decides}
use Rattle.model_lexer.specs.ModelTree.declared.vocabulary.Word.{Word}
use Rattle.model_lexer.specs.ModelTree.declared.vocabulary.Word.TheVariants as w
use Rattle.model_lexer.specs.ModelTree.declared.vocabulary.Symbol.{Symbol}
use Rattle.model_lexer.specs.ModelTree.declared.vocabulary.Symbol.TheVariants as s
use Rattle.model_lexer.specs.Tokens.{Token, Tokens, name, number, logic, quoted, word, symbol}
use Rattle.model_lexer.proofs.Symbols.{find_passes}
use Rattle.clocked.specs.declared.words.NewWord.{NewWord}
use Rattle.clocked.specs.declared.words.NewWord.TheVariants as n
use Rattle.clocked.specs.declared.words.TheConstants.{NEW_WORDS}
use Rattle.clocked.specs.Words.{Sign, new, old_name, a_number, truth_value, left_brace, right_brace, left_paren, right_paren, dot, at_sign, semicolon, other, sign_of_name, sign_of_word, sign_of_symbol, sign_of, new_word_text, new_word_of, new_word, IsOldName, is_new_sign, is_new}
use Rattle.clocked.specs.Parts.{Reset, WrittenReset, Place, first, numbered, computed, Piece, plain, tick, Clocked, Part, kept, clocked, truth, written_place, written_reset, written_piece, written_body, written_part, written_parts, Has, IfWritten, one_less, parens_behind, braces_behind, AreClosed, IsPlace, is_count, IsBody, is_edge, fits_reset, AreParts}
use Rattle.clocked.specs.Expanded.{put, tick_before, tick_behind, expanded_piece, expanded_body, last_line, reset_of, body_before, body_behind, reset_method, expanded_part, expanded_parts, Expands}
use Rattle.clocked.specs.Turns as turns
use Rattle.clocked.specs.Turns.{Head, State, Turn, keeps, keeps_at, goes_if, head_of, with_reset, resets_in, may_be_asynchronous, may_be_synchronous, turn_language, turn_version, turn_line_end, turn_outside, turn_named, turn_channel, turn_place, turn_placed, turn_inner, turn_dotted, turn_edge, turn_resets, turn_signal, turn_level, turn_closed, turn_inside, turn_ticked, turn_counted, turn, ended, go_on, run}

-- ---- the token of a sign

abbrev Means : Sign → Token → Type 0
Means (new u) t = t ≡ new_word u
Means (old_name x) t = (t ≡ name x) × IsOldName x
Means (a_number v) t = t ≡ number v
Means (truth_value b) t = t ≡ truth b
Means left_brace t = t ≡ symbol s.LeftBrace
Means right_brace t = t ≡ symbol s.RightBrace
Means left_paren t = t ≡ symbol s.LeftParen
Means right_paren t = t ≡ symbol s.RightParen
Means dot t = t ≡ symbol s.Dot
Means at_sign t = t ≡ symbol s.At
Means semicolon t = t ≡ symbol s.Semicolon
Means other t = Unit {0}

spells : (x : List ℕ) (u : NewWord) → new_word_of x ≡ Some u → new_word_text u ≡ x
unfolding new_word_of
spells x u e = (bytes_eq-Decides (new_word_text u) x).0 (find_passes (λ (v : NewWord). bytes_eq (new_word_text v) x) NEW_WORDS u e)

means_name : (x : List ℕ) (o : Option NewWord) → new_word_of x ≡ o → Means (sign_of_name o x) (name x)
means_name x None e = (refl, e)
means_name x (Some u) e = ap name (sym (spells x u e))

means_word : (u : Word) → Means (sign_of_word u) (word u)
means_word w.True = refl
means_word w.False = refl
means_word u = tt

means_symbol : (u : Symbol) → Means (sign_of_symbol u) (symbol u)
means_symbol s.LeftBrace = refl
means_symbol s.RightBrace = refl
means_symbol s.LeftParen = refl
means_symbol s.RightParen = refl
means_symbol s.Dot = refl
means_symbol s.At = refl
means_symbol s.Semicolon = refl
means_symbol u = tt

means_own : (t : Token) → Means (sign_of t) t
means_own (name x) = means_name x (new_word_of x) refl
means_own (number v) = refl
means_own (logic digits) = tt
means_own (quoted x) = tt
means_own (word u) = means_word u
means_own (symbol u) = means_symbol u

means : (t : Token) (sign : Sign) → sign_of t ≡ sign → Means sign t
means t sign e = subst (λ (x : Sign). Means x t) e (means_own t)

-- ---- what is left, and what is written of it

record RestOutside (ts out : Tokens) : Type 0 where
  parts : List Part
  are : AreParts parts
  takes : ts ≡ written_parts parts
  gives : out ≡ expanded_parts parts

record RestInside (h : Head) (k at : ℕ) (ts out : Tokens) : Type 0 where
  body : List Piece
  is : IsBody k body
  to : ℕ
  parts : List Part
  are : AreParts parts
  takes : ts ≡ written_body body ++ (symbol s.RightBrace, to) ∷ written_parts parts
  gives : out ≡ expanded_body (resets_in h) body ++ (put (last_line at body) body_behind ++ (symbol s.RightBrace, to) ∷ (put to (reset_method h.thread h.asynchronous) ++ expanded_parts parts))

record RestCounted (h : Head) (k : ℕ) (ts out : Tokens) : Type 0 where
  end : ℕ
  more : Tokens
  after : Tokens
  takes : ts ≡ (symbol s.Semicolon, end) ∷ more
  gives : out ≡ (symbol s.Semicolon, end) ∷ (put end (tick_behind (resets_in h)) ++ after)
  rest : RestInside h k end more after

record RestTicked (h : Head) (k l : ℕ) (ts out : Tokens) : Type 0 where
  count : Option (ℕ × ℕ)
  is : IfWritten count (λ x. is_count x.0 ≡ true)
  end : ℕ
  more : Tokens
  after : Tokens
  takes : ◌≡◌ {A = Tokens} ((new_word n.Tick, l) ∷ ts) (written_piece (tick l count end) ++ more)
  gives : out ≡ expanded_piece (resets_in h) (tick l count end) ++ after
  rest : RestInside h k end more after

abbrev later : Option WrittenReset → Option Reset → Option Reset
later None r = r
later (Some x) r = Some x.reset

abbrev with_both : Head → Option WrittenReset → Option WrittenReset → Head
with_both h a b = record { thread = h.thread; asynchronous = later a h.asynchronous; synchronous = later b h.synchronous }

record RestResetsWith (h : Head) (a b : Option WrittenReset) (ts out : Tokens) : Type 0 where
  old_a : IfWritten a (λ x. IsOldName x.reset.signal)
  may_a : IfWritten a (λ x. may_be_asynchronous h ≡ true)
  old_b : IfWritten b (λ x. IsOldName x.reset.signal)
  may_b : IfWritten b (λ x. may_be_synchronous h ≡ true)
  from : ℕ
  more : Tokens
  after : Tokens
  takes : ts ≡ written_reset n.AsyncReset a ++ (written_reset n.SyncReset b ++ (symbol s.LeftBrace, from) ∷ more)
  gives : out ≡ (symbol s.LeftBrace, from) ∷ (put from body_before ++ after)
  rest : RestInside (with_both h a b) 0 from more after

abbrev RestResets : Head → Tokens → Tokens → Type 0
RestResets h ts out = (a : Option WrittenReset) × (b : Option WrittenReset) × RestResetsWith h a b ts out

record RestLevel (h : Head) (at_once : Bool) (x : List ℕ) (ts out : Tokens) : Type 0 where
  level : Bool
  line : ℕ
  more : Tokens
  takes : ts ≡ (truth level, line) ∷ more
  rest : RestResets (with_reset h at_once (record { signal = x; level = level })) more out

record RestSignal (h : Head) (at_once : Bool) (ts out : Tokens) : Type 0 where
  signal : List ℕ
  old : IsOldName signal
  line : ℕ
  more : Tokens
  takes : ts ≡ (name signal, line) ∷ more
  rest : RestLevel h at_once signal more out

record RestEdge (thread : List ℕ) (ts out : Tokens) : Type 0 where
  edge : List ℕ
  is : is_edge edge ≡ true
  line : ℕ
  more : Tokens
  after : Tokens
  takes : ts ≡ (name edge, line) ∷ more
  gives : out ≡ (name edge, line) ∷ (word w.DontInitialize, line) ∷ after
  rest : RestResets (head_of thread) more after

record RestDotted (thread : List ℕ) (ts out : Tokens) : Type 0 where
  line : ℕ
  more : Tokens
  after : Tokens
  takes : ts ≡ (symbol s.Dot, line) ∷ more
  gives : out ≡ (symbol s.Dot, line) ∷ after
  rest : RestEdge thread more after

record RestInner (thread : List ℕ) (k : ℕ) (ts out : Tokens) : Type 0 where
  inner : Tokens
  is : AreClosed k inner
  to : ℕ
  more : Tokens
  after : Tokens
  takes : ts ≡ inner ++ (symbol s.RightParen, to) ∷ more
  gives : out ≡ inner ++ (symbol s.RightParen, to) ∷ after
  rest : RestDotted thread more after

record RestPlaced (thread : List ℕ) (ts out : Tokens) : Type 0 where
  place : ℕ → Place
  is : (at : ℕ) → IsPlace (place at)
  more : Tokens
  after : Tokens
  takes : (at : ℕ) → ◌≡◌ {A = Tokens} ((symbol s.At, at) ∷ ts) (written_place (place at) ++ more)
  gives : (at : ℕ) → ◌≡◌ {A = Tokens} ((symbol s.At, at) ∷ out) (written_place (place at) ++ after)
  rest : RestDotted thread more after

record RestPlace (thread : List ℕ) (ts out : Tokens) : Type 0 where
  place : Place
  is : IsPlace place
  more : Tokens
  after : Tokens
  takes : ts ≡ written_place place ++ more
  gives : out ≡ written_place place ++ after
  rest : RestDotted thread more after

record RestChannel (thread : List ℕ) (ts out : Tokens) : Type 0 where
  channel : List ℕ
  old : IsOldName channel
  line : ℕ
  more : Tokens
  after : Tokens
  takes : ts ≡ (name channel, line) ∷ more
  gives : out ≡ (name channel, line) ∷ after
  rest : RestPlace thread more after

record RestNamed (ts out : Tokens) : Type 0 where
  thread : List ℕ
  old : IsOldName thread
  line : ℕ
  more : Tokens
  after : Tokens
  takes : ts ≡ (name thread, line) ∷ more
  gives : out ≡ (name thread, line) ∷ (word w.Sensitive, line) ∷ after
  rest : RestChannel thread more after

record RestLineEnd (ts out : Tokens) : Type 0 where
  line : ℕ
  more : Tokens
  after : Tokens
  takes : ts ≡ (symbol s.Semicolon, line) ∷ more
  gives : out ≡ (symbol s.Semicolon, line) ∷ after
  rest : RestOutside more after

record RestVersion (ts out : Tokens) : Type 0 where
  line : ℕ
  more : Tokens
  after : Tokens
  takes : ts ≡ (number 3, line) ∷ more
  gives : out ≡ (number 2, line) ∷ after
  rest : RestLineEnd more after

abbrev Rest : State → Tokens → Tokens → Type 0
Rest turns.language ts out = Expands ts out
Rest turns.version ts out = RestVersion ts out
Rest turns.line_end ts out = RestLineEnd ts out
Rest turns.outside ts out = RestOutside ts out
Rest turns.named ts out = RestNamed ts out
Rest (turns.channel thread) ts out = RestChannel thread ts out
Rest (turns.place thread) ts out = RestPlace thread ts out
Rest (turns.placed thread) ts out = RestPlaced thread ts out
Rest (turns.inner thread k) ts out = RestInner thread k ts out
Rest (turns.dotted thread) ts out = RestDotted thread ts out
Rest (turns.edge thread) ts out = RestEdge thread ts out
Rest (turns.resets h) ts out = RestResets h ts out
Rest (turns.signal h b) ts out = RestSignal h b ts out
Rest (turns.level h b x) ts out = RestLevel h b x ts out
Rest (turns.inside h k at) ts out = RestInside h k at ts out
Rest (turns.ticked h k at) ts out = RestTicked h k at ts out
Rest (turns.counted h k) ts out = RestCounted h k ts out

-- ---- one turn back

abbrev AfterTurn : Turn → Tokens → Tokens → Type 0
AfterTurn None ts out = ⊥
AfterTurn (Some x) ts out = (after : Tokens) × Rest x.0 ts after × (out ≡ x.1 ++ after)

went_if : (b : Bool) (next : State) (p ts out : Tokens) → AfterTurn (goes_if b next p) ts out → (b ≡ true) × AfterTurn (Some (next, p)) ts out
went_if true next p ts out h = (refl, h)
went_if false next p ts out h = absurd h

went_at : (f : ℕ → State) (o : Option ℕ) (t : Token) (l : ℕ) (ts out : Tokens) → AfterTurn (keeps_at f o t l) ts out → (m : ℕ) × (o ≡ Some m) × AfterTurn (keeps (f m) t l) ts out
went_at f None t l ts out h = absurd h
went_at f (Some m) t l ts out h = (m, refl, h)

-- the token on its line, in front of others
same_front : (t u : Token) (l : ℕ) (ts : Tokens) → t ≡ u → ◌≡◌ {A = Tokens} ((t, l) ∷ ts) ((u, l) ∷ ts)
same_front t u l ts e = ap (λ (x : Token). (x, l) ∷ ts) e

back_counted : (h : Head) (k : ℕ) (t : Token) (l : ℕ) (ts out : Tokens) (sign : Sign) → sign_of t ≡ sign → AfterTurn (turn_counted h k sign t l) ts out → RestCounted h k ((t, l) ∷ ts) out
back_counted h k t l ts out semicolon e (after, r, g) =
    let m : t ≡ symbol s.Semicolon = means t semicolon e in
    record { end = l; more = ts; after = after; takes = same_front t (symbol s.Semicolon) l ts m; gives = g ∙ same_front t (symbol s.Semicolon) l _ m; rest = r }
back_counted h k t l ts out sign e g = absurd g

back_ticked : (h : Head) (k at : ℕ) (t : Token) (l : ℕ) (ts out : Tokens) (sign : Sign) → sign_of t ≡ sign → AfterTurn (turn_ticked h k at sign t l) ts out → RestTicked h k at ((t, l) ∷ ts) out
back_ticked h k at t l ts out (a_number v) e g =
    let m : t ≡ number v = means t (a_number v) e in
    let c = went_if (is_count v) (turns.counted h k) (put at tick_before ++ (t, l) ∷ []) ts out g in
    let r : RestCounted h k ts c.1.0 = c.1.1 in
    record {
      count = Some (v, l);
      is = c.0;
      end = r.end;
      more = r.more;
      after = r.after;
      takes = ap (λ (x : Tokens). (new_word n.Tick, at) ∷ x) (same_front t (number v) l ts m ∙ ap (λ (x : Tokens). (number v, l) ∷ x) r.takes);
      gives = c.1.2 ∙ ap (λ (x : Tokens). put at tick_before ++ x) (same_front t (number v) l c.1.0 m ∙ ap (λ (x : Tokens). (number v, l) ∷ x) r.gives);
      rest = r.rest;
    }
back_ticked h k at t l ts out semicolon e (after, r, g) =
    let m : t ≡ symbol s.Semicolon = means t semicolon e in
    record {
      count = None;
      is = tt;
      end = l;
      more = ts;
      after = after;
      takes = ap (λ (x : Tokens). (new_word n.Tick, at) ∷ x) (same_front t (symbol s.Semicolon) l ts m);
      gives = g ∙ ap (λ (x : Tokens). put at (tick_before ++ number 1 ∷ []) ++ x) (same_front t (symbol s.Semicolon) l _ m);
      rest = r;
    }
back_ticked h k at t l ts out sign e g = absurd g

-- a token of a block that is kept
kept_inside : (h : Head) (k m at : ℕ) (t : Token) (l : ℕ) (ts out : Tokens) → braces_behind (sign_of t) k ≡ Some m → AfterTurn (keeps (turns.inside h m l) t l) ts out → RestInside h k at ((t, l) ∷ ts) out
kept_inside h k m at t l ts out e (after, r, g) =
    record {
      body = plain t l ∷ r.body;
      is = subst (λ (o : Option ℕ). Has o (λ x. IsBody x r.body)) (sym e) r.is;
      to = r.to;
      parts = r.parts;
      are = r.are;
      takes = ap (λ (x : Tokens). (t, l) ∷ x) r.takes;
      gives = g ∙ ap (λ (x : Tokens). (t, l) ∷ x) r.gives;
    }

closed_inside : (h : Head) (k at : ℕ) (t : Token) (l : ℕ) (ts out : Tokens) → sign_of t ≡ right_brace → AfterTurn (turn_closed h (one_less k) at t l) ts out → RestInside h k at ((t, l) ∷ ts) out
closed_inside h zero at t l ts out e (after, r, g) =
    let m : t ≡ symbol s.RightBrace = means t right_brace e in
    record {
      body = [];
      is = refl;
      to = l;
      parts = r.parts;
      are = r.are;
      takes = same_front t (symbol s.RightBrace) l ts m ∙ ap (λ (x : Tokens). (symbol s.RightBrace, l) ∷ x) r.takes;
      gives =
          g
          ∙ ap (λ (x : Tokens). put at body_behind ++ x) (same_front t (symbol s.RightBrace) l (put l (reset_method h.thread h.asynchronous) ++ after) m)
          ∙ ap (λ (x : Tokens). put at body_behind ++ (symbol s.RightBrace, l) ∷ (put l (reset_method h.thread h.asynchronous) ++ x)) r.gives;
    }
closed_inside h (suc k) at t l ts out e g = kept_inside h (suc k) k at t l ts out (ap (λ (x : Sign). braces_behind x (suc k)) e) g

plain_inside : (h : Head) (k at : ℕ) (t : Token) (l : ℕ) (ts out : Tokens) (sign : Sign) → sign_of t ≡ sign → AfterTurn (keeps_at (λ (m : ℕ). turns.inside h m l) (braces_behind sign k) t l) ts out → RestInside h k at ((t, l) ∷ ts) out
plain_inside h k at t l ts out sign e g =
    let c = went_at (λ (m : ℕ). turns.inside h m l) (braces_behind sign k) t l ts out g in
    kept_inside h k c.0 at t l ts out (ap (λ (x : Sign). braces_behind x k) e ∙ c.1) c.2

back_inside : (h : Head) (k at : ℕ) (t : Token) (l : ℕ) (ts out : Tokens) (sign : Sign) → sign_of t ≡ sign → AfterTurn (turn_inside h k at sign t l) ts out → RestInside h k at ((t, l) ∷ ts) out
back_inside h k at t l ts out right_brace e g = closed_inside h k at t l ts out e g
back_inside h k at t l ts out (new n.Tick) e (after, r, g) =
    let m : t ≡ new_word n.Tick = means t (new n.Tick) e in
    let q : RestInside h k r.end r.more r.after = r.rest in
    record {
      body = tick l r.count r.end ∷ q.body;
      is = (r.is, q.is);
      to = q.to;
      parts = q.parts;
      are = q.are;
      takes = same_front t (new_word n.Tick) l ts m ∙ r.takes ∙ ap (λ (x : Tokens). written_piece (tick l r.count r.end) ++ x) q.takes
          ∙ sym (append_assoc (written_piece (tick l r.count r.end)) (written_body q.body) ((symbol s.RightBrace, q.to) ∷ written_parts q.parts));
      gives = g ∙ r.gives ∙ ap (λ (x : Tokens). expanded_piece (resets_in h) (tick l r.count r.end) ++ x) q.gives
          ∙ sym (append_assoc (expanded_piece (resets_in h) (tick l r.count r.end)) (expanded_body (resets_in h) q.body) (put (last_line r.end q.body) body_behind ++ (symbol s.RightBrace, q.to) ∷ (put q.to (reset_method h.thread h.asynchronous) ++ expanded_parts q.parts)));
    }
back_inside h k at t l ts out (new u) e g = absurd g
back_inside h k at t l ts out sign e g = plain_inside h k at t l ts out sign e g

back_level : (h : Head) (at_once : Bool) (y : List ℕ) (t : Token) (l : ℕ) (ts out : Tokens) (sign : Sign) → sign_of t ≡ sign → AfterTurn (turn_level h at_once y sign) ts out → RestLevel h at_once y ((t, l) ∷ ts) out
back_level h at_once y t l ts out (truth_value b) e (after, r, g) =
    let m : t ≡ truth b = means t (truth_value b) e in
    record { level = b; line = l; more = ts; takes = same_front t (truth b) l ts m; rest = subst (λ (x : Tokens). RestResets (with_reset h at_once (record { signal = y; level = b })) ts x) (sym g) r }
back_level h at_once y t l ts out sign e g = absurd g

back_signal : (h : Head) (at_once : Bool) (t : Token) (l : ℕ) (ts out : Tokens) (sign : Sign) → sign_of t ≡ sign → AfterTurn (turn_signal h at_once sign) ts out → RestSignal h at_once ((t, l) ∷ ts) out
back_signal h at_once t l ts out (old_name y) e (after, r, g) =
    let m : (t ≡ name y) × IsOldName y = means t (old_name y) e in
    record { signal = y; old = m.1; line = l; more = ts; takes = same_front t (name y) l ts m.0; rest = subst (λ (x : Tokens). RestLevel h at_once y ts x) (sym g) r }
back_signal h at_once t l ts out sign e g = absurd g

-- a reset that has been read, behind its word
abbrev reset_read : (h : Head) (at_once : Bool) (l : ℕ) (ts out : Tokens) → RestSignal h at_once ts out → WrittenReset
reset_read h at_once l ts out r = record { reset = record { signal = r.signal; level = r.rest.level }; word_line = l; signal_line = r.line; level_line = r.rest.line }

async_takes : (h : Head) (t : Token) (l : ℕ) (ts out : Tokens) (r : RestSignal h true ts out) → t ≡ new_word n.AsyncReset → ◌≡◌ {A = Tokens} ((t, l) ∷ ts) (written_reset n.AsyncReset (Some (reset_read h true l ts out r)) ++ r.rest.more)
async_takes h t l ts out r m = same_front t (new_word n.AsyncReset) l ts m ∙ ap (λ (x : Tokens). (new_word n.AsyncReset, l) ∷ x) (r.takes ∙ ap (λ (x : Tokens). (name r.signal, r.line) ∷ x) r.rest.takes)

sync_takes : (h : Head) (t : Token) (l : ℕ) (ts out : Tokens) (r : RestSignal h false ts out) → t ≡ new_word n.SyncReset → ◌≡◌ {A = Tokens} ((t, l) ∷ ts) (written_reset n.SyncReset (Some (reset_read h false l ts out r)) ++ r.rest.more)
sync_takes h t l ts out r m = same_front t (new_word n.SyncReset) l ts m ∙ ap (λ (x : Tokens). (new_word n.SyncReset, l) ∷ x) (r.takes ∙ ap (λ (x : Tokens). (name r.signal, r.line) ∷ x) r.rest.takes)

not_both_first : (x y : Bool) → ((false && x) && y) ≡ true → ⊥
not_both_first x y e = let f : false ≡ true = e in cc

async_back : (h : Head) (t : Token) (l : ℕ) (ts out : Tokens) (r : RestSignal h true ts out) → t ≡ new_word n.AsyncReset → may_be_asynchronous h ≡ true
    → RestResets (with_reset h true (record { signal = r.signal; level = r.rest.level })) r.rest.more out → RestResets h ((t, l) ∷ ts) out
async_back h t l ts out r m may (Some a, b, q) = absurd (not_both_first (not (is_some h.synchronous)) (fits_reset h.thread) q.may_a)
async_back h t l ts out r m may (None, b, q) = (
  Some (reset_read h true l ts out r),
  b,
  record {
    old_a = r.old;
    may_a = may;
    old_b = q.old_b;
    may_b = q.may_b;
    from = q.from;
    more = q.more;
    after = q.after;
    takes = async_takes h t l ts out r m ∙ ap (λ (x : Tokens). written_reset n.AsyncReset (Some (reset_read h true l ts out r)) ++ x) q.takes;
    gives = q.gives;
    rest = q.rest;
  },
)

not_both : (x y : Bool) → ((x && false) && y) ≡ true → ⊥
not_both true y e = cc
not_both false y e = cc

sync_back : (h : Head) (t : Token) (l : ℕ) (ts out : Tokens) (r : RestSignal h false ts out) → t ≡ new_word n.SyncReset → may_be_synchronous h ≡ true
    → RestResets (with_reset h false (record { signal = r.signal; level = r.rest.level })) r.rest.more out → RestResets h ((t, l) ∷ ts) out
sync_back h t l ts out r m may (a, Some b, q) = let f : false ≡ true = q.may_b in cc
sync_back h t l ts out r m may (Some a, None, q) = absurd (not_both (not (is_some h.asynchronous)) (fits_reset h.thread) q.may_a)
sync_back h t l ts out r m may (None, None, q) = (
  None,
  Some (reset_read h false l ts out r),
  record {
    old_a = tt;
    may_a = tt;
    old_b = r.old;
    may_b = may;
    from = q.from;
    more = q.more;
    after = q.after;
    takes = sync_takes h t l ts out r m ∙ ap (λ (x : Tokens). written_reset n.SyncReset (Some (reset_read h false l ts out r)) ++ x) q.takes;
    gives = q.gives;
    rest = q.rest;
  },
)

back_resets : (h : Head) (t : Token) (l : ℕ) (ts out : Tokens) (sign : Sign) → sign_of t ≡ sign → AfterTurn (turn_resets h sign t l) ts out → RestResets h ((t, l) ∷ ts) out
back_resets h t l ts out left_brace e (after, r, g) =
    let m : t ≡ symbol s.LeftBrace = means t left_brace e in (
      None,
      None,
      record {
        old_a = tt;
        may_a = tt;
        old_b = tt;
        may_b = tt;
        from = l;
        more = ts;
        after = after;
        takes = same_front t (symbol s.LeftBrace) l ts m;
        gives = g ∙ same_front t (symbol s.LeftBrace) l (put l body_before ++ after) m;
        rest = r;
      },
    )
back_resets h t l ts out (new n.AsyncReset) e g =
    let c = went_if (may_be_asynchronous h) (turns.signal h true) [] ts out g in
    let r : RestSignal h true ts out = subst (λ (x : Tokens). RestSignal h true ts x) (sym c.1.2) c.1.1 in
    async_back h t l ts out r (means t (new n.AsyncReset) e) c.0 r.rest.rest
back_resets h t l ts out (new n.SyncReset) e g =
    let c = went_if (may_be_synchronous h) (turns.signal h false) [] ts out g in
    let r : RestSignal h false ts out = subst (λ (x : Tokens). RestSignal h false ts x) (sym c.1.2) c.1.1 in
    sync_back h t l ts out r (means t (new n.SyncReset) e) c.0 r.rest.rest
back_resets h t l ts out sign e g = absurd g

back_edge : (thread : List ℕ) (t : Token) (l : ℕ) (ts out : Tokens) (sign : Sign) → sign_of t ≡ sign → AfterTurn (turn_edge thread sign t l) ts out → RestEdge thread ((t, l) ∷ ts) out
back_edge thread t l ts out (old_name y) e g =
    let m : (t ≡ name y) × IsOldName y = means t (old_name y) e in
    let c = went_if (is_edge y) (turns.resets (head_of thread)) ((t, l) ∷ (word w.DontInitialize, l) ∷ []) ts out g in
    record { edge = y; is = c.0; line = l; more = ts; after = c.1.0; takes = same_front t (name y) l ts m.0; gives = c.1.2 ∙ same_front t (name y) l _ m.0; rest = c.1.1 }
back_edge thread t l ts out sign e g = absurd g

back_dotted : (thread : List ℕ) (t : Token) (l : ℕ) (ts out : Tokens) (sign : Sign) → sign_of t ≡ sign → AfterTurn (turn_dotted thread sign t l) ts out → RestDotted thread ((t, l) ∷ ts) out
back_dotted thread t l ts out dot e (after, r, g) =
    let m : t ≡ symbol s.Dot = means t dot e in
    record { line = l; more = ts; after = after; takes = same_front t (symbol s.Dot) l ts m; gives = g ∙ same_front t (symbol s.Dot) l after m; rest = r }
back_dotted thread t l ts out sign e g = absurd g

-- a token between parentheses
kept_inner : (thread : List ℕ) (k m : ℕ) (t : Token) (l : ℕ) (ts out : Tokens) → parens_behind (sign_of t) k ≡ Some m → AfterTurn (keeps (turns.inner thread m) t l) ts out → RestInner thread k ((t, l) ∷ ts) out
kept_inner thread k m t l ts out e (after, r, g) =
    record {
      inner = (t, l) ∷ r.inner;
      is = subst (λ (o : Option ℕ). Has o (λ x. AreClosed x r.inner)) (sym e) r.is;
      to = r.to;
      more = r.more;
      after = r.after;
      takes = ap (λ (x : Tokens). (t, l) ∷ x) r.takes;
      gives = g ∙ ap (λ (x : Tokens). (t, l) ∷ x) r.gives;
      rest = r.rest;
    }

closed_inner : (thread : List ℕ) (k : ℕ) (t : Token) (l : ℕ) (ts out : Tokens) → sign_of t ≡ right_paren → AfterTurn (turn_inner thread k right_paren t l) ts out → RestInner thread k ((t, l) ∷ ts) out
closed_inner thread zero t l ts out e (after, r, g) =
    let m : t ≡ symbol s.RightParen = means t right_paren e in
    record { inner = []; is = refl; to = l; more = ts; after = after; takes = same_front t (symbol s.RightParen) l ts m; gives = g ∙ same_front t (symbol s.RightParen) l after m; rest = r }
closed_inner thread (suc k) t l ts out e g = kept_inner thread (suc k) k t l ts out (ap (λ (x : Sign). parens_behind x (suc k)) e) g

plain_inner : (thread : List ℕ) (k : ℕ) (t : Token) (l : ℕ) (ts out : Tokens) (sign : Sign) → sign_of t ≡ sign → AfterTurn (keeps_at (turns.inner thread) (parens_behind sign k) t l) ts out → RestInner thread k ((t, l) ∷ ts) out
plain_inner thread k t l ts out sign e g =
    let c = went_at (turns.inner thread) (parens_behind sign k) t l ts out g in
    kept_inner thread k c.0 t l ts out (ap (λ (x : Sign). parens_behind x k) e ∙ c.1) c.2

back_inner : (thread : List ℕ) (k : ℕ) (t : Token) (l : ℕ) (ts out : Tokens) (sign : Sign) → sign_of t ≡ sign → AfterTurn (turn_inner thread k sign t l) ts out → RestInner thread k ((t, l) ∷ ts) out
back_inner thread k t l ts out right_paren e g = closed_inner thread k t l ts out e g
back_inner thread k t l ts out sign e g = plain_inner thread k t l ts out sign e g

back_placed : (thread : List ℕ) (t : Token) (l : ℕ) (ts out : Tokens) (sign : Sign) → sign_of t ≡ sign → AfterTurn (turn_placed thread sign t l) ts out → RestPlaced thread ((t, l) ∷ ts) out
back_placed thread t l ts out (a_number v) e (after, r, g) =
    let m : t ≡ number v = means t (a_number v) e in
    record {
      place = λ at. numbered at v l;
      is = λ at. tt;
      more = ts;
      after = after;
      takes = λ at. ap (λ (x : Tokens). (symbol s.At, at) ∷ x) (same_front t (number v) l ts m);
      gives = λ at. ap (λ (x : Tokens). (symbol s.At, at) ∷ x) (g ∙ same_front t (number v) l after m);
      rest = r;
    }
back_placed thread t l ts out left_paren e (after, r, g) =
    let m : t ≡ symbol s.LeftParen = means t left_paren e in
    record {
      place = λ at. computed at l r.inner r.to;
      is = λ at. r.is;
      more = r.more;
      after = r.after;
      takes = λ at. ap (λ (x : Tokens). (symbol s.At, at) ∷ x) (same_front t (symbol s.LeftParen) l ts m ∙ ap (λ (x : Tokens). (symbol s.LeftParen, l) ∷ x) (r.takes ∙ sym (append_assoc r.inner ((symbol s.RightParen, r.to) ∷ []) r.more)));
      gives = λ at. ap (λ (x : Tokens). (symbol s.At, at) ∷ x) (g ∙ same_front t (symbol s.LeftParen) l after m ∙ ap (λ (x : Tokens). (symbol s.LeftParen, l) ∷ x) (r.gives ∙ sym (append_assoc r.inner ((symbol s.RightParen, r.to) ∷ []) r.after)));
      rest = r.rest;
    }
back_placed thread t l ts out sign e g = absurd g

back_place : (thread : List ℕ) (t : Token) (l : ℕ) (ts out : Tokens) (sign : Sign) → sign_of t ≡ sign → AfterTurn (turn_place thread sign t l) ts out → RestPlace thread ((t, l) ∷ ts) out
back_place thread t l ts out dot e g =
    record { place = first; is = tt; more = (t, l) ∷ ts; after = out; takes = refl; gives = refl; rest = back_dotted thread t l ts out dot e g }
back_place thread t l ts out at_sign e (after, r, g) =
    let m : t ≡ symbol s.At = means t at_sign e in
    record {
      place = r.place l;
      is = r.is l;
      more = r.more;
      after = r.after;
      takes = same_front t (symbol s.At) l ts m ∙ r.takes l;
      gives = g ∙ same_front t (symbol s.At) l after m ∙ r.gives l;
      rest = r.rest;
    }
back_place thread t l ts out sign e g = absurd g

back_channel : (thread : List ℕ) (t : Token) (l : ℕ) (ts out : Tokens) (sign : Sign) → sign_of t ≡ sign → AfterTurn (turn_channel thread sign t l) ts out → RestChannel thread ((t, l) ∷ ts) out
back_channel thread t l ts out (old_name y) e (after, r, g) =
    let m : (t ≡ name y) × IsOldName y = means t (old_name y) e in
    record { channel = y; old = m.1; line = l; more = ts; after = after; takes = same_front t (name y) l ts m.0; gives = g ∙ same_front t (name y) l after m.0; rest = r }
back_channel thread t l ts out sign e g = absurd g

back_named : (t : Token) (l : ℕ) (ts out : Tokens) (sign : Sign) → sign_of t ≡ sign → AfterTurn (turn_named sign t l) ts out → RestNamed ((t, l) ∷ ts) out
back_named t l ts out (old_name y) e (after, r, g) =
    let m : (t ≡ name y) × IsOldName y = means t (old_name y) e in
    record { thread = y; old = m.1; line = l; more = ts; after = after; takes = same_front t (name y) l ts m.0; gives = g ∙ same_front t (name y) l _ m.0; rest = r }
back_named t l ts out sign e g = absurd g

-- ---- a clocked thread, put together

written_behind : (f : Clocked) (more : Tokens)
    → written_part (clocked f) ++ more
    ≡ (new_word n.Cthread, f.line) ∷ (name f.name, f.name_line) ∷ (name f.channel, f.channel_line) ∷ (written_place f.place
    ++ (symbol s.Dot, f.dot_line) ∷ (name f.edge, f.edge_line) ∷ (written_reset n.AsyncReset f.asynchronous ++ (written_reset n.SyncReset f.synchronous
    ++ (symbol s.LeftBrace, f.from) ∷ (written_body f.body ++ (symbol s.RightBrace, f.to) ∷ more))))
written_behind f more = simp append_assoc

expanded_behind : (f : Clocked) (more : Tokens)
    → expanded_part (clocked f) ++ more
    ≡ (word w.Thread, f.line) ∷ (name f.name, f.name_line) ∷ (word w.Sensitive, f.name_line) ∷ (name f.channel, f.channel_line) ∷ (written_place f.place
    ++ (symbol s.Dot, f.dot_line) ∷ (name f.edge, f.edge_line) ∷ (word w.DontInitialize, f.edge_line)
    ∷ (symbol s.LeftBrace, f.from) ∷ (put f.from body_before ++ (expanded_body (reset_of f.asynchronous, reset_of f.synchronous) f.body
    ++ (put (last_line f.from f.body) body_behind ++ (symbol s.RightBrace, f.to) ∷ (put f.to (reset_method f.name (reset_of f.asynchronous)) ++ more)))))
expanded_behind f more = simp append_assoc

abbrev head_with : List ℕ → Option WrittenReset → Option WrittenReset → Head
head_with thread a b = record { thread = thread; asynchronous = reset_of a; synchronous = reset_of b }

same_head : (thread : List ℕ) (a b : Option WrittenReset) → with_both (head_of thread) a b ≡ head_with thread a b
same_head thread None None = refl
same_head thread None (Some y) = refl
same_head thread (Some x) None = refl
same_head thread (Some x) (Some y) = refl

clocked_of : (l : ℕ) (ts out : Tokens) (a : RestNamed ts out) → RestOutside ((new_word n.Cthread, l) ∷ ts) ((word w.Thread, l) ∷ out)
clocked_of l ts out a =
    let b : RestChannel a.thread a.more a.after = a.rest in
    let p : RestPlace a.thread b.more b.after = b.rest in
    let d : RestDotted a.thread p.more p.after = p.rest in
    let e : RestEdge a.thread d.more d.after = d.rest in
    let q : RestResetsWith (head_of a.thread) e.rest.0 e.rest.1 e.more e.after = e.rest.2 in
    let i : RestInside (head_with a.thread e.rest.0 e.rest.1) 0 q.from q.more q.after = subst (λ (h : Head). RestInside h 0 q.from q.more q.after) (same_head a.thread e.rest.0 e.rest.1) q.rest in
    let f : Clocked = record {
      line = l;
      name = a.thread;
      name_line = a.line;
      channel = b.channel;
      channel_line = b.line;
      place = p.place;
      dot_line = d.line;
      edge = e.edge;
      edge_line = e.line;
      asynchronous = e.rest.0;
      synchronous = e.rest.1;
      from = q.from;
      body = i.body;
      to = i.to;
    } in
    record {
      parts = clocked f ∷ i.parts;
      are = (
        record { name = a.old; channel = b.old; place = p.is; edge = e.is; asynchronous = q.old_a; fits = q.may_a; synchronous = q.old_b; body = i.is },
        i.are,
      );
      takes =
          ap (λ (x : Tokens). (new_word n.Cthread, l) ∷ x) (
          a.takes ∙ ap (λ (x : Tokens). (name a.thread, a.line) ∷ x) (
          b.takes ∙ ap (λ (x : Tokens). (name b.channel, b.line) ∷ x) (
          p.takes ∙ ap (λ (x : Tokens). written_place p.place ++ x) (
          d.takes ∙ ap (λ (x : Tokens). (symbol s.Dot, d.line) ∷ x) (
          e.takes ∙ ap (λ (x : Tokens). (name e.edge, e.line) ∷ x) (
          q.takes ∙ ap (λ (x : Tokens). written_reset n.AsyncReset e.rest.0 ++ (written_reset n.SyncReset e.rest.1 ++ (symbol s.LeftBrace, q.from) ∷ x)) i.takes))))))
          ∙ sym (written_behind f (written_parts i.parts));
      gives =
          ap (λ (x : Tokens). (word w.Thread, l) ∷ x) (
          a.gives ∙ ap (λ (x : Tokens). (name a.thread, a.line) ∷ (word w.Sensitive, a.line) ∷ x) (
          b.gives ∙ ap (λ (x : Tokens). (name b.channel, b.line) ∷ x) (
          p.gives ∙ ap (λ (x : Tokens). written_place p.place ++ x) (
          d.gives ∙ ap (λ (x : Tokens). (symbol s.Dot, d.line) ∷ x) (
          e.gives ∙ ap (λ (x : Tokens). (name e.edge, e.line) ∷ (word w.DontInitialize, e.line) ∷ x) (
          q.gives ∙ ap (λ (x : Tokens). (symbol s.LeftBrace, q.from) ∷ (put q.from body_before ++ x)) i.gives))))))
          ∙ sym (expanded_behind f (expanded_parts i.parts));
    }

kept_outside : (t : Token) (l : ℕ) (ts out : Tokens) → is_new t ≡ false → AfterTurn (keeps turns.outside t l) ts out → RestOutside ((t, l) ∷ ts) out
kept_outside t l ts out e (after, r, g) =
    record {
      parts = kept t l ∷ r.parts;
      are = (e, r.are);
      takes = ap (λ (x : Tokens). (t, l) ∷ x) r.takes;
      gives = g ∙ ap (λ (x : Tokens). (t, l) ∷ x) r.gives;
    }

back_outside : (t : Token) (l : ℕ) (ts out : Tokens) (sign : Sign) → sign_of t ≡ sign → AfterTurn (turn_outside sign t l) ts out → RestOutside ((t, l) ∷ ts) out
back_outside t l ts out (new n.Cthread) e (after, r, g) =
    let m : t ≡ new_word n.Cthread = means t (new n.Cthread) e in
    let q : RestOutside ((new_word n.Cthread, l) ∷ ts) ((word w.Thread, l) ∷ after) = clocked_of l ts after r in
    record { parts = q.parts; are = q.are; takes = same_front t (new_word n.Cthread) l ts m ∙ q.takes; gives = g ∙ q.gives }
back_outside t l ts out (new u) e g = absurd g
back_outside t l ts out sign e g = kept_outside t l ts out (ap is_new_sign e) g

-- ---- the line of the language

back_line_end : (t : Token) (l : ℕ) (ts out : Tokens) (sign : Sign) → sign_of t ≡ sign → AfterTurn (turn_line_end sign t l) ts out → RestLineEnd ((t, l) ∷ ts) out
back_line_end t l ts out semicolon e (after, r, g) =
    let m : t ≡ symbol s.Semicolon = means t semicolon e in
    record { line = l; more = ts; after = after; takes = same_front t (symbol s.Semicolon) l ts m; gives = g ∙ same_front t (symbol s.Semicolon) l after m; rest = r }
back_line_end t l ts out sign e g = absurd g

back_version : (t : Token) (l : ℕ) (ts out : Tokens) (sign : Sign) → sign_of t ≡ sign → AfterTurn (turn_version sign l) ts out → RestVersion ((t, l) ∷ ts) out
back_version t l ts out (a_number v) e g =
    let m : t ≡ number v = means t (a_number v) e in
    let c = went_if (v == 3) turns.line_end ((number 2, l) ∷ []) ts out g in
    let three : v ≡ 3 = eqb-true v 3 c.0 in
    record { line = l; more = ts; after = c.1.0; takes = same_front t (number 3) l ts (m ∙ ap number three); gives = c.1.2; rest = c.1.1 }
back_version t l ts out sign e g = absurd g

back_language : (t : Token) (l : ℕ) (ts out : Tokens) (sign : Sign) → sign_of t ≡ sign → AfterTurn (turn_language sign t l) ts out → Expands ((t, l) ∷ ts) out
back_language t l ts out (old_name y) e g =
    let m : (t ≡ name y) × IsOldName y = means t (old_name y) e in
    let c = went_if (bytes_eq y (codes "language")) turns.version ((t, l) ∷ []) ts out g in
    let same : t ≡ name (codes "language") = m.0 ∙ ap name ((bytes_eq-Decides y (codes "language")).0 c.0) in
    let v : RestVersion ts c.1.0 = c.1.1 in
    let b : RestLineEnd v.more v.after = v.rest in
    let o : RestOutside b.more b.after = b.rest in (
      record { word_line = l; number_line = v.line; end_line = b.line; parts = o.parts },
      o.are,
      same_front t (name (codes "language")) l ts same
          ∙ ap (λ (x : Tokens). (name (codes "language"), l) ∷ x) (v.takes ∙ ap (λ (x : Tokens). (number 3, v.line) ∷ x) (b.takes ∙ ap (λ (x : Tokens). (symbol s.Semicolon, b.line) ∷ x) o.takes)),
      c.1.2
          ∙ same_front t (name (codes "language")) l c.1.0 same
          ∙ ap (λ (x : Tokens). (name (codes "language"), l) ∷ x) (v.gives ∙ ap (λ (x : Tokens). (number 2, v.line) ∷ x) (b.gives ∙ ap (λ (x : Tokens). (symbol s.Semicolon, b.line) ∷ x) o.gives)),
    )
back_language t l ts out sign e g = absurd g

-- ---- all turns

back : (st : State) (t : Token) (l : ℕ) (ts out : Tokens) → AfterTurn (turn st (sign_of t) t l) ts out → Rest st ((t, l) ∷ ts) out
back turns.language t l ts out g = back_language t l ts out (sign_of t) refl g
back turns.version t l ts out g = back_version t l ts out (sign_of t) refl g
back turns.line_end t l ts out g = back_line_end t l ts out (sign_of t) refl g
back turns.outside t l ts out g = back_outside t l ts out (sign_of t) refl g
back turns.named t l ts out g = back_named t l ts out (sign_of t) refl g
back (turns.channel thread) t l ts out g = back_channel thread t l ts out (sign_of t) refl g
back (turns.place thread) t l ts out g = back_place thread t l ts out (sign_of t) refl g
back (turns.placed thread) t l ts out g = back_placed thread t l ts out (sign_of t) refl g
back (turns.inner thread k) t l ts out g = back_inner thread k t l ts out (sign_of t) refl g
back (turns.dotted thread) t l ts out g = back_dotted thread t l ts out (sign_of t) refl g
back (turns.edge thread) t l ts out g = back_edge thread t l ts out (sign_of t) refl g
back (turns.resets h) t l ts out g = back_resets h t l ts out (sign_of t) refl g
back (turns.signal h b) t l ts out g = back_signal h b t l ts out (sign_of t) refl g
back (turns.level h b x) t l ts out g = back_level h b x t l ts out (sign_of t) refl g
back (turns.inside h k at) t l ts out g = back_inside h k at t l ts out (sign_of t) refl g
back (turns.ticked h k at) t l ts out g = back_ticked h k at t l ts out (sign_of t) refl g
back (turns.counted h k) t l ts out g = back_counted h k t l ts out (sign_of t) refl g

rest_ended : (st : State) (out : Tokens) → ended st ≡ Some out → Rest st [] out
rest_ended turns.language out e = cc
rest_ended turns.version out e = cc
rest_ended turns.line_end out e = cc
rest_ended turns.outside out e = record { parts = []; are = tt; takes = refl; gives = let f : ◌≡◌ {A = Tokens} [] out = cc in sym f }
rest_ended turns.named out e = cc
rest_ended (turns.channel thread) out e = cc
rest_ended (turns.place thread) out e = cc
rest_ended (turns.placed thread) out e = cc
rest_ended (turns.inner thread k) out e = cc
rest_ended (turns.dotted thread) out e = cc
rest_ended (turns.edge thread) out e = cc
rest_ended (turns.resets h) out e = cc
rest_ended (turns.signal h b) out e = cc
rest_ended (turns.level h b x) out e = cc
rest_ended (turns.inside h k at) out e = cc
rest_ended (turns.ticked h k at) out e = cc
rest_ended (turns.counted h k) out e = cc

behind_some : (p out : Tokens) (o : Option Tokens) → option_map (λ (x : Tokens). p ++ x) o ≡ Some out → (after : Tokens) × (o ≡ Some after) × (out ≡ p ++ after)
behind_some p out None e = cc
behind_some p out (Some x) e = (x, refl, let f : p ++ x ≡ out = cc in sym f)

went_on : (o : Turn) (ts out : Tokens) → ((st : State) (after : Tokens) → run st ts ≡ Some after → Rest st ts after) → go_on o (λ st. run st ts) ≡ Some out → AfterTurn o ts out
went_on None ts out f e = cc
went_on (Some x) ts out f e =
    let c = behind_some x.1 out (run x.0 ts) e in
    (c.0, f x.0 c.0 c.1, c.2)

rest_of : (ts : Tokens) (st : State) (out : Tokens) → run st ts ≡ Some out → Rest st ts out
rest_of [] st out e = rest_ended st out e
rest_of (t ∷ ts) st out e = back st t.0 t.1 ts out (went_on (turn st (sign_of t.0) t.0 t.1) ts out (λ next after. rest_of ts next after) e)

-- what the turns write is what the tokens expand to
pub run_expands : (ts out : Tokens) → run turns.language ts ≡ Some out → Expands ts out
run_expands ts out e = rest_of ts turns.language out e
