-- The lines of tokens do not fall, in a text and in what it becomes.
use Rattle.std.proofs.Common.{◌≡◌, ℕ, ◌+◌, ◌-◌, ◌≤◌, List, [], ◌∷◌, ◌++◌, length, take, drop, count_by, Some, None, ◌∙◌, refl, sym, ap, subst, arith}
use Rattle.std.specs.Prelude.{◌==◌}
use Rattle.model_lexer.specs.ModelTree.declared.vocabulary.Word.TheVariants as w
use Rattle.model_lexer.specs.ModelTree.declared.vocabulary.Symbol.TheVariants as s
use Rattle.model_lexer.specs.Tokens.{Token, Tokens, name, number, word, symbol}
use Rattle.model_lexer.specs.Cut.{line_at, Lexeme, CutFrom}
use Rattle.model_lexer.specs.Laws.{with_lines, AreInOrder}
use Rattle.model_lexer.proofs.CutLaws.{cut_ordered}
use Rattle.model_lexer.proofs.Turns.{line_past}
use Rattle.clocked.specs.declared.words.NewWord.TheVariants as n
use Rattle.clocked.specs.Parts.{Piece, plain, tick, Clocked, Part, kept, clocked, Text, clock_of, written_place, written_reset, written_piece, written_body, written_head, written_part, written_parts, written}
use Rattle.clocked.specs.Expanded.{put, Resets, tick_before, tick_behind, expanded_piece, expanded_body, last_line, resets_of, reset_of, body_before, body_behind, reset_method, expanded_head, expanded_part, expanded_parts, expanded, line_behind}

-- from this line on the lines of tokens do not fall
abbrev pub Rising : ℕ → Tokens → Type 0
Rising from [] = Unit {0}
Rising from (t ∷ ts) = (from ≤ t.1) × Rising t.1 ts

rising_from : (a b : ℕ) (ts : Tokens) → a ≤ b → Rising b ts → Rising a ts
rising_from a b [] h up = tt
rising_from a b (t ∷ ts) h up = let k : b ≤ t.1 = up.0 in (omega arith, up.1)

rising_split : (a : ℕ) (xs ys : Tokens) → Rising a (xs ++ ys) → Rising a xs × Rising (line_behind a xs) ys
rising_split a [] ys up = (tt, up)
rising_split a (x ∷ xs) ys up = let rest = rising_split x.1 xs ys up.1 in ((up.0, rest.0), rest.1)

rising_join : (a : ℕ) (xs ys : Tokens) → Rising a xs → Rising (line_behind a xs) ys → Rising a (xs ++ ys)
rising_join a [] ys up more = more
rising_join a (x ∷ xs) ys up more = (up.0, rising_join x.1 xs ys up.1 more)

behind_both : (a : ℕ) (xs ys : Tokens) → line_behind a (xs ++ ys) ≡ line_behind (line_behind a xs) ys
behind_both a [] ys = refl
behind_both a (x ∷ xs) ys = behind_both x.1 xs ys

behind_last : (a : ℕ) (xs : Tokens) (t : Token) (l : ℕ) → line_behind a (xs ++ (t, l) ∷ []) ≡ l
behind_last a xs t l = behind_both a xs ((t, l) ∷ [])

rising_up : (a : ℕ) (ts : Tokens) → Rising a ts → a ≤ line_behind a ts
rising_up a [] up = omega arith
rising_up a (t ∷ ts) up = let k : a ≤ t.1 = up.0 in let more : t.1 ≤ line_behind t.1 ts = rising_up t.1 ts up.1 in omega arith

-- tokens that are put in on one line
level : (l : ℕ) (ts : List Token) → Rising l (put l ts)
level l [] = tt
level l (t ∷ ts) = (omega arith, level l ts)

level_from : (a l : ℕ) (ts : List Token) → a ≤ l → Rising a (put l ts)
level_from a l ts h = rising_from a l (put l ts) h (level l ts)

level_behind : (l : ℕ) (ts : List Token) → line_behind l (put l ts) ≡ l
level_behind l [] = refl
level_behind l (t ∷ ts) = level_behind l ts

-- ---- the tokens of a text

line_later : (text : List ℕ) (a b : ℕ) → a ≤ b → line_at text a ≤ line_at text b
line_later text a b h =
    let same : a + (b - a) ≡ b = omega arith in
    let past : line_at text (a + (b - a)) ≡ line_at text a + count_by (λ x. x == 10) (take (b - a) (drop a text)) = line_past text a (b - a) in
    let here : line_at text (a + (b - a)) ≡ line_at text b = ap (line_at text) same in
    omega arith

ordered_rise : (text : List ℕ) (at : ℕ) (ts : List Lexeme) → CutFrom text at ts → AreInOrder at (length text) ts → Rising (line_at text at) (with_lines ts)
ordered_rise text at [] cut order = tt
ordered_rise text at (t ∷ ts) (gap, k, more) order =
    let first : at ≤ t.start = order.0 in
    let some : t.start ≤ t.end = omega (arith, order.1) in
    let before : line_at text at ≤ line_at text t.start = line_later text at t.start first in
    let behind : line_at text t.start ≤ line_at text t.end = line_later text t.start t.end some in
    let lined : t.line ≡ line_at text t.start = k.lined in
    (omega arith, rising_from t.line (line_at text t.end) (with_lines ts) (omega arith) (ordered_rise text t.end ts more order.2))

pub cut_rises : (text : List ℕ) (ts : List Lexeme) → CutFrom text 0 ts → Rising 1 (with_lines ts)
cut_rises text ts cut = ordered_rise text 0 ts cut (cut_ordered text 0 ts cut)

-- ---- what tokens become

-- where the lines of some do not fall, those of others do not, and both end on one line
record Follows (a : ℕ) (xs ys : Tokens) : Type 0 where
  rises : Rising a xs → Rising a ys
  ends : line_behind a ys ≡ line_behind a xs

follows_both : (a : ℕ) (xs ys us vs : Tokens) → Follows a xs ys → Follows (line_behind a xs) us vs → Follows a (xs ++ us) (ys ++ vs)
follows_both a xs ys us vs f g = record {
  rises = λ up.
      let parts = rising_split a xs us up in
      rising_join a ys vs (f.rises parts.0) (subst (λ (l : ℕ). Rising l vs) (sym f.ends) (g.rises parts.1));
  ends = behind_both a ys vs ∙ ap (λ (l : ℕ). line_behind l vs) f.ends ∙ g.ends ∙ sym (behind_both a xs us);
}

-- tokens of which the first ones stand on one line
led_by : (a l : ℕ) (ts : List Token) (more : Tokens) → line_behind a (put l ts) ≡ l → a ≤ l → Rising l more → Rising a (put l ts ++ more)
led_by a l ts more e h up = rising_join a (put l ts) more (level_from a l ts h) (subst (λ (x : ℕ). Rising x more) (sym e) up)

behind_led : (a l : ℕ) (ts : List Token) (more : Tokens) → line_behind a (put l ts) ≡ l → line_behind a (put l ts ++ more) ≡ line_behind l more
behind_led a l ts more e = behind_both a (put l ts) more ∙ ap (λ (x : ℕ). line_behind x more) e

piece_follows : (rs : Resets) (a : ℕ) (p : Piece) → Follows a (written_piece p) (expanded_piece rs p)
piece_follows rs a (plain t l) = record { rises = λ up. up; ends = refl }
piece_follows rs a (tick l None end) = record {
  rises = λ up. led_by a l (tick_before ++ number 1 ∷ []) ((symbol s.Semicolon, end) ∷ put end (tick_behind rs)) refl up.0 (up.1.0, level end (tick_behind rs));
  ends = behind_led a l (tick_before ++ number 1 ∷ []) ((symbol s.Semicolon, end) ∷ put end (tick_behind rs)) refl ∙ level_behind end (tick_behind rs);
}
piece_follows rs a (tick l (Some v) end) = record {
  rises = λ up. led_by a l tick_before ((number v.0, v.1) ∷ (symbol s.Semicolon, end) ∷ put end (tick_behind rs)) refl up.0 (up.1.0, (up.1.1.0, level end (tick_behind rs)));
  ends = behind_led a l tick_before ((number v.0, v.1) ∷ (symbol s.Semicolon, end) ∷ put end (tick_behind rs)) refl ∙ level_behind end (tick_behind rs);
}

body_follows : (rs : Resets) (a : ℕ) (ps : List Piece) → Follows a (written_body ps) (expanded_body rs ps)
body_follows rs a [] = record { rises = λ up. up; ends = refl }
body_follows rs a (p ∷ ps) = follows_both a (written_piece p) (expanded_piece rs p) (written_body ps) (expanded_body rs ps) (piece_follows rs a p) (body_follows rs (line_behind a (written_piece p)) ps)

last_is : (a : ℕ) (ps : List Piece) → last_line a ps ≡ line_behind a (written_body ps)
last_is a [] = refl
last_is a (plain t l ∷ ps) = last_is l ps
last_is a (tick l None end ∷ ps) = last_is end ps
last_is a (tick l (Some v) end ∷ ps) = last_is end ps

clock_ends : (a : ℕ) (f : Clocked) → line_behind a (clock_of f) ≡ f.edge_line
clock_ends a f = behind_both f.channel_line (written_place f.place) ((symbol s.Dot, f.dot_line) ∷ (name f.edge, f.edge_line) ∷ [])

-- the head of a clocked thread
module _ (a : ℕ) (f : Clocked) where
  head_follows : Follows a (written_head f) (expanded_head f)
  head_follows =
      record {
        rises = λ up.
            let parts = rising_split f.name_line (clock_of f) (written_reset n.AsyncReset f.asynchronous ++ (written_reset n.SyncReset f.synchronous ++ (symbol s.LeftBrace, f.from) ∷ [])) up.1.1 in
            let behind : Rising f.edge_line (written_reset n.AsyncReset f.asynchronous ++ (written_reset n.SyncReset f.synchronous ++ (symbol s.LeftBrace, f.from) ∷ [])) =
            subst (λ (l : ℕ). Rising l (written_reset n.AsyncReset f.asynchronous ++ (written_reset n.SyncReset f.synchronous ++ (symbol s.LeftBrace, f.from) ∷ []))) (clock_ends f.name_line f) parts.1 in
            let up_to : f.edge_line ≤ f.from = subst (λ (l : ℕ). f.edge_line ≤ l) (ends_on f.edge_line) (rising_up f.edge_line (written_reset n.AsyncReset f.asynchronous ++ (written_reset n.SyncReset f.synchronous ++ (symbol s.LeftBrace, f.from) ∷ [])) behind) in
            let level_edge : f.edge_line ≤ f.edge_line = omega arith in
            let level_name : f.name_line ≤ f.name_line = omega arith in (
              up.0,
              (
                up.1.0,
                (
                  level_name,
                  rising_join f.name_line (clock_of f) ((word w.DontInitialize, f.edge_line) ∷ (symbol s.LeftBrace, f.from) ∷ []) parts.0
                      (subst (λ (l : ℕ). Rising l ((word w.DontInitialize, f.edge_line) ∷ (symbol s.LeftBrace, f.from) ∷ [])) (sym (clock_ends f.name_line f)) (level_edge, (up_to, tt))),
                ),
              ),
            );
        ends =
            behind_both f.name_line (clock_of f) ((word w.DontInitialize, f.edge_line) ∷ (symbol s.LeftBrace, f.from) ∷ [])
            ∙ sym (behind_both f.name_line (clock_of f) (written_reset n.AsyncReset f.asynchronous ++ (written_reset n.SyncReset f.synchronous ++ (symbol s.LeftBrace, f.from) ∷ [])) ∙ ends_on (line_behind f.name_line (clock_of f)));
      }
    where
      ends_on : (l : ℕ) → line_behind l (written_reset n.AsyncReset f.asynchronous ++ (written_reset n.SyncReset f.synchronous ++ (symbol s.LeftBrace, f.from) ∷ [])) ≡ f.from
      ends_on l =
          behind_both l (written_reset n.AsyncReset f.asynchronous) (written_reset n.SyncReset f.synchronous ++ (symbol s.LeftBrace, f.from) ∷ [])
          ∙ behind_last (line_behind l (written_reset n.AsyncReset f.asynchronous)) (written_reset n.SyncReset f.synchronous) (symbol s.LeftBrace) f.from

  head_ends : line_behind a (written_head f) ≡ f.from
  head_ends =
      sym head_follows.ends ∙ behind_both f.name_line (clock_of f) ((word w.DontInitialize, f.edge_line) ∷ (symbol s.LeftBrace, f.from) ∷ [])

-- its block, and what stands behind it
rest_follows : (f : Clocked) → Follows f.from (written_body f.body ++ (symbol s.RightBrace, f.to) ∷ [])
    (put f.from body_before ++ (expanded_body (resets_of f) f.body ++ (put (last_line f.from f.body) body_behind ++ (symbol s.RightBrace, f.to) ∷ put f.to (reset_method f.name (reset_of f.asynchronous)))))
rest_follows f = record {
  rises = λ up.
      let parts = rising_split f.from (written_body f.body) ((symbol s.RightBrace, f.to) ∷ []) up in
      let closes : last_line f.from f.body ≤ f.to = subst (λ (l : ℕ). l ≤ f.to) (sym (last_is f.from f.body)) parts.1.0 in
      let behind : Rising (last_line f.from f.body) (put (last_line f.from f.body) body_behind ++ (symbol s.RightBrace, f.to) ∷ put f.to (reset_method f.name (reset_of f.asynchronous))) =
      led_by (last_line f.from f.body) (last_line f.from f.body) body_behind ((symbol s.RightBrace, f.to) ∷ put f.to (reset_method f.name (reset_of f.asynchronous))) (level_behind (last_line f.from f.body) body_behind) (omega arith)
      (closes, level f.to (reset_method f.name (reset_of f.asynchronous))) in
      led_by f.from f.from body_before (expanded_body (resets_of f) f.body ++ (put (last_line f.from f.body) body_behind ++ (symbol s.RightBrace, f.to) ∷ put f.to (reset_method f.name (reset_of f.asynchronous))))
      (level_behind f.from body_before) (omega arith)
      (rising_join f.from (expanded_body (resets_of f) f.body) (put (last_line f.from f.body) body_behind ++ (symbol s.RightBrace, f.to) ∷ put f.to (reset_method f.name (reset_of f.asynchronous)))
      ((body_follows (resets_of f) f.from f.body).rises parts.0)
      (subst (λ (l : ℕ). Rising l (put (last_line f.from f.body) body_behind ++ (symbol s.RightBrace, f.to) ∷ put f.to (reset_method f.name (reset_of f.asynchronous))))
      (last_is f.from f.body ∙ sym (body_follows (resets_of f) f.from f.body).ends) behind));
  ends =
      behind_led f.from f.from body_before (expanded_body (resets_of f) f.body ++ (put (last_line f.from f.body) body_behind ++ (symbol s.RightBrace, f.to) ∷ put f.to (reset_method f.name (reset_of f.asynchronous)))) (level_behind f.from body_before)
      ∙ behind_both f.from (expanded_body (resets_of f) f.body) (put (last_line f.from f.body) body_behind ++ (symbol s.RightBrace, f.to) ∷ put f.to (reset_method f.name (reset_of f.asynchronous)))
      ∙ behind_both (line_behind f.from (expanded_body (resets_of f) f.body)) (put (last_line f.from f.body) body_behind) ((symbol s.RightBrace, f.to) ∷ put f.to (reset_method f.name (reset_of f.asynchronous)))
      ∙ level_behind f.to (reset_method f.name (reset_of f.asynchronous))
      ∙ sym (behind_last f.from (written_body f.body) (symbol s.RightBrace) f.to);
}

part_follows : (a : ℕ) (p : Part) → Follows a (written_part p) (expanded_part p)
part_follows a (kept t l) = record { rises = λ up. up; ends = refl }
part_follows a (clocked f) =
    follows_both a (written_head f) (expanded_head f) (written_body f.body ++ (symbol s.RightBrace, f.to) ∷ [])
    (put f.from body_before ++ (expanded_body (resets_of f) f.body ++ (put (last_line f.from f.body) body_behind ++ (symbol s.RightBrace, f.to) ∷ put f.to (reset_method f.name (reset_of f.asynchronous)))))
    (head_follows a f)
    (subst (λ (l : ℕ). Follows l (written_body f.body ++ (symbol s.RightBrace, f.to) ∷ [])
    (put f.from body_before ++ (expanded_body (resets_of f) f.body ++ (put (last_line f.from f.body) body_behind ++ (symbol s.RightBrace, f.to) ∷ put f.to (reset_method f.name (reset_of f.asynchronous))))))
    (sym (head_ends a f)) (rest_follows f))

parts_follow : (a : ℕ) (ps : List Part) → Follows a (written_parts ps) (expanded_parts ps)
parts_follow a [] = record { rises = λ up. up; ends = refl }
parts_follow a (p ∷ ps) = follows_both a (written_part p) (expanded_part p) (written_parts ps) (expanded_parts ps) (part_follows a p) (parts_follow (line_behind a (written_part p)) ps)

pub text_rises : (x : Text) (a : ℕ) → Rising a (written x) → Rising a (expanded x)
text_rises x a up = (up.0, (up.1.0, (up.1.1.0, (parts_follow x.end_line x.parts).rises up.1.1.1)))
