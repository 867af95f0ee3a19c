-- The tokens of parts lead through all their turns, and what is written is their expansion.
use Rattle.std.proofs.Common.{◌≡◌, ℕ, Bool, true, false, List, [], ◌∷◌, ◌++◌, Option, Some, None, ◌∙◌, refl, sym, ap, subst, append_assoc, ⊎_elim}
use Rattle.std.proofs.lemmas.List.{append-nil}
use Rattle.std.specs.Prelude.{codes}
use Rattle.std.specs.Str.{bytes_eq}
use Rattle.std.proofs.lemmas.Bool.{cases_Bool}
use Rattle.std.proofs.lemmas.Slice.Eq.{bytes_eq-Decides}
use Rattle.model_lexer.specs.ModelTree.declared.vocabulary.Word.TheVariants as w
use Rattle.model_lexer.specs.ModelTree.declared.vocabulary.Symbol.TheVariants as s
use Rattle.model_lexer.specs.Tokens.{Token, Tokens, name, number, word, symbol}
use Rattle.clocked.specs.declared.words.NewWord.TheVariants as n
use Rattle.clocked.specs.Words.{Sign, new, old_name, truth_value, right_brace, right_paren, sign_of, new_word, new_word_of, IsOldName, is_new_sign}
use Rattle.clocked.specs.Parts.{WrittenReset, Place, first, numbered, computed, Piece, plain, tick, Clocked, Part, kept, clocked, truth, written_place, written_reset, written_piece, written_body, clock_of, written_head, written_part, written_parts, IfWritten, one_less, parens_behind, braces_behind, AreClosed, IsPlace, is_count, IsBody, is_edge, fits_reset, IsClocked, IsPart, AreParts}
use Rattle.clocked.specs.Expanded.{put, tick_before, expanded_piece, expanded_body, last_line, reset_of, resets_of, body_before, body_behind, reset_method, expanded_head, expanded_part, expanded_parts, expanded, Expands}
use Rattle.clocked.specs.Turns as turns
use Rattle.clocked.specs.Turns.{Head, State, Turn, goes, keeps, keeps_at, goes_if, head_of, with_reset, resets_in, inner_closed, turn_outside, turn_inner, turn_closed, turn_inside, turn, run}
use Rattle.clocked.proofs.Leads.{Leads, leads_nowhere, leads_on, leads_both, leads_one, leads_to, new_sign, old_sign, truth_sign, turn_as, has_some}

-- ---- the place of a channel

pub inner_turn : (thread : List ℕ) (k m : ℕ) (sign : Sign) (t : Token) (l : ℕ) → parens_behind sign k ≡ Some m → turn_inner thread k sign t l ≡ keeps (turns.inner thread m) t l
inner_turn thread k m right_paren t l e = ap (λ (o : Option ℕ). keeps (inner_closed thread o) t l) e
inner_turn thread k m sign t l e = ap (λ (o : Option ℕ). keeps_at (turns.inner thread) o t l) e

inner_leads : (thread : List ℕ) (k to : ℕ) (ts : Tokens) → AreClosed k ts → Leads (turns.inner thread k) (ts ++ (symbol s.RightParen, to) ∷ []) (turns.dotted thread) (ts ++ (symbol s.RightParen, to) ∷ [])
inner_leads thread k to [] e =
    leads_one (turns.inner thread k) (turns.dotted thread) (symbol s.RightParen) to _ (ap (λ (x : ℕ). keeps (inner_closed thread (one_less x)) (symbol s.RightParen) to) e)
inner_leads thread k to (t ∷ ts) h =
    let m = has_some (parens_behind (sign_of t.0) k) (λ x. AreClosed x ts) h in
    leads_on (turns.inner thread k) (turns.inner thread m.0) (turns.dotted thread) t.0 t.1 _ (t ∷ []) _ (inner_turn thread k m.0 (sign_of t.0) t.0 t.1 m.1) (inner_leads thread m.0 to ts m.2)

edge_leads : (thread x : List ℕ) (l : ℕ) → IsOldName x → is_edge x ≡ true → Leads (turns.edge thread) ((name x, l) ∷ []) (turns.resets (head_of thread)) ((name x, l) ∷ (word w.DontInitialize, l) ∷ [])
edge_leads thread x l old e =
    leads_one (turns.edge thread) (turns.resets (head_of thread)) (name x) l _
    (turn_as (turns.edge thread) (turns.resets (head_of thread)) (name x) l (old_name x) _ (old_sign x old)
    (ap (λ (b : Bool). goes_if b (turns.resets (head_of thread)) ((name x, l) ∷ (word w.DontInitialize, l) ∷ [])) e))

dotted_leads : (thread x : List ℕ) (at l : ℕ) → IsOldName x → is_edge x ≡ true → Leads (turns.dotted thread) ((symbol s.Dot, at) ∷ (name x, l) ∷ []) (turns.resets (head_of thread)) ((symbol s.Dot, at) ∷ (name x, l) ∷ (word w.DontInitialize, l) ∷ [])
dotted_leads thread x at l old e = leads_on (turns.dotted thread) (turns.edge thread) (turns.resets (head_of thread)) (symbol s.Dot) at _ ((symbol s.Dot, at) ∷ []) _ refl (edge_leads thread x l old e)

place_leads : (thread x : List ℕ) (p : Place) (at l : ℕ) → IsPlace p → IsOldName x → is_edge x ≡ true → Leads (turns.place thread) (written_place p ++ (symbol s.Dot, at) ∷ (name x, l) ∷ []) (turns.resets (head_of thread)) (written_place p ++ (symbol s.Dot, at) ∷ (name x, l) ∷ (word w.DontInitialize, l) ∷ [])
place_leads thread x first at l h old e = leads_on (turns.place thread) (turns.edge thread) (turns.resets (head_of thread)) (symbol s.Dot) at _ ((symbol s.Dot, at) ∷ []) _ refl (edge_leads thread x l old e)
place_leads thread x (numbered sign v line) at l h old e =
    leads_on (turns.place thread) (turns.placed thread) (turns.resets (head_of thread)) (symbol s.At) sign _ ((symbol s.At, sign) ∷ []) _ refl
    (leads_on (turns.placed thread) (turns.dotted thread) (turns.resets (head_of thread)) (number v) line _ ((number v, line) ∷ []) _ refl (dotted_leads thread x at l old e))
place_leads thread x (computed sign from inner to) at l h old e =
    leads_on (turns.place thread) (turns.placed thread) (turns.resets (head_of thread)) (symbol s.At) sign _ ((symbol s.At, sign) ∷ []) _ refl
    (leads_on (turns.placed thread) (turns.inner thread 0) (turns.resets (head_of thread)) (symbol s.LeftParen) from _ ((symbol s.LeftParen, from) ∷ []) _ refl
    (leads_both (turns.inner thread 0) (turns.dotted thread) (turns.resets (head_of thread)) _ _ _ _ (inner_leads thread 0 to inner h) (dotted_leads thread x at l old e)))

-- ---- resets

abbrev head_with : List ℕ → Option WrittenReset → Option WrittenReset → Head
head_with thread a b = record { thread = thread; asynchronous = reset_of a; synchronous = reset_of b }

open_leads : (h : Head) (l : ℕ) → Leads (turns.resets h) ((symbol s.LeftBrace, l) ∷ []) (turns.inside h 0 l) ((symbol s.LeftBrace, l) ∷ put l body_before)
open_leads h l = leads_one (turns.resets h) (turns.inside h 0 l) (symbol s.LeftBrace) l _ refl

level_leads : (h : Head) (at_once : Bool) (x : WrittenReset) → IsOldName x.reset.signal → Leads (turns.signal h at_once) ((name x.reset.signal, x.signal_line) ∷ (truth x.reset.level, x.level_line) ∷ []) (turns.resets (with_reset h at_once x.reset)) []
level_leads h at_once x old =
    leads_on (turns.signal h at_once) (turns.level h at_once x.reset.signal) (turns.resets (with_reset h at_once x.reset)) (name x.reset.signal) x.signal_line _ [] []
    (turn_as (turns.signal h at_once) (turns.level h at_once x.reset.signal) (name x.reset.signal) x.signal_line (old_name x.reset.signal) [] (old_sign x.reset.signal old) refl)
    (leads_one (turns.level h at_once x.reset.signal) (turns.resets (with_reset h at_once x.reset)) (truth x.reset.level) x.level_line []
    (turn_as (turns.level h at_once x.reset.signal) (turns.resets (with_reset h at_once x.reset)) (truth x.reset.level) x.level_line (truth_value x.reset.level) [] (truth_sign x.reset.level) refl))

async_leads : (thread : List ℕ) (a : Option WrittenReset) → IfWritten a (λ x. IsOldName x.reset.signal) → IfWritten a (λ x. fits_reset thread ≡ true) → Leads (turns.resets (head_of thread)) (written_reset n.AsyncReset a) (turns.resets (head_with thread a None)) []
async_leads thread None h fits = leads_nowhere (turns.resets (head_of thread))
async_leads thread (Some x) h fits =
    leads_on (turns.resets (head_of thread)) (turns.signal (head_of thread) true) (turns.resets (head_with thread (Some x) None)) (new_word n.AsyncReset) x.word_line _ [] []
    (turn_as (turns.resets (head_of thread)) (turns.signal (head_of thread) true) (new_word n.AsyncReset) x.word_line (new n.AsyncReset) [] (new_sign n.AsyncReset)
    (ap (λ (b : Bool). goes_if b (turns.signal (head_of thread) true) []) fits))
    (level_leads (head_of thread) true x h)

sync_leads : (thread : List ℕ) (a b : Option WrittenReset) → IfWritten b (λ x. IsOldName x.reset.signal) → Leads (turns.resets (head_with thread a None)) (written_reset n.SyncReset b) (turns.resets (head_with thread a b)) []
sync_leads thread a None h = leads_nowhere (turns.resets (head_with thread a None))
sync_leads thread a (Some x) h =
    leads_on (turns.resets (head_with thread a None)) (turns.signal (head_with thread a None) false) (turns.resets (head_with thread a (Some x))) (new_word n.SyncReset) x.word_line _ [] []
    (turn_as (turns.resets (head_with thread a None)) (turns.signal (head_with thread a None) false) (new_word n.SyncReset) x.word_line (new n.SyncReset) [] (new_sign n.SyncReset) refl)
    (level_leads (head_with thread a None) false x h)

-- ---- the block

pub inside_turn : (h : Head) (k m at : ℕ) (sign : Sign) (t : Token) (l : ℕ) → braces_behind sign k ≡ Some m → turn_inside h k at sign t l ≡ keeps (turns.inside h m l) t l
inside_turn h k m at right_brace t l e = ap (λ (o : Option ℕ). turn_closed h o at t l) e
inside_turn h k m at (new u) t l e = cc
inside_turn h k m at sign t l e = ap (λ (o : Option ℕ). keeps_at (λ (x : ℕ). turns.inside h x l) o t l) e

tick_leads : (h : Head) (k at l : ℕ) → Leads (turns.inside h k at) ((new_word n.Tick, l) ∷ []) (turns.ticked h k l) []
tick_leads h k at l =
    leads_one (turns.inside h k at) (turns.ticked h k l) (new_word n.Tick) l []
    (turn_as (turns.inside h k at) (turns.ticked h k l) (new_word n.Tick) l (new n.Tick) [] (new_sign n.Tick) refl)

count_leads : (h : Head) (k l v at : ℕ) → is_count v ≡ true → Leads (turns.ticked h k l) ((number v, at) ∷ []) (turns.counted h k) (put l tick_before ++ (number v, at) ∷ [])
count_leads h k l v at e =
    leads_one (turns.ticked h k l) (turns.counted h k) (number v) at _
    (ap (λ (b : Bool). goes_if b (turns.counted h k) (put l tick_before ++ (number v, at) ∷ [])) e)

piece_leads : (h : Head) (k at l end : ℕ) (v : Option (ℕ × ℕ)) → IfWritten v (λ x. is_count x.0 ≡ true) → Leads (turns.inside h k at) (written_piece (tick l v end)) (turns.inside h k end) (expanded_piece (resets_in h) (tick l v end))
piece_leads h k at l end None e =
    leads_both (turns.inside h k at) (turns.ticked h k l) (turns.inside h k end) ((new_word n.Tick, l) ∷ []) ((symbol s.Semicolon, end) ∷ []) [] _ (tick_leads h k at l)
    (leads_one (turns.ticked h k l) (turns.inside h k end) (symbol s.Semicolon) end _ refl)
piece_leads h k at l end (Some v) e =
    leads_both (turns.inside h k at) (turns.ticked h k l) (turns.inside h k end) ((new_word n.Tick, l) ∷ []) ((number v.0, v.1) ∷ (symbol s.Semicolon, end) ∷ []) [] _ (tick_leads h k at l)
    (leads_both (turns.ticked h k l) (turns.counted h k) (turns.inside h k end) ((number v.0, v.1) ∷ []) ((symbol s.Semicolon, end) ∷ []) _ _ (count_leads h k l v.0 v.1 e)
    (leads_one (turns.counted h k) (turns.inside h k end) (symbol s.Semicolon) end _ refl))

body_leads : (h : Head) (k at : ℕ) (ps : List Piece) → IsBody k ps → Leads (turns.inside h k at) (written_body ps) (turns.inside h 0 (last_line at ps)) (expanded_body (resets_in h) ps)
body_leads h k at [] e = subst (λ (x : ℕ). Leads (turns.inside h x at) [] (turns.inside h 0 at) []) (sym e) (leads_nowhere (turns.inside h 0 at))
body_leads h k at (plain t l ∷ ps) e =
    let m = has_some (braces_behind (sign_of t) k) (λ x. IsBody x ps) e in
    leads_on (turns.inside h k at) (turns.inside h m.0 l) (turns.inside h 0 (last_line l ps)) t l _ ((t, l) ∷ []) _ (inside_turn h k m.0 at (sign_of t) t l m.1) (body_leads h m.0 l ps m.2)
body_leads h k at (tick l v end ∷ ps) (e, more) =
    leads_both (turns.inside h k at) (turns.inside h k end) (turns.inside h 0 (last_line end ps)) (written_piece (tick l v end)) (written_body ps) _ _ (piece_leads h k at l end v e) (body_leads h k end ps more)

close_leads : (h : Head) (at l : ℕ) → Leads (turns.inside h 0 at) ((symbol s.RightBrace, l) ∷ []) turns.outside (put at body_behind ++ (symbol s.RightBrace, l) ∷ put l (reset_method h.thread h.asynchronous))
close_leads h at l = leads_one (turns.inside h 0 at) turns.outside (symbol s.RightBrace) l _ refl

-- ---- a clocked thread, and all parts

edge_old : (x : List ℕ) → is_edge x ≡ true → IsOldName x
unfolding new_word_of
edge_old x e =
    ⊎_elim
    (λ (h : bytes_eq x (codes "pos") ≡ true). ap new_word_of ((bytes_eq-Decides x (codes "pos")).0 h))
    (λ (h : bytes_eq x (codes "pos") ≡ false). ap new_word_of ((bytes_eq-Decides x (codes "neg")).0 (rw h at e)))
    (cases_Bool (bytes_eq x (codes "pos")))

clock_leads : (f : Clocked) → IsClocked f → Leads (turns.channel f.name) (clock_of f) (turns.resets (head_of f.name)) (clock_of f ++ (word w.DontInitialize, f.edge_line) ∷ [])
clock_leads f h =
    leads_to (turns.channel f.name) (turns.resets (head_of f.name)) (clock_of f) _ _ (ap (λ (x : Tokens). (name f.channel, f.channel_line) ∷ x) (sym (append_assoc (written_place f.place) ((symbol s.Dot, f.dot_line) ∷ (name f.edge, f.edge_line) ∷ []) ((word w.DontInitialize, f.edge_line) ∷ []))))
    (leads_on (turns.channel f.name) (turns.place f.name) (turns.resets (head_of f.name)) (name f.channel) f.channel_line _ ((name f.channel, f.channel_line) ∷ []) _
    (turn_as (turns.channel f.name) (turns.place f.name) (name f.channel) f.channel_line (old_name f.channel) _ (old_sign f.channel h.channel) refl)
    (place_leads f.name f.edge f.place f.dot_line f.edge_line h.place (edge_old f.edge h.edge) h.edge))

head_told : (f : Clocked)
    → (word w.Thread, f.line) ∷ (name f.name, f.name_line) ∷ (word w.Sensitive, f.name_line) ∷ ((clock_of f ++ (word w.DontInitialize, f.edge_line) ∷ []) ++ (symbol s.LeftBrace, f.from) ∷ put f.from body_before)
    ≡ expanded_head f ++ put f.from body_before
head_told f = simp append_assoc

head_leads : (f : Clocked) → IsClocked f → Leads turns.outside (written_head f) (turns.inside (head_with f.name f.asynchronous f.synchronous) 0 f.from) (expanded_head f ++ put f.from body_before)
head_leads f h =
    leads_to turns.outside _ (written_head f)
    ((word w.Thread, f.line) ∷ (name f.name, f.name_line) ∷ (word w.Sensitive, f.name_line) ∷ ((clock_of f ++ (word w.DontInitialize, f.edge_line) ∷ []) ++ (symbol s.LeftBrace, f.from) ∷ put f.from body_before))
    (expanded_head f ++ put f.from body_before)
    (head_told f)
    (leads_on turns.outside turns.named _ (new_word n.Cthread) f.line _ ((word w.Thread, f.line) ∷ []) _
    (turn_as turns.outside turns.named (new_word n.Cthread) f.line (new n.Cthread) _ (new_sign n.Cthread) refl)
    (leads_on turns.named (turns.channel f.name) _ (name f.name) f.name_line _ ((name f.name, f.name_line) ∷ (word w.Sensitive, f.name_line) ∷ []) _
    (turn_as turns.named (turns.channel f.name) (name f.name) f.name_line (old_name f.name) _ (old_sign f.name h.name) refl)
    (leads_both (turns.channel f.name) (turns.resets (head_of f.name)) _ (clock_of f) _ _ _ (clock_leads f h)
    (leads_both (turns.resets (head_of f.name)) (turns.resets (head_with f.name f.asynchronous None)) _ (written_reset n.AsyncReset f.asynchronous) _ [] _ (async_leads f.name f.asynchronous h.asynchronous h.fits)
    (leads_both (turns.resets (head_with f.name f.asynchronous None)) (turns.resets (head_with f.name f.asynchronous f.synchronous)) _ (written_reset n.SyncReset f.synchronous) _ [] _ (sync_leads f.name f.asynchronous f.synchronous h.synchronous)
    (open_leads (head_with f.name f.asynchronous f.synchronous) f.from))))))

outside_turn : (sign : Sign) (t : Token) (l : ℕ) → is_new_sign sign ≡ false → turn_outside sign t l ≡ keeps turns.outside t l
outside_turn (new u) t l e = cc
outside_turn sign t l e = refl

part_leads : (p : Part) → IsPart p → Leads turns.outside (written_part p) turns.outside (expanded_part p)
part_leads (kept t l) e = leads_one turns.outside turns.outside t l _ (outside_turn (sign_of t) t l e)
part_leads (clocked f) h =
    leads_to turns.outside turns.outside (written_part (clocked f)) _ _ (append_assoc (expanded_head f) (put f.from body_before) (expanded_body (resets_of f) f.body ++ (put (last_line f.from f.body) body_behind ++ (symbol s.RightBrace, f.to) ∷ put f.to (reset_method f.name (reset_of f.asynchronous)))))
    (leads_both turns.outside (turns.inside (head_with f.name f.asynchronous f.synchronous) 0 f.from) turns.outside (written_head f) _ _ _ (head_leads f h)
    (leads_both (turns.inside (head_with f.name f.asynchronous f.synchronous) 0 f.from) (turns.inside (head_with f.name f.asynchronous f.synchronous) 0 (last_line f.from f.body)) turns.outside (written_body f.body) _ _ _
    (body_leads (head_with f.name f.asynchronous f.synchronous) 0 f.from f.body h.body)
    (close_leads (head_with f.name f.asynchronous f.synchronous) (last_line f.from f.body) f.to)))

parts_lead : (ps : List Part) → AreParts ps → Leads turns.outside (written_parts ps) turns.outside (expanded_parts ps)
parts_lead [] h = leads_nowhere turns.outside
parts_lead (p ∷ ps) (h, more) = leads_both turns.outside turns.outside turns.outside (written_part p) (written_parts ps) _ _ (part_leads p h) (parts_lead ps more)

language_leads : (l at end : ℕ) → Leads turns.language ((name (codes "language"), l) ∷ (number 3, at) ∷ (symbol s.Semicolon, end) ∷ []) turns.outside ((name (codes "language"), l) ∷ (number 2, at) ∷ (symbol s.Semicolon, end) ∷ [])
unfolding new_word_of
language_leads l at end =
    leads_on turns.language turns.version turns.outside (name (codes "language")) l _ ((name (codes "language"), l) ∷ []) _ refl
    (leads_on turns.version turns.line_end turns.outside (number 3) at _ ((number 2, at) ∷ []) _ refl (leads_one turns.line_end turns.outside (symbol s.Semicolon) end _ refl))

-- what the tokens of a text expand to is what the turns write
pub expands_run : (ts out : Tokens) → Expands ts out → run turns.language ts ≡ Some out
expands_run ts out (x, h, e, g) =
    ap (λ (y : Tokens). run turns.language y) e
    ∙ ap (λ (y : Tokens). run turns.language ((name (codes "language"), x.word_line) ∷ (number 3, x.number_line) ∷ (symbol s.Semicolon, x.end_line) ∷ y)) (sym (append-nil (written_parts x.parts)))
    ∙ (leads_both turns.language turns.outside turns.outside ((name (codes "language"), x.word_line) ∷ (number 3, x.number_line) ∷ (symbol s.Semicolon, x.end_line) ∷ []) (written_parts x.parts) ((name (codes "language"), x.word_line) ∷ (number 2, x.number_line) ∷ (symbol s.Semicolon, x.end_line) ∷ []) (expanded_parts x.parts) (language_leads x.word_line x.number_line x.end_line) (parts_lead x.parts h)).leads []
    ∙ ap Some (append-nil (expanded x))
    ∙ ap Some (sym g)
