-- What tokens become keeps the limits of tokens.
use Rattle.std.proofs.Common.{◌≡◌, ℕ, ◌-◌, Bool, true, false, ◌&&◌, List, [], ◌∷◌, ◌++◌, length, drop, codes, Option, Some, None, ◌∙◌, refl, sym, ap, arith}
use Rattle.std.specs.Prelude.{is_none, nat_le}
use Rattle.std.specs.List.{list_all}
use Rattle.std.specs.Str.{bytes_eq}
use Rattle.std.proofs.Math.Seq.{drop-append_seam}
use Rattle.std.proofs.lemmas.Bool.{and_parts, and_from}
use Rattle.std.proofs.lemmas.List.{length-append}
use Rattle.std.proofs.lemmas.List.Folds.{list_all-append}
use Rattle.std.proofs.lemmas.Slice.Eq.{bytes_eq-Decides}
use Rattle.model_lexer.specs.ModelTree.declared.vocabulary.Word.{Word}
use Rattle.model_lexer.specs.ModelTree.declared.vocabulary.Word.TheVariants as w
use Rattle.model_lexer.specs.ModelTree.declared.vocabulary.Symbol.TheVariants as s
use Rattle.model_tree.specs.declared.vocabulary.TheConstants.{WORDS}
use Rattle.model_tree.specs.Vocabulary.{word_text, word_of}
use Rattle.model_tree.specs.Leaves.{is_letter, is_word_byte, is_word, is_name}
use Rattle.model_lexer.specs.Tokens.{Token, Tokens, name, number, word, symbol, is_limited, each_is}
use Rattle.model_lexer.specs.Versions.{is_plain}
use Rattle.model_lexer.specs.Cut.{Lexeme, CutFrom}
use Rattle.model_lexer.specs.Laws.{with_lines}
use Rattle.model_lexer.proofs.CutLaws.{cut_limited, cut_plain}
use Rattle.model_lexer.proofs.Symbols.{find_passes}
use Rattle.clocked.specs.declared.words.NewWord.{NewWord}
use Rattle.clocked.specs.declared.words.NewWord.TheVariants as n
use Rattle.clocked.specs.Words.{new_word}
use Rattle.clocked.specs.Parts.{Reset, WrittenReset, Piece, plain, tick, Clocked, Part, kept, clocked, Text, truth, clock_of, written_reset, written_piece, written_body, written_head, written_part, written_parts, written, reset_name, fits_reset, IfWritten, IsPart, AreParts}
use Rattle.clocked.specs.Expanded.{put, test, test_of, Resets, tick_before, wait_before, wait_behind, tick_behind, expanded_piece, expanded_body, last_line, resets_of, reset_of, body_before, body_behind, reset_body, reset_method, expanded_head, expanded_part, expanded_parts, expanded}
use Rattle.expanded_text.proofs.Spelled.{token_spelled}
use Rattle.expanded_text.proofs.Reading.{AreSpelled}

-- a token within its limits, which a text may be cut into
abbrev good : Token → Bool
good t = is_limited t && is_plain t

abbrev Good : Tokens → Type 0
Good ts = each_is good ts ≡ true

good_cut : (ts : Tokens) → each_is is_limited ts ≡ true → each_is is_plain ts ≡ true → Good ts
good_cut [] h k = refl
good_cut (t ∷ ts) h k =
    let limited = and_parts (is_limited t.0) (each_is is_limited ts) h in
    let plain = and_parts (is_plain t.0) (each_is is_plain ts) k in
    and_from (good t.0) (each_is good ts) (and_from (is_limited t.0) (is_plain t.0) limited.0 plain.0) (good_cut ts limited.1 plain.1)

good_spelled : (ts : Tokens) → Good ts → AreSpelled ts
good_spelled [] h = tt
good_spelled (t ∷ ts) h =
    let both = and_parts (good t.0) (each_is good ts) h in
    let one = and_parts (is_limited t.0) (is_plain t.0) both.0 in
    (token_spelled t.0 one.0 one.1, good_spelled ts both.1)

-- one more, and some and others

on : (t : Token) (l : ℕ) (ts : Tokens) → good t ≡ true → Good ts → Good ((t, l) ∷ ts)
on t l ts h k = and_from (good t) (each_is good ts) h k

first : (t : Token) (l : ℕ) (ts : Tokens) → Good ((t, l) ∷ ts) → good t ≡ true
first t l ts h = (and_parts (good t) (each_is good ts) h).0

rest : (t : Token) (l : ℕ) (ts : Tokens) → Good ((t, l) ∷ ts) → Good ts
rest t l ts h = (and_parts (good t) (each_is good ts) h).1

both : (xs ys : Tokens) → Good xs → Good ys → Good (xs ++ ys)
both [] ys h k = k
both (x ∷ xs) ys h k = on x.0 x.1 (xs ++ ys) (first x.0 x.1 xs h) (both xs ys (rest x.0 x.1 xs h) k)

left : (xs ys : Tokens) → Good (xs ++ ys) → Good xs
left [] ys h = refl
left (x ∷ xs) ys h = on x.0 x.1 xs (first x.0 x.1 (xs ++ ys) h) (left xs ys (rest x.0 x.1 (xs ++ ys) h))

right : (xs ys : Tokens) → Good (xs ++ ys) → Good ys
right [] ys h = h
right (x ∷ xs) ys h = right xs ys (rest x.0 x.1 (xs ++ ys) h)

-- tokens that are put in

puts : (l : ℕ) (ts : List Token) → list_all good ts ≡ true → Good (put l ts)
puts l [] h = refl
puts l (t ∷ ts) h = let parts = and_parts (good t) (list_all good ts) h in on t l (put l ts) parts.0 (puts l ts parts.1)

truth_good : (b : Bool) → good (truth b) ≡ true
truth_good true = refl
truth_good false = refl

all_on : (t : Token) (ts : List Token) → good t ≡ true → list_all good ts ≡ true → list_all good (t ∷ ts) ≡ true
all_on t ts h k = and_from (good t) (list_all good ts) h k

all_both : (xs ys : List Token) → list_all good xs ≡ true → list_all good ys ≡ true → list_all good (xs ++ ys) ≡ true
all_both xs ys h k = list_all-append good xs ys ∙ and_from (list_all good xs) (list_all good ys) h k

-- whether the signal of a reset is a name
abbrev IsNamed : Option Reset → Type 0
IsNamed None = Unit {0}
IsNamed (Some r) = good (name r.signal) ≡ true

throws_good : list_all good (symbol s.LeftBrace ∷ word w.Throw ∷ new_word n.TickReset ∷ symbol s.Semicolon ∷ symbol s.RightBrace ∷ []) ≡ true
unfolding word_of
throws_good = refl

test_good : (r : Reset) → good (name r.signal) ≡ true → list_all good (test r) ≡ true
test_good r h =
    let throws : List Token = symbol s.LeftBrace ∷ word w.Throw ∷ new_word n.TickReset ∷ symbol s.Semicolon ∷ symbol s.RightBrace ∷ [] in
    all_on (word w.If) (name r.signal ∷ symbol s.EqualEqual ∷ truth r.level ∷ throws) refl
    (all_on (name r.signal) (symbol s.EqualEqual ∷ truth r.level ∷ throws) h
    (all_on (symbol s.EqualEqual) (truth r.level ∷ throws) refl
    (all_on (truth r.level) throws (truth_good r.level) throws_good)))

tests_good : (o : Option Reset) → IsNamed o → list_all good (test_of o) ≡ true
tests_good None h = refl
tests_good (Some r) h = test_good r h

tick_before_good : list_all good tick_before ≡ true
unfolding word_of
tick_before_good = refl

tick_one_good : list_all good (tick_before ++ number 1 ∷ []) ≡ true
unfolding word_of
tick_one_good = refl

wait_before_good : list_all good wait_before ≡ true
unfolding word_of
wait_before_good = refl

wait_behind_good : list_all good wait_behind ≡ true
unfolding word_of
wait_behind_good = refl

body_before_good : list_all good body_before ≡ true
unfolding word_of
body_before_good = refl

body_behind_good : list_all good body_behind ≡ true
unfolding word_of
body_behind_good = refl

tick_behind_good : (rs : Resets) → IsNamed rs.0 → IsNamed rs.1 → list_all good (tick_behind rs) ≡ true
tick_behind_good rs h k =
    all_both wait_before (test_of rs.0 ++ (test_of rs.1 ++ wait_behind)) wait_before_good
    (all_both (test_of rs.0) (test_of rs.1 ++ wait_behind) (tests_good rs.0 h) (all_both (test_of rs.1) wait_behind (tests_good rs.1 k) wait_behind_good))

-- the name of the method that resets a thread

abbrev ends_so : List ℕ → Bool
ends_so xs = bytes_eq (drop (length xs - 7) xs) (codes "_areset")

no_word_ends_so : (u : Word) → ends_so (word_text u) ≡ false
no_word_ends_so w.Module = refl
no_word_ends_so _ = refl

word_spells : (bytes : List ℕ) (u : Word) → word_of bytes ≡ Some u → word_text u ≡ bytes
unfolding word_of
word_spells bytes u h = (bytes_eq-Decides (word_text u) bytes).0 (find_passes (λ v. bytes_eq (word_text v) bytes) WORDS u h)

nothing : {X : Type 0} (o : Option X) → ((x : X) → o ≡ Some x → ⊥) → is_none o ≡ true
nothing None f = refl
nothing (Some x) f = absurd (f x refl)

reset_ends_so : (x : List ℕ) → ends_so (x ++ codes "_areset") ≡ true
reset_ends_so x =
    let size : length (x ++ codes "_areset") - 7 ≡ length x = omega (arith, length-append x (codes "_areset")) in
    rw (size, drop-append_seam x (codes "_areset")) refl

reset_no_word : (x : List ℕ) → is_none (word_of (x ++ codes "_areset")) ≡ true
reset_no_word x =
    nothing (word_of (x ++ codes "_areset")) (λ u e.
    let same : ends_so (word_text u) ≡ ends_so (x ++ codes "_areset") = ap ends_so (word_spells (x ++ codes "_areset") u e) in
    let none : ends_so (word_text u) ≡ false = no_word_ends_so u in
    let some : ends_so (x ++ codes "_areset") ≡ true = reset_ends_so x in
    let no : ⊥ = cc in no)

reset_is_word : (x : List ℕ) → is_word x ≡ true → is_word (x ++ codes "_areset") ≡ true
reset_is_word [] h = refl
reset_is_word (b ∷ bs) h =
    let parts = and_parts (is_letter b) (list_all is_word_byte bs) h in
    and_from (is_letter b) (list_all is_word_byte (bs ++ codes "_areset")) parts.0
    (list_all-append is_word_byte bs (codes "_areset") ∙ and_from (list_all is_word_byte bs) true parts.1 refl)

reset_name_good : (x : List ℕ) → good (name x) ≡ true → fits_reset x ≡ true → good (name (reset_name x)) ≡ true
reset_name_good x h fits =
    let limited = (and_parts (is_name x) true h).0 in
    let formed = (and_parts (is_word x && nat_le (length x) 64) (is_none (word_of x)) limited).0 in
    let is = (and_parts (is_word x) (nat_le (length x) 64) formed).0 in
    let size : nat_le (length (x ++ codes "_areset")) 64 ≡ true = ap (λ (k : ℕ). nat_le k 64) (length-append x (codes "_areset")) ∙ fits in
    and_from (is_name (x ++ codes "_areset")) true
    (and_from (is_word (x ++ codes "_areset") && nat_le (length (x ++ codes "_areset")) 64) (is_none (word_of (x ++ codes "_areset")))
    (and_from (is_word (x ++ codes "_areset")) (nat_le (length (x ++ codes "_areset")) 64) (reset_is_word x is) size) (reset_no_word x))
    refl

resets_it_good : (thread : List ℕ) → good (name thread) ≡ true → list_all good (symbol s.LeftBrace ∷ word w.Reset ∷ name thread ∷ symbol s.Semicolon ∷ symbol s.RightBrace ∷ symbol s.RightBrace ∷ []) ≡ true
resets_it_good thread h =
    let ends : List Token = symbol s.Semicolon ∷ symbol s.RightBrace ∷ symbol s.RightBrace ∷ [] in
    all_on (symbol s.LeftBrace) (word w.Reset ∷ name thread ∷ ends) refl (all_on (word w.Reset) (name thread ∷ ends) refl (all_on (name thread) ends h refl))

reset_body_good : (thread : List ℕ) (r : Reset) → good (name thread) ≡ true → good (name r.signal) ≡ true → list_all good (reset_body thread r) ≡ true
reset_body_good thread r h k =
    let it : List Token = symbol s.LeftBrace ∷ word w.Reset ∷ name thread ∷ symbol s.Semicolon ∷ symbol s.RightBrace ∷ symbol s.RightBrace ∷ [] in
    let asks : List Token = word w.If ∷ name r.signal ∷ symbol s.EqualEqual ∷ truth r.level ∷ it in
    all_on (word w.Sensitive) (name r.signal ∷ word w.DontInitialize ∷ symbol s.LeftBrace ∷ asks) refl
    (all_on (name r.signal) (word w.DontInitialize ∷ symbol s.LeftBrace ∷ asks) k
    (all_on (word w.DontInitialize) (symbol s.LeftBrace ∷ asks) refl
    (all_on (symbol s.LeftBrace) asks refl
    (all_on (word w.If) (name r.signal ∷ symbol s.EqualEqual ∷ truth r.level ∷ it) refl
    (all_on (name r.signal) (symbol s.EqualEqual ∷ truth r.level ∷ it) k
    (all_on (symbol s.EqualEqual) (truth r.level ∷ it) refl
    (all_on (truth r.level) it (truth_good r.level) (resets_it_good thread h))))))))

reset_method_good : (thread : List ℕ) (o : Option Reset) → good (name thread) ≡ true → IsNamed o → IfWritten o (λ (r : Reset). fits_reset thread ≡ true) → list_all good (reset_method thread o) ≡ true
reset_method_good thread None h k fits = refl
reset_method_good thread (Some r) h k fits =
    all_on (word w.Method) (name (reset_name thread) ∷ reset_body thread r) refl (all_on (name (reset_name thread)) (reset_body thread r) (reset_name_good thread h fits) (reset_body_good thread r h k))

-- ---- what tokens become

piece_good : (rs : Resets) (p : Piece) → IsNamed rs.0 → IsNamed rs.1 → Good (written_piece p) → Good (expanded_piece rs p)
piece_good rs (plain t l) h k good_is = good_is
piece_good rs (tick l None end) h k good_is =
    both (put l (tick_before ++ number 1 ∷ [])) ((symbol s.Semicolon, end) ∷ put end (tick_behind rs)) (puts l (tick_before ++ number 1 ∷ []) tick_one_good)
    (on (symbol s.Semicolon) end (put end (tick_behind rs)) refl (puts end (tick_behind rs) (tick_behind_good rs h k)))
piece_good rs (tick l (Some v) end) h k good_is =
    both (put l tick_before) ((number v.0, v.1) ∷ (symbol s.Semicolon, end) ∷ put end (tick_behind rs)) (puts l tick_before tick_before_good)
    (on (number v.0) v.1 ((symbol s.Semicolon, end) ∷ put end (tick_behind rs)) (first (number v.0) v.1 ((symbol s.Semicolon, end) ∷ []) (rest (new_word n.Tick) l ((number v.0, v.1) ∷ (symbol s.Semicolon, end) ∷ []) good_is))
    (on (symbol s.Semicolon) end (put end (tick_behind rs)) refl (puts end (tick_behind rs) (tick_behind_good rs h k))))

body_good : (rs : Resets) (ps : List Piece) → IsNamed rs.0 → IsNamed rs.1 → Good (written_body ps) → Good (expanded_body rs ps)
body_good rs [] h k good_is = refl
body_good rs (p ∷ ps) h k good_is =
    both (expanded_piece rs p) (expanded_body rs ps) (piece_good rs p h k (left (written_piece p) (written_body ps) good_is)) (body_good rs ps h k (right (written_piece p) (written_body ps) good_is))

reset_named : (r : NewWord) (o : Option WrittenReset) → Good (written_reset r o) → IsNamed (reset_of o)
reset_named r None h = tt
reset_named r (Some x) h = first (name x.reset.signal) x.signal_line ((truth x.reset.level, x.level_line) ∷ []) (rest (new_word r) x.word_line ((name x.reset.signal, x.signal_line) ∷ (truth x.reset.level, x.level_line) ∷ []) h)

fits_still : (thread : List ℕ) (o : Option WrittenReset) → IfWritten o (λ (x : WrittenReset). fits_reset thread ≡ true) → IfWritten (reset_of o) (λ (r : Reset). fits_reset thread ≡ true)
fits_still thread None h = tt
fits_still thread (Some x) h = h

-- what is known of the names of a clocked thread
record Named (f : Clocked) : Type 0 where
  thread : good (name f.name) ≡ true
  clock : Good (clock_of f)
  asynchronous : IsNamed (reset_of f.asynchronous)
  synchronous : IsNamed (reset_of f.synchronous)

head_named : (f : Clocked) → Good (written_head f) → Named f
head_named f h =
    let behind : Good ((name f.name, f.name_line) ∷ (clock_of f ++ (written_reset n.AsyncReset f.asynchronous ++ (written_reset n.SyncReset f.synchronous ++ (symbol s.LeftBrace, f.from) ∷ [])))) =
    rest (new_word n.Cthread) f.line ((name f.name, f.name_line) ∷ (clock_of f ++ (written_reset n.AsyncReset f.asynchronous ++ (written_reset n.SyncReset f.synchronous ++ (symbol s.LeftBrace, f.from) ∷ [])))) h in
    let more : Good (clock_of f ++ (written_reset n.AsyncReset f.asynchronous ++ (written_reset n.SyncReset f.synchronous ++ (symbol s.LeftBrace, f.from) ∷ []))) =
    rest (name f.name) f.name_line (clock_of f ++ (written_reset n.AsyncReset f.asynchronous ++ (written_reset n.SyncReset f.synchronous ++ (symbol s.LeftBrace, f.from) ∷ []))) behind in
    let resets : Good (written_reset n.AsyncReset f.asynchronous ++ (written_reset n.SyncReset f.synchronous ++ (symbol s.LeftBrace, f.from) ∷ [])) =
    right (clock_of f) (written_reset n.AsyncReset f.asynchronous ++ (written_reset n.SyncReset f.synchronous ++ (symbol s.LeftBrace, f.from) ∷ [])) more in
    record {
      thread = first (name f.name) f.name_line (clock_of f ++ (written_reset n.AsyncReset f.asynchronous ++ (written_reset n.SyncReset f.synchronous ++ (symbol s.LeftBrace, f.from) ∷ []))) behind;
      clock = left (clock_of f) (written_reset n.AsyncReset f.asynchronous ++ (written_reset n.SyncReset f.synchronous ++ (symbol s.LeftBrace, f.from) ∷ [])) more;
      asynchronous = reset_named n.AsyncReset f.asynchronous (left (written_reset n.AsyncReset f.asynchronous) (written_reset n.SyncReset f.synchronous ++ (symbol s.LeftBrace, f.from) ∷ []) resets);
      synchronous =
          reset_named n.SyncReset f.synchronous
          (left (written_reset n.SyncReset f.synchronous) ((symbol s.LeftBrace, f.from) ∷ []) (right (written_reset n.AsyncReset f.asynchronous) (written_reset n.SyncReset f.synchronous ++ (symbol s.LeftBrace, f.from) ∷ []) resets));
    }

head_good : (f : Clocked) → Named f → Good (expanded_head f)
head_good f h =
    let begins : Tokens = (word w.DontInitialize, f.edge_line) ∷ (symbol s.LeftBrace, f.from) ∷ [] in
    on (word w.Thread) f.line ((name f.name, f.name_line) ∷ (word w.Sensitive, f.name_line) ∷ (clock_of f ++ begins)) refl
    (on (name f.name) f.name_line ((word w.Sensitive, f.name_line) ∷ (clock_of f ++ begins)) h.thread
    (on (word w.Sensitive) f.name_line (clock_of f ++ begins) refl (both (clock_of f) begins h.clock refl)))

part_good : (p : Part) → IsPart p → Good (written_part p) → Good (expanded_part p)
part_good (kept t l) is h = h
part_good (clocked f) is h =
    let named : Named f = head_named f (left (written_head f) (written_body f.body ++ (symbol s.RightBrace, f.to) ∷ []) h) in
    let body : Good (written_body f.body) = left (written_body f.body) ((symbol s.RightBrace, f.to) ∷ []) (right (written_head f) (written_body f.body ++ (symbol s.RightBrace, f.to) ∷ []) h) in
    let behind : Tokens = (symbol s.RightBrace, f.to) ∷ put f.to (reset_method f.name (reset_of f.asynchronous)) in
    let ends : Tokens = put (last_line f.from f.body) body_behind ++ behind in
    both (expanded_head f) (put f.from body_before ++ (expanded_body (resets_of f) f.body ++ ends)) (head_good f named)
    (both (put f.from body_before) (expanded_body (resets_of f) f.body ++ ends) (puts f.from body_before body_before_good)
    (both (expanded_body (resets_of f) f.body) ends (body_good (resets_of f) f.body named.asynchronous named.synchronous body)
    (both (put (last_line f.from f.body) body_behind) behind (puts (last_line f.from f.body) body_behind body_behind_good)
    (on (symbol s.RightBrace) f.to (put f.to (reset_method f.name (reset_of f.asynchronous))) refl
    (puts f.to (reset_method f.name (reset_of f.asynchronous)) (reset_method_good f.name (reset_of f.asynchronous) named.thread named.asynchronous (fits_still f.name f.asynchronous is.fits)))))))

parts_good : (ps : List Part) → AreParts ps → Good (written_parts ps) → Good (expanded_parts ps)
parts_good [] are h = refl
parts_good (p ∷ ps) are h =
    both (expanded_part p) (expanded_parts ps) (part_good p are.0 (left (written_part p) (written_parts ps) h)) (parts_good ps are.1 (right (written_part p) (written_parts ps) h))

text_good : (x : Text) → AreParts x.parts → Good (written x) → Good (expanded x)
text_good x are h =
    let one : good (name (codes "language")) ≡ true = first (name (codes "language")) x.word_line ((number 3, x.number_line) ∷ (symbol s.Semicolon, x.end_line) ∷ written_parts x.parts) h in
    let behind : Good ((number 3, x.number_line) ∷ (symbol s.Semicolon, x.end_line) ∷ written_parts x.parts) = rest (name (codes "language")) x.word_line ((number 3, x.number_line) ∷ (symbol s.Semicolon, x.end_line) ∷ written_parts x.parts) h in
    let more : Good (written_parts x.parts) =
    rest (symbol s.Semicolon) x.end_line (written_parts x.parts) (rest (number 3) x.number_line ((symbol s.Semicolon, x.end_line) ∷ written_parts x.parts) behind) in
    on (name (codes "language")) x.word_line ((number 2, x.number_line) ∷ (symbol s.Semicolon, x.end_line) ∷ expanded_parts x.parts) one
    (on (number 2) x.number_line ((symbol s.Semicolon, x.end_line) ∷ expanded_parts x.parts) refl (on (symbol s.Semicolon) x.end_line (expanded_parts x.parts) refl (parts_good x.parts are more)))

-- each token of what the tokens of a text become is written so that it reads as itself
pub becomes_spelled : (text : List ℕ) (ls : List Lexeme) (x : Text) → CutFrom text 0 ls → AreParts x.parts → with_lines ls ≡ written x → AreSpelled (expanded x)
becomes_spelled text ls x cut are is =
    let whole : Good (with_lines ls) = good_cut (with_lines ls) (cut_limited text 0 ls cut) (cut_plain text 0 ls cut) in
    let all : Good (written x) = sym (ap (each_is good) is) ∙ whole in
    good_spelled (expanded x) (text_good x are all)
