-- That a text has one cut, and how a cut goes on from a piece.
use Rattle.std.proofs.Common.{◌≡◌, ℕ, zero, suc, ◌+◌, ◌-◌, ◌<◌, ◌≤◌, true, false, List, [], ◌∷◌, ◌++◌, length, length-drop, take, drop, Some, None, ◌∙◌, refl, sym, ap, subst, ⊎_elim, arith}
use Rattle.std.proofs.lemmas.Bool.{cases_order}
use Rattle.model_lexer.specs.Tokens.{Token}
use Rattle.model_lexer.specs.declared.forms.Form.{Form}
use Rattle.model_lexer.specs.declared.forms.Form.TheVariants as form
use Rattle.model_lexer.specs.Forms.{form_of, is_passed}
use Rattle.model_lexer.specs.Meanings.{meaning}
use Rattle.model_lexer.proofs.Longest.{nothing_formless}
use Rattle.model_lexer.specs.Cut.{IsPiece, line_at, Lexeme, IsGap, AreGaps, IsPassed, IsToken, CutUpTo, CutFrom, IsStuck}

some_same : {A : Type 0} (x y : A) → Some x ≡ Some y → x ≡ y
some_same x y e = cc

formed_twice : (bytes : List ℕ) (f g : Form) (n m : ℕ) → IsPiece bytes f n → IsPiece bytes g m → n ≡ m → f ≡ g
formed_twice bytes f g n m a b e =
    let one : Some f ≡ form_of (take n bytes) = sym a.formed in
    let two : form_of (take n bytes) ≡ form_of (take m bytes) = ap (λ k. form_of (take k bytes)) e in
    some_same f g (one ∙ two ∙ b.formed)

no_longer : (bytes : List ℕ) (f g : Form) (n m : ℕ) → IsPiece bytes f n → IsPiece bytes g m → n < m → ⊥
no_longer bytes f g n m a b h =
    let none : form_of (take m bytes) ≡ None = a.longest m h b.within in
    let e : Some g ≡ None = sym b.formed ∙ none in
    cc

-- bytes have one piece at their front
pub one_piece : (bytes : List ℕ) (f g : Form) (n m : ℕ) → IsPiece bytes f n → IsPiece bytes g m → (f ≡ g) × (n ≡ m)
one_piece bytes f g n m a b =
    ⊎_elim
    (λ (e : n ≡ m). (formed_twice bytes f g n m a b e, e))
    (⊎_elim
    (λ (h : n < m). absurd (no_longer bytes f g n m a b h))
    (λ (h : m < n). absurd (no_longer bytes g f m n b a h)))
    (cases_order n m)

-- a piece has bytes
pub piece_some : (bytes : List ℕ) (f : Form) (n : ℕ) → IsPiece bytes f n → 0 < n
piece_some bytes f zero a = let e : None ≡ Some f = sym nothing_formless ∙ a.formed in cc
piece_some bytes f (suc n) a = omega arith

pub piece_within : (text : List ℕ) (at : ℕ) (f : Form) (n : ℕ) → IsPiece (drop at text) f n → (at < length text) × (at + n ≤ length text)
piece_within text at f n a =
    let some : 0 < n = piece_some (drop at text) f n a in
    let size : length (drop at text) ≡ length text - at = length-drop at text in
    let few : n ≤ length (drop at text) = a.within in
    (omega arith, omega arith)

passed_means_none : (f : Form) (bytes : List ℕ) → is_passed f ≡ true → meaning f bytes ≡ None
passed_means_none form.Blank bytes p = refl
passed_means_none form.Comment bytes p = refl
passed_means_none form.Word bytes p = cc
passed_means_none form.Decimal bytes p = cc
passed_means_none form.Hexadecimal bytes p = cc
passed_means_none form.Logic bytes p = cc
passed_means_none form.Text bytes p = cc
passed_means_none form.Symbol bytes p = cc

-- what is passed over is no token
apart : (bytes : List ℕ) (f g : Form) (n m : ℕ) (t : Token) → IsPiece bytes f n → is_passed f ≡ true → IsPiece bytes g m → meaning g (take m bytes) ≡ Some t → ⊥
apart bytes f g n m t a p b e =
    let same : f ≡ g = (one_piece bytes f g n m a b).0 in
    let q : is_passed g ≡ true = ap is_passed (sym same) ∙ p in
    let none : meaning g (take m bytes) ≡ None = passed_means_none g (take m bytes) q in
    let no : Some t ≡ None = sym e ∙ none in
    cc

-- a token that starts at a place
module _ (text : List ℕ) (at : ℕ) (t : Lexeme) (e : at ≡ t.start) (k : IsToken text t) where
  pub piece_here : IsPiece (drop at text) k.form k.len
  piece_here = subst (λ (x : ℕ). IsPiece (drop x text) k.form k.len) (sym e) k.piece

  pub meant_here : meaning k.form (take k.len (drop at text)) ≡ Some t.token
  meant_here = subst (λ (x : ℕ). meaning k.form (take k.len (drop x text)) ≡ Some t.token) (sym e) k.meant

-- behind the text there is no token
pub at_end : (text : List ℕ) (at : ℕ) (ts : List Lexeme) → length text ≤ at → CutFrom text at ts → ts ≡ []
at_end text at [] h c = refl
at_end text at (t ∷ ts) h (([], e), k, more) = let w = piece_within text at k.form k.len (piece_here text at t e k) in absurd (omega arith)
at_end text at (t ∷ ts) h (((n ∷ ns), ((f, a, p), gaps)), k, more) = let w = piece_within text at f n a in absurd (omega arith)

-- a gap in front of a cut
pub gap_in : (text : List ℕ) (at n : ℕ) (ts : List Lexeme) → IsGap (drop at text) n → CutFrom text (at + n) ts → CutFrom text at ts
gap_in text at n [] g (ns, gaps) = (n ∷ ns, (g, gaps))
gap_in text at n (t ∷ ts) g ((ns, gaps), k, more) = ((n ∷ ns, (g, gaps)), k, more)

module _ (text : List ℕ) (at : ℕ) (f : Form) (n : ℕ) (a : IsPiece (drop at text) f n) where
  gaps_out : (up : ℕ) (ns : List ℕ) → (at ≡ up → ⊥) → AreGaps text at up ns → IsPassed text (at + n) up
  gaps_out up [] never e = absurd (never e)
  gaps_out up (m ∷ ns) never ((g, b, q), gaps) =
      let same : m ≡ n = sym (one_piece (drop at text) f g n m a b).1 in
      (ns, subst (λ (x : ℕ). AreGaps text (at + x) up ns) same gaps)

  -- behind a gap at its front a cut goes on
  pub gap_out : (ts : List Lexeme) → is_passed f ≡ true → CutFrom text at ts → CutFrom text (at + n) ts
  gap_out [] p (ns, gaps) =
      let w = piece_within text at f n a in
      gaps_out (length text) ns (λ (e : at ≡ length text). let no : ⊥ = absurd (omega arith) in no) gaps
  gap_out (t ∷ ts) p ((ns, gaps), k, more) =
      (gaps_out t.start ns (λ (e : at ≡ t.start). apart (drop at text) f k.form n k.len t.token a p (piece_here text at t e k) (meant_here text at t e k)) gaps, k, more)

-- a token at its place
abbrev pub lexeme : List ℕ → ℕ → ℕ → Token → Lexeme
lexeme text at n t = record { token = t; start = at; end = at + n; line = line_at text at }

made : Token → ℕ → ℕ → ℕ → Lexeme
made t start end line = record { token = t; start = start; end = end; line = line }

made_is : (t : Lexeme) → made t.token t.start t.end t.line ≡ t
unfolding made
made_is t = refl

same_lexeme : (t u : Lexeme) → t.token ≡ u.token → t.start ≡ u.start → t.end ≡ u.end → t.line ≡ u.line → t ≡ u
same_lexeme t u a b c d =
    let one : made t.token t.start t.end t.line ≡ made u.token u.start u.end u.line = cc in
    sym (made_is t) ∙ one ∙ made_is u

-- a token in front of a cut
pub token_in : (text : List ℕ) (at n : ℕ) (f : Form) (t : Token) (ts : List Lexeme) → IsPiece (drop at text) f n → meaning f (take n (drop at text)) ≡ Some t → CutFrom text (at + n) ts → CutFrom text at (lexeme text at n t ∷ ts)
token_in text at n f t ts a e c = (([], refl), record { form = f; len = n; piece = a; meant = e; ends = refl; lined = refl }, c)

-- a cut that goes on from this token
abbrev pub GoesOn : List ℕ → ℕ → ℕ → Token → List Lexeme → Type 0
GoesOn text at n t ts = (us : List Lexeme) × (ts ≡ lexeme text at n t ∷ us) × CutFrom text (at + n) us

module _ (text : List ℕ) (at n : ℕ) (f : Form) (t : Token) (a : IsPiece (drop at text) f n) (e : meaning f (take n (drop at text)) ≡ Some t) where
  no_gap : (up : ℕ) (ns : List ℕ) → AreGaps text at up ns → at ≡ up
  no_gap up [] gaps = gaps
  no_gap up (m ∷ ns) ((g, b, q), gaps) = absurd (apart (drop at text) g f m n t b q a e)

  -- with a token at its front, a cut is that token and goes on behind it
  pub token_out : (ts : List Lexeme) → CutFrom text at ts → GoesOn text at n t ts
  token_out [] (ns, gaps) =
      let w = piece_within text at f n a in
      let here : at ≡ length text = no_gap (length text) ns gaps in
      absurd (omega arith)
  token_out (u ∷ us) ((ns, gaps), k, more) =
      let here : at ≡ u.start = no_gap u.start ns gaps in
      let b : IsPiece (drop at text) k.form k.len = piece_here text at u here k in
      let m : meaning k.form (take k.len (drop at text)) ≡ Some u.token = meant_here text at u here k in
      let same = one_piece (drop at text) k.form f k.len n b a in
      let means : Some u.token ≡ Some t = sym m ∙ ap (λ (x : ℕ). meaning k.form (take x (drop at text))) same.1 ∙ ap (λ (g : Form). meaning g (take n (drop at text))) same.0 ∙ e in
      let ends : u.end ≡ at + n = omega (arith, k.ends) in
      let lined : u.line ≡ line_at text at = k.lined ∙ ap (line_at text) (sym here) in
      let one : u ≡ lexeme text at n t = same_lexeme u (lexeme text at n t) (some_same u.token t means) (sym here) ends lined in
      (us, ap (λ (x : Lexeme). x ∷ us) one, subst (λ (x : ℕ). CutFrom text x us) ends more)

-- where nothing stands that may, there is no cut
pub stuck : (text : List ℕ) (at : ℕ) → at < length text → IsStuck (drop at text) → (ts : List Lexeme) → CutFrom text at ts → ⊥
stuck text at h none [] ([], e) = absurd (omega arith)
stuck text at h none [] ((n ∷ ns), ((f, a, p), gaps)) = let q : is_passed f ≡ false = (none f n a).0 in cc
stuck text at h none (t ∷ ts) (((n ∷ ns), ((f, a, p), gaps)), k, more) = let q : is_passed f ≡ false = (none f n a).0 in cc
stuck text at h none (t ∷ ts) (([], e), k, more) =
    let nil : meaning k.form (take k.len (drop at text)) ≡ None = (none k.form k.len (piece_here text at t e k)).1 in
    let some : Some t.token ≡ None = sym (meant_here text at t e k) ∙ nil in
    cc

gaps_passed : (text : List ℕ) (at up : ℕ) (ns : List ℕ) (us : List Lexeme) → AreGaps text at up ns → CutFrom text at us → CutFrom text up us
gaps_passed text at up [] us e c = subst (λ (x : ℕ). CutFrom text x us) e c
gaps_passed text at up (n ∷ ns) us ((f, a, p), gaps) c = gaps_passed text (at + n) up ns us gaps (gap_out text at f n a us p c)

-- no text has two cuts
pub one_cut_from : (text : List ℕ) (at : ℕ) (ts us : List Lexeme) → CutFrom text at ts → CutFrom text at us → ts ≡ us
one_cut_from text at [] us (ns, gaps) d = sym (at_end text (length text) us (omega arith) (gaps_passed text at (length text) ns us gaps d))
one_cut_from text at (t ∷ ts) us ((ns, gaps), k, more) d =
    let here : CutFrom text t.start us = gaps_passed text at t.start ns us gaps d in
    let (vs, e, rest) = token_out text t.start k.len k.form t.token k.piece k.meant us here in
    let one : t ≡ lexeme text t.start k.len t.token = same_lexeme t (lexeme text t.start k.len t.token) refl refl k.ends k.lined in
    let rest' : CutFrom text t.end vs = subst (λ (x : ℕ). CutFrom text x vs) (sym k.ends) rest in
    let more' : ts ≡ vs = one_cut_from text t.end ts vs more rest' in
    let all : t ∷ ts ≡ lexeme text t.start k.len t.token ∷ vs = cc in
    all ∙ sym e

-- a cut up to a place goes on behind a gap, and behind a token

more_gaps : (text : List ℕ) (from at n : ℕ) (ns : List ℕ) → AreGaps text from at ns → IsGap (drop at text) n → AreGaps text from (at + n) (ns ++ n ∷ [])
more_gaps text from at n [] e g = (subst (λ (x : ℕ). IsGap (drop x text) n) (sym e) g, ap (λ (x : ℕ). x + n) e)
more_gaps text from at n (m ∷ ns) (h, gaps) g = (h, more_gaps text (from + m) at n ns gaps g)

pub up_to_gap : (text : List ℕ) (from at n : ℕ) (ts : List Lexeme) → CutUpTo text from at ts → IsGap (drop at text) n → CutUpTo text from (at + n) ts
up_to_gap text from at n [] (ns, gaps) g = (ns ++ n ∷ [], more_gaps text from at n ns gaps g)
up_to_gap text from at n (t ∷ ts) (gap, k, more) g = (gap, k, up_to_gap text t.end at n ts more g)

pub up_to_token : (text : List ℕ) (from at n : ℕ) (f : Form) (t : Token) (ts : List Lexeme) → CutUpTo text from at ts → IsPiece (drop at text) f n → meaning f (take n (drop at text)) ≡ Some t → CutUpTo text from (at + n) (ts ++ lexeme text at n t ∷ [])
up_to_token text from at n f t [] gap a e = (gap, record { form = f; len = n; piece = a; meant = e; ends = refl; lined = refl }, ([], refl))
up_to_token text from at n f t (u ∷ us) (gap, k, more) a e = (gap, k, up_to_token text u.end at n f t us more a e)
