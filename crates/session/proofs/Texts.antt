-- What a step adds to a report, from the lines that are made of it.
use Rattle.std.proofs.Common.{◌≡◌, ℕ, List, [], ◌∷◌, ◌++◌, take, drop, length, inl, inr, Option, Some, None, Result, Ok, Err, refl, sym, ap, ◌∙◌, arith, append-nil, append_assoc, length-append, length-take, take-append-drop}
use Rattle.std.specs.Prelude.{slice_get}
use Rattle.std.specs.List.{flat_map}
use Rattle.flat_design.specs.LogicValues.declared.kinds.Value.{Value}
use Rattle.sim_io.specs.Moved.{Moved, SinkTook, FileTook}
use Rattle.sim_io.specs.Contents.{Files, Grew}
use Rattle.sim_io.specs.Writes.{PieceTaken, TookOf}
use Rattle.sim_io.specs.Writes as piece
use Rattle.sim_io.proofs.Chains.{grew_none, grew_on, file_grew_on}
use Rattle.sim_io.specs.declared.outside.Trouble.{Trouble}
use Rattle.sim_io.specs.declared.outside.Trouble.TheVariants as trouble
use Rattle.flat_design.specs.declared.design.Visible.{Visible}
use Rattle.vcd_trace.specs.SimModel.Configuration.{Config, Told, line}
use Rattle.vcd_trace.specs.SimModel.Steps.{shows}
use Rattle.vcd_trace.specs.SimModel.Texts.{shown}
use Rattle.vcd_trace.specs.SimModel.declared.plain.Log.{Log}
use Rattle.vcd_trace.specs.SimModel.declared.plain.Log.TheVariants as log_of
use Rattle.kernel_start.specs.KernelState.Kernel.{StandsFor}
use Rattle.kernel_start.specs.KernelState.declared.kernel.Kernel.{Kernel}
use Rattle.kernel_runs.specs.Made.{told_by_show}
use Rattle.kernel_runs.specs.declared.answers.Telling.TheVariants as telling
use Rattle.report_texts.specs.Instances.{IsPrintLine, IsTurnLine}
use Rattle.report_texts.specs.ReportViews.{with_line}
use Rattle.session.specs.Outputs.{FileGrew, IsFront}
use Rattle.session.specs.Telling.{text_if, text_so_far, TextOf, TextOfTurn, With, IsPart, Into, Nothing}
use Rattle.session.proofs.Fronts.{texts-push}
use Rattle.session.proofs.Outputs.{file_same}

pub print_text : (k : Kernel) (p s : ℕ) (v : Option Value) (made : List ℕ) → IsPrintLine k p s v made → TextOf k (telling.Print p s v) made
print_text k p s v made is log c d h adds =
    ap (flat_map (shown log)) adds.told ∙ texts-push log c.trace.told _
    ∙ ap (λ t. text_so_far log c ++ t) (sym (is d adds.teller adds.text adds.shown h adds.there adds.lives adds.prints))

pub turn_text : (k : Kernel) (p : ℕ) (made : List ℕ) → IsTurnLine k p made → TextOfTurn k log_of.Turns p made
turn_text k p made is c d h turns =
    ap (flat_map (shown log_of.Turns)) turns.told ∙ texts-push log_of.Turns c.trace.told _
    ∙ ap (λ t. text_so_far log_of.Turns c ++ t) (sym (is d turns.taken h turns.there turns.lives))

pub no_turn_text : (k : Kernel) (p : ℕ) → TextOfTurn k log_of.Prints p []
no_turn_text k p c d h turns = ap (flat_map (shown log_of.Prints)) turns.told ∙ texts-push log_of.Prints c.trace.told _

pub nothing_text : (k : Kernel) → TextOf k telling.Nothing []
nothing_text k log c d h told = ap (flat_map (shown log)) told ∙ sym (append-nil _)

-- ---- a show

told_if : Option (List ℕ) → List Told
told_if None = []
told_if (Some text) = line text ∷ []

cancel : (xs ys zs : List Told) → xs ++ ys ≡ xs ++ zs → ys ≡ zs
cancel [] ys zs e = e
cancel (x ∷ xs) ys zs e = cancel xs ys zs (ap (drop 1) e)

shown_adds : (d : Config) (o : Option Visible) → (shows d o).trace.told ≡ d.trace.told ++ told_by_show d o
shown_adds d None = sym (append-nil _)
shown_adds d (Some v) = refl

line_adds : (d : Config) (o : Option (List ℕ)) → (with_line d o).trace.told ≡ d.trace.told ++ told_if o
unfolding told_if
line_adds d None = sym (append-nil _)
line_adds d (Some text) = refl

text_adds : (log : Log) (ts : List Told) (o : Option (List ℕ)) → flat_map (shown log) (ts ++ told_if o) ≡ flat_map (shown log) ts ++ text_if o
unfolding told_if
text_adds log ts None = ap (flat_map (shown log)) (append-nil ts) ∙ sym (append-nil _)
text_adds log ts (Some text) = texts-push log ts (line text)

pub show_text : (k : Kernel) (i : ℕ) (o : Option (List ℕ)) → ((d : Config) → StandsFor k d → shows d (slice_get d.design.visible i) ≡ with_line d o) → TextOf k (telling.Show i) (text_if o)
show_text k i o made log c d h told =
    let same : told_by_show d (slice_get d.design.visible i) ≡ told_if o = cancel d.trace.told _ _
    (sym (shown_adds d (slice_get d.design.visible i)) ∙ ap (λ e. e.trace.told) (made d h) ∙ line_adds d o) in
    ap (flat_map (shown log)) (told ∙ ap (λ ts. c.trace.told ++ ts) same) ∙ text_adds log c.trace.told o

-- ---- what was given of it

front_taken : (count : ℕ) (text part : List ℕ) → part ≡ take count text → IsFront part text
front_taken count text part is = (drop count text, sym (take-append-drop count text) ∙ ap (λ p. p ++ drop count text) (sym is))

-- a text that came behind what was due
pub part_moved : (T : List ℕ → Type 0) (due text taken left : List ℕ) (result : Result Unit Trouble) → T text → Moved due text taken left result → IsPart T due (taken ++ left) result
part_moved T due text taken left (Ok u) is moved = (text, is, moved)
part_moved T due text taken left (Err trouble.Failed) is ((count, short, part), none) =
    let same : taken ++ left ≡ take count (due ++ text) = ap (λ x. taken ++ x) none ∙ append-nil taken ∙ part in
    (text, is, front_taken count (due ++ text) (taken ++ left) same, omega (arith, short, ap length same, length-take count (due ++ text)))
part_moved T due text taken left (Err trouble.NoMemory) is ((count, short, part), none) =
    inr (text, is, front_taken count (due ++ text) (taken ++ left) (ap (λ x. taken ++ x) none ∙ append-nil taken ∙ part))

pub told_into : (T : List ℕ → Type 0) (text : List ℕ) (old new : Option (List ℕ)) (due left : List ℕ) (result : Result Unit Trouble) → T text → SinkTook old new due text left result → Into T (Grew old new) due left result
told_into T text old new due left result is (taken, grew, moved) = (taken, part_moved T due text taken left result is moved, grew)

pub none_told : (T : List ℕ → Type 0) (old : Option (List ℕ)) (due : List ℕ) → T [] → Into T (Grew old old) due due (Ok tt)
none_told T old due none = ([], ([], none, sym (append-nil due)), grew_none old)

pub none_into : (T : List ℕ → Type 0) (old : Option (List ℕ)) (due : List ℕ) → Into T (Grew old old) due due (Err trouble.NoMemory)
none_into T old due = ([], inl ([], sym (append-nil due)), grew_none old)

-- a file that was given it
pub file_into : {S : Type 0} (files_of : S → Option Files) (stands : S → ℕ → List ℕ → Type 0) (old new : S) (id : ℕ) (T : List ℕ → Type 0) (text due left : List ℕ) (result : Result Unit Trouble) → T text → FileTook (stands old id) (files_of old) (files_of new) due text left result
    → Into T (FileGrew files_of stands old new (Some id)) due left result
file_into files_of stands old new id T text due left result is (taken, grew, moved) = (taken, part_moved T due text taken left result is moved, grew)

-- nothing was written to a file, for want of memory
pub no_file_into : {S : Type 0} (files_of : S → Option Files) (stands : S → ℕ → List ℕ → Type 0) (shelf : S) (id : Option ℕ) (T : List ℕ → Type 0) (due : List ℕ) → Into T (FileGrew files_of stands shelf shelf id) due due (Err trouble.NoMemory)
no_file_into files_of stands shelf id T due = ([], inl ([], sym (append-nil due)), file_same files_of stands shelf id)

-- there is no file, and no text
pub none_for : {S : Type 0} (files_of : S → Option Files) (stands : S → ℕ → List ℕ → Type 0) (shelf : S) (T : List ℕ → Type 0) (due : List ℕ) → T [] → Into T (FileGrew files_of stands shelf shelf None) due due (Ok tt)
none_for files_of stands shelf T due none = ([], ([], none, sym (append-nil due)), file_same files_of stands shelf None)

-- ---- what was given, and then what is held written

-- what is held behind what was taken is written: all of it, or a proper front
flushed : (T : List ℕ → Type 0) (due taken left more left' : List ℕ) (result : Result Unit Trouble) → With T due (taken ++ left) → PieceTaken left more result → left' ≡ [] → IsPart T due ((taken ++ more) ++ left') result
flushed T due taken left more left' (Ok u) (text, is, whole) part none = (text, is, ap (λ x. (taken ++ more) ++ x) none ∙ append-nil (taken ++ more) ∙ ap (λ x. taken ++ x) part ∙ whole)
flushed T due taken left more left' (Err e) (text, is, whole) (count, short, part) none = by e
  where
    same : (taken ++ more) ++ left' ≡ taken ++ take count left
    same = ap (λ x. (taken ++ more) ++ x) none ∙ append-nil (taken ++ more) ∙ ap (λ x. taken ++ x) part

    front : IsFront ((taken ++ more) ++ left') (due ++ text)
    front = (drop count left, sym whole ∙ ap (λ x. taken ++ x) (sym (take-append-drop count left)) ∙ sym (append_assoc taken (take count left) (drop count left)) ∙ ap (λ x. x ++ drop count left) (sym same))

    by : (e : Trouble) → IsPart T due ((taken ++ more) ++ left') (Err e)
    by trouble.Failed = (text, is, front, omega (arith, short, ap length same, ap length whole, length-append taken (take count left), length-append taken left, length-take count left))
    by trouble.NoMemory = inr (text, is, front)

pub told_out : (T : List ℕ → Type 0) (old mid new : Option (List ℕ)) (due left left' : List ℕ) (result : Result Unit Trouble) → Into T (Grew old mid) due left (Ok tt) → TookOf mid new left result → left' ≡ [] → Into T (Grew old new) due left' result
told_out T old mid new due left left' result (taken, is, grew) (more, grew_more, part) none = (taken ++ more, flushed T due taken left more left' result is part none, grew_on old mid new taken more grew grew_more)

pub file_out : {S : Type 0} (files_of : S → Option Files) (stands : S → ℕ → List ℕ → Type 0) (old mid new : S) (id : ℕ) (T : List ℕ → Type 0) (due left left' : List ℕ) (result : Result Unit Trouble) → ((name : List ℕ) → stands old id name → stands mid id name)
    → Into T (FileGrew files_of stands old mid (Some id)) due left (Ok tt) → piece.FileTook (stands mid id) (files_of mid) (files_of new) left result → left' ≡ [] → Into T (FileGrew files_of stands old new (Some id)) due left' result
file_out files_of stands old mid new id T due left left' result stay (taken, is, grew) (more, grew_more, part) none = (
  taken ++ more,
  flushed T due taken left more left' result is part none,
  λ name named. file_grew_on name taken more (files_of old) (files_of mid) (files_of new) (grew name named) (grew_more name (stay name named)),
)

-- what is held is written, behind nothing more
pub held_out : {S : Type 0} (files_of : S → Option Files) (stands : S → ℕ → List ℕ → Type 0) (old new : S) (id : ℕ) (due left : List ℕ) (result : Result Unit Trouble) → piece.FileTook (stands old id) (files_of old) (files_of new) due result → left ≡ []
    → Into Nothing (FileGrew files_of stands old new (Some id)) due left result
held_out files_of stands old new id due left result (more, grew, part) none = (more, flushed Nothing due [] due more left result ([], refl, sym (append-nil due)) part none, grew)

-- what was written of what is held is a front of it
piece_front : (held part : List ℕ) (result : Result Unit Trouble) → PieceTaken held part result → IsFront part held
piece_front held part (Ok u) is = ([], sym is ∙ sym (append-nil part))
piece_front held part (Err e) (count, short, is) = front_taken count held part is

pub sink_goes : (old new : Option (List ℕ)) (held : List ℕ) (result : Result Unit Trouble) → TookOf old new held result → (taken : List ℕ) × IsFront taken held × Grew old new taken
sink_goes old new held result (taken, grew, part) = (taken, piece_front held taken result part, grew)

pub file_goes : {S : Type 0} (files_of : S → Option Files) (stands : S → ℕ → List ℕ → Type 0) (old new : S) (id : ℕ) (held : List ℕ) (result : Result Unit Trouble) → piece.FileTook (stands old id) (files_of old) (files_of new) held result
    → (taken : List ℕ) × IsFront taken held × FileGrew files_of stands old new (Some id) taken
file_goes files_of stands old new id held result (taken, grew, part) = (taken, piece_front held taken result part, grew)

pub no_file_goes : {S : Type 0} (files_of : S → Option Files) (stands : S → ℕ → List ℕ → Type 0) (shelf : S) (held : List ℕ) → (taken : List ℕ) × IsFront taken held × FileGrew files_of stands shelf shelf None taken
no_file_goes files_of stands shelf held = ([], (held, refl), file_same files_of stands shelf None)
