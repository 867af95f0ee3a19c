-- What the outside took of texts that are written one after another.
use Rattle.std.proofs.Common.{◌≡◌, ◌≢◌, ◌<◌, ◌≤◌, ◌+◌, ◌⊎◌, inl, inr, ℕ, List, [], ◌∷◌, ◌++◌, length, Option, Some, None, Result, Ok, Err, refl, sym, ◌∙◌, ap, subst, arith, append_assoc, append-nil, length-append}
use Rattle.std.specs.Io.KnownBytes.{append_known}
use Rattle.sim_io.specs.Contents.{Files, AfterTold, Same, Grows, Grew}
use Rattle.sim_io.specs.declared.outside.Trouble.{Trouble}
use Rattle.sim_io.specs.declared.outside.Trouble.TheVariants as trouble
use Rattle.sim_io.proofs.Chains.{after_told_same, grew_on, grew_none, append_known_on}
use Rattle.session.specs.Outputs.{Texts, behind, no_texts, text_for, Outer, Names, HasName, AreApart, AreNames, FileGot, FileGrew, FilesGot, IsOther, Took, IsFront, AreFronts, LacksByte, TookFronts, TookShort, IsNear, Given, FitsRoom, LetGo}
use Rattle.vcd_trace.specs.SimModel.declared.plain.Stop.{Stop}
use Rattle.session.specs.Telling.{With, FrontIf, ShortOf, IsPart, Fronts3, AreParts, Recorded, Nothing, EmptyFor, AllOut, Closes, Finishes}

-- ---- files

-- known bytes with nothing behind them
pub known_nil : (known : Option (List ℕ)) → append_known known [] ≡ known
known_nil None = refl
known_nil (Some bytes) = ap (λ b. Some b) (append-nil bytes)

-- a file that is as before got nothing
got_nothing : (name : Option (List ℕ)) (old new : Files) → ((n : List ℕ) → name ≡ Some n → new n ≡ old n) → FileGot name [] old new
got_nothing None old new same = tt
got_nothing (Some n) old new same = same n refl ∙ sym (known_nil (old n))

got_on : (name : Option (List ℕ)) (a b : List ℕ) (old mid new : Files) → FileGot name a old mid → FileGot name b mid new → FileGot name (a ++ b) old new
got_on None a b old mid new x y = tt
got_on (Some n) a b old mid new x y = y ∙ ap (λ known. append_known known b) x ∙ append_known_on (old n) a b

told_on : (P Q R : Files → Files → Type 0) (old mid new : Option Files) → AfterTold old mid P → AfterTold mid new Q → ((a b c : Files) → P a b → Q b c → R a c) → AfterTold old new R
told_on P Q R old mid None x y joins = tt
told_on P Q R old None (Some new) x y joins = absurd y
told_on P Q R None (Some mid) (Some new) x y joins = absurd x
told_on P Q R (Some old) (Some mid) (Some new) x y joins = joins old mid new x y

told_so : (P Q : Files → Files → Type 0) (old new : Option Files) → AfterTold old new P → ((a b : Files) → P a b → Q a b) → AfterTold old new Q
told_so P Q old None x so = tt
told_so P Q None (Some new) x so = absurd x
told_so P Q (Some old) (Some new) x so = so old new x

told_same : (P : Files → Files → Type 0) (files : Option Files) → ((a : Files) → P a a) → AfterTold files files P
told_same P None so = tt
told_same P (Some files) so = so files

files_on : (names : Names) (s t : Texts) (old mid new : Files) → FilesGot names s old mid → FilesGot names t mid new → FilesGot names (behind s t) old new
files_on names s t old mid new x y = record {
  trace = got_on names.trace s.trace t.trace old mid new x.trace y.trace;
  choices = got_on names.choices s.choices t.choices old mid new x.choices y.choices;
  others = λ name a b. y.others name a b ∙ x.others name a b;
}

-- two texts one behind the other
pub took_on : (AreNamed : Names → Type 0) (old mid new : Outer) (s t : Texts) → Took AreNamed old mid s → Took AreNamed mid new t → Took AreNamed old new (behind s t)
took_on AreNamed old mid new s t x y = record {
  report = grew_on old.sink mid.sink new.sink s.report t.report x.report y.report;
  files = λ names named. told_on (FilesGot names s) (FilesGot names t) (FilesGot names (behind s t)) old.files mid.files new.files (x.files names named) (y.files names named) (files_on names s t);
}

-- the same texts
pub took_as : (AreNamed : Names → Type 0) (old new : Outer) (s t : Texts) → s.report ≡ t.report → s.trace ≡ t.trace → s.choices ≡ t.choices → Took AreNamed old new s → Took AreNamed old new t
took_as AreNamed old new s t a b c x =
    let same : s ≡ t = ap (λ r. record { report = r; trace = s.trace; choices = s.choices }) a ∙ ap (λ r. record { report = t.report; trace = r; choices = s.choices }) b ∙ ap (λ r. record { report = t.report; trace = t.trace; choices = r }) c in
    subst (Took AreNamed old new) same x

-- the files are as before
files_same : (names : Names) (files : Files) → FilesGot names (record { report = []; trace = []; choices = [] }) files files
files_same names files = record { trace = got_nothing names.trace files files (λ n is. refl); choices = got_nothing names.choices files files (λ n is. refl); others = λ name a b. refl }

-- ---- what one output took

-- the sink alone
pub sink_took : (AreNamed : Names → Type 0) (old new : Option (List ℕ)) (files : Option Files) (part : List ℕ) → Grew old new part
    → Took AreNamed (record { sink = old; files = files }) (record { sink = new; files = files }) (record { report = part; trace = []; choices = [] })
sink_took AreNamed old new files part grew = record {
  report = grew;
  files = λ names named. told_same (FilesGot names (record { report = part; trace = []; choices = [] })) files
      (λ a. let same = files_same names a in record { trace = same.trace; choices = same.choices; others = same.others });
}

module _ {S : Type 0} (files_of : S → Option Files) (stands : S → ℕ → List ℕ → Type 0) (vcd list : Option ℕ) (old new : S) (sink : Option (List ℕ)) where
  -- the file of the trace alone
  trace_got : (names : Names) (part : List ℕ) → AreNames stands old vcd list names → FileGrew files_of stands old new vcd part → AfterTold (files_of old) (files_of new) (FilesGot names (record { report = []; trace = part; choices = [] }))
  trace_got names part named grew = by vcd names.trace refl named.trace_is grew
    where
      by : (id : Option ℕ) (name : Option (List ℕ)) → names.trace ≡ name → HasName stands old id name → FileGrew files_of stands old new id part → AfterTold (files_of old) (files_of new) (FilesGot names (record { report = []; trace = part; choices = [] }))
      by None None e has same = told_so Same (FilesGot names (record { report = []; trace = part; choices = [] })) (files_of old) (files_of new) same (λ a b x. record {
        trace = subst (λ n. FileGot n part a b) (sym e) tt;
        choices = got_nothing names.choices a b (λ n is. x n);
        others = λ name p q. x name;
      })
      by None (Some n) e has same = absurd has
      by (Some id) None e has grows = absurd has
      by (Some id) (Some n) e has grows = told_so (Grows n part) (FilesGot names (record { report = []; trace = part; choices = [] })) (files_of old) (files_of new) (grows n has) (λ a b x. record {
        trace = subst (λ m. FileGot m part a b) (sym e) x.grown;
        choices = got_nothing names.choices a b (λ m is. x.others m (subst (λ o. AreApart (Some n) o) is (subst (λ o. AreApart o names.choices) e named.apart)));
        others = λ name p q. x.others name (subst (λ o. IsOther o name) e p);
      })

  pub trace_took : (part : List ℕ) → FileGrew files_of stands old new vcd part
      → Took (AreNames stands old vcd list) (record { sink = sink; files = files_of old }) (record { sink = sink; files = files_of new }) (record { report = []; trace = part; choices = [] })
  trace_took part grew = record { report = grew_none sink; files = λ names named. trace_got names part named grew }

  -- the file of the choices alone
  choices_got : (names : Names) (part : List ℕ) → AreNames stands old vcd list names → FileGrew files_of stands old new list part → AfterTold (files_of old) (files_of new) (FilesGot names (record { report = []; trace = []; choices = part }))
  choices_got names part named grew = by list names.choices refl named.choices_is grew
    where
      apart : (n m : List ℕ) → names.choices ≡ Some n → names.trace ≡ Some m → m ≢ n
      apart n m is at same = (subst (λ o. AreApart (Some m) o) is (subst (λ o. AreApart o names.choices) at named.apart)) (sym same)

      by : (id : Option ℕ) (name : Option (List ℕ)) → names.choices ≡ name → HasName stands old id name → FileGrew files_of stands old new id part → AfterTold (files_of old) (files_of new) (FilesGot names (record { report = []; trace = []; choices = part }))
      by None None e has same = told_so Same (FilesGot names (record { report = []; trace = []; choices = part })) (files_of old) (files_of new) same (λ a b x. record {
        trace = got_nothing names.trace a b (λ n is. x n);
        choices = subst (λ n. FileGot n part a b) (sym e) tt;
        others = λ name p q. x name;
      })
      by None (Some n) e has same = absurd has
      by (Some id) None e has grows = absurd has
      by (Some id) (Some n) e has grows = told_so (Grows n part) (FilesGot names (record { report = []; trace = []; choices = part })) (files_of old) (files_of new) (grows n has) (λ a b x. record {
        trace = got_nothing names.trace a b (λ m at. x.others m (apart n m e at));
        choices = subst (λ m. FileGot m part a b) (sym e) x.grown;
        others = λ name p q. x.others name (subst (λ o. IsOther o name) e q);
      })

  pub choices_took : (part : List ℕ) → FileGrew files_of stands old new list part
      → Took (AreNames stands old vcd list) (record { sink = sink; files = files_of old }) (record { sink = sink; files = files_of new }) (record { report = []; trace = []; choices = part })
  choices_took part grew = record { report = grew_none sink; files = λ names named. choices_got names part named grew }

-- names from an earlier moment
has_name_on : {S : Type 0} (stands : S → ℕ → List ℕ → Type 0) (old new : S) → ((id : ℕ) (name : List ℕ) → stands old id name → stands new id name) → (id : Option ℕ) (name : Option (List ℕ)) → HasName stands old id name → HasName stands new id name
has_name_on stands old new stay None None h = tt
has_name_on stands old new stay None (Some name) h = h
has_name_on stands old new stay (Some id) None h = h
has_name_on stands old new stay (Some id) (Some name) h = stay id name h

pub names_on : {S : Type 0} (stands : S → ℕ → List ℕ → Type 0) (old new : S) (vcd list : Option ℕ) → ((id : ℕ) (name : List ℕ) → stands old id name → stands new id name) → (names : Names) → AreNames stands old vcd list names → AreNames stands new vcd list names
names_on stands old new vcd list stay names named = record {
  trace_is = has_name_on stands old new stay vcd names.trace named.trace_is;
  choices_is = has_name_on stands old new stay list names.choices named.choices_is;
  apart = named.apart;
}

pub took_of : (A B : Names → Type 0) (old new : Outer) (t : Texts) → ((names : Names) → A names → B names) → Took B old new t → Took A old new t
took_of A B old new t so x = record { report = x.report; files = λ names named. x.files names (so names named) }

recorded_of : (T P C : List ℕ → Type 0) (A B : Names → Type 0) (old new : Outer) (due left : Texts) (result : Result Unit Trouble) → ((names : Names) → A names → B names) → Recorded T P C B old new due left result → Recorded T P C A old new due left result
recorded_of T P C A B old new due left result so x = record { taken = x.taken; took = took_of A B old new x.taken so x.took; parts = x.parts }

-- what was recorded from a later moment on, under the names of an earlier one
module _ {S : Type 0} (stands : S → ℕ → List ℕ → Type 0) (old mid : S) (vcd list : Option ℕ) (stay : (id : ℕ) (name : List ℕ) → stands old id name → stands mid id name) (a b : Outer) (due : Texts) where
  pub recorded_from : (T P C : List ℕ → Type 0) (left : Texts) (result : Result Unit Trouble) → Recorded T P C (AreNames stands mid vcd list) a b due left result → Recorded T P C (AreNames stands old vcd list) a b due left result
  recorded_from T P C left result = recorded_of T P C (AreNames stands old vcd list) (AreNames stands mid vcd list) a b due left result (names_on stands old mid vcd list stay)

  pub finishes_from : (T P : List ℕ → Type 0) (ending s : Stop) → Finishes (Closes T P vcd list (AreNames stands mid vcd list) a b due) ending s → Finishes (Closes T P vcd list (AreNames stands old vcd list) a b due) ending s
  finishes_from T P ending s (written, (left, recorded, out), is) = (written, (left, recorded_from T P Nothing left written recorded, out), is)

  pub let_go_from : LetGo (AreNames stands mid vcd list) a b due → LetGo (AreNames stands old vcd list) a b due
  let_go_from (taken, fronts, took) = (taken, fronts, took_of (AreNames stands old vcd list) (AreNames stands mid vcd list) a b taken (names_on stands old mid vcd list stay) took)

-- ---- what the three outputs took

-- files that are as before
grows_nothing : (files : Option Files) (name : List ℕ) → AfterTold files files (Grows name [])
grows_nothing None name = tt
grows_nothing (Some files) name = record { grown = sym (known_nil (files name)); others = λ other apart. refl }

pub file_same : {S : Type 0} (files_of : S → Option Files) (stands : S → ℕ → List ℕ → Type 0) (shelf : S) (id : Option ℕ) → FileGrew files_of stands shelf shelf id []
file_same files_of stands shelf None = after_told_same (files_of shelf)
file_same files_of stands shelf (Some id) = λ name named. grows_nothing (files_of shelf) name

-- nothing was written
pub took_nothing : (AreNamed : Names → Type 0) (outer : Outer) → Took AreNamed outer outer no_texts
took_nothing AreNamed outer = sink_took AreNamed outer.sink outer.sink outer.files [] (grew_none outer.sink)

module _ {S : Type 0} (files_of : S → Option Files) (stands : S → ℕ → List ℕ → Type 0) (vcd list : Option ℕ) (old mid new : S) (sink sink' : Option (List ℕ)) (stay : (id : ℕ) (name : List ℕ) → stands old id name → stands mid id name) where
  -- the sink, then the file of the trace, then that of the choices
  pub took_three : (report trace choices : List ℕ) → Grew sink sink' report → FileGrew files_of stands old mid vcd trace → FileGrew files_of stands mid new list choices
      → Took (AreNames stands old vcd list) (record { sink = sink; files = files_of old }) (record { sink = sink'; files = files_of new }) (record { report = report; trace = trace; choices = choices })
  took_three report trace choices told traced listed =
      let named : Names → Type 0 = AreNames stands old vcd list in
      let first = sink_took named sink sink' (files_of old) report told in
      let second = trace_took files_of stands vcd list old mid sink' trace traced in
      let third = took_of named (AreNames stands mid vcd list) _ _ _ (names_on stands old mid vcd list stay) (choices_took files_of stands vcd list mid new sink' choices listed) in
      took_as named _ _ _ (record { report = report; trace = trace; choices = choices }) (append-nil (report ++ []) ∙ append-nil report) (append-nil trace) refl
      (took_on named _ _ _ _ _ (took_on named _ _ _ _ _ first second) third)

  -- what was due of each was written as far as it could be
  pub lets_go : (due : Texts) → (report : List ℕ) × IsFront report due.report × Grew sink sink' report → (trace : List ℕ) × IsFront trace due.trace × FileGrew files_of stands old mid vcd trace
      → (choices : List ℕ) × IsFront choices due.choices × FileGrew files_of stands mid new list choices → LetGo (AreNames stands old vcd list) (record { sink = sink; files = files_of old }) (record { sink = sink'; files = files_of new }) due
  lets_go due (report, a, told) (trace, b, traced) (choices, c, listed) =
      (record { report = report; trace = trace; choices = choices }, record { report = a; trace = b; choices = c }, took_three report trace choices told traced listed)

  -- what three calls that give made of their texts
  pub records : (T P C : List ℕ → Type 0) (due left : Texts) (result : Result Unit Trouble) (report trace choices : List ℕ) → Grew sink sink' report → FileGrew files_of stands old mid vcd trace → FileGrew files_of stands mid new list choices
      → AreParts T P C due (record { report = report ++ left.report; trace = trace ++ left.trace; choices = choices ++ left.choices }) result
      → Recorded T P C (AreNames stands old vcd list) (record { sink = sink; files = files_of old }) (record { sink = sink'; files = files_of new }) due left result
  records T P C due left result report trace choices told traced listed parts = record { taken = record { report = report; trace = trace; choices = choices }; took = took_three report trace choices told traced listed; parts = parts }

-- ---- parts, one after another

pub front_same : (text : List ℕ) → IsFront text text
front_same text = ([], sym (append-nil text))

pub front_on : (a b c : List ℕ) → IsFront a b → IsFront b c → IsFront a c
front_on a b c (x, is) (y, at) = (x ++ y, at ∙ ap (λ z. z ++ y) is ∙ append_assoc a x y)

pub front_as : (a b c : List ℕ) → a ≡ b → IsFront b c → IsFront a c
front_as a b c same front = subst (λ x. IsFront x c) (sym same) front

-- nothing came
pub with_nothing : (due given : List ℕ) → given ≡ due → With Nothing due given
with_nothing due given same = ([], refl, same ∙ sym (append-nil due))

left_alone : (T : List ℕ → Type 0) (due given : List ℕ) → given ≡ due → FrontIf T due given
left_alone T due given same = inl (front_as given due due same (front_same due))

whole_front : (T : List ℕ → Type 0) (due given : List ℕ) → With T due given → FrontIf T due given
whole_front T due given (text, is, same) = inr (text, is, front_as given (due ++ text) (due ++ text) same (front_same (due ++ text)))

short_front : (T : List ℕ → Type 0) (due given : List ℕ) → ShortOf T due given → FrontIf T due given
short_front T due given (text, is, front, short) = inr (text, is, front)

module _ (T P C : List ℕ → Type 0) (due given : Texts) where
  -- the report was cut, and the others were left alone
  pub report_part : (e : Trouble) → IsPart T due.report given.report (Err e) → given.trace ≡ due.trace → given.choices ≡ due.choices → AreParts T P C due given (Err e)
  report_part trouble.Failed is a b = (record { report = short_front T due.report given.report is; trace = left_alone P due.trace given.trace a; choices = left_alone C due.choices given.choices b }, inl is)
  report_part trouble.NoMemory is a b = record { report = is; trace = left_alone P due.trace given.trace a; choices = left_alone C due.choices given.choices b }

  -- the trace was cut behind the report
  pub trace_part : (e : Trouble) → With T due.report given.report → IsPart P due.trace given.trace (Err e) → given.choices ≡ due.choices → AreParts T P C due given (Err e)
  trace_part trouble.Failed told is b = (record { report = whole_front T due.report given.report told; trace = short_front P due.trace given.trace is; choices = left_alone C due.choices given.choices b }, inr (inl is))
  trace_part trouble.NoMemory told is b = record { report = whole_front T due.report given.report told; trace = is; choices = left_alone C due.choices given.choices b }

  -- report and trace are whole, and of the choices this became
  pub choices_part : (result : Result Unit Trouble) → With T due.report given.report → With P due.trace given.trace → IsPart C due.choices given.choices result → AreParts T P C due given result
  choices_part (Ok u) told traced is = (told, traced, is)
  choices_part (Err trouble.Failed) told traced is = (record { report = whole_front T due.report given.report told; trace = whole_front P due.trace given.trace traced; choices = short_front C due.choices given.choices is }, inr (inr is))
  choices_part (Err trouble.NoMemory) told traced is = record { report = whole_front T due.report given.report told; trace = whole_front P due.trace given.trace traced; choices = is }

-- of the trace this became, and the choices were left alone
pub trace_parts : (T P : List ℕ → Type 0) (due given : Texts) (result : Result Unit Trouble) → With T due.report given.report → IsPart P due.trace given.trace result → given.choices ≡ due.choices → AreParts T P Nothing due given result
trace_parts T P due given (Ok u) told is same = (told, is, with_nothing due.choices given.choices same)
trace_parts T P due given (Err e) told is same = trace_part T P Nothing due given e told is same

-- ---- what was cut, and let go

-- what was taken of what was left is a front of what was taken and left
let_front : (taken more left : List ℕ) → IsFront more left → IsFront ((taken ++ more) ++ []) (taken ++ left)
let_front taken more left (rest, is) =
    (rest, ap (λ x. taken ++ x) is ∙ sym (append_assoc taken more rest) ∙ ap (λ x. x ++ rest) (sym (append-nil (taken ++ more))))

let_if : (T : List ℕ → Type 0) (due taken more left : List ℕ) → IsFront more left → FrontIf T due (taken ++ left) → FrontIf T due ((taken ++ more) ++ [])
let_if T due taken more left goes (inl front) = inl (front_on _ (taken ++ left) due (let_front taken more left goes) front)
let_if T due taken more left goes (inr (text, is, front)) = inr (text, is, front_on _ (taken ++ left) (due ++ text) (let_front taken more left goes) front)

front_length : (front whole : List ℕ) → IsFront front whole → length front ≤ length whole
front_length front whole (rest, is) = omega (arith, ap length is, length-append front rest)

let_short : (T : List ℕ → Type 0) (due taken more left : List ℕ) → IsFront more left → ShortOf T due (taken ++ left) → ShortOf T due ((taken ++ more) ++ [])
let_short T due taken more left goes (text, is, front, short) =
    (text, is, front_on _ (taken ++ left) (due ++ text) (let_front taken more left goes) front, omega (arith, short, front_length _ (taken ++ left) (let_front taken more left goes)))

module _ (T P C : List ℕ → Type 0) (due left taken more : Texts) (goes : AreFronts more left) where
  let_fronts : Fronts3 T P C due (behind taken left) → Fronts3 T P C due (behind (behind taken more) no_texts)
  let_fronts f = record {
    report = let_if T due.report taken.report more.report left.report goes.report f.report;
    trace = let_if P due.trace taken.trace more.trace left.trace goes.trace f.trace;
    choices = let_if C due.choices taken.choices more.choices left.choices goes.choices f.choices;
  }

  let_shorts : ShortOf T due.report (taken.report ++ left.report) ⊎ (ShortOf P due.trace (taken.trace ++ left.trace) ⊎ ShortOf C due.choices (taken.choices ++ left.choices))
      → ShortOf T due.report ((taken.report ++ more.report) ++ []) ⊎ (ShortOf P due.trace ((taken.trace ++ more.trace) ++ []) ⊎ ShortOf C due.choices ((taken.choices ++ more.choices) ++ []))
  let_shorts (inl short) = inl (let_short T due.report taken.report more.report left.report goes.report short)
  let_shorts (inr (inl short)) = inr (inl (let_short P due.trace taken.trace more.trace left.trace goes.trace short))
  let_shorts (inr (inr short)) = inr (inr (let_short C due.choices taken.choices more.choices left.choices goes.choices short))

  let_parts : (e : Trouble) → AreParts T P C due (behind taken left) (Err e) → AreParts T P C due (behind (behind taken more) no_texts) (Err e)
  let_parts trouble.Failed (fronts, short) = (let_fronts fronts, let_shorts short)
  let_parts trouble.NoMemory fronts = let_fronts fronts

-- what was recorded of a cut, and then let go
pub let_go_on : (T P C : List ℕ → Type 0) (AreNamed : Names → Type 0) (old mid new : Outer) (due left : Texts) (e : Trouble) → Recorded T P C AreNamed old mid due left (Err e) → LetGo AreNamed mid new left → Recorded T P C AreNamed old new due no_texts (Err e)
let_go_on T P C AreNamed old mid new due left e r (more, fronts, took) = record {
  taken = behind r.taken more;
  took = took_on AreNamed old mid new r.taken more r.took took;
  parts = let_parts T P C due left r.taken more fronts e r.parts;
}

-- nothing was given before
pub only_let_go : (T P C : List ℕ → Type 0) (AreNamed : Names → Type 0) (old new : Outer) (due : Texts) → LetGo AreNamed old new due → Recorded T P C AreNamed old new due no_texts (Err trouble.NoMemory)
only_let_go T P C AreNamed old new due goes = let_go_on T P C AreNamed old old new due due trouble.NoMemory
    (record { taken = no_texts; took = took_nothing AreNamed old; parts = record { report = inl (front_same due.report); trace = inl (front_same due.trace); choices = inl (front_same due.choices) } }) goes

-- ---- what was recorded, behind what was written before

-- a front of what was given behind a front is one of the whole, where all of it was due behind that front
behind_front : (front due text base part given whole : List ℕ) → front ++ due ≡ base → IsFront part given → IsFront given (due ++ text) → IsFront (base ++ text) whole → IsFront (front ++ part) whole
behind_front front due text base part given whole in_line taken inside more =
    let (rest, is) = front_on part given (due ++ text) taken inside in
    front_on (front ++ part) (base ++ text) whole
    (rest, ap (λ x. x ++ text) (sym in_line) ∙ append_assoc front due text ∙ ap (λ x. front ++ x) is ∙ sym (append_assoc front part rest)) more

front_if : (T : List ℕ → Type 0) (front due base part given whole : List ℕ) → front ++ due ≡ base → IsFront part given → IsFront base whole → ((text : List ℕ) → T text → IsFront (base ++ text) whole) → FrontIf T due given → IsFront (front ++ part) whole
front_if T front due base part given whole in_line taken begun adds (inl inside) =
    behind_front front due [] base part given whole in_line taken (subst (λ x. IsFront given x) (sym (append-nil due)) inside) (subst (λ x. IsFront x whole) (sym (append-nil base)) begun)
front_if T front due base part given whole in_line taken begun adds (inr (text, is, inside)) = behind_front front due text base part given whole in_line taken inside (adds text is)

short_behind : (T : List ℕ → Type 0) (front due base part given whole : List ℕ) → front ++ due ≡ base → IsFront part given → ((text : List ℕ) → T text → IsFront (base ++ text) whole) → ShortOf T due given → length (front ++ part) < length whole
short_behind T front due base part given whole in_line taken adds (text, is, inside, short) =
    omega (arith, short, front_length part given taken, front_length (base ++ text) whole (adds text is), length-append base text, length-append due text, ap length in_line, length-append front due, length-append front part)

module _ (T P C : List ℕ → Type 0) (AreNamed : Names → Type 0) (old mid now : Outer) (due left base whole : Texts) (begun : AreFronts base whole)
    (reports : (text : List ℕ) → T text → IsFront (base.report ++ text) whole.report) (traces : (text : List ℕ) → P text → IsFront (base.trace ++ text) whole.trace) (lists : (text : List ℕ) → C text → IsFront (base.choices ++ text) whole.choices)
    (g : Given AreNamed old mid due base) where
  fronts_behind : (t : Texts) → Fronts3 T P C due (behind t left) → AreFronts (behind g.front t) whole
  fronts_behind t f = record {
    report = front_if T g.front.report due.report base.report t.report (t.report ++ left.report) whole.report g.report (left.report, refl) begun.report reports f.report;
    trace = front_if P g.front.trace due.trace base.trace t.trace (t.trace ++ left.trace) whole.trace g.trace (left.trace, refl) begun.trace traces f.trace;
    choices = front_if C g.front.choices due.choices base.choices t.choices (t.choices ++ left.choices) whole.choices g.choices (left.choices, refl) begun.choices lists f.choices;
  }

  lacks_behind : (t : Texts) → ShortOf T due.report (t.report ++ left.report) ⊎ (ShortOf P due.trace (t.trace ++ left.trace) ⊎ ShortOf C due.choices (t.choices ++ left.choices)) → LacksByte (behind g.front t) whole
  lacks_behind t (inl short) = inl (short_behind T g.front.report due.report base.report t.report (t.report ++ left.report) whole.report g.report (left.report, refl) reports short)
  lacks_behind t (inr (inl short)) = inr (inl (short_behind P g.front.trace due.trace base.trace t.trace (t.trace ++ left.trace) whole.trace g.trace (left.trace, refl) traces short))
  lacks_behind t (inr (inr short)) = inr (inr (short_behind C g.front.choices due.choices base.choices t.choices (t.choices ++ left.choices) whole.choices g.choices (left.choices, refl) lists short))

  pub cut_short : Recorded T P C AreNamed mid now due left (Err trouble.Failed) → TookShort (Took AreNamed old now) whole
  cut_short r = record {
    front = behind g.front r.taken;
    fronts = fronts_behind r.taken r.parts.0;
    lacks = lacks_behind r.taken r.parts.1;
    took = took_on AreNamed old mid now g.front r.taken g.took r.took;
  }

  pub cut_somewhere : Recorded T P C AreNamed mid now due left (Err trouble.NoMemory) → TookFronts (Took AreNamed old now) whole
  cut_somewhere r = record {
    front = behind g.front r.taken;
    fronts = fronts_behind r.taken r.parts;
    took = took_on AreNamed old mid now g.front r.taken g.took r.took;
  }

-- what was given before, and behind it all of this
in_line_on : (front due text base taken left whole : List ℕ) → front ++ due ≡ base → taken ++ left ≡ due ++ text → whole ≡ base ++ text → (front ++ taken) ++ left ≡ whole
in_line_on front due text base taken left whole in_line given is =
    append_assoc front taken left ∙ ap (λ x. front ++ x) given ∙ sym (append_assoc front due text) ∙ ap (λ x. x ++ text) in_line ∙ sym is

pub given_on : (T P C : List ℕ → Type 0) (AreNamed : Names → Type 0) (old mid now : Outer) (due left base whole : Texts)
    → ((text : List ℕ) → T text → whole.report ≡ base.report ++ text) → ((text : List ℕ) → P text → whole.trace ≡ base.trace ++ text) → ((text : List ℕ) → C text → whole.choices ≡ base.choices ++ text)
    → Given AreNamed old mid due base → Recorded T P C AreNamed mid now due left (Ok tt) → Given AreNamed old now left whole
given_on T P C AreNamed old mid now due left base whole reports traces lists g r =
    let (told, told_is, a) = r.parts.0 in
    let (traced, traced_is, b) = r.parts.1 in
    let (listed, listed_is, c) = r.parts.2 in
    record {
      front = behind g.front r.taken;
      took = took_on AreNamed old mid now g.front r.taken g.took r.took;
      report = in_line_on g.front.report due.report told base.report r.taken.report left.report whole.report g.report a (reports told told_is);
      trace = in_line_on g.front.trace due.trace traced base.trace r.taken.trace left.trace whole.trace g.trace b (traces traced traced_is);
      choices = in_line_on g.front.choices due.choices listed base.choices r.taken.choices left.choices whole.choices g.choices c (lists listed listed_is);
    }

-- a text of which nothing is due was taken whole; so was one for which there is no file
taken_whole : (front left whole : List ℕ) → left ≡ [] → front ++ left ≡ whole → front ≡ whole
taken_whole front left whole none is = sym (append-nil front) ∙ ap (λ x. front ++ x) (sym none) ∙ is

none_of_both : (front left : List ℕ) → front ++ left ≡ [] → front ≡ []
none_of_both [] left is = refl
none_of_both (x ∷ front) left is = absurd (omega (arith, ap length is))

taken_for : (id : Option ℕ) (front left text : List ℕ) → EmptyFor id left → front ++ left ≡ text_for id text → front ≡ text_for id text
taken_for None front left text empty is = none_of_both front left is
taken_for (Some id) front left text empty is = taken_whole front left text empty is

pub took_whole : (vcd list : Option ℕ) (AreNamed : Names → Type 0) (old now : Outer) (left : Texts) (report trace choices : List ℕ) → AllOut vcd list left (Ok tt)
    → Given AreNamed old now left (record { report = report; trace = text_for vcd trace; choices = text_for list choices }) → Took AreNamed old now (record { report = report; trace = text_for vcd trace; choices = text_for list choices })
took_whole vcd list AreNamed old now left report trace choices (a, b, c) g = took_as AreNamed old now g.front (record { report = report; trace = text_for vcd trace; choices = text_for list choices })
    (taken_whole g.front.report left.report report a g.report) (taken_for vcd g.front.trace left.trace trace b g.trace) (taken_for list g.front.choices left.choices choices c g.choices) g.took

-- ---- how little was not taken

-- of texts of which what was due fits its buffer
near_one : (front due base more : List ℕ) → front ++ due ≡ base → length due ≤ 65536 → length base ≤ length (front ++ more) + 65536
near_one front due base more in_line few = omega (arith, few, ap length in_line, length-append front due, length-append front more)

pub near_given : (AreNamed : Names → Type 0) (old now : Outer) (due base more : Texts) (g : Given AreNamed old now due base) → FitsRoom due → IsNear 65536 (behind g.front more) base
near_given AreNamed old now due base more g few = record {
  report = near_one g.front.report due.report base.report more.report g.report few.report;
  trace = near_one g.front.trace due.trace base.trace more.trace g.trace few.trace;
  choices = near_one g.front.choices due.choices base.choices more.choices g.choices few.choices;
}
