-- Options that do not stand together.
use Rattle.std.proofs.Common.{◌≡◌, ◌∙◌, ◌&&◌, ℕ, List, [], ◌∷◌, Bool, true, false, cond, Option, Some, None, refl, sym, ap, not}
use Rattle.std.specs.Prelude.{is_none, option_and_then}
use Rattle.std.specs.Str.{bytes_eq}
use Rattle.std.proofs.lemmas.Bool.{and_left, and_right}
use Rattle.std.proofs.lemmas.Slice.Eq.{bytes_eq-Decides}
use Rattle.clap.specs.Words.{Text}
use Rattle.sim_model.specs.declared.plain.Log.{Log}
use Rattle.command_line.specs.declared.modes.Order.{Order}
use Rattle.command_line.specs.declared.modes.PageKind.{PageKind}
use Rattle.command_line.specs.Given.{Given, given_by}
use Rattle.command_line.specs.Line.{ChoiceRule, Page, Generate, Mode, Simulate, Simulation, are_apart, budget_in, page_alone, generated_alone, generated_with, line_of, log_in, mode_by, mode_in, pages_in, Asked, names_no_run, order_in, rule_in, rule_with, simulation_named, simulation_with, steers_no_run}
use Rattle.command_line.proofs.LineLemmas.{line_given}

no_rule : (file : Text) (o : Option Order) → rule_with (Some file) false o ≡ None
no_rule file None = refl
no_rule file (Some o) = refl

no_rule_in : (g : Given) (file : Text) → g.replay ≡ Some file → (is_none g.order && is_none g.choices) ≡ false → rule_in g ≡ None
no_rule_in g file replay alone = rw (replay, alone) (no_rule file (order_in g))

without_rule : (model script : Text) (g : Given) (b : Option ℕ) (l : Option Log) → simulation_with model script g b None l ≡ None
without_rule model script g None l = refl
without_rule model script g (Some b) l = refl

either : (b : Bool) (x : Option Mode) → x ≡ None → cond b x None ≡ None
either true x e = e
either false x e = refl

no_simulation : (m s : Option Text) (g : Given) → rule_in g ≡ None → simulation_named m s g ≡ None
no_simulation None s g rule = refl
no_simulation (Some m) None g rule = refl
no_simulation (Some m) (Some s) g rule =
    either (are_apart g.vcd g.choices) _
    (ap (λ r. simulation_with m s g (budget_in g.budget) r (log_in g.log)) rule ∙ without_rule m s g (budget_in g.budget) (log_in g.log))

one_file_twice : (m s : Option Text) (g : Given) → are_apart g.vcd g.choices ≡ false → simulation_named m s g ≡ None
one_file_twice None s g apart = refl
one_file_twice (Some m) None g apart = refl
one_file_twice (Some m) (Some s) g apart = rw apart refl

no_mode : (ps : List Asked) (n : Option Text) (g : Given) → names_no_run g ≡ false → simulation_named g.model g.script g ≡ None → mode_by ps n g ≡ None
no_mode [] None g run none = none
no_mode [] (Some n) g run none = rw run refl
no_mode (p ∷ []) None g run none = rw run refl
no_mode (p ∷ []) (Some n) g run none = refl
no_mode (p ∷ q ∷ ps) n g run none = refl

no_line : (words : List Text) (g : Given) → given_by words ≡ Some g → names_no_run g ≡ false → simulation_named g.model g.script g ≡ None
    → line_of words ≡ None
no_line words g given run none = line_given words g None given (sym (no_mode (pages_in g) g.generate g run none))

given_replay : (g : Given) (file : Text) → g.replay ≡ Some file → names_no_run g ≡ false
given_replay g file replay =
    and_right (is_none g.model) _
    (and_right (is_none g.script) _
    (and_right (is_none g.vcd) _
    (and_right (is_none g.choices) _ (and_left (is_none g.replay) (is_none g.log) (ap is_none replay)))))

pub replay_and_order : (words : List Text) (g : Given) (file name : Text) → given_by words ≡ Some g → g.replay ≡ Some file → g.order ≡ Some name
    → line_of words ≡ None
replay_and_order words g file name given replay order =
    let alone = and_left (is_none g.order) (is_none g.choices) (ap is_none order) in
    no_line words g given (given_replay g file replay) (no_simulation g.model g.script g (no_rule_in g file replay alone))

pub replay_and_choices : (words : List Text) (g : Given) (file name : Text) → given_by words ≡ Some g → g.replay ≡ Some file → g.choices ≡ Some name
    → line_of words ≡ None
replay_and_choices words g file name given replay choices =
    let alone = and_right (is_none g.order) (is_none g.choices) (ap is_none choices) in
    no_line words g given (given_replay g file replay) (no_simulation g.model g.script g (no_rule_in g file replay alone))

pub one_file : (words : List Text) (g : Given) (file : Text) → given_by words ≡ Some g → g.vcd ≡ Some file → g.choices ≡ Some file
    → line_of words ≡ None
one_file words g file given vcd choices =
    let run : names_no_run g ≡ false = and_right (is_none g.model) _
    (and_right (is_none g.script) _
    (and_right (is_none g.vcd) _ (and_left (is_none g.choices) (is_none g.replay && is_none g.log) (ap is_none choices)))) in
    let same : bytes_eq file file ≡ true = (bytes_eq-Decides file file).1 refl in
    let apart : are_apart g.vcd g.choices ≡ false = rw (vcd, choices) (ap not same) in
    no_line words g given run (one_file_twice g.model g.script g apart)

-- ---- a simulation writes its trace and its choices to different files

by_test : (b : Bool) (x : Option Mode) (m : Mode) → cond b x None ≡ Some m → (b ≡ true) × (x ≡ Some m)
by_test true x m e = (refl, e)
by_test false x m e = cc

trace_of : Option Mode → Option Text
trace_of None = None
trace_of (Some (Simulate s)) = s.vcd
trace_of (Some (Page kind file)) = None
trace_of (Some (Generate g)) = None

choices_of : Option Mode → Option Text
choices_of None = None
choices_of (Some (Simulate s)) = s.choices
choices_of (Some (Page kind file)) = None
choices_of (Some (Generate g)) = None

-- the files of a simulation are those that are given
same_files : (m k : Text) (g : Given) (b : Option ℕ) (r : Option ChoiceRule) (l : Option Log) (s : Simulation) → simulation_with m k g b r l ≡ Some (Simulate s) → (g.vcd ≡ s.vcd) × (g.choices ≡ s.choices)
unfolding trace_of choices_of
same_files m k g None r l s e = cc
same_files m k g (Some b) None l s e = cc
same_files m k g (Some b) (Some r) None s e = cc
same_files m k g (Some b) (Some r) (Some l) s e = (ap trace_of e, ap choices_of e)

named_apart : (m k : Option Text) (g : Given) (s : Simulation) → simulation_named m k g ≡ Some (Simulate s) → are_apart s.vcd s.choices ≡ true
named_apart None k g s e = cc
named_apart (Some m) None g s e = cc
named_apart (Some m) (Some k) g s e =
    let (apart, is) = by_test (are_apart g.vcd g.choices) _ (Simulate s) e in
    let (vcd, choices) = same_files m k g (budget_in g.budget) (rule_in g) (log_in g.log) s is in
    sym (ap (λ x. are_apart x g.choices) vcd ∙ ap (λ x. are_apart s.vcd x) choices) ∙ apart

pages_none : (k : PageKind) (m : Text) (g : Given) (s : Simulation) → page_alone k m g ≡ Some (Simulate s) → are_apart s.vcd s.choices ≡ true
pages_none k m g s e = let (alone, is) = by_test (names_no_run g && steers_no_run g) (Some (Page k m)) (Simulate s) e in cc

generates_with : (n b : Option ℕ) (o : Option Order) (s : Simulation) → generated_with n b o ≡ Some (Simulate s) → are_apart s.vcd s.choices ≡ true
generates_with None b o s e = cc
generates_with (Some n) None o s e = cc
generates_with (Some n) (Some b) None s e = cc
generates_with (Some n) (Some b) (Some o) s e = cc

generates_none : (n : Text) (g : Given) (s : Simulation) → generated_alone n g ≡ Some (Simulate s) → are_apart s.vcd s.choices ≡ true
generates_none n g s e = let (alone, is) = by_test (names_no_run g) _ (Simulate s) e in generates_with _ _ _ s is

mode_apart : (ps : List Asked) (n : Option Text) (g : Given) (s : Simulation) → mode_by ps n g ≡ Some (Simulate s) → are_apart s.vcd s.choices ≡ true
mode_apart [] None g s e = named_apart g.model g.script g s e
mode_apart [] (Some n) g s e = generates_none n g s e
mode_apart (p ∷ []) None g s e = pages_none p.kind p.file g s e
mode_apart (p ∷ []) (Some n) g s e = cc
mode_apart (p ∷ q ∷ ps) n g s e = cc

given_apart : (words : List Text) (o : Option Given) (s : Simulation) → given_by words ≡ o → line_of words ≡ Some (Simulate s) → are_apart s.vcd s.choices ≡ true
unfolding line_of
given_apart words None s given e = let none : line_of words ≡ None = ap (option_and_then mode_in) given in cc
given_apart words (Some g) s given e = mode_apart (pages_in g) g.generate g s (sym (line_given words g (mode_in g) given refl) ∙ e)

pub writes_apart : (words : List Text) (s : Simulation) → line_of words ≡ Some (Simulate s) → are_apart s.vcd s.choices ≡ true
writes_apart words s e = given_apart words (given_by words) s refl e
