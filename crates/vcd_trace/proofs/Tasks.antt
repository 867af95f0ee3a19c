-- What is still to be written, and how much there is to do.
use Rattle.std.proofs.Common.{◌≡◌, ◌<◌, ◌≤◌, ◌+◌, ◌-◌, ◌++◌, ℕ, zero, suc, Bool, true, false, List, [], ◌∷◌, Option, Some, map, reverse, drop, length, get_or, append_assoc, refl, sym, ap, ◌∙◌, arith, add-zero}
use Rattle.std.specs.Prelude.{◌==◌, codes, sum, slice_get, if◌then◌else◌}
use Rattle.std.specs.List.{flat_map}
use Rattle.std.proofs.lemmas.List.{append-nil, drop_more, map-append, reverse-append}
use Rattle.std.proofs.lemmas.List.Sums.{sum_by-cons}
use Rattle.flat_design.specs.declared.design.Design.{Design}
use Rattle.flat_design.specs.declared.design.Visible.{Visible}
use Rattle.flat_design.specs.declared.objects.Object.{Object}
use Rattle.laws_runs.specs.SimModel.Trace.{header, scale_line, walk_from, object_walk, items_of, var_of, var_line, visible_width, upscope_line}
use Rattle.vcd_trace.specs.declared.walks.Task.{Task}
use Rattle.vcd_trace.specs.declared.walks.Task.TheVariants as task
use Rattle.vcd_trace.specs.Tables.{variable_of}
use Rattle.vcd_trace.specs.Walks.{var_if, var_at, visits, task_text, tasks_text, walk_cost, task_cost, tasks_cost}

-- the variable that is found first is the one that is written

at_place : (xs : List Visible) (y : Visible) (ys : List Visible) → slice_get (xs ++ y ∷ ys) (length xs) ≡ Some y
at_place [] y ys = refl
at_place (x ∷ xs) y ys = at_place xs y ys

one_longer : (xs : List Visible) (y : Visible) → length (xs ++ y ∷ []) ≡ suc (length xs)
one_longer [] y = refl
one_longer (x ∷ xs) y = ap suc (one_longer xs y)

by_variable : (d : Design) (name : List ℕ) (v : Visible) (n : ℕ) (rest : List ℕ) (o : Option ℕ) (b : Bool) → slice_get d.visible n ≡ Some v → rest ≡ var_at d name o
    → (if b then var_line (visible_width d v.id) n name else rest) ≡ var_at d name (if b then Some n else o)
by_variable d name v n rest o true at h = sym (ap (var_if d name n) at)
by_variable d name v n rest o false at h = h

from_here : (d : Design) (name : List ℕ) (before vs : List Visible) (i n : ℕ) → d.visible ≡ before ++ vs → length before ≡ n → var_of d i name n vs ≡ var_at d name (variable_of i n vs)
from_here d name before [] i n all long = refl
from_here d name before (v ∷ vs) i n all long =
    by_variable d name v n (var_of d i name (suc n) vs) (variable_of i (suc n) vs) (v.object == i)
    (ap (λ (xs : List Visible). slice_get xs n) all ∙ ap (λ (k : ℕ). slice_get (before ++ v ∷ vs) k) (sym long) ∙ at_place before v vs)
    (from_here d name (before ++ v ∷ []) vs i (suc n) (all ∙ sym (append_assoc before (v ∷ []) vs)) (one_longer before v ∙ ap suc long))

pub first_variable : (d : Design) (name : List ℕ) (i : ℕ) → var_of d i name 0 d.visible ≡ var_at d name (variable_of i 0 d.visible)
first_variable d name i = from_here d name [] d.visible i 0 refl refl

-- tasks that are put before others

abbrev visit_at : ℕ → ℕ → Task
visit_at levels i = task.Visit i levels

pub text_append : (d : Design) (xs ys : List Task) → tasks_text d (xs ++ ys) ≡ tasks_text d ys ++ tasks_text d xs
text_append d [] ys = sym (append-nil (tasks_text d ys))
text_append d (x ∷ xs) ys =
    ap (λ (t : List ℕ). t ++ task_text d x) (text_append d xs ys) ∙ append_assoc (tasks_text d ys) (tasks_text d xs) (task_text d x)

pub text_visits : (d : Design) (levels : ℕ) (is : List ℕ) → tasks_text d (visits levels (reverse is)) ≡ flat_map (walk_from levels d) is
text_visits d levels [] = refl
text_visits d levels (i ∷ is) =
    ap (λ (xs : List ℕ). tasks_text d (visits levels xs)) (reverse-append (i ∷ []) is)
    ∙ ap (tasks_text d) (map-append (visit_at levels) (reverse is) (i ∷ []))
    ∙ text_append d (visits levels (reverse is)) (visit_at levels i ∷ [])
    ∙ ap (λ (t : List ℕ). walk_from levels d i ++ t) (text_visits d levels is)

pub cost_append : (d : Design) (xs ys : List Task) → tasks_cost d (xs ++ ys) ≡ tasks_cost d xs + tasks_cost d ys
cost_append d [] ys = omega arith
cost_append d (x ∷ xs) ys = let h = cost_append d xs ys in omega (arith, h)

pub cost_visits : (d : Design) (levels : ℕ) (is : List ℕ) → tasks_cost d (visits levels (reverse is)) ≡ sum (map (walk_cost levels d) is)
cost_visits d levels [] = refl
cost_visits d levels (i ∷ is) =
    let turned : tasks_cost d (visits levels (reverse (i ∷ is))) ≡ tasks_cost d (visits levels (reverse is)) + tasks_cost d (visit_at levels i ∷ []) =
    ap (λ (xs : List ℕ). tasks_cost d (visits levels xs)) (reverse-append (i ∷ []) is)
    ∙ ap (tasks_cost d) (map-append (visit_at levels) (reverse is) (i ∷ []))
    ∙ cost_append d (visits levels (reverse is)) (visit_at levels i ∷ []) in
    let one : tasks_cost d (visit_at levels i ∷ []) ≡ walk_cost levels d i = add-zero (walk_cost levels d i) in
    let inside = sum (map (walk_cost levels d) is) in
    let flip : inside + walk_cost levels d i ≡ walk_cost levels d i + inside = omega arith in
    turned
    ∙ ap (λ (k : ℕ). k + tasks_cost d (visit_at levels i ∷ [])) (cost_visits d levels is)
    ∙ ap (λ (k : ℕ). inside + k) one
    ∙ flip
    ∙ sym (sum_by-cons (λ (k : ℕ). k) (walk_cost levels d i) (map (walk_cost levels d) is))

-- one visit more, from the last down
pub visits_more : (levels p : ℕ) (is : List ℕ) (d : ℕ) → 0 < p → p ≤ length is
    → visits levels (reverse (drop p is)) ++ task.Visit (get_or is (p - 1) d) levels ∷ [] ≡ visits levels (reverse (drop (p - 1) is))
visits_more levels p is d some most =
    let i = get_or is (p - 1) d in
    let up : p - 1 + 1 ≡ p = omega (arith, some) in
    let here : drop (p - 1) is ≡ i ∷ drop p is = drop_more is (p - 1) d (omega (arith, some, most)) ∙ ap (λ (k : ℕ). i ∷ drop k is) up in
    sym (ap (λ (xs : List ℕ). visits levels (reverse xs)) here
    ∙ ap (visits levels) (reverse-append (i ∷ []) (drop p is))
    ∙ map-append (visit_at levels) (reverse (drop p is)) (i ∷ []))

-- an instance that is entered: the line that opens it is written, and what stands in it and its end are to be written
pub entered : (d : Design) (text opening : List ℕ) (tasks : List Task) (levels : ℕ) (is : List ℕ)
    → (text ++ opening) ++ tasks_text d ((tasks ++ task.Leave ∷ []) ++ visits levels (reverse is))
    ≡ text ++ ((opening ++ flat_map (walk_from levels d) is ++ upscope_line) ++ tasks_text d tasks)
entered d text opening tasks levels is =
    let inside = flat_map (walk_from levels d) is in
    ap (λ (t : List ℕ). (text ++ opening) ++ t)
    (text_append d (tasks ++ task.Leave ∷ []) (visits levels (reverse is))
    ∙ ap (λ (t : List ℕ). t ++ tasks_text d (tasks ++ task.Leave ∷ [])) (text_visits d levels is)
    ∙ ap (λ (t : List ℕ). inside ++ t) (text_append d tasks (task.Leave ∷ [])))
    ∙ append_assoc text opening (inside ++ (upscope_line ++ tasks_text d tasks))
    ∙ ap (λ (t : List ℕ). text ++ t)
    (sym (append_assoc (opening ++ inside) upscope_line (tasks_text d tasks) ∙ append_assoc opening inside (upscope_line ++ tasks_text d tasks)))

pub entered_cost : (d : Design) (tasks : List Task) (levels : ℕ) (is : List ℕ)
    → tasks_cost d ((tasks ++ task.Leave ∷ []) ++ visits levels (reverse is)) ≡ 1 + sum (map (walk_cost levels d) is) + tasks_cost d tasks
entered_cost d tasks levels is =
    let all = cost_append d (tasks ++ task.Leave ∷ []) (visits levels (reverse is)) in
    let end : tasks_cost d (tasks ++ task.Leave ∷ []) ≡ tasks_cost d tasks + 1 = cost_append d tasks (task.Leave ∷ []) in
    let inside = cost_visits d levels is in
    omega (arith, all, end, inside)

-- the last task is taken
pub text_taken : (d : Design) (tasks : List Task) (t : Task) → tasks_text d (tasks ++ t ∷ []) ≡ task_text d t ++ tasks_text d tasks
text_taken d tasks t = text_append d tasks (t ∷ [])

pub cost_taken : (d : Design) (tasks : List Task) (t : Task) → tasks_cost d (tasks ++ t ∷ []) ≡ task_cost d t + tasks_cost d tasks
cost_taken d tasks t = let h : tasks_cost d (tasks ++ t ∷ []) ≡ tasks_cost d tasks + (task_cost d t + 0) = cost_append d tasks (t ∷ []) in omega (arith, h)

-- a walk with a level less

pub walk_step : (d : Design) (levels number : ℕ) → 0 < levels
    → walk_from levels d number ≡ object_walk d number (walk_from (levels - 1) d) (slice_get d.objects.list number)
walk_step d zero number some = absurd (omega (arith, some))
walk_step d (suc levels) number some =
    let down : suc levels - 1 ≡ levels = omega arith in
    sym (ap (λ (k : ℕ). object_walk d number (walk_from k d) (slice_get d.objects.list number)) down)

pub cost_step : (d : Design) (levels number : ℕ) → 0 < levels → walk_cost levels d number ≡ 2 + sum (map (walk_cost (levels - 1) d) (items_of d number))
cost_step d zero number some = absurd (omega (arith, some))
cost_step d (suc levels) number some =
    let down : suc levels - 1 ≡ levels = omega arith in
    sym (ap (λ (k : ℕ). 2 + sum (map (walk_cost k d) (items_of d number))) down)

-- the whole header

pub whole_header : (d : Design) (made behind walked start : List ℕ) (tasks : List Task) (list : List Object) → made ≡ behind
    → behind ≡ walked ++ (codes "$enddefinitions $end" ++ 10 ∷ []) → walked ≡ start ++ tasks_text d tasks → start ≡ scale_line d.resolution
    → tasks ≡ task.Visit 0 (length list) ∷ [] → list ≡ d.objects.list → made ≡ header d
whole_header d made behind walked start tasks list e1 e2 e3 e4 e5 e6 =
    let scale = scale_line d.resolution in
    let end = codes "$enddefinitions $end" ++ 10 ∷ [] in
    e1 ∙ e2
    ∙ ap (λ (t : List ℕ). t ++ end) e3
    ∙ ap (λ (t : List ℕ). (t ++ tasks_text d tasks) ++ end) e4
    ∙ ap (λ (ts : List Task). (scale ++ tasks_text d ts) ++ end) e5
    ∙ ap (λ (os : List Object). (scale ++ walk_from (length os) d 0) ++ end) e6
    ∙ sym (append_assoc (scale ++ walk_from (length d.objects.list) d 0) (codes "$enddefinitions $end") (10 ∷ []))
