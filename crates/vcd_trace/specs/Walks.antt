-- Walks along the instances of a design: the text so far, and what is still to be written, the next last.
use Rattle.std.specs.Prelude.{◌≡◌, ℕ, zero, suc, ◌+◌, ◌<◌, List, [], ◌∷◌, ◌++◌, map, length, sum, slice_get, Option, Some, None}
use Rattle.flat_design.specs.declared.design.Design.{Design}
use Rattle.flat_design.specs.declared.design.Visible.{Visible}
use Rattle.laws_runs.specs.SimModel.Trace.{walk_from, items_of, upscope_line, var_line, visible_width}
use Rattle.vcd_trace.specs.declared.walks.Tables.{Tables}
use Rattle.vcd_trace.specs.declared.walks.Task.{Task}
use Rattle.vcd_trace.specs.declared.walks.Task.TheVariants as task
use Rattle.vcd_trace.specs.declared.walks.Walk.{Walk}
use Rattle.vcd_trace.specs.Tables.{row_of, variable_at, variable_of}

-- the line of variable n
abbrev pub var_if : Design → List ℕ → ℕ → Option Visible → List ℕ
var_if d name n None = []
var_if d name n (Some v) = var_line (visible_width d v.id) n name

abbrev pub var_at : Design → List ℕ → Option ℕ → List ℕ
var_at d name None = []
var_at d name (Some n) = var_if d name n (slice_get d.visible n)

pub record AreTables (d : Design) (t : Tables) : Type 0 where
  pub rows : (at : ℕ) → at < length d.objects.list → row_of t.rows.items at ≡ items_of d at
  pub variables : (i : ℕ) → i < length d.objects.list → variable_at t.variables.items i ≡ variable_of i 0 d.visible

abbrev pub visits : ℕ → List ℕ → List Task
visits levels is = map (λ (i : ℕ). task.Visit i levels) is

abbrev pub task_text : Design → Task → List ℕ
task_text d (task.Visit i levels) = walk_from levels d i
task_text d task.Leave = upscope_line

abbrev pub tasks_text : Design → List Task → List ℕ
tasks_text d [] = []
tasks_text d (t ∷ ts) = tasks_text d ts ++ task_text d t

abbrev pub whole_of : Design → Walk → List ℕ
whole_of d w = w.text.items ++ tasks_text d w.tasks.items

-- how much there is to do at most

abbrev pub walk_cost : ℕ → Design → ℕ → ℕ
walk_cost zero d i = 1
walk_cost (suc levels) d i = 2 + sum (map (walk_cost levels d) (items_of d i))

abbrev pub task_cost : Design → Task → ℕ
task_cost d (task.Visit i levels) = walk_cost levels d i
task_cost d task.Leave = 1

abbrev pub tasks_cost : Design → List Task → ℕ
tasks_cost d [] = 0
tasks_cost d (t ∷ ts) = task_cost d t + tasks_cost d ts
