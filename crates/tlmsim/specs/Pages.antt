-- Pages: what is told of one file.
use Rattle.std.specs.Prelude.{◌≡◌, ⊤, ℕ, List, ◌++◌, codes, Ok, Err}
use Rattle.std.specs.Fmt.{decimal}
use Rattle.model_tree.specs.Tree as tree
use Rattle.traffic_file.specs.declared.Bus.{Bus}
use Rattle.traffic_file.specs.declared.stops.BusStop.{BusStop}
use Rattle.traffic_file.specs.BusText.{bus_of}
use Rattle.bus_runs.specs.Runs.{IsWrittenFor}
use Rattle.flat_design.specs.declared.design.Design.{Design}
use Rattle.laws_order.specs.OrderFree.Free.{Says}
use Rattle.laws_order.specs.OrderFree.declared.verdicts.Verdict.{Verdict}
use Rattle.laws_order.specs.OrderFree.declared.verdicts.Verdict.TheVariants as verdict
use Rattle.laws_order.specs.AnyOrder.{OrderDoesNotMatter}
use Rattle.command_line.specs.declared.modes.PageKind.{PageKind}
use Rattle.command_line.specs.declared.modes.PageKind.TheVariants as page_kind
use Rattle.run_input.specs.Acceptance.{AcceptsModel, IsBrokenModel, IsLayoutOf, IsDesignOfSource}

-- the line of a verdict
abbrev pub verdict_line : Verdict → List ℕ
verdict_line verdict.Yes = codes "order free yes\n"
verdict_line (verdict.No rule) = codes "order free no " ++ decimal rule ++ codes "\n"

-- what it means for the runs of a design: under a yes the order of processes does not matter
abbrev pub Means : Design → Verdict → Type 0
Means d verdict.Yes = OrderDoesNotMatter d
Means d (verdict.No rule) = ⊤

-- the model is accepted, and this line is what the rule on the order of processes says of a design of it, with what that means
pub record IsVerdictOf (model page : List ℕ) : Type 0 where
  pub m : tree.Source
  pub accepted : AcceptsModel model m
  pub design : Design
  pub is_design : IsDesignOfSource m design
  pub verdict : Verdict
  pub says : Says design verdict
  pub means : Means design verdict
  pub page_is : page ≡ verdict_line verdict

-- a page of this kind of a text: a model, laid out; the verdict on a model; what comes of the traffic of a bus
abbrev pub IsPageOf : PageKind → List ℕ → List ℕ → Type 0
IsPageOf page_kind.Layout text page = IsLayoutOf text page
IsPageOf page_kind.Verdict text page = IsVerdictOf text page
IsPageOf page_kind.Traffic text page = IsWrittenFor text page

-- the text is judged as a model
abbrev pub ReadsModel : PageKind → Type 0
ReadsModel page_kind.Layout = ⊤
ReadsModel page_kind.Verdict = ⊤
ReadsModel page_kind.Traffic = ⊥

-- a text that has such a page: a model that is accepted, or a traffic file that has a bus
abbrev pub IsFitFor : PageKind → List ℕ → Type 0
IsFitFor page_kind.Layout text = (m : tree.Source) × AcceptsModel text m
IsFitFor page_kind.Verdict text = (m : tree.Source) × AcceptsModel text m
IsFitFor page_kind.Traffic text = (bus : Bus) × (bus_of text ≡ Ok bus)

-- and one that is refused
abbrev pub IsUnfitFor : PageKind → List ℕ → Type 0
IsUnfitFor page_kind.Layout text = IsBrokenModel text
IsUnfitFor page_kind.Verdict text = IsBrokenModel text
IsUnfitFor page_kind.Traffic text = (f : BusStop) × (bus_of text ≡ Err f)
