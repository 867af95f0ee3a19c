-- The objects inside an instance, by the rows of the modules, and those that a walk along instances has still to make.
use Rattle.std.specs.Prelude.{ℕ, zero, suc, ◌+◌, List, [], ◌∷◌, ◌++◌, length, drop, slice_get, unwrap_or}
use Rattle.check_names.specs.FlatDesign.declared.objects.Object.{Object}
use Rattle.check_names.specs.FlatDesign.declared.objects.ObjectForm.{ObjectForm}
use Rattle.check_names.specs.FlatDesign.declared.objects.ObjectForm.TheVariants as form
use Rattle.design_rules.specs.Listing.{Inside}
use Rattle.elaborate_objects.specs.Rows.{Row}
use Rattle.elaborate_objects.specs.declared.frames.Frame.{Frame}

-- those of each module
abbrev pub Rows : Type 0
Rows = List (List Row)

-- past the modules there are none
abbrev pub rows_at : Rows → ℕ → List Row
rows_at t place = unwrap_or (slice_get t place) []

abbrev pub object_of : ℕ → Row → Object
object_of parent r = record { name = r.name; line = r.line; parent = parent; form = r.form }

-- inside an object of this number: only an instance has objects
abbrev pub inside_form : Inside → ℕ → ObjectForm → List Object
inside_form inside at (form.Instance m) = inside at m
inside_form inside at (form.Signal kind many t initial) = []
inside_form inside at form.Resolved = []
inside_form inside at (form.Clock period high start code) = []
inside_form inside at (form.Fifo t size) = []
inside_form inside at form.Mutex = []
inside_form inside at form.Event = []
inside_form inside at form.Keeper = []
inside_form inside at (form.Semaphore start) = []
inside_form inside at (form.Memory size) = []
inside_form inside at (form.Variable t initial) = []
inside_form inside at (form.Port leads_to size rule) = []
inside_form inside at (form.Export leads_to) = []
inside_form inside at (form.Initiator pass backward) = []
inside_form inside at (form.Target pass blocking forward) = []
inside_form inside at (form.Process kind code dont_initialize) = []

-- in the instance of the number `parent`, if the next object has the number `at`
abbrev pub of_rows : Inside → ℕ → ℕ → List Row → List Object
of_rows inside parent at [] = []
of_rows inside parent at (r ∷ rs) =
    object_of parent r ∷ (inside_form inside at r.form ++ of_rows inside parent (at + 1 + length (inside_form inside at r.form)) rs)

-- within so many instances, one in the other
unfoldable pub rows_within : ℕ → Rows → Inside
rows_within zero t at place = []
rows_within (suc n) t at place = of_rows (rows_within n t) at (at + 1) (rows_at t place)

-- of the instance of a frame, from its next row on
abbrev pub left_in : Rows → ℕ → Frame → List Object
left_in t at f = of_rows (rows_within f.depth t) f.instance at (drop f.next (rows_at t f.place))

-- of frames, of which the last is the innermost
abbrev pub left_of : Rows → ℕ → List Frame → List Object
left_of t at [] = []
left_of t at (f ∷ inner) = left_of t at inner ++ left_in t (at + length (left_of t at inner)) f
