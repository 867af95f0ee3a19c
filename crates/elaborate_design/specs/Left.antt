-- The bindings inside an instance, by the links of the modules, and those that a walk along instances has still to list.
use Rattle.std.specs.Prelude.{ℕ, zero, suc, List, [], ◌∷◌, ◌++◌, drop}
use Rattle.std.specs.List.{flat_map}
use Rattle.elaborate_objects.specs.FlatDesign.declared.objects.Object.{Object}
use Rattle.elaborate_objects.specs.FlatDesign.declared.objects.Binding.{Binding}
use Rattle.elaborate_objects.specs.DesignRules.Listing.{InsideBinds, child, end_of}
use Rattle.elaborate_design.specs.Links.{Link, enters, binds, Links, links_at}
use Rattle.elaborate_design.specs.declared.frames.Frame.{Frame}

abbrev pub binds_by : InsideBinds → List Object → ℕ → Link → List Binding
binds_by inside os parent (enters name place) = inside (child os parent name) place
binds_by inside os parent (binds line left right) =
    (record { line = line; instance = parent; left = end_of os parent left; right = end_of os parent right }) ∷ []

-- within so many instances, one in the other
unfoldable pub links_within : ℕ → Links → List Object → InsideBinds
links_within zero t os parent place = []
links_within (suc n) t os parent place = flat_map (binds_by (links_within n t os) os parent) (links_at t place)

-- of the instance of a frame, from its next link on
abbrev pub left_in : Links → List Object → Frame → List Binding
left_in t os f = flat_map (binds_by (links_within f.depth t os) os f.instance) (drop f.next (links_at t f.place))

-- of frames, of which the last is the innermost
abbrev pub left_of : Links → List Object → List Frame → List Binding
left_of t os [] = []
left_of t os (f ∷ inner) = left_of t os inner ++ left_in t os f

-- all that these bindings and frames come to
abbrev pub whole_of : Links → List Object → List Binding → List Frame → List Binding
whole_of t os bs fs = bs ++ left_of t os fs
