-- Where bindings lead: the channels of a port, the target of an initiator, and the initiators that lead to a target.
use Rattle.std.specs.Prelude.{◌≡◌, ◌+◌, ◌*◌, ℕ, zero, suc, Bool, true, false, not, List, [], ◌∷◌, length, Option, Some, None, Contains}
use Rattle.std.specs.List.{flat_map}
use Rattle.code_rules.specs.FlatDesign.declared.objects.ObjectForm.{ObjectForm}
use Rattle.code_rules.specs.FlatDesign.declared.objects.ObjectForm.TheVariants as form
use Rattle.code_rules.specs.FlatDesign.declared.objects.Binding.{Binding}
use Rattle.code_rules.specs.FlatDesign.declared.objects.Objects.{Objects}
use Rattle.design_rules.specs.Objects.{form_at, bindings_of, bindings_to}

-- a path of bindings goes on at a port, an export, an initiator, or a target with `pass`; anything else is its end
abbrev pub ends_path : ObjectForm → Bool
ends_path (form.Instance m) = true
ends_path (form.Signal kind many t initial) = true
ends_path form.Resolved = true
ends_path (form.Clock period high start code) = true
ends_path (form.Fifo t size) = true
ends_path form.Mutex = true
ends_path form.Event = true
ends_path form.Keeper = true
ends_path (form.Semaphore start) = true
ends_path (form.Memory size) = true
ends_path (form.Variable t initial) = true
ends_path (form.Port leads_to size rule) = false
ends_path (form.Export leads_to) = false
ends_path (form.Initiator pass backward) = false
ends_path (form.Target pass blocking forward) = not pass
ends_path (form.Process kind code dont_initialize) = true

abbrev pub is_end : Option ObjectForm → Bool
is_end None = true
is_end (Some f) = ends_path f

-- an initiator without `pass` leads to targets
abbrev pub begins_path : ObjectForm → Bool
begins_path (form.Instance m) = false
begins_path (form.Signal kind many t initial) = false
begins_path form.Resolved = false
begins_path (form.Clock period high start code) = false
begins_path (form.Fifo t size) = false
begins_path form.Mutex = false
begins_path form.Event = false
begins_path form.Keeper = false
begins_path (form.Semaphore start) = false
begins_path (form.Memory size) = false
begins_path (form.Variable t initial) = false
begins_path (form.Port leads_to size rule) = false
begins_path (form.Export leads_to) = false
begins_path (form.Initiator pass backward) = not pass
begins_path (form.Target pass blocking forward) = false
begins_path (form.Process kind code dont_initialize) = false

abbrev pub is_beginning : Option ObjectForm → Bool
is_beginning None = false
is_beginning (Some f) = begins_path f

-- the object itself, or what stands for it
abbrev pub itself_or : List ℕ → ℕ → Bool → List ℕ
itself_or others i true = i ∷ []
itself_or others i false = others

-- Where the bindings of an object lead, within so many steps. Its bindings in text order, one after another: the right
-- end itself where it is an end, and else where the bindings of the right end lead.
unfoldable pub ends_within : ℕ → Objects → ℕ → List ℕ
ends_within zero os i = []
ends_within (suc n) os i =
    flat_map (λ (b : Binding). itself_or (ends_within n os b.right) b.right (is_end (form_at os b.right))) (bindings_of os i)

-- A path goes up through ports and initiators, and then down through exports and targets, so that it has fewer steps than
-- twice as many as there are objects.
abbrev pub steps : Objects → ℕ
steps os = 2 * length os.list

-- the channels of a port; the target that an initiator reaches
abbrev pub ends_of : Objects → ℕ → List ℕ
ends_of os i = ends_within (steps os) os i

-- The initiators without `pass` that lead to a socket, within so many steps. The bindings to it in text order, one after
-- another: the left end itself where it is such an initiator, and else those that lead to the left end.
unfoldable pub leaders_within : ℕ → Objects → ℕ → List ℕ
leaders_within zero os i = []
leaders_within (suc n) os i =
    flat_map (λ (b : Binding). itself_or (leaders_within n os b.left) b.left (is_beginning (form_at os b.left))) (bindings_to os i)

abbrev pub leaders_of : Objects → ℕ → List ℕ
leaders_of os i = leaders_within (steps os) os i

-- a path of bindings from an object to another
pub data Reaches (os : Objects) : ℕ → ℕ → Type 0 where
  Directly : (b : Binding) → Contains os.binds b → Reaches os b.left b.right
  Through : (b : Binding) (i : ℕ) → Contains os.binds b → Reaches os b.right i → Reaches os b.left i
