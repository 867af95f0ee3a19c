-- Which right end fits which left end of a binding.
use Rattle.std.specs.Prelude.{ℕ, Bool, true, false, ◌==◌, Option, Some, None, not}
use Rattle.code_rules.specs.FlatDesign.declared.value_types.ValueType.{ValueType}
use Rattle.code_rules.specs.FlatDesign.declared.value_types.ValueType.TheVariants as type
use Rattle.code_rules.specs.FlatDesign.declared.objects.LeadsTo.{LeadsTo}
use Rattle.code_rules.specs.FlatDesign.declared.objects.LeadsTo.TheVariants as leads
use Rattle.code_rules.specs.FlatDesign.declared.objects.ObjectForm.{ObjectForm}
use Rattle.code_rules.specs.FlatDesign.declared.objects.ObjectForm.TheVariants as form
use Rattle.code_rules.specs.FlatDesign.declared.objects.Binding.{Binding}
use Rattle.code_rules.specs.FlatDesign.declared.objects.Objects.{Objects}
use Rattle.design_rules.specs.Objects.{form_at}

-- equality of types
abbrev pub is_same_type : ValueType → ValueType → Bool
is_same_type type.Bool type.Bool = true
is_same_type (type.Int v) (type.Int w) = v == w
is_same_type (type.Uint v) (type.Uint w) = v == w
is_same_type type.Logic type.Logic = true
is_same_type (type.Vector v) (type.Vector w) = v == w
is_same_type type.Time type.Time = true
is_same_type type.Process type.Process = true
is_same_type type.Payload type.Payload = true
is_same_type s t = false

-- Of a port or an export that is bound: whether it leads to signals of this type ..
abbrev pub leads_to_signal : ValueType → LeadsTo → Bool
leads_to_signal t (leads.In s) = is_same_type s t
leads_to_signal t (leads.Out s) = is_same_type s t
leads_to_signal t (leads.FifoIn s) = false
leads_to_signal t (leads.FifoOut s) = false
leads_to_signal t leads.Mutex = false
leads_to_signal t leads.Semaphore = false

-- .. and only reads them,
abbrev pub only_reads : ValueType → LeadsTo → Bool
only_reads t (leads.In s) = is_same_type s t
only_reads t (leads.Out s) = false
only_reads t (leads.FifoIn s) = false
only_reads t (leads.FifoOut s) = false
only_reads t leads.Mutex = false
only_reads t leads.Semaphore = false

-- whether it reads from fifos of this type, writes to them, or either,
abbrev pub reads_fifo : ValueType → LeadsTo → Bool
reads_fifo t (leads.In s) = false
reads_fifo t (leads.Out s) = false
reads_fifo t (leads.FifoIn s) = is_same_type s t
reads_fifo t (leads.FifoOut s) = false
reads_fifo t leads.Mutex = false
reads_fifo t leads.Semaphore = false

abbrev pub writes_fifo : ValueType → LeadsTo → Bool
writes_fifo t (leads.In s) = false
writes_fifo t (leads.Out s) = false
writes_fifo t (leads.FifoIn s) = false
writes_fifo t (leads.FifoOut s) = is_same_type s t
writes_fifo t leads.Mutex = false
writes_fifo t leads.Semaphore = false

abbrev pub leads_to_fifo : ValueType → LeadsTo → Bool
leads_to_fifo t (leads.In s) = false
leads_to_fifo t (leads.Out s) = false
leads_to_fifo t (leads.FifoIn s) = is_same_type s t
leads_to_fifo t (leads.FifoOut s) = is_same_type s t
leads_to_fifo t leads.Mutex = false
leads_to_fifo t leads.Semaphore = false

-- and whether it leads to mutexes, or to semaphores.
abbrev pub leads_to_mutex : LeadsTo → Bool
leads_to_mutex (leads.In s) = false
leads_to_mutex (leads.Out s) = false
leads_to_mutex (leads.FifoIn s) = false
leads_to_mutex (leads.FifoOut s) = false
leads_to_mutex leads.Mutex = true
leads_to_mutex leads.Semaphore = false

abbrev pub leads_to_semaphore : LeadsTo → Bool
leads_to_semaphore (leads.In s) = false
leads_to_semaphore (leads.Out s) = false
leads_to_semaphore (leads.FifoIn s) = false
leads_to_semaphore (leads.FifoOut s) = false
leads_to_semaphore leads.Mutex = false
leads_to_semaphore leads.Semaphore = true

-- a port or an export as the right end fits the same word and type; what reads signals fits one that writes them, too
abbrev pub leads_through : LeadsTo → LeadsTo → Bool
leads_through left (leads.In t) = only_reads t left
leads_through left (leads.Out t) = leads_to_signal t left
leads_through left (leads.FifoIn t) = reads_fifo t left
leads_through left (leads.FifoOut t) = writes_fifo t left
leads_through left leads.Mutex = leads_to_mutex left
leads_through left leads.Semaphore = leads_to_semaphore left

-- a right end of this form fits a port or an export: a clock is a signal of type bool that is only read, and a resolved
-- signal one of type logic
abbrev pub fits : LeadsTo → ObjectForm → Bool
fits left (form.Instance m) = false
fits left (form.Signal kind many t initial) = leads_to_signal t left
fits left form.Resolved = leads_to_signal type.Logic left
fits left (form.Clock period high start code) = only_reads type.Bool left
fits left (form.Fifo t size) = leads_to_fifo t left
fits left form.Mutex = leads_to_mutex left
fits left form.Event = false
fits left form.Keeper = false
fits left (form.Semaphore start) = leads_to_semaphore left
fits left (form.Memory size) = false
fits left (form.Variable t initial) = false
fits left (form.Port leads_to size rule) = leads_through left leads_to
fits left (form.Export leads_to) = leads_through left leads_to
fits left (form.Initiator pass backward) = false
fits left (form.Target pass blocking forward) = false
fits left (form.Process kind code dont_initialize) = false

abbrev pub fits_end : LeadsTo → Option ObjectForm → Bool
fits_end left None = false
fits_end left (Some right) = fits left right

-- a binding whose ends differ in kind: a port's or an export's, since sockets fit by their forms alone
abbrev pub differs : Option ObjectForm → ObjectForm → Bool
differs right (form.Instance m) = false
differs right (form.Signal kind many t initial) = false
differs right form.Resolved = false
differs right (form.Clock period high start code) = false
differs right (form.Fifo t size) = false
differs right form.Mutex = false
differs right form.Event = false
differs right form.Keeper = false
differs right (form.Semaphore start) = false
differs right (form.Memory size) = false
differs right (form.Variable t initial) = false
differs right (form.Port leads_to size rule) = not (fits_end leads_to right)
differs right (form.Export leads_to) = not (fits_end leads_to right)
differs right (form.Initiator pass backward) = false
differs right (form.Target pass blocking forward) = false
differs right (form.Process kind code dont_initialize) = false

abbrev pub differs_at : Option ObjectForm → Option ObjectForm → Bool
differs_at right None = false
differs_at right (Some left) = differs right left

abbrev pub kind_differs : Objects → Binding → Bool
kind_differs os b = differs_at (form_at os b.right) (form_at os b.left)
