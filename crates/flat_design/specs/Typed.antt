-- Typed code: which expressions have which type, and which statements fit their parts.
use Rattle.std.specs.Prelude.{◌≡◌, ◌⊎◌, ◌≤◌, ◌<◌, ◌+◌, ◌-◌, ℕ, Bool, true, false, ⊤, List, [], ◌∷◌, slice_get, take, Option, Some, None}
use Rattle.model_tree.specs.declared.expressions.UnaryOp.{UnaryOp}
use Rattle.model_tree.specs.declared.expressions.UnaryOp.TheVariants as unary_op
use Rattle.model_tree.specs.declared.expressions.BinaryOp.{BinaryOp}
use Rattle.model_tree.specs.declared.expressions.BinaryOp.TheVariants as op
use Rattle.flat_design.specs.ValueTypes.{type_of_value, in_expressions}
use Rattle.flat_design.specs.Code as code
use Rattle.flat_design.specs.Code.{Term, ChannelTerm, EventTerm, AwaitTerm, ArgumentTerm, DestinationTerm, SpawnTerm, Statement, Arena, body_at}
use Rattle.flat_design.specs.Denotes.{Context, declared, variable_type}
use Rattle.flat_design.specs.declared.value_types.ValueType.{ValueType}
use Rattle.flat_design.specs.declared.value_types.ValueType.TheVariants as type
use Rattle.flat_design.specs.declared.names.NameUse.{NameUse}
use Rattle.flat_design.specs.declared.names.NameUse.TheVariants as name_use
use Rattle.flat_design.specs.declared.names.Member.{Member}
use Rattle.flat_design.specs.declared.names.Member.TheVariants as member
use Rattle.flat_design.specs.declared.names.PayloadField.{PayloadField}
use Rattle.flat_design.specs.declared.names.PayloadField.TheVariants as field
use Rattle.flat_design.specs.declared.names.EventMember.{EventMember}
use Rattle.flat_design.specs.declared.names.EventMember.TheVariants as event
use Rattle.flat_design.specs.declared.objects.LeadsTo.{LeadsTo}
use Rattle.flat_design.specs.declared.objects.LeadsTo.TheVariants as leads
use Rattle.flat_design.specs.declared.code.BodyKind.TheVariants as body_kind
use Rattle.flat_design.specs.declared.code.CodeBody.{CodeBody}
use Rattle.flat_design.specs.declared.code.Local.{Local}
use Rattle.flat_design.specs.declared.code.Store.{Store}
use Rattle.flat_design.specs.declared.code.StaticUse.{StaticUse}
use Rattle.flat_design.specs.declared.code.Controlled.{Controlled}
use Rattle.flat_design.specs.declared.code.Controlled.TheVariants as controlled
use Rattle.flat_design.specs.declared.design.ChannelId.{ChannelId}
use Rattle.flat_design.specs.declared.design.ChannelId.TheVariants as channel
use Rattle.flat_design.specs.declared.design.Denoted.{Denoted}
use Rattle.flat_design.specs.declared.design.Denoted.TheVariants as denoted
use Rattle.flat_design.specs.declared.design.Design.{Design}

-- types

-- an integer as expressions have it
abbrev pub IsInteger : ValueType → Type 0
IsInteger t = (t ≡ type.Int 64) ⊎ (t ≡ type.Uint 64)

-- what the operators on bits take
abbrev pub IsBitwise : ValueType → Type 0
IsBitwise type.Bool = ⊤
IsBitwise (type.Int width) = width ≡ 64
IsBitwise (type.Uint width) = width ≡ 64
IsBitwise type.Logic = ⊤
IsBitwise (type.Vector width) = ⊤
IsBitwise type.Time = ⊥
IsBitwise type.Process = ⊥
IsBitwise type.Payload = ⊥

-- what is compared for equality
abbrev pub IsCompared : ValueType → Type 0
IsCompared type.Bool = ⊤
IsCompared (type.Int width) = width ≡ 64
IsCompared (type.Uint width) = width ≡ 64
IsCompared type.Logic = ⊤
IsCompared (type.Vector width) = ⊤
IsCompared type.Time = ⊤
IsCompared type.Process = ⊤
IsCompared type.Payload = ⊤

-- what is ordered, added and subtracted
abbrev pub IsQuantity : ValueType → Type 0
IsQuantity t = IsInteger t ⊎ (t ≡ type.Time)

-- an operand of the first type gives a result of the second
abbrev pub UnaryType : UnaryOp → ValueType → ValueType → Type 0
UnaryType unary_op.Negate s t = IsInteger s × (t ≡ s)
UnaryType unary_op.Not s t = (s ≡ type.Bool) × (t ≡ type.Bool)
UnaryType unary_op.Complement s t = IsBitwise s × (t ≡ s)

abbrev pub IsTruth : ValueType → ValueType → ValueType → Type 0
IsTruth s u t = (s ≡ type.Bool) × (u ≡ type.Bool) × (t ≡ type.Bool)

abbrev pub SameAll : (ValueType → Type 0) → ValueType → ValueType → ValueType → Type 0
SameAll P s u t = P s × (u ≡ s) × (t ≡ s)

abbrev pub Compares : (ValueType → Type 0) → ValueType → ValueType → ValueType → Type 0
Compares P s u t = P s × (u ≡ s) × (t ≡ type.Bool)

abbrev pub Shifts : ValueType → ValueType → ValueType → Type 0
Shifts s u t = IsInteger s × IsInteger u × (t ≡ s)

-- a left and a right operand give a result
abbrev pub BinaryType : BinaryOp → ValueType → ValueType → ValueType → Type 0
BinaryType op.OrElse s u t = IsTruth s u t
BinaryType op.AndThen s u t = IsTruth s u t
BinaryType op.BitOr s u t = SameAll IsBitwise s u t
BinaryType op.BitXor s u t = SameAll IsBitwise s u t
BinaryType op.BitAnd s u t = SameAll IsBitwise s u t
BinaryType op.Equal s u t = Compares IsCompared s u t
BinaryType op.NotEqual s u t = Compares IsCompared s u t
BinaryType op.Less s u t = Compares IsQuantity s u t
BinaryType op.LessEqual s u t = Compares IsQuantity s u t
BinaryType op.Greater s u t = Compares IsQuantity s u t
BinaryType op.GreaterEqual s u t = Compares IsQuantity s u t
BinaryType op.ShiftLeft s u t = Shifts s u t
BinaryType op.ShiftRight s u t = Shifts s u t
BinaryType op.Add s u t = SameAll IsQuantity s u t
BinaryType op.Subtract s u t = SameAll IsQuantity s u t
BinaryType op.Multiply s u t = SameAll IsInteger s u t ⊎ ((s ≡ type.Time) × IsInteger u × (t ≡ type.Time))
BinaryType op.Divide s u t = SameAll IsInteger s u t
BinaryType op.Remainder s u t = SameAll IsInteger s u t

-- a digit of a value, and some digits
abbrev pub DigitType : ValueType → ValueType → Type 0
DigitType type.Bool t = ⊥
DigitType (type.Int width) t = (width ≡ 64) × (t ≡ type.Bool)
DigitType (type.Uint width) t = (width ≡ 64) × (t ≡ type.Bool)
DigitType type.Logic t = ⊥
DigitType (type.Vector width) t = t ≡ type.Logic
DigitType type.Time t = ⊥
DigitType type.Process t = ⊥
DigitType type.Payload t = ⊥

abbrev pub DigitsType : ValueType → ℕ → ℕ → ValueType → Type 0
DigitsType type.Bool high low t = ⊥
DigitsType (type.Int width) high low t = (width ≡ 64) × (low ≤ high) × (high < 64) × (t ≡ type.Uint 64)
DigitsType (type.Uint width) high low t = (width ≡ 64) × (low ≤ high) × (high < 64) × (t ≡ type.Uint 64)
DigitsType type.Logic high low t = ⊥
DigitsType (type.Vector width) high low t = (low ≤ high) × (high < width) × (t ≡ type.Vector ((high - low) + 1))
DigitsType type.Time high low t = ⊥
DigitsType type.Process high low t = ⊥
DigitsType type.Payload high low t = ⊥

-- a conversion to the first type from the second
abbrev pub IsDigits : ValueType → Type 0
IsDigits t = (t ≡ type.Bool) ⊎ ((t ≡ type.Logic) ⊎ ((width : ℕ) × (t ≡ type.Vector width)))

abbrev pub ConvertType : ValueType → ValueType → Type 0
ConvertType type.Bool from = IsInteger from ⊎ (from ≡ type.Logic)
ConvertType (type.Int width) from = (width ≡ 64) × (IsInteger from ⊎ IsDigits from)
ConvertType (type.Uint width) from = (width ≡ 64) × (IsInteger from ⊎ IsDigits from)
ConvertType type.Logic from = from ≡ type.Bool
ConvertType (type.Vector width) from =
    (1 ≤ width) × (width ≤ 64) × (IsInteger from ⊎ (((from ≡ type.Logic) × (width ≡ 1)) ⊎ ((other : ℕ) × (from ≡ type.Vector other))))
ConvertType type.Time from = ⊥
ConvertType type.Process from = ⊥
ConvertType type.Payload from = ⊥

-- names

-- what a channel can be used as, as a port says it
abbrev pub ChannelOffers : Design → ChannelId → LeadsTo → Type 0
ChannelOffers d (channel.Signal n events) (leads.In t) = (p : _) × (slice_get d.signals n ≡ Some p) × (p.value_type ≡ t)
ChannelOffers d (channel.Signal n events) (leads.Out t) = (p : _) × (slice_get d.signals n ≡ Some p) × (p.value_type ≡ t)
ChannelOffers d (channel.Signal n events) (leads.FifoIn t) = ⊥
ChannelOffers d (channel.Signal n events) (leads.FifoOut t) = ⊥
ChannelOffers d (channel.Signal n events) leads.Mutex = ⊥
ChannelOffers d (channel.Signal n events) leads.Semaphore = ⊥
ChannelOffers d (channel.Resolved n events) (leads.In t) = t ≡ type.Logic
ChannelOffers d (channel.Resolved n events) (leads.Out t) = t ≡ type.Logic
ChannelOffers d (channel.Resolved n events) (leads.FifoIn t) = ⊥
ChannelOffers d (channel.Resolved n events) (leads.FifoOut t) = ⊥
ChannelOffers d (channel.Resolved n events) leads.Mutex = ⊥
ChannelOffers d (channel.Resolved n events) leads.Semaphore = ⊥
ChannelOffers d (channel.Fifo n events) (leads.In t) = ⊥
ChannelOffers d (channel.Fifo n events) (leads.Out t) = ⊥
ChannelOffers d (channel.Fifo n events) (leads.FifoIn t) = (p : _) × (slice_get d.fifos n ≡ Some p) × (p.value_type ≡ t)
ChannelOffers d (channel.Fifo n events) (leads.FifoOut t) = (p : _) × (slice_get d.fifos n ≡ Some p) × (p.value_type ≡ t)
ChannelOffers d (channel.Fifo n events) leads.Mutex = ⊥
ChannelOffers d (channel.Fifo n events) leads.Semaphore = ⊥
ChannelOffers d (channel.Mutex n events) (leads.In t) = ⊥
ChannelOffers d (channel.Mutex n events) (leads.Out t) = ⊥
ChannelOffers d (channel.Mutex n events) (leads.FifoIn t) = ⊥
ChannelOffers d (channel.Mutex n events) (leads.FifoOut t) = ⊥
ChannelOffers d (channel.Mutex n events) leads.Mutex = ⊤
ChannelOffers d (channel.Mutex n events) leads.Semaphore = ⊥
ChannelOffers d (channel.Semaphore n events) (leads.In t) = ⊥
ChannelOffers d (channel.Semaphore n events) (leads.Out t) = ⊥
ChannelOffers d (channel.Semaphore n events) (leads.FifoIn t) = ⊥
ChannelOffers d (channel.Semaphore n events) (leads.FifoOut t) = ⊥
ChannelOffers d (channel.Semaphore n events) leads.Mutex = ⊥
ChannelOffers d (channel.Semaphore n events) leads.Semaphore = ⊤

-- what a port can be used as: itself, and one that is written can be read too
abbrev pub PortOffers : LeadsTo → LeadsTo → Type 0
PortOffers kind wanted = (kind ≡ wanted) ⊎ ((t : ValueType) × (kind ≡ leads.Out t) × (wanted ≡ leads.In t))

-- what a declared name can be used as, without a place
abbrev pub Offers : Design → Denoted → LeadsTo → Type 0
Offers d denoted.Nothing wanted = ⊥
Offers d (denoted.Channel c) wanted = ChannelOffers d c wanted
Offers d (denoted.Event e) wanted = ⊥
Offers d (denoted.Keeper k) wanted = ⊥
Offers d (denoted.Memory m) wanted = ⊥
Offers d (denoted.Variable v) wanted = ⊥
Offers d (denoted.Port n) wanted = (p : _) × (slice_get d.ports n ≡ Some p) × PortOffers p.leads_to wanted
Offers d (denoted.Process p) wanted = ⊥
Offers d (denoted.Socket hop forward) wanted = ⊥

-- a place stands on a port alone
abbrev pub IsPort : Denoted → Type 0
IsPort denoted.Nothing = ⊥
IsPort (denoted.Channel c) = ⊥
IsPort (denoted.Event e) = ⊥
IsPort (denoted.Keeper k) = ⊥
IsPort (denoted.Memory m) = ⊥
IsPort (denoted.Variable v) = ⊥
IsPort (denoted.Port n) = ⊤
IsPort (denoted.Process p) = ⊥
IsPort (denoted.Socket hop forward) = ⊥

-- a process, or a variable that holds the handle of one
abbrev pub IsProcess : Context → NameUse → Type 0
IsProcess c (name_use.Local i) = variable_type c (name_use.Local i) ≡ Some type.Process
IsProcess c (name_use.Declared n) = ((p : ℕ) × (declared c n ≡ denoted.Process p)) ⊎ (variable_type c (name_use.Declared n) ≡ Some type.Process)

abbrev pub IsPayload : Context → NameUse → Type 0
IsPayload c named = variable_type c named ≡ Some type.Payload

abbrev pub IsKeeper : Context → ℕ → Type 0
IsKeeper c n = (k : ℕ) × (declared c n ≡ denoted.Keeper k) × (k < c.design.keepers)

abbrev pub IsMemory : Context → ℕ → Type 0
IsMemory c n = (m : ℕ) × (p : _) × (declared c n ≡ denoted.Memory m) × (slice_get c.design.memories m ≡ Some p)

abbrev pub IsEvent : Context → ℕ → Type 0
IsEvent c n = (e : ℕ) × (declared c n ≡ denoted.Event e) × (e < c.design.events)

-- the type of a field of a payload, and what a member needs and gives
abbrev pub field_type : PayloadField → ValueType
field_type field.Command = type.Int 32
field_type field.Status = type.Int 32
field_type field.Address = type.Uint 64
field_type field.Width = type.Uint 32

-- a member of a channel, or of a port's channel, used as a value of this type
abbrev pub ChannelMember : (LeadsTo → Type 0) → Member → ValueType → Type 0
ChannelMember Has member.Changed t = ((s : ValueType) × Has (leads.In s)) × (t ≡ type.Bool)
ChannelMember Has member.Available t = ((s : ValueType) × (Has (leads.FifoIn s) ⊎ Has (leads.FifoOut s))) × (t ≡ type.Uint 64)
ChannelMember Has member.Free t = ((s : ValueType) × (Has (leads.FifoIn s) ⊎ Has (leads.FifoOut s))) × (t ≡ type.Uint 64)
ChannelMember Has member.Value t = Has leads.Semaphore × (t ≡ type.Uint 64)
ChannelMember Has member.Valid t = ⊥
ChannelMember Has member.Terminated t = ⊥
ChannelMember Has member.Live t = ⊥
ChannelMember Has (member.Field f) t = ⊥
ChannelMember Has member.Length t = ⊥
ChannelMember Has member.EnableLength t = ⊥
ChannelMember Has member.Local t = ⊥
ChannelMember Has member.Next t = ⊥
ChannelMember Has member.NeedSync t = ⊥

-- a declared name as a channel
abbrev pub UseOffers : Context → NameUse → LeadsTo → Type 0
UseOffers c (name_use.Local i) wanted = ⊥
UseOffers c (name_use.Declared n) wanted = Offers c.design (declared c n) wanted

abbrev pub UsesKeeper : Context → NameUse → Type 0
UsesKeeper c (name_use.Local i) = ⊥
UsesKeeper c (name_use.Declared n) = IsKeeper c n

-- a member as a value of this type
abbrev pub MemberType : Context → NameUse → Member → ValueType → Type 0
MemberType c named member.Changed t = ChannelMember (UseOffers c named) member.Changed t
MemberType c named member.Available t = ChannelMember (UseOffers c named) member.Available t
MemberType c named member.Free t = ChannelMember (UseOffers c named) member.Free t
MemberType c named member.Value t = ChannelMember (UseOffers c named) member.Value t
MemberType c named member.Valid t = IsProcess c named × (t ≡ type.Bool)
MemberType c named member.Terminated t = IsProcess c named × (t ≡ type.Bool)
MemberType c named member.Live t = IsPayload c named × (t ≡ type.Bool)
MemberType c named (member.Field f) t = IsPayload c named × (t ≡ in_expressions (field_type f))
MemberType c named member.Length t = IsPayload c named × (t ≡ type.Uint 64)
MemberType c named member.EnableLength t = IsPayload c named × (t ≡ type.Uint 64)
MemberType c named member.Local t = UsesKeeper c named × (t ≡ type.Time)
MemberType c named member.Next t = UsesKeeper c named × (t ≡ type.Time)
MemberType c named member.NeedSync t = UsesKeeper c named × (t ≡ type.Bool)

-- a name as a value of this type: a variable, a channel that is read, or a process
abbrev pub NameType : Context → NameUse → ValueType → Type 0
NameType c named t =
    ((s : ValueType) × (variable_type c named ≡ Some s) × (t ≡ in_expressions s))
    ⊎ (((s : ValueType) × UseOffers c named (leads.In s) × (t ≡ in_expressions s)) ⊎ (IsProcess c named × (t ≡ type.Process)))

-- expressions: a literal integer has 64 bits
abbrev pub HasType : Context → Term → ValueType → Type 0
HasType c (code.literal v) t = (t ≡ type_of_value v) × (t ≡ in_expressions t)
HasType c code.now t = t ≡ type.Time
HasType c code.myself t = t ≡ type.Process
HasType c (code.name named) t = NameType c named t
HasType c (code.placed n place) t =
    IsPort (declared c n) × ((i : ValueType) × HasType c place i × IsInteger i) × ((s : ValueType) × Offers c.design (declared c n) (leads.In s) × (t ≡ in_expressions s))
HasType c (code.member named m) t = MemberType c named m t
HasType c (code.placed_member n place m) t =
    IsPort (declared c n) × ((i : ValueType) × HasType c place i × IsInteger i) × ChannelMember (Offers c.design (declared c n)) m t
HasType c (code.element n index) t = IsMemory c n × ((i : ValueType) × HasType c index i × IsInteger i) × (t ≡ type.Uint 64)
HasType c (code.payload_byte named bytes index) t = IsPayload c named × ((i : ValueType) × HasType c index i × IsInteger i) × (t ≡ type.Uint 64)
HasType c (code.digit s e index) t = HasType c e s × ((i : ValueType) × HasType c index i × IsInteger i) × DigitType s t
HasType c (code.digits s e high low) t = HasType c e s × DigitsType s high low t
HasType c (code.unary o s e) t = HasType c e s × UnaryType o s t
HasType c (code.binary o s l r) t = HasType c l s × ((u : ValueType) × HasType c r u × BinaryType o s u t)
HasType c (code.convert to from e) t = HasType c e from × ConvertType to from × (t ≡ to)
HasType c (code.concat u l) t =
    (m : ℕ) × (n : ℕ) × HasType c u (type.Vector m) × HasType c l (type.Vector n) × (m + n ≤ 64) × (t ≡ type.Vector (m + n))

-- targets

-- a value of an expression's type goes into a target of this type: an integer into any integer, and else only its own type
abbrev pub FitsIn : ValueType → ValueType → Type 0
FitsIn type.Bool t = t ≡ type.Bool
FitsIn (type.Int width) t = IsInteger t
FitsIn (type.Uint width) t = IsInteger t
FitsIn type.Logic t = t ≡ type.Logic
FitsIn (type.Vector width) t = t ≡ type.Vector width
FitsIn type.Time t = t ≡ type.Time
FitsIn type.Process t = t ≡ type.Process
FitsIn type.Payload t = t ≡ type.Payload

-- an expression whose value goes into a target of this type
abbrev pub Gives : Context → Term → ValueType → Type 0
Gives c e target = (t : ValueType) × HasType c e t × FitsIn target t

abbrev pub GivesInteger : Context → Term → Type 0
GivesInteger c e = (t : ValueType) × HasType c e t × IsInteger t

-- where nothing is written, nothing is asked
abbrev pub IfWritten : {A : Type 0} → (A → Type 0) → Option A → Type 0
IfWritten P None = ⊤
IfWritten P (Some x) = P x

abbrev pub EachOf : {A : Type 0} → (A → Type 0) → List A → Type 0
EachOf P [] = ⊤
EachOf P (x ∷ xs) = P x × EachOf P xs

-- a variable of exactly its type, into which a value of this type goes
abbrev pub Stores : Context → ValueType → Store → Type 0
Stores c t s = (variable_type c s.name ≡ Some s.value_type) × FitsIn s.value_type (in_expressions t)

-- an integer answer of a channel, and a truth value
abbrev pub StoresInteger : Context → Store → Type 0
StoresInteger c s = Stores c (type.Int 32) s

abbrev pub StoresTruth : Context → Store → Type 0
StoresTruth c s = Stores c type.Bool s

-- channels and events of statements

abbrev pub PlaceFits : Context → ℕ → Option Term → Type 0
PlaceFits c n None = ⊤
PlaceFits c n (Some e) = IsPort (declared c n) × GivesInteger c e

abbrev pub UsesAs : Context → ChannelTerm → LeadsTo → Type 0
UsesAs c ch wanted = Offers c.design (declared c ch.channel_name) wanted × PlaceFits c ch.channel_name ch.place

-- which events a declared name has
abbrev pub HasEvent : Context → ℕ → EventMember → Type 0
HasEvent c n event.Own = IsEvent c n ⊎ ((t : ValueType) × Offers c.design (declared c n) (leads.In t))
HasEvent c n event.Posedge = Offers c.design (declared c n) (leads.In type.Bool) ⊎ Offers c.design (declared c n) (leads.In type.Logic)
HasEvent c n event.Negedge = Offers c.design (declared c n) (leads.In type.Bool) ⊎ Offers c.design (declared c n) (leads.In type.Logic)
HasEvent c n event.DataWritten = (t : ValueType) × (Offers c.design (declared c n) (leads.FifoIn t) ⊎ Offers c.design (declared c n) (leads.FifoOut t))
HasEvent c n event.DataRead = (t : ValueType) × (Offers c.design (declared c n) (leads.FifoIn t) ⊎ Offers c.design (declared c n) (leads.FifoOut t))
HasEvent c n event.Terminated = IsProcess c (name_use.Declared n)
HasEvent c n event.Reset = IsProcess c (name_use.Declared n)

-- a local variable has the events of a process alone
abbrev pub HasLocalEvent : Context → ℕ → EventMember → Type 0
HasLocalEvent c i event.Own = ⊥
HasLocalEvent c i event.Posedge = ⊥
HasLocalEvent c i event.Negedge = ⊥
HasLocalEvent c i event.DataWritten = ⊥
HasLocalEvent c i event.DataRead = ⊥
HasLocalEvent c i event.Terminated = IsProcess c (name_use.Local i)
HasLocalEvent c i event.Reset = IsProcess c (name_use.Local i)

abbrev pub IsEventAt : Context → NameUse → Option Term → EventMember → Type 0
IsEventAt c (name_use.Local i) place e = HasLocalEvent c i e × (place ≡ None)
IsEventAt c (name_use.Declared n) place e = HasEvent c n e × PlaceFits c n place

abbrev pub IsEventUse : Context → EventTerm → Type 0
IsEventUse c e = IsEventAt c e.event_name e.place e.event

-- an event of a static sensitivity
abbrev pub IsPlaceOfPort : Context → ℕ → Option ℕ → Type 0
IsPlaceOfPort c n None = ⊤
IsPlaceOfPort c n (Some k) = IsPort (declared c n)

abbrev pub IsStaticUse : Context → StaticUse → Type 0
IsStaticUse c e = HasEvent c e.name e.event × IsPlaceOfPort c e.name e.place

abbrev pub GivesTime : Context → Term → Type 0
GivesTime c e = HasType c e type.Time

abbrev pub IsAwait : Context → AwaitTerm → Type 0
IsAwait c code.static = ⊤
IsAwait c code.delta = ⊤
IsAwait c (code.for_ e) = GivesTime c e
IsAwait c (code.any es t) = EachOf (IsEventUse c) es × IfWritten (GivesTime c) t
IsAwait c (code.all es t) = EachOf (IsEventUse c) es × IfWritten (GivesTime c) t

-- calls

-- an argument for a parameter
abbrev pub IsArgument : Context → Local → ArgumentTerm → Type 0
IsArgument c p (code.by_value e) = (p.inout ≡ false) × Gives c e p.value_type
IsArgument c p (code.inout named) = (p.inout ≡ true) × (variable_type c named ≡ Some p.value_type)

-- as many arguments as parameters, each for its own
abbrev pub AreArguments : Context → List Local → List ArgumentTerm → Type 0
AreArguments c [] [] = ⊤
AreArguments c [] (x ∷ xs) = ⊥
AreArguments c (p ∷ ps) [] = ⊥
AreArguments c (p ∷ ps) (x ∷ xs) = IsArgument c p x × AreArguments c ps xs

abbrev pub AreFirstArguments : Context → List Local → List Term → Type 0
AreFirstArguments c [] [] = ⊤
AreFirstArguments c [] (e ∷ es) = ⊥
AreFirstArguments c (p ∷ ps) [] = ⊥
AreFirstArguments c (p ∷ ps) (e ∷ es) = (p.inout ≡ false) × Gives c e p.value_type × AreFirstArguments c ps es

abbrev pub parameters_of : CodeBody → List Local
parameters_of b = take b.parameters b.locals

-- the function of this number, of the module in which the statement stands
pub record IsFunctionHere (a : Arena) (place : ℕ) (f : ℕ) (b : CodeBody) : Type 0 where
  pub found : body_at a f ≡ Some b
  pub is_function : b.kind ≡ body_kind.Function
  pub here : b.module_place ≡ place

-- a variable for an answer needs a function that has one
abbrev pub StoresAnswer : Context → Option ValueType → Store → Type 0
StoresAnswer c None s = ⊥
StoresAnswer c (Some t) s = Stores c t s

abbrev pub IsControlled : Context → Controlled → Type 0
IsControlled c (controlled.Named named) = IsProcess c named
IsControlled c controlled.Myself = ⊤

-- a printed value is no handle
abbrev pub IsPrinted : Context → Term → Type 0
IsPrinted c e = (t : ValueType) × HasType c e t × ((t ≡ type.Process) → ⊥) × ((t ≡ type.Payload) → ⊥)

-- a socket that is an end of a hop
abbrev pub IsSocket : Context → ℕ → Type 0
IsSocket c n = (h : ℕ) × (forward : Bool) × (hop : _) × (declared c n ≡ denoted.Socket h forward) × (slice_get c.design.hops h ≡ Some hop)

-- the same that calls forward
abbrev pub IsForwardSocket : Context → ℕ → Type 0
IsForwardSocket c n = (h : ℕ) × (hop : _) × (declared c n ≡ denoted.Socket h true) × (slice_get c.design.hops h ≡ Some hop)

abbrev pub IsOfType : Context → NameUse → ValueType → Type 0
IsOfType c named t = variable_type c named ≡ Some t

abbrev pub IsDestination : Context → DestinationTerm → Term → Type 0
IsDestination c (code.to_name s) e = (variable_type c s.name ≡ Some s.value_type) × Gives c e s.value_type
IsDestination c (code.to_field named f) e = IsPayload c named × Gives c e (field_type f)
IsDestination c (code.to_element n index) e = IsMemory c n × GivesInteger c index × GivesInteger c e
IsDestination c (code.to_payload_byte named bytes index) e = IsPayload c named × GivesInteger c index × GivesInteger c e

-- returned where a function with this answer stands: a value exactly where it has a type; where it is unknown which body
-- it is, none is asked
abbrev pub IsReturned : Context → Option ValueType → Option Term → Type 0
IsReturned c None None = ⊤
IsReturned c None (Some e) = ⊥
IsReturned c (Some t) None = ⊥
IsReturned c (Some t) (Some e) = Gives c e t

-- statements of a body of the module at this place, with this answer
abbrev pub IsTyped : Arena → ℕ → Option ValueType → Context → Statement → Type 0
IsTyped a m answer c (code.var i t e) = ((l : Local) × (slice_get c.locals i ≡ Some l) × (l.value_type ≡ t)) × IfWritten (λ x. Gives c x t) e
IsTyped a m answer c (code.assign d e) = IsDestination c d e
IsTyped a m answer c (code.call x f arguments) =
    (b : CodeBody) × IsFunctionHere a m f b × AreArguments c (parameters_of b) arguments × IfWritten (StoresAnswer c b.answer) x
IsTyped a m answer c (code.read x ch) = (t : ValueType) × UsesAs c ch (leads.FifoIn t) × IfWritten (Stores c t) x
IsTyped a m answer c (code.nb_read x ch y) = (t : ValueType) × UsesAs c ch (leads.FifoIn t) × IfWritten (StoresTruth c) x × Stores c t y
IsTyped a m answer c (code.nb_write x ch t e) = UsesAs c ch (leads.FifoOut t) × Gives c e t × IfWritten (StoresTruth c) x
IsTyped a m answer c (code.trylock x ch) = UsesAs c ch leads.Mutex × IfWritten (StoresInteger c) x
IsTyped a m answer c (code.unlock x ch) = UsesAs c ch leads.Mutex × IfWritten (StoresInteger c) x
IsTyped a m answer c (code.sem_trywait x ch) = UsesAs c ch leads.Semaphore × IfWritten (StoresInteger c) x
IsTyped a m answer c (code.nb_transport x s p phase delay) =
    IsSocket c s × IsPayload c p × IsOfType c phase (type.Int 32) × IsOfType c delay type.Time × IfWritten (StoresInteger c) x
IsTyped a m answer c (code.write ch t e) = (UsesAs c ch (leads.Out t) ⊎ UsesAs c ch (leads.FifoOut t)) × Gives c e t
IsTyped a m answer c (code.print text e) = IfWritten (IsPrinted c) e
IsTyped a m answer c (code.notify n) = IsEvent c n
IsTyped a m answer c (code.notify_delta n) = IsEvent c n
IsTyped a m answer c (code.notify_after n e) = IsEvent c n × GivesTime c e
IsTyped a m answer c (code.cancel n) = IsEvent c n
IsTyped a m answer c (code.wait w) = IsAwait c w
IsTyped a m answer c (code.next_trigger w) = IsAwait c w
IsTyped a m answer c (code.lock ch) = UsesAs c ch leads.Mutex
IsTyped a m answer c (code.sem_wait ch) = UsesAs c ch leads.Semaphore
IsTyped a m answer c (code.post ch) = UsesAs c ch leads.Semaphore
IsTyped a m answer c (code.make named n enables) = IsPayload c named × GivesInteger c n × IfWritten (GivesInteger c) enables
IsTyped a m answer c (code.acquire named) = IsPayload c named
IsTyped a m answer c (code.release named) = IsPayload c named
IsTyped a m answer c (code.carry named n) = IsPayload c named × IsMemory c n
IsTyped a m answer c (code.b_transport s p delay) = IsForwardSocket c s × IsPayload c p × IsOfType c delay type.Time
IsTyped a m answer c (code.qk_global e) = GivesTime c e
IsTyped a m answer c (code.qk_inc n e) = IsKeeper c n × GivesTime c e
IsTyped a m answer c (code.qk_set n e) = IsKeeper c n × GivesTime c e
IsTyped a m answer c (code.qk_reset n) = IsKeeper c n
IsTyped a m answer c (code.spawn s) =
    (b : CodeBody) × IsFunctionHere a m s.function b × AreFirstArguments c (parameters_of b) s.arguments × EachOf (IsStaticUse c) s.sensitive
    × IfWritten (λ h. IsOfType c h type.Process) s.handle
IsTyped a m answer c (code.control k who all) = IsControlled c who
IsTyped a m answer c (code.throw_it who n all) = IsControlled c who
IsTyped a m answer c (code.throw n) = ⊤
IsTyped a m answer c (code.return_ e) = IsReturned c answer e
IsTyped a m answer c code.stop = ⊤
IsTyped a m answer c (code.if_ e b other) = HasType c e type.Bool
IsTyped a m answer c (code.while_ e b) = HasType c e type.Bool
IsTyped a m answer c (code.guard b u) = ⊤
IsTyped a m answer c (code.try_ b handlers) = ⊤
