-- The first configuration of a sound design is typed.
use Rattle.std.proofs.Common.{◌≡◌, ℕ, zero, suc, List, [], ◌∷◌, map, take, length, replicate, slice_get, Some, refl, sym, ap, subst, arith}
use Rattle.sim_model.specs.FlatDesign.Typed.{EachOf}
use Rattle.sim_model.specs.FlatDesign.Sound.{SoundDesign, ProcessFits}
use Rattle.sim_model.specs.FlatDesign.declared.code.Local.{Local}
use Rattle.sim_model.specs.FlatDesign.declared.design.FifoPart.{FifoPart}
use Rattle.sim_model.specs.FlatDesign.declared.design.MemoryPart.{MemoryPart}
use Rattle.sim_model.specs.FlatDesign.declared.design.VariablePart.{VariablePart}
use Rattle.sim_model.specs.FlatDesign.declared.design.ProcessPart.{ProcessPart}
use Rattle.sim_model.specs.FlatDesign.declared.design.Design.{Design}
use Rattle.sim_model.specs.FifoSync.Fifos.{nothing_in}
use Rattle.sim_model.specs.Configuration.{first_signal, first_instance, start}
use Rattle.sim_model.specs.declared.plain.Command.{Command}
use Rattle.laws_runs.specs.Contents.{Pairwise, LocalFits, VariableFits, SignalFits, FifoFits, IsByte, MemoryFits}
use Rattle.laws_runs.specs.Frames.{InstanceFits}
use Rattle.laws_runs.specs.TypedConfig.{CommandFits}
use Rattle.laws_runs.proofs.EachLists.{each-replicate}
use Rattle.laws_runs.proofs.TypedMoves.{Fits}

pairs_of : {A B : Type 0} (P : A → B → Type 0) (f : A → B) (xs : List A) → ((n : ℕ) (x : A) → slice_get xs n ≡ Some x → P x (f x)) → Pairwise P xs (map f xs)
pairs_of P f [] each = tt
pairs_of P f (x ∷ xs) each = (each 0 x refl, pairs_of P f xs (λ n y at. each (suc n) y at))

each_of : {A B : Type 0} (P : B → Type 0) (f : A → B) (xs : List A) → ((n : ℕ) (x : A) → slice_get xs n ≡ Some x → P (f x)) → EachOf P (map f xs)
each_of P f [] each = tt
each_of P f (x ∷ xs) each = (each 0 x refl, each_of P f xs (λ n y at. each (suc n) y at))

many : {A : Type 0} (n : ℕ) (x : A) → length (replicate n x) ≡ n
many zero x = refl
many (suc n) x = ap suc (many n x)

no_parameters : (k : ℕ) (ls : List Local) → k ≡ 0 → Pairwise LocalFits (take k ls) []
no_parameters k ls e = subst (λ n. Pairwise LocalFits (take n ls) []) (sym e) tt

process_fits : (d : Design) (p : ProcessPart) → ProcessFits d p → InstanceFits d (first_instance d p)
process_fits d p h = record { body = h.body; found = h.found; home_of = h.home; arguments = no_parameters h.body.parameters h.body.locals h.parameters; left = tt }

pub start-fits : (d : Design) (script : List Command) → SoundDesign d → EachOf (CommandFits d) script → Fits d (start d script)
start-fits d script sound fits = (
  refl,
  record {
    variables = pairs_of VariableFits (λ (p : VariablePart). p.initial) d.variables (λ n p at. sound.variables n p at);
    memories = pairs_of MemoryFits (λ (p : MemoryPart). replicate p.size 0) d.memories (λ n p at. (many p.size 0, each-replicate IsByte p.size 0 (omega arith)));
    signals = pairs_of SignalFits first_signal d.signals (λ n p at. let s = sound.signals n p at in (s.0, s.0));
    resolved = many (length d.resolved) _;
    fifos = pairs_of FifoFits (λ (p : FifoPart). nothing_in p.size) d.fifos (λ n p at. tt);
    payloads = tt;
    keepers_there = many d.keepers _;
  },
  each_of (InstanceFits d) (first_instance d) d.processes (λ n p at. process_fits d p (sound.processes n p at)),
  fits,
)
