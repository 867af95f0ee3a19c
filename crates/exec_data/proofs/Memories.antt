-- The bytes of memories move.
use Rattle.std.proofs.Common.{◌≡◌, ℕ, List, [], slice_get, slice_set, Some, refl, sym, ap, ◌∙◌, subst}
use Rattle.std.specs.Prelude.{unwrap_or}
use Rattle.std.specs.Global.{Vec}
use Rattle.kernel_view.specs.SimModel.Configuration.{Config}
use Rattle.kernel_view.specs.SimModel.Reading.{memory_at}
use Rattle.kernel_view.specs.SimModel.Storing.{set_memory}
use Rattle.kernel_view.specs.KernelState.Kernel.{StandsFor}
use Rattle.kernel_view.specs.KernelState.declared.kernel.Kernel.{Kernel}

module _ (k : Kernel) (c : Config) (h : StandsFor k c) where
  pub memories_move : (ms : Vec (List ℕ)) → StandsFor (record k { memories = ms }) (record c { store = record c.store { memories = ms.items } })
  memories_move ms = record {
    design = h.design;
    cycle = h.cycle;
    processes = h.processes;
    parents = h.parents;
    events = h.events;
    channels = h.channels;
    transactions = h.transactions;
    quantum = h.quantum;
    variables = h.variables;
    memories = refl;
  }

  -- one byte of one of them
  pub byte_moves : (ms : Vec (List ℕ)) (m place byte : ℕ) → ms.items ≡ slice_set k.memories.items m (slice_set (unwrap_or (slice_get k.memories.items m) []) place byte)
      → StandsFor (record k { memories = ms }) (set_memory c (Some m) (slice_set (memory_at c (Some m)) place byte))
  byte_moves ms m place byte is = subst (λ xs. StandsFor (record k { memories = ms }) (record c { store = record c.store { memories = xs } }))
      (is ∙ sym (ap (λ (xs : List (List ℕ)). slice_set xs m (slice_set (unwrap_or (slice_get xs m) []) place byte)) h.memories)) (memories_move ms)
