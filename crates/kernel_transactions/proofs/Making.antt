-- What is answered where a payload is made, or too many are live.
use Rattle.std.proofs.Common.{◌≡◌, ◌<◌, ℕ, Bool, true, false, length, Result, Ok, Err, refl, sym, ap, ◌∙◌, arith}
use Rattle.std.specs.Prelude.{nat_lt, nat_le, ◌&&◌, if◌then◌else◌}
use Rattle.std.proofs.lemmas.Bool.{lt-ltb, le-ltb}
use Rattle.sim_model.specs.FlatDesign.declared.faults.RunFault.{RunFault}
use Rattle.sim_model.specs.FlatDesign.declared.faults.RunFault.TheVariants as fault
use Rattle.sim_model.specs.Values.{on_ok}
use Rattle.sim_model.specs.Payloads.{live_payloads}
use Rattle.sim_model.specs.Configuration.{Config}
use Rattle.sim_model.specs.Transport.{size_within, may_make}
use Rattle.kernel_transactions.specs.Answers.{number_made}

module _ (c : Config) (len enables x y : ℕ) (one : Ok x ≡ size_within 1 len) (two : Ok y ≡ size_within 0 enables) where
  abbrev number : Bool → Result ℕ RunFault
  number b = let may : Result Unit RunFault = if b then Ok tt else Err fault.TooManyPayloads in on_ok may (λ ok. Ok (length c.transactions.pool))

  made_by : (b : Bool) → nat_lt (live_payloads c.transactions.pool) 16384 ≡ b → number_made c len enables ≡ number b
  made_by b is =
      ap (λ r. on_ok r (λ x. on_ok (size_within 0 enables) (λ y. on_ok (may_make c) (λ ok. Ok (length c.transactions.pool))))) (sym one)
      ∙ ap (λ r. on_ok r (λ y. on_ok (may_make c) (λ ok. Ok (length c.transactions.pool)))) (sym two)
      ∙ ap number is

  pub number_given : (live : ℕ) → live ≡ live_payloads c.transactions.pool → live < 16384 → (t : ℕ) → t ≡ length c.transactions.pool → number_made c len enables ≡ Ok t
  number_given live same few t is = made_by true (ap (λ n. nat_lt n 16384) (sym same) ∙ lt-ltb live 16384 few) ∙ ap Ok (sym is)

  pub too_many : (live : ℕ) → live ≡ live_payloads c.transactions.pool → live ≡ 16384 → number_made c len enables ≡ Err fault.TooManyPayloads
  too_many live same full = made_by false (ap (λ n. nat_lt n 16384) (sym same) ∙ le-ltb live 16384 (omega arith))

-- what follows the making of a payload follows its answer
module _ (c : Config) (len enables : ℕ) (k : ℕ → ℕ → Result Config RunFault) where
  third : (may : Result Unit RunFault) → on_ok may (λ ok. k len enables) ≡ on_ok (on_ok may (λ ok. Ok (length c.transactions.pool))) (λ t. k len enables)
  third (Ok u) = refl
  third (Err e) = refl

  second : (b : Bool) → on_ok (if b then Ok enables else Err (fault.IndexRange enables 4096)) (λ y. on_ok (may_make c) (λ ok. k len y))
      ≡ on_ok (on_ok (if b then Ok enables else Err (fault.IndexRange enables 4096)) (λ y. on_ok (may_make c) (λ ok. Ok (length c.transactions.pool)))) (λ t. k len enables)
  second true = third (may_make c)
  second false = refl

  first : (b : Bool) → on_ok (if b then Ok len else Err (fault.IndexRange len 4096)) (λ x. on_ok (size_within 0 enables) (λ y. on_ok (may_make c) (λ ok. k x y)))
      ≡ on_ok (on_ok (if b then Ok len else Err (fault.IndexRange len 4096)) (λ x. on_ok (size_within 0 enables) (λ y. on_ok (may_make c) (λ ok. Ok (length c.transactions.pool))))) (λ t. k len enables)
  first true = second (nat_le 0 enables && nat_le enables 4096)
  first false = refl

  pub made_as : on_ok (size_within 1 len) (λ x. on_ok (size_within 0 enables) (λ y. on_ok (may_make c) (λ ok. k x y))) ≡ on_ok (number_made c len enables) (λ t. k len enables)
  made_as = first (nat_le 1 len && nat_le len 4096)
