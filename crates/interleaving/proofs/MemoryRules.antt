-- Accesses inside guest memory, which are the same on every bus.
use Rattle.std.proofs.Common.{◌≡◌, ℕ, ◌+◌, ◌≤◌, List, [], length, replicate, true, sym, ap, subst, arith}
use Rattle.std.specs.Prelude.{nat_le}
use Rattle.std.proofs.lemmas.Bool.{cond-true}
use Rattle.std.proofs.lemmas.Bool.Decides.{nat_tests}
use Rattle.vt_types.specs.declared.access.Answer.{Answer}
use Rattle.vt_types.specs.declared.access.Answer.TheVariants.{Done, Got, Outside}
use Rattle.vt_types.specs.Access.{AccessValue, Put, Get, Zero}
use Rattle.vt_types.specs.Operation.{Operation}
use Rattle.vt_types.specs.Program.{Program, Do}
use Rattle.vt_types.specs.Reply.{ReplyValue}
use Rattle.guest_mem.specs.Memory.{part, put_at}
use Rattle.memory_port.specs.MemoryTable.{if_inside}
use Rattle.abstract_devices.specs.World.{World}
use Rattle.dev_core.specs.Bus.{BusTable, Raw, raw_access, on_memory}
use Rattle.interleaving.specs.BusDefinition.{BusDefinition}
use Rattle.interleaving.specs.FreeLocations.{with_put}
use Rattle.interleaving.specs.Kept.{Invariant, Kept, KeptWhole}
use Rattle.interleaving.specs.Safe.{Ending, Knows, Safe}
use Rattle.interleaving.proofs.AccessRules.{SafeOnward, safe_access, safe_before}

inside_is : (mem : List ℕ) (addr count : ℕ) (inside : Answer × List ℕ × List ℕ) → addr + count ≤ length mem → if_inside mem addr count inside ≡ inside
inside_is mem addr count inside fits =
    let test : nat_le (addr + count) (length mem) ≡ true = grind (arith, nat_tests, fits) in
    cond-true (nat_le (addr + count) (length mem)) inside (Outside, [], mem) test

module _ {R : Type 0} (bus : BusTable R) (raw : Raw R) where
  pub put_inside : (addr : ℕ) (bytes : List ℕ) → addr + length bytes ≤ length raw.memory → raw_access bus (Put addr bytes) raw ≡ (Done, [], with_put raw addr bytes)
  put_inside addr bytes fits = ap (on_memory raw) (inside_is raw.memory addr (length bytes) (Done, [], put_at raw.memory addr bytes) fits)

  pub get_inside : (addr count : ℕ) → addr + count ≤ length raw.memory → raw_access bus (Get addr count) raw ≡ (Got, part raw.memory addr count, raw)
  get_inside addr count fits = ap (on_memory raw) (inside_is raw.memory addr count (Got, part raw.memory addr count, raw.memory) fits)

  pub zero_inside : (addr count : ℕ) → addr + count ≤ length raw.memory → raw_access bus (Zero addr count) raw ≡ (Done, [], with_put raw addr (replicate count 0))
  zero_inside addr count fits = ap (on_memory raw) (inside_is raw.memory addr count (Done, [], put_at raw.memory addr (replicate count 0)) fits)

module _ {R X : Type 0} {bus : BusDefinition R} {op : Operation} {ending : Ending R X} where
  -- what follows an access, where its answer is known
  pub safe_onward : (a : AccessValue) (rest : Answer → List ℕ → Program X) (raw : Raw R) {n : ℕ} {w v : World} {reply : ReplyValue} {did : Answer × List ℕ × Raw R}
      → raw_access bus.table a raw ≡ did → Safe bus op ending (rest did.0 did.1) n w v reply did.2 → SafeOnward bus op ending a rest n w v reply raw
  safe_onward a rest raw {n = n} {w = w} {v = v} {reply = reply} is h =
      subst (λ (did : Answer × List ℕ × Raw R). Safe bus op ending (rest did.0 did.1) n w v reply did.2) (sym is) h

  -- before the mark
  pub safe_put : {addr : ℕ} {bytes : List ℕ} {rest : Answer → List ℕ → Program X} {n : ℕ} {w v : World} {reply : ReplyValue} {raw : Raw R}
      (inv : Invariant R) → Kept bus inv → inv w raw → ((w : World) (raw : Raw R) → inv w raw → addr + length bytes ≤ length raw.memory)
      → ((n : ℕ) (w v : World) (raw : Raw R) → inv w raw → Safe bus op ending (rest Done []) n w v reply (with_put raw addr bytes))
      → Safe bus op ending (Do (Put addr bytes) rest) n w v reply raw
  safe_put {addr = addr} {bytes = bytes} {rest = rest} inv kept holds inside next =
      safe_before inv kept holds (λ n w v raw h. safe_onward (Put addr bytes) rest raw (put_inside bus.table raw addr bytes (inside w raw h)) (next n w v raw h))

  pub safe_zero : {addr count : ℕ} {rest : Answer → List ℕ → Program X} {n : ℕ} {w v : World} {reply : ReplyValue} {raw : Raw R}
      (inv : Invariant R) → Kept bus inv → inv w raw → ((w : World) (raw : Raw R) → inv w raw → addr + count ≤ length raw.memory)
      → ((n : ℕ) (w v : World) (raw : Raw R) → inv w raw → Safe bus op ending (rest Done []) n w v reply (with_put raw addr (replicate count 0)))
      → Safe bus op ending (Do (Zero addr count) rest) n w v reply raw
  safe_zero {addr = addr} {count = count} {rest = rest} inv kept holds inside next =
      safe_before inv kept holds (λ n w v raw h. safe_onward (Zero addr count) rest raw (zero_inside bus.table raw addr count (inside w raw h)) (next n w v raw h))

  pub safe_get : {addr count : ℕ} {rest : Answer → List ℕ → Program X} {n : ℕ} {w v : World} {reply : ReplyValue} {raw : Raw R}
      (inv : Invariant R) → Kept bus inv → inv w raw → ((w : World) (raw : Raw R) → inv w raw → addr + count ≤ length raw.memory)
      → ((n : ℕ) (w v : World) (raw : Raw R) → inv w raw → Safe bus op ending (rest Got (part raw.memory addr count)) n w v reply raw)
      → Safe bus op ending (Do (Get addr count) rest) n w v reply raw
  safe_get {addr = addr} {count = count} {rest = rest} inv kept holds inside next =
      safe_before inv kept holds (λ n w v raw h. safe_onward (Get addr count) rest raw (get_inside bus.table raw addr count (inside w raw h)) (next n w v raw h))

  -- in general
  pub safe_get_in : {addr count : ℕ} {rest : Answer → List ℕ → Program X} {n : ℕ} {w v : World} {reply : ReplyValue} {raw : Raw R}
      (inv : Knows R) → KeptWhole bus inv → inv n w v raw → ((n : ℕ) (w v : World) (raw : Raw R) → inv n w v raw → addr + count ≤ length raw.memory)
      → ((n : ℕ) (w v : World) (raw : Raw R) → inv n w v raw → Safe bus op ending (rest Got (part raw.memory addr count)) n w v reply raw)
      → Safe bus op ending (Do (Get addr count) rest) n w v reply raw
  safe_get_in {addr = addr} {count = count} {rest = rest} inv kept holds inside next =
      safe_access inv kept holds (λ n w v raw h. safe_onward (Get addr count) rest raw (get_inside bus.table raw addr count (inside n w v raw h)) (next n w v raw h))
