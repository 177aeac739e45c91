-- Puts to free locations, which are apart: they stand together in the end.
use Rattle.std.proofs.Common.{ℕ, ◌+◌, ◌≤◌, List, [], ◌∷◌, ◌++◌, length, arith}
use Rattle.vt_types.specs.Access.{AccessValue, Put}
use Rattle.vt_types.specs.Operation.{Operation}
use Rattle.vt_types.specs.Program.{Program, Mark, do_all}
use Rattle.vt_types.specs.Reply.{ReplyValue}
use Rattle.guest_mem.specs.Memory.{put_at, Apart}
use Rattle.guest_mem.proofs.Parts.{part-put_at_same, part-put_at_apart}
use Rattle.guest_mem.proofs.Ranges.{Apart-swapped}
use Rattle.memory_port.specs.Puts.{EachPut, Hold, AllIn, AllApart}
use Rattle.memory_port.proofs.PutLaws.{each_put-both, each_put-weaker, hold-same}
use Rattle.abstract_devices.specs.World.{World}
use Rattle.abstract_devices.specs.Operate.{operate}
use Rattle.dev_core.specs.Bus.{Raw, raw_event}
use Rattle.interleaving.specs.BusDefinition.{BusDefinition}
use Rattle.interleaving.specs.FreeLocations.{FreeLocations, Holding, with_put}
use Rattle.interleaving.specs.Kept.{Invariant, Kept}
use Rattle.interleaving.specs.Safe.{Ending, Safe}
use Rattle.interleaving.proofs.MarkRules.{safe_mark}
use Rattle.interleaving.proofs.MemoryRules.{safe_put}
use Rattle.interleaving.proofs.ProgramRules.{safe_append}

module _ {R : Type 0} (bus : BusDefinition R) (inv : Invariant R) (free : ℕ → ℕ → Type 0) (locations : FreeLocations bus inv free) where
  -- a put to a free location leaves what stands apart from it
  hold-put : (puts : List AccessValue) (addr : ℕ) (bytes : List ℕ) (w : World) (raw : Raw R) → inv w raw → free addr (length bytes)
      → AllIn (Apart addr (length bytes)) puts → Hold puts raw.memory → Hold puts (with_put raw addr bytes).memory
  hold-put puts addr bytes w raw h may apart holds =
      let fits = locations.inside w raw addr (length bytes) h may in
      hold-same (Apart addr (length bytes)) raw.memory (put_at raw.memory addr bytes) (λ b k here. part-put_at_apart raw.memory addr bytes b k fits here) puts apart holds

  -- events keep what stands in free locations
  pub holding-kept : (puts : List AccessValue) → AllIn free puts → Kept bus (Holding inv puts)
  holding-kept puts may w raw e (h, holds) =
      (locations.kept w raw e h, hold-same free raw.memory (raw_event bus.table raw e).memory (λ addr count here. locations.stays w raw e addr count h here) puts may holds)

  puts_from : {X : Type 0} {op : Operation} {ending : Ending R X} {next : Program X} (puts before : List AccessValue) → AllIn free puts → AllIn free before → AllApart puts
      → EachPut (λ addr bytes. AllIn (Apart addr (length bytes)) before) puts → {n : ℕ} {w v : World} {reply : ReplyValue} {raw : Raw R} → Holding inv before w raw
      → ((n : ℕ) (w v : World) (raw : Raw R) → inv w raw → Hold before raw.memory → Hold puts raw.memory → Safe bus op ending next n w v reply raw)
      → Safe bus op ending (do_all puts next) n w v reply raw
  puts_from [] before may earlier apart across {n = n} {w = w} {v = v} {raw = raw} (h, holds) onward = onward n w v raw h holds tt
  puts_from (Put addr bytes ∷ more) before (may, rest) earlier (apart, others) (clear, across) h onward =
      safe_put (Holding inv before) (holding-kept before earlier) h (λ w raw h. locations.inside w raw addr (length bytes) h.0 may)
      (λ n w v raw (h, holds).
      let fits = locations.inside w raw addr (length bytes) h may in
      puts_from more (Put addr bytes ∷ before) rest (may, earlier) others
      (each_put-both (λ b other. Apart addr (length bytes) b (length other)) (λ b other. AllIn (Apart b (length other)) before) (λ b other. AllIn (Apart b (length other)) (Put addr bytes ∷ before))
      (λ b other here clear. (Apart-swapped addr (length bytes) b (length other) here, clear)) more apart across)
      (locations.put w raw addr bytes h may, (part-put_at_same raw.memory addr bytes (omega (arith, fits)), hold-put before addr bytes w raw h may clear holds))
      (λ n w v raw h (is, holds) after. onward n w v raw h holds (is, after)))
  puts_from (_ ∷ more) before (may, rest) earlier apart across h onward = absurd may

  -- before the mark
  pub safe_puts : {X : Type 0} {op : Operation} {ending : Ending R X} {next : Program X} (puts : List AccessValue) → AllIn free puts → AllApart puts
      → {n : ℕ} {w v : World} {reply : ReplyValue} {raw : Raw R} → inv w raw
      → ((n : ℕ) (w v : World) (raw : Raw R) → Holding inv puts w raw → Safe bus op ending next n w v reply raw)
      → Safe bus op ending (do_all puts next) n w v reply raw
  safe_puts puts may apart h onward =
      puts_from puts [] may tt apart (each_put-weaker (λ addr bytes. free addr (length bytes)) (λ addr bytes. AllIn (Apart addr (length bytes)) []) (λ addr bytes _. tt) puts may) (h, tt)
      (λ n w v raw h _ holds. onward n w v raw (h, holds))

  -- and a last one that is marked, at any location
  pub safe_puts_marked : {X : Type 0} {op : Operation} {ending : Ending R X} {next : Program X} (puts : List AccessValue) (addr : ℕ) (bytes : List ℕ) → AllIn free puts → AllApart puts
      → ((w : World) (raw : Raw R) → inv w raw → addr + length bytes ≤ length raw.memory) → {n : ℕ} {w v : World} {reply : ReplyValue} {raw : Raw R} → inv w raw
      → ((n : ℕ) (w : World) (raw : Raw R) → Holding inv puts w raw → Safe bus op ending next n w (operate bus.kind w op).world (operate bus.kind w op).reply (with_put raw addr bytes))
      → Safe bus op ending (do_all (puts ++ Put addr bytes ∷ []) (Mark next)) n w v reply raw
  safe_puts_marked {next = next} puts addr bytes may apart inside h onward =
      safe_append puts (Put addr bytes ∷ []) (Mark next)
      (safe_puts puts may apart h
      (λ n w v raw h. safe_put (Holding inv puts) (holding-kept puts may) h (λ w raw h. inside w raw h.0) (λ n w v raw h. safe_mark (onward n w raw h))))
