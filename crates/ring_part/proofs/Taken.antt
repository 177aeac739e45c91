-- The first waiting buffer is taken.
use Rattle.std.proofs.Common.{◌≡◌, ℕ, ◌+◌, ◌%◌, ◌^◌, List, [], ◌∷◌, ◌++◌, length, map, refl, sym, ap, subst, arith, append_assoc, length-append}
use Rattle.std.specs.Prelude.{All}
use Rattle.vq_common.specs.Chain.{ChainValue}
use Rattle.vq_common.specs.Queue.{DeviceQueue, DriverQueue}
use Rattle.vq_split_dev.specs.Walk.{split_taken}
use Rattle.abstract_devices.specs.World.{AbstractQueue}
use Rattle.memory_port.specs.Puts.{Hold}
use Rattle.ring_part.specs.Held.{Held, UsedHeld, CanStand, HasThese, held_of, all_held, available_of}
use Rattle.ring_part.specs.RingPuts.{all_puts}
use Rattle.ring_part.specs.RingPart.{RingPart}

pub taken_part : {mem : List ℕ} {a : AbstractQueue} {d : DeviceQueue} {q : DriverQueue} {used : List UsedHeld} {taken : List Held} {h : Held} {rest : List Held} (c : ChainValue)
    → RingPart mem a d q used taken (h ∷ rest)
    → RingPart mem (record a { available = map available_of rest }) (split_taken d c) q used (taken ++ h ∷ []) rest
taken_part {mem} {a} {d} {q} {used} {taken} {h} {rest} c part =
    let same : taken ++ h ∷ rest ≡ (taken ++ h ∷ []) ++ rest = sym (append_assoc taken (h ∷ []) rest) in
    let all : all_held used taken (h ∷ rest) ≡ all_held used (taken ++ h ∷ []) rest = ap (λ hs. held_of used ++ hs) same in
    let before : d.taken ≡ (d.used + length taken) % 2 ^ 16 = part.counts.in_flight in
    let after : q.available ≡ (d.taken + length (h ∷ rest)) % 2 ^ 16 = part.counts.to_take in
    record {
      same = part.same;
      block = part.block;
      queue = part.queue;
      buffers = record { these = subst (HasThese q.unreaped) all part.buffers.these; each = subst (All (CanStand q.cfg)) all part.buffers.each; fit = part.buffers.fit };
      lists = record { available = refl; finished = part.lists.finished };
      counts = record { to_reap = part.counts.to_reap; in_flight = omega (arith, length-append taken (h ∷ [])); to_take = omega arith };
      indices = part.indices;
      entries = part.entries.1;
      elements = part.elements;
      puts = subst (λ (hs : List Held). Hold (all_puts q.cfg q.base hs) mem) same part.puts;
    }
