-- The ring part depends on the bytes of its queue block alone.
use Rattle.std.proofs.Common.{◌≡◌, ℕ, ◌+◌, ◌-◌, ◌%◌, ◌^◌, ◌<◌, ◌≤◌, List, length, sym, ◌∙◌, ap, arith}
use Rattle.std.proofs.Math.Nat.{mod-lt}
use Rattle.guest_mem.specs.Memory.{part as bytes_at}
use Rattle.guest_mem.proofs.Parts.{part-part}
use Rattle.vt_types.specs.Device.{BLOCK_LEN}
use Rattle.vq_common.specs.Queue.{DeviceQueue, DriverQueue}
use Rattle.abstract_devices.specs.World.{AbstractQueue}
use Rattle.memory_port.specs.Puts.{Agree}
use Rattle.ring_part.specs.Held.{Held, UsedHeld}
use Rattle.ring_part.specs.RingPart.{RingPart}
use Rattle.ring_part.specs.Locations.{IsInside}
use Rattle.ring_part.proofs.Owned.{owned_inside}
use Rattle.ring_part.proofs.Kept.{Reads, ReadsAsked, kept}
use Rattle.ring_part.proofs.Facts as facts

inside_same : (mem mem2 : List ℕ) (base size : ℕ) → bytes_at mem2 base size ≡ bytes_at mem base size → Agree (IsInside base size) mem mem2
inside_same mem mem2 base size same a n is =
    let starts : base ≤ a = is.starts in
    let ends : a + n ≤ base + size = is.ends in
    let location : base + (a - base) ≡ a = omega arith in
    sym (part-part mem2 base size (a - base) n (omega arith) ∙ ap (λ b. bytes_at mem2 b n) location)
    ∙ ap (λ m. bytes_at m (a - base) n) same
    ∙ part-part mem base size (a - base) n (omega arith)
    ∙ ap (λ b. bytes_at mem b n) location

module _ {mem : List ℕ} {a : AbstractQueue} {d : DeviceQueue} {q : DriverQueue} {used : List UsedHeld} {taken waiting : List Held} (part : RingPart mem a d q used taken waiting) where
  slot_low : (n : ℕ) → n % q.cfg.size < q.cfg.size
  slot_low n = mod-lt n (facts.size_some part)

  size_low : q.cfg.size ≤ 1024
  size_low = facts.size_low part

  pub reads_block : Reads (IsInside q.base BLOCK_LEN) d q used taken waiting
  reads_block =
      record {
        available = record { starts = omega arith; ends = omega arith };
        used_index = record { starts = omega arith; ends = omega arith };
        entry = λ i less. let slot = slot_low ((d.taken + i) % 2 ^ 16) in record { starts = omega arith; ends = omega (arith, size_low) };
        element = λ i less. let slot = slot_low ((q.used + i) % 2 ^ 16) in record { starts = omega arith; ends = omega (arith, size_low) };
        owned = λ k b n m low owns. owned_inside q.base k b n low owns;
      }

  asked_block : ReadsAsked (IsInside q.base BLOCK_LEN) q
  asked_block = record { event = record { starts = omega arith; ends = omega (arith, size_low) }; flags = record { starts = omega arith; ends = omega arith } }

  pub frame : (mem2 : List ℕ) → length mem2 ≡ length mem → bytes_at mem2 q.base BLOCK_LEN ≡ bytes_at mem q.base BLOCK_LEN → RingPart mem2 a d q used taken waiting
  frame mem2 long same = kept (IsInside q.base BLOCK_LEN) part reads_block asked_block mem2 long (inside_same mem mem2 q.base BLOCK_LEN same)
