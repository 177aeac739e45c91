-- What changes in the block of one queue leaves the parts of the console's other queues.
use Rattle.std.proofs.Common.{◌≡◌, ℕ, ◌+◌, ◌≤◌, List, length, Option, Some, None, refl, inl, inr, arith}
use Rattle.std.proofs.lemmas.Bool.{cases_order}
use Rattle.vt_types.specs.declared.device.Dev.TheVariants.{Con}
use Rattle.vt_types.specs.Device.{BLOCK_LEN, queue_block}
use Rattle.guest_mem.specs.Memory.{part as bytes_at, put_at, Apart}
use Rattle.guest_mem.proofs.Parts.{length-put_at, part-put_at_apart}
use Rattle.guest_mem.proofs.Ranges.{Apart-inside}
use Rattle.vq_common.specs.Queue.{DriverQueue}
use Rattle.abstract_devices.specs.World.{AbstractQueue}
use Rattle.dev_core.specs.Device.{QueueState}
use Rattle.ring_part.specs.Held.{UsedHeld}
use Rattle.ring_part.specs.Locations.{IsInside}
use Rattle.mmio_simulation.specs.Related.{UsedFacts, QueuePartWith}
use Rattle.mmio_simulation.proofs.PartChanges.{changed_part}
use Rattle.mmio_simulation.proofs.Queues.{queue_framed}

-- blocks of different queues are apart
pub blocks_apart : (base n m : ℕ) → base ≡ queue_block Con n → (m ≡ n → ⊥) → Apart base BLOCK_LEN (queue_block Con m) BLOCK_LEN
blocks_apart base n m is other =
    elim (cases_order m n) [
      | inl same ↦ absurd (other same)
      | inr order ↦ elim order [ inl below ↦ inr (omega (arith, is, below)) | inr above ↦ inl (omega (arith, is, above)) ]
    ]

-- memory changes in the block of queue n alone
pub record ChangesBlock (n : ℕ) (mem mem2 : List ℕ) : Type 0 where
  pub long : length mem2 ≡ length mem
  pub others : (k : ℕ) → (k ≡ n → ⊥) → bytes_at mem2 (queue_block Con k) BLOCK_LEN ≡ bytes_at mem (queue_block Con k) BLOCK_LEN

pub stays_whole : (n : ℕ) (mem : List ℕ) → ChangesBlock n mem mem
stays_whole n mem = record { long = refl; others = λ k other. refl }

-- bytes are put there
pub put_changes : (n : ℕ) (mem : List ℕ) (base addr : ℕ) (bytes : List ℕ) → base ≡ queue_block Con n → IsInside base BLOCK_LEN addr (length bytes) → addr + length bytes ≤ length mem
    → ChangesBlock n mem (put_at mem addr bytes)
put_changes n mem base addr bytes location here fits =
    record {
      long = length-put_at mem addr bytes fits;
      others = λ k other.
          part-put_at_apart mem addr bytes (queue_block Con k) BLOCK_LEN fits
          (Apart-inside base BLOCK_LEN (queue_block Con k) BLOCK_LEN addr (length bytes) here.starts here.ends (blocks_apart base n k location other));
    }

-- less is known of the used buffers of other queues
abbrev pub Elsewhere : ℕ → UsedFacts → UsedFacts → Type 0
Elsewhere n F G = (j : ℕ) → (j ≡ n → ⊥) → (used : List UsedHeld) → F j used → G j used

-- less is known of used buffers
pub queue_less : (P Q : List UsedHeld → Type 0) (mem : List ℕ) (status accepted n : ℕ) → ((used : List UsedHeld) → P used → Q used) → (a : Option AbstractQueue) (s : QueueState) (q : Option DriverQueue)
    → QueuePartWith P mem status accepted n a s q → QueuePartWith Q mem status accepted n a s q
queue_less P Q mem status accepted n less None s None p = p
queue_less P Q mem status accepted n less (Some a) s (Some q) p =
    changed_part P Q mem mem status accepted n a a s q q p refl refl refl
    (record { used = p.rests.used; waiting = p.rests.waiting; part = p.rests.part; known = less p.rests.used p.rests.known })
queue_less P Q mem status accepted n less None s (Some q) p = absurd p
queue_less P Q mem status accepted n less (Some a) s None p = absurd p

-- the part of another queue stays
pub queue_elsewhere : (F G : UsedFacts) (mem mem2 : List ℕ) (status accepted n k : ℕ) → ChangesBlock n mem mem2 → Elsewhere n F G → (k ≡ n → ⊥) → (a : Option AbstractQueue) (s : QueueState) (q : Option DriverQueue)
    → QueuePartWith (F k) mem status accepted k a s q → QueuePartWith (G k) mem2 status accepted k a s q
queue_elsewhere F G mem mem2 status accepted n k changes less other a s q p =
    queue_less (F k) (G k) mem2 status accepted k (less k other) a s q (queue_framed (F k) mem mem2 status accepted k changes.long (changes.others k other) a s q p)
