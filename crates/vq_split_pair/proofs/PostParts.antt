-- The parts of a post: what the puts of the data, of the ring entry and of the index leave.
use Rattle.std.proofs.Common.{◌≡◌, ℕ, ◌+◌, ◌*◌, ◌%◌, ◌^◌, ◌<◌, ◌≤◌, List, [], ◌∷◌, length, IsTrue, inl, refl, ◌∙◌, ap, arith}
use Rattle.std.specs.Prelude.{All}
use Rattle.std.proofs.Math.Nat.{mod-lt}
use Rattle.std.proofs.lemmas.Bool.Decides.{nat_tests}
use Rattle.std.proofs.lemmas.List.Elements.{All-nil, All-cons}
use Rattle.guest_mem.specs.Memory.{part, put_at, le16_at, le16_of}
use Rattle.guest_mem.proofs.Fields.{le16_at-put_same, le16_at-put_apart}
use Rattle.guest_mem.proofs.Parts.{length-put_at, part-put_at_same}
use Rattle.vt_types.specs.Access.{Put}
use Rattle.vt_layout.specs.QueueBlock.{driver_area}
use Rattle.vq_common.specs.Queue.{DriverQueue, is_ring_size}
use Rattle.port_access.specs.Accesses.{data_puts}
use Rattle.vq_split_drv.specs.Post.{available_puts}
use Rattle.vq_split_pair.specs.Pair.{IsInMemory}
use Rattle.vq_split_pair.proofs.Written.{IsPutWithin, written, written_put}

-- a size that is a power of two is 1 to 1,024
pub size_bounds : (n : ℕ) → IsTrue (is_ring_size n) → (1 ≤ n) × (n ≤ 1024)
size_bounds n power = (grind (arith, nat_tests), grind (arith, nat_tests))

-- the put of the data lies in the place of the data
pub data_within : (location n : ℕ) (bytes : List ℕ) → length bytes ≤ n → All (IsPutWithin location n) (data_puts location bytes)
data_within location n [] few = All-nil (IsPutWithin location n)
data_within location n (byte ∷ bytes) few =
    All-cons (IsPutWithin location n) (Put location (byte ∷ bytes)) []
    (record { addr = location; bytes = byte ∷ bytes; is = refl; starts = omega arith; ends = omega arith }) (All-nil (IsPutWithin location n))

-- the data is read
pub data_read : (location : ℕ) (bytes mem : List ℕ) → location + length bytes ≤ length mem → part (written (data_puts location bytes) mem) location (length bytes) ≡ bytes
data_read location [] mem inside = refl
data_read location (byte ∷ bytes) mem inside =
    ap (λ (m : List ℕ). part m location (length (byte ∷ bytes))) (written_put location (byte ∷ bytes) [] mem inside) ∙ part-put_at_same mem location (byte ∷ bytes) (omega arith)

-- the location of the next ring entry
abbrev pub entry_address : DriverQueue → ℕ
entry_address q = driver_area q.base + (4 + 2 * (q.available % q.cfg.size))

-- it lies behind the index, and in the driver area
entry_inside : (q : DriverQueue) (memory : ℕ) → IsInMemory memory q.cfg q.base → (driver_area q.base + 4 ≤ entry_address q) × (entry_address q + 2 ≤ driver_area q.base + 0x2000)
entry_inside q memory ring =
    let (some, few) = size_bounds q.cfg.size ring.size in
    let location : q.available % q.cfg.size < q.cfg.size = mod-lt q.available some in
    (omega arith, omega arith)

-- the puts that make a buffer available lie in the driver area
pub available_within : (q : DriverQueue) (memory head : ℕ) → IsInMemory memory q.cfg q.base → All (IsPutWithin (driver_area q.base) 0x2000) (available_puts q head)
available_within q memory head ring =
    let (low, high) = entry_inside q memory ring in
    let P = IsPutWithin (driver_area q.base) 0x2000 in
    All-cons P (Put (entry_address q) (le16_of head)) (Put (driver_area q.base + 2) (le16_of ((q.available + 1) % 2 ^ 16)) ∷ [])
    (record { addr = entry_address q; bytes = le16_of head; is = refl; starts = omega arith; ends = omega arith })
    (All-cons P (Put (driver_area q.base + 2) (le16_of ((q.available + 1) % 2 ^ 16))) []
    (record { addr = driver_area q.base + 2; bytes = le16_of ((q.available + 1) % 2 ^ 16); is = refl; starts = omega arith; ends = omega arith }) (All-nil P))

-- the ring says that one more head waits, and which
pub record IsAvailable (mem : List ℕ) (q : DriverQueue) (head : ℕ) : Type 0 where
  pub index : le16_at mem (driver_area q.base + 2) ≡ (q.available + 1) % 2 ^ 16
  pub entry : le16_at mem (entry_address q) ≡ head

-- it says so after these puts
pub available_read : (mem : List ℕ) (q : DriverQueue) (head : ℕ) → IsInMemory (length mem) q.cfg q.base → head < 2 ^ 16 → IsAvailable (written (available_puts q head) mem) q head
available_read mem q head ring low =
    let (behind, high) = entry_inside q (length mem) ring in
    let inside : q.base + 0x1000000 ≤ length mem = ring.inside in
    let next : ℕ = (q.available + 1) % 2 ^ 16 in
    let location : ℕ = driver_area q.base + 2 in
    let first : List ℕ = put_at mem (entry_address q) (le16_of head) in
    let long : length first ≡ length mem = length-put_at mem (entry_address q) (le16_of head) (omega arith) in
    let both : written (available_puts q head) mem ≡ put_at first location (le16_of next)
    = written_put (entry_address q) (le16_of head) (Put location (le16_of next) ∷ []) mem (omega arith) ∙ written_put location (le16_of next) [] first (omega arith)
    in
    record {
      index = ap (λ (m : List ℕ). le16_at m location) both ∙ le16_at-put_same first location next (mod-lt (q.available + 1) (omega arith)) (omega arith);
      entry =
          ap (λ (m : List ℕ). le16_at m (entry_address q)) both
          ∙ le16_at-put_apart first location (le16_of next) (entry_address q) (omega arith) (inl (omega arith))
          ∙ le16_at-put_same mem (entry_address q) head low (omega arith);
    }
