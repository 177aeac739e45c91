-- Lists of bytes, and the numbers that they hold.
use Rattle.std.proofs.Common.{ℕ, zero, suc, ◌+◌, ◌^◌, ◌<◌, List, ◌++◌, length, take, drop, replicate, slice_index, inl, inr, arith}
use Rattle.std.proofs.Math.Nat.{mod-lt}
use Rattle.std.proofs.lemmas.Bool.{cases_lt}
use Rattle.std.proofs.lemmas.List.{get_or_past}
use Rattle.std.proofs.lemmas.List.Elements.{All-nil, All-cons, All-append, All-take, All-drop, All-replicate}
use Rattle.std.specs.Int.{byte_at, bytes_low_first, bytes_high_first}
use Rattle.byteorder.specs.Endian.{little_number, little_bytes, big_number, big_bytes}
use Rattle.byteorder.specs.Numbers.{little_from-lt, big_from-lt}
use Rattle.guest_mem.specs.Memory.{part, put_at, IsByteList, le16_at, le32_at, le64_at, be16_at, be32_at, be64_at}

-- joined bytes are bytes
pub IsByteList-append : (xs ys : List ℕ) → IsByteList xs → IsByteList ys → IsByteList (xs ++ ys)
IsByteList-append xs ys bytes more = All-append (λ b. b < 256) xs ys bytes more

-- a part of bytes is bytes
pub IsByteList-part : (m : List ℕ) (a n : ℕ) → IsByteList m → IsByteList (part m a n)
IsByteList-part m a n bytes = All-take (λ b. b < 256) n (drop a m) (All-drop (λ b. b < 256) a m bytes)

-- bytes put into bytes leave bytes
pub IsByteList-put_at : (m : List ℕ) (a : ℕ) (xs : List ℕ) → IsByteList m → IsByteList xs → IsByteList (put_at m a xs)
IsByteList-put_at m a xs bytes more =
    IsByteList-append (take a m ++ xs) (drop (a + length xs) m)
    (IsByteList-append (take a m) xs (All-take (λ b. b < 256) a m bytes) more)
    (All-drop (λ b. b < 256) (a + length xs) m bytes)

-- zeros are bytes
pub IsByteList-replicate : (n : ℕ) → IsByteList (replicate n 0)
IsByteList-replicate n = All-replicate (λ b. b < 256) n 0 (omega arith)

-- each byte of a number is one
byte_at-lt : (i x : ℕ) → byte_at i x < 256
byte_at-lt zero x = mod-lt x (omega arith)
byte_at-lt (suc i) x = mod-lt _ (omega arith)

-- so the bytes of a number from byte i on, in either order, are bytes
low_first_bytes : (i n x : ℕ) → IsByteList (bytes_low_first i n x)
low_first_bytes i zero x = All-nil (λ b. b < 256)
low_first_bytes i (suc n) x = All-cons (λ b. b < 256) (byte_at i x) (bytes_low_first (suc i) n x) (byte_at-lt i x) (low_first_bytes (suc i) n x)

high_first_bytes : (n x : ℕ) → IsByteList (bytes_high_first n x)
high_first_bytes zero x = All-nil (λ b. b < 256)
high_first_bytes (suc n) x = All-cons (λ b. b < 256) (byte_at n x) (bytes_high_first n x) (byte_at-lt n x) (high_first_bytes n x)

-- the bytes of a number are bytes
pub IsByteList-little_bytes : (n x : ℕ) → IsByteList (little_bytes n x)
IsByteList-little_bytes n x = low_first_bytes 0 n x

pub IsByteList-big_bytes : (n x : ℕ) → IsByteList (big_bytes n x)
IsByteList-big_bytes n x = high_first_bytes n x

-- what is read at any location is a byte, past the end too
slice_index-lt : (m : List ℕ) → IsByteList m → (i : ℕ) → slice_index m i < 256
slice_index-lt m bytes i = elim (cases_lt i (length m)) [ inl within ↦ bytes i 0 within | inr past ↦ rw (get_or_past m i 0 past) (omega arith) ]

-- a number of n bytes is below 256 ^ n
pub little_number-lt : (n : ℕ) (m : List ℕ) → IsByteList m → little_number n m < 256 ^ n
little_number-lt n m bytes = little_from-lt 0 n m (slice_index-lt m bytes)

pub big_number-lt : (n : ℕ) (m : List ℕ) → IsByteList m → big_number n m < 256 ^ n
big_number-lt n m bytes = big_from-lt 0 n m (slice_index-lt m bytes)

-- a number of a known count of bytes fits its width
pub le16_at-lt : (m : List ℕ) (a : ℕ) → IsByteList m → le16_at m a < 2 ^ 16
le16_at-lt m a bytes = little_number-lt 2 (part m a 2) (IsByteList-part m a 2 bytes)

pub le32_at-lt : (m : List ℕ) (a : ℕ) → IsByteList m → le32_at m a < 2 ^ 32
le32_at-lt m a bytes = little_number-lt 4 (part m a 4) (IsByteList-part m a 4 bytes)

pub le64_at-lt : (m : List ℕ) (a : ℕ) → IsByteList m → le64_at m a < 2 ^ 64
le64_at-lt m a bytes = little_number-lt 8 (part m a 8) (IsByteList-part m a 8 bytes)

pub be16_at-lt : (m : List ℕ) (a : ℕ) → IsByteList m → be16_at m a < 2 ^ 16
be16_at-lt m a bytes = big_number-lt 2 (part m a 2) (IsByteList-part m a 2 bytes)

pub be32_at-lt : (m : List ℕ) (a : ℕ) → IsByteList m → be32_at m a < 2 ^ 32
be32_at-lt m a bytes = big_number-lt 4 (part m a 4) (IsByteList-part m a 4 bytes)

pub be64_at-lt : (m : List ℕ) (a : ℕ) → IsByteList m → be64_at m a < 2 ^ 64
be64_at-lt m a bytes = big_number-lt 8 (part m a 8) (IsByteList-part m a 8 bytes)
