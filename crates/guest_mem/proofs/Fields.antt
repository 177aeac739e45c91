-- Numbers in memory, over any count n of bytes and in both byte orders.
use Rattle.std.proofs.Common.{◌≡◌, ℕ, ◌+◌, ◌^◌, ◌≤◌, ◌<◌, List, [], length, sym, ◌∙◌, ap, arith, append-nil}
use Rattle.byteorder.specs.Endian.{little_number, little_bytes, big_number, big_bytes}
use Rattle.byteorder.specs.Numbers.{length-bytes_low_first, length-bytes_high_first, little_number-reads_back, big_number-reads_back}
use Rattle.guest_mem.specs.Memory.{part, put_at, Apart, le16_at, le32_at, le64_at, be16_at, be32_at, be64_at, le16_of, le32_of, le64_of, be16_of, be32_of, be64_of}
use Rattle.guest_mem.proofs.Parts.{part-put_at_same_length, part-put_at_inside, part-put_at_apart}

-- n bytes of a number are n
pub length-little_bytes : (n x : ℕ) → length (little_bytes n x) ≡ n
length-little_bytes n x = length-bytes_low_first 0 n x

pub length-big_bytes : (n x : ℕ) → length (big_bytes n x) ≡ n
length-big_bytes n x = length-bytes_high_first n x

-- the bytes of a number give the number
pub little_number-little_bytes : (n x : ℕ) → x < 256 ^ n → little_number n (little_bytes n x) ≡ x
little_number-little_bytes n x fits = ap (little_number n) (sym (append-nil (little_bytes n x))) ∙ little_number-reads_back n x [] fits

pub big_number-big_bytes : (n x : ℕ) → x < 256 ^ n → big_number n (big_bytes n x) ≡ x
big_number-big_bytes n x fits = ap (big_number n) (sym (append-nil (big_bytes n x))) ∙ big_number-reads_back n x [] fits

-- a number that was put is read
pub le_put_same : (m : List ℕ) (a n x : ℕ) → x < 256 ^ n → a + n ≤ length m → little_number n (part (put_at m a (little_bytes n x)) a n) ≡ x
le_put_same m a n x fits inside =
    ap (little_number n) (part-put_at_same_length m a (little_bytes n x) n (length-little_bytes n x) (omega arith)) ∙ little_number-little_bytes n x fits

pub be_put_same : (m : List ℕ) (a n x : ℕ) → x < 256 ^ n → a + n ≤ length m → big_number n (part (put_at m a (big_bytes n x)) a n) ≡ x
be_put_same m a n x fits inside =
    ap (big_number n) (part-put_at_same_length m a (big_bytes n x) n (length-big_bytes n x) (omega arith)) ∙ big_number-big_bytes n x fits

-- a number inside what was put is that of the bytes
pub le_put_inside : (m : List ℕ) (a : ℕ) (xs : List ℕ) (i n : ℕ) → i + n ≤ length xs → a + length xs ≤ length m → little_number n (part (put_at m a xs) (a + i) n) ≡ little_number n (part xs i n)
le_put_inside m a xs i n within inside = ap (little_number n) (part-put_at_inside m a xs i n within inside)

pub be_put_inside : (m : List ℕ) (a : ℕ) (xs : List ℕ) (i n : ℕ) → i + n ≤ length xs → a + length xs ≤ length m → big_number n (part (put_at m a xs) (a + i) n) ≡ big_number n (part xs i n)
be_put_inside m a xs i n within inside = ap (big_number n) (part-put_at_inside m a xs i n within inside)

-- a number apart from what was put is as it was
pub le_put_apart : (m : List ℕ) (a : ℕ) (xs : List ℕ) (b n : ℕ) → a + length xs ≤ length m → Apart a (length xs) b n → little_number n (part (put_at m a xs) b n) ≡ little_number n (part m b n)
le_put_apart m a xs b n inside apart = ap (little_number n) (part-put_at_apart m a xs b n inside apart)

pub be_put_apart : (m : List ℕ) (a : ℕ) (xs : List ℕ) (b n : ℕ) → a + length xs ≤ length m → Apart a (length xs) b n → big_number n (part (put_at m a xs) b n) ≡ big_number n (part m b n)
be_put_apart m a xs b n inside apart = ap (big_number n) (part-put_at_apart m a xs b n inside apart)

-- a number of a known count of bytes that was put is read
pub le16_at-put_same : (m : List ℕ) (a x : ℕ) → x < 2 ^ 16 → a + 2 ≤ length m → le16_at (put_at m a (le16_of x)) a ≡ x
le16_at-put_same m a x fits inside = le_put_same m a 2 x fits inside

pub le32_at-put_same : (m : List ℕ) (a x : ℕ) → x < 2 ^ 32 → a + 4 ≤ length m → le32_at (put_at m a (le32_of x)) a ≡ x
le32_at-put_same m a x fits inside = le_put_same m a 4 x fits inside

pub le64_at-put_same : (m : List ℕ) (a x : ℕ) → x < 2 ^ 64 → a + 8 ≤ length m → le64_at (put_at m a (le64_of x)) a ≡ x
le64_at-put_same m a x fits inside = le_put_same m a 8 x fits inside

pub be16_at-put_same : (m : List ℕ) (a x : ℕ) → x < 2 ^ 16 → a + 2 ≤ length m → be16_at (put_at m a (be16_of x)) a ≡ x
be16_at-put_same m a x fits inside = be_put_same m a 2 x fits inside

pub be32_at-put_same : (m : List ℕ) (a x : ℕ) → x < 2 ^ 32 → a + 4 ≤ length m → be32_at (put_at m a (be32_of x)) a ≡ x
be32_at-put_same m a x fits inside = be_put_same m a 4 x fits inside

pub be64_at-put_same : (m : List ℕ) (a x : ℕ) → x < 2 ^ 64 → a + 8 ≤ length m → be64_at (put_at m a (be64_of x)) a ≡ x
be64_at-put_same m a x fits inside = be_put_same m a 8 x fits inside

-- and one apart from what was put is as it was
pub le16_at-put_apart : (m : List ℕ) (a : ℕ) (xs : List ℕ) (b : ℕ) → a + length xs ≤ length m → Apart a (length xs) b 2 → le16_at (put_at m a xs) b ≡ le16_at m b
le16_at-put_apart m a xs b inside apart = le_put_apart m a xs b 2 inside apart

pub le32_at-put_apart : (m : List ℕ) (a : ℕ) (xs : List ℕ) (b : ℕ) → a + length xs ≤ length m → Apart a (length xs) b 4 → le32_at (put_at m a xs) b ≡ le32_at m b
le32_at-put_apart m a xs b inside apart = le_put_apart m a xs b 4 inside apart

pub le64_at-put_apart : (m : List ℕ) (a : ℕ) (xs : List ℕ) (b : ℕ) → a + length xs ≤ length m → Apart a (length xs) b 8 → le64_at (put_at m a xs) b ≡ le64_at m b
le64_at-put_apart m a xs b inside apart = le_put_apart m a xs b 8 inside apart

pub be16_at-put_apart : (m : List ℕ) (a : ℕ) (xs : List ℕ) (b : ℕ) → a + length xs ≤ length m → Apart a (length xs) b 2 → be16_at (put_at m a xs) b ≡ be16_at m b
be16_at-put_apart m a xs b inside apart = be_put_apart m a xs b 2 inside apart

pub be32_at-put_apart : (m : List ℕ) (a : ℕ) (xs : List ℕ) (b : ℕ) → a + length xs ≤ length m → Apart a (length xs) b 4 → be32_at (put_at m a xs) b ≡ be32_at m b
be32_at-put_apart m a xs b inside apart = be_put_apart m a xs b 4 inside apart

pub be64_at-put_apart : (m : List ℕ) (a : ℕ) (xs : List ℕ) (b : ℕ) → a + length xs ≤ length m → Apart a (length xs) b 8 → be64_at (put_at m a xs) b ≡ be64_at m b
be64_at-put_apart m a xs b inside apart = be_put_apart m a xs b 8 inside apart
