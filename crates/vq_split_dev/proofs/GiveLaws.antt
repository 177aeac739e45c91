-- What memory holds once a chain is given back.
use Rattle.std.proofs.Common.{◌≡◌, ℕ, ◌+◌, ◌*◌, ◌%◌, ◌^◌, ◌<◌, ◌≤◌, List, ◌++◌, length, IsTrue, inl, ◌∙◌, ap, arith, length-append}
use Rattle.std.proofs.Math.Nat.{mod-lt}
use Rattle.byteorder.specs.Endian.{little_number, little_bytes}
use Rattle.guest_mem.specs.Memory.{part, put_at, Apart, le16_at, le32_at}
use Rattle.guest_mem.proofs.Parts.{length-put_at, part-put_at_apart, part-put_at_inside_at, part-put_at_same_length, part-append_left, part-append_right, part_all}
use Rattle.guest_mem.proofs.Fields.{length-little_bytes, little_number-little_bytes}
use Rattle.vq_common.specs.Queue.{DeviceQueue}
use Rattle.vq_split_dev.specs.Walk.{split_areas_inside, split_walk}
use Rattle.vq_split_dev.specs.Give.{next_used, split_given_memory}
use Rattle.vq_split_dev.proofs.WalkLaws.{IsApartFromWalk, IsApartFromWalk-inside, IsApartFromWalk-put_apart, split_walk-put_apart}
use Rattle.vq_split_dev.proofs.AreaLaws.{HasAreas-from_test, element_address, element_inside}

-- two puts inside leave the length
length-put_twice : (m xs ys : List ℕ) (a b : ℕ) → a + length xs ≤ length m → b + length ys ≤ length m → length (put_at (put_at m a xs) b ys) ≡ length m
length-put_twice m xs ys a b first second =
    let one : length (put_at m a xs) ≡ length m = length-put_at m a xs first in
    length-put_at (put_at m a xs) b ys (omega arith) ∙ one

-- a part apart from two puts is as it was
part-put_twice_apart : (m xs ys : List ℕ) (a b c n : ℕ) → a + length xs ≤ length m → b + length ys ≤ length m → Apart a (length xs) c n → Apart b (length ys) c n
    → part (put_at (put_at m a xs) b ys) c n ≡ part m c n
part-put_twice_apart m xs ys a b c n first second from_first from_second =
    let one : length (put_at m a xs) ≡ length m = length-put_at m a xs first in
    part-put_at_apart (put_at m a xs) b ys c n (omega arith) from_second ∙ part-put_at_apart m a xs c n first from_first

-- of two fields put in a row, and something before them, each is read
first_field : (m xs ys zs : List ℕ) (a b n k : ℕ) → length xs ≡ n → length ys ≡ k → a + (n + k) ≤ length m → b + length zs ≤ a
    → part (put_at (put_at m a (xs ++ ys)) b zs) a n ≡ xs
first_field m xs ys zs a b n k long more inside before =
    let both : length (xs ++ ys) ≡ n + k = omega (arith, length-append xs ys) in
    let one : length (put_at m a (xs ++ ys)) ≡ length m = length-put_at m a (xs ++ ys) (omega arith) in
    part-put_at_apart (put_at m a (xs ++ ys)) b zs a n (omega arith) (inl before)
    ∙ part-put_at_inside_at m a (xs ++ ys) 0 n a (omega arith) (omega arith) (omega arith)
    ∙ part-append_left xs ys 0 n (omega arith)
    ∙ part_all xs n long

second_field : (m xs ys zs : List ℕ) (a b n k : ℕ) → length xs ≡ n → length ys ≡ k → a + (n + k) ≤ length m → b + length zs ≤ a
    → part (put_at (put_at m a (xs ++ ys)) b zs) (a + n) k ≡ ys
second_field m xs ys zs a b n k long more inside before =
    let both : length (xs ++ ys) ≡ n + k = omega (arith, length-append xs ys) in
    let one : length (put_at m a (xs ++ ys)) ≡ length m = length-put_at m a (xs ++ ys) (omega arith) in
    let seam : n ≡ n + 0 = omega arith in
    part-put_at_apart (put_at m a (xs ++ ys)) b zs (a + n) k (omega arith) (inl (omega arith))
    ∙ part-put_at_inside_at m a (xs ++ ys) n k (a + n) (omega arith) (omega arith) (omega arith)
    ∙ ap (λ (i : ℕ). part (xs ++ ys) i k) seam
    ∙ part-append_right xs ys n 0 k long
    ∙ part_all ys k more

-- what was put last is read
last_field : (m xs zs : List ℕ) (a b n : ℕ) → length zs ≡ n → a + length xs ≤ length m → b + n ≤ length m → part (put_at (put_at m a xs) b zs) b n ≡ zs
last_field m xs zs a b n long first second =
    let one : length (put_at m a xs) ≡ length m = length-put_at m a xs first in
    part-put_at_same_length (put_at m a xs) b zs n long (omega arith)

-- an element has eight bytes
length-element : (id len : ℕ) → length (little_bytes 4 id ++ little_bytes 4 len) ≡ 8
length-element id len = omega (arith, length-append (little_bytes 4 id) (little_bytes 4 len), length-little_bytes 4 id, length-little_bytes 4 len)

-- giving a chain back keeps the length of memory
pub length-split_given_memory : (mem : List ℕ) (q : DeviceQueue) (id len : ℕ) → IsTrue (split_areas_inside (length mem) q.cfg) → 0 < q.cfg.size
    → length (split_given_memory mem q id len) ≡ length mem
length-split_given_memory mem q id len areas some =
    let inside = HasAreas-from_test (length mem) q.cfg areas in
    let element : element_address q + 8 ≤ length mem = element_inside (length mem) q inside some in
    length-put_twice mem (little_bytes 4 id ++ little_bytes 4 len) (little_bytes 2 (next_used q)) (element_address q) (q.cfg.device + 2)
    (omega (arith, length-element id len)) (omega (arith, length-little_bytes 2 (next_used q), inside.device))

-- and each part apart from the used element and the used index
pub part-split_given_memory : (mem : List ℕ) (q : DeviceQueue) (id len b n : ℕ) → IsTrue (split_areas_inside (length mem) q.cfg) → 0 < q.cfg.size
    → Apart (element_address q) 8 b n → Apart (q.cfg.device + 2) 2 b n → part (split_given_memory mem q id len) b n ≡ part mem b n
part-split_given_memory mem q id len b n areas some from_element from_index =
    let inside = HasAreas-from_test (length mem) q.cfg areas in
    let element : element_address q + 8 ≤ length mem = element_inside (length mem) q inside some in
    part-put_twice_apart mem (little_bytes 4 id ++ little_bytes 4 len) (little_bytes 2 (next_used q)) (element_address q) (q.cfg.device + 2) b n
    (omega (arith, length-element id len)) (omega (arith, length-little_bytes 2 (next_used q), inside.device))
    (rw (length-element id len) from_element) (rw (length-little_bytes 2 (next_used q)) from_index)

-- the used index is read
pub used_index : (mem : List ℕ) (q : DeviceQueue) (id len : ℕ) → IsTrue (split_areas_inside (length mem) q.cfg) → 0 < q.cfg.size
    → le16_at (split_given_memory mem q id len) (q.cfg.device + 2) ≡ next_used q
used_index mem q id len areas some =
    let inside = HasAreas-from_test (length mem) q.cfg areas in
    let element : element_address q + 8 ≤ length mem = element_inside (length mem) q inside some in
    let fits : next_used q < 2 ^ 16 = mod-lt (q.used + 1) (omega arith) in
    ap (little_number 2) (last_field mem (little_bytes 4 id ++ little_bytes 4 len) (little_bytes 2 (next_used q)) (element_address q) (q.cfg.device + 2) 2
    (length-little_bytes 2 (next_used q)) (omega (arith, length-element id len)) (omega (arith, inside.device)))
    ∙ little_number-little_bytes 2 (next_used q) fits

-- the id of the used element is read
pub used_id : (mem : List ℕ) (q : DeviceQueue) (id len : ℕ) → IsTrue (split_areas_inside (length mem) q.cfg) → 0 < q.cfg.size → id < 2 ^ 32
    → le32_at (split_given_memory mem q id len) (element_address q) ≡ id
used_id mem q id len areas some fits =
    let inside = HasAreas-from_test (length mem) q.cfg areas in
    let element : element_address q + 8 ≤ length mem = element_inside (length mem) q inside some in
    ap (little_number 4) (first_field mem (little_bytes 4 id) (little_bytes 4 len) (little_bytes 2 (next_used q)) (element_address q) (q.cfg.device + 2) 4 4
    (length-little_bytes 4 id) (length-little_bytes 4 len) element (omega (arith, length-little_bytes 2 (next_used q))))
    ∙ little_number-little_bytes 4 id fits

-- and its number of bytes written
pub used_len : (mem : List ℕ) (q : DeviceQueue) (id len : ℕ) → IsTrue (split_areas_inside (length mem) q.cfg) → 0 < q.cfg.size → len < 2 ^ 32
    → le32_at (split_given_memory mem q id len) (element_address q + 4) ≡ len
used_len mem q id len areas some fits =
    let inside = HasAreas-from_test (length mem) q.cfg areas in
    let element : element_address q + 8 ≤ length mem = element_inside (length mem) q inside some in
    ap (little_number 4) (second_field mem (little_bytes 4 id) (little_bytes 4 len) (little_bytes 2 (next_used q)) (element_address q) (q.cfg.device + 2) 4 4
    (length-little_bytes 4 id) (length-little_bytes 4 len) element (omega (arith, length-little_bytes 2 (next_used q))))
    ∙ little_number-little_bytes 4 len fits

-- two puts, each in a range that is apart from the walk
put_twice_apart : (mem xs ys : List ℕ) (a b c n : ℕ) (q : DeviceQueue) → c ≤ a → a + length xs ≤ c + n → c ≤ b → b + length ys ≤ c + n → c + n ≤ length mem → IsApartFromWalk c n mem q
    → split_walk (put_at (put_at mem a xs) b ys) q ≡ split_walk mem q
put_twice_apart mem xs ys a b c n q first_low first_high second_low second_high inside apart =
    let one : length (put_at mem a xs) ≡ length mem = length-put_at mem a xs (omega arith) in
    let first : IsApartFromWalk a (length xs) mem q = IsApartFromWalk-inside c n a (length xs) mem q first_low first_high apart in
    let second : IsApartFromWalk b (length ys) mem q = IsApartFromWalk-inside c n b (length ys) mem q second_low second_high apart in
    split_walk-put_apart (put_at mem a xs) b ys q (omega arith) (IsApartFromWalk-put_apart mem a xs b (length ys) q (omega arith) first second)
    ∙ split_walk-put_apart mem a xs q (omega arith) first

-- giving a chain back leaves what a ring shows next, where the device area is apart from what the walk reads
pub split_walk-split_given_memory : (mem : List ℕ) (g q : DeviceQueue) (id len : ℕ) → IsTrue (split_areas_inside (length mem) g.cfg) → 0 < g.cfg.size
    → IsApartFromWalk g.cfg.device (6 + 8 * g.cfg.size) mem q → split_walk (split_given_memory mem g id len) q ≡ split_walk mem q
split_walk-split_given_memory mem g q id len areas some apart =
    let inside = HasAreas-from_test (length mem) g.cfg areas in
    let location : g.used % g.cfg.size < g.cfg.size = mod-lt g.used some in
    put_twice_apart mem (little_bytes 4 id ++ little_bytes 4 len) (little_bytes 2 (next_used g)) (element_address g) (g.cfg.device + 2) g.cfg.device (6 + 8 * g.cfg.size) q
    (omega arith) (omega (arith, length-element id len)) (omega arith) (omega (arith, length-little_bytes 2 (next_used g))) inside.device apart
