-- What a ring shows where memory changes elsewhere.
use Rattle.std.proofs.Common.{◌≡◌, ℕ, ◌+◌, ◌-◌, ◌*◌, ◌%◌, ◌^◌, ◌<◌, ◌≤◌, List, [], ◌∷◌, length, Option, Some, None, Bool, true, false, refl, sym, ◌∙◌, ap, arith, option_map}
use Rattle.std.specs.Prelude.{◌==◌, ◌&&◌, not, nat_lt, All, if◌then◌else◌}
use Rattle.std.proofs.Math.Nat.{mod-lt}
use Rattle.std.proofs.lemmas.Bool.{and_parts}
use Rattle.std.proofs.lemmas.List.Elements.{All-head, All-tail, All-weaker}
use Rattle.guest_mem.specs.Memory.{put_at, Apart}
use Rattle.guest_mem.proofs.Parts.{length-put_at}
use Rattle.guest_mem.proofs.Ranges.{Apart-inside}
use Rattle.guest_mem.proofs.Fields.{le16_at-put_apart}
use Rattle.vq_common.specs.declared.chain.RingCfg.{RingCfg}
use Rattle.vq_common.specs.declared.descriptor.Descriptor.{Descriptor}
use Rattle.vq_common.specs.Chain.{Walked, Empty, Bad, chain_if_valid}
use Rattle.vq_common.specs.Descriptor.{chain_from, has_next, is_indirect, piece_of}
use Rattle.vq_common.specs.Queue.{DeviceQueue}
use Rattle.vq_common.specs.Table.{table_pieces}
use Rattle.vq_common.proofs.FrameLaws.{Apart-part, chain_from-put_apart, table_pieces-put_apart}
use Rattle.vq_split_dev.specs.Walk.{split_walk, split_areas_inside, waiting_heads, next_head, chain_of, chain_pieces}

-- n bytes from address a on are apart from the table that a descriptor names, where tables are in use and it names one
abbrev pub IsApartFromTable : ℕ → ℕ → RingCfg → Descriptor → Type 0
IsApartFromTable a n c d = c.indirect ≡ true → is_indirect d.flags ≡ true → Apart a n d.addr d.len

-- the descriptors of the chain that is taken next
abbrev pub next_chain : List ℕ → DeviceQueue → Option (List Descriptor)
next_chain mem q = chain_from q.cfg.size mem q.cfg.desc q.cfg.size (next_head mem q)

-- n bytes from address a on are apart from all that the walk reads
pub record IsApartFromWalk (a n : ℕ) (mem : List ℕ) (q : DeviceQueue) : Type 0 where
  pub some : 0 < q.cfg.size
  pub desc : Apart a n q.cfg.desc (16 * q.cfg.size)
  pub driver : Apart a n q.cfg.driver (6 + 2 * q.cfg.size)
  pub tables : (ds : List Descriptor) → next_chain mem q ≡ Some ds → All (IsApartFromTable a n q.cfg) ds

if_both : {X : Type 0} (b : Bool) (x x2 y y2 : X) → (b ≡ true → x ≡ x2) → y ≡ y2 → (if b then x else y) ≡ (if b then x2 else y2)
if_both true x x2 y y2 first second = first refl
if_both false x x2 y y2 first second = second

-- the pieces of a chain stay
chain_pieces-put_apart : (mem : List ℕ) (a : ℕ) (xs : List ℕ) (c : RingCfg) (ds : List Descriptor) → a + length xs ≤ length mem → All (IsApartFromTable a (length xs) c) ds
    → chain_pieces (put_at mem a xs) c ds ≡ chain_pieces mem c ds
chain_pieces-put_apart mem a xs c [] inside apart = refl
chain_pieces-put_apart mem a xs c (d ∷ ds) inside apart =
    let P : Descriptor → Type 0 = IsApartFromTable a (length xs) c in
    let in_use : Bool = c.indirect && not (has_next d.flags) in
    if_both (is_indirect d.flags)
    (if in_use then table_pieces (put_at mem a xs) d.addr d.len c.size true else None)
    (if in_use then table_pieces mem d.addr d.len c.size true else None)
    (option_map (λ ps. piece_of d ∷ ps) (chain_pieces (put_at mem a xs) c ds))
    (option_map (λ ps. piece_of d ∷ ps) (chain_pieces mem c ds))
    (λ names. if_both in_use (table_pieces (put_at mem a xs) d.addr d.len c.size true) (table_pieces mem d.addr d.len c.size true) None None
    (λ both. let (indirect, last) = and_parts c.indirect (not (has_next d.flags)) both in
    table_pieces-put_apart mem a xs d.addr d.len c.size true inside (All-head P d ds apart indirect names))
    refl)
    (ap (option_map (λ ps. piece_of d ∷ ps)) (chain_pieces-put_apart mem a xs c ds inside (All-tail P d ds apart)))

-- so does what the ring shows at a head
chain_of-put_apart : (mem : List ℕ) (a : ℕ) (xs : List ℕ) (c : RingCfg) (head : ℕ) (o : Option (List Descriptor)) → a + length xs ≤ length mem
    → ((ds : List Descriptor) → o ≡ Some ds → All (IsApartFromTable a (length xs) c) ds) → chain_of (put_at mem a xs) c head o ≡ chain_of mem c head o
chain_of-put_apart mem a xs c head None inside apart = refl
chain_of-put_apart mem a xs c head (Some ds) inside apart =
    ap (λ (n : ℕ). chain_if_valid n head (length ds) (chain_pieces (put_at mem a xs) c ds)) (length-put_at mem a xs inside)
    ∙ ap (chain_if_valid (length mem) head (length ds)) (chain_pieces-put_apart mem a xs c ds inside (apart ds refl))

-- the numbers of the driver area stay
waiting_heads-put_apart : (mem : List ℕ) (a : ℕ) (xs : List ℕ) (q : DeviceQueue) → a + length xs ≤ length mem → Apart a (length xs) q.cfg.driver (6 + 2 * q.cfg.size)
    → waiting_heads (put_at mem a xs) q ≡ waiting_heads mem q
waiting_heads-put_apart mem a xs q inside apart =
    let index : Apart a (length xs) (q.cfg.driver + 2) 2 = Apart-part a (length xs) q.cfg.driver (6 + 2 * q.cfg.size) (q.cfg.driver + 2) 2 (omega arith) (omega arith) apart in
    ap (λ (i : ℕ). (i + 2 ^ 16 - q.taken) % 2 ^ 16) (le16_at-put_apart mem a xs (q.cfg.driver + 2) inside index)

next_head-put_apart : (mem : List ℕ) (a : ℕ) (xs : List ℕ) (q : DeviceQueue) → 0 < q.cfg.size → a + length xs ≤ length mem → Apart a (length xs) q.cfg.driver (6 + 2 * q.cfg.size)
    → next_head (put_at mem a xs) q ≡ next_head mem q
next_head-put_apart mem a xs q some inside apart =
    let location : q.taken % q.cfg.size < q.cfg.size = mod-lt q.taken some in
    let at : ℕ = q.cfg.driver + (4 + 2 * (q.taken % q.cfg.size)) in
    le16_at-put_apart mem a xs at inside (Apart-part a (length xs) q.cfg.driver (6 + 2 * q.cfg.size) at 2 (omega arith) (omega arith) apart)

next_chain-put_apart : (mem : List ℕ) (a : ℕ) (xs : List ℕ) (q : DeviceQueue) → a + length xs ≤ length mem → IsApartFromWalk a (length xs) mem q
    → next_chain (put_at mem a xs) q ≡ next_chain mem q
next_chain-put_apart mem a xs q inside apart =
    chain_from-put_apart q.cfg.size mem a xs q.cfg.desc q.cfg.size (next_head (put_at mem a xs) q) inside apart.desc
    ∙ ap (chain_from q.cfg.size mem q.cfg.desc q.cfg.size) (next_head-put_apart mem a xs q apart.some inside apart.driver)

-- what the ring shows, by its parts
abbrev shown_by : Bool → ℕ → ℕ → Walked → Walked
shown_by areas size waiting front = if areas then (if waiting == 0 then Empty else (if nat_lt size waiting then Bad else front)) else Bad

front-put_apart : (mem : List ℕ) (a : ℕ) (xs : List ℕ) (q : DeviceQueue) → a + length xs ≤ length mem → IsApartFromWalk a (length xs) mem q
    → chain_of (put_at mem a xs) q.cfg (next_head (put_at mem a xs) q) (next_chain (put_at mem a xs) q) ≡ chain_of mem q.cfg (next_head mem q) (next_chain mem q)
front-put_apart mem a xs q inside apart =
    ap (λ (head : ℕ). chain_of (put_at mem a xs) q.cfg head (next_chain (put_at mem a xs) q)) (next_head-put_apart mem a xs q apart.some inside apart.driver)
    ∙ ap (chain_of (put_at mem a xs) q.cfg (next_head mem q)) (next_chain-put_apart mem a xs q inside apart)
    ∙ chain_of-put_apart mem a xs q.cfg (next_head mem q) (next_chain mem q) inside apart.tables

-- a put apart from all that the walk reads leaves what the ring shows next
pub split_walk-put_apart : (mem : List ℕ) (a : ℕ) (xs : List ℕ) (q : DeviceQueue) → a + length xs ≤ length mem → IsApartFromWalk a (length xs) mem q
    → split_walk (put_at mem a xs) q ≡ split_walk mem q
split_walk-put_apart mem a xs q inside apart =
    let size : ℕ = q.cfg.size in
    let front : Walked = chain_of (put_at mem a xs) q.cfg (next_head (put_at mem a xs) q) (next_chain (put_at mem a xs) q) in
    ap (λ (n : ℕ). shown_by (split_areas_inside n q.cfg) size (waiting_heads (put_at mem a xs) q) front) (length-put_at mem a xs inside)
    ∙ ap (λ (n : ℕ). shown_by (split_areas_inside (length mem) q.cfg) size n front) (waiting_heads-put_apart mem a xs q inside apart.driver)
    ∙ ap (shown_by (split_areas_inside (length mem) q.cfg) size (waiting_heads mem q)) (front-put_apart mem a xs q inside apart)

-- a range inside one that is apart from the walk is apart from it
pub IsApartFromWalk-inside : (a n b k : ℕ) (mem : List ℕ) (q : DeviceQueue) → a ≤ b → b + k ≤ a + n → IsApartFromWalk a n mem q → IsApartFromWalk b k mem q
IsApartFromWalk-inside a n b k mem q low high apart =
    record {
      some = apart.some;
      desc = Apart-inside a n q.cfg.desc (16 * q.cfg.size) b k low high apart.desc;
      driver = Apart-inside a n q.cfg.driver (6 + 2 * q.cfg.size) b k low high apart.driver;
      tables = λ ds is. All-weaker (IsApartFromTable a n q.cfg) (IsApartFromTable b k q.cfg) (λ d from_table indirect names. Apart-inside a n d.addr d.len b k low high (from_table indirect names)) ds (apart.tables ds is);
    }

-- and stays apart from it where a put is
pub IsApartFromWalk-put_apart : (mem : List ℕ) (a : ℕ) (xs : List ℕ) (b k : ℕ) (q : DeviceQueue) → a + length xs ≤ length mem → IsApartFromWalk a (length xs) mem q → IsApartFromWalk b k mem q
    → IsApartFromWalk b k (put_at mem a xs) q
IsApartFromWalk-put_apart mem a xs b k q inside put_apart apart =
    record {
      some = apart.some;
      desc = apart.desc;
      driver = apart.driver;
      tables = λ ds is. apart.tables ds (sym (next_chain-put_apart mem a xs q inside put_apart) ∙ is);
    }
