-- The lines of an operation's accesses on a ring are not too long: a post makes 11 puts at most, a reap four accesses.
use Rattle.std.proofs.Common.{◌≡◌, ℕ, ◌+◌, ◌*◌, ◌%◌, ◌≤◌, List, [], ◌∷◌, ◌++◌, length, drop, Bool, true, false, Option, Some, None, refl, arith, length-append}
use Rattle.std.specs.Prelude.{◌==◌, if◌then◌else◌, nat_le, nat_lt}
use Rattle.byteorder.specs.Endian.{little_number}
use Rattle.vt_types.specs.Access.{AccessValue, Load, Store, Put, Get, Zero, Swap, CfgLoad, CfgStore, Ssch, Tsch, Stsch, Msch, Csch, TurnOf, Diag}
use Rattle.vt_types.specs.Limits.{LONGEST_BUFFER, MOST_PIECES}
use Rattle.vt_types.specs.Operation.{PostedBuffer}
use Rattle.vt_types.specs.Program.{Program, Do, Mark, End, CountsAtMost, counts_of_all, do_all}
use Rattle.vt_types.specs.Within.{IsBufferWithin}
use Rattle.vt_types.proofs.BoundLaws.{counts_do_all, counts_either, counts_more}
use Rattle.report_text.specs.Access.{longest_access_line}
use Rattle.report_text.specs.Text.{LINE_SPARE}
use Rattle.port_access.specs.Accesses.{bytes_or_zeros, data_puts, mark_unless}
use Rattle.vt_layout.specs.QueueBlock.{data_address, device_area}
use Rattle.vq_common.specs.declared.descriptor.Descriptor.{Descriptor}
use Rattle.vq_common.specs.Queue.{DriverQueue, ReapedValue, Unreaped, free_slots, post_program, slots_of, unreaped_with}
use Rattle.vq_posted.specs.Free.{head_of}
use Rattle.vq_posted.specs.Reap.{reap_bytes, reap_end, reap_named, reap_nothing}
use Rattle.vq_split_drv.specs.Cost.{length-descriptors_of}
use Rattle.vq_split_drv.specs.Post.{available_puts, chain_puts, descriptors_for, descriptors_of, direct_puts, indirect_puts, post_puts, puts_of, split_post_accesses, split_posted}
use Rattle.vq_split_drv.specs.Reap.{reap_element, split_reap_program, split_reaped, split_signals_program, used_event_put}

-- no line of an access is longer than one with bytes
line_at_most : (a : AccessValue) → longest_access_line a ≤ LINE_SPARE
line_at_most (Load addr width) = omega arith
line_at_most (Store addr width value) = omega arith
line_at_most (Put addr bytes) = omega arith
line_at_most (Get addr count) = omega arith
line_at_most (Zero addr count) = omega arith
line_at_most (Swap addr value) = omega arith
line_at_most (CfgLoad func off width) = omega arith
line_at_most (CfgStore func off width value) = omega arith
line_at_most (Ssch id addr) = omega arith
line_at_most (Tsch id addr) = omega arith
line_at_most (Stsch id addr) = omega arith
line_at_most (Msch id addr) = omega arith
line_at_most (Csch id) = omega arith
line_at_most (TurnOf id) = omega arith
line_at_most (Diag func id value cookie) = omega arith

lines_at_most : (accesses : List AccessValue) → counts_of_all longest_access_line accesses ≤ LINE_SPARE * length accesses
lines_at_most [] = omega arith
lines_at_most (a ∷ rest) = omega (arith, line_at_most a, lines_at_most rest)

-- how many puts a post makes
count_of_data : (location : ℕ) (bytes : List ℕ) → length (data_puts location bytes) ≤ 1
count_of_data location [] = omega arith
count_of_data location (byte ∷ bytes) = omega arith

count_of_puts : (table : ℕ) (locations : List ℕ) (ds : List Descriptor) → length (puts_of table locations ds) ≡ length ds
count_of_puts table locations [] = refl
count_of_puts table locations (d ∷ ds) = omega (arith, count_of_puts table (drop 1 locations) ds)

count_of_either : (indirect : Bool) (xs ys : List AccessValue) (n : ℕ) → length xs ≤ n → length ys ≤ n → length (if indirect then xs else ys) ≤ n
count_of_either true xs ys n h k = h
count_of_either false xs ys n h k = k

count_of_chain : (q : DriverQueue) (b : PostedBuffer) (locations : List ℕ) → length b.lengths ≤ MOST_PIECES → length (chain_puts q b locations) ≤ MOST_PIECES
count_of_chain q b locations few =
    let location : ℕ = data_address q.base (head_of locations) in
    count_of_either b.indirect (indirect_puts q b (head_of locations)) (direct_puts q b locations) MOST_PIECES (omega arith)
    (omega (arith, few, count_of_puts q.base locations (descriptors_of location b.readable_pieces b.lengths (drop 1 locations)), length-descriptors_of location b.readable_pieces b.lengths (drop 1 locations)))

count_of_post : (q : DriverQueue) (b : PostedBuffer) (locations : List ℕ) → length b.lengths ≤ MOST_PIECES → length (post_puts q b locations) ≤ 11
count_of_post q b locations few =
    let data1 : List AccessValue = data_puts (data_address q.base (head_of locations)) b.readable in
    let chain : List AccessValue = chain_puts q b locations in
    let available : List AccessValue = available_puts q (head_of locations) in
    omega (arith, length-append (data1 ++ chain) available, length-append data1 chain, count_of_data (data_address q.base (head_of locations)) b.readable, count_of_chain q b locations few)

-- posting a buffer
pub post_is_short : (q : DriverQueue) (b : PostedBuffer) → IsBufferWithin b → CountsAtMost longest_access_line (post_program split_post_accesses split_posted q b) (11 * LINE_SPARE)
post_is_short q b within =
    let accesses : List AccessValue = split_post_accesses q b in
    let done : Program (Bool × DriverQueue) = Mark (End (true, split_posted q b)) in
    counts_either longest_access_line (nat_lt (free_slots q) (slots_of b)) (End (false, q)) (do_all accesses done) (11 * LINE_SPARE) tt
    (counts_more longest_access_line (do_all accesses done) (counts_of_all longest_access_line accesses + 0) (11 * LINE_SPARE) (counts_do_all longest_access_line accesses done 0 tt)
    (omega (arith, lines_at_most accesses, count_of_post q b (descriptors_for q b) within.few)))

-- a mark counts nothing
mark_counts : {X : Type 0} (marked : Bool) (next : Program X) (most : ℕ) → CountsAtMost longest_access_line next most → CountsAtMost longest_access_line (mark_unless marked next) most
mark_counts true next most bound = bound
mark_counts false next most bound = bound

-- the end of a reap: the next signal is asked for at most
end_is_short : (q : DriverQueue) (u : Unreaped) (r : ReapedValue) → CountsAtMost longest_access_line (reap_end split_reaped used_event_put q u r) LINE_SPARE
end_is_short q u r =
    let after : DriverQueue = split_reaped q u in
    let ended : Program (Option ReapedValue × DriverQueue) = End (Some r, after) in
    counts_either longest_access_line after.cfg.event_idx (Do (used_event_put after) (λ _ _. Mark ended)) ended LINE_SPARE (omega arith, λ _ _. tt) tt

nothing_is_short : (q : DriverQueue) → CountsAtMost longest_access_line (reap_nothing q) (2 * LINE_SPARE)
nothing_is_short q = mark_counts (if q.cfg.event_idx then false else true) (End (None, q)) (2 * LINE_SPARE) tt

-- the written bytes are got before
bytes_are_short : (q : DriverQueue) (u : Unreaped) (len : ℕ) → CountsAtMost longest_access_line (reap_bytes split_reaped used_event_put q u len) (2 * LINE_SPARE)
bytes_are_short q u len =
    let none : ReapedValue = record { tag = u.tag; len = 0; bytes = [] } in
    let some : List ℕ → ReapedValue = λ bytes. record { tag = u.tag; len = len; bytes = bytes_or_zeros len bytes } in
    let finish : ReapedValue → Program (Option ReapedValue × DriverQueue) = reap_end split_reaped used_event_put q u in
    counts_either longest_access_line (len == 0) (finish none) (Do (Get (data_address q.base u.id + u.readable) len) (λ _ bytes. finish (some bytes))) (2 * LINE_SPARE)
    (counts_more longest_access_line (finish none) LINE_SPARE (2 * LINE_SPARE) (end_is_short q u none) (omega arith))
    (omega arith, λ _ bytes. end_is_short q u (some bytes))

named_is_short : (q : DriverQueue) (len : ℕ) (o : Option Unreaped) → CountsAtMost longest_access_line (reap_named split_reaped used_event_put q len o) (2 * LINE_SPARE)
named_is_short q len None = nothing_is_short q
named_is_short q len (Some u) =
    counts_either longest_access_line (nat_le len LONGEST_BUFFER) (reap_bytes split_reaped used_event_put q u len) (reap_nothing q) (2 * LINE_SPARE) (bytes_are_short q u len) (nothing_is_short q)

-- the used element is got, and then what it names
abbrev element_program : DriverQueue → Program (Option ReapedValue × DriverQueue)
element_program q =
    Do (Get (device_area q.base + (4 + 8 * (q.used % q.cfg.size))) 8) (λ _ element.
    reap_element q (little_number 4 (drop 4 (bytes_or_zeros 8 element))) (unreaped_with (little_number 4 (bytes_or_zeros 8 element)) q.unreaped))

element_is_short : (q : DriverQueue) → CountsAtMost longest_access_line (element_program q) (3 * LINE_SPARE)
element_is_short q =
    (omega arith, λ _ element. named_is_short q (little_number 4 (drop 4 (bytes_or_zeros 8 element))) (unreaped_with (little_number 4 (bytes_or_zeros 8 element)) q.unreaped))

-- reaping a used buffer
pub reap_is_short : (q : DriverQueue) → CountsAtMost longest_access_line (split_reap_program q) (4 * LINE_SPARE)
reap_is_short q = (
  omega arith,
  λ _ idx.
      counts_either longest_access_line (little_number 2 (bytes_or_zeros 2 idx) == q.used) (Mark (End (None, q))) (mark_unless q.cfg.event_idx (element_program q)) (3 * LINE_SPARE) tt
      (mark_counts q.cfg.event_idx (element_program q) (3 * LINE_SPARE) (element_is_short q)),
)

-- asking for signals, or for none
pub signals_are_short : (q : DriverQueue) (on : Bool) → CountsAtMost longest_access_line (split_signals_program q on) LINE_SPARE
signals_are_short q on = (omega arith, λ _ _. tt)
