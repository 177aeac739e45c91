-- Sent frames that lie one behind the other.
use Rattle.std.proofs.Common.{◌≡◌, ℕ, ◌+◌, ◌≤◌, ◌<◌, List, [], ◌∷◌, ◌++◌, length, take, drop, Bool, true, false, IsTrue, refl, sym, ◌∙◌, ap, arith, length-drop}
use Rattle.std.specs.Prelude.{◌&&◌, nat_le, if◌then◌else◌}
use Rattle.std.proofs.lemmas.Bool.{and_parts, le-leb, leb-true, le-ltb, lt-ltb}
use Rattle.std.proofs.Math.Seq.{drop-append_seam}
use Rattle.std.proofs.lemmas.List.{take_all}
use Rattle.guest_mem.specs.Memory.{part}
use Rattle.guest_mem.proofs.Parts.{part-append_left}
use Rattle.dev_net.specs.declared.sent.SentFrame.{SentFrame}
use Rattle.dev_net.specs.Frames.{sent_frames, are_inside}
use Rattle.dev_net.specs.Network.{with_sent}

-- both tests hold where each does
both : (a b : Bool) → IsTrue a → IsTrue b → IsTrue (a && b)
both true b one two = two
both false b one two = one

-- what lies behind the front is all of the back
part_behind : (xs ys : List ℕ) (start len : ℕ) → start ≡ length xs → len ≡ length ys → part (xs ++ ys) start len ≡ ys
part_behind xs ys start len at long =
    rw at
    (ap (take len) (drop-append_seam xs ys) ∙ take_all len ys (omega arith))

-- frames stay where bytes come behind them, and these are the last frame
pub sent_frames-more : (bytes more : List ℕ) (frames : List SentFrame) (start len : ℕ) → start ≡ length bytes → len ≡ length more → IsTrue (are_inside (length bytes) frames)
    → sent_frames (bytes ++ more) (frames ++ record { start = start; len = len } ∷ []) ≡ sent_frames bytes frames ++ more ∷ []
sent_frames-more bytes more [] start len at long inside = ap (λ (frame : List ℕ). frame ∷ []) (part_behind bytes more start len at long)
sent_frames-more bytes more (g ∷ frames) start len at long inside =
    let (here, rest) = and_parts (nat_le (g.start + g.len) (length bytes)) (are_inside (length bytes) frames) inside in
    let stays : part (bytes ++ more) g.start g.len ≡ part bytes g.start g.len = part-append_left bytes more g.start g.len (leb-true (g.start + g.len) (length bytes) here) in
    ap (λ (frame : List ℕ). frame ∷ sent_frames (bytes ++ more) (frames ++ record { start = start; len = len } ∷ [])) stays
    ∙ ap (λ (others : List (List ℕ)). part bytes g.start g.len ∷ others) (sent_frames-more bytes more frames start len at long rest)

-- and all of them lie among the bytes
pub are_inside-more : (n m : ℕ) (frames : List SentFrame) (start len : ℕ) → n ≤ m → start + len ≤ m → IsTrue (are_inside n frames)
    → IsTrue (are_inside m (frames ++ record { start = start; len = len } ∷ []))
are_inside-more n m [] start len less last inside = both (nat_le (start + len) m) true (le-leb (start + len) m last) refl
are_inside-more n m (g ∷ frames) start len less last inside =
    let (here, rest) = and_parts (nat_le (g.start + g.len) n) (are_inside n frames) inside in
    both (nat_le (g.start + g.len) m) (are_inside m (frames ++ record { start = start; len = len } ∷ []))
    (le-leb (g.start + g.len) m (omega (arith, leb-true (g.start + g.len) n here)))
    (are_inside-more n m frames start len less last rest)

-- a whole header and n bytes behind it are a frame of n bytes
pub with_sent-frame : (sent : List (List ℕ)) (readable : List ℕ) (n : ℕ) → 12 + n ≡ length readable → sent ++ part readable 12 n ∷ [] ≡ with_sent sent readable
with_sent-frame sent readable n long =
    ap (λ (frame : List ℕ). sent ++ frame ∷ []) (take_all n (drop 12 readable) (omega (arith, length-drop 12 readable)))
    ∙ ap (λ (short : Bool). if short then sent else sent ++ drop 12 readable ∷ []) (sym (le-ltb (length readable) 12 (omega arith)))

-- less than a header is none
pub with_sent-short : (sent : List (List ℕ)) (readable : List ℕ) → length readable < 12 → sent ≡ with_sent sent readable
with_sent-short sent readable less = ap (λ (short : Bool). if short then sent else sent ++ drop 12 readable ∷ []) (sym (lt-ltb (length readable) 12 less))
