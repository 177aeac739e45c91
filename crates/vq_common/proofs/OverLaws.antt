-- What is written over bytes that were written before.
use Rattle.std.proofs.Common.{◌≡◌, ℕ, suc, ◌+◌, ◌-◌, ◌≤◌, List, [], ◌∷◌, length, take, drop, Bool, true, false, refl, sym, ◌∙◌, arith, inl, inr, length-take, length-drop}
use Rattle.std.specs.Prelude.{if◌then◌else◌, min}
use Rattle.std.specs.List.{All}
use Rattle.std.proofs.lemmas.Bool.{cases_lt}
use Rattle.std.proofs.lemmas.List.Elements.{All-head, All-tail}
use Rattle.guest_mem.specs.Memory.{Apart, part, put_at}
use Rattle.guest_mem.proofs.Parts.{length-put_at, part-put_at_apart, part-put_at_inside_at}
use Rattle.vq_common.specs.declared.chain.Piece.{Piece}
use Rattle.vq_common.specs.Piece.{scatter}
use Rattle.vq_common.proofs.RuleFacts.{IsInside}
use Rattle.vq_common.proofs.PieceLaws.{length-scatter}

-- what holds by a test
by_test : {A : Type 0} (P : A → Type 0) (w : Bool) (a b : A) → (w ≡ true → P a) → (w ≡ false → P b) → P (if w then a else b)
by_test P true a b yes_case no_case = yes_case refl
by_test P false a b yes_case no_case = no_case refl

same_by_test : {A : Type 0} (w : Bool) (a b c d : A) → (w ≡ true → a ≡ c) → (w ≡ false → b ≡ d) → (if w then a else b) ≡ (if w then c else d)
same_by_test true a b c d yes_case no_case = yes_case refl
same_by_test false a b c d yes_case no_case = no_case refl

-- the byte at an address is not among those that n bytes are written over
abbrev IsLeft : List Piece → ℕ → ℕ → Type 0
IsLeft [] n at = Unit {0}
IsLeft (p ∷ ps) n at = (p.write ≡ true → Apart p.addr (min p.len n) at 1 × IsLeft ps (n - p.len) at) × (p.write ≡ false → IsLeft ps n at)

-- fewer bytes leave it too
left_by_fewer : (ps : List Piece) (k n at : ℕ) → k ≤ n → IsLeft ps n at → IsLeft ps k at
left_by_fewer [] k n at le left = tt
left_by_fewer (p ∷ ps) k n at le left = (
  λ w. let (apart, rest) = left.0 w in
      (elim apart [ inl behind ↦ inl (omega arith) | inr before ↦ inr (omega arith) ], left_by_fewer ps (k - p.len) (n - p.len) at (omega arith) rest),
  λ w. left_by_fewer ps k n at le (left.1 w),
)

-- how many bytes are written over a piece
written_len : (n : ℕ) (bytes : List ℕ) → length (take n bytes) ≡ min n (length bytes)
written_len n bytes = length-take n bytes

length-over : (mem : List ℕ) (p : Piece) (bytes : List ℕ) → p.addr + p.len ≤ length mem → length (put_at mem p.addr (take p.len bytes)) ≡ length mem
length-over mem p bytes inside = length-put_at mem p.addr (take p.len bytes) (omega (arith, written_len p.len bytes))

-- a byte apart from what is written over a piece stays
piece_left : (mem : List ℕ) (p : Piece) (bytes : List ℕ) (at : ℕ) → p.addr + p.len ≤ length mem → Apart p.addr (min p.len (length bytes)) at 1
    → part (put_at mem p.addr (take p.len bytes)) at 1 ≡ part mem at 1
piece_left mem p bytes at inside apart =
    let long : length (take p.len bytes) ≡ min p.len (length bytes) = written_len p.len bytes in
    part-put_at_apart mem p.addr (take p.len bytes) at 1 (omega arith) (rw long apart)

-- so does one that none of the pieces is written over
scatter_left : (mem : List ℕ) (ps : List Piece) (bytes : List ℕ) (at : ℕ) → All (IsInside (length mem)) ps → IsLeft ps (length bytes) at → part (scatter mem ps bytes) at 1 ≡ part mem at 1
scatter_left mem [] bytes at inside left = refl
scatter_left mem (p ∷ ps) bytes at inside left =
    let here : p.addr + p.len ≤ length mem = All-head (IsInside (length mem)) p ps inside in
    let others : All (IsInside (length mem)) ps = All-tail (IsInside (length mem)) p ps inside in
    by_test (λ (m : List ℕ). part m at 1 ≡ part mem at 1) p.write (scatter (put_at mem p.addr (take p.len bytes)) ps (drop p.len bytes)) (scatter mem ps bytes)
    (λ w. let (apart, rest) = left.0 w in
    scatter_left (put_at mem p.addr (take p.len bytes)) ps (drop p.len bytes) at (rw (length-over mem p bytes here) others) (rw (length-drop p.len bytes) rest)
    ∙ piece_left mem p bytes at here apart)
    (λ w. scatter_left mem ps bytes at others (left.1 w))

-- memories with the same byte at each address are the same
same_bytes : (a b : List ℕ) → length a ≡ length b → ((at : ℕ) → part a at 1 ≡ part b at 1) → a ≡ b
same_bytes [] [] long each = refl
same_bytes [] (y ∷ b) long each = absurd (omega arith)
same_bytes (x ∷ a) [] long each = absurd (omega arith)
same_bytes (x ∷ a) (y ∷ b) long each =
    let rest : a ≡ b = same_bytes a b (omega arith) (λ at. each (suc at)) in
    let first : x ∷ [] ≡ y ∷ [] = each 0 in
    cc

-- memories that differ at most where bytes are written over a piece are the same behind it but for the other pieces
piece_over : (a b : List ℕ) (p : Piece) (bytes : List ℕ) (at : ℕ) → length a ≡ length b → p.addr + p.len ≤ length a
    → (Apart p.addr (min p.len (length bytes)) at 1 → part a at 1 ≡ part b at 1)
    → part (put_at a p.addr (take p.len bytes)) at 1 ≡ part (put_at b p.addr (take p.len bytes)) at 1
piece_over a b p bytes at long inside same =
    let some : length (take p.len bytes) ≡ min p.len (length bytes) = written_len p.len bytes in
    let within : p.addr + p.len ≤ length b = omega arith in
    let apart : Apart p.addr (min p.len (length bytes)) at 1 → part (put_at a p.addr (take p.len bytes)) at 1 ≡ part (put_at b p.addr (take p.len bytes)) at 1 =
    λ away. piece_left a p bytes at inside away ∙ same away ∙ sym (piece_left b p bytes at within away) in
    elim (cases_lt at p.addr) [
      | inl before ↦ apart (inr (omega arith))
      | inr low ↦ elim (cases_lt at (p.addr + min p.len (length bytes))) [
        | inl high ↦
            let location : at ≡ p.addr + (at - p.addr) = omega arith in
            part-put_at_inside_at a p.addr (take p.len bytes) (at - p.addr) 1 at location (omega arith) (omega arith)
            ∙ sym (part-put_at_inside_at b p.addr (take p.len bytes) (at - p.addr) 1 at location (omega arith) (omega arith))
        | inr behind ↦ apart (inl behind)
      ]
    ]

-- memories that differ at most where bytes are written are the same afterwards
same_after : (a b : List ℕ) (ps : List Piece) (bytes : List ℕ) → length a ≡ length b → All (IsInside (length a)) ps
    → ((at : ℕ) → IsLeft ps (length bytes) at → part a at 1 ≡ part b at 1) → scatter a ps bytes ≡ scatter b ps bytes
same_after a b [] bytes long inside same = same_bytes a b long (λ at. same at tt)
same_after a b (p ∷ ps) bytes long inside same =
    let here : p.addr + p.len ≤ length a = All-head (IsInside (length a)) p ps inside in
    let others : All (IsInside (length a)) ps = All-tail (IsInside (length a)) p ps inside in
    let a1 : List ℕ = put_at a p.addr (take p.len bytes) in
    let b1 : List ℕ = put_at b p.addr (take p.len bytes) in
    let long_a : length a1 ≡ length a = length-over a p bytes here in
    let long_b : length b1 ≡ length b = length-over b p bytes (omega arith) in
    same_by_test p.write (scatter a1 ps (drop p.len bytes)) (scatter a ps bytes) (scatter b1 ps (drop p.len bytes)) (scatter b ps bytes)
    (λ w. same_after a1 b1 ps (drop p.len bytes) (omega arith) (rw long_a others)
    (λ at left. piece_over a b p bytes at long here
    (λ away. same at (λ v. (away, rw (length-drop p.len bytes) at left), λ v. absurd (let e : true ≡ false = sym w ∙ v in cc)))))
    (λ w. same_after a b ps bytes long others (λ at left. same at (λ v. absurd (let e : true ≡ false = sym v ∙ w in cc), λ v. left)))

-- bytes that are written over as many, or fewer, are all that is seen of both, also where pieces overlap
pub scatter_over : (mem : List ℕ) (ps : List Piece) (xs ys : List ℕ) → All (IsInside (length mem)) ps → length xs ≤ length ys → scatter (scatter mem ps xs) ps ys ≡ scatter mem ps ys
scatter_over mem ps xs ys inside fewer =
    let long : length (scatter mem ps xs) ≡ length mem = length-scatter mem ps xs inside in
    same_after (scatter mem ps xs) mem ps ys long (rw long inside)
    (λ at left. scatter_left mem ps xs at inside (left_by_fewer ps (length xs) (length ys) at fewer left))
