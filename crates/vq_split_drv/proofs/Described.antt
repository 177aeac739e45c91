-- The descriptors of a buffer's pieces, one after the other.
use Rattle.std.proofs.Common.{◌≡◌, ℕ, zero, suc, ◌+◌, ◌-◌, ◌*◌, ◌<◌, List, [], ◌∷◌, ◌++◌, length, get_or, drop, Option, Some, None, ltb, refl, sym, ◌∙◌, ap, inl, inr, subst, arith}
use Rattle.std.specs.List.{slice_get}
use Rattle.std.proofs.Math.Seq.{drop-nil}
use Rattle.std.proofs.lemmas.Bool.{cases_lt, cond-true, cond-false, le-ltb, lt-ltb}
use Rattle.std.proofs.lemmas.List.{drop-drop, drop_all, drop_more}
use Rattle.vt_types.specs.Access.{AccessValue, Put, pages_touched}
use Rattle.vt_types.specs.declared.access.Answer.{Answer}
use Rattle.vt_types.specs.Program.{Does, cost_of_all}
use Rattle.port_access.proofs.InOrder.{does_then}
use Rattle.vq_common.specs.declared.descriptor.Descriptor.{Descriptor}
use Rattle.vq_common.specs.Descriptor.{descriptor_bytes}
use Rattle.vq_posted.specs.Free.{head_of, numbers}
use Rattle.vq_split_drv.specs.Post.{descriptor_of, descriptors_of, location_after, puts_of, table_bytes}

-- the location that follows, where another piece does
abbrev pub next_of : List ℕ → List ℕ → Option ℕ
next_of [] locations = None
next_of (len ∷ rest) locations = Some (head_of locations)

-- the first piece, and then the others
pub first_described : (addr readable len : ℕ) (rest locations : List ℕ)
    → descriptors_of addr readable (len ∷ rest) locations ≡ descriptor_of addr readable len (next_of rest locations) ∷ descriptors_of (addr + len) (readable - 1) rest (drop 1 locations)
first_described addr readable len [] locations = refl
first_described addr readable len (more ∷ rest) locations = refl

-- it is the next location, where there are as many locations as pieces
next_of-at : (lengths locations : List ℕ) (i : ℕ) → length locations ≡ length lengths → next_of (drop i lengths) (drop i locations) ≡ slice_get locations i
next_of-at [] [] i same = ap (λ (ls : List ℕ). next_of ls (drop i [])) (drop-nil i)
next_of-at [] (p ∷ locations) i same = absurd (omega arith)
next_of-at (len ∷ lengths) [] i same = absurd (omega arith)
next_of-at (len ∷ lengths) (p ∷ locations) zero same = refl
next_of-at (len ∷ lengths) (p ∷ locations) (suc i) same = next_of-at lengths locations i (omega arith)

-- it is the next number, in a table
next_of-number : (lengths locations : List ℕ) (i : ℕ) → next_of (drop (i + 1) lengths) ((i + 1) ∷ locations) ≡ location_after i (length lengths)
next_of-number lengths locations i =
    elim (cases_lt (i + 1) (length lengths)) [
      | inl h ↦ ap (λ (ls : List ℕ). next_of ls ((i + 1) ∷ locations)) (drop_more lengths (i + 1) 0 h) ∙ sym (cond-true (ltb (i + 1) (length lengths)) (Some (i + 1)) None (lt-ltb (i + 1) (length lengths) h))
      | inr h ↦ ap (λ (ls : List ℕ). next_of ls ((i + 1) ∷ locations)) (drop_all (i + 1) lengths h) ∙ sym (cond-false (ltb (i + 1) (length lengths)) (Some (i + 1)) None (le-ltb (i + 1) (length lengths) h))
    ]

-- the i-th descriptor is put, and then the others
pub puts_next : (base addr readable : ℕ) (lengths locations : List ℕ) (i : ℕ) → length locations ≡ length lengths → i < length lengths
    → puts_of base (drop i locations) (descriptors_of addr readable (drop i lengths) (drop (i + 1) locations))
    ≡ Put (base + 16 * get_or locations i 0) (descriptor_bytes (descriptor_of addr readable (get_or lengths i 0) (slice_get locations (i + 1))))
    ∷ puts_of base (drop (i + 1) locations) (descriptors_of (addr + get_or lengths i 0) (readable - 1) (drop (i + 1) lengths) (drop (i + 1 + 1) locations))
puts_next base addr readable lengths locations i same less =
    let p : ℕ = get_or locations i 0 in
    let ps : List ℕ = drop (i + 1) locations in
    let len : ℕ = get_or lengths i 0 in
    let rest : List ℕ = drop (i + 1) lengths in
    ap (λ (ns : List ℕ). puts_of base ns (descriptors_of addr readable (drop i lengths) ps)) (drop_more locations i 0 (omega arith))
    ∙ ap (λ (ls : List ℕ). puts_of base (p ∷ ps) (descriptors_of addr readable ls ps)) (drop_more lengths i 0 less)
    ∙ ap (puts_of base (p ∷ ps)) (first_described addr readable len rest ps)
    ∙ ap (λ (o : Option ℕ). Put (base + 16 * p) (descriptor_bytes (descriptor_of addr readable len o)) ∷ puts_of base ps (descriptors_of (addr + len) (readable - 1) rest (drop 1 ps))) (next_of-at lengths locations (i + 1) same)
    ∙ ap (λ (ns : List ℕ). Put (base + 16 * p) (descriptor_bytes (descriptor_of addr readable len (slice_get locations (i + 1)))) ∷ puts_of base ps (descriptors_of (addr + len) (readable - 1) rest ns)) (drop-drop 1 (i + 1) locations)

-- the i-th descriptor of a table, and then the others
pub table_next : (addr readable : ℕ) (lengths : List ℕ) (i : ℕ) → i < length lengths
    → table_bytes (descriptors_of addr readable (drop i lengths) (numbers (i + 1) (length lengths - i)))
    ≡ descriptor_bytes (descriptor_of addr readable (get_or lengths i 0) (location_after i (length lengths)))
    ++ table_bytes (descriptors_of (addr + get_or lengths i 0) (readable - 1) (drop (i + 1) lengths) (numbers (i + 1 + 1) (length lengths - (i + 1))))
table_next addr readable lengths i less =
    let n : ℕ = length lengths in
    let len : ℕ = get_or lengths i 0 in
    let rest : List ℕ = drop (i + 1) lengths in
    let more : List ℕ = numbers (i + 1 + 1) (n - (i + 1)) in
    let count : n - i ≡ suc (n - (i + 1)) = omega arith in
    ap (λ (k : ℕ). table_bytes (descriptors_of addr readable (drop i lengths) (numbers (i + 1) k))) count
    ∙ ap (λ (ls : List ℕ). table_bytes (descriptors_of addr readable ls ((i + 1) ∷ more))) (drop_more lengths i 0 less)
    ∙ ap table_bytes (first_described addr readable len rest ((i + 1) ∷ more))
    ∙ ap (λ (o : Option ℕ). descriptor_bytes (descriptor_of addr readable len o) ++ table_bytes (descriptors_of (addr + len) (readable - 1) rest more)) (next_of-number lengths more i)

-- the same puts, of pieces from an equal address on
pub puts_from : (base : ℕ) (lengths locations more : List ℕ) (a b r s : ℕ) → a ≡ b → r ≡ s → puts_of base locations (descriptors_of a r lengths more) ≡ puts_of base locations (descriptors_of b s lengths more)
puts_from base lengths locations more a b r s e f =
    ap (λ (n : ℕ). puts_of base locations (descriptors_of n r lengths more)) e ∙ ap (λ (n : ℕ). puts_of base locations (descriptors_of b n lengths more)) f

-- the same descriptor, of an equal length and next location
pub described_as : (addr readable m n : ℕ) (o p : Option ℕ) (d : Descriptor) → d ≡ descriptor_of addr readable m o → m ≡ n → o ≡ p → d ≡ descriptor_of addr readable n p
described_as addr readable m n o p d is e f = is ∙ ap (λ (k : ℕ). descriptor_of addr readable k o) e ∙ ap (descriptor_of addr readable n) f

-- what these puts cost
pub puts_cost : (base addr readable : ℕ) (lengths locations : List ℕ) (i p : ℕ) (bytes : List ℕ) → length locations ≡ length lengths → i < length lengths → p ≡ get_or locations i 0 → length bytes ≡ 16
    → cost_of_all (puts_of base (drop i locations) (descriptors_of addr readable (drop i lengths) (drop (i + 1) locations)))
    ≡ pages_touched (base + 16 * p) (length bytes) + cost_of_all (puts_of base (drop (i + 1) locations) (descriptors_of (addr + get_or lengths i 0) (readable - 1) (drop (i + 1) lengths) (drop (i + 1 + 1) locations)))
puts_cost base addr readable lengths locations i p bytes same less e long = rw (e, long) (ap cost_of_all (puts_next base addr readable lengths locations i same less))

module _ {P : Type 0} (step : P → AccessValue → Answer → List ℕ → List ℕ → P → Type 0) (marking : P → P → Type 0) where
  -- the i-th descriptor is put, and then the others
  pub puts_does : (base addr readable : ℕ) (lengths locations : List ℕ) (i n : ℕ) (d : Descriptor) (bytes : List ℕ) (p mid p2 : P) → length locations ≡ length lengths → i < length lengths
      → n ≡ get_or locations i 0 → bytes ≡ descriptor_bytes d → d ≡ descriptor_of addr readable (get_or lengths i 0) (slice_get locations (i + 1))
      → Does step marking (Put (base + 16 * n) bytes ∷ []) p mid
      → Does step marking (puts_of base (drop (i + 1) locations) (descriptors_of (addr + get_or lengths i 0) (readable - 1) (drop (i + 1) lengths) (drop (i + 1 + 1) locations))) mid p2
      → Does step marking (puts_of base (drop i locations) (descriptors_of addr readable (drop i lengths) (drop (i + 1) locations))) p p2
  puts_does base addr readable lengths locations i n d bytes p mid p2 same less e f h done more =
      let rest : List AccessValue = puts_of base (drop (i + 1) locations) (descriptors_of (addr + get_or lengths i 0) (readable - 1) (drop (i + 1) lengths) (drop (i + 1 + 1) locations)) in
      let whole : Put (base + 16 * n) bytes ∷ rest ≡ puts_of base (drop i locations) (descriptors_of addr readable (drop i lengths) (drop (i + 1) locations))
      = ap (λ (m : ℕ). Put (base + 16 * m) bytes ∷ rest) e
      ∙ ap (λ (ys : List ℕ). Put (base + 16 * get_or locations i 0) ys ∷ rest) (f ∙ ap descriptor_bytes h)
      ∙ sym (puts_next base addr readable lengths locations i same less)
      in
      subst (λ (all : List AccessValue). Does step marking all p p2) whole (does_then step marking (Put (base + 16 * n) bytes ∷ []) rest p mid p2 done more)
