-- The descriptors of a buffer's pieces, one after the other.
use Rattle.std.proofs.Common.{◌≡◌, ℕ, ◌+◌, ◌-◌, ◌*◌, ◌<◌, ◌≤◌, List, [], ◌∷◌, ◌++◌, length, get_or, drop, Bool, not, eqb, ltb, refl, sym, ◌∙◌, ap, inl, inr, subst, arith, add-zero}
use Rattle.std.proofs.lemmas.Bool.{cases_lt, le-ltb, lt-ltb, ne_eqb}
use Rattle.std.proofs.lemmas.List.{drop_all, drop_more}
use Rattle.vt_types.specs.Access.{AccessValue, Put, pages_touched}
use Rattle.vt_types.specs.declared.access.Answer.{Answer}
use Rattle.vt_types.specs.Program.{Does, cost_of_all}
use Rattle.vt_types.proofs.Programs.{cost_of_all-append}
use Rattle.port_access.proofs.InOrder.{does_put_at, does_then}
use Rattle.vq_common.specs.declared.chain.Piece.{Piece}
use Rattle.vq_common.specs.declared.position.Position.{Position}
use Rattle.vq_common.specs.PackedDescriptor.{packed_descriptor_bytes}
use Rattle.vq_common.specs.Piece.{piece_at, pieces_from}
use Rattle.vq_common.specs.Position.{position_after}
use Rattle.vq_common.proofs.PieceLaws.{pieces_from-next}
use Rattle.vq_packed_drv.specs.Post.{has_more, head_last, packed_table_bytes, ring_descriptor, ring_puts, table_descriptor}

-- the i-th descriptor of a table, and then the others
pub table_next : (addr readable : ℕ) (lengths : List ℕ) (i : ℕ) → i < length lengths
    → packed_table_bytes (pieces_from addr readable (drop i lengths))
    ≡ packed_descriptor_bytes (table_descriptor (piece_at addr readable (get_or lengths i 0)))
    ++ packed_table_bytes (pieces_from (addr + get_or lengths i 0) (readable - 1) (drop (i + 1) lengths))
table_next addr readable lengths i less = ap packed_table_bytes (pieces_from-next addr readable lengths i less)

-- more pieces follow the i-th where it is not the last
pub has_more-at : (addr readable : ℕ) (lengths : List ℕ) (i : ℕ) → has_more (pieces_from addr readable (drop (i + 1) lengths)) ≡ ltb (i + 1) (length lengths)
has_more-at addr readable lengths i =
    elim (cases_lt (i + 1) (length lengths)) [
      | inl h ↦ ap (λ (ls : List ℕ). has_more (pieces_from addr readable ls)) (drop_more lengths (i + 1) 0 h) ∙ sym (lt-ltb (i + 1) (length lengths) h)
      | inr h ↦ ap (λ (ls : List ℕ). has_more (pieces_from addr readable ls)) (drop_all (i + 1) lengths h) ∙ sym (le-ltb (i + 1) (length lengths) h)
    ]

-- the same puts, from equal values on
pub ring_puts-same : (base size : ℕ) (lengths : List ℕ) (id id2 a b r s : ℕ) (position position2 : Position) → id ≡ id2 → position ≡ position2 → a ≡ b → r ≡ s
    → ring_puts base size id position (pieces_from a r lengths) ≡ ring_puts base size id2 position2 (pieces_from b s lengths)
ring_puts-same base size lengths id id2 a b r s position position2 e f h k =
    ap (λ (n : ℕ). ring_puts base size n position (pieces_from a r lengths)) e
    ∙ ap (λ (p : Position). ring_puts base size id2 p (pieces_from a r lengths)) f
    ∙ ap (λ (n : ℕ). ring_puts base size id2 position2 (pieces_from n r lengths)) h
    ∙ ap (λ (n : ℕ). ring_puts base size id2 position2 (pieces_from b n lengths)) k

-- the i-th descriptor is put, and then the others
pub ring_puts-next : (base size id : ℕ) (position : Position) (addr readable : ℕ) (lengths : List ℕ) (i : ℕ) → i < length lengths
    → ring_puts base size id position (pieces_from addr readable (drop i lengths))
    ≡ Put (base + 16 * position.location) (packed_descriptor_bytes (ring_descriptor id position.wrap (ltb (i + 1) (length lengths)) (piece_at addr readable (get_or lengths i 0))))
    ∷ ring_puts base size id (position_after size position 1) (pieces_from (addr + get_or lengths i 0) (readable - 1) (drop (i + 1) lengths))
ring_puts-next base size id position addr readable lengths i less =
    let rest : List Piece = pieces_from (addr + get_or lengths i 0) (readable - 1) (drop (i + 1) lengths) in
    ap (ring_puts base size id position) (pieces_from-next addr readable lengths i less)
    ∙ ap (λ (more : Bool). Put (base + 16 * position.location) (packed_descriptor_bytes (ring_descriptor id position.wrap more (piece_at addr readable (get_or lengths i 0)))) ∷ ring_puts base size id (position_after size position 1) rest)
    (has_more-at (addr + get_or lengths i 0) (readable - 1) lengths i)

-- what these puts cost
pub ring_puts-cost : (base size id : ℕ) (position : Position) (addr readable : ℕ) (lengths : List ℕ) (i location : ℕ) (bytes : List ℕ) → i < length lengths
    → location ≡ base + 16 * position.location → length bytes ≡ 16
    → cost_of_all (ring_puts base size id position (pieces_from addr readable (drop i lengths)))
    ≡ pages_touched location (length bytes) + cost_of_all (ring_puts base size id (position_after size position 1) (pieces_from (addr + get_or lengths i 0) (readable - 1) (drop (i + 1) lengths)))
ring_puts-cost base size id position addr readable lengths i location bytes less e long =
    rw (e, long) (ap cost_of_all (ring_puts-next base size id position addr readable lengths i less))

-- more pieces follow where there are more lengths
has_more-by_length : (addr readable : ℕ) (lengths : List ℕ) → has_more (pieces_from addr readable lengths) ≡ not (eqb (length lengths) 0)
has_more-by_length addr readable [] = refl
has_more-by_length addr readable (len ∷ rest) = ap not (sym (ne_eqb (length (len ∷ rest)) 0 (λ e. absurd (omega (arith, e)))))

-- the descriptors after the head, and then the head
pub direct_next : (base size id : ℕ) (position : Position) (addr readable : ℕ) (lengths : List ℕ) → 1 ≤ length lengths
    → head_last (ring_puts base size id position (pieces_from addr readable lengths))
    ≡ ring_puts base size id (position_after size position 1) (pieces_from (addr + get_or lengths 0 0) (readable - 1) (drop 1 lengths))
    ++ Put (base + 16 * position.location) (packed_descriptor_bytes (ring_descriptor id position.wrap (not (eqb (length (drop 1 lengths)) 0)) (piece_at addr readable (get_or lengths 0 0)))) ∷ []
direct_next base size id position addr readable [] some = absurd (omega (arith, some))
direct_next base size id position addr readable (len ∷ rest) some =
    ap (λ (more : Bool). ring_puts base size id (position_after size position 1) (pieces_from (addr + len) (readable - 1) rest) ++ Put (base + 16 * position.location) (packed_descriptor_bytes (ring_descriptor id position.wrap more (piece_at addr readable len))) ∷ [])
    (has_more-by_length (addr + len) (readable - 1) rest)

-- what a buffer's own descriptors cost
pub direct_cost : (base size id : ℕ) (position : Position) (addr readable : ℕ) (lengths : List ℕ) → 1 ≤ length lengths
    → cost_of_all (head_last (ring_puts base size id position (pieces_from addr readable lengths)))
    ≡ cost_of_all (ring_puts base size id (position_after size position 1) (pieces_from (addr + get_or lengths 0 0) (readable - 1) (drop 1 lengths))) + pages_touched (base + 16 * position.location) 16
direct_cost base size id position addr readable lengths some =
    let others : List AccessValue = ring_puts base size id (position_after size position 1) (pieces_from (addr + get_or lengths 0 0) (readable - 1) (drop 1 lengths)) in
    let head : List ℕ = packed_descriptor_bytes (ring_descriptor id position.wrap (not (eqb (length (drop 1 lengths)) 0)) (piece_at addr readable (get_or lengths 0 0))) in
    ap cost_of_all (direct_next base size id position addr readable lengths some)
    ∙ cost_of_all-append others (Put (base + 16 * position.location) head ∷ [])
    ∙ ap (λ (n : ℕ). cost_of_all others + n) (add-zero (pages_touched (base + 16 * position.location) 16))

-- what a put of 16 bytes costs
pub put_cost : (location at : ℕ) (bytes : List ℕ) → location ≡ at → length bytes ≡ 16 → pages_touched location (length bytes) ≡ pages_touched at 16
put_cost location at bytes e long = rw (e, long) refl

module _ {P : Type 0} (step : P → AccessValue → Answer → List ℕ → List ℕ → P → Type 0) (marking : P → P → Type 0) where
  -- the i-th descriptor is put, and then the others
  pub ring_puts-does : (base size id : ℕ) (position : Position) (addr readable : ℕ) (lengths : List ℕ) (i location : ℕ) (bytes : List ℕ) (p mid p2 : P) → i < length lengths
      → location ≡ base + 16 * position.location → bytes ≡ packed_descriptor_bytes (ring_descriptor id position.wrap (ltb (i + 1) (length lengths)) (piece_at addr readable (get_or lengths i 0)))
      → Does step marking (Put location bytes ∷ []) p mid
      → Does step marking (ring_puts base size id (position_after size position 1) (pieces_from (addr + get_or lengths i 0) (readable - 1) (drop (i + 1) lengths))) mid p2
      → Does step marking (ring_puts base size id position (pieces_from addr readable (drop i lengths))) p p2
  ring_puts-does base size id position addr readable lengths i location bytes p mid p2 less e f done more =
      let rest : List AccessValue = ring_puts base size id (position_after size position 1) (pieces_from (addr + get_or lengths i 0) (readable - 1) (drop (i + 1) lengths)) in
      let whole : Put location bytes ∷ rest ≡ ring_puts base size id position (pieces_from addr readable (drop i lengths))
      = ap (λ (n : ℕ). Put n bytes ∷ rest) e
      ∙ ap (λ (ys : List ℕ). Put (base + 16 * position.location) ys ∷ rest) f
      ∙ sym (ring_puts-next base size id position addr readable lengths i less)
      in
      subst (λ (all : List AccessValue). Does step marking all p p2) whole (does_then step marking (Put location bytes ∷ []) rest p mid p2 done more)

  -- the descriptors after the head are put, and then the head
  pub direct_does : (base size id : ℕ) (position : Position) (addr readable : ℕ) (lengths : List ℕ) (location : ℕ) (bytes : List ℕ) (p mid p2 : P) → 1 ≤ length lengths
      → location ≡ base + 16 * position.location → bytes ≡ packed_descriptor_bytes (ring_descriptor id position.wrap (not (eqb (length (drop 1 lengths)) 0)) (piece_at addr readable (get_or lengths 0 0)))
      → Does step marking (ring_puts base size id (position_after size position 1) (pieces_from (addr + get_or lengths 0 0) (readable - 1) (drop 1 lengths))) p mid
      → Does step marking (Put location bytes ∷ []) mid p2
      → Does step marking (head_last (ring_puts base size id position (pieces_from addr readable lengths))) p p2
  direct_does base size id position addr readable lengths location bytes p mid p2 some e f done last =
      let others : List AccessValue = ring_puts base size id (position_after size position 1) (pieces_from (addr + get_or lengths 0 0) (readable - 1) (drop 1 lengths)) in
      let head : List ℕ = packed_descriptor_bytes (ring_descriptor id position.wrap (not (eqb (length (drop 1 lengths)) 0)) (piece_at addr readable (get_or lengths 0 0))) in
      subst (λ (all : List AccessValue). Does step marking all p p2) (sym (direct_next base size id position addr readable lengths some))
      (does_then step marking others (Put (base + 16 * position.location) head ∷ []) p mid p2 done (does_put_at step marking _ _ _ _ mid p2 e f last))
