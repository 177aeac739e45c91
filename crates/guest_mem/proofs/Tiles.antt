-- A list laid out in tiles of one size: a function gives the tile of each number.
use Rattle.std.proofs.Common.{◌≡◌, ◌≢◌, ℕ, zero, suc, ◌+◌, ◌*◌, ◌<◌, List, [], ◌∷◌, ◌++◌, length, get_or, All, refl, sym, ◌∙◌, ap, arith, length-append}
use Rattle.std.specs.List.{flat_map}
use Rattle.std.proofs.Math.ListN.{set}
use Rattle.std.proofs.lemmas.List.{take_at}
use Rattle.std.proofs.lemmas.List.Elements.{All-head, All-tail}
use Rattle.guest_mem.specs.Memory.{part, put_at}
use Rattle.guest_mem.proofs.Parts.{part-append_right}
use Rattle.guest_mem.proofs.Puts.{put_at-front, put_at-append_right}

module _ {A : Type 0} (size : ℕ) (tile : ℕ → List A) where
  -- the tiles of a list of numbers have the size
  abbrev pub HaveSize : List ℕ → Type 0
  HaveSize numbers = All (λ n. length (tile n) ≡ size) numbers

  -- as many items as the tiles have together
  pub length-tiles : (numbers : List ℕ) → HaveSize numbers → length (flat_map tile numbers) ≡ length numbers * size
  length-tiles [] sizes = omega arith
  length-tiles (n ∷ numbers) sizes =
      let first : length (tile n) ≡ size = All-head (λ n. length (tile n) ≡ size) n numbers sizes in
      let rest = length-tiles numbers (All-tail (λ n. length (tile n) ≡ size) n numbers sizes) in
      omega (arith, length-append (tile n) (flat_map tile numbers), rest, first)

  -- the tile at a location
  pub tile_at : (numbers : List ℕ) (i : ℕ) → HaveSize numbers → i < length numbers → part (flat_map tile numbers) (i * size) size ≡ tile (get_or numbers i 0)
  tile_at [] i sizes inside = absurd (omega arith)
  tile_at (n ∷ numbers) zero sizes inside =
      let start : 0 * size ≡ 0 = omega arith in
      ap (λ (k : ℕ). part (tile n ++ flat_map tile numbers) k size) start
      ∙ take_at (tile n) (flat_map tile numbers) size (All-head (λ n. length (tile n) ≡ size) n numbers sizes)
  tile_at (n ∷ numbers) (suc i) sizes inside =
      let next : suc i * size ≡ size + i * size = grind arith in
      ap (λ (k : ℕ). part (tile n ++ flat_map tile numbers) k size) next
      ∙ part-append_right (tile n) (flat_map tile numbers) size (i * size) size (All-head (λ n. length (tile n) ≡ size) n numbers sizes)
      ∙ tile_at numbers i (All-tail (λ n. length (tile n) ≡ size) n numbers sizes) (omega arith)

module _ {A : Type 0} (size : ℕ) (old new : ℕ → List A) where
  -- other tiles, the same at each number of the list
  pub tiles_same : (numbers : List ℕ) → ((j : ℕ) → j < length numbers → new (get_or numbers j 0) ≡ old (get_or numbers j 0)) → flat_map new numbers ≡ flat_map old numbers
  tiles_same [] same = refl
  tiles_same (n ∷ numbers) same =
      let first : new n ≡ old n = same 0 (omega arith) in
      let rest : flat_map new numbers ≡ flat_map old numbers = tiles_same numbers (λ j inside. same (suc j) (omega arith)) in
      cc

  -- another number at one location, and tiles that are the same at the numbers of the other locations
  pub tiles_changed : (numbers : List ℕ) (i n : ℕ) → HaveSize size old numbers → length (new n) ≡ size → i < length numbers
      → ((j : ℕ) → j < length numbers → j ≢ i → new (get_or numbers j 0) ≡ old (get_or numbers j 0))
      → flat_map new (set numbers i n) ≡ put_at (flat_map old numbers) (i * size) (new n)
  tiles_changed [] i n sizes fits inside same = absurd (omega arith)
  tiles_changed (m ∷ numbers) zero n sizes fits inside same =
      let first : length (old m) ≡ size = All-head (λ n. length (old n) ≡ size) m numbers sizes in
      let start : 0 ≡ 0 * size = omega arith in
      ap (λ (w : List A). new n ++ w) (tiles_same numbers (λ j within. same (suc j) (omega arith) (λ e. absurd (omega arith))))
      ∙ sym (put_at-front (old m) (flat_map old numbers) (new n) (fits ∙ sym first))
      ∙ ap (λ (k : ℕ). put_at (old m ++ flat_map old numbers) k (new n)) start
  tiles_changed (m ∷ numbers) (suc i) n sizes fits inside same =
      let first : length (old m) ≡ size = All-head (λ n. length (old n) ≡ size) m numbers sizes in
      let next : size + i * size ≡ suc i * size = grind arith in
      ap (λ (w : List A). w ++ flat_map new (set numbers i n)) (same 0 (omega arith) (λ e. absurd (omega arith)))
      ∙ ap (λ (w : List A). old m ++ w) (tiles_changed numbers i n (All-tail (λ n. length (old n) ≡ size) m numbers sizes) fits (omega arith) (λ j within differs. same (suc j) (omega arith) (λ e. differs (omega arith))))
      ∙ sym (put_at-append_right (old m) (flat_map old numbers) size (i * size) (new n) first)
      ∙ ap (λ (k : ℕ). put_at (old m ++ flat_map old numbers) k (new n)) next
