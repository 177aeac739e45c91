-- One put after another.
use Rattle.std.proofs.Common.{◌≡◌, ℕ, ◌+◌, ◌≤◌, ◌<◌, List, [], ◌∷◌, ◌++◌, length, take, drop, replicate, inl, inr, sym, ◌∙◌, ap, arith, add-one, append_assoc, length-append, length-take}
use Rattle.std.proofs.lemmas.Grind.{common_steps}
use Rattle.std.proofs.Math.ListN.{set}
use Rattle.std.proofs.lemmas.List.{take-append-drop, take_at, drop-drop, set_split, length-replicate, replicate-append-replicate}
use Rattle.std.proofs.Math.Seq.{take-add, take-append-add, drop-append-add}
use Rattle.guest_mem.specs.Memory.{part, put_at, Apart}
use Rattle.guest_mem.proofs.Parts.{length-part, length-put_at, drop-put_at_behind, part-put_at_same_length}

module _ {A : Type 0} where
  -- a put of no bytes changes nothing
  pub put_at-nil : (m : List A) (a : ℕ) → put_at m a [] ≡ m
  put_at-nil m a = grind (arith, common_steps)

  -- what was read may be put back
  pub put_at-part : (m : List A) (a n : ℕ) → a + n ≤ length m → put_at m a (part m a n) ≡ m
  put_at-part m a n inside =
      ap (λ (k : ℕ). take a m ++ part m a n ++ drop (a + k) m) (length-part m a n inside)
      ∙ append_assoc (take a m) (part m a n) (drop (a + n) m)
      ∙ ap (λ (w : List A). take a m ++ (part m a n ++ w)) (sym (drop-drop n a m))
      ∙ ap (λ (w : List A). take a m ++ w) (take-append-drop n (drop a m))
      ∙ take-append-drop a m

  -- of two puts of the same length at the same location the second stands
  pub put_at-put_at_same : (m : List A) (a : ℕ) (xs ys : List A) → length ys ≡ length xs → a ≤ length m → put_at (put_at m a xs) a ys ≡ put_at m a ys
  put_at-put_at_same m a xs ys long inside = grind (arith, common_steps)

  -- two puts in a row are one put of both
  pub put_at-put_at_next : (m : List A) (a : ℕ) (xs ys : List A) → a ≤ length m → put_at (put_at m a xs) (a + length xs) ys ≡ put_at m a (xs ++ ys)
  put_at-put_at_next m a xs ys inside =
      let front : List A = take a m ++ xs in
      let end : ℕ = a + length xs + length ys in
      ap (λ (w : List A). w ++ ys ++ drop end (put_at m a xs)) (take_at front (drop (a + length xs) m) (a + length xs) (omega (arith, length-append (take a m) xs, length-take a m)))
      ∙ ap (λ (w : List A). front ++ ys ++ w) (drop-put_at_behind m a end xs (omega arith) inside)
      ∙ ap (λ (w : List A). w ++ drop end m) (append_assoc (take a m) xs ys)
      ∙ ap (λ (k : ℕ). take a m ++ (xs ++ ys) ++ drop k m) (omega (arith, length-append xs ys))

  -- the same, where the second location is known by another name
  pub put_at-put_at_next_at : (m : List A) (a : ℕ) (xs ys : List A) (b : ℕ) → b ≡ a + length xs → a ≤ length m → put_at (put_at m a xs) b ys ≡ put_at m a (xs ++ ys)
  put_at-put_at_next_at m a xs ys b location inside = rw location (put_at-put_at_next m a xs ys inside)

  -- a put into the front of joined bytes
  pub put_at-append_left : (p q : List A) (a : ℕ) (xs : List A) → a + length xs ≤ length p → put_at (p ++ q) a xs ≡ put_at p a xs ++ q
  put_at-append_left p q a xs inside = grind (arith, common_steps)

  -- a put into the back of joined bytes, where the front is b bytes long
  pub put_at-append_right : (p q : List A) (b i : ℕ) (xs : List A) → length p ≡ b → put_at (p ++ q) (b + i) xs ≡ p ++ put_at q i xs
  put_at-append_right p q b i xs long =
      let end : b + i + length xs ≡ length p + (i + length xs) = omega arith in
      ap (λ (k : ℕ). take (k + i) (p ++ q) ++ xs ++ drop (b + i + length xs) (p ++ q)) (sym long)
      ∙ ap (λ (w : List A). w ++ xs ++ drop (b + i + length xs) (p ++ q)) (take-append-add p q i)
      ∙ ap (λ (k : ℕ). p ++ take i q ++ xs ++ drop k (p ++ q)) end
      ∙ ap (λ (w : List A). p ++ take i q ++ xs ++ w) (drop-append-add p q (i + length xs))
      ∙ ap (λ (w : List A). w ++ drop (i + length xs) q) (append_assoc p (take i q) xs)
      ∙ append_assoc p (take i q ++ xs) (drop (i + length xs) q)

  -- the same at the very front of the back
  put_at-append_seam : (p q : List A) (b : ℕ) (xs : List A) → length p ≡ b → put_at (p ++ q) b xs ≡ p ++ put_at q 0 xs
  put_at-append_seam p q b xs long = ap (λ (k : ℕ). put_at (p ++ q) k xs) (omega arith) ∙ put_at-append_right p q b 0 xs long

  -- a put inside what was put is a put into the bytes
  pub put_at-put_at_inside : (m : List A) (a : ℕ) (xs : List A) (i : ℕ) (ys : List A) → i + length ys ≤ length xs → a ≤ length m → put_at (put_at m a xs) (a + i) ys ≡ put_at m a (put_at xs i ys)
  put_at-put_at_inside m a xs i ys within inside =
      let behind : List A = drop (a + length xs) m in
      ap (λ (w : List A). put_at w (a + i) ys) (append_assoc (take a m) xs behind)
      ∙ put_at-append_right (take a m) (xs ++ behind) a i ys (omega (arith, length-take a m))
      ∙ ap (λ (w : List A). take a m ++ w) (put_at-append_left xs behind i ys within)
      ∙ sym (append_assoc (take a m) (put_at xs i ys) behind)
      ∙ ap (λ (k : ℕ). take a m ++ put_at xs i ys ++ drop (a + k) m) (sym (length-put_at xs i ys within))

  -- a put inside a part is a put into that part
  pub part-put_at_within : (m : List A) (a k i : ℕ) (xs : List A) → i + length xs ≤ k → a + k ≤ length m → part (put_at m (a + i) xs) a k ≡ put_at (part m a k) i xs
  part-put_at_within m a k i xs within inside =
      let long : length (part m a k) ≡ k = length-part m a k inside in
      let room : i + length xs ≤ length (part m a k) = omega arith in
      ap (λ (w : List A). part (put_at w (a + i) xs) a k) (sym (put_at-part m a k inside))
      ∙ ap (λ (w : List A). part w a k) (put_at-put_at_inside m a (part m a k) i xs room (omega arith))
      ∙ part-put_at_same_length m a (put_at (part m a k) i xs) k (length-put_at (part m a k) i xs room ∙ long) (omega arith)

  -- two puts change locations, the one of which ends before the other begins
  put_at-put_at_before : (m : List A) (a : ℕ) (xs : List A) (b : ℕ) (ys : List A) → a + length xs ≤ b → b ≤ length m → put_at (put_at m a xs) b ys ≡ put_at (put_at m b ys) a xs
  put_at-put_at_before m a xs b ys before inside =
      let front : length (take b m) ≡ b = omega (arith, length-take b m) in
      let whole : take b m ++ drop b m ≡ m = take-append-drop b m in
      let room : a + length xs ≤ length (take b m) = omega arith in
      let moved : length (put_at (take b m) a xs) ≡ b = length-put_at (take b m) a xs room ∙ front in
      ap (λ (w : List A). put_at (put_at w a xs) b ys) (sym whole)
      ∙ ap (λ (w : List A). put_at w b ys) (put_at-append_left (take b m) (drop b m) a xs room)
      ∙ put_at-append_seam (put_at (take b m) a xs) (drop b m) b ys moved
      ∙ sym (put_at-append_left (take b m) (put_at (drop b m) 0 ys) a xs room)
      ∙ ap (λ (w : List A). put_at w a xs) (sym (put_at-append_seam (take b m) (drop b m) b ys front))
      ∙ ap (λ (w : List A). put_at (put_at w b ys) a xs) whole

  -- two puts apart from one another change locations
  pub put_at-put_at_apart : (m : List A) (a : ℕ) (xs : List A) (b : ℕ) (ys : List A) → a + length xs ≤ length m → b + length ys ≤ length m → Apart a (length xs) b (length ys) → put_at (put_at m a xs) b ys ≡ put_at (put_at m b ys) a xs
  put_at-put_at_apart m a xs b ys first second (inl before) = put_at-put_at_before m a xs b ys before (omega arith)
  put_at-put_at_apart m a xs b ys first second (inr behind) = sym (put_at-put_at_before m b ys a xs behind (omega arith))

  -- a put at the start of joined items, as long as the front
  pub put_at-front : (p q xs : List A) → length xs ≡ length p → put_at (p ++ q) 0 xs ≡ xs ++ q
  put_at-front p q xs long = grind (arith, common_steps)

  -- the first n items after a put among them
  pub take-put_at_within : (m : List A) (n a : ℕ) (xs : List A) → a + length xs ≤ n → n ≤ length m → take n (put_at m a xs) ≡ put_at (take n m) a xs
  take-put_at_within m n a xs within inside =
      let front : List A = take n m in
      let long : length front ≡ n = omega (arith, length-take n m) in
      ap (λ (w : List A). take n (put_at w a xs)) (sym (take-append-drop n m))
      ∙ ap (take n) (put_at-append_left front (drop n m) a xs (omega arith))
      ∙ take_at (put_at front a xs) (drop n m) n (length-put_at front a xs (omega arith) ∙ long)

  -- a put of one item sets it
  pub put_at-one : (m : List A) (a : ℕ) (x : A) → a < length m → put_at m a (x ∷ []) ≡ set m a x
  put_at-one m a x inside = append_assoc (take a m) (x ∷ []) (drop (a + 1) m) ∙ ap (λ (k : ℕ). take a m ++ x ∷ drop k m) (add-one a) ∙ sym (set_split m a x inside)

  -- a put in two steps: n items, and then k more
  pub put_at-take : (m : List A) (a n k : ℕ) (xs : List A) → a ≤ length m → n ≤ length xs → put_at (put_at m a (take n xs)) (a + n) (take k (drop n xs)) ≡ put_at m a (take (n + k) xs)
  put_at-take m a n k xs inside within =
      put_at-put_at_next_at m a (take n xs) (take k (drop n xs)) (a + n) (omega (arith, length-take n xs)) inside ∙ ap (put_at m a) (sym (take-add n k xs))

  -- the same, where one item is put many times
  pub put_at-replicate_next : (m : List A) (a n k : ℕ) (x : A) → a ≤ length m → put_at (put_at m a (replicate n x)) (a + n) (replicate k x) ≡ put_at m a (replicate (n + k) x)
  put_at-replicate_next m a n k x inside =
      put_at-put_at_next_at m a (replicate n x) (replicate k x) (a + n) (ap (λ (j : ℕ). a + j) (sym (length-replicate n x))) inside
      ∙ ap (put_at m a) (replicate-append-replicate n k x)
