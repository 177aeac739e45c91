-- What a part of a memory holds, also after bytes were put.
use Rattle.std.proofs.Common.{◌≡◌, ℕ, ◌+◌, ◌-◌, ◌≤◌, ◌<◌, zero, suc, List, [], ◌∷◌, ◌++◌, length, take, drop, get_or, inl, inr, refl, sym, ◌∙◌, ap, arith, length-drop}
use Rattle.std.proofs.lemmas.Grind.{common_steps}
use Rattle.std.proofs.lemmas.List.{drop-drop, drop-take, drop_at, take-append-le, drop-append-le, take-take}
use Rattle.std.proofs.Math.Seq.{take-add}
use Rattle.guest_mem.specs.Memory.{part, put_at, Apart}

module _ {A : Type 0} where
  -- a part that lies inside has its length
  pub length-part : (m : List A) (a n : ℕ) → a + n ≤ length m → length (part m a n) ≡ n
  length-part m a n inside = grind (arith, common_steps)

  -- bytes put inside leave the length
  pub length-put_at : (m : List A) (a : ℕ) (xs : List A) → a + length xs ≤ length m → length (put_at m a xs) ≡ length m
  length-put_at m a xs inside = grind (arith, common_steps)

  -- below the location of a put a memory is as it was
  pub take-put_at : (m : List A) (a k : ℕ) (xs : List A) → k ≤ a → a ≤ length m → take k (put_at m a xs) ≡ take k m
  take-put_at m a k xs below inside = grind (arith, common_steps)

  -- from the location of a put on stand the bytes that were put, and what lay behind them
  drop-put_at : (m : List A) (a : ℕ) (xs : List A) → a ≤ length m → drop a (put_at m a xs) ≡ xs ++ drop (a + length xs) m
  drop-put_at m a xs inside = grind (arith, common_steps)

  -- at the end of what was put a memory is as it was
  drop-put_at_end : (m : List A) (a : ℕ) (xs : List A) → a ≤ length m → drop (a + length xs) (put_at m a xs) ≡ drop (a + length xs) m
  drop-put_at_end m a xs inside = grind (arith, common_steps)

  -- what is left out may be left out in two steps
  drop_in_steps : (m : List A) (c b : ℕ) → c ≤ b → drop b m ≡ drop (b - c) (drop c m)
  drop_in_steps m c b le = grind (arith, common_steps)

  -- behind what was put a memory is as it was
  pub drop-put_at_behind : (m : List A) (a b : ℕ) (xs : List A) → a + length xs ≤ b → a ≤ length m → drop b (put_at m a xs) ≡ drop b m
  drop-put_at_behind m a b xs behind inside =
      drop_in_steps (put_at m a xs) (a + length xs) b behind
      ∙ ap (drop (b - (a + length xs))) (drop-put_at_end m a xs inside)
      ∙ sym (drop_in_steps m (a + length xs) b behind)

  -- what was put is read
  pub part-put_at_same : (m : List A) (a : ℕ) (xs : List A) → a ≤ length m → part (put_at m a xs) a (length xs) ≡ xs
  part-put_at_same m a xs inside = grind (arith, common_steps)

  -- the same, where the length is known by another name
  pub part-put_at_same_length : (m : List A) (a : ℕ) (xs : List A) (n : ℕ) → length xs ≡ n → a ≤ length m → part (put_at m a xs) a n ≡ xs
  part-put_at_same_length m a xs n long inside = rw (← long) (part-put_at_same m a xs inside)

  -- a part of what was put is that part of the bytes
  pub part-put_at_inside : (m : List A) (a : ℕ) (xs : List A) (i n : ℕ) → i + n ≤ length xs → a + length xs ≤ length m → part (put_at m a xs) (a + i) n ≡ part xs i n
  part-put_at_inside m a xs i n within inside =
      ap (take n) (sym (drop-drop i a (put_at m a xs)) ∙ ap (drop i) (drop-put_at m a xs (omega arith)) ∙ drop-append-le i xs (drop (a + length xs) m) (omega arith))
      ∙ take-append-le n (drop i xs) (drop (a + length xs) m) (omega (arith, length-drop i xs))

  -- the same, where the location is known by another name
  pub part-put_at_inside_at : (m : List A) (a : ℕ) (xs : List A) (i n b : ℕ) → b ≡ a + i → i + n ≤ length xs → a + length xs ≤ length m → part (put_at m a xs) b n ≡ part xs i n
  part-put_at_inside_at m a xs i n b location within inside = rw location (part-put_at_inside m a xs i n within inside)

  -- a part apart from what was put is as it was
  pub part-put_at_apart : (m : List A) (a : ℕ) (xs : List A) (b n : ℕ) → a + length xs ≤ length m → Apart a (length xs) b n → part (put_at m a xs) b n ≡ part m b n
  part-put_at_apart m a xs b n inside (inl behind) = ap (take n) (drop-put_at_behind m a b xs behind (omega arith))
  part-put_at_apart m a xs b n inside (inr before) =
      sym (drop-take b n (put_at m a xs)) ∙ ap (drop b) (take-put_at m a (b + n) xs before (omega arith)) ∙ drop-take b n m

  -- a part of a part
  pub part-part : (m : List A) (a k i n : ℕ) → i + n ≤ k → part (part m a k) i n ≡ part m (a + i) n
  part-part m a k i n within =
      sym (drop-take i n (take k (drop a m))) ∙ ap (drop i) (take-take (i + n) k (drop a m) within) ∙ drop-take i n (drop a m) ∙ ap (take n) (drop-drop i a m)

  -- a part of the front of joined bytes
  pub part-append_left : (xs ys : List A) (i n : ℕ) → i + n ≤ length xs → part (xs ++ ys) i n ≡ part xs i n
  part-append_left xs ys i n within =
      ap (take n) (drop-append-le i xs ys (omega arith)) ∙ take-append-le n (drop i xs) ys (omega (arith, length-drop i xs))

  -- a part of the back of joined bytes, where the front is k bytes long
  pub part-append_right : (xs ys : List A) (k i n : ℕ) → length xs ≡ k → part (xs ++ ys) (k + i) n ≡ part ys i n
  part-append_right xs ys k i n long = ap (take n) (sym (drop-drop i k (xs ++ ys)) ∙ ap (drop i) (drop_at xs ys k long))

  -- the whole of a list
  pub part_all : (xs : List A) (n : ℕ) → length xs ≡ n → part xs 0 n ≡ xs
  part_all xs n long = grind (arith, common_steps)

  -- two parts in a row are one
  pub part-append-part : (m : List A) (a k n : ℕ) → part m a k ++ part m (a + k) n ≡ part m a (k + n)
  part-append-part m a k n = ap (λ (w : List A). part m a k ++ take n w) (sym (drop-drop k a m)) ∙ sym (take-add k n (drop a m))

  -- a part of the first n items
  pub part-take : (m : List A) (n a k : ℕ) → a + k ≤ n → part (take n m) a k ≡ part m a k
  part-take m n a k within = ap (take k) (ap (λ (j : ℕ). drop a (take j m)) (omega arith) ∙ drop-take a (n - a) m) ∙ take-take k (n - a) (drop a m) (omega arith)

  -- a part of one item
  pub part-one : (m : List A) (a : ℕ) (d : A) → a < length m → part m a 1 ≡ get_or m a d ∷ []
  part-one [] a d inside = absurd (omega arith)
  part-one (x ∷ m) zero d inside = refl
  part-one (x ∷ m) (suc a) d inside = part-one m a d (omega arith)
