-- The program of a reap, from what its parts give.
use Rattle.std.proofs.Common.{◌≡◌, ℕ, ◌+◌, ◌*◌, ◌%◌, List, cond, eqb, drop, Option, None, refl}
use Rattle.std.proofs.lemmas.Bool.{eq-eqb, ne_eqb}
use Rattle.byteorder.specs.Endian.{little_number}
use Rattle.vt_types.specs.declared.access.Answer.{Answer}
use Rattle.vt_types.specs.Access.{AccessValue, Get}
use Rattle.vt_types.specs.Program.{Program, Do, Mark, End, Gives}
use Rattle.port_access.specs.Accesses.{bytes_or_zeros, get_bytes, mark_alone, mark_unless}
use Rattle.port_access.proofs.InOrder.{get_then, mark_then}
use Rattle.vt_layout.specs.QueueBlock.{device_area}
use Rattle.vq_common.specs.Queue.{DriverQueue, ReapedValue, unreaped_with}
use Rattle.vq_split_drv.specs.Reap.{reap_element, split_reap_program}

module _ {P : Type 0} (step : P → AccessValue → Answer → List ℕ → List ℕ → P → Type 0) (marking : P → P → Type 0) where
  after_index : DriverQueue → List ℕ → Program (Option ReapedValue × DriverQueue)
  after_index q idx =
      cond (eqb (little_number 2 idx) q.used) (Mark (End (None, q))) (mark_unless q.cfg.event_idx (Do (Get (device_area q.base + (4 + 8 * (q.used % q.cfg.size))) 8) (λ _ element.
      reap_element q (little_number 4 (drop 4 (bytes_or_zeros 8 element))) (unreaped_with (little_number 4 (bytes_or_zeros 8 element)) q.unreaped))))

  -- the used index is not ahead
  pub reap_idle_gives : (q : DriverQueue) (idx : List ℕ) (p mid p2 : P) → Gives step marking (get_bytes (device_area q.base + 2) 2) p idx mid → little_number 2 idx ≡ q.used → marking mid p2
      → Gives step marking (split_reap_program q) p (None, q) p2
  unfolding after_index
  reap_idle_gives q idx p mid p2 done same mark =
      get_then step marking (device_area q.base + 2) 2 (after_index q) p mid p2 idx (None, q) done
      (rw (eq-eqb (little_number 2 idx) q.used same) (p2, mark, (refl, refl)))

  -- the used index is ahead
  pub reap_gives : (q : DriverQueue) (idx element : List ℕ) (r : Option ReapedValue × DriverQueue) (p p1 p2 p3 p4 : P) → Gives step marking (get_bytes (device_area q.base + 2) 2) p idx p1
      → (little_number 2 idx ≡ q.used → ⊥) → Gives step marking (mark_alone q.cfg.event_idx) p1 tt p2
      → Gives step marking (get_bytes (device_area q.base + (4 + 8 * (q.used % q.cfg.size))) 8) p2 element p3
      → Gives step marking (reap_element q (little_number 4 (drop 4 element)) (unreaped_with (little_number 4 element) q.unreaped)) p3 r p4
      → Gives step marking (split_reap_program q) p r p4
  unfolding after_index
  reap_gives q idx element r p p1 p2 p3 p4 done other marked done2 rest =
      get_then step marking (device_area q.base + 2) 2 (after_index q) p p1 p4 idx r done
      (rw (ne_eqb (little_number 2 idx) q.used other)
      (mark_then step marking q.cfg.event_idx
      (Do (Get (device_area q.base + (4 + 8 * (q.used % q.cfg.size))) 8) (λ _ more. reap_element q (little_number 4 (drop 4 (bytes_or_zeros 8 more))) (unreaped_with (little_number 4 (bytes_or_zeros 8 more)) q.unreaped))) p1 p2 p4 r marked
      (get_then step marking (device_area q.base + (4 + 8 * (q.used % q.cfg.size))) 8 (λ ys. reap_element q (little_number 4 (drop 4 ys)) (unreaped_with (little_number 4 ys) q.unreaped)) p2 p3 p4 element r done2 rest)))
