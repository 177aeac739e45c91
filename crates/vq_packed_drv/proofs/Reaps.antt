-- The program of a reap, from what its parts give.
use Rattle.std.proofs.Common.{◌≡◌, ℕ, ◌+◌, ◌*◌, List, Bool, true, false, cond, Option, None, refl, sym, subst}
use Rattle.vt_types.specs.declared.access.Answer.{Answer}
use Rattle.vt_types.specs.Access.{AccessValue}
use Rattle.vt_types.specs.Program.{Mark, End, Gives}
use Rattle.port_access.specs.Accesses.{get_bytes, mark_alone, mark_unless}
use Rattle.port_access.proofs.InOrder.{get_then, mark_then}
use Rattle.vq_common.specs.PackedDescriptor.{is_used, packed_descriptor_in}
use Rattle.vq_common.specs.Queue.{DriverQueue, ReapedValue}
use Rattle.vq_packed_drv.specs.Reap.{packed_reap_program, reap_buffer, reap_by}

module _ {P : Type 0} (step : P → AccessValue → Answer → List ℕ → List ℕ → P → Type 0) (marking : P → P → Type 0) where
  -- what the test of the descriptor leads to
  by_test : (q : DriverQueue) (bytes : List ℕ) (used : Bool) (r : Option ReapedValue × DriverQueue) (p p2 : P) → is_used q.used_wrap (packed_descriptor_in bytes).flags ≡ used
      → Gives step marking (cond used (mark_unless q.cfg.event_idx (reap_buffer q (packed_descriptor_in bytes))) (Mark (End (None, q)))) p r p2
      → Gives step marking (reap_by q (packed_descriptor_in bytes)) p r p2
  by_test q bytes used r p p2 e given = subst (λ (b : Bool). Gives step marking (cond b (mark_unless q.cfg.event_idx (reap_buffer q (packed_descriptor_in bytes))) (Mark (End (None, q)))) p r p2) (sym e) given

  -- the descriptor is not used
  pub reap_idle_gives : (q : DriverQueue) (bytes : List ℕ) (p mid p2 : P) → Gives step marking (get_bytes (q.base + 16 * q.used) 16) p bytes mid → is_used q.used_wrap (packed_descriptor_in bytes).flags ≡ false → marking mid p2
      → Gives step marking (packed_reap_program q) p (None, q) p2
  reap_idle_gives q bytes p mid p2 done idle mark =
      get_then step marking (q.base + 16 * q.used) 16 (λ ys. reap_by q (packed_descriptor_in ys)) p mid p2 bytes (None, q) done
      (by_test q bytes false (None, q) mid p2 idle (p2, mark, (refl, refl)))

  -- it is used
  pub reap_used_gives : (q : DriverQueue) (bytes : List ℕ) (r : Option ReapedValue × DriverQueue) (p p1 p2 p3 : P) → Gives step marking (get_bytes (q.base + 16 * q.used) 16) p bytes p1
      → is_used q.used_wrap (packed_descriptor_in bytes).flags ≡ true → Gives step marking (mark_alone q.cfg.event_idx) p1 tt p2
      → Gives step marking (reap_buffer q (packed_descriptor_in bytes)) p2 r p3
      → Gives step marking (packed_reap_program q) p r p3
  reap_used_gives q bytes r p p1 p2 p3 done used marked rest =
      get_then step marking (q.base + 16 * q.used) 16 (λ ys. reap_by q (packed_descriptor_in ys)) p p1 p3 bytes r done
      (by_test q bytes true r p1 p3 used (mark_then step marking q.cfg.event_idx (reap_buffer q (packed_descriptor_in bytes)) p1 p2 p3 r marked rest))
