-- The end of a reap, from what its parts give.
use Rattle.std.proofs.Common.{◌≡◌, ℕ, zero, suc, ◌+◌, ◌<◌, ◌≤◌, List, [], Bool, true, false, not, cond, eqb, Option, Some, None, refl, sym, subst, arith}
use Rattle.std.proofs.lemmas.Bool.{le-leb, lt-leb, ne_eqb}
use Rattle.vt_types.specs.declared.access.Answer.{Answer}
use Rattle.vt_types.specs.Access.{AccessValue}
use Rattle.vt_types.specs.Program.{Do, Mark, End, Gives}
use Rattle.port_access.specs.Accesses.{bytes_program, get_bytes, mark_alone}
use Rattle.port_access.proofs.InOrder.{get_then, mark_then, not_by_cases}
use Rattle.vt_layout.specs.QueueBlock.{data_address}
use Rattle.vq_common.specs.Queue.{DriverQueue, Unreaped, ReapedValue}
use Rattle.vq_posted.specs.Reap.{ask_program, reap_end, reap_bytes, reap_named, reap_nothing}

module _ {P : Type 0} (step : P → AccessValue → Answer → List ℕ → List ℕ → P → Type 0) (marking : P → P → Type 0) (reaped : DriverQueue → Unreaped → DriverQueue) (ask : DriverQueue → AccessValue) where
  asked_or_not : (event : Bool) (a : AccessValue) (r : Option ReapedValue × DriverQueue) (p p2 : P) → Gives step marking (cond event (Do a (λ _ _. Mark (End (tt {0})))) (End (tt {0}))) p tt p2
      → Gives step marking (cond event (Do a (λ _ _. Mark (End r))) (End r)) p r p2
  asked_or_not true a r p p2 (answer, room, room2, mid, s, (mid2, m, (e, stays))) = (answer, room, room2, mid, s, (mid2, m, (refl, stays)))
  asked_or_not false a r p p2 (e, stays) = (refl, stays)

  -- the end of a reap
  pub reap_end_gives : (q : DriverQueue) (u : Unreaped) (r : ReapedValue) (p p2 : P) → Gives step marking (ask_program ask (reaped q u)) p tt p2 → Gives step marking (reap_end reaped ask q u r) p (Some r, reaped q u) p2
  reap_end_gives q u r p p2 asked = asked_or_not (reaped q u).cfg.event_idx (ask (reaped q u)) (Some r, reaped q u) p p2 asked

  -- the written bytes, and the end
  pub reap_bytes_gives : (q : DriverQueue) (u : Unreaped) (len : ℕ) (bytes : List ℕ) (p mid p2 : P) → Gives step marking (bytes_program (data_address q.base u.id + u.readable) len) p bytes mid
      → Gives step marking (ask_program ask (reaped q u)) mid tt p2 → Gives step marking (reap_bytes reaped ask q u len) p (Some (record { tag = u.tag; len = len; bytes = bytes }), reaped q u) p2
  reap_bytes_gives q u zero bytes p mid p2 (none, stays) asked =
      let r : ReapedValue = record { tag = u.tag; len = 0; bytes = [] } in
      let given : Gives step marking (reap_end reaped ask q u r) mid (Some r, reaped q u) p2 = reap_end_gives q u r mid p2 asked in
      subst (λ (ys : List ℕ). Gives step marking (reap_end reaped ask q u r) p (Some (record { tag = u.tag; len = 0; bytes = ys }), reaped q u) p2) (sym none)
      (subst (λ (m : P). Gives step marking (reap_end reaped ask q u r) m (Some r, reaped q u) p2) stays given)
  reap_bytes_gives q u (suc n) bytes p mid p2 done asked =
      let some : eqb (suc n) 0 ≡ false = ne_eqb (suc n) 0 (λ e. absurd (omega arith)) in
      let got_them : Gives step marking (get_bytes (data_address q.base u.id + u.readable) (suc n)) p bytes mid = rw some at done in
      rw some (get_then step marking (data_address q.base u.id + u.readable) (suc n) (λ ys. reap_end reaped ask q u (record { tag = u.tag; len = suc n; bytes = ys })) p mid p2 bytes (Some (record { tag = u.tag; len = suc n; bytes = bytes }), reaped q u) got_them
      (reap_end_gives q u (record { tag = u.tag; len = suc n; bytes = bytes }) mid p2 asked))

  -- the device names an unreaped buffer
  pub reap_found_gives : (q : DriverQueue) (u : Unreaped) (o : Option Unreaped) (len : ℕ) (bytes : List ℕ) (p mid p2 : P) → o ≡ Some u → len ≤ 8192
      → Gives step marking (bytes_program (data_address q.base u.id + u.readable) len) p bytes mid → Gives step marking (ask_program ask (reaped q u)) mid tt p2
      → Gives step marking (reap_named reaped ask q len o) p (Some (record { tag = u.tag; len = len; bytes = bytes }), reaped q u) p2
  reap_found_gives q u o len bytes p mid p2 is few done asked = rw (is, le-leb len 8192 few) (reap_bytes_gives q u len bytes p mid p2 done asked)

  -- nothing counts as used
  pub reap_nothing_gives : (q : DriverQueue) (p p2 : P) → Gives step marking (mark_alone (not q.cfg.event_idx)) p tt p2 → Gives step marking (reap_nothing q) p (None, q) p2
  reap_nothing_gives q p p2 marked =
      mark_then step marking (cond q.cfg.event_idx false true) (End (None, q)) p p2 p2 (None, q)
      (subst (λ (b : Bool). Gives step marking (mark_alone b) p tt p2) (not_by_cases q.cfg.event_idx) marked) (refl, refl)

  -- no unreaped buffer is named
  pub reap_unknown_gives : (q : DriverQueue) (len : ℕ) (p p2 : P) → Gives step marking (mark_alone (not q.cfg.event_idx)) p tt p2 → Gives step marking (reap_named reaped ask q len None) p (None, q) p2
  reap_unknown_gives q len p p2 marked = reap_nothing_gives q p p2 marked

  -- the length is too great
  pub reap_long_gives : (q : DriverQueue) (o : Option Unreaped) (len : ℕ) (p p2 : P) → 8192 < len → Gives step marking (mark_alone (not q.cfg.event_idx)) p tt p2 → Gives step marking (reap_named reaped ask q len o) p (None, q) p2
  reap_long_gives q None len p p2 long marked = reap_nothing_gives q p p2 marked
  reap_long_gives q (Some u) len p p2 long marked = rw (lt-leb len 8192 long) (reap_nothing_gives q p p2 marked)
