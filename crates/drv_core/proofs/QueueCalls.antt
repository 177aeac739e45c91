-- From what the end of a queue gives to what the operation on its device gives.
use Rattle.std.proofs.Common.{◌≡◌, ℕ, zero, suc, List, [], ◌∷◌, Bool, Option, Some, None, refl, sym, ◌∙◌, ap, subst}
use Rattle.std.specs.Prelude.{slice_get, slice_set}
use Rattle.std.specs.Option.{option_flatten}
use Rattle.vt_types.specs.declared.access.Answer.{Answer}
use Rattle.vt_types.specs.declared.device.Dev.{Dev}
use Rattle.vt_types.specs.declared.device.Dev.TheVariants.{Blk, Net, Con}
use Rattle.vt_types.specs.declared.reply.Why.TheVariants as why
use Rattle.vt_types.specs.Access.{AccessValue}
use Rattle.vt_types.specs.Operation.{PostedBuffer}
use Rattle.vt_types.specs.Program.{Gives}
use Rattle.vt_types.specs.Reply.{ReplyValue, Good, Refused}
use Rattle.vt_types.proofs.Programs.{gives_then}
use Rattle.vq_common.specs.Queue.{DriverQueue, ReapedValue, post_program}
use Rattle.vq_split_drv.specs.Post.{split_post_accesses, split_posted}
use Rattle.vq_split_drv.specs.Reap.{split_reap_program, split_signals_program}
use Rattle.drv_core.specs.Calls.{GivesOnDevice, GivesOnQueue, GivesOnSet, QueueProgram, post_to, reap_from, set_signals_of, with_queue}
use Rattle.by_device.specs.ByDevice.{of, with}
use Rattle.by_device.proofs.ByDeviceLaws.{with_same}
use Rattle.drv_core.specs.Driver.{DeviceRecord, DriverRecord, ends, with_driver_queue}
use Rattle.drv_core.specs.Lowering.{on_queue, post_reply, queue_program, reap_reply}

-- a list with an item put where it is
set_same : {X : Type 0} (xs : List X) (n : ℕ) (x : X) → slice_get xs n ≡ Some x → slice_set xs n x ≡ xs
set_same [] n x h = refl
set_same (y ∷ ys) zero x h = cc
set_same (y ∷ ys) (suc n) x h = ap (λ zs. y ∷ zs) (set_same ys n x h)

module _ {P : Type 0} (step : P → AccessValue → Answer → List ℕ → List ℕ → P → Type 0) (marking : P → P → Type 0) where
  -- a buffer is posted, or refused for want of room
  pub post_on_set : (q q2 : DriverQueue) (b : PostedBuffer) (posted : Bool) (p p2 : P)
      → Gives step marking (post_program split_post_accesses split_posted q b) p (posted, q2) p2
      → GivesOnSet step marking (post_to b) q p (post_reply posted) q2 p2
  post_on_set q q2 b posted p p2 h =
      record {
        gives = λ known dev n.
            gives_then step marking (post_program split_post_accesses split_posted q b) (λ r. ends (post_reply r.0) (with_driver_queue known dev n r.1)) p p2 p2 (posted, q2)
            (record { reply = post_reply posted; known = with_driver_queue known dev n q2 }) h (refl, refl);
      }

  -- a buffer is reaped, or nothing is
  pub reap_on_set : (q q2 : DriverQueue) (reaped : Option ReapedValue) (p p2 : P) → Gives step marking (split_reap_program q) p (reaped, q2) p2
      → GivesOnSet step marking reap_from q p (reap_reply reaped) q2 p2
  reap_on_set q q2 reaped p p2 h =
      record {
        gives = λ known dev n.
            gives_then step marking (split_reap_program q) (λ r. ends (reap_reply r.0) (with_driver_queue known dev n r.1)) p p2 p2 (reaped, q2)
            (record { reply = reap_reply reaped; known = with_driver_queue known dev n q2 }) h (refl, refl);
      }

  -- signals are asked for, or none
  pub signals_on_set : (q q2 : DriverQueue) (on : Bool) (p p2 : P) → Gives step marking (split_signals_program q on) p q2 p2
      → GivesOnSet step marking (set_signals_of on) q p Good q2 p2
  signals_on_set q q2 on p p2 h =
      record {
        gives = λ known dev n.
            gives_then step marking (split_signals_program q on) (λ r. ends Good (with_driver_queue known dev n r)) p p2 p2 q2
            (record { reply = Good; known = with_driver_queue known dev n q2 }) h (refl, refl);
      }

  -- the same on the queue of that number
  pub on_queue_set : (program : QueueProgram) (q q2 : DriverQueue) (r : ReplyValue) (p p2 : P)
      → GivesOnSet step marking program q p r q2 p2 → GivesOnQueue step marking program (Some q) p r (Some q2) p2
  on_queue_set program q q2 r p p2 h =
      record {
        gives = λ known dev n at.
            subst (λ (o : Option (Option DriverQueue)). Gives step marking (on_queue known dev n (program known dev n) (option_flatten o)) p (record { reply = r; known = with_driver_queue known dev n q2 }) p2) (sym at)
            (h.gives known dev n);
      }

  -- a queue that isn't set refuses
  pub on_queue_unset : (program : QueueProgram) (p : P) → GivesOnQueue step marking program None p (Refused why.Unset) None p
  on_queue_unset program p =
      record {
        gives = λ known dev n at.
            let same : with known dev (with_queue (of known dev) n None) ≡ known
            = ap (λ (qs : List (Option DriverQueue)). with known dev (record (of known dev) { queues = qs })) (set_same (of known dev).queues n None at) ∙ with_same known dev
            in
            subst (λ (o : Option (Option DriverQueue)). Gives step marking (on_queue known dev n (program known dev n) (option_flatten o)) p (record { reply = Refused why.Unset; known = with known dev (with_queue (of known dev) n None) }) p) (sym at)
            (ap (λ (known2 : DriverRecord). record { reply = Refused why.Unset; known = known2 }) same, refl);
      }

  -- the same on the device that has the queue
  pub on_device : (program : QueueProgram) (d : DeviceRecord) (n : ℕ) (old new : Option DriverQueue) (r : ReplyValue) (p p2 : P)
      → slice_get d.queues n ≡ Some old → GivesOnQueue step marking program old p r new p2
      → GivesOnDevice step marking (λ known dev. queue_program known dev n (program known dev n)) d p r (with_queue d n new) p2
  on_device program d n old new r p p2 at h =
      record {
        gives = λ known dev is.
            subst (λ (e : DeviceRecord). Gives step marking (queue_program known dev n (program known dev n)) p (record { reply = r; known = with known dev (with_queue e n new) }) p2) is
            (h.gives known dev n (ap (λ (e : DeviceRecord). slice_get e.queues n) is ∙ at));
      }
