-- The end of a program, a known test, and one program after another.
use Rattle.std.proofs.Common.{◌≡◌, ℕ, List, ◌++◌, Bool, true, false, sym, subst}
use Rattle.std.specs.Prelude.{if◌then◌else◌}
use Rattle.vt_types.specs.Access.{AccessValue}
use Rattle.vt_types.specs.Operation.{Operation}
use Rattle.vt_types.specs.Program.{Program, Do, Mark, End, and_then, do_all}
use Rattle.vt_types.specs.Reply.{ReplyValue}
use Rattle.vt_types.proofs.Programs.{do_all-append}
use Rattle.abstract_devices.specs.World.{World}
use Rattle.abstract_devices.specs.Operate.{happen_all, operate}
use Rattle.dev_core.specs.Bus.{Raw, raw_access}
use Rattle.vt_machine.specs.Trace.{raw_events}
use Rattle.drv_core.specs.Driver.{Ended}
use Rattle.interleaving.specs.BusDefinition.{BusDefinition}
use Rattle.interleaving.specs.Kept.{Kept}
use Rattle.interleaving.specs.Safe.{Relation, Ending, Runs, Safe, Ends}
use Rattle.interleaving.proofs.KeptLaws.{kept_all}

module _ {R X : Type 0} {bus : BusDefinition R} {op : Operation} {ending : Ending R X} {n : ℕ} {w v : World} {reply : ReplyValue} {raw : Raw R} where
  pub safe_end : {x : X} → ending x n w v reply raw → Safe bus op ending (End x) n w v reply raw
  safe_end h = record { runs = h }

  -- a program that is another one
  pub safe_as : {p q : Program X} → p ≡ q → Safe bus op ending q n w v reply raw → Safe bus op ending p n w v reply raw
  safe_as is h = subst (λ p. Safe bus op ending p n w v reply raw) (sym is) h

  -- a test that is known
  pub safe_true : {b : Bool} {p : Program X} (q : Program X) → b ≡ true → Safe bus op ending p n w v reply raw → Safe bus op ending (if b then p else q) n w v reply raw
  safe_true {p = p} q is h = subst (λ b. Safe bus op ending (if b then p else q) n w v reply raw) (sym is) h

  pub safe_false : {b : Bool} (p : Program X) {q : Program X} → b ≡ false → Safe bus op ending q n w v reply raw → Safe bus op ending (if b then p else q) n w v reply raw
  safe_false p {q = q} is h = subst (λ b. Safe bus op ending (if b then p else q) n w v reply raw) (sym is) h

  -- two lists of accesses
  pub safe_append : (front back : List AccessValue) (next : Program X) → Safe bus op ending (do_all front (do_all back next)) n w v reply raw
      → Safe bus op ending (do_all (front ++ back) next) n w v reply raw
  safe_append front back next h = safe_as (do_all-append front back next) h

module _ {R X Y : Type 0} (bus : BusDefinition R) (op : Operation) (ending : Ending R Y) where
  runs_then : (p : Program X) (next : X → Program Y) (n : ℕ) (w v : World) (reply : ReplyValue) (raw : Raw R)
      → Runs bus op (λ x n w v reply raw. Safe bus op ending (next x) n w v reply raw) p n w v reply raw → Runs bus op ending (and_then p next) n w v reply raw
  runs_then (Do a rest) next n w v reply raw h =
      λ es left is.
      let did = raw_access bus.table a (raw_events bus.table raw es) in
      runs_then (rest did.0 did.1) next left (happen_all w es) (happen_all v es) reply did.2 (h es left is)
  runs_then (Mark rest) next n w v reply raw h = runs_then rest next n w (operate bus.kind w op).world (operate bus.kind w op).reply raw h
  runs_then (End x) next n w v reply raw h = h.runs

module _ {R X Y : Type 0} {bus : BusDefinition R} {op : Operation} {ending : Ending R Y} where
  -- a program, at whose end what follows is safe to run
  pub safe_then : (p : Program X) (next : X → Program Y) {n : ℕ} {w v : World} {reply : ReplyValue} {raw : Raw R}
      → Safe bus op (λ x n w v reply raw. Safe bus op ending (next x) n w v reply raw) p n w v reply raw → Safe bus op ending (and_then p next) n w v reply raw
  safe_then p next {n = n} {w = w} {v = v} {reply = reply} {raw = raw} h = record { runs = runs_then bus op ending p next n w v reply raw h.runs }

module _ {R : Type 0} {bus : BusDefinition R} {rel : Relation R} {e : Ended} {n : ℕ} {w v : World} {reply : ReplyValue} {raw : Raw R} where
  -- events after the end keep the relation
  pub ends_related : Kept bus (λ w raw. rel w raw e.known) → reply ≡ e.reply → rel v raw e.known → Ends bus rel e n w v reply raw
  ends_related kept same holds = record { reply_is = same; related = λ es left is. kept_all bus (λ w raw. rel w raw e.known) kept es v raw holds }

  pub safe_ended : {op : Operation} → Kept bus (λ w raw. rel w raw e.known) → reply ≡ e.reply → rel v raw e.known → Safe bus op (Ends bus rel) (End e) n w v reply raw
  safe_ended kept same holds = safe_end (ends_related kept same holds)
