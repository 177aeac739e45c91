-- Signals of a world that stand stay, whatever events come.
use Rattle.std.proofs.Common.{◌≡◌, ℕ, List, [], ◌∷◌, Bool, true, false, Option, Some, None, ap}
use Rattle.std.specs.Prelude.{◌&&◌, ◌||◌, if◌then◌else◌}
use Rattle.vt_types.specs.declared.device.Dev.TheVariants.{Blk, Net, Con}
use Rattle.vt_types.specs.declared.operation.Event.{Event}
use Rattle.vt_types.specs.declared.operation.Event.TheVariants as event
use Rattle.vt_types.specs.Status.{DRIVER_OK}
use Rattle.dev_status.specs.Status.{has_bits}
use Rattle.abstract_devices.specs.World.{World, AbstractQueue, Buffer, queue}
use Rattle.abstract_devices.specs.Operate.{happen}
use Rattle.abstract_devices.specs.Serve.{is_served, serve_console, serve_front, signals, with_number}
use Rattle.mmio_simulation.specs.Related.{has_any}
use Rattle.mmio_simulation.proofs.EventsKeep.{any_with_number}

-- what holds where nothing is served and where a front is served, holds after a serve of any queue of the world's console
module _ (M : World → Type 0) (w : World) (n : ℕ) (stays : M w) (fronts : (q : AbstractQueue) (bs : List Buffer) → M (serve_front w n q bs)) where
  by_world_queue : (q : Option AbstractQueue) → M (serve_console w n q)
  by_world_queue None = stays
  by_world_queue (Some q) =
      elim (has_bits w.devices.con.status DRIVER_OK && q.kick && is_served w n) as (λ (t : Bool). M (if t then serve_front w n q q.available else w)) [
        | true ↦ fronts q q.available
        | false ↦ stays
      ]

-- a queue that signalled
front_signals : (w : World) (n : ℕ) → has_any w.devices.con.signalled ≡ true → (q : AbstractQueue) (bs : List Buffer) → has_any (serve_front w n q bs).devices.con.signalled ≡ true
front_signals w n any q [] = any
front_signals w n any q (b ∷ bs) =
    elim (signals q.mode q.used) as (λ (t : Bool). has_any (if t then with_number n w.devices.con.signalled else w.devices.con.signalled) ≡ true) [
      | true ↦ any_with_number n w.devices.con.signalled
      | false ↦ any
    ]

pub signalled_stays : (w : World) (e : Event) → has_any w.devices.con.signalled ≡ true → has_any (happen w e).devices.con.signalled ≡ true
signalled_stays w (event.Serve Con n) any = by_world_queue (λ (w2 : World). has_any w2.devices.con.signalled ≡ true) w n any (front_signals w n any) (queue w.devices.con n)
signalled_stays w (event.Serve Blk n) any = any
signalled_stays w (event.Serve Net n) any = any
signalled_stays w (event.Frame bytes) any = any
signalled_stays w (event.Key bytes) any = any
signalled_stays w (event.Resize sectors) any = any
signalled_stays w (event.Link up) any = any
signalled_stays w (event.Consize cols rows) any = any
signalled_stays w (event.Diskfail call) any = any

-- a changed configuration
front_changed : (w : World) (n : ℕ) → w.devices.con.config_changed ≡ true → (q : AbstractQueue) (bs : List Buffer) → (serve_front w n q bs).devices.con.config_changed ≡ true
front_changed w n changed q [] = changed
front_changed w n changed q (b ∷ bs) = changed

pub config_changed_stays : (w : World) (e : Event) → w.devices.con.config_changed ≡ true → (happen w e).devices.con.config_changed ≡ true
config_changed_stays w (event.Serve Con n) changed = by_world_queue (λ (w2 : World). w2.devices.con.config_changed ≡ true) w n changed (front_changed w n changed) (queue w.devices.con n)
config_changed_stays w (event.Serve Blk n) changed = changed
config_changed_stays w (event.Serve Net n) changed = changed
config_changed_stays w (event.Frame bytes) changed = changed
config_changed_stays w (event.Key bytes) changed = changed
config_changed_stays w (event.Resize sectors) changed = changed
config_changed_stays w (event.Link up) changed = changed
config_changed_stays w (event.Consize cols rows) changed = ap (λ (c : Bool). c || has_bits w.devices.con.status DRIVER_OK) changed
config_changed_stays w (event.Diskfail call) changed = changed
