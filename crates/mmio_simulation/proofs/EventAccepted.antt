-- No event looks at the accepted features: it does the same on a raw machine where they are others, as between the two stores
-- that accept.
use Rattle.std.proofs.Common.{◌≡◌, ℕ, List, Bool, true, false, Option, Some, None, refl, ◌∙◌, ap}
use Rattle.std.specs.Prelude.{◌&&◌, if◌then◌else◌, slice_get}
use Rattle.vt_types.specs.declared.device.Dev.TheVariants.{Blk, Net, Con}
use Rattle.vt_types.specs.declared.operation.Event.{Event}
use Rattle.vt_types.specs.declared.operation.Event.TheVariants as event
use Rattle.vt_types.specs.Status.{DRIVER_OK}
use Rattle.vt_layout.specs.Interrupts.{CONFIGURATION_CHANGE}
use Rattle.vq_common.specs.Chain.{Walked, Empty, Bad, Front}
use Rattle.dev_status.specs.Status.{has_bits}
use Rattle.dev_core.specs.declared.served.Served.{Served}
use Rattle.dev_core.specs.declared.served.Served.TheVariants as served
use Rattle.dev_core.specs.Bus.{Raw, after_serve, raw_event}
use Rattle.dev_core.specs.Device.{QueueState}
use Rattle.dev_core.specs.Devices.{Devices}
use Rattle.dev_core.specs.Ring.{SetRing, walk}
use Rattle.dev_core.specs.Serve.{Serving, idle, is_driven, has_work, serve_shown, serve_ring, serve_console}
use Rattle.mmio_regs.specs.MmioTable.{mmio_table, signal}
use Rattle.mmio_regs.specs.Page.{MmioRegisters}
use Rattle.mmio_simulation.proofs.EventRegisters.{resized}

-- other accepted features
abbrev pub devices_accepting : ℕ → Devices → Devices
devices_accepting accepted s = record s { con = record s.con { status = record s.con.status { accepted = accepted } } }

abbrev pub accepting : ℕ → Raw MmioRegisters → Raw MmioRegisters
accepting accepted raw = record raw { devices = devices_accepting accepted raw.devices }

module _ (accepted : ℕ) where
  abbrev serving : Serving → Serving
  serving s = record s { devices = devices_accepting accepted s.devices }

  under_if : {A B : Type 0} (f : A → B) (test : Bool) (x y : A) → (if test then f x else f y) ≡ f (if test then x else y)
  under_if f true x y = refl
  under_if f false x y = refl

  shown_alike : (s : Devices) (n : ℕ) (q : QueueState) (r : SetRing) (mem : List ℕ) (seen : Walked) → serve_shown (devices_accepting accepted s) n q r mem seen ≡ serving (serve_shown s n q r mem seen)
  shown_alike s n q r mem Empty = refl
  shown_alike s n q r mem Bad = refl
  shown_alike s n q r mem (Front c) = refl

  ring_alike : (s : Devices) (n : ℕ) (q : QueueState) (o : Option SetRing) (mem : List ℕ) → serve_ring (devices_accepting accepted s) n q o mem ≡ serving (serve_ring s n q o mem)
  ring_alike s n q None mem = refl
  ring_alike s n q (Some r) mem =
      ap (λ (left : Serving). if q.kick then left else idle (devices_accepting accepted s) mem) (shown_alike s n q r mem (walk r.kind mem r.queue))
      ∙ under_if serving q.kick (serve_shown s n q r mem (walk r.kind mem r.queue)) (idle s mem)

  serve_alike : (s : Devices) (n : ℕ) (q : Option QueueState) (mem : List ℕ) → serve_console (devices_accepting accepted s) n q mem ≡ serving (serve_console s n q mem)
  serve_alike s n None mem = refl
  serve_alike s n (Some q) mem =
      ap (λ (left : Serving). if is_driven s.con.status && has_work s n then left else idle (devices_accepting accepted s) mem) (ring_alike s n q q.ring mem)
      ∙ under_if serving (is_driven s.con.status && has_work s n) (serve_ring s n q q.ring mem) (idle s mem)

  after_alike : (n : ℕ) (regs : MmioRegisters) (s : Serving) (came : Served) → after_serve mmio_table Con n regs (serving s) came ≡ accepting accepted (after_serve mmio_table Con n regs s came)
  after_alike n regs s served.Idle = refl
  after_alike n regs s served.Quiet = refl
  after_alike n regs s served.Signal = refl
  after_alike n regs s served.Bad = refl

  abbrev raw_of : MmioRegisters → Devices → List ℕ → Raw MmioRegisters
  raw_of regs s mem = record { registers = regs; devices = s; memory = mem }

  pub event_alike : (raw : Raw MmioRegisters) (e : Event) → raw_event mmio_table (accepting accepted raw) e ≡ accepting accepted (raw_event mmio_table raw e)
  event_alike raw (event.Serve Con n) =
      ap (λ (left : Serving). after_serve mmio_table Con n raw.registers left left.served) (serve_alike raw.devices n (slice_get raw.devices.con.queues n) raw.memory)
      ∙ after_alike n raw.registers (serve_console raw.devices n (slice_get raw.devices.con.queues n) raw.memory) (serve_console raw.devices n (slice_get raw.devices.con.queues n) raw.memory).served
  event_alike raw (event.Serve Blk n) = refl
  event_alike raw (event.Serve Net n) = refl
  event_alike raw (event.Frame bytes) = refl
  event_alike raw (event.Key bytes) = refl
  event_alike raw (event.Resize sectors) = refl
  event_alike raw (event.Link up) = refl
  event_alike raw (event.Consize cols rows) =
      under_if (accepting accepted) (has_bits raw.devices.con.status.status DRIVER_OK) (raw_of (signal CONFIGURATION_CHANGE Con raw.registers) (resized raw cols rows) raw.memory) (raw_of raw.registers (resized raw cols rows) raw.memory)
  event_alike raw (event.Diskfail call) = refl
