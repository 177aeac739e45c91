-- What events leave of any raw machine, whether it is related to a world or not: the registers that a driver stores to, and the
-- features.
use Rattle.std.proofs.Common.{◌≡◌, ℕ, ◌+◌, ◌%◌, ◌^◌, List, Bool, true, false, Option, Some, None, refl, sym, subst}
use Rattle.std.specs.Prelude.{◌&&◌, if◌then◌else◌, slice_get}
use Rattle.vt_types.specs.declared.device.Dev.TheVariants.{Blk, Net, Con}
use Rattle.vt_types.specs.declared.operation.Event.{Event}
use Rattle.vt_types.specs.declared.operation.Event.TheVariants as event
use Rattle.vt_types.specs.Status.{DRIVER_OK}
use Rattle.vq_common.specs.Chain.{Walked, Empty, Bad, Front}
use Rattle.dev_status.specs.Status.{has_bits}
use Rattle.dev_core.specs.declared.served.Served.{Served}
use Rattle.dev_core.specs.declared.served.Served.TheVariants as served
use Rattle.dev_core.specs.Bus.{Raw, after_serve, raw_event, signalled}
use Rattle.device_contents.specs.Contents.{content_after}
use Rattle.dev_core.specs.Device.{QueueState, next_generation}
use Rattle.dev_core.specs.Devices.{Devices}
use Rattle.dev_core.specs.Ring.{SetRing, walk}
use Rattle.dev_core.specs.Serve.{Serving, idle, is_driven, has_work, serve_shown, serve_ring, serve_console}
use Rattle.mmio_regs.specs.MmioTable.{mmio_table, signal}
use Rattle.mmio_regs.specs.Page.{MmioRegisters, Page}
use Rattle.vt_layout.specs.Interrupts.{CONFIGURATION_CHANGE}

-- the selectors and the registers of the queues are as they were
pub record KeepsPage (p p2 : Page) : Type 0 where
  pub device_features_select : p2.device_features_select ≡ p.device_features_select
  pub driver_features_select : p2.driver_features_select ≡ p.driver_features_select
  pub queue_select : p2.queue_select ≡ p.queue_select
  pub queues : p2.queues ≡ p.queues

-- the features, the configuration and its generation are as they were
pub record KeepsFeatures (s s2 : Devices) : Type 0 where
  pub offered : s2.con.status.offered ≡ s.con.status.offered
  pub accepted : s2.con.status.accepted ≡ s.con.status.accepted

pub record KeepsConfiguration (s s2 : Devices) : Type 0 where
  pub generation : s2.con.generation ≡ s.con.generation
  pub cols : s2.contents.console.cols ≡ s.contents.console.cols
  pub rows : s2.contents.console.rows ≡ s.contents.console.rows

same_page : (p : Page) → KeepsPage p p
same_page p = record { device_features_select = refl; driver_features_select = refl; queue_select = refl; queues = refl }

same_features : (s : Devices) → KeepsFeatures s s
same_features s = record { offered = refl; accepted = refl }

same_configuration : (s : Devices) → KeepsConfiguration s s
same_configuration s = record { generation = refl; cols = refl; rows = refl }

-- what a signal leaves of the page
signal_page : (bit : ℕ) (regs : MmioRegisters) → KeepsPage regs.con (signal bit Con regs).con
signal_page bit regs = record { device_features_select = refl; driver_features_select = refl; queue_select = refl; queues = refl }

after_page : (n : ℕ) (regs : MmioRegisters) (s : Serving) (came : Served) → KeepsPage regs.con (after_serve mmio_table Con n regs s came).registers.con
after_page n regs s served.Idle = same_page regs.con
after_page n regs s served.Quiet = same_page regs.con
after_page n regs s served.Signal = signal_page 1 regs
after_page n regs s served.Bad = signal_page 2 regs

after_devices : (n : ℕ) (regs : MmioRegisters) (s : Serving) (came : Served) → (after_serve mmio_table Con n regs s came).devices ≡ s.devices
after_devices n regs s served.Idle = refl
after_devices n regs s served.Quiet = refl
after_devices n regs s served.Signal = refl
after_devices n regs s served.Bad = refl

-- what holds where nothing is served and whatever a ring shows, holds after a serve of any console
module _ (M : Serving → Type 0) (s : Devices) (n : ℕ) (mem : List ℕ) (rests : M (idle s mem)) (shows : (q : QueueState) (r : SetRing) (seen : Walked) → M (serve_shown s n q r mem seen)) where
  by_if : (test : Bool) (x y : Serving) → M x → M y → M (if test then x else y)
  by_if true x y at_x at_y = at_x
  by_if false x y at_x at_y = at_y

  by_ring : (q : QueueState) (o : Option SetRing) → M (serve_ring s n q o mem)
  by_ring q None = rests
  by_ring q (Some r) = by_if q.kick (serve_shown s n q r mem (walk r.kind mem r.queue)) (idle s mem) (shows q r (walk r.kind mem r.queue)) rests

  by_queue : (q : Option QueueState) → M (serve_console s n q mem)
  by_queue None = rests
  by_queue (Some q) = by_if (is_driven s.con.status && has_work s n) (serve_ring s n q q.ring mem) (idle s mem) (by_ring q q.ring) rests

-- a serve leaves features and configuration
shown_features : (s : Devices) (n : ℕ) (mem : List ℕ) (q : QueueState) (r : SetRing) (seen : Walked) → KeepsFeatures s (serve_shown s n q r mem seen).devices
shown_features s n mem q r Empty = record { offered = refl; accepted = refl }
shown_features s n mem q r Bad = record { offered = refl; accepted = refl }
shown_features s n mem q r (Front c) = record { offered = refl; accepted = refl }

shown_configuration : (s : Devices) (n : ℕ) (mem : List ℕ) (q : QueueState) (r : SetRing) (seen : Walked) → KeepsConfiguration s (serve_shown s n q r mem seen).devices
shown_configuration s n mem q r Empty = record { generation = refl; cols = refl; rows = refl }
shown_configuration s n mem q r Bad = record { generation = refl; cols = refl; rows = refl }
shown_configuration s n mem q r (Front c) = record { generation = refl; cols = refl; rows = refl }

module _ (raw : Raw MmioRegisters) where
  abbrev pub left_by : ℕ → Serving
  left_by n = serve_console raw.devices n (slice_get raw.devices.con.queues n) raw.memory

  serve_features : (n : ℕ) → KeepsFeatures raw.devices (raw_event mmio_table raw (event.Serve Con n)).devices
  serve_features n =
      subst (KeepsFeatures raw.devices) (sym (after_devices n raw.registers (left_by n) (left_by n).served))
      (by_queue (λ (s : Serving). KeepsFeatures raw.devices s.devices) raw.devices n raw.memory (same_features raw.devices) (shown_features raw.devices n raw.memory) (slice_get raw.devices.con.queues n))

  serve_configuration : (n : ℕ) → KeepsConfiguration raw.devices (raw_event mmio_table raw (event.Serve Con n)).devices
  serve_configuration n =
      subst (KeepsConfiguration raw.devices) (sym (after_devices n raw.registers (left_by n) (left_by n).served))
      (by_queue (λ (s : Serving). KeepsConfiguration raw.devices s.devices) raw.devices n raw.memory (same_configuration raw.devices) (shown_configuration raw.devices n raw.memory) (slice_get raw.devices.con.queues n))

  -- a console of another size, with its signal or without
  abbrev pub resized : ℕ → ℕ → Devices
  resized cols rows = record raw.devices { con = next_generation raw.devices.con; contents = content_after (event.Consize cols rows) raw.devices.con.status raw.devices.contents }

  pub by_consize : (M : Raw MmioRegisters → Type 0) (cols rows : ℕ) → M (record { registers = signal CONFIGURATION_CHANGE Con raw.registers; devices = resized cols rows; memory = raw.memory })
      → M (record { registers = raw.registers; devices = resized cols rows; memory = raw.memory }) → M (raw_event mmio_table raw (event.Consize cols rows))
  by_consize M cols rows signals plain =
      elim (has_bits raw.devices.con.status.status DRIVER_OK) as (λ (t : Bool). M (if t then signalled (resized cols rows) (signal CONFIGURATION_CHANGE Con raw.registers, raw.memory) else record { registers = raw.registers; devices = resized cols rows; memory = raw.memory })) [
        | true ↦ signals
        | false ↦ plain
      ]

-- events keep the selectors and the registers of the queues
pub event_page : (raw : Raw MmioRegisters) (e : Event) → KeepsPage raw.registers.con (raw_event mmio_table raw e).registers.con
event_page raw (event.Serve Con n) = after_page n raw.registers (left_by raw n) (left_by raw n).served
event_page raw (event.Serve Blk n) = same_page raw.registers.con
event_page raw (event.Serve Net n) = same_page raw.registers.con
event_page raw (event.Frame bytes) = same_page raw.registers.con
event_page raw (event.Key bytes) = same_page raw.registers.con
event_page raw (event.Resize sectors) = same_page raw.registers.con
event_page raw (event.Link up) = same_page raw.registers.con
event_page raw (event.Consize cols rows) = by_consize raw (λ (raw2 : Raw MmioRegisters). KeepsPage raw.registers.con raw2.registers.con) cols rows (signal_page 2 raw.registers) (same_page raw.registers.con)
event_page raw (event.Diskfail call) = same_page raw.registers.con

-- the offered and the accepted features
pub event_features : (raw : Raw MmioRegisters) (e : Event) → KeepsFeatures raw.devices (raw_event mmio_table raw e).devices
event_features raw (event.Serve Con n) = serve_features raw n
event_features raw (event.Serve Blk n) = same_features raw.devices
event_features raw (event.Serve Net n) = same_features raw.devices
event_features raw (event.Frame bytes) = same_features raw.devices
event_features raw (event.Key bytes) = record { offered = refl; accepted = refl }
event_features raw (event.Resize sectors) = same_features raw.devices
event_features raw (event.Link up) = same_features raw.devices
event_features raw (event.Consize cols rows) =
    by_consize raw (λ (raw2 : Raw MmioRegisters). KeepsFeatures raw.devices raw2.devices) cols rows (record { offered = refl; accepted = refl }) (record { offered = refl; accepted = refl })
event_features raw (event.Diskfail call) = same_features raw.devices

-- the configuration is as it was, or its generation is the next one
pub data ConfigurationAfter (s s2 : Devices) : Type 0 where
  Still : KeepsConfiguration s s2 → ConfigurationAfter s s2
  Moved : s2.con.generation ≡ (s.con.generation + 1) % 2 ^ 32 → ConfigurationAfter s s2

pub event_configuration : (raw : Raw MmioRegisters) (e : Event) → ConfigurationAfter raw.devices (raw_event mmio_table raw e).devices
event_configuration raw (event.Serve Con n) = Still (serve_configuration raw n)
event_configuration raw (event.Serve Blk n) = Still (same_configuration raw.devices)
event_configuration raw (event.Serve Net n) = Still (same_configuration raw.devices)
event_configuration raw (event.Frame bytes) = Still (same_configuration raw.devices)
event_configuration raw (event.Key bytes) = Still (record { generation = refl; cols = refl; rows = refl })
event_configuration raw (event.Resize sectors) = Still (same_configuration raw.devices)
event_configuration raw (event.Link up) = Still (same_configuration raw.devices)
event_configuration raw (event.Consize cols rows) = by_consize raw (λ (raw2 : Raw MmioRegisters). ConfigurationAfter raw.devices raw2.devices) cols rows (Moved refl) (Moved refl)
event_configuration raw (event.Diskfail call) = Still (same_configuration raw.devices)
