use Rattle.std.specs.Prelude.{◌≡◌, ℕ, ◌+◌, ◌≤◌, IsTrue, ◌==◌, ◌&&◌, not, nat_lt, List, length, Bool, true, false, Option, Some, None, slice_get, if◌then◌else◌}
use Rattle.vt_types.specs.declared.device.Dev.{Dev}
use Rattle.vt_types.specs.declared.device.Dev.TheVariants.{Blk, Net, Con}
use Rattle.vt_types.specs.Status.{DRIVER_OK, DEVICE_NEEDS_RESET}
use Rattle.vq_common.specs.Chain.{ChainValue, Walked, Empty, Bad, Front}
use Rattle.vq_common.specs.Piece.{keeps_rules, readable, room, scatter}
use Rattle.vq_common.specs.Queue.{Given}
use Rattle.dev_status.specs.Status.{StatusState, has_bits, needs_reset_of}
use Rattle.dev_console.specs.Console.{ConsoleAnswer, ConsoleState, console_answer}
use Rattle.device_contents.specs.Contents.{Contents, new_contents, with_answer, with_console}
use Rattle.dev_core.specs.declared.served.Served.{Served}
use Rattle.dev_core.specs.declared.served.Served.TheVariants as served
use Rattle.dev_core.specs.Ring.{SetRing, walk, taken, given, areas_inside}
use Rattle.dev_core.specs.Device.{DeviceState, QueueState, with_queue}
use Rattle.dev_core.specs.Devices.{Devices}

-- what serving leaves: whether something is to be signalled, the set, and memory
pub record Serving : Type 0 where
  pub served : Served
  pub devices : Devices
  pub memory : List ℕ

-- nothing was served
abbrev pub idle : Devices → List ℕ → Serving
idle s mem = record { served = served.Idle; devices = s; memory = mem }

-- the driver runs the device (VIRTIO 1.2, 2.1)
abbrev pub is_driven : StatusState → Bool
is_driven s = has_bits s.status DRIVER_OK && not (has_bits s.status DEVICE_NEEDS_RESET)

-- a buffer was used: that the queue signals
abbrev pub used : Bool → Served
used signals = if signals then served.Signal else served.Quiet

-- an answer is given to a chain: its bytes go into the writable pieces in order, then the used element is written, and then
-- the index (VIRTIO 1.2, 2.7.8)
abbrev pub answered : SetRing → ChainValue → ConsoleAnswer → List ℕ → Given
answered r c a mem = given r.kind (scatter mem c.pieces a.written) (taken r.kind r.queue c) c (length a.written)

-- a chain of the console was given back
abbrev pub gave : Devices → ℕ → QueueState → SetRing → ConsoleAnswer → Given → Serving
gave s n q r a g =
    record {
      served = used g.signals;
      devices = record s { con = with_queue s.con n (record q { ring = Some (record r { queue = g.queue }) }); contents = with_console (with_answer a) s.contents };
      memory = g.memory;
    }

-- a chain of the console is answered
abbrev pub serve_chain : Devices → ℕ → QueueState → SetRing → ChainValue → List ℕ → Serving
serve_chain s n q r c mem =
    let a = console_answer n (readable mem c.pieces) (room c.pieces) s.contents.console.waiting s.contents.console.console in
    gave s n q r a (answered r c a mem)

-- what the ring shows decides: nothing ends the kick; something malformed makes the device need a reset
abbrev pub serve_shown : Devices → ℕ → QueueState → SetRing → List ℕ → Walked → Serving
serve_shown s n q r mem Empty = record { served = served.Idle; devices = record s { con = with_queue s.con n (record q { kick = false }) }; memory = mem }
serve_shown s n q r mem Bad = record { served = served.Bad; devices = record s { con = record s.con { status = needs_reset_of s.con.status } }; memory = mem }
serve_shown s n q r mem (Front c) = serve_chain s n q r c mem

-- a queue that is set and kicked is served
abbrev pub serve_ring : Devices → ℕ → QueueState → Option SetRing → List ℕ → Serving
serve_ring s n q None mem = idle s mem
serve_ring s n q (Some r) mem = if q.kick then serve_shown s n q r mem (walk r.kind mem r.queue) else idle s mem

-- the receive queue of the console is served only where input waits
abbrev pub has_work : Devices → ℕ → Bool
has_work s n = if n == 0 then nat_lt 0 (length s.contents.console.waiting) else true

abbrev pub serve_console : Devices → ℕ → Option QueueState → List ℕ → Serving
serve_console s n None mem = idle s mem
serve_console s n (Some q) mem = if is_driven s.con.status && has_work s n then serve_ring s n q q.ring mem else idle s mem

-- a device serves one buffer of a queue (VIRTIO 1.2, 2.6); one that is not there serves nothing
abbrev pub serve : Devices → Dev → ℕ → List ℕ → Serving
serve s Blk n mem = idle s mem
serve s Net n mem = idle s mem
serve s Con n mem = serve_console s n (slice_get s.con.queues n) mem

-- the steps of serving, as the calls that serve take them

-- what the devices hold, by the console's size in characters and what it keeps: the others are not there yet
abbrev pub contents_of : ℕ → ℕ → ConsoleState → Contents
contents_of cols rows s = record new_contents { console = record { cols = cols; rows = rows; waiting = s.waiting; console = s.console } }

-- the console of a device, its size in characters, and what it keeps
abbrev pub devices_of : DeviceState → ℕ → ℕ → ConsoleState → Devices
devices_of d cols rows s = record { con = d; contents = contents_of cols rows s }

-- what came of serving a queue breaks a device or leaves it
abbrev pub broken_by : Served → DeviceState → DeviceState
broken_by served.Idle d = d
broken_by served.Quiet d = d
broken_by served.Signal d = d
broken_by served.Bad d = record d { status = needs_reset_of d.status }

-- a chain was taken from a ring, and may be answered and given back
pub record IsTaken (memory : ℕ) (r : SetRing) (c : ChainValue) : Type 0 where
  pub rules : IsTrue (keeps_rules memory c.pieces)
  pub areas : IsTrue (areas_inside memory r)
  pub slots : c.slots ≤ r.queue.cfg.size

-- a chain was answered and given back: memory, whether the queue signals, its ring, and what the console keeps
pub record Answers (a : ConsoleAnswer) (g : Given) (r r2 : SetRing) (mem2 : List ℕ) (came : Served) (old new : ConsoleState) : Type 0 where
  pub memory : mem2 ≡ g.memory
  pub signals : came ≡ used g.signals
  pub ring : r2 ≡ record r { queue = g.queue }
  pub waiting : new.waiting ≡ a.waiting
  pub console : new.console ≡ a.console
  pub spare : new.spare + length new.console ≡ old.spare + length old.console
