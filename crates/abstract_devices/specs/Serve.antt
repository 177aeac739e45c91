use Rattle.std.specs.Prelude.{ℕ, ◌==◌, ◌&&◌, nat_lt, List, [], ◌∷◌, ◌++◌, length, Bool, true, false, Option, Some, None, if◌then◌else◌}
use Rattle.vt_types.specs.declared.device.Dev.{Dev}
use Rattle.vt_types.specs.declared.device.Dev.TheVariants.{Blk, Net, Con}
use Rattle.dev_status.specs.Status.{has_bits}
use Rattle.vt_types.specs.Status.{DRIVER_OK}
use Rattle.dev_console.specs.Console.{ConsoleAnswer, console_answer}
use Rattle.device_contents.specs.Contents.{with_answer, with_console}
use Rattle.abstract_devices.specs.World.{World, AbstractDevice, AbstractQueue, Buffer, UsedBuffer, SignalMode, Always, Never, First, queue, with_queue}

-- whether a used buffer is signalled, by the mode and the buffers that were used before
abbrev pub signals : SignalMode → List UsedBuffer → Bool
signals Always used = true
signals Never used = false
signals First [] = true
signals First (u ∷ us) = false

-- a number joins a rising list
abbrev pub with_number : ℕ → List ℕ → List ℕ
with_number n [] = n ∷ []
with_number n (m ∷ ms) = if n == m then m ∷ ms else (if nat_lt n m then n ∷ m ∷ ms else m ∷ with_number n ms)

-- the receive queue of the console is served only where input waits
abbrev pub is_served : World → ℕ → Bool
is_served w n = if n == 0 then nat_lt 0 (length w.contents.console.waiting) else true

-- the front buffer moves to the used ones, with these bytes written
abbrev pub use_front : AbstractDevice → ℕ → AbstractQueue → Buffer → List Buffer → List ℕ → AbstractDevice
use_front d n q b bs written =
    record (with_queue d n (record q { available = bs; used = q.used ++ record { tag = b.tag; slots = b.slots; written = written } ∷ [] })) {
      signalled = if signals q.mode q.used then with_number n d.signalled else d.signalled;
    }

-- a console buffer was answered
abbrev pub answered : World → ℕ → AbstractQueue → Buffer → List Buffer → ConsoleAnswer → World
answered w n q b bs a = record w { devices = record w.devices { con = use_front w.devices.con n q b bs a.written }; contents = with_console (with_answer a) w.contents }

-- the front buffer of a console queue is answered; where there is none, the kick ends
abbrev pub serve_front : World → ℕ → AbstractQueue → List Buffer → World
serve_front w n q [] = record w { devices = record w.devices { con = with_queue w.devices.con n (record q { kick = false }) } }
serve_front w n q (b ∷ bs) = answered w n q b bs (console_answer n b.readable b.room w.contents.console.waiting w.contents.console.console)

-- a console queue is served where DRIVER_OK stands and it is set and was kicked
abbrev pub serve_console : World → ℕ → Option AbstractQueue → World
serve_console w n None = w
serve_console w n (Some q) = if has_bits w.devices.con.status DRIVER_OK && q.kick && is_served w n then serve_front w n q q.available else w

-- the device serves one buffer of a queue; the block and the network device are not there yet
abbrev pub serve : World → Dev → ℕ → World
serve w Blk n = w
serve w Net n = w
serve w Con n = serve_console w n (queue w.devices.con n)
