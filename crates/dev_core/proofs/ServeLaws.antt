-- What the steps of serving a queue come to.
use Rattle.std.proofs.Common.{◌≡◌, ℕ, zero, suc, ◌≤◌, List, [], ◌∷◌, length, true, false, IsTrue, Option, Some, None, refl, sym, ◌∙◌, ap, arith}
use Rattle.std.specs.Prelude.{◌+◌, slice_get, slice_set}
use Rattle.vt_types.specs.Limits.{LONGEST_BUFFER}
use Rattle.vq_common.specs.declared.chain.Piece.{Piece}
use Rattle.vq_common.specs.Piece.{keeps_rules, readable, room}
use Rattle.vq_common.specs.Chain.{ChainValue, Walked, Bad, Front, IsShown}
use Rattle.vq_common.specs.Queue.{DeviceQueue}
use Rattle.vq_split_dev.specs.Walk.{split_areas_inside}
use Rattle.vq_split_dev.specs.Shown.{shown}
use Rattle.dev_console.specs.Console.{ConsoleState}
use Rattle.dev_console.specs.Serve.{Serves, chain_answer}
use Rattle.dev_console.proofs.ConsoleLaws.{console-le, readable_fits}
use Rattle.dev_core.specs.declared.ring.RingKind.{RingKind}
use Rattle.dev_core.specs.declared.ring.RingKind.TheVariants.{Split}
use Rattle.dev_core.specs.declared.served.Served.TheVariants as served
use Rattle.dev_core.specs.Device.{DeviceState, QueueState, with_queue}
use Rattle.dev_core.specs.Devices.{Devices}
use Rattle.dev_core.specs.Ring.{SetRing, showed, walk}
use Rattle.dev_core.specs.Serve.{IsTaken, broken_by, devices_of, idle, serve_ring, serve_shown}

-- an item that is written where it stands changes nothing
slice_set-same : {X : Type 0} → (xs : List X) (n : ℕ) (x : X) → slice_get xs n ≡ Some x → slice_set xs n x ≡ xs
slice_set-same [] n x is = refl
slice_set-same (y ∷ xs) zero x is = ap (λ (z : _). z ∷ xs) (sym (cc))
slice_set-same (y ∷ xs) (suc n) x is = ap (λ (ys : List _). y ∷ ys) (slice_set-same xs n x is)

-- a queue that is as it was
pub with_queue-same : (d : DeviceState) (n : ℕ) (q : QueueState) → slice_get d.queues n ≡ Some q → with_queue d n q ≡ d
with_queue-same d n q is = ap (λ (qs : List QueueState). record d { queues = qs }) (slice_set-same d.queues n q is)

-- a chain that a ring shows may be answered once it is taken
taken_by : (kind : RingKind) (mem : List ℕ) (q : DeviceQueue) (c : ChainValue) → walk kind mem q ≡ Front c
    → IsTaken (length mem) (showed (record { kind = kind; queue = q }) (Front c)) c
taken_by Split mem q c is =
    let facts : IsShown split_areas_inside (length mem) q c = shown mem q c is in
    record { rules = facts.rules; areas = facts.areas; slots = facts.slots }

pub taken : (mem : List ℕ) (r r2 : SetRing) (c : ChainValue) → Front c ≡ walk r.kind mem r.queue → r2 ≡ showed r (Front c) → IsTaken (length mem) r2 c
taken mem r r2 c shows is = rw is (taken_by r.kind mem r.queue c (sym shows))

-- serving a chain takes no more spare bytes of the console than a chain may have bytes
pub serves-spare : (n : ℕ) (mem mem2 : List ℕ) (ps : List Piece) (old new : ConsoleState) (count : ℕ) → IsTrue (keeps_rules (length mem) ps)
    → Serves (chain_answer n mem ps old) ps mem mem2 old new count → old.spare ≤ new.spare + LONGEST_BUFFER
serves-spare n mem mem2 ps old new count rules served =
    let few : length (readable mem ps) ≤ LONGEST_BUFFER = readable_fits mem ps rules in
    let more : length new.console ≤ length old.console + length (readable mem ps) =
    rw served.console (console-le n (readable mem ps) (room ps) old.waiting old.console) in
    omega (arith, served.spare)

-- a queue that serves nothing is as it was
idle_serves : (d : DeviceState) (cols rows : ℕ) (s : ConsoleState) (n : ℕ) (q : QueueState) (mem : List ℕ) → slice_get d.queues n ≡ Some q
    → idle (devices_of d cols rows s) mem ≡ record { served = served.Idle; devices = devices_of (with_queue d n q) cols rows s; memory = mem }
idle_serves d cols rows s n q mem there = ap (λ (x : DeviceState). idle (devices_of x cols rows s) mem) (sym (with_queue-same d n q there))

-- one that is not set serves nothing
pub unset_serves : (d : DeviceState) (cols rows : ℕ) (s : ConsoleState) (n : ℕ) (q : QueueState) (mem : List ℕ) → q.ring ≡ None → slice_get d.queues n ≡ Some q
    → serve_ring (devices_of d cols rows s) n q q.ring mem ≡ record { served = served.Idle; devices = devices_of (with_queue d n q) cols rows s; memory = mem }
unset_serves d cols rows s n q mem unset there =
    ap (λ (o : Option SetRing). serve_ring (devices_of d cols rows s) n q o mem) unset ∙ idle_serves d cols rows s n q mem there

-- one that was not kicked serves nothing
idle_ring : (s : Devices) (n : ℕ) (q : QueueState) (o : Option SetRing) (mem : List ℕ) → q.kick ≡ false → serve_ring s n q o mem ≡ idle s mem
idle_ring s n q None mem off = refl
idle_ring s n q (Some r) mem off = rw off refl

pub unkicked_serves : (d : DeviceState) (cols rows : ℕ) (s : ConsoleState) (n : ℕ) (q : QueueState) (mem : List ℕ) → q.kick ≡ false → slice_get d.queues n ≡ Some q
    → serve_ring (devices_of d cols rows s) n q q.ring mem ≡ record { served = served.Idle; devices = devices_of (with_queue d n q) cols rows s; memory = mem }
unkicked_serves d cols rows s n q mem off there = idle_ring (devices_of d cols rows s) n q q.ring mem off ∙ idle_serves d cols rows s n q mem there

-- of one that is set and was kicked, what the ring shows decides
kicked_ring : (s : Devices) (n : ℕ) (q : QueueState) (r : SetRing) (mem : List ℕ) (w : Walked) → q.kick ≡ true → walk r.kind mem r.queue ≡ w → serve_ring s n q (Some r) mem ≡ serve_shown s n q r mem w
kicked_ring s n q r mem w on shows = rw (on, shows) refl

-- what is malformed makes the device need a reset
pub malformed_serves : (d : DeviceState) (cols rows : ℕ) (s : ConsoleState) (n : ℕ) (q q2 : QueueState) (r : SetRing) (mem : List ℕ) → q.ring ≡ Some r → q.kick ≡ true → Bad ≡ walk r.kind mem r.queue → q2 ≡ q
    → slice_get d.queues n ≡ Some q
    → serve_ring (devices_of d cols rows s) n q q.ring mem
    ≡ record { served = served.Bad; devices = devices_of (broken_by served.Bad (with_queue d n q2)) cols rows s; memory = mem }
malformed_serves d cols rows s n q q2 r mem set on shows same there =
    ap (λ (o : Option SetRing). serve_ring (devices_of d cols rows s) n q o mem) set
    ∙ kicked_ring (devices_of d cols rows s) n q r mem Bad on (sym shows)
    ∙ ap (λ (x : DeviceState). record { served = served.Bad; devices = devices_of (broken_by served.Bad x) cols rows s; memory = mem })
    (sym (with_queue-same d n q there) ∙ ap (with_queue d n) (sym same))
