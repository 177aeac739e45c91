use Rattle.std.specs.Prelude.{ℕ, ◌+◌, ◌==◌, nat_lt, List, [], ◌∷◌, ◌++◌, drop, length, replicate, Option, Some, None, if◌then◌else◌}

-- a network device: the frames that wait, the frames that were sent, and how many more of these are spare
pub record NetworkState : Type 0 where
  pub waiting : List (List ℕ)
  pub sent : List (List ℕ)
  pub spare : ℕ

-- the answer to a buffer: the bytes written into it, or None where the buffer is not used, and what waits and was sent then
pub record NetworkAnswer : Type 0 where
  pub written : Option (List ℕ)
  pub waiting : List (List ℕ)
  pub sent : List (List ℕ)

-- how many bytes the header in front of a frame has (VIRTIO 1.2, 5.1.6)
abbrev pub HEADER_LENGTH : ℕ
HEADER_LENGTH = 12

-- the header of a frame that a device gives: ten zero bytes, and num_buffers, which is 1 (VIRTIO 1.2, 5.1.6.4)
abbrev pub RECEIVED_HEADER : List ℕ
RECEIVED_HEADER = replicate 10 0 ++ 1 ∷ 0 ∷ []

-- the frame behind its header, or None where there is too little room for both
abbrev pub packet_in : ℕ → List ℕ → Option (List ℕ)
packet_in room frame = if nat_lt room (HEADER_LENGTH + length frame) then None else Some (RECEIVED_HEADER ++ frame)

-- a buffer of the receive queue takes the front frame, which is dropped where there is too little room (VIRTIO 1.2, 5.1.6.4;
-- that it is dropped is our own). Without a frame nothing happens
abbrev pub receive_answer : ℕ → List (List ℕ) → List (List ℕ) → NetworkAnswer
receive_answer room [] sent = record { written = None; waiting = []; sent = sent }
receive_answer room (frame ∷ rest) sent = record { written = packet_in room frame; waiting = rest; sent = sent }

-- the sent frames once these bytes have come: those behind the header are one frame, perhaps an empty one; bytes without a
-- whole header are none
abbrev pub with_sent : List (List ℕ) → List ℕ → List (List ℕ)
with_sent sent readable = if nat_lt (length readable) HEADER_LENGTH then sent else sent ++ drop HEADER_LENGTH readable ∷ []

-- a buffer of the transmit queue is one frame behind its header (VIRTIO 1.2, 5.1.6.2). Nothing is written into it
abbrev pub transmit_answer : List ℕ → List (List ℕ) → List (List ℕ) → NetworkAnswer
transmit_answer readable waiting sent = record { written = Some []; waiting = waiting; sent = with_sent sent readable }

-- nothing comes of a queue that a network device doesn't have
abbrev pub no_answer : List (List ℕ) → List (List ℕ) → NetworkAnswer
no_answer waiting sent = record { written = None; waiting = waiting; sent = sent }

-- the answer on a queue: 0 is the receive queue, 1 the transmit queue (VIRTIO 1.2, 5.1.2)
abbrev pub net_answer : ℕ → List ℕ → ℕ → List (List ℕ) → List (List ℕ) → NetworkAnswer
net_answer queue readable room waiting sent =
    if queue == 0
    then receive_answer room waiting sent
    else (if queue == 1
    then transmit_answer readable waiting sent
    else no_answer waiting sent)

-- the greatest number of waiting frames (our own)
abbrev pub MOST_WAITING : ℕ
MOST_WAITING = 64

-- the waiting frames once this one has come: where the greatest number waits it is dropped
abbrev pub with_frame : List (List ℕ) → List ℕ → List (List ℕ)
with_frame waiting frame = if nat_lt (length waiting) MOST_WAITING then waiting ++ frame ∷ [] else waiting
