use Rattle.std.specs.Prelude.{ℕ, ◌+◌, nat_le, List, map, Bool}
use Rattle.std.specs.List.{list_all}
use Rattle.arrayvec.specs.ArrayVec.{ArrayVec}
use Rattle.guest_mem.specs.Memory.{part}
use Rattle.dev_net.specs.declared.sent.SentFrame.{SentFrame}

-- the frames that wait in these buffers
abbrev pub waiting_frames : List (ArrayVec ℕ) → List (List ℕ)
waiting_frames buffers = map (λ (b : ArrayVec ℕ). b.items) buffers

-- the sent frames that lie so among these bytes
abbrev pub sent_frames : List ℕ → List SentFrame → List (List ℕ)
sent_frames bytes frames = map (λ (f : SentFrame). part bytes f.start f.len) frames

-- all of them lie among so many bytes
abbrev pub are_inside : ℕ → List SentFrame → Bool
are_inside count frames = list_all (λ (f : SentFrame). nat_le (f.start + f.len) count) frames
