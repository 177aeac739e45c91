-- What the network device's rules keep.
use Rattle.std.proofs.Common.{◌≡◌, ℕ, ◌+◌, ◌≤◌, List, [], ◌∷◌, ◌++◌, length, Bool, true, false, IsTrue, Option, Some, None, refl, ◌∙◌, ap, arith, length-append}
use Rattle.std.specs.Prelude.{nat_lt, if◌then◌else◌}
use Rattle.std.proofs.lemmas.Bool.{ltb-true}
use Rattle.vq_common.specs.declared.chain.Piece.{Piece}
use Rattle.vq_common.specs.Piece.{SameBytes, keeps_rules, readable, room}
use Rattle.vq_common.proofs.RuleFacts.{rules_inside}
use Rattle.vq_common.proofs.CutLaws.{readable-same_bytes, room-same_bytes, scatter-same_bytes}
use Rattle.dev_net.specs.Network.{NetworkState, NetworkAnswer, MOST_WAITING, net_answer, with_frame}
use Rattle.dev_net.specs.Serve.{Serves, chain_answer, memory_after, written_count}

-- chains of the same bytes get the same answer, however they are cut
pub chain_answer-same_bytes : (queue : ℕ) (mem : List ℕ) (ps qs : List Piece) (s : NetworkState) → SameBytes ps qs → chain_answer queue mem ps s ≡ chain_answer queue mem qs s
chain_answer-same_bytes queue mem ps qs s same =
    ap (λ (bytes : List ℕ). net_answer queue bytes (room ps) s.waiting s.sent) (readable-same_bytes mem ps qs same)
    ∙ ap (λ (n : ℕ). net_answer queue (readable mem qs) n s.waiting s.sent) (room-same_bytes ps qs same)

memory_after-same_bytes : (mem : List ℕ) (ps qs : List Piece) (written : Option (List ℕ)) → IsTrue (keeps_rules (length mem) ps) → SameBytes ps qs → memory_after mem ps written ≡ memory_after mem qs written
memory_after-same_bytes mem ps qs None test same = refl
memory_after-same_bytes mem ps qs (Some bytes) test same = scatter-same_bytes mem ps qs bytes (rules_inside (length mem) ps test) same

-- and serving them leaves the same memory and the same device
pub Serves-same_bytes : (queue : ℕ) (mem mem2 : List ℕ) (ps qs : List Piece) (s s2 : NetworkState) (count : Option ℕ) → IsTrue (keeps_rules (length mem) ps) → SameBytes ps qs
    → Serves (chain_answer queue mem ps s) ps mem mem2 s s2 count → Serves (chain_answer queue mem qs s) qs mem mem2 s s2 count
Serves-same_bytes queue mem mem2 ps qs s s2 count test same served =
    let e : chain_answer queue mem ps s ≡ chain_answer queue mem qs s = chain_answer-same_bytes queue mem ps qs s same in
    record {
      memory = served.memory ∙ ap (λ (a : NetworkAnswer). memory_after mem ps a.written) e ∙ memory_after-same_bytes mem ps qs (chain_answer queue mem qs s).written test same;
      number = served.number ∙ ap (λ (a : NetworkAnswer). written_count a.written) e;
      waiting = served.waiting ∙ ap (λ (a : NetworkAnswer). a.waiting) e;
      sent = served.sent ∙ ap (λ (a : NetworkAnswer). a.sent) e;
      spare = served.spare;
    }

by_test : (test : Bool) (waiting : List (List ℕ)) (frame : List ℕ) → (test ≡ true → length waiting + 1 ≤ MOST_WAITING) → length waiting ≤ MOST_WAITING
    → length (if test then waiting ++ frame ∷ [] else waiting) ≤ MOST_WAITING
by_test true waiting frame less few = omega (arith, less refl, length-append waiting (frame ∷ []))
by_test false waiting frame less few = few

-- never more frames wait than may
pub length-with_frame : (waiting : List (List ℕ)) (frame : List ℕ) → length waiting ≤ MOST_WAITING → length (with_frame waiting frame) ≤ MOST_WAITING
length-with_frame waiting frame few =
    by_test (nat_lt (length waiting) MOST_WAITING) waiting frame (λ e. omega (arith, ltb-true (length waiting) MOST_WAITING e)) few
