-- What the console's rules keep.
use Rattle.std.proofs.Common.{◌≡◌, ℕ, zero, suc, ◌+◌, ◌-◌, ◌≤◌, ◌==◌, List, [], ◌∷◌, ◌++◌, length, take, true, false, IsTrue, if◌then◌else◌, refl, sym, ◌∙◌, ap, arith, length-take, length-append, append_assoc}
use Rattle.std.proofs.Math.Seq.{take-nil}
use Rattle.std.proofs.lemmas.List.{take-append-drop}
use Rattle.vq_common.specs.declared.chain.Piece.{Piece}
use Rattle.vq_common.specs.Piece.{SameBytes, keeps_rules, readable, room, scatter}
use Rattle.vq_common.proofs.RuleFacts.{rules_inside, readable_len-le}
use Rattle.vq_common.proofs.PieceLaws.{length-readable}
use Rattle.vq_common.proofs.CutLaws.{readable-same_bytes, room-same_bytes, scatter-same_bytes}
use Rattle.dev_console.specs.Console.{ConsoleState, ConsoleAnswer, MOST_WAITING, console_answer, no_answer, receive_answer, transmit_answer, with_input}
use Rattle.dev_console.specs.Serve.{Serves, chain_answer}

-- the readable bytes of a chain are at most 8,192, so `reserve` sees to spare bytes for those of 129 chains
pub readable_fits : (mem : List ℕ) (ps : List Piece) → IsTrue (keeps_rules (length mem) ps) → length (readable mem ps) ≤ 8192
readable_fits mem ps test = omega (arith, length-readable mem ps (rules_inside (length mem) ps test), readable_len-le (length mem) ps test)

-- chains of the same bytes get the same answer, however they are cut
pub chain_answer-same_bytes : (queue : ℕ) (mem : List ℕ) (ps qs : List Piece) (s : ConsoleState) → SameBytes ps qs → chain_answer queue mem ps s ≡ chain_answer queue mem qs s
chain_answer-same_bytes queue mem ps qs s same =
    ap (λ (bytes : List ℕ). console_answer queue bytes (room ps) s.waiting s.console) (readable-same_bytes mem ps qs same)
    ∙ ap (λ (n : ℕ). console_answer queue (readable mem qs) n s.waiting s.console) (room-same_bytes ps qs same)

-- and serving them leaves the same memory and the same console
pub Serves-same_bytes : (queue : ℕ) (mem mem2 : List ℕ) (ps qs : List Piece) (s s2 : ConsoleState) (count : ℕ) → IsTrue (keeps_rules (length mem) ps) → SameBytes ps qs
    → Serves (chain_answer queue mem ps s) ps mem mem2 s s2 count → Serves (chain_answer queue mem qs s) qs mem mem2 s s2 count
Serves-same_bytes queue mem mem2 ps qs s s2 count test same served =
    let e : chain_answer queue mem ps s ≡ chain_answer queue mem qs s = chain_answer-same_bytes queue mem ps qs s same in
    record {
      memory = served.memory ∙ ap (λ (a : ConsoleAnswer). scatter mem ps a.written) e ∙ scatter-same_bytes mem ps qs (chain_answer queue mem qs s).written (rules_inside (length mem) ps test) same;
      number = served.number ∙ ap (λ (a : ConsoleAnswer). length a.written) e;
      waiting = served.waiting ∙ ap (λ (a : ConsoleAnswer). a.waiting) e;
      console = served.console ∙ ap (λ (a : ConsoleAnswer). a.console) e;
      spare = served.spare;
    }

-- what holds of the answers on both queues, and where there is none, holds of every answer
by_queue : (P : ConsoleAnswer → Type 0) (queue : ℕ) (bytes : List ℕ) (n : ℕ) (waiting console : List ℕ) → P (console_answer 0 bytes n waiting console) → P (console_answer 1 bytes n waiting console) → P (no_answer waiting console) → P (console_answer queue bytes n waiting console)
by_queue P queue bytes n waiting console received sent none =
    elim (queue == 0) as (λ t. P (if t then receive_answer n waiting console else (if queue == 1 then transmit_answer bytes waiting console else no_answer waiting console))) [
      | true ↦ received
      | false ↦ elim (queue == 1) as (λ t. P (if t then transmit_answer bytes waiting console else no_answer waiting console)) [ true ↦ sent | false ↦ none ]
    ]

-- no more is written than there is room for
pub written-le : (queue : ℕ) (bytes : List ℕ) (n : ℕ) (waiting console : List ℕ) → length (console_answer queue bytes n waiting console).written ≤ n
written-le queue bytes n waiting console = by_queue (λ a. length a.written ≤ n) queue bytes n waiting console (omega (arith, length-take n waiting)) (omega arith) (omega arith)

-- no more joins the console than was readable
pub console-le : (queue : ℕ) (bytes : List ℕ) (n : ℕ) (waiting console : List ℕ) → length (console_answer queue bytes n waiting console).console ≤ length console + length bytes
console-le queue bytes n waiting console =
    by_queue (λ a. length a.console ≤ length console + length bytes) queue bytes n waiting console (omega arith) (omega (arith, length-append console bytes)) (omega arith)

-- no input is lost or doubled: what was written and what still waits is what waited
pub written-append-waiting : (queue : ℕ) (bytes : List ℕ) (n : ℕ) (waiting console : List ℕ)
    → (console_answer queue bytes n waiting console).written ++ (console_answer queue bytes n waiting console).waiting ≡ waiting
written-append-waiting queue bytes n waiting console = by_queue (λ a. a.written ++ a.waiting ≡ waiting) queue bytes n waiting console (take-append-drop n waiting) refl refl

-- never more input waits than may
pub length-with_input : (waiting bytes : List ℕ) → length waiting ≤ MOST_WAITING → length (with_input waiting bytes) ≤ MOST_WAITING
length-with_input waiting bytes few = omega (arith, length-append waiting (take (4096 - length waiting) bytes), length-take (4096 - length waiting) bytes)

take_parts : (n : ℕ) (xs ys : List ℕ) → take n (xs ++ ys) ≡ take n xs ++ take (n - length xs) ys
take_parts n [] ys =
    let same : n - 0 ≡ n = omega arith in
    rw (take-nil, same) refl
take_parts zero (x ∷ xs) ys =
    let none : 0 - length (x ∷ xs) ≡ 0 = omega arith in
    rw none refl
take_parts (suc n) (x ∷ xs) ys =
    let left : suc n - length (x ∷ xs) ≡ n - length xs = omega arith in
    rw left (ap (λ (taken : List ℕ). x ∷ taken) (take_parts n xs ys))

-- input that comes in two parts is input that comes at once
pub with_input-append : (waiting xs ys : List ℕ) → with_input (with_input waiting xs) ys ≡ with_input waiting (xs ++ ys)
with_input-append waiting xs ys =
    let n : 4096 - length (waiting ++ take (4096 - length waiting) xs) ≡ 4096 - length waiting - length xs =
    omega (arith, length-append waiting (take (4096 - length waiting) xs), length-take (4096 - length waiting) xs) in
    rw n
    (append_assoc waiting (take (4096 - length waiting) xs) (take (4096 - length waiting - length xs) ys)
    ∙ ap (λ (taken : List ℕ). waiting ++ taken) (sym (take_parts (4096 - length waiting) xs ys)))
