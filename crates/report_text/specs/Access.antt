use Rattle.std.specs.Prelude.{ℕ, Bool, true, false, List, ◌++◌, codes}
use Rattle.std.specs.Fmt.{decimal}
use Rattle.vt_types.specs.declared.access.Answer.{Answer}
use Rattle.vt_types.specs.declared.access.Answer.TheVariants as answer
use Rattle.vt_types.specs.declared.access.Turn.{Turn}
use Rattle.vt_types.specs.declared.access.Turn.TheVariants as turn
use Rattle.vt_types.specs.Access.{AccessValue, Load, Store, Put, Get, Zero, Swap, CfgLoad, CfgStore, Ssch, Tsch, Stsch, Msch, Csch, TurnOf, Diag}
use Rattle.report_text.specs.Text.{LINE_SPARE, SHORT_LINE}
use Rattle.report_text.specs.Words.{hex, hex_number, low_digits, word}

-- an address or the id of a subchannel: 8 digits, or as many as it needs
abbrev pub address : ℕ → List ℕ
address n = hex_number 8 n

-- an offset in a configuration space: 2 digits, or as many as it needs
abbrev pub offset : ℕ → List ℕ
offset n = hex_number 2 n

-- an access as a raw script writes it
abbrev pub access_text : AccessValue → List ℕ
access_text (Load addr width) = codes "load" ++ word (address addr) ++ word (decimal width)
access_text (Store addr width value) = codes "store" ++ word (address addr) ++ word (decimal width) ++ word (low_digits width value)
access_text (Put addr bytes) = codes "put" ++ word (address addr) ++ word (hex bytes)
access_text (Get addr count) = codes "get" ++ word (address addr) ++ word (decimal count)
access_text (Zero addr count) = codes "zero" ++ word (address addr) ++ word (decimal count)
access_text (Swap addr value) = codes "swap" ++ word (address addr) ++ word (low_digits 8 value)
access_text (CfgLoad func off width) = codes "cfgload" ++ word (decimal func) ++ word (offset off) ++ word (decimal width)
access_text (CfgStore func off width value) =
    codes "cfgstore" ++ word (decimal func) ++ word (offset off) ++ word (decimal width) ++ word (low_digits width value)
access_text (Ssch id addr) = codes "ssch" ++ word (address id) ++ word (address addr)
access_text (Tsch id addr) = codes "tsch" ++ word (address id) ++ word (address addr)
access_text (Stsch id addr) = codes "stsch" ++ word (address id) ++ word (address addr)
access_text (Msch id addr) = codes "msch" ++ word (address id) ++ word (address addr)
access_text (Csch id) = codes "csch" ++ word (address id)
access_text (TurnOf id) = codes "turn" ++ word (address id)
access_text (Diag func id value cookie) =
    codes "diag" ++ word (low_digits 8 func) ++ word (address id) ++ word (low_digits 8 value) ++ word (low_digits 8 cookie)

-- how many bytes the number has that answers an access: those of a load's width, else 8
abbrev pub answer_width : AccessValue → ℕ
answer_width (Load addr width) = width
answer_width (Store addr width value) = 8
answer_width (Put addr bytes) = 8
answer_width (Get addr count) = 8
answer_width (Zero addr count) = 8
answer_width (Swap addr value) = 8
answer_width (CfgLoad func off width) = width
answer_width (CfgStore func off width value) = 8
answer_width (Ssch id addr) = 8
answer_width (Tsch id addr) = 8
answer_width (Stsch id addr) = 8
answer_width (Msch id addr) = 8
answer_width (Csch id) = 8
answer_width (TurnOf id) = 8
answer_width (Diag func id value cookie) = 8

-- how a turn of a channel program ended
abbrev pub turn_text : Turn → List ℕ
turn_text turn.Idle = codes "idle"
turn_text turn.Going = codes "data"
turn_text turn.Ended = codes "ended"
turn_text turn.ProgramCheck = codes "program-check"
turn_text turn.IncorrectLength = codes "incorrect-length"
turn_text turn.UnitCheck = codes "unit-check"

-- the answer of an access, with the bytes that came with it
abbrev pub answer_text : AccessValue → Answer → List ℕ → List ℕ
answer_text a (answer.Word n) bytes = low_digits (answer_width a) n
answer_text a answer.Done bytes = codes "ok"
answer_text a answer.Got bytes = codes "bytes" ++ word (hex bytes)
answer_text a answer.Outside bytes = codes "outside"
answer_text a (answer.Code n) bytes = codes "cc" ++ word (decimal n)
answer_text a (answer.Turned t) bytes = turn_text t
answer_text a answer.NoSuch bytes = codes "none"

-- the line of an access in a trace
abbrev pub access_line : AccessValue → Answer → List ℕ → List ℕ
access_line a answer bytes = codes ". " ++ access_text a ++ codes " = " ++ answer_text a answer bytes ++ codes "\n"

-- bytes come with a get alone
abbrev pub brings_bytes : AccessValue → Bool
brings_bytes (Load addr width) = false
brings_bytes (Store addr width value) = false
brings_bytes (Put addr bytes) = false
brings_bytes (Get addr count) = true
brings_bytes (Zero addr count) = false
brings_bytes (Swap addr value) = false
brings_bytes (CfgLoad func off width) = false
brings_bytes (CfgStore func off width value) = false
brings_bytes (Ssch id addr) = false
brings_bytes (Tsch id addr) = false
brings_bytes (Stsch id addr) = false
brings_bytes (Msch id addr) = false
brings_bytes (Csch id) = false
brings_bytes (TurnOf id) = false
brings_bytes (Diag func id value cookie) = false

-- no line of an access is longer in a trace: a put and a get alone have bytes
abbrev pub longest_access_line : AccessValue → ℕ
longest_access_line (Load addr width) = SHORT_LINE
longest_access_line (Store addr width value) = SHORT_LINE
longest_access_line (Put addr bytes) = LINE_SPARE
longest_access_line (Get addr count) = LINE_SPARE
longest_access_line (Zero addr count) = SHORT_LINE
longest_access_line (Swap addr value) = SHORT_LINE
longest_access_line (CfgLoad func off width) = SHORT_LINE
longest_access_line (CfgStore func off width value) = SHORT_LINE
longest_access_line (Ssch id addr) = SHORT_LINE
longest_access_line (Tsch id addr) = SHORT_LINE
longest_access_line (Stsch id addr) = SHORT_LINE
longest_access_line (Msch id addr) = SHORT_LINE
longest_access_line (Csch id) = SHORT_LINE
longest_access_line (TurnOf id) = SHORT_LINE
longest_access_line (Diag func id value cookie) = SHORT_LINE

-- the line of an access in the report of a raw script: the number of the script's line, and the answer
abbrev pub raw_line : ℕ → AccessValue → Answer → List ℕ → List ℕ
raw_line line a answer bytes = decimal line ++ word (answer_text a answer bytes) ++ codes "\n"
