use Rattle.std.specs.Prelude.{ℕ, List, [], ◌∷◌, ◌++◌, codes, if◌then◌else◌}
use Rattle.std.specs.Fmt.{decimal}
use Rattle.vt_types.specs.declared.reply.Why.{Why}
use Rattle.vt_types.specs.declared.reply.Why.TheVariants as why
use Rattle.vt_types.specs.Reply.{ReplyValue}
use Rattle.vt_types.specs.Reply as reply
use Rattle.report_text.specs.Words.{hex, low_digits, numbers, word}

-- the name of a refusal
abbrev pub why_text : Why → List ℕ
why_text why.State = codes "state"
why_text why.Queue = codes "queue"
why_text why.Size = codes "size"
why_text why.Set = codes "set"
why_text why.Unset = codes "unset"
why_text why.Tag = codes "tag"
why_text why.Full = codes "full"
why_text why.Range = codes "range"
why_text why.Mode = codes "mode"

-- the queues that signalled
abbrev pub signals_text : List ℕ → List ℕ
signals_text [] = codes "irq none"
signals_text (n ∷ ns) = codes "irq" ++ numbers (n ∷ ns)

-- a reply as it is printed
abbrev pub reply_text : ReplyValue → List ℕ
reply_text reply.Good = codes "ok"
reply_text (reply.Id n) = codes "id" ++ word (decimal n)
reply_text (reply.Features f) = codes "features" ++ word (low_digits 8 f)
reply_text (reply.Status s) = codes "status" ++ word (low_digits 1 s)
reply_text (reply.Value bytes) = codes "value" ++ word (hex bytes)
reply_text reply.Nothing = codes "none"
reply_text (reply.Used tag len bytes) = codes "used" ++ word (decimal tag) ++ word (decimal len) ++ word (hex bytes)
reply_text (reply.Signals ns) = signals_text ns
reply_text reply.AnyQueue = codes "irq some"
reply_text (reply.Config b) = if b then codes "irq config" else codes "irq none"
reply_text (reply.Refused w) = codes "refused" ++ word (why_text w)

-- the line of a reply: the number of the script's line, the reply, how many events were before the marked access, and
-- how many accesses there were
abbrev pub reply_line : ℕ → ReplyValue → ℕ → ℕ → List ℕ
reply_line line r p n = decimal line ++ word (reply_text r) ++ codes " p=" ++ decimal p ++ codes " n=" ++ decimal n ++ codes "\n"
