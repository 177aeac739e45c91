use Rattle.std.specs.Prelude.{ℕ, List, Bool}
use Rattle.vt_types.specs.declared.reply.Why.{Why}
use Rattle.vt_types.specs.declared.reply.Reply.{Reply}
use Rattle.vt_types.specs.declared.reply.Reply.TheVariants as reply

-- a reply as contracts see it: a used buffer has its written bytes, which the code keeps in the room
pub data ReplyValue : Type 0 where
  Good : ReplyValue
  Id : ℕ → ReplyValue
  Features : ℕ → ReplyValue
  Status : ℕ → ReplyValue
  Value : List ℕ → ReplyValue
  Nothing : ReplyValue
  Used : (tag len : ℕ) → List ℕ → ReplyValue
  Signals : List ℕ → ReplyValue
  AnyQueue : ReplyValue
  Config : Bool → ReplyValue
  Refused : Why → ReplyValue

abbrev pub reply_value : Reply → List ℕ → ReplyValue
reply_value reply.Good room = Good
reply_value (reply.Id n) room = Id n
reply_value (reply.Features f) room = Features f
reply_value (reply.Status s) room = Status s
reply_value (reply.Value v) room = Value v.items
reply_value reply.Nothing room = Nothing
reply_value (reply.Used tag len) room = Used tag len room
reply_value (reply.Signals v) room = Signals v.items
reply_value reply.AnyQueue room = AnyQueue
reply_value (reply.Config b) room = Config b
reply_value (reply.Refused w) room = Refused w
