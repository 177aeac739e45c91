use Rattle.std.proofs.Common.{arith, length, sym, ◌∙◌}
use Rattle.vq_common.proofs.RuleFacts.{room-le}
use Rattle.vq_common.proofs.PagesLaws.{short-le}
use Rattle.dev_block.proofs.ServeLaws.{serves_none, serves_done, serves_refused}
use Rattle.dev_block.proofs.serve.serve_chain.Goals as goal

pub room-room-requires : goal.room-room-requires
room-room-requires g c = omega (arith, room-le (length c.args.mem.now.bytes) c.args.chain.now.pieces.items c.requires.rules)

pub returns-then-room-eq0-clause-serves : goal.returns-then-room-eq0-clause-serves
returns-then-room-eq0-clause-serves g c = serves_none c.args.state.now c.args.chain.now.pieces.items _ _ (sym c.room-room.ensures ∙ c.if-room-eq0.true)

pub answer-requires-clause-pages : goal.answer-requires-clause-pages
answer-requires-clause-pages g c = omega (arith, short-le c.args.mem.now.made (length c.args.mem.now.bytes) c.args.chain.now.pieces.items c.requires.rules)

pub write_end-requires-clause-pages : goal.write_end-requires-clause-pages
write_end-requires-clause-pages g c = omega (arith, c.in-Ok.ensures.pages, short-le c.args.mem.now.made (length c.args.mem.now.bytes) c.args.chain.now.pieces.items c.requires.rules)

pub write_end-requires-in-Err-clause-pages : goal.write_end-requires-in-Err-clause-pages
write_end-requires-in-Err-clause-pages g c = omega (arith, c.in-Err.ensures.pages, short-le c.args.mem.now.made (length c.args.mem.now.bytes) c.args.chain.now.pieces.items c.requires.rules)

pub returns-in-Ok-clause-serves : goal.returns-in-Ok-clause-serves
returns-in-Ok-clause-serves g c =
    serves_done c.args.state.now c.args.chain.now.pieces.items _ _ _ _ _ _ _ c.requires.rules c.room-room.ensures (omega (arith, c.if-room-eq0.false)) c.in-Ok.ensures.ends c.write_end.ensures.bytes

pub returns-in-Ok-clause-pages : goal.returns-in-Ok-clause-pages
returns-in-Ok-clause-pages g c = omega (arith, c.in-Ok.ensures.pages, c.write_end.ensures.pages, short-le c.args.mem.now.made (length c.args.mem.now.bytes) c.args.chain.now.pieces.items c.requires.rules)

pub returns-in-Err-clause-serves : goal.returns-in-Err-clause-serves
returns-in-Err-clause-serves g c =
    serves_refused c.args.state.now c.args.chain.now.pieces.items _ _ _ _ _ _ _ _ c.requires.rules c.room-room.ensures (omega (arith, c.if-room-eq0.false)) c.status.ensures c.in-Err.ensures.ends c.write_end-in-Err.ensures.bytes

pub returns-in-Err-clause-pages : goal.returns-in-Err-clause-pages
returns-in-Err-clause-pages g c = omega (arith, c.in-Err.ensures.pages, c.write_end-in-Err.ensures.pages, short-le c.args.mem.now.made (length c.args.mem.now.bytes) c.args.chain.now.pieces.items c.requires.rules)
