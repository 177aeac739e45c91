use Rattle.std.proofs.Common.{rules}
use Rattle.vq_common.proofs.TableLaws.{pieces_with_nil}
use Rattle.vq_common.proofs.indirect.indirect_chain.Goals as goal

pub returns-else-add_table : goal.returns-else-add_table
returns-else-add_table c =
    let same = pieces_with_nil c.args.mem.now.bytes c.args.addr c.args.len c.args.size c.args.split in
    search rules
