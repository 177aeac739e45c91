use Rattle.vt_types.specs.Operation.{posted_buffer}
use Rattle.ring_part.proofs.CallLaws.{post_keeps}
use Rattle.ring_part.proofs.laws.post.Goals as goal

pub returns-clause-keeps : goal.returns-clause-keeps
returns-clause-keeps c =
    post_keeps c.post.result c.args.driver.now.queue c.post.new.driver.queue (posted_buffer c.args.buf.now) c.args.port.now.memory.bytes c.post.new.port.memory.bytes c.post.ensures.posts
    c.requires.postable c.requires.tag c.requires.table c.requires.feature
