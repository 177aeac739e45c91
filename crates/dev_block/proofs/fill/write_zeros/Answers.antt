use Rattle.std.proofs.Common.{arith, rules, ◌∙◌}
use Rattle.dev_block.proofs.FillLaws.{zeros_none, zeros_more}
use Rattle.dev_block.proofs.fill.write_zeros.Goals as goal

pub zeros-init : goal.zeros-init
zeros-init c = record { above = omega arith; below = omega arith; done = zeros_none c.args.from _ c.args.chain.now.pieces.items; size = search rules; pages = omega arith }

pub zeros-preserved : goal.zeros-preserved
zeros-preserved c =
    let so = c.zeros.invariant in
    record {
      above = omega arith;
      below = omega arith;
      done = c.write_few_zeros.ensures.bytes ∙ rw so.done (zeros_more c.args.from c.zeros.at c.min-count.result c.args.mem.now.bytes c.args.chain.now.pieces.items c.requires.rules so.above);
      size = c.write_few_zeros.ensures.length ∙ so.size;
      pages = omega (arith, c.write_few_zeros.ensures.pages);
    }
