use Rattle.std.proofs.Common.{arith, ◌∙◌, rules}
use Rattle.std.proofs.lemmas.Result.{err_from_is_err_and}
use Rattle.dev_block.proofs.ReadLaws.{reads_none, reads_more, reads_stop}
use Rattle.dev_block.proofs.sectors.read_sectors.Goals as goal

pub sectors-init : goal.sectors-init
sectors-init g c = record { reads = reads_none c.args.sector c.args.chain.now.pieces.items _ _; size = search rules; pages = omega arith }

pub sectors-preserved : goal.sectors-preserved
sectors-preserved g c =
    let w = c.in_ok-read_sector.ensures in
    let so = c.sectors.invariant in
    record {
      reads = reads_more c.args.sector c.sectors.i c.args.chain.now.pieces.items _ _ _ _ _ _ _ _ c.requires.rules c.read_sector.array_long w.meets w.called c.write_at.ensures.bytes so.reads;
      size = c.write_at.ensures.length ∙ so.size;
      pages = omega (arith, c.write_at.ensures.pages);
    }

pub returns-in_err-read_sector-clause-reads : goal.returns-in_err-read_sector-clause-reads
returns-in_err-read_sector-clause-reads g c =
    let w = c.in_err-read_sector.ensures in
    let p = err_from_is_err_and c.from_residual.result c.from_residual.ensures.1 in
    rw p.1
    (reads_stop c.args.sector c.sectors.i c.args.count c.args.chain.now.pieces.items _ _ _ _ _ _ _ c.sectors-test.true w.meets w.called w.cause c.sectors.invariant.reads)
