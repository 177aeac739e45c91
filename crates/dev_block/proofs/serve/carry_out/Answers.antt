use Rattle.std.proofs.Common.{arith, refl, length}
use Rattle.vq_common.proofs.RuleFacts.{room-le}
use Rattle.vt_outside.specs.DiskCall.{flush_call}
use Rattle.dev_block.specs.Sectors.{clear_through}
use Rattle.dev_block.proofs.CallsLaws.{calls_one}
use Rattle.dev_block.proofs.CarryLaws.{carries_read, carries_change, carries_id}
use Rattle.dev_block.proofs.serve.carry_out.Goals as goal

pub read_sectors-read-requires-clause-few : goal.read_sectors-read-requires-clause-few
read_sectors-read-requires-clause-few g c =
    let fits = rw c.in-Read.is at c.requires.fits in
    omega (arith, fits.0, room-le (length c.args.mem.now.bytes) c.args.chain.now.pieces.items c.requires.rules)

pub returns-in-Read-clause-carries : goal.returns-in-Read-clause-carries
returns-in-Read-clause-carries g c =
    let fits = rw c.in-Read.is at c.requires.fits in
    rw (c.in-Read.is, c.with_size.ensures)
    (carries_read c.in-Read.sector c.in-Read.count c.args.mode _ _ _ _ _ _ fits.0 c.read_sectors-read.ensures.reads)

pub returns-in-Write-clause-carries : goal.returns-in-Write-clause-carries
returns-in-Write-clause-carries g c =
    rw (c.in-Write.is, c.with_size-in-Write.ensures)
    (carries_change _ c.args.mode _ _ _ _ _ _ (λ d. refl) c.write_through-wrote.ensures)

pub returns-in-Flush-clause-carries : goal.returns-in-Flush-clause-carries
returns-in-Flush-clause-carries g c =
    rw (c.in-Flush.is, c.with_size-in-Flush.ensures)
    (carries_change _ c.args.mode _ _ flush_call _ _ _ (λ d. refl) (calls_one flush_call _ _ _ _ c.flush.ensures.meets c.flush.ensures.called c.flush.ensures.cause))

pub returns-in-Identify-clause-carries : goal.returns-in-Identify-clause-carries
returns-in-Identify-clause-carries g c =
    let fits = rw c.in-Identify.is at c.requires.fits in
    rw c.in-Identify.is (carries_id c.args.mode _ _ _ _ _ fits c.device_id-id.ensures c.write_at.ensures.bytes)

pub returns-in-Clear-clause-carries : goal.returns-in-Clear-clause-carries
returns-in-Clear-clause-carries g c =
    rw (c.in-Clear.is, c.with_size-in-Clear.ensures)
    (carries_change _ c.args.mode _ _ (clear_through c.in-Clear.segments.items c.args.mode) _ _ _ (λ d. refl) (rw c.as_slice.ensures.value at c.clear_through-cleared.ensures))
