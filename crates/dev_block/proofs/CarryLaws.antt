-- How tasks are carried out.
use Rattle.std.proofs.Common.{◌≡◌, ℕ, ◌-◌, ◌*◌, ◌≤◌, List, [], length, Bool, true, false, Some, None, Result, Ok, Err, refl, sym, ◌∙◌, ap, arith}
use Rattle.std.specs.Prelude.{is_ok}
use Rattle.vt_outside.specs.declared.failed.Failed.{Failed}
use Rattle.vt_outside.specs.DiskCall.{DiskState}
use Rattle.vt_outside.specs.Tripped.{TrippedView}
use Rattle.vq_common.specs.declared.chain.Piece.{Piece}
use Rattle.vq_common.specs.Piece.{readable, room, scatter}
use Rattle.vq_common.specs.Partial.{scatter_from}
use Rattle.vq_common.proofs.PieceLaws.{scatter-nil}
use Rattle.vq_common.proofs.PartialLaws.{scatter_from-zero}
use Rattle.dev_block.specs.Request.{DEVICE_ID}
use Rattle.dev_block.specs.Check.{Task, Read, Identify}
use Rattle.dev_block.specs.Calls.{Calls, ReadsOver}
use Rattle.dev_block.specs.Answer.{carried_out, no_data}
use Rattle.dev_block.specs.Serve.{with_size, CarriesOut}
use Rattle.dev_block.proofs.CallsLaws.{calls_none, calls_to}

-- a task without data
pub carries_change : (task : Task) (mode : ℕ) (ps : List Piece) (mem : List ℕ) (f : DiskState → Bool × DiskState) (old new : TrippedView) (done : Result Unit Failed)
    → ((d : DiskState) → carried_out task (readable mem ps) mode d ≡ no_data (f d)) → Calls f old (is_ok done) new (is_ok done) → CarriesOut task mode ps mem mem old new (with_size done 0)
carries_change task mode ps mem f old new (Ok x) is calls =
    record {
      bytes = [];
      most = omega arith;
      size = refl;
      memory = sym (scatter-nil mem ps);
      calls = calls_to f (carried_out task (readable mem ps) mode) old new true (Some []) true (λ before after e. is before ∙ ap no_data e) calls;
    }
carries_change task mode ps mem f old new (Err e) is calls =
    record {
      bytes = [];
      most = omega arith;
      size = tt;
      memory = sym (scatter-nil mem ps);
      calls = calls_to f (carried_out task (readable mem ps) mode) old new false None false (λ before after h. is before ∙ ap no_data h) calls;
    }

-- sectors that were read
pub carries_read : (sector count mode : ℕ) (ps : List Piece) (mem mem2 : List ℕ) (old new : TrippedView) (done : Result Unit Failed) → 512 * count ≤ room ps - 1
    → ReadsOver sector count ps mem mem2 old new done → CarriesOut (Read sector count) mode ps mem mem2 old new (with_size done (512 * count))
carries_read sector count mode ps mem mem2 old new (Ok x) fits so =
    let most : length so.bytes ≤ 512 * count = so.most in
    record { bytes = so.bytes; most = omega arith; size = sym so.whole; memory = so.memory; calls = so.calls }
carries_read sector count mode ps mem mem2 old new (Err e) fits so =
    let most : length so.bytes ≤ 512 * count = so.most in
    record { bytes = so.bytes; most = omega arith; size = tt; memory = so.memory; calls = so.calls }

-- the id
pub carries_id : (mode : ℕ) (ps : List Piece) (mem mem2 id : List ℕ) (old : TrippedView) → 20 ≤ room ps - 1 → id ≡ DEVICE_ID → mem2 ≡ scatter_from 0 mem ps id
    → CarriesOut Identify mode ps mem mem2 old old (Ok 20)
carries_id mode ps mem mem2 id old fits is put =
    record {
      bytes = DEVICE_ID;
      most = fits;
      size = refl;
      memory = put ∙ scatter_from-zero mem ps id ∙ ap (scatter mem ps) is;
      calls = calls_none (carried_out Identify (readable mem ps) mode) old (Some DEVICE_ID) (λ d. refl);
    }
