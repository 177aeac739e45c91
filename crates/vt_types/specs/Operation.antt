use Rattle.std.specs.Prelude.{ℕ, List, Bool}
use Rattle.vt_types.specs.declared.device.Dev.{Dev}
use Rattle.vt_types.specs.declared.device.Dev.TheVariants.{Blk, Net, Con}
use Rattle.vt_types.specs.declared.operation.Field.{Field}
use Rattle.vt_types.specs.declared.operation.Field.TheVariants as field
use Rattle.vt_types.specs.declared.operation.Step.{Step}
use Rattle.vt_types.specs.declared.operation.Op.{Op}
use Rattle.vt_types.specs.declared.operation.Op.TheVariants as op
use Rattle.vt_types.specs.declared.operation.PostBuf.{PostBuf}

-- a buffer to post: the bytes of its readable pieces one after the other, and the lengths of all pieces, the readable
-- ones first
pub record PostedBuffer : Type 0 where
  pub tag : ℕ
  pub indirect : Bool
  pub readable : List ℕ
  pub lengths : List ℕ
  pub readable_pieces : ℕ

-- an operation of a driver, as contracts see it
pub data Operation : Type 0 where
  Probe : Dev → Operation
  Reset : Dev → Operation
  Features : Dev → Operation
  GetStatus : Dev → Operation
  Accept : Dev → (features : ℕ) → Operation
  SetStatus : Dev → Step → Operation
  SetQueue : Dev → (queue size : ℕ) → Operation
  Post : Dev → (queue : ℕ) → PostedBuffer → Operation
  Notify : Dev → (queue : ℕ) → Operation
  Reap : Dev → (queue : ℕ) → Operation
  Arm : Dev → (queue : ℕ) → Operation
  Disarm : Dev → (queue : ℕ) → Operation
  ReadConfig : Dev → Field → Operation
  WriteConfig : Dev → Field → (value : ℕ) → Operation
  IrqQueues : Dev → Operation
  IrqConfig : Dev → Operation

-- the device that an operation is on
abbrev pub device_of : Operation → Dev
device_of (Probe dev) = dev
device_of (Reset dev) = dev
device_of (Features dev) = dev
device_of (GetStatus dev) = dev
device_of (Accept dev features) = dev
device_of (SetStatus dev step) = dev
device_of (SetQueue dev queue size) = dev
device_of (Post dev queue buffer) = dev
device_of (Notify dev queue) = dev
device_of (Reap dev queue) = dev
device_of (Arm dev queue) = dev
device_of (Disarm dev queue) = dev
device_of (ReadConfig dev field) = dev
device_of (WriteConfig dev field value) = dev
device_of (IrqQueues dev) = dev
device_of (IrqConfig dev) = dev

-- the device whose configuration has a field (VIRTIO 1.2, 5.1.4, 5.2.4 and 5.3.4)
abbrev pub device_of_field : Field → Dev
device_of_field field.Capacity = Blk
device_of_field field.SegMax = Blk
device_of_field field.BlkSize = Blk
device_of_field field.Writeback = Blk
device_of_field field.Mac = Net
device_of_field field.NetStatus = Net
device_of_field field.Cols = Con
device_of_field field.Rows = Con
device_of_field field.Ports = Con
device_of_field field.Emerg = Con

abbrev pub posted_buffer : PostBuf → PostedBuffer
posted_buffer b = record { tag = b.tag; indirect = b.indirect; readable = b.readable; lengths = b.cuts.items; readable_pieces = b.nread }

abbrev pub operation : Op → Operation
operation (op.Probe d) = Probe d
operation (op.Reset d) = Reset d
operation (op.Features d) = Features d
operation (op.GetStatus d) = GetStatus d
operation (op.Accept d f) = Accept d f
operation (op.Status d s) = SetStatus d s
operation (op.SetQ d q n) = SetQueue d q n
operation (op.Post d q b) = Post d q (posted_buffer b)
operation (op.Notify d q) = Notify d q
operation (op.Reap d q) = Reap d q
operation (op.Arm d q) = Arm d q
operation (op.Disarm d q) = Disarm d q
operation (op.ReadCfg d x) = ReadConfig d x
operation (op.WriteCfg d x v) = WriteConfig d x v
operation (op.IrqQueues d) = IrqQueues d
operation (op.IrqConfig d) = IrqConfig d
