use Rattle.std.specs.Prelude.{ℕ, zero, suc, ◌+◌, ◌*◌, ◌/◌, ◌%◌, ◌^◌, ◌==◌, List, [], ◌∷◌, ◌++◌, true, false, if◌then◌else◌}
use Rattle.byteorder.specs.Endian.{little_bytes}
use Rattle.vt_types.specs.declared.access.Answer.{Answer}
use Rattle.vt_types.specs.declared.access.Answer.TheVariants as answer
use Rattle.vt_types.specs.declared.device.Dev.{Dev}
use Rattle.vt_types.specs.declared.operation.Field.{Field}
use Rattle.vt_types.specs.declared.operation.Step.{Step}
use Rattle.vt_types.specs.Access.{Load, Store, Zero}
use Rattle.vt_types.specs.Device.{queue_block}
use Rattle.vt_types.specs.Features.{INDIRECT_DESC, EVENT_IDX}
use Rattle.vt_types.specs.Operation.{Probe, Reset, Features, GetStatus, Accept, SetStatus, SetQueue, Post, Notify, Reap, Arm, Disarm, ReadConfig, WriteConfig, IrqQueues, IrqConfig}
use Rattle.vt_types.specs.Program.{Program, Do, Mark}
use Rattle.vt_types.specs.Reply as reply
use Rattle.vt_types.specs.Status.{status_of_step}
use Rattle.vt_layout.specs.declared.register.MmioRegister.{MmioRegister}
use Rattle.vt_layout.specs.declared.register.MmioRegister.TheVariants.{MagicValue, Version, DeviceId, VendorId, DeviceFeatures, DeviceFeaturesSel, DriverFeatures, DriverFeaturesSel, QueueSel, QueueNumMax, QueueNum, QueueReady, QueueNotify, InterruptStatus, InterruptAck, Status, QueueDescLow, QueueDescHigh, QueueDriverLow, QueueDriverHigh, QueueDeviceLow, QueueDeviceHigh, ConfigGeneration}
use Rattle.vt_layout.specs.declared.fields.ConfigPart.{ConfigPart}
use Rattle.vt_layout.specs.Fields.{field_parts}
use Rattle.vt_layout.specs.Interrupts.{USED_BUFFER, CONFIGURATION_CHANGE}
use Rattle.vt_layout.specs.Mmio.{register_address, config_address}
use Rattle.dev_status.specs.Status.{has_bits}
use Rattle.vq_common.specs.declared.chain.RingCfg.{RingCfg}
use Rattle.vt_layout.specs.QueueBlock.{QUEUE_AREAS, driver_area, device_area}
use Rattle.vq_common.specs.Queue.{new_driver_queue}
use Rattle.by_device.specs.ByDevice.{of, with}
use Rattle.drv_core.specs.Driver.{DriverRecord, DeviceRecord, Ended, ends, no_queues, with_driver_queue}
use Rattle.drv_core.specs.Lowering.{Lowering, lowered, post_lowering, reap_lowering, signals_lowering}

-- the number that answers a load of so many bytes: its low bytes; another answer counts as 0 (our own)
abbrev pub number_of : ℕ → Answer → ℕ
number_of width (answer.Word x) = x % 2 ^ (8 * width)
number_of width answer.Done = 0
number_of width answer.Got = 0
number_of width answer.Outside = 0
number_of width (answer.Code n) = 0
number_of width (answer.Turned t) = 0
number_of width answer.NoSuch = 0

-- a load and a store of a register, and what follows
abbrev pub load : {X : Type 0} → Dev → MmioRegister → (ℕ → Program X) → Program X
load dev r next = Do (Load (register_address dev r) 4) (λ a _. next (number_of 4 a))

abbrev pub store : {X : Type 0} → Dev → MmioRegister → ℕ → Program X → Program X
store dev r value next = Do (Store (register_address dev r) 4 value) (λ _ _. next)

-- the low 8 bits of a word, and its low and its high half
abbrev pub low_byte : ℕ → ℕ
low_byte word = word % 2 ^ 8

abbrev pub low_half : ℕ → ℕ
low_half n = n % 2 ^ 32

abbrev pub high_half : ℕ → ℕ
high_half n = n / 2 ^ 32

-- what a driver keeps of a device changes
abbrev pub changed : DriverRecord → Dev → (DeviceRecord → DeviceRecord) → DriverRecord
changed known dev change = with known dev (change (of known dev))

-- the magic value, the version, the device and the vendor (VIRTIO 1.2, 4.2.3.1)
abbrev pub probe_lowering : DriverRecord → Dev → Program Ended
probe_lowering known dev =
    load dev MagicValue (λ _. load dev Version (λ _. load dev DeviceId (λ id. load dev VendorId (λ _.
    Mark (ends (reply.Id (low_byte id)) (changed known dev (λ d. record d { probed = true })))))))

-- the status is made 0, and read back (VIRTIO 1.2, 2.4)
abbrev pub reset_lowering : DriverRecord → Dev → Program Ended
reset_lowering known dev =
    store dev Status 0 (Mark (load dev Status (λ s.
    ends reply.Good (changed known dev (λ d. record d { reset_since = true; status = low_byte s; accepted = 0; queues = no_queues dev })))))

-- both words of the offered features (VIRTIO 1.2, 2.2)
abbrev pub features_lowering : DriverRecord → Dev → Program Ended
features_lowering known dev =
    store dev DeviceFeaturesSel 0 (load dev DeviceFeatures (λ low. store dev DeviceFeaturesSel 1 (load dev DeviceFeatures (λ high.
    Mark (ends (reply.Features (low + high * 2 ^ 32)) known)))))

-- both words of the accepted features
abbrev pub accept_lowering : DriverRecord → Dev → ℕ → Program Ended
accept_lowering known dev features =
    store dev DriverFeaturesSel 0 (store dev DriverFeatures (low_half features) (store dev DriverFeaturesSel 1 (store dev DriverFeatures (high_half features)
    (Mark (ends reply.Good (changed known dev (λ d. record d { accepted = features })))))))

-- the status that was read, as the reply and in the record
abbrev pub status_read : DriverRecord → Dev → ℕ → Program Ended
status_read known dev s = ends (reply.Status (low_byte s)) (changed known dev (λ d. record d { status = low_byte s }))

-- the status is written, and read back (VIRTIO 1.2, 3.1.1)
abbrev pub status_lowering : DriverRecord → Dev → Step → Program Ended
status_lowering known dev s = store dev Status (status_of_step s) (Mark (load dev Status (status_read known dev)))

abbrev pub getstatus_lowering : DriverRecord → Dev → Program Ended
getstatus_lowering known dev = load dev Status (λ s. Mark (status_read known dev s))

-- where a queue's ring lies: the descriptors, the driver area and the device area of its block (our own)
abbrev pub cfg_of : DeviceRecord → Dev → ℕ → ℕ → RingCfg
cfg_of d dev n size =
    record {
      desc = queue_block dev n;
      driver = driver_area (queue_block dev n);
      device = device_area (queue_block dev n);
      size = size;
      indirect = has_bits d.accepted INDIRECT_DESC;
      event_idx = has_bits d.accepted EVENT_IDX;
    }

-- a store of an address in two halves, the low one first
abbrev pub store_address : Dev → MmioRegister → MmioRegister → ℕ → Program Ended → Program Ended
store_address dev low high addr next = store dev low (low_half addr) (store dev high (high_half addr) next)

-- the three areas of a ring
abbrev pub store_areas : Dev → RingCfg → Program Ended → Program Ended
store_areas dev cfg next =
    store_address dev QueueDescLow QueueDescHigh cfg.desc (store_address dev QueueDriverLow QueueDriverHigh cfg.driver
    (store_address dev QueueDeviceLow QueueDeviceHigh cfg.device next))

-- the areas are cleared, the queue is selected and described, and then it is set (VIRTIO 1.2, 4.2.3.2)
abbrev pub setq_lowering : DriverRecord → Dev → ℕ → ℕ → Program Ended
setq_lowering known dev n size =
    let cfg = cfg_of (of known dev) dev n size in
    Do (Zero (queue_block dev n) QUEUE_AREAS) (λ _ _. store dev QueueSel n (load dev QueueReady (λ _. load dev QueueNumMax (λ _. store dev QueueNum size
    (store_areas dev cfg (store dev QueueReady 1
    (Mark (ends reply.Good (with_driver_queue known dev n (new_driver_queue cfg (queue_block dev n)))))))))))

-- the queue's number is written to QueueNotify (VIRTIO 1.2, 4.2.3.3)
abbrev pub notify_lowering : DriverRecord → Dev → ℕ → Program Ended
notify_lowering known dev n = store dev QueueNotify n (Mark (ends reply.Good known))

-- the bytes of some parts of the configuration, in order
abbrev pub load_parts : Dev → List ConfigPart → (List ℕ → Program Ended) → Program Ended
load_parts dev [] next = next []
load_parts dev (p ∷ ps) next =
    Do (Load (config_address dev p.off) p.width) (λ a _. load_parts dev ps (λ bytes. next (little_bytes p.width (number_of p.width a) ++ bytes)))

-- a round loads the generation, the parts of a field, and the generation again
abbrev pub config_round : Dev → Field → (ℕ → List ℕ → ℕ → Program Ended) → Program Ended
config_round dev field next =
    load dev ConfigGeneration (λ before. load_parts dev (field_parts field) (λ bytes. load dev ConfigGeneration (λ after. next before bytes after)))

-- the field as it was loaded in the last round, whose last load is the marked one
abbrev pub value_read : DriverRecord → List ℕ → Program Ended
value_read known bytes = Mark (ends (reply.Value bytes) known)

-- rounds until the generation is the same before and after, with at most so many repeats (VIRTIO 1.2, 2.5)
abbrev pub readcfg_lowering : DriverRecord → Dev → Field → ℕ → Program Ended
readcfg_lowering known dev field zero = config_round dev field (λ before bytes after. value_read known bytes)
readcfg_lowering known dev field (suc repeats) =
    config_round dev field (λ before bytes after. if before == after then value_read known bytes else readcfg_lowering known dev field repeats)

-- a field is written in its first part; those that are written have one
abbrev pub store_parts : DriverRecord → Dev → List ConfigPart → ℕ → Program Ended
store_parts known dev [] value = ends reply.Good known
store_parts known dev (p ∷ ps) value = Do (Store (config_address dev p.off) p.width value) (λ _ _. Mark (ends reply.Good known))

abbrev pub writecfg_lowering : DriverRecord → Dev → Field → ℕ → Program Ended
writecfg_lowering known dev field value = store_parts known dev (field_parts field) value

-- a signal that stands is acknowledged (VIRTIO 1.2, 4.2.3.4)
abbrev pub acknowledge : DriverRecord → Dev → ℕ → reply.ReplyValue → Program Ended
acknowledge known dev bit answer = store dev InterruptAck bit (Mark (ends answer known))

-- whether a queue signalled: any queue, since the bus has one bit for them
abbrev pub irq_queues_lowering : DriverRecord → Dev → Program Ended
irq_queues_lowering known dev =
    load dev InterruptStatus (λ word.
    if has_bits word USED_BUFFER then acknowledge known dev USED_BUFFER reply.AnyQueue else Mark (ends (reply.Signals []) known))

-- whether a changed configuration was signalled
abbrev pub irq_config_lowering : DriverRecord → Dev → Program Ended
irq_config_lowering known dev =
    load dev InterruptStatus (λ word.
    if has_bits word CONFIGURATION_CHANGE then acknowledge known dev CONFIGURATION_CHANGE (reply.Config true) else Mark (ends (reply.Config false) known))

-- the accesses of an operation that is not refused
abbrev pub allowed_lowering : Lowering
allowed_lowering known (Probe dev) repeats = probe_lowering known dev
allowed_lowering known (Reset dev) repeats = reset_lowering known dev
allowed_lowering known (Features dev) repeats = features_lowering known dev
allowed_lowering known (GetStatus dev) repeats = getstatus_lowering known dev
allowed_lowering known (Accept dev features) repeats = accept_lowering known dev features
allowed_lowering known (SetStatus dev s) repeats = status_lowering known dev s
allowed_lowering known (SetQueue dev n size) repeats = setq_lowering known dev n size
allowed_lowering known (Post dev n b) repeats = post_lowering known dev n b
allowed_lowering known (Notify dev n) repeats = notify_lowering known dev n
allowed_lowering known (Reap dev n) repeats = reap_lowering known dev n
allowed_lowering known (Arm dev n) repeats = signals_lowering known dev n true
allowed_lowering known (Disarm dev n) repeats = signals_lowering known dev n false
allowed_lowering known (ReadConfig dev field) repeats = readcfg_lowering known dev field repeats
allowed_lowering known (WriteConfig dev field value) repeats = writecfg_lowering known dev field value
allowed_lowering known (IrqQueues dev) repeats = irq_queues_lowering known dev
allowed_lowering known (IrqConfig dev) repeats = irq_config_lowering known dev

-- the lowering of every operation on MMIO
abbrev pub mmio_lowering : Lowering
mmio_lowering = lowered allowed_lowering
