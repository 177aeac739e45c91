use Rattle.std.proofs.Common.{◌≡◌, ap}
use Rattle.guest_mem.specs.Pages.{MemoryView}
use Rattle.vt_types.proofs.Programs.{gives_runs}
use Rattle.vq_common.specs.Queue.{reaped_value}
use Rattle.vq_split_drv.specs.Reap.{split_reap_program}
use Rattle.memory_port.specs.declared.port.MemoryPort.{MemoryPort}
use Rattle.memory_port.specs.MemoryTable.{MemoryStep, memory_table}
use Rattle.ring_part.proofs.CallLaws.{reap_keeps}
use Rattle.ring_part.proofs.laws.reap.Goals as goal

pub returns : goal.returns
returns c =
    reap_keeps c.args.port.now.memory.bytes c.args.driver.now.queue (reaped_value c.reap.result c.reap.new.room.items) c.reap.new.self.queue c.reap.new.port.memory.bytes
    (gives_runs (λ (p : MemoryPort) a answer room room2 (p2 : MemoryPort). MemoryStep p.memory.bytes a answer room room2 p2.memory.bytes) (λ (p p2 : MemoryPort). p2.memory ≡ p.memory) (λ (p : MemoryPort). p.memory.bytes) memory_table (λ mem. mem)
    (record { steps = λ p p2 a answer room room2 s. s.table; marks = λ p p2 m. ap (λ (view : MemoryView). view.bytes) m })
    (split_reap_program c.args.driver.now.queue) c.args.port.now c.reap.new.port (reaped_value c.reap.result c.reap.new.room.items, c.reap.new.self.queue) c.reap.ensures.gives)
