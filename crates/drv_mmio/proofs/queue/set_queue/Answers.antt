use Rattle.std.proofs.Common.{◌≡◌, true, sym, ◌∙◌, ap, subst}
use Rattle.std.specs.Prelude.{◌==◌}
use Rattle.vt_types.specs.Device.{queue_block}
use Rattle.vt_types.specs.Program.{Gives, End}
use Rattle.vt_types.specs.Reply.{Good}
use Rattle.vq_common.specs.declared.chain.RingCfg.{RingCfg}
use Rattle.vq_common.specs.Queue.{is_queue_size, new_driver_queue}
use Rattle.state_table.specs.Refusal.{AGREED, is_queue_set}
use Rattle.by_device.specs.ByDevice.{of}
use Rattle.drv_core.specs.Driver.{DeviceRecord, DriverRecord, Ended, known_of, with_driver_queue}
use Rattle.drv_core.proofs.RefusalLaws.{may_set}
use Rattle.drv_mmio.specs.Calls.{describe_queue}
use Rattle.drv_mmio.specs.Lowering.{cfg_of, setq_lowering}
use Rattle.drv_mmio.proofs.queue.set_queue.Goals as goal

pub set_queue-requires-clause-size : goal.set_queue-requires-clause-size
set_queue-requires-clause-size g c =
    let d : DeviceRecord = of c.args.driver.now c.args.dev in
    let kept : d.accepted ≡ c.accepted-accepted.result.0 = sym (c.accepted-accepted.ensures ∙ ap (λ (e : DeviceRecord). e.accepted) c.device.ensures.value) in
    let is : c.ring-cfg.result ≡ cfg_of d c.args.dev c.args.queue c.args.size = c.ring-cfg.ensures.value d kept in
    let allowed : is_queue_size c.args.size ≡ true = (may_set d c.args.queue c.args.size ((known_of d).status == AGREED) (is_queue_set (known_of d) c.args.queue) c.requires.allowed).1 in
    ap (λ (cfg : RingCfg). is_queue_size cfg.size) is ∙ allowed

pub returns : goal.returns
returns g c =
    let d : DeviceRecord = of c.args.driver.now c.args.dev in
    let kept : d.accepted ≡ c.accepted-accepted.result.0 = sym (c.accepted-accepted.ensures ∙ ap (λ (e : DeviceRecord). e.accepted) c.device.ensures.value) in
    let is : c.ring-cfg.result ≡ cfg_of d c.args.dev c.args.queue c.args.size = c.ring-cfg.ensures.value d kept in
    let known : DriverRecord = with_driver_queue c.args.driver.now c.args.dev c.args.queue (new_driver_queue (cfg_of d c.args.dev c.args.queue c.args.size) (queue_block c.args.dev c.args.queue)) in
    let end : Ended = record { reply = Good; known = known } in
    let new : c.set_queue.new.self ≡ known
    = c.set_queue.ensures ∙ ap (λ (cfg : RingCfg). with_driver_queue c.args.driver.now c.args.dev c.args.queue (new_driver_queue cfg cfg.desc)) is
    in
    let described : Gives g.P.Port.step g.P.Port.marking (setq_lowering c.args.driver.now c.args.dev c.args.queue c.args.size) c.args.port.now end c.describe.new.port
    = subst (λ (cfg : RingCfg). Gives g.P.Port.step g.P.Port.marking (describe_queue c.args.dev c.args.queue cfg (End end)) c.args.port.now end c.describe.new.port) is (c.describe.ensures.gives end)
    in
    subst (λ (known2 : DriverRecord). Gives g.P.Port.step g.P.Port.marking (setq_lowering c.args.driver.now c.args.dev c.args.queue c.args.size) c.args.port.now (record { reply = Good; known = known2 }) c.describe.new.port) (sym new)
    described
