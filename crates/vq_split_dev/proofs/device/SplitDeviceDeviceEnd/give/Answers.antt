use Rattle.std.proofs.Common.{◌≡◌, ℕ, ◌+◌, ◌*◌, List, ◌++◌, true, IsTrue, length, ap, sym, ◌∙◌, subst}
use Rattle.byteorder.specs.Endian.{little_bytes}
use Rattle.guest_mem.specs.Memory.{put_at, le16_of}
use Rattle.vq_common.specs.Queue.{DeviceQueue}
use Rattle.vq_common.proofs.QueueLaws.{ring_size_facts}
use Rattle.vq_split_dev.specs.Walk.{split_areas_inside}
use Rattle.vq_split_dev.specs.Give.{next_used, split_given_memory}
use Rattle.vq_split_dev.proofs.GiveLaws.{length-split_given_memory}
use Rattle.vq_split_dev.proofs.device.SplitDeviceDeviceEnd.give.Goals as goal

pub returns-clause-memory : goal.returns-clause-memory
returns-clause-memory c =
    let i = c.self.inside in
    let mem : List ℕ = c.args.mem.now.bytes in
    let q : DeviceQueue = record { cfg = i.cfg; taken = i.taken; taken_wrap = true; used = i.used; used_wrap = true } in
    let areas : IsTrue (split_areas_inside (length mem) i.cfg) = subst (λ (v : DeviceQueue). IsTrue (split_areas_inside (length mem) v.cfg)) (sym c.self.view_is) c.requires.areas in
    let put : ℕ → List ℕ → List ℕ = λ location element. put_at mem (i.cfg.device + (4 + 8 * location)) element in
    let element = c.put.ensures.bytes
    ∙ ap (put c.ring_location-location.result) c.used_element-element.ensures
    ∙ ap (λ location. put location (little_bytes 4 c.args.chain.now.id ++ little_bytes 4 c.args.len)) c.ring_location-location.ensures in
    let given : c.put_le16.new.mem.bytes ≡ split_given_memory mem q c.args.chain.now.id c.args.len =
    c.put_le16.ensures.bytes ∙ ap (λ (m : List ℕ). put_at m (i.cfg.device + 2) (le16_of (next_used q))) element in
    ap length given ∙ length-split_given_memory mem q c.args.chain.now.id c.args.len areas (ring_size_facts i.cfg.size c.self.invariant).some
