use Rattle.std.proofs.Common.{◌≡◌, ◌∙◌, false, Option, Some, None, sym, ap}
use Rattle.std.specs.Prelude.{option_map}
use Rattle.vq_common.specs.Chain.{chain_value}
use Rattle.dev_core.specs.declared.ring.Ring.{Ring}
use Rattle.dev_core.specs.Device.{QueueState}
use Rattle.dev_core.specs.Ring.{SetRing}
use Rattle.dev_core.specs.RingValue.{ring_value}
use Rattle.dev_core.proofs.ServeLaws.{malformed_serves, taken, unkicked_serves, unset_serves}
use Rattle.dev_core.proofs.serve.serve_queue.Goals as goal

pub returns-in_default-clause-serves : goal.returns-in_default-clause-serves
returns-in_default-clause-serves c =
    let unset : c.args.queue.now.ring ≡ None = ap (λ (q : QueueState). q.ring) (sym c.queue.view_is) ∙ ap (option_map ring_value) c.in_default.is in
    λ con cols rows there. rw c.queue.view_is (unset_serves con cols rows c.args.state.now c.args.number c.args.queue.now c.args.mem.now.bytes unset there)

pub returns-then-not-queue-clause-serves : goal.returns-then-not-queue-clause-serves
returns-then-not-queue-clause-serves c =
    let same : record { ring = Some (ring_value c.in-Some.ring); kick = c.queue.inside.kick } ≡ c.args.queue.now =
    ap (λ (o : Option Ring). record { ring = option_map ring_value o; kick = c.queue.inside.kick }) (sym c.in-Some.is) ∙ c.queue.view_is in
    let off : c.args.queue.now.kick ≡ false = ap (λ (q : QueueState). q.kick) (sym c.queue.view_is) ∙ c.if-not-queue.true in
    λ con cols rows there. rw same (unkicked_serves con cols rows c.args.state.now c.args.number c.args.queue.now c.args.mem.now.bytes off there)

pub answer-requires-clause-chain : goal.answer-requires-clause-chain
answer-requires-clause-chain c =
    taken c.args.mem.now.bytes (ring_value c.in-Some.ring) (ring_value c.take.new.self) (chain_value c.in-Front.chain) c.in-Front.ensures.shows c.in-Front.ensures.ring

pub returns-in-Bad-clause-serves : goal.returns-in-Bad-clause-serves
returns-in-Bad-clause-serves c =
    let before : record { ring = Some (ring_value c.in-Some.ring); kick = c.queue.inside.kick } ≡ c.args.queue.now =
    ap (λ (o : Option Ring). record { ring = option_map ring_value o; kick = c.queue.inside.kick }) (sym c.in-Some.is) ∙ c.queue.view_is in
    let same : record { ring = Some (ring_value c.take.new.self); kick = c.queue.inside.kick } ≡ c.args.queue.now =
    ap (λ (r : SetRing). record { ring = Some r; kick = c.queue.inside.kick }) c.in-Bad.ensures.ring ∙ before in
    λ con cols rows there.
    malformed_serves con cols rows c.args.state.now c.args.number c.args.queue.now _ (ring_value c.in-Some.ring) c.args.mem.now.bytes
    (ap (λ (q : QueueState). q.ring) (sym before))
    (ap (λ (q : QueueState). q.kick) (sym before) ∙ c.if-not-queue.false)
    c.in-Bad.ensures.shows same there
