use Rattle.std.proofs.Common.{◌≡◌, ◌∙◌, ◌∷◌, [], ◌++◌, ◌-◌, ℕ, List, length, arith, ap, sym, length-append}
use Rattle.guest_mem.specs.Memory.{part}
use Rattle.guest_mem.proofs.Parts.{length-part}
use Rattle.vq_common.specs.Piece.{readable}
use Rattle.vq_common.proofs.RuleFacts.{rules_inside}
use Rattle.vq_common.proofs.PieceLaws.{length-readable}
use Rattle.dev_net.specs.Network.{NetworkState}
use Rattle.dev_net.specs.Frames.{waiting_frames, sent_frames}
use Rattle.dev_net.proofs.FrameLaws.{sent_frames-more, are_inside-more}
use Rattle.dev_net.proofs.state.NetState.send.Goals as goal

pub invariant_of-self : goal.invariant_of-self
invariant_of-self c =
    let s = c.self.inside in
    let mem = c.args.mem.now.bytes in
    let pieces = c.args.chain.now.pieces.items in
    let whole = length-readable mem pieces (rules_inside (length mem) pieces c.requires.rules) in
    let frame = length-part (readable mem pieces) 12 c.args.len (omega (arith, whole, c.requires.whole)) in
    let (few, waiting_fit, bytes_fit, sent_fit, count, inside) = c.self.invariant in (
      few,
      waiting_fit,
      omega (arith, bytes_fit, c.add_frame.ensures.length, c.add_frame.ensures.capacity, c.requires.few, c.requires.spare, ap (λ (v : NetworkState). v.spare) c.self.view_is),
      omega (arith, sent_fit, c.push_reserved.ensures.len, c.push_reserved.ensures.capacity, c.requires.spare, ap (λ (v : NetworkState). v.spare) c.self.view_is),
      omega (arith, count, c.push_reserved.ensures.len, c.requires.spare, ap (λ (v : NetworkState). v.spare) c.self.view_is),
      rw (c.push_reserved.ensures.items, c.add_frame.ensures.bytes)
          (are_inside-more (length s.bytes.items) _ s.sent.items c.len-start.result c.args.len
          (omega (arith, length-append s.bytes.items (part (readable mem pieces) 12 c.args.len)))
          (omega (arith, length-append s.bytes.items (part (readable mem pieces) 12 c.args.len), frame, c.len-start.ensures, s.bytes.ok.0))
          inside),
    )

pub returns : goal.returns
returns c =
    let s = c.self.inside in
    let mem = c.args.mem.now.bytes in
    let pieces = c.args.chain.now.pieces.items in
    let frame = part (readable mem pieces) 12 c.args.len in
    let whole = length-readable mem pieces (rules_inside (length mem) pieces c.requires.rules) in
    let long : length frame ≡ c.args.len = length-part (readable mem pieces) 12 c.args.len (omega (arith, whole, c.requires.whole)) in
    let (few, waiting_fit, bytes_fit, sent_fit, count, inside) = c.self.invariant in
    let start : c.len-start.result ≡ length s.bytes.items = omega (arith, c.len-start.ensures, s.bytes.ok.0) in
    let sent : sent_frames c.add_frame.new.bytes.items c.push_reserved.new.self.items ≡ sent_frames s.bytes.items s.sent.items ++ frame ∷ [] =
    rw (c.push_reserved.ensures.items, c.add_frame.ensures.bytes)
    (sent_frames-more s.bytes.items frame s.sent.items c.len-start.result c.args.len start (sym long) inside) in
    ap (λ (frames : List (List ℕ)). record { waiting = waiting_frames s.waiting.items; sent = frames; spare = s.spare - 1 }) sent
    ∙ ap (λ (old : NetworkState). record { waiting = old.waiting; sent = old.sent ++ frame ∷ []; spare = old.spare - 1 }) c.self.view_is
