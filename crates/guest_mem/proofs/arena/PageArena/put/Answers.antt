use Rattle.std.proofs.Common.{ℕ, ◌<◌, List, length, ◌∙◌, ap, arith}
use Rattle.std.proofs.lemmas.List.{length-map}
use Rattle.guest_mem.specs.Arena.{ArenaView, pages_with}
use Rattle.guest_mem.specs.declared.arena.Frame.{Frame}
use Rattle.guest_mem.proofs.Frames.{pages_with-put}
use Rattle.guest_mem.proofs.arena.PageArena.put.Goals as goal

pub returns : goal.returns
returns c =
    let frames : List Frame = c.self.inside.frames.items in
    let n : ℕ = c.args.number in
    let from : ℕ = c.args.from in
    let xs : List ℕ = c.args.bytes.now in
    let long = ap (λ (v : ArenaView). length v.pages) c.self.view_is in
    let row : n < length frames = omega (arith, c.requires.number, long, length-map frames (λ (frame : Frame). frame.bytes)) in
    ap (λ (pages : List (List ℕ)). record { pages = pages; spare = c.self.inside.spare })
    (pages_with-put frames n from xs c.index_mut.result.now c.put.new.self row c.index_mut.ensures.value c.put.ensures)
    ∙ ap (λ (v : ArenaView). record { pages = pages_with v.pages n from xs; spare = v.spare }) c.self.view_is
