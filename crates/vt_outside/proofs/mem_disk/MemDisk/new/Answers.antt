use Rattle.std.proofs.Common.{ℕ, List, [], ◌∷◌, ◌++◌, replicate, ap, ◌∙◌}
use Rattle.std.proofs.lemmas.List.{replicate-append-replicate}
use Rattle.vt_outside.proofs.mem_disk.MemDisk.new.Goals as goal

pub sectors-preserved : goal.sectors-preserved
sectors-preserved c =
    let zeros : List ℕ = replicate 512 0 in
    (c.in_ok-push.ensures).items ∙ ap (λ z. z ++ zeros ∷ []) c.sectors.invariant ∙ replicate-append-replicate c.sectors._made 1 zeros
