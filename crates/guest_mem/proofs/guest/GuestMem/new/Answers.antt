use Rattle.std.proofs.Common.{◌≡◌, ◌+◌, ◌*◌, ◌/◌, ◌≤◌, ◌^◌, ℕ, ◌∷◌, [], Bool, List, replicate, ◌∙◌, ap, arith}
use Rattle.guest_mem.specs.Arena.{ArenaView, zero_page}
use Rattle.guest_mem.specs.Pages.{MemoryView}
use Rattle.guest_mem.specs.PageMap.{view_of, made_by}
use Rattle.guest_mem.proofs.NewMemory.{new-seen, new-made, new-holds}
use Rattle.guest_mem.proofs.guest.GuestMem.new.Goals as goal

-- as many pages as the bytes want, and no more than there can be
enough : (len : ℕ) → len ≤ (len + 4095) / 4096 * 4096
enough len = omega arith

few : (len : ℕ) → len ≤ 2 ^ 28 → (len + 4095) / 4096 ≤ 65536
few len most = omega arith

pub invariant_of-result : goal.invariant_of-result
invariant_of-result c =
    rw (c.in_ok-new.ensures, c.in_ok-unmade.ensures) (new-holds c.args.len ((c.args.len + 4095) / 4096) (enough c.args.len) (few c.args.len c.requires))

pub returns : goal.returns
returns c =
    let len : ℕ = c.args.len in
    let count : ℕ = (len + 4095) / 4096 in
    let bytes = new-seen len count (enough len) in
    let made = new-made count in
    let numbers : c.in_ok-unmade.field-0.items ≡ replicate count 0 = c.in_ok-unmade.ensures in
    let arena : c.in_ok-new.field-0 ≡ record { pages = zero_page ∷ []; spare = 0 } = c.in_ok-new.ensures in
    let seen : List ℕ → List Bool → MemoryView = λ b m. record { bytes = b; made = m; spare = 0 } in
    ap (λ (a : ArenaView). view_of a c.in_ok-unmade.field-0.items len) arena
    ∙ ap (λ (n : List ℕ). view_of (record { pages = zero_page ∷ []; spare = 0 }) n len) numbers
    ∙ ap (λ (b : List ℕ). seen b (made_by (replicate count 0))) bytes ∙ ap (seen (replicate len 0)) made
