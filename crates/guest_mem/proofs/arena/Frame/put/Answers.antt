use Rattle.std.proofs.Common.{ℕ, ◌+◌, ◌-◌, List, length, take, drop, ap, ◌∙◌, arith, rules}
use Rattle.std.proofs.lemmas.List.{take_all}
use Rattle.guest_mem.specs.Memory.{put_at}
use Rattle.guest_mem.proofs.Puts.{put_at-take}
use Rattle.guest_mem.proofs.arena.Frame.put.Goals as goal

pub returns-then-bytes-eq16 : goal.returns-then-bytes-eq16
returns-then-bytes-eq16 c =
    let page : List ℕ = c.args.self.now.bytes in
    let from : ℕ = c.args.from in
    let bytes : List ℕ = c.args.bytes.now in
    let rest : ℕ = length bytes - 8 in
    c.copy-then-bytes-eq16.ensures
    ∙ ap (λ (p : List ℕ). put_at p (from + 8) (take rest (drop 8 bytes))) c.copy.ensures
    ∙ put_at-take page from 8 rest bytes (search rules) (omega (arith, c.if-bytes-eq16.true))
    ∙ ap (put_at page from) (take_all (8 + rest) bytes (omega arith))
