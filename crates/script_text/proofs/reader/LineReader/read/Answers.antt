use Rattle.std.proofs.Common.{◌≡◌, ℕ, true, ◌+◌, ◌<◌, ◌≤◌, List, ◌++◌, length, take, sym, ap, ◌∙◌, arith}
use Rattle.std.specs.Prelude.{◌==◌, is_ok, vec_len, vec_capacity}
use Rattle.std.proofs.lemmas.List.{length-take-le}
use Rattle.script_text.specs.Reader.{without_line}
use Rattle.script_text.proofs.ReaderLaws.{reader, with_more, some_part, fits_in, cut_front, gave, at_ok}
use Rattle.script_text.proofs.reader.LineReader.read.Goals as goal

pub returns-in-Ok-clause-more : goal.returns-in-Ok-clause-more
returns-in-Ok-clause-more g c =
    let s = c.self.inside in
    let n : ℕ = c.in-Ok.n in
    let part : List ℕ = c.read.new.room in
    let came : List ℕ = take n part in
    let ok = (c.in-Ok.ensures).ok in
    let bound = ok.bound in
    let within : n ≤ length part = let same = c.read.auto.room in omega (arith, same, bound) in
    let min = c.min-most.ensures in
    let some : 0 < c.min-most.result = let room = c.room.ensures in let few = c.requires in omega (arith, min, room, few, ap length c.held.ensures) in
    let most : c.min-most.result ≤ 4096 = omega (arith, min) in
    let reserved : c.reserve.new.self.items ≡ s.bytes.items = c.reserve.ensures.items in
    let old : reader s.bytes.items s.start s.line_start s.line_len s.answered s.number s.ended ≡ without_line c.args.self.now = c.self.view_is ∙ c.drop_answered.ensures in
    let room = at_ok c.reserve.result (vec_len c.reserve.new.self + 4096 ≤ vec_capacity c.reserve.new.self) (c.if-is_err.ensures).negation c.reserve.ensures.ok in
    let items = c.extend_from_slice-fits.ensures.items in
    let fits : is_ok c.extend_from_slice-fits.result ≡ true = c.extend_from_slice-fits.ensures.succeeds (fits_in _ _ n _ 4096 _ _ bound most room) in
    let all : c.extend_from_slice-fits.new.self.items ≡ s.bytes.items ++ came = cut_front _ _ part _ n within (rw fits at items) ∙ ap (λ bytes. bytes ++ came) reserved in
    let len : length came ≡ n = length-take-le n part within in
    let inv = c.self.invariant in (
      came,
      ap (λ bytes. reader bytes s.start s.line_start s.line_len s.answered s.number (n == 0)) all
          ∙ with_more s.bytes.items came s.start s.line_start s.line_len s.answered s.number s.ended (n == 0) c.args.self.now inv.0 inv.1 old (ap (λ k. k == 0) (sym len)),
      gave _ _ _ part n within (some_part c.min-most.result _ some most) ok.moves,
      ok.faults,
    )
