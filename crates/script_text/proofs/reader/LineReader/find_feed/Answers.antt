use Rattle.std.proofs.Common.{◌≡◌, ℕ, ◌-◌, List, Option, Some, None, take, drop, length, sym, ap, ◌∙◌}
use Rattle.std.specs.Prelude.{◌==◌}
use Rattle.std.specs.List.{position}
use Rattle.std.proofs.lemmas.List.{take_rest}
use Rattle.script_text.proofs.LineLaws.{found_behind, none_behind}
use Rattle.script_text.proofs.reader.LineReader.find_feed.Goals as goal

rest_is : (held v : List ℕ) (s : ℕ) (o : Option ℕ) → v ≡ held → o ≡ position (λ b. b == 10) (take (length v - s) (drop s v)) → position (λ b. b == 10) (drop s held) ≡ o
rest_is held v s o e h = ap (λ xs. position (λ b. b == 10) xs) (sym (take_rest v s ∙ ap (drop s) e)) ∙ sym h

pub returns-in-Some : goal.returns-in-Some
returns-in-Some c =
    let held : List ℕ = c.args.self.now.held in
    sym (found_behind (λ b. b == 10) held c.args.searched c.in-Some.n c.requires.within c.requires.none (rest_is held c.held.result.now c.args.searched (Some c.in-Some.n) c.held.ensures (c.in-Some.ensures).value))

pub returns-in-None : goal.returns-in-None
returns-in-None c =
    let held : List ℕ = c.args.self.now.held in
    sym (none_behind (λ b. b == 10) held c.args.searched c.requires.within c.requires.none (rest_is held c.held.result.now c.args.searched None c.held.ensures (c.in-None.ensures).value))
