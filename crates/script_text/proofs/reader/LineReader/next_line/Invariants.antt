use Rattle.std.proofs.Common.{◌≡◌, ◌⊎◌, false, None}
use Rattle.std.specs.Prelude.{◌==◌}
use Rattle.std.specs.List.{position}
use Rattle.script_text.specs.Reader.{without_line}
use Rattle.script_text.proofs.ReaderLaws.{IsSearching, left_to_read}
use Rattle.script_text.proofs.reader.LineReader.next_line.Given as goal

abbrev pub invariant-reads : goal.invariant-reads
invariant-reads g l = record {
  searching : IsSearching l.fn.self l.self (g.S.Source.view l.fn.source) (g.S.Source.view l.source) l.searched;
  still : ((l.source ≡ l.fn.source) × (l.self ≡ without_line l.fn.self)) ⊎ ((l.fn.self.ended ≡ false) × (position (λ b. b == 10) l.fn.self.held ≡ None));
}

abbrev pub decreases-reads : goal.decreases-reads
decreases-reads g l = left_to_read l.self
