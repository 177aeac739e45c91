use Rattle.std.specs.Prelude.{ℕ, None}
use Rattle.vt_outside.specs.Source.{SourceView}
use Rattle.vt_outside.specs.Sink.{SinkView}

-- a reader or a writer of std, and how many of its calls failed
pub record Adapted (S : Type 0) : Type 0 where
  pub inner : S
  pub faults : ℕ

-- a source over a reader tells nothing but how many calls failed
abbrev pub source_of : {S : Type 0} → Adapted S → SourceView
source_of a = record { left = None; faults = a.faults }

-- and so does a sink over a writer
abbrev pub sink_of : {S : Type 0} → Adapted S → SinkView
sink_of a = record { written = None; faults = a.faults }
