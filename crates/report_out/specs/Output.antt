use Rattle.std.specs.Prelude.{◌≡◌, ℕ, ◌≤◌, List, [], length, Bool, Some, Result, Ok, Err}
use Rattle.vt_outside.specs.Disk.{DiskView}
use Rattle.vt_outside.specs.Faults.{Rose}
use Rattle.vt_outside.specs.Sink.{SinkView, Adds}
use Rattle.vt_outside.specs.Text.{IsPrefixOf}
use Rattle.report_out.specs.DiskCalls.{SameDisk, AddsOutcomes, TakesOutcomes}
use Rattle.report_out.specs.declared.stop.Stop.{Stop}
use Rattle.report_out.specs.declared.stop.Stop.TheVariants.{Read, Write, Memory}

-- all the bytes were sent, or with a fault a part of them
abbrev pub AllOrPart : {X : Type 0} → Result X Stop → List ℕ → List ℕ → Type 0
AllOrPart (Ok x) sent bytes = sent ≡ bytes
AllOrPart (Err e) sent bytes = IsPrefixOf sent bytes

-- all the calls were made, or with a fault at most so many
abbrev pub AllOrAtMost : {X : Type 0} → Result X Stop → ℕ → ℕ → Type 0
AllOrAtMost (Ok x) calls all = calls ≡ all
AllOrAtMost (Err e) calls all = calls ≤ all

-- why sending stopped: the sink failed. It asks no source and takes no memory
abbrev pub StopCause : Stop → SinkView → SinkView → Type 0
StopCause Read k k2 = ⊥
StopCause Write k k2 = Rose k.faults k2.faults
StopCause Memory k k2 = ⊥

-- the cause of an answer; where all was sent, the sink's count of faults is as it was
abbrev pub SendCause : {X : Type 0} → Result X Stop → SinkView → SinkView → Type 0
SendCause (Ok x) k k2 = k2.faults ≡ k.faults
SendCause (Err stop) k k2 = StopCause stop k k2

-- bytes were sent to a sink; where there are none, it is as it was
pub record Sends (old new : SinkView) (bytes : List ℕ) (result : Result Unit Stop) : Type 0 where
  pub cause : SendCause result old new
  pub nothing : bytes ≡ [] → new ≡ old
  pub sent : List ℕ
  pub adds : Adds old.written new.written sent
  pub part : AllOrPart result sent bytes

-- a text of a disk was sent, for which this many sectors are read: where the disk tells its image, the text of this image
-- and of the outcomes of the readings
pub record SendsDisk (text : List (List ℕ) → List Bool → List ℕ) (readings : ℕ) (d d2 : DiskView) (k k2 : SinkView) (result : Result Unit Stop) : Type 0 where
  pub cause : SendCause result k k2
  pub disk_later : d.faults ≤ d2.faults
  pub disk : SameDisk d d2
  pub outcomes : List Bool
  pub tells : AddsOutcomes d.outcomes d2.outcomes outcomes
  pub calls : AllOrAtMost result (length outcomes) readings
  pub sent : List ℕ
  pub adds : Adds k.written k2.written sent
  pub part : (image : List (List ℕ)) (before after : List Bool) → d.image ≡ Some image → TakesOutcomes d d2 before after → AllOrPart result sent (text image before)
