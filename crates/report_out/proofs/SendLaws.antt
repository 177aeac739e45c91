use Rattle.std.proofs.Common.{◌≡◌, ℕ, ◌+◌, ◌≤◌, List, [], ◌∷◌, ◌++◌, length, drop, Bool, Some, refl, ◌∙◌, arith, length-append}
use Rattle.std.specs.Prelude.{Result, Ok, Err}
use Rattle.vt_outside.specs.Disk.{DiskView}
use Rattle.vt_outside.specs.Sink.{SinkView}
use Rattle.vt_outside.specs.Text.{IsPrefixOf}
use Rattle.vt_outside.proofs.SinkLaws.{adds_none, adds_then}
use Rattle.vt_outside.proofs.TextLaws.{prefix_behind, prefix_then}
use Rattle.report_out.specs.DiskCalls.{SameDisk}
use Rattle.report_out.specs.declared.stop.Stop.{Stop}
use Rattle.report_out.specs.declared.stop.Stop.TheVariants.{Read, Write, Memory}
use Rattle.report_out.specs.Output.{AllOrPart, AllOrAtMost, SendCause, Sends, SendsDisk}
use Rattle.report_out.proofs.OutcomeLaws.{outcomes_none, outcomes_then, takes_then}

-- a cause of sending stays one where all was sent before
pub cause_then : {X : Type 0} (r : Result X Stop) (k k1 k2 : SinkView) → k1.faults ≡ k.faults → SendCause r k1 k2 → SendCause r k k2
cause_then (Ok x) k k1 k2 same h = h ∙ same
cause_then (Err Read) k k1 k2 same h = h
cause_then (Err Write) k k1 k2 same h = rw same at h
cause_then (Err Memory) k k1 k2 same h = h

-- all of one text and then a part of another are a part of both
pub part_then : (r : Result Unit Stop) (s x t y : List ℕ) → s ≡ x → AllOrPart r t y → AllOrPart r (s ++ t) (x ++ y)
part_then (Ok u) s x t y e h = rw (e, h) refl
part_then (Err u) s x t y e h = rw e (prefix_behind x t y h)

-- a part of a text by another name
pub part_as : (r : Result Unit Stop) (s x y : List ℕ) → x ≡ y → AllOrPart r s x → AllOrPart r s y
part_as r s x y e h = rw e at h

-- so many calls are all of so many
pub all_made : (r : Result Unit Stop) (n : ℕ) → AllOrAtMost r n n
all_made (Ok u) n = refl
all_made (Err u) n = omega arith

-- all of some calls and then others
made_then : (r : Result Unit Stop) (x y : List Bool) (n m : ℕ) → length x ≡ n → AllOrAtMost r (length y) m → AllOrAtMost r (length (x ++ y)) (n + m)
made_then (Ok u) x y n m e h = omega (arith, e, h, length-append x y)
made_then (Err u) x y n m e h = omega (arith, e, h, length-append x y)

-- neither of two texts has bytes, where both together have none
both_none : (x y : List ℕ) → x ++ y ≡ [] → (x ≡ []) × (y ≡ [])
both_none [] y e = (refl, e)
both_none (b ∷ x) y e = absurd (cc)

-- nothing was sent yet
pub sends_none : (k : SinkView) → Sends k k [] (Ok tt)
sends_none k = record { cause = refl; nothing = λ e. refl; sent = []; adds = adds_none k.written; part = refl }

-- one text after another
pub sends_then : (k k1 k2 : SinkView) (x y : List ℕ) (r : Result Unit Stop) → Sends k k1 x (Ok tt) → Sends k1 k2 y r → Sends k k2 (x ++ y) r
sends_then k k1 k2 x y r h g = record {
  cause = cause_then r k k1 k2 h.cause g.cause;
  nothing = λ e. let (none, others) = both_none x y e in g.nothing others ∙ h.nothing none;
  sent = h.sent ++ g.sent;
  adds = adds_then k.written k1.written k2.written h.sent g.sent h.adds g.adds;
  part = part_then r h.sent x g.sent y h.part g.part;
}

-- a part of the front of a text is a part of the text
pub sends_front : (k k1 : SinkView) (x y : List ℕ) (e : Stop) → IsPrefixOf x y → Sends k k1 x (Err e) → Sends k k1 y (Err e)
sends_front k k1 x y e p h = record {
  cause = h.cause;
  nothing = λ none. h.nothing (both_none x p.0 (p.1 ∙ none)).0;
  sent = h.sent;
  adds = h.adds;
  part = prefix_then h.sent x y h.part p;
}

-- a text by another name
pub sends_as : (k k1 : SinkView) (x y : List ℕ) (r : Result Unit Stop) → x ≡ y → Sends k k1 x r → Sends k k1 y r
sends_as k k1 x y r e h = rw e at h

-- a disk that was not asked tells what it told
pub same_none : (d : DiskView) → SameDisk d d
same_none d = record { image = refl; count = refl; read_only = refl }

pub same_then : (d d1 d2 : DiskView) → SameDisk d d1 → SameDisk d1 d2 → SameDisk d d2
same_then d d1 d2 h g = record { image = g.image ∙ h.image; count = g.count ∙ h.count; read_only = g.read_only ∙ h.read_only }

-- a text that doesn't hang on the disk
pub disk_unasked : (text : List ℕ) (d : DiskView) (k k2 : SinkView) (r : Result Unit Stop) → Sends k k2 text r → SendsDisk (λ image outcomes. text) 0 d d k k2 r
disk_unasked text d k k2 r h = record {
  cause = h.cause;
  disk_later = omega arith;
  disk = same_none d;
  outcomes = [];
  tells = outcomes_none d.outcomes;
  calls = all_made r 0;
  sent = h.sent;
  adds = h.adds;
  part = λ image before after told takes. h.part;
}

-- one text after another: the readings of the first take the first outcomes
pub disk_then : (f g : List (List ℕ) → List Bool → List ℕ) (n m : ℕ) (d d1 d2 : DiskView) (k k1 k2 : SinkView) (r : Result Unit Stop)
    → SendsDisk f n d d1 k k1 (Ok tt) → SendsDisk g m d1 d2 k1 k2 r → SendsDisk (λ image outcomes. f image outcomes ++ g image (drop n outcomes)) (n + m) d d2 k k2 r
disk_then f g n m d d1 d2 k k1 k2 r h i = record {
  cause = cause_then r k k1 k2 h.cause i.cause;
  disk_later = let a = h.disk_later in let b = i.disk_later in omega (arith, a, b);
  disk = same_then d d1 d2 h.disk i.disk;
  outcomes = h.outcomes ++ i.outcomes;
  tells = outcomes_then d.outcomes d1.outcomes d2.outcomes h.outcomes i.outcomes h.tells i.tells;
  calls = made_then r h.outcomes i.outcomes n m h.calls i.calls;
  sent = h.sent ++ i.sent;
  adds = adds_then k.written k1.written k2.written h.sent i.sent h.adds i.adds;
  part = λ image before after told takes.
      let (front, back) = takes_then d d1 d2 h.outcomes i.outcomes before after n h.tells h.calls i.tells h.disk_later i.disk_later takes in
      part_then r h.sent (f image before) i.sent (g image (drop n before)) (h.part image before (drop n before) told front)
      (i.part image (drop n before) after (h.disk.image ∙ told) back);
}

-- a part of the front of a text is a part of the text
pub disk_front : (f g : List (List ℕ) → List Bool → List ℕ) (n m : ℕ) (d d2 : DiskView) (k k2 : SinkView) (e : Stop) → n ≤ m
    → ((image : List (List ℕ)) (outcomes : List Bool) → d.image ≡ Some image → IsPrefixOf (f image outcomes) (g image outcomes)) → SendsDisk f n d d2 k k2 (Err e)
    → SendsDisk g m d d2 k k2 (Err e)
disk_front f g n m d d2 k k2 e few p h = record {
  cause = h.cause;
  disk_later = h.disk_later;
  disk = h.disk;
  outcomes = h.outcomes;
  tells = h.tells;
  calls = let a = h.calls in omega (arith, a, few);
  sent = h.sent;
  adds = h.adds;
  part = λ image before after told takes. prefix_then h.sent (f image before) (g image before) (h.part image before after told takes) (p image before told);
}

-- a text by another name
pub disk_as : (f g : List (List ℕ) → List Bool → List ℕ) (n m : ℕ) (d d2 : DiskView) (k k2 : SinkView) (r : Result Unit Stop) → n ≡ m
    → ((image : List (List ℕ)) (outcomes : List Bool) → d.image ≡ Some image → f image outcomes ≡ g image outcomes) → SendsDisk f n d d2 k k2 r → SendsDisk g m d d2 k k2 r
disk_as f g n m d d2 k k2 r same e h = record {
  cause = h.cause;
  disk_later = h.disk_later;
  disk = h.disk;
  outcomes = h.outcomes;
  tells = h.tells;
  calls = rw same at h.calls;
  sent = h.sent;
  adds = h.adds;
  part = λ image before after told takes. part_as r h.sent (f image before) (g image before) (e image before told) (h.part image before after told takes);
}
