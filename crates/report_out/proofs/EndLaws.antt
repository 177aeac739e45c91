use Rattle.std.proofs.Common.{◌≡◌, ℕ, zero, suc, ◌+◌, ◌<◌, ◌≤◌, List, [], ◌∷◌, ◌++◌, length, take, drop, Bool, Some, refl, sym, ap, ◌∙◌, arith, append_assoc, append-nil, add-zero}
use Rattle.std.proofs.Math.Seq.{drop-nil}
use Rattle.std.specs.Prelude.{codes, slice_get, Result, Ok, Err, OnOk, is_ok}
use Rattle.std.specs.Fmt.{decimal}
use Rattle.std.proofs.lemmas.Fmt.{decimal_digit}
use Rattle.std.proofs.lemmas.Grind.{common_steps}
use Rattle.vt_outside.specs.declared.failed.Failed.{Failed}
use Rattle.vt_outside.specs.Disk.{DiskView, Called, Reads}
use Rattle.vt_outside.specs.Sink.{SinkView}
use Rattle.vt_outside.specs.Text.{IsPrefixOf}
use Rattle.report_text.specs.EndParts.{disk_line}
use Rattle.report_text.specs.Words.{hex}
use Rattle.vt_outside.proofs.TextLaws.{prefix_append, prefix_behind, prefix_none, prefix_then}
use Rattle.report_out.specs.declared.stop.Stop.{Stop}
use Rattle.report_out.specs.DiskCalls.{IsWhole, SameDisk}
use Rattle.report_out.specs.EndText.{disk_text, first_outcome, reading_text, sector_lines}
use Rattle.report_out.specs.Output.{Sends, SendsDisk}
use Rattle.report_out.specs.Pieces.{console_text, line_of_sector, lines_below}
use Rattle.report_out.proofs.OutcomeLaws.{first_taken, outcomes_one}
use Rattle.report_out.proofs.SendLaws.{all_made, part_as}

-- the outcomes behind one more than n
drop_next : (n : ℕ) (outcomes : List Bool) → drop (suc n) outcomes ≡ drop n (drop 1 outcomes)
drop_next n [] = sym (drop-nil n)
drop_next n (b ∷ outcomes) = refl

-- the lines of the first n sectors, and that of the next one
sectors_more : (k n : ℕ) (image : List (List ℕ)) (outcomes : List Bool)
    → sector_lines k (take n image) outcomes ++ sector_lines (k + n) (take 1 (drop n image)) (drop n outcomes) ≡ sector_lines k (take (n + 1) image) outcomes
sectors_more k zero image outcomes = rw add-zero refl
sectors_more k (suc n) [] outcomes = let e : suc n + 1 ≡ suc (n + 1) = omega arith in rw e refl
sectors_more k (suc n) (s ∷ image) outcomes =
    let e : suc n + 1 ≡ suc (n + 1) = omega arith in
    let f : k + suc n ≡ k + 1 + n = omega arith in
    rw (e, f, drop_next n outcomes)
    (append_assoc (reading_text k s (first_outcome outcomes)) (sector_lines (k + 1) (take n image) (drop 1 outcomes)) (sector_lines (k + 1 + n) (take 1 (drop n image)) (drop n (drop 1 outcomes)))
    ∙ ap (λ z. reading_text k s (first_outcome outcomes) ++ z) (sectors_more (k + 1) n image (drop 1 outcomes)))

pub lines_more : (n : ℕ) (image : List (List ℕ)) (outcomes : List Bool)
    → lines_below n image outcomes ++ line_of_sector n image (drop n outcomes) ≡ lines_below (n + 1) image outcomes
lines_more n image outcomes = let e : 0 + n ≡ n = omega arith in rw e at (sectors_more 0 n image outcomes)

-- the lines of fewer sectors are the front of those of more
sectors_front : (k n m : ℕ) (image : List (List ℕ)) (outcomes : List Bool) → n ≤ m → IsPrefixOf (sector_lines k (take n image) outcomes) (sector_lines k (take m image) outcomes)
sectors_front k zero m image outcomes le = prefix_none _
sectors_front k (suc n) zero image outcomes le = absurd (omega arith)
sectors_front k (suc n) (suc m) [] outcomes le = prefix_none _
sectors_front k (suc n) (suc m) (s ∷ image) outcomes le = prefix_behind _ _ _ (sectors_front (k + 1) n m image (drop 1 outcomes) (omega arith))

pub lines_front : (n m : ℕ) (image : List (List ℕ)) (outcomes : List Bool) → n ≤ m → IsPrefixOf (lines_below n image outcomes) (lines_below m image outcomes)
lines_front n m image outcomes le = sectors_front 0 n m image outcomes le

-- a sector that was read
taken : (n : ℕ) (image : List (List ℕ)) (bytes : List ℕ) → slice_get image n ≡ Some bytes → take 1 (drop n image) ≡ bytes ∷ []
taken n [] bytes h = absurd (cc)
taken zero (s ∷ image) bytes h = let e : s ≡ bytes = cc in rw e refl
taken (suc n) (s ∷ image) bytes h = taken n image bytes h

-- a sector that is there
there : (n : ℕ) (image : List (List ℕ)) → n < length image → (bytes : List ℕ) × (take 1 (drop n image) ≡ bytes ∷ [])
there n [] lt = absurd (omega arith)
there zero (s ∷ image) lt = (s, refl)
there (suc n) (s ∷ image) lt = there n image (omega arith)

-- the line of a sector whose reading takes the first outcome
line_is : (n : ℕ) (image : List (List ℕ)) (outcomes : List Bool) (bytes : List ℕ) (read : Bool) → take 1 (drop n image) ≡ bytes ∷ [] → first_outcome outcomes ≡ read
    → reading_text n bytes read ≡ line_of_sector n image outcomes
line_is n image outcomes bytes read e f = rw (e, f) (sym (append-nil (reading_text n bytes read)))

-- a sector was read or not, and its line was sent
pub sector_sent : (n : ℕ) (d d2 : DiskView) (k k2 : SinkView) (read : Result Unit Failed) (bytes held : List ℕ) (r : Result Unit Stop) → n < d.count → IsWhole d
    → Called d d2 read → d2.image ≡ d.image → OnOk read (Reads n bytes d.image) → held ≡ reading_text n bytes (is_ok read) → Sends k k2 held r
    → SendsDisk (line_of_sector n) 1 d d2 k k2 r
sector_sent n d d2 k k2 read bytes held r within whole called same reads line sends = record {
  cause = sends.cause;
  disk_later = called.later;
  disk = record { image = same; count = called.count; read_only = called.read_only };
  outcomes = is_ok read ∷ [];
  tells = outcomes_one d.outcomes d2.outcomes (is_ok read) called.outcomes;
  calls = all_made r 1;
  sent = sends.sent;
  adds = sends.adds;
  part = λ image before after told takes.
      part_as r sends.sent held (line_of_sector n image before) (line ∙ of_reading read image before after reads told (first_taken d d2 read before after called takes)) sends.part;
}
  where
    of_reading : (read : Result Unit Failed) (image : List (List ℕ)) (before after : List Bool) → OnOk read (Reads n bytes d.image) → d.image ≡ Some image
        → first_outcome before ≡ is_ok read → reading_text n bytes (is_ok read) ≡ line_of_sector n image before
    of_reading (Ok x) image before after reads told first = line_is n image before bytes _ (taken n image bytes (rw told at reads).0) first
    of_reading (Err x) image before after reads told first =
        let size : length image ≡ d.count = rw told at whole.whole in
        let (other, e) = there n image (omega (arith, size, within)) in
        line_is n image before other _ e first

-- the disk is whole after its calls too
pub whole_then : (d d2 : DiskView) → SameDisk d d2 → IsWhole d → IsWhole d2
whole_then d d2 same whole = record { whole = rw (same.image, same.count) whole.whole }

-- the console's text as it is sent, and its fronts
pub console_whole : (console : List ℕ) → codes "frames 0\nconsole " ++ hex console ++ codes "\n" ≡ console_text console
console_whole console =
    let e : decimal 0 ≡ codes "0" = decimal_digit 0 (omega arith) in
    rw e refl

pub console_told : (console : List ℕ) → IsPrefixOf (codes "frames 0\nconsole " ++ hex console) (console_text console)
console_told console = (codes "\n", console_whole console)

pub console_opened : (console : List ℕ) → IsPrefixOf (codes "frames 0\nconsole ") (console_text console)
console_opened console =
    prefix_then (codes "frames 0\nconsole ") (codes "frames 0\nconsole " ++ hex console) (console_text console)
    (prefix_append (codes "frames 0\nconsole ") (hex console)) (console_told console)

lines_all : (image : List (List ℕ)) (outcomes : List Bool) → lines_below (length image) image outcomes ≡ sector_lines 0 image outcomes
lines_all image outcomes = let e : take (length image) image ≡ image = grind (arith, common_steps) in rw e refl

-- also where the number of sectors has another name
pub disk_opened : (n : ℕ) (image : List (List ℕ)) (outcomes : List Bool) → length image ≡ n → IsPrefixOf (disk_line n) (disk_text image outcomes)
disk_opened n image outcomes e = rw (← e)
    (prefix_then (disk_line (length image)) (disk_line (length image) ++ sector_lines 0 image outcomes) (disk_text image outcomes)
    (prefix_append (disk_line (length image)) (sector_lines 0 image outcomes))
    (prefix_append (disk_line (length image) ++ sector_lines 0 image outcomes) (codes "end\n")))

disk_listed : (n : ℕ) (image : List (List ℕ)) (outcomes : List Bool) → length image ≡ n → disk_line n ++ lines_below n image outcomes ≡ disk_line (length image) ++ sector_lines 0 image outcomes
disk_listed n image outcomes e = rw (← e) (ap (λ z. disk_line (length image) ++ z) (lines_all image outcomes))

pub disk_ended : (n : ℕ) (image : List (List ℕ)) (outcomes : List Bool) → length image ≡ n → disk_line n ++ lines_below n image outcomes ++ codes "end\n" ≡ disk_text image outcomes
disk_ended n image outcomes e = ap (λ z. z ++ codes "end\n") (disk_listed n image outcomes e)

pub disk_told : (n : ℕ) (image : List (List ℕ)) (outcomes : List Bool) → length image ≡ n → IsPrefixOf (disk_line n ++ lines_below n image outcomes) (disk_text image outcomes)
disk_told n image outcomes e = (codes "end\n", disk_ended n image outcomes e)
