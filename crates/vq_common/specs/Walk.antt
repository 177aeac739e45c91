use Rattle.std.specs.Prelude.{◌≡◌, ℕ, ◌<◌, ◌≤◌, ◌⊎◌, ◌++◌, List, [], ◌∷◌, length, true, false}
use Rattle.vt_types.specs.Limits.{MOST_PIECES}
use Rattle.vq_common.specs.declared.chain.Piece.{Piece}
use Rattle.vq_common.specs.declared.descriptor.Descriptor.{Descriptor}
use Rattle.vq_common.specs.declared.walk.WalkStep.{WalkStep}
use Rattle.vq_common.specs.declared.walk.WalkStep.TheVariants.{Next, End, Table, Bad}
use Rattle.vq_common.specs.Descriptor.{has_next, is_indirect, piece_of}

-- the descriptor at a location of a table of `count` names a piece, which joins those that a walk has, for which there is room
pub record AddsPiece (count location : ℕ) (d : Descriptor) (old new : List Piece) : Type 0 where
  pub within : location < count
  pub direct : is_indirect d.flags ≡ false
  pub room : length old < MOST_PIECES
  pub pieces : new ≡ old ++ piece_of d ∷ []

-- the descriptor there names a table
pub record NamesTable (count location : ℕ) (d : Descriptor) (old new : List Piece) : Type 0 where
  pub within : location < count
  pub indirect : is_indirect d.flags ≡ true
  pub pieces : new ≡ old

-- one step of a walk at the descriptor d: the chain goes on at its `next`, ends here, or has a table; or there is no such
-- location, or no room for the piece
abbrev pub Steps : ℕ → ℕ → Descriptor → List Piece → WalkStep → List Piece → Type 0
Steps count location d old (Next next) new = AddsPiece count location d old new × (has_next d.flags ≡ true) × (next ≡ d.next)
Steps count location d old End new = AddsPiece count location d old new × (has_next d.flags ≡ false)
Steps count location d old (Table named) new = NamesTable count location d old new × (named ≡ d)
Steps count location d old Bad new = ((count ≤ location) ⊎ ((is_indirect d.flags ≡ false) × (MOST_PIECES ≤ length old))) × (new ≡ old)
