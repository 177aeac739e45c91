use Rattle.std.proofs.Common.{◌≡◌, ℕ, ◌<◌, ◌≤◌, get_or}
use Rattle.vq_posted.proofs.number_set.NumberSet.first_from_word.Given as goal

abbrev pub invariant-words : goal.invariant-words
invariant-words l = (k : ℕ) → l.index ≤ k → k < l.i → get_or l.self-inside.words.items k 0 ≡ 0
