use Rattle.std.proofs.Common.{◌≡◌, ℕ, ◌||◌, length, drop}
use Rattle.vq_posted.specs.Free.{is_in}
use Rattle.vq_posted.specs.Members.{is_member}
use Rattle.vq_posted.proofs.number_set.NumberSet.insert_all.Given as goal

abbrev pub invariant-numbers : goal.invariant-numbers
invariant-numbers l = record {
  room : length l.self ≡ length l.fn.self;
  members : (n : ℕ) → (is_in n (drop l.number-index l.numbers) || is_member l.self n) ≡ (is_in n l.numbers || is_member l.fn.self n);
}
