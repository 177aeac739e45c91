use Rattle.std.proofs.Common.{◌≡◌, ℕ, length, nat_lt}
use Rattle.vq_posted.specs.Members.{is_member}
use Rattle.vq_posted.proofs.number_set.NumberSet.fill.Given as goal

abbrev pub invariant-numbers : goal.invariant-numbers
invariant-numbers l = record {
  room : length l.self ≡ length l.fn.self;
  members : (n : ℕ) → is_member l.self n ≡ nat_lt n l.number;
}
