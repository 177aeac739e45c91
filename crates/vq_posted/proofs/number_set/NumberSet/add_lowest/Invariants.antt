use Rattle.std.proofs.Common.{◌≡◌, ◌++◌, ◌-◌, ◌*◌, ◌≤◌, length, take, filter}
use Rattle.vq_posted.specs.Free.{numbers}
use Rattle.vq_posted.specs.Members.{is_member, members}
use Rattle.vq_posted.proofs.number_set.NumberSet.add_lowest.Given as goal

abbrev pub invariant-numbers : goal.invariant-numbers
invariant-numbers l = record {
  few : length l.numbers.items ≤ l._left;
  low : l.from ≤ 64 * length l.self;
  items : l.numbers.items ++ take (l.count - l._left) (filter (is_member l.self) (numbers l.from (64 * length l.self - l.from))) ≡ take l.count (members l.self);
}
