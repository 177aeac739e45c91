use Rattle.std.proofs.Common.{◌≡◌, ◌≤◌, ◌*◌, ◌+◌, ◌-◌, ◌∷◌, ◌++◌, [], List, ℕ, length, take, filter, length-append, ap, ◌∙◌, arith}
use Rattle.vq_posted.specs.Free.{numbers}
use Rattle.vq_posted.specs.Members.{is_member}
use Rattle.vq_posted.proofs.Numbers.{lowest_more, lowest_all}
use Rattle.vq_posted.proofs.number_set.NumberSet.add_lowest.Goals as goal

pub returns-in_default : goal.returns-in_default
returns-in_default c = lowest_all c.args.self.now _ _ c.numbers.from c.numbers._left c.args.count c.in_default.ensures.next c.numbers.invariant.items

pub overflow_cast-number : goal.overflow_cast-number
overflow_cast-number c = omega (arith, c.in-Some.ensures.next.inside, c.in-Some.ensures.bound)

pub overflow_add-from : goal.overflow_add-from
overflow_add-from c = omega (arith, c.in-Some.ensures.next.inside, c.in-Some.ensures.bound)

pub numbers-preserved : goal.numbers-preserved
numbers-preserved c =
    let few : length c.numbers.numbers.items ≤ c.numbers._left = c.numbers.invariant.few in
    let long : length (c.numbers.numbers.items ++ c.in-Some.number ∷ []) ≡ length c.numbers.numbers.items + 1 = length-append c.numbers.numbers.items (c.in-Some.number ∷ []) in
    record {
      few = omega (arith, ap length c.push.ensures.items);
      low = omega (arith, c.in-Some.ensures.next.inside);
      items =
          ap (λ (ns : List ℕ). ns ++ take (c.args.count - (c.numbers._left + 1)) (filter (is_member c.args.self.now) (numbers (c.in-Some.number + 1) (64 * length c.args.self.now - (c.in-Some.number + 1))))) c.push.ensures.items
          ∙ lowest_more c.args.self.now c.numbers.numbers.items _ c.numbers.from c.numbers._left c.args.count c.in-Some.number c.numbers-test.true c.in-Some.ensures.next c.numbers.invariant.items;
    }
