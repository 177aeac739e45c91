use Rattle.std.proofs.Common.{◌/◌, refl, ap, arith}
use Rattle.guest_mem.specs.Pages.{pages_made}
use Rattle.guest_mem.proofs.Makes.{pages_made-put_at, touched_one}
use Rattle.guest_mem.proofs.guest.GuestMem.make.Goals as goal

pub returns-then-is_in_one_page-clause-total : goal.returns-then-is_in_one_page-clause-total
returns-then-is_in_one_page-clause-total c =
    let some = c.if-is_in_one_page.ensures.0 refl in
    omega (
      arith,
      ap pages_made c.make_page.ensures.made,
      c.make_page.ensures.spare,
      pages_made-put_at c.args.self.now.made (c.args.at / 4096) 1 (omega (arith, touched_one c.args.at c.args.count some.0 some.1, c.requires.inside)),
    )

pub returns-else-is_in_one_page-clause-total : goal.returns-else-is_in_one_page-clause-total
returns-else-is_in_one_page-clause-total c =
    omega (
      arith,
      ap pages_made c.make_pages.ensures.made,
      c.make_pages.ensures.spare,
      pages_made-put_at c.args.self.now.made (c.args.at / 4096) c.touched.result (omega (arith, c.touched.ensures.value, c.requires.inside)),
    )
