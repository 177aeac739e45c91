-- One device changes, and the others are as they were.
use Rattle.std.proofs.Common.{◌≡◌, refl}
use Rattle.vt_types.specs.declared.device.Dev.{Dev}
use Rattle.vt_types.specs.declared.device.Dev.TheVariants.{Blk, Net, Con}
use Rattle.by_device.specs.ByDevice.{ByDevice, all_of, of, with}

-- a device has what it was given
pub of_same : {A : Type 0} (all : ByDevice A) (dev : Dev) (x : A) → of (with all dev x) dev ≡ x
of_same all Blk x = refl
of_same all Net x = refl
of_same all Con x = refl

-- and another one what it had
pub of_other : {A : Type 0} (all : ByDevice A) (dev other : Dev) (x : A) → (other ≡ dev → ⊥) → of (with all dev x) other ≡ of all other
of_other all Blk Blk x apart = absurd (apart refl)
of_other all Blk Net x apart = refl
of_other all Blk Con x apart = refl
of_other all Net Blk x apart = refl
of_other all Net Net x apart = absurd (apart refl)
of_other all Net Con x apart = refl
of_other all Con Blk x apart = refl
of_other all Con Net x apart = refl
of_other all Con Con x apart = absurd (apart refl)

-- what a device has already changes nothing
pub with_same : {A : Type 0} (all : ByDevice A) (dev : Dev) → with all dev (of all dev) ≡ all
with_same all Blk = refl
with_same all Net = refl
with_same all Con = refl

-- of two changes of a device the later one stands
pub with_twice : {A : Type 0} (all : ByDevice A) (dev : Dev) (x y : A) → with (with all dev x) dev y ≡ with all dev y
with_twice all Blk x y = refl
with_twice all Net x y = refl
with_twice all Con x y = refl

-- of values that are made for each device
pub of_all : {A : Type 0} (value : Dev → A) (dev : Dev) → of (all_of value) dev ≡ value dev
of_all value Blk = refl
of_all value Net = refl
of_all value Con = refl

-- what holds of a device and of all others holds of each
pub each_device : (P : Dev → Type 0) (dev : Dev) → P dev → ((other : Dev) → (other ≡ dev → ⊥) → P other) → (any : Dev) → P any
each_device P Blk here others Blk = here
each_device P Blk here others Net = others Net (λ e. cc)
each_device P Blk here others Con = others Con (λ e. cc)
each_device P Net here others Blk = others Blk (λ e. cc)
each_device P Net here others Net = here
each_device P Net here others Con = others Con (λ e. cc)
each_device P Con here others Blk = others Blk (λ e. cc)
each_device P Con here others Net = others Net (λ e. cc)
each_device P Con here others Con = here
