use Rattle.vt_types.specs.declared.device.Dev.{Dev}
use Rattle.vt_types.specs.declared.device.Dev.TheVariants.{Blk, Net, Con}

-- one value for each device
pub record ByDevice (A : Type 0) : Type 0 where
  pub blk : A
  pub net : A
  pub con : A

-- that of a device
abbrev pub of : {A : Type 0} → ByDevice A → Dev → A
of all Blk = all.blk
of all Net = all.net
of all Con = all.con

-- another one for a device
abbrev pub with : {A : Type 0} → ByDevice A → Dev → A → ByDevice A
with all Blk x = record all { blk = x }
with all Net x = record all { net = x }
with all Con x = record all { con = x }

-- the same for each
abbrev pub all_of : {A : Type 0} → (Dev → A) → ByDevice A
all_of value = record { blk = value Blk; net = value Net; con = value Con }
