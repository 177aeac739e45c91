use Rattle.std.specs.Prelude.{ℕ, List, [], ◌∷◌, IsTrue}
use Rattle.vt_types.specs.Access.{is_width}
use Rattle.vt_types.specs.declared.operation.Field.{Field}
use Rattle.vt_types.specs.declared.operation.Field.TheVariants.{Capacity, SegMax, BlkSize, Writeback, Mac, NetStatus, Cols, Rows, Ports, Emerg}
use Rattle.vt_layout.specs.declared.fields.ConfigPart.{ConfigPart}

-- a part that one access reaches
pub record IsPart (p : ConfigPart) : Type 0 where
  pub width : IsTrue (is_width p.width)

abbrev one : ℕ → ℕ → List ConfigPart
one off width = record { off = off; width = width } ∷ []

abbrev part_and : ℕ → ℕ → List ConfigPart → List ConfigPart
part_and off width others = record { off = off; width = width } ∷ others

-- where a field stands in the configuration of its device, in the parts in which it is reached: the lower one first, and
-- an address of the network by bytes (VIRTIO 1.2, 5.1.4, 5.2.4, 5.3.4 and 4.2.2.2)
abbrev pub field_parts : Field → List ConfigPart
field_parts Capacity = part_and 0 4 (one 4 4)
field_parts SegMax = one 12 4
field_parts BlkSize = one 20 4
field_parts Writeback = one 32 1
field_parts Mac = part_and 0 1 (part_and 1 1 (part_and 2 1 (part_and 3 1 (part_and 4 1 (one 5 1)))))
field_parts NetStatus = one 6 2
field_parts Cols = one 0 2
field_parts Rows = one 2 2
field_parts Ports = one 4 4
field_parts Emerg = one 8 4
