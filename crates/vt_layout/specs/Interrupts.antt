use Rattle.std.specs.Prelude.{ℕ}

-- the bits of InterruptStatus and InterruptACK (VIRTIO 1.2, 4.2.2): a used buffer, and a changed configuration
abbrev pub USED_BUFFER : ℕ
USED_BUFFER = 1

abbrev pub CONFIGURATION_CHANGE : ℕ
CONFIGURATION_CHANGE = 2
